use Rattle.std.proofs.Common.{◌≡◌, ◌++◌, ◌<◌, All, Some, drop, length, map}
use Rattle.wsegment.specs.Header.{field_of, is_complete}
use Rattle.wsegment.proofs.header.column_fields.Given as goal

abbrev pub invariant-loop-column : goal.invariant-loop-column
invariant-loop-column l = record {
  so_far : map Some l.fields.items ++ map (field_of (map (λ c. c.now) l.header)) (drop l.column-index l.columns)
      ≡ map (field_of (map (λ c. c.now) l.header)) l.columns;
  complete : is_complete l.columns (map (λ c. c.now) l.header) ≡ is_complete (drop l.column-index l.columns) (map (λ c. c.now) l.header);
  within : All (λ field. field < length l.header) l.fields.items;
}
