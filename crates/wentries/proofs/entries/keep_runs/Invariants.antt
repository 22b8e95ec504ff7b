use Rattle.std.proofs.Common.{◌≡◌, drop, length, map, take}
use Rattle.std.specs.Prelude.{All}
use Rattle.wentries.specs.Keeping.{BeginWithRuns, HeldHasRun, orders_held, plain_entry, rows_held, rows_in}
use Rattle.wentries.specs.declared.entries.Entry.{Entry}
use Rattle.wentries.proofs.AddedFacts.{AreAddedTo}
use Rattle.wentries.proofs.DealtFacts.{rows_from}
use Rattle.wentries.proofs.entries.keep_runs.Given as goal

-- what is held stays, those so far have the run, which is added to no others, and the runs of the others are left
abbrev pub invariant-loop-i : goal.invariant-loop-i
invariant-loop-i l = record {
  plain : map plain_entry l.entries.items ≡ map plain_entry l.initial.entries.items;
  has : All (λ e. HeldHasRun l.keys e.held) (take l.i l.entries.items);
  adds : AreAddedTo (λ (e : Entry). orders_held e.held) l.keys l.i l.initial.entries.items l.entries.items;
  runs : BeginWithRuns l.keys (rows_from (λ (e : Entry). rows_held e.held) l.i l.entries.items) l.left;
  left : drop (length (rows_from (λ (e : Entry). rows_held e.held) l.i l.entries.items)) l.left
      ≡ drop (length (rows_in l.initial.entries.items)) l.initial.left;
}
