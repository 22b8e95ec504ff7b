use Rattle.std.proofs.Common.{◌≡◌, List, [], ◌∷◌, IfOk, length, map, refl, sym, subst, ◌∙◌}
use Rattle.wvalues.specs.Meaning.{Null}
use Rattle.wframe.specs.Places.{places}
use Rattle.wrows.specs.Laid.{rows_seen}
use Rattle.wgroup.specs.Grouping.{Group}
use Rattle.wgroup.specs.Held.{groups_in}
use Rattle.wgroup.proofs.GroupFacts.{no_length, of_columns, of_no_columns, some_length}
use Rattle.wgroup.proofs.groups.find_groups.Goals as goal

pub returns-then-is_empty-clause-groups : goal.returns-then-is_empty-clause-groups
returns-then-is_empty-clause-groups c =
    let columns = c.args.columns.now in
    let set = c.args.set.now in
    let rows = c.args.rows.now in
    let all : List Group = record { set = []; key = map (λ c. Null) columns; rows = places (length rows) } ∷ [] in
    subst (λ l. IfOk c.empty_set_groups.result (λ groups. groups_in groups ≡ l)) (of_no_columns columns set rows all
    (no_length set (sym c.is_empty.ensures ∙ c.if-is_empty.true)) refl) c.empty_set_groups.ensures.groups

pub returns-clause-groups : goal.returns-clause-groups
returns-clause-groups c =
    let set = c.args.set.now in
    let rows = rows_seen c.args.rows.now in
    of_columns c.args.columns.now set rows _ (some_length set (sym c.if-is_empty.false ∙ c.is_empty.ensures)) c.in_ok-groups.ensures.groups
