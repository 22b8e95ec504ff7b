use Rattle.std.proofs.Common.{ℕ, List, length, map, sym, ap, ◌∙◌}
use Rattle.std.proofs.lemmas.List.{length-map}
use Rattle.wvalues.specs.Meaning.{Null}
use Rattle.wframe.specs.KeyList as lent
use Rattle.wframe.specs.Peers.{key_at}
use Rattle.wrows.specs.Laid.{row_seen, rows_seen}
use Rattle.wcalls.proofs.ListFacts.{placed_lists}
use Rattle.wcalls.proofs.plain_lists.PlainLists.key_rows.Goals as goal

pub returns-clause-lists : goal.returns-clause-lists
returns-clause-lists c =
    let columns = c.args.self.now in
    let rows = rows_seen columns.rows.now in
    c.placed.ensures.lists
    ∙ ap (λ (places : List ℕ). map (λ number. lent.values_at Null places (key_at rows number)) c.args.numbers.now) c.deref.ensures.value
    ∙ placed_lists columns.places.items rows (length columns.rows.now) c.args.numbers.now (sym (length-map columns.rows.now row_seen))
    c.requires.below
