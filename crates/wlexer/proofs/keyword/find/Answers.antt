use Rattle.std.proofs.Common.{◌∙◌, sym, refl, add-one}
use Rattle.wlexer.proofs.KeywordSearch.{spelled_at, not_spelled_at}
use Rattle.wlexer.proofs.keyword.find.Goals as goal

pub returns-then-eq_ignore_ascii_case : goal.returns-then-eq_ignore_ascii_case
returns-then-eq_ignore_ascii_case c =
    sym (spelled_at c.args.table.now c.loop-entry.entry-index c.args.word.now _ c.loop-entry-test.true
    (c.if-eq_ignore_ascii_case.ensures.test.0 refl)) ∙ c.loop-entry.invariant

pub loop-entry-preserved : goal.loop-entry-preserved
loop-entry-preserved c =
    rw add-one (sym (not_spelled_at c.args.table.now c.loop-entry.entry-index c.args.word.now _ c.loop-entry-test.true
    c.if-eq_ignore_ascii_case.ensures.test.1) ∙ c.loop-entry.invariant)
