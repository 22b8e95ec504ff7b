use Rattle.std.proofs.Common.{◌+◌, map, drop, refl, ap, ◌∙◌}
use Rattle.wvalues.specs.Meaning.{meaning}
use Rattle.waggregate.specs.Put.{put_all}
use Rattle.waggregate.proofs.PutFacts.{put_beyond, put_next}
use Rattle.waggregate.proofs.folding.put_at.Goals as goal

pub returns-then-place-rows-clause-put : goal.returns-then-place-rows-clause-put
returns-then-place-rows-clause-put c = λ values within is.
    put_next meaning c.args.rows.now values c.args.place c.args.column.now _ c.put.new.cell
    (put_all (map meaning c.args.column.now) (drop c.args.place c.args.rows.now) (drop c.args.place values))
    c.if-place-rows.true within refl (ap meaning c.put.ensures ∙ is) refl

pub returns-else-place-rows-clause-put : goal.returns-else-place-rows-clause-put
returns-else-place-rows-clause-put c = λ values within is. put_beyond (map meaning c.args.column.now)
    (drop (c.args.place + 1) values) (drop c.args.place values) c.args.rows.now c.args.place c.if-place-rows.false
