use Rattle.std.proofs.Common.{Option, ◌||◌, not, ap, ◌∙◌, refl}
use Rattle.wscope.specs.Sources.{all_titled}
use Rattle.wscope.specs.declared.called.Called.{Called}
use Rattle.wscope.specs.Called.{same_shown}
use Rattle.wscope.specs.Outputs.{shown, first_of, first_or, has_two}
use Rattle.wscope.proofs.Indexed.{index_step}
use Rattle.wscope.proofs.indexing.add.Goals as goal

pub returns : goal.returns
returns c = λ is type_of known.
    index_step c.args.called.now c.insert.new.self (all_titled c.args.columns.now) is c.args.name c.with_item-next.result
    (record { name = c.args.name.now; type = type_of; shown = shown c.args.output }) refl
    (c.with_item-next.ensures.first ∙ ap (λ (o : Option Called). first_or (first_of o) (shown c.args.output)) c.get.ensures.value)
    (c.with_item-next.ensures.ambiguous ∙ ap (λ (o : Option Called). has_two o
    || not (same_shown (all_titled c.args.columns.now) (shown c.with_item-next.result.first) (shown c.args.output)))
    c.get.ensures.value)
    c.in_ok-insert.ensures.updates known
