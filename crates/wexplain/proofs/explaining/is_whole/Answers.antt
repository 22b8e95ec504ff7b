use Rattle.std.proofs.Common.{Option, option_map, subst, sym}
use Rattle.wexplain.specs.declared.explaining.Input.{Input}
use Rattle.wexplain.specs.Stores.{IsWhole}
use Rattle.wexplain.proofs.explaining.is_whole.Goals as goal

pub returns-in_default-read-clause-whole : goal.returns-in_default-read-clause-whole
returns-in_default-read-clause-whole c = λ t.
    subst (λ (store : Option Input). IsWhole c.args.schema.now (option_map (λ (input : Input). input.bytes.now) store)) (sym c.in-Some.is)
    (c.in_default-read.field-0.view, c.in_default-read.ensures.view)
