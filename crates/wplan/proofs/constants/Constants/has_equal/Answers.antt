use Rattle.std.proofs.Common.{ap, ◌∙◌, sym}
use Rattle.std.specs.List.{list_any}
use Rattle.wvalues.specs.Meaning.{Meaning, meaning}
use Rattle.wplan.specs.Constants.{are_equal}
use Rattle.wplan.proofs.ConstantFacts.{null_equals_none}
use Rattle.wplan.proofs.constants.Constants.has_equal.Goals as goal

pub returns-in-Null : goal.returns-in-Null
returns-in-Null c = null_equals_none c.args.self.now
    ∙ ap (λ (m : Meaning). list_any (are_equal m) c.args.self.now) (sym (ap meaning c.in-Null.is))
