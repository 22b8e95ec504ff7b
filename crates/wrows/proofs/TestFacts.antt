-- Conditions that tests decide.
use Rattle.std.proofs.Common.{◌≡◌, Bool, List, Ok, ap, sym, ◌∙◌}
use Rattle.wvalues.specs.Meaning.{Meaning}
use Rattle.wplan.specs.Formula.{Formula}
use Rattle.weval.specs.NumberTests.{Decide, passes_all}
use Rattle.weval.specs.declared.comparing.NumberTest.{NumberTest}
use Rattle.wrows.specs.declared.fault.AnswerFault.TheVariants.{OutOfRange}
use Rattle.wrows.specs.Columns.{holds_on, is_out_of_range}
use Rattle.wrows.specs.Outcomes.{unless}

pub decided : (tests : List NumberTest) (t : Formula) (row : List Meaning) (b : Bool) → Decide tests t → b ≡ passes_all tests row
    → unless (is_out_of_range t row) OutOfRange (holds_on t row) ≡ Ok b
decided tests t row b d is = ap (λ (large : Bool). unless large OutOfRange (holds_on t row)) (d.in_range row)
    ∙ ap Ok (d.truth row ∙ sym is)
