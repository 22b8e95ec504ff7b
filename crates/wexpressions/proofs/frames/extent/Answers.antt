use Rattle.std.proofs.Common.{◌≡◌, ◌∷◌, Option, refl}
use Rattle.wlexer.specs.Token.{KeywordToken}
use Rattle.wexpressions.specs.declared.fault.ParseFault.TheVariants.{Syntax}
use Rattle.wexpressions.proofs.Steps.{other_token, not_said, never_either, never_then, after_got, after_never}
use Rattle.wexpressions.proofs.Steps.{as_got, as_refused, either_first, either_second}
use Rattle.wtokens.specs.Notation.{Tokens, As, Never}
use Rattle.wexpressions.specs.Grammar.{bound}
use Rattle.wquery.specs.declared.frame.FrameBound.{FrameBound}
use Rattle.wlexer.specs.declared.keyword.Keyword.TheVariants as keywords
use Rattle.wexpressions.proofs.frames.extent.Goals as goal

between_only : {f : FrameBound → FrameBound × Option FrameBound} {ts us : Tokens} → ts ≡ KeywordToken keywords.Between ∷ us
    → Never (As f bound) ts
between_only e = never_then (never_either (other_token e (λ q. cc)) (never_either (other_token e (λ q. cc)) (never_then (not_said e refl))))

pub returns-in-Some : goal.returns-in-Some
returns-in-Some c = either_first (between_only c.in-Some.ensures) (after_got c.in-Some.ensures c.two_bounds.ensures)

pub returns-in-None : goal.returns-in-None
returns-in-None c = either_second (after_never c.in_default.ensures) (as_refused Syntax c.in-None.ensures)

pub returns-in-Some-bound : goal.returns-in-Some-bound
returns-in-Some-bound c = either_second (after_never c.in_default.ensures) (as_got c.in-Some-bound.ensures)
