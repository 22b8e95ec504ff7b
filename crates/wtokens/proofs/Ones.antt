-- One token that is there.
use Rattle.std.proofs.Common.{◌≡◌, ◌∷◌, Option, Some, sym, subst}
use Rattle.wlexer.specs.Token.{TokenMeaning}
use Rattle.wtokens.specs.Notation.{Tokens, One, one}

pub one_here : {X : Type 0} {says : TokenMeaning → Option X} {x : X} {token : TokenMeaning} {ts rest : Tokens}
    → ts ≡ token ∷ rest → says token ≡ Some x → One says x ts rest
one_here {says = says} {x = x} {rest = rest} e f = subst (λ (z : Tokens). One says x z rest) (sym e) (one f)
