-- An item has its own expression.
use Rattle.std.proofs.Common.{◌≡◌, true, refl, List}
use Rattle.std.specs.Cmp.{unsigned_Decides}
use Rattle.wnodes.specs.Plain.{same_equiv}
use Rattle.wscope.specs.Types.{Titled}
use Rattle.wscope.specs.Sources.{Shown, Placed, Spelled}
use Rattle.wscope.specs.Called.{same_shown}

pub own_shown : (cs : List Titled) (s : Shown) → same_shown cs s s ≡ true
own_shown cs (Placed p) = (unsigned_Decides p p).1 refl
own_shown cs (Spelled t) = same_equiv.refl t
