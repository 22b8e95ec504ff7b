-- What bytes are read to.
use Rattle.std.specs.Prelude.{ℕ, List}
use Rattle.wsegment.specs.Declaration.{Declaration}
use Rattle.wset.specs.Views.{View}
use Rattle.wexchange.specs.Judging.{IsFileOf}

-- the bytes are a text of some view
abbrev pub IsFile : Declaration → List ℕ → Type 0
IsFile d bytes = (v : View) × IsFileOf d v bytes
