-- How a short text is stored.
use Rattle.std.specs.Prelude.{◌≡◌, ℕ, ◌≤◌, List, take, length}
use Rattle.std.specs.Str.{IsUtf8}
use Rattle.wvalues.specs.Padded.{padded}
use Rattle.wvalues.specs.declared.short.ShortText.TheInside.{Inside}

abbrev pub bytes_of : Inside → List ℕ
bytes_of a = take a.len a.bytes

abbrev pub stored : List ℕ → Inside
stored text = record { len = length text; bytes = padded 14 text }

pub record IsStored (a : Inside) : Type 0 where
  pub back : stored (bytes_of a) ≡ a
  pub short : a.len ≤ 14
  pub utf8 : IsUtf8 (bytes_of a)
