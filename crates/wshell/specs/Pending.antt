-- What is kept of a text that is not whole yet.
use Rattle.std.specs.Prelude.{◌≡◌, ℕ, List, take}
use Rattle.wshell.specs.declared.mode.Mode.{Mode}
use Rattle.wshell.specs.Splitting.{mode_of}

-- the bytes that are kept, and how the text stands at its end
pub record Kept : Type 0 where
  pub text : List ℕ
  pub mode : Mode

-- one byte more than a query may have
abbrev pub room : ℕ
room = 65537

-- it stands for this text
pub record IsPending (kept : Kept) (text : List ℕ) : Type 0 where
  pub text_is : kept.text ≡ take room text
  pub mode_is : kept.mode ≡ mode_of text
