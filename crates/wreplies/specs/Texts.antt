-- The bytes of a reply, wherever they lie in memory.
use Rattle.std.specs.Prelude.{ℕ, List}
use Rattle.wreplies.specs.declared.text.Text.{Text}
use Rattle.wreplies.specs.declared.text.Text.TheVariants as texts

abbrev pub bytes_of : Text → List ℕ
bytes_of (texts.Fixed bytes) = bytes.now
bytes_of (texts.Made bytes) = bytes.items
