-- All partitions of a window.
use Rattle.std.proofs.Common.{◌≡◌, ℕ, ◌+◌, ◌-◌, ◌<◌, List, [], ◌∷◌, length, ap, arith}
use Rattle.wframe.specs.declared.frame.Span.{Span}
use Rattle.wframe.specs.Places.{span_at, Tiles}
use Rattle.wslide.proofs.Windows.{reached, reached_from, reached_more}

reached_all : (low : ℕ) (ss : List Span) (high : ℕ) → Tiles low ss high → reached low ss (length ss) ≡ high
reached_all low [] high t = t
reached_all low (s ∷ ss) high t = reached_all s.to ss high t.2

-- the first of all begins at 0, and the last ends with the rows
pub all_rows : (ss : List Span) (high count : ℕ) → Tiles 0 ss high → count ≡ length ss → 0 < count
    → high ≡ (span_at ss (count - 1)).to - (span_at ss 0).from
all_rows ss high count t is some =
    let whole : count - 1 + 1 ≡ length ss = omega arith in
    let begin = reached_from 0 ss high 0 t (omega arith) in
    let end = reached_more 0 ss (count - 1) (omega arith) in
    let same = ap (reached 0 ss) whole in
    let all = reached_all 0 ss high t in
    omega arith
