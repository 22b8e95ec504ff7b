-- Numbers that a bound moves: rows' places in ROWS.
use Rattle.std.specs.Prelude.{ℕ, ◌+◌, ◌-◌, min}
use Rattle.wframe.specs.declared.frame.FrameBound.{FrameBound}
use Rattle.wframe.specs.declared.frame.FrameBound.TheVariants.{UnboundedPreceding, Preceding, CurrentRow, Following, UnboundedFollowing}
use Rattle.wframe.specs.declared.moves.Move.{Move}

-- how far a bound lies below or above a number, among n numbers
abbrev pub move_of : FrameBound → ℕ → Move
move_of UnboundedPreceding n = record { up = 0; down = n }
move_of (Preceding d) n = record { up = 0; down = min d n }
move_of CurrentRow n = record { up = 0; down = 0 }
move_of (Following d) n = record { up = min d n; down = 0 }
move_of UnboundedFollowing n = record { up = n; down = 0 }

-- a number moved, up to n
abbrev pub moved_number : Move → ℕ → ℕ → ℕ
moved_number m n i = min n (i + m.up) - m.down
