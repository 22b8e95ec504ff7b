use Rattle.std.proofs.Common.{ℕ, ◌+◌, ◌*◌, ◌^◌, ◌<◌, ◌≤◌, arith}
use Rattle.std.proofs.Math.Nat.{mul-le-mul_left}
use Rattle.wframe.specs.declared.frame.FrameExclusion.{FrameExclusion}
use Rattle.wframe.specs.declared.frame.FrameExclusion.TheVariants.{CurrentRow, Group, Ties, NoOthers}
use Rattle.wslide.specs.Height.{height}
use Rattle.wslide.specs.Frames.{most, most_by_tree}
use Rattle.wslide.proofs.Heights.{height_least}
use Rattle.wslide.proofs.laws.most_is_small.Goals as goal

small_tree : (rows : ℕ) → rows < 2 ^ 31 → most_by_tree rows + rows < 2 ^ 40
small_tree rows h =
    let low : height rows ≤ 31 = height_least rows 31 (omega arith) in
    let factor : 6 * height rows + 16 ≤ 202 = omega arith in
    let product : rows * (6 * height rows + 16) ≤ rows * 202 = mul-le-mul_left rows factor in
    omega arith

small : (exclusion : FrameExclusion) (rows : ℕ) → rows < 2 ^ 31 → most exclusion rows + rows < 2 ^ 40
small NoOthers rows h = omega arith
small CurrentRow rows h = small_tree rows h
small Group rows h = small_tree rows h
small Ties rows h = small_tree rows h

pub returns : goal.returns
returns c = small
