use Rattle.std.proofs.Common.{◌≡◌, ◌+◌, ◌-◌, ◌∙◌, ap, take, drop, length, ◌≤◌, arith}
use Rattle.wlines.specs.Sent.{handed}
use Rattle.wlines.proofs.Held.{window_drop}
use Rattle.wlines.proofs.block_reader.BlockReader.advance.Goals as goal

pub returns : goal.returns
returns c =
    let within : c.args.n ≤ length c.args.self.now.held = c.requires in
    let held_is = ap (λ b. b.held) c.self.view_is in
    let taken_is = ap (λ b. b.taken) c.self.view_is in
    let rest = window_drop c.self.inside.bytes.items c.self.inside.start c.self.inside.end c.args.n c.self.invariant.0
    (omega (arith, c.self.invariant)) (rw held_is within) ∙ ap (drop c.args.n) held_is in
    (λ i. handed (rest i) (taken_is i + c.args.n))
