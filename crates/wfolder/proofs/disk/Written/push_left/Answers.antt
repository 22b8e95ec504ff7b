use Rattle.std.proofs.Common.{◌∙◌, append-nil, ap, false, sym, true}
use Rattle.wfolder.specs.Memory.{held_by, written_file}
use Rattle.wfolder.proofs.Memory.{state_last}
use Rattle.wfolder.proofs.disk.Written.push_left.Goals.{then-not-self+in_ok-push_shorter, else-not-self}
use Rattle.wfolder.proofs.disk.Written.push_left.Goals as goal

pub returns : goal.returns
returns c = ap held_by c.in_ok-push.ensures.items ∙ elim c.if-not-self.branch [
  | then-not-self+in_ok-push_shorter w ↦ state_last c.if-not-self.left.items c.as_slice.result (held_by c.args.left.now.items)
      (written_file c.args.self.now) false w.if-not-self.true c.as_slice.ensures.value
      (ap (λ v. held_by v.items) w.left-is ∙ w.in_ok-push_shorter.ensures)
  | else-not-self w ↦ state_last c.if-not-self.left.items c.as_slice.result (held_by c.args.left.now.items)
      (written_file c.args.self.now) true w.if-not-self.false c.as_slice.ensures.value
      (ap (λ v. held_by v.items) w.left-is ∙ sym (append-nil (held_by c.args.left.now.items)))
]
