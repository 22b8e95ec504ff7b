use Rattle.std.proofs.Common.{◌≡◌, ◌+◌, ◌-◌, ◌∙◌, take, subst, sym, ap, arith}
use Rattle.std.proofs.Math.Seq.{take-add}
use Rattle.sha2.specs.Hashers.{Holds256}
use Rattle.wexchange.proofs.hashed.hash_on.Goals as goal

pub returns : goal.returns
returns c = λ h.
    let bytes = c.args.bytes.now in
    let from = c.args.from in
    let to = c.args.to in
    let long : from + (to - from) ≡ to = omega arith in
    subst (Holds256 c.update.new.self) (sym (take-add from (to - from) bytes) ∙ ap (λ n. take n bytes) long)
    (c.update.ensures (take from bytes) h)
