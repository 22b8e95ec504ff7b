use Rattle.std.proofs.Common.{arith, ◌≡◌, ◌+◌, ◌-◌, ◌++◌, ap, ◌∙◌, sym, subst, take, drop, length, length-take, length-drop}
use Rattle.std.specs.Io.KnownBytes.{Appends}
use Rattle.std.proofs.KnownBytes.{Appends-trans}
use Rattle.std.proofs.lemmas.List.{take_all}
use Rattle.std.proofs.Math.Seq.{take-add}
use Rattle.wstore_program.proofs.printing.write_whole.Goals as goal

pub loop-written-preserved : goal.loop-written-preserved
loop-written-preserved g c =
    let xs = c.args.text.now in
    let w = c.loop-written.written in
    let n = c.in-Ok.count in
    let piece = take (length xs - w) (drop w xs) in
    let a = g.W.Write.contents c.args.output.now.inner in
    let d = g.W.Write.contents c.write.new.self.inner in
    let whole : piece ≡ drop w xs = take_all (length xs - w) (drop w xs) (omega (arith, length-drop w xs)) in
    let joined : take w xs ++ take n piece ≡ take (w + n) xs = ap (λ l. take w xs ++ take n l) whole ∙ sym (take-add w n xs) in
    let kept = c.in-Ok.ensures.failures.1 (omega arith) in
    record {
      within = omega (arith, c.in-Ok.ensures.bound, length-take (length xs - w) (drop w xs), length-drop w xs);
      sound = record { reads = omega (arith, c.write.ensures.reads); failures = omega (arith, kept) };
      appended = subst (Appends a d) joined (Appends-trans a (g.W.Write.contents c.loop-written.output.inner) d (take w xs)
          (take n piece) c.loop-written.invariant.appended c.in-Ok.ensures.bytes);
    }
