use Rattle.std.proofs.Common.{◌≤◌, ◌++◌, ◌∷◌, [], length, ap, ◌∙◌, arith}
use Rattle.circular_buffer.specs.Buffer.{keep_last}
use Rattle.wruns.specs.KeptRuns.{run_values}
use Rattle.wruns.proofs.RunFacts.{ring_more}
use Rattle.wruns.proofs.kept_runs.shared_ring.Goals as goal

pub loop-i-preserved : goal.loop-i-preserved
loop-i-preserved c =
    let ys = c.args.ring.now.items in
    let few : length ys ≤ 4 = omega (arith, c.len-i-end.ensures.len, c.len-i-end.ensures.within.0, c.requires) in
    let new = c.push_back.ensures.items in
    let kept = ap (λ b. run_values b.items) new
    ∙ ap (λ n. run_values (keep_last n (c.loop-i.kept.items ++ c.in_ok-clone.field-0 ∷ []))) c.loop-i.invariant.room in
    record {
      runs = kept ∙ ring_more (λ r. r.value) c.loop-i.kept.items ys c.loop-i.i c.get.result c.in-Some.run'
          c.in_ok-clone.field-0 c.in-Some.is c.get.ensures few c.in_ok-clone.ensures.cases c.loop-i.invariant.runs;
      room = ap (λ b. b.capacity) new ∙ c.loop-i.invariant.room;
    }
