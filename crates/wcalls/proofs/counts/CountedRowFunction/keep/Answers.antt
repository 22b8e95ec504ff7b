use Rattle.std.proofs.Common.{◌≡◌, ◌<◌, ℕ, get_or, length, map, ap, ◌∙◌, sym, arith}
use Rattle.std.proofs.lemmas.List.{length-map, length-set}
use Rattle.wvalues.specs.Meaning.{Meaning}
use Rattle.wframe.specs.Places.{places}
use Rattle.wrows.proofs.RowFacts.{length-places}
use Rattle.waggregate.proofs.PutFacts.{put_next}
use Rattle.wcalls.proofs.PutFacts.{answer_at}
use Rattle.wcalls.proofs.counts.CountedRowFunction.keep.Goals as goal

pub loop-place-preserved : goal.loop-place-preserved
loop-place-preserved g c =
    let rows = c.args.rows.now in
    let frames = c.args.frames.now in
    let k = c.loop-place.place in
    let count_at : ℕ → ℕ = g.N.Counts.count_at c.args.self.now.counts (length rows) frames in
    let here : k < length rows = omega arith in
    let is : c.next_count-count.result ≡ count_at k = c.next_count-count.ensures.count
    ∙ ap (λ n. g.N.Counts.count_at c.args.self.now.counts n frames k) (sym c.requires.len) in
    record {
      long = ap length c.put_at.ensures ∙ length-set c.loop-place.kept (get_or rows k 0) c.next_count-count.result
          ∙ c.loop-place.invariant.long;
      put = λ meant.
          let answer : ℕ → Meaning = λ place. meant (count_at place) in
          put_next meant rows (map answer (places (length rows))) k c.loop-place.kept c.put_at.new.column
          c.next_count-count.result _ here (omega (
            arith,
            here,
            length-map (places (length rows)) answer,
            length-places 0 (length rows),
          )) c.put_at.ensures
          (ap meant is ∙ answer_at answer (length rows) k here) (c.loop-place.invariant.put meant);
      before = λ j e. let at : k ≡ j = omega (arith, e) in is ∙ ap count_at at;
    }
