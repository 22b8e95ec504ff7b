use Rattle.std.proofs.Common.{◌≡◌, ◌<◌, ℕ, Option, get_or, length, map, sym, ap, ◌∙◌, arith}
use Rattle.std.proofs.lemmas.List.{length-map, length-set}
use Rattle.wvalues.specs.Meaning.{Meaning}
use Rattle.wframe.specs.Places.{places}
use Rattle.wrows.proofs.RowFacts.{length-places}
use Rattle.wcalls.specs.Kept.{number_read}
use Rattle.waggregate.proofs.PutFacts.{put_next}
use Rattle.wcalls.proofs.PutFacts.{answer_at}
use Rattle.wcalls.proofs.other_rows.OtherRowRowFunction.keep.Goals as goal

pub loop-place-preserved : goal.loop-place-preserved
loop-place-preserved g c =
    let rows = c.args.rows.now in
    let call = c.args.self.now in
    let k = c.loop-place.place in
    let place_read : ℕ → ℕ → Option ℕ = λ n. g.P.RowPlaces.place_read call.places n c.args.frames.now in
    let number : ℕ → ℕ = λ place. number_read rows (place_read (length rows) place) in
    let here : k < length rows = omega arith in
    let is : c.number_read.result ≡ number k = c.number_read.ensures ∙ ap (number_read rows) (c.place_of-read.ensures
    ∙ ap (λ n. place_read n k) (sym c.requires.len)) in
    record {
      long = ap length c.put_at.ensures ∙ length-set c.loop-place.kept (get_or rows k 0) c.number_read.result ∙ c.loop-place.invariant.long;
      put = λ meant.
          let answer : ℕ → Meaning = λ place. meant (number place) in
          put_next meant rows (map answer (places (length rows))) k c.loop-place.kept c.put_at.new.column
          c.number_read.result _ here (omega (
            arith,
            here,
            length-map (places (length rows)) answer,
            length-places 0 (length rows),
          )) c.put_at.ensures
          (ap meant is ∙ answer_at answer (length rows) k here) (c.loop-place.invariant.put meant);
    }
