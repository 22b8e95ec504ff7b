use Rattle.std.proofs.Common.{ℕ, refl, ap, sym, ◌∙◌, arith, get_or, length, map, take}
use Rattle.std.proofs.lemmas.List.{take_more}
use Rattle.wsort.specs.Dealt.{dealt_by, put_in}
use Rattle.wruns.specs.Dealing.{dealt_places}
use Rattle.wruns.specs.Lists.{ref}
use Rattle.wruns.specs.declared.refs.RowRef.{RowRef}
use Rattle.wsort.proofs.DealFacts.{dealt_more}
use Rattle.wruns.proofs.DealingFacts.{map_put, none_dealt}
use Rattle.wruns.proofs.dealing.deal.Goals as goal

pub loop-row-init : goal.loop-row-init
loop-row-init c = record {
  dealt = none_dealt c.args.lists.now.items c.requires.empty;
  len = refl;
}

pub loop-row-preserved : goal.loop-row-preserved
loop-row-preserved c =
    let rows = c.args.rows.now in
    let i = c.loop-row.row-index in
    let none = ref 0 0 in
    let row = get_or rows i none in
    let n = length c.args.lists.now.items in
    let of : RowRef → ℕ = λ r. r.segment in
    record {
      dealt = c.in_ok-put.ensures.lists ∙ ap (put_in row.segment row.row) c.loop-row.invariant.dealt
          ∙ sym (map_put (λ (r : RowRef). r.row) row.segment row (dealt_by of (take i rows) 0 n))
          ∙ ap (map (map (λ (r : RowRef). r.row)))
          (sym (dealt_more of (take i rows) row 0 n row.segment (omega arith) (c.requires.within i none (omega arith))))
          ∙ ap (λ front. dealt_places front n) (sym (take_more rows i none (omega arith)));
      len = c.in_ok-put.ensures.len ∙ c.loop-row.invariant.len;
    }
