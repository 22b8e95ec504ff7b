use Rattle.std.proofs.Common.{◌+◌, get_or, refl, ap, ◌∙◌, arith}
use Rattle.std.proofs.lemmas.List.{length-set}
use Rattle.std.proofs.lemmas.List.Elements.{All-set}
use Rattle.waggregate.proofs.GroupFacts.{no_rows, parts_more}
use Rattle.waggregate.proofs.grouped.group_parts.Goals as goal

pub loop-row-init : goal.loop-row-init
loop-row-init g c = record {
  folds = c.in_ok-parts.ensures.value;
  parts = c.in_ok-parts.ensures.parts;
  len = no_rows (g.F.Fold.neutral c.args.fold.now) c.args.count c.in_ok-parts.parts.items c.in_ok-parts.ensures.value;
  joins = c.requires.fresh;
}

pub loop-row-preserved : goal.loop-row-preserved
loop-row-preserved g c =
    let f = c.args.fold.now in
    let row = c.loop-row.row in
    let groups = c.args.groups.now in
    let group = get_or groups row 0 in
    let parts = c.loop-row.parts.items in
    record {
      folds = parts_more (g.F.Fold.neutral f) (g.F.Fold.joined f) (g.F.Fold.part_at f) groups row c.args.count group parts
          c.index.result.now c.of.result c.join.result c.loop-row.invariant.folds refl
          (c.requires.below row 0 (omega arith)) c.index.ensures c.of.ensures.value c.join.ensures.value;
      parts = All-set (g.F.Fold.is_part f) parts group c.join.result c.join.ensures.part c.loop-row.invariant.parts;
      len = length-set parts group c.join.result ∙ c.loop-row.invariant.len;
      joins = c.join.ensures.joins ∙ ap (λ n. n + 1) c.loop-row.invariant.joins;
    }
