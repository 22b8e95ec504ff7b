use Rattle.std.proofs.Common.{◌≡◌, ◌+◌, ◌/◌, ◌≤◌, ◌<◌, ◌∷◌, [], length, vec_len, get_or, drop, sym, ap, ◌∙◌, arith, subst}
use Rattle.std.specs.Prelude.{All, slice_range}
use Rattle.std.proofs.lemmas.List.{drop_more}
use Rattle.std.proofs.Math.ListN.{drop_of_length-le}
use Rattle.std.proofs.lemmas.List.Elements.{All-same}
use Rattle.wslide.specs.Laws.{total}
use Rattle.wslide.specs.Height.{height}
use Rattle.wslide.specs.Tree.{paired, lowest, Climbs, tree_parts}
use Rattle.wslide.proofs.Heights.{height_enough}
use Rattle.wslide.proofs.Levels.{length-paired, total_range_is}
use Rattle.wslide.proofs.Climbs.{next_is, next_climbs, paired_All, level_more, level_none}
use Rattle.wslide.proofs.tree.FoldTree.fold.Goals as goal
use Rattle.wslide.proofs.tree.FoldTree.fold.Goals.{else-loop-level-test, then-loop-level-test+then-cut}

pub loop-level-init : goal.loop-level-init
loop-level-init g c =
    let f = c.args.fold.now in
    let joined = g.F.Fold.joined f in
    let laws = g.met.F.Fold.laws f in
    let parts = tree_parts c.args.self.now in
    let sum = total (g.F.Fold.neutral f) joined (slice_range parts c.args.span.from c.args.span.to) in
    let sum_is = total_range_is laws parts c.args.span.from c.args.span.to c.requires.built.parts in
    record {
      climbs = c.requires.built.climbs;
      parts = c.requires.built.parts;
      ordered = c.requires.ordered;
      within = c.requires.within;
      left = c.unit-left.ensures.part;
      right = c.unit-right.ensures.part;
      sum =
          ap (λ p. joined p (joined sum c.unit-right.result)) c.unit-left.ensures.value
          ∙ laws.left_neutral (joined sum c.unit-right.result) (laws.closed sum c.unit-right.result sum_is c.unit-right.ensures.part)
          ∙ ap (joined sum) c.unit-right.ensures.value
          ∙ laws.right_neutral sum sum_is;
      not_less = omega arith;
      joins = omega arith;
    }

pub take_left-left_part-requires-clause-room : goal.take_left-left_part-requires-clause-room
take_left-left_part-requires-clause-room g c =
    let n = length (tree_parts c.args.self.now) in
    let low : vec_len c.args.self.now.levels ≤ height n + 1 = c.requires.built.low (height n) (height_enough n) in
    omega arith

pub take_right-right_part-requires-clause-room : goal.take_right-right_part-requires-clause-room
take_right-right_part-requires-clause-room g c =
    let n = length (tree_parts c.args.self.now) in
    let low : vec_len c.args.self.now.levels ≤ height n + 1 = c.requires.built.low (height n) (height_enough n) in
    omega arith

pub join-requires-clause-room : goal.join-requires-clause-room
join-requires-clause-room g c =
    let n = length (tree_parts c.args.self.now) in
    let low : vec_len c.args.self.now.levels ≤ height n + 1 = c.requires.built.low (height n) (height_enough n) in
    omega arith

pub returns-clause-joins : goal.returns-clause-joins
returns-clause-joins g c =
    let n = length (tree_parts c.args.self.now) in
    let low : vec_len c.args.self.now.levels ≤ height n + 1 = c.requires.built.low (height n) (height_enough n) in
    omega arith

pub loop-level-preserved : goal.loop-level-preserved
loop-level-preserved g c =
    let f = c.args.fold.now in
    let is_part = g.F.Fold.is_part f in
    let joined = g.F.Fold.joined f in
    let neutral = g.F.Fold.neutral f in
    let laws = g.met.F.Fold.laws f in
    let was = c.loop-level in
    let inv = c.loop-level.invariant in
    let items = c.args.self.now.levels.items in
    let level = c.level-item.result in
    let rest = drop (was.level-index + 1) items in
    let within : was.level-index < length items = omega (arith, ap length c.deref-level-items.ensures.value) in
    let more : drop was.level-index items ≡ level ∷ rest =
    drop_more items was.level-index level within
    ∙ ap (λ l. l ∷ rest) (sym (c.level-item.is ∙ ap (λ ls. get_or ls was.level-index level) c.deref-level-items.ensures.value)) in
    let climbs = subst (λ ls. Climbs joined (lowest ls) ls []) more inv.climbs in
    let next = next_is joined level rest climbs in
    let at : lowest (drop was.level-index items) ≡ level.items = ap lowest more in
    let parts = subst (λ ls. All is_part (lowest ls)) more inv.parts in
    let first = c.take_left-left_part in
    let last = c.take_right-right_part in
    let first_kept = subst (λ xs. joined first.result.0 (total neutral joined (slice_range xs first.result.1 was.cut.to))
    ≡ joined was.left (total neutral joined (slice_range xs was.cut.from was.cut.to))) c.deref.ensures.value first.ensures.kept in
    let last_kept = subst (λ xs. joined (total neutral joined (slice_range xs first.result.1 last.result.1)) last.result.0
    ≡ joined (total neutral joined (slice_range xs first.result.1 was.cut.to)) was.right)
    c.deref-in-loop-level.ensures.value last.ensures.kept in
    let len : was.cut.to ≤ length level.items = subst (λ xs. was.cut.to ≤ length xs) at inv.within in
    let half : length (lowest rest) ≡ length level.items / 2 = ap length next ∙ length-paired joined level.items in
    record {
      climbs = next_climbs joined level rest climbs;
      parts = All-same is_part (lowest rest) (paired joined level.items) next (paired_All joined is_part laws.closed level.items parts);
      ordered = omega arith;
      within = omega arith;
      left = first.ensures.part;
      right = last.ensures.part;
      sum =
          level_more laws level.items (lowest rest) was.cut.from first.result.1 was.cut.to last.result.1 was.left
          first.result.0 was.right last.result.0
          parts inv.left first.ensures.part inv.right last.ensures.part next
          last.ensures.from last.ensures.to first.ensures.from len (λ h. first.ensures.even (omega arith)) last.ensures.even
          first_kept last_kept
          ∙ ap (λ xs. joined was.left (joined (total neutral joined (slice_range xs was.cut.from was.cut.to)) was.right)) (sym at)
          ∙ inv.sum;
      not_less = omega arith;
      joins = omega arith;
    }

pub returns-clause-value : goal.returns-clause-value
returns-clause-value g c =
    let was = c.loop-level in
    let inv = c.loop-level.invariant in
    let items = c.args.self.now.levels.items in
    let done : was.cut.to ≤ was.cut.from =
    elim c.loop-level-test.branch [
      | else-loop-level-test w ↦
          let past : length items ≤ was.level-index = omega (arith, ap length c.deref-level-items.ensures.value) in
          let none : drop was.level-index items ≡ [] = drop_of_length-le items past in
          let within : was.cut.to ≤ 0 = subst (λ ls. was.cut.to ≤ length (lowest ls)) none inv.within in
          omega arith
      | then-loop-level-test+then-cut w ↦ omega arith
    ]
    in
    c.join.ensures.value
    ∙ sym (level_none (g.met.F.Fold.laws c.args.fold.now) (lowest (drop was.level-index items)) was.cut.from was.cut.to
    was.left was.right inv.right done)
    ∙ inv.sum
