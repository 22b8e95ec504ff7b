use Rattle.std.proofs.Common.{◌≡◌, ◌+◌, ◌/◌, ◌≤◌, ◌^◌, ◌++◌, ◌∷◌, [], length, vec_len, sym, ap, ◌∙◌, arith, subst}
use Rattle.std.proofs.lemmas.List.Elements.{All-same}
use Rattle.wslide.specs.Tree.{paired, lowest}
use Rattle.wslide.proofs.Levels.{no_pairs}
use Rattle.wslide.proofs.Climbs.{climb_more, lowest_is, built_climbs, paired_All, halved_more, low_enough}
use Rattle.wslide.proofs.tree.FoldTree.build.Goals as goal

pub levels-smaller : goal.levels-smaller
levels-smaller g c =
    let len : vec_len c.in_ok-next.next ≡ length c.deref.result.now / 2 = c.in_ok-next.ensures.len in
    omega arith

pub levels-preserved : goal.levels-preserved
levels-preserved g c =
    let f = c.args.fold.now in
    let is_part = g.F.Fold.is_part f in
    let joined = g.F.Fold.joined f in
    let was = c.levels in
    let inv = c.levels.invariant in
    let next = c.in_ok-next.next in
    let pairs : next.items ≡ paired joined was.level.items = c.in_ok-next.ensures.pairs ∙ ap (paired joined) c.deref.ensures.value in
    let len : vec_len next ≡ vec_len was.level / 2 = c.in_ok-next.ensures.len ∙ ap (λ n. n / 2) c.deref.ensures.len in
    record {
      climbs = rw c.in_ok-push.ensures.items (climb_more joined c.args.parts.items was.levels.items was.level next.items inv.climbs pairs);
      parts = All-same is_part next.items (paired joined was.level.items) pairs
          (paired_All joined is_part (g.met.F.Fold.laws f).closed was.level.items inv.parts);
      halved = rw c.in_ok-push.ensures.len (halved_more (vec_len was.levels) (vec_len was.level) (length c.args.parts.items)
          (vec_len next) inv.halved len);
      some = λ z. absurd (omega arith);
      not_less = omega arith;
      joins = omega arith;
    }

pub returns-clause-parts : goal.returns-clause-parts
returns-clause-parts g c =
    let joined = g.F.Fold.joined c.args.fold.now in
    let base = c.args.parts.items in
    let was = c.levels in
    let few : length was.level.items ≤ 1 = omega (arith, was.level.ok.0) in
    let climbs = climb_more joined base was.levels.items was.level [] was.invariant.climbs (sym (no_pairs joined was.level.items few)) in
    ap lowest c.in_ok-push-2.ensures.items ∙ lowest_is joined base [] was.levels.items was.level climbs

pub returns-clause-built : goal.returns-clause-built
returns-clause-built g c =
    let f = c.args.fold.now in
    let is_part = g.F.Fold.is_part f in
    let joined = g.F.Fold.joined f in
    let base = c.args.parts.items in
    let was = c.levels in
    let few : length was.level.items ≤ 1 = omega (arith, was.level.ok.0) in
    let levels = was.levels.items ++ was.level ∷ [] in
    let climbs = climb_more joined base was.levels.items was.level [] was.invariant.climbs (sym (no_pairs joined was.level.items few)) in
    let low = lowest_is joined base [] was.levels.items was.level climbs in
    let bottom : lowest c.push-2.new.self.items ≡ base = ap lowest c.in_ok-push-2.ensures.items ∙ low in
    record {
      parts = All-same is_part (lowest c.push-2.new.self.items) base bottom c.requires.parts;
      climbs = built_climbs joined base c.push-2.new.self.items levels c.in_ok-push-2.ensures.items climbs low;
      low = λ height h.
          let n : length base ≤ 2 ^ height = subst (λ xs. length xs ≤ 2 ^ height) bottom h in
          let i : vec_len was.levels ≤ height = low_enough (vec_len was.levels) (vec_len was.level) (length base) height
          was.invariant.halved was.invariant.some n in
          let l : vec_len c.push-2.new.self ≡ vec_len was.levels + 1 = c.in_ok-push-2.ensures.len in
          omega arith;
    }
