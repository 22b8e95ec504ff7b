use Rattle.std.proofs.Common.{◌≡◌, ◌+◌, ◌∷◌, ◌<◌, ◌^◌, [], ap, arith, length, length-append, rules}
use Rattle.wentries.specs.Keeping.{kept_in}
use Rattle.wentries.proofs.Lives.{kept_few, length_kept}
use Rattle.wentries.proofs.blocks.Block.push.Goals as goal

pub overflow_add-self : goal.overflow_add-self
overflow_add-self c =
    let fits : c.self.inside.live + c.live_count-live.result < 2 ^ 64 =
    omega (
      arith,
      c.self.invariant.counted,
      c.self.invariant.bounded,
      kept_few c.self.inside.entries.items,
      kept_few (c.args.entry ∷ []),
      c.live_count-live.ensures,
    ) in
    search rules

pub invariant_of-self-2 : goal.invariant_of-self-2
invariant_of-self-2 c =
    let es = c.self.inside.entries.items in
    let long = length-append es (c.args.entry ∷ []) in
    let room = ap length c.self.view_is in
    record {
      some = omega (arith, long, ap length c.in_ok-push.ensures.items);
      bounded = omega (arith, long, ap length c.in_ok-push.ensures.items, room, c.requires);
      counted = omega (
        arith,
        c.self.invariant.counted,
        c.live_count-live.ensures,
        length_kept es (c.args.entry ∷ []),
        ap (λ l. length (kept_in l)) c.in_ok-push.ensures.items,
      );
    }

pub returns-clause-lives : goal.returns-clause-lives
returns-clause-lives c same =
    let none : c.live_count-live.result ≡ 0 = search rules in
    omega (
      arith,
      none,
      c.live_count-live.ensures,
      length_kept c.self.inside.entries.items (c.args.entry ∷ []),
      ap (λ l. length (kept_in l)) c.in_ok-push.ensures.items,
      ap (λ l. length (kept_in l)) c.self.view_is,
    )
