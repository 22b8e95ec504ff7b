use Rattle.std.proofs.Common.{◌∙◌, ◌++◌, ◌∷◌, [], ap, sym}
use Rattle.wset.proofs.Tails.{no_floor_stays}
use Rattle.wset.proofs.merge.push_settled.Goals as goal

pub returns : goal.returns
returns c = c.in_ok-push-2.ensures.items ∙ ap (λ l. l ++ c.args.entry ∷ [])
    (sym (no_floor_stays c.args.all.now.items c.args.entry (c.is_floor.ensures.other c.if-is_floor.false)))
