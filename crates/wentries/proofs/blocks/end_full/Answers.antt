use Rattle.std.proofs.Common.{◌≡◌, ◌<◌, ◌-◌, ◌∙◌, suc, length, get_or, ap, subst, sym, arith, rules}
use Rattle.wentries.specs.Blocks.{longest}
use Rattle.wentries.proofs.Cutting.{block_at, filled_first, filled_more}
use Rattle.wentries.proofs.blocks.end_full.Goals as goal

pub returns-then-is_empty-clause-full : goal.returns-then-is_empty-clause-full
returns-then-is_empty-clause-full c = λ full n b le filled.
    let none : length c.args.blocks.now ≡ 0 = search rules in
    filled_first n c.args.blocks.now b none

pub returns-clause-full : goal.returns-clause-full
returns-clause-full c = λ full n b le filled.
    let bs = c.args.blocks.now in
    let k = length bs - 1 in
    let some : 0 < length bs = search rules in
    let end : suc k ≡ length bs = omega (arith, some) in
    let size : length (get_or bs k c.index-blocks-last.result) ≡ longest = ap length (sym c.index-blocks-last.is)
    ∙ c.is_full.ensures.full full in
    filled_more n bs k c.index-blocks-last.result b end (omega (arith, size, le)) filled

pub returns-clause-room : goal.returns-clause-room
returns-clause-room c = λ room d.
    let bs = c.args.blocks.now in
    let k = length bs - 1 in
    let some : 0 < length bs = search rules in
    let within : k < length bs = omega (arith, some) in
    subst (λ b. length b < longest) (c.index-blocks-last.is ∙ block_at bs k c.index-blocks-last.result d within)
    (c.is_full.ensures.room room)
