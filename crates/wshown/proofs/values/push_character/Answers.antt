use Rattle.std.proofs.Common.{rules, ◌≡◌, ◌||◌, true}
use Rattle.std.specs.Char.{is_control}
use Rattle.wshown.specs.Shown.{is_hidden}
use Rattle.wshown.proofs.values.push_character.Goals as goal
use Rattle.wshown.proofs.values.push_character.Goals.{then-is_control-via-then-is_control}
use Rattle.wshown.proofs.values.push_character.Goals.{then-is_control-via-else-is_control+then-is_hidden}

pub returns-then-is_control : goal.returns-then-is_control
returns-then-is_control c =
    let told : is_control c.args.c || is_hidden c.args.c ≡ true = elim c.then-is_control.branch [
      | then-is_control-via-then-is_control w ↦ search (rules, w.if-is_control)
      | then-is_control-via-else-is_control+then-is_hidden w ↦ search (rules, w.if-is_hidden, w.is_hidden.ensures)
    ] in
    let by = rw (c.in_radix.ensures, c.from-number.ensures) at c.in_ok-write.ensures.bytes in
    rw told by
