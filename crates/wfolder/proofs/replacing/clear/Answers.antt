use Rattle.std.proofs.Common.{ap, arith, map, string_bytes, sym}
use Rattle.std.proofs.lemmas.List.{take_all}
use Rattle.wfolder.proofs.Steps.{all_cleared, listed, next_cleared, next_name, then_leaves, unlisted}
use Rattle.wfolder.proofs.replacing.clear.Goals as goal

pub returns-in-Err-clause-idle : goal.returns-in-Err-clause-idle
returns-in-Err-clause-idle g c = unlisted c.in-Err.ensures.kind c.in-Err.ensures.failed

pub names-init : goal.names-init
names-init g c = record {
  cleared = listed c.args.target.now c.folder.ensures.folder (ap (map string_bytes) (sym c.deref-name-items.ensures.value))
      c.in-Ok.ensures.listed;
  sound = c.in-Ok.ensures.sound;
}

pub returns-in-Err-clear_name-clause-idle : goal.returns-in-Err-clear_name-clause-idle
returns-in-Err-clear_name-clause-idle g c =
    then_leaves (λ base a. (c.names.invariant.cleared base a).after) c.in-Err-clear_name.ensures.idle

pub names-preserved : goal.names-preserved
names-preserved g c = record {
  cleared = next_cleared c.args.target.now _ _ _ c.as_str.result.now (next_name string_bytes c.deref-name-items.result.now
      c.names.name-index c.name-item.result c.as_str.result.now c.names-test.true c.name-item.is c.as_str.ensures.value)
      c.names.invariant.cleared c.in_default.ensures.cleared;
  sound = c.in_default.ensures.sound;
}

pub returns-clause-cleared : goal.returns-clause-cleared
returns-clause-cleared g c = λ base a. all_cleared (ap (map string_bytes) (take_all c.names.name-index
    c.deref-name-items.result.now (omega (arith, c.names-test.false)))) (c.names.invariant.cleared base a)
