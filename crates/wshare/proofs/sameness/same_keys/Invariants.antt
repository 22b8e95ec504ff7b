use Rattle.std.proofs.Common.{◌≡◌, map, take, drop}
use Rattle.std.specs.Cmp.Lexicographic.{pointwise}
use Rattle.wplan.specs.Plans.{key_plan}
use Rattle.wshare.specs.Sameness.{is_same_key}
use Rattle.wshare.proofs.sameness.same_keys.Given as goal

abbrev pub invariant-keys : goal.invariant-keys
invariant-keys l = record {
  place : l.place ≡ l.key-index;
  exact : pointwise is_same_key l.others l.keys ≡ pointwise is_same_key (drop l.key-index l.others) (drop l.key-index l.keys);
  alike : map key_plan (take l.key-index l.others) ≡ map key_plan (take l.key-index l.keys);
}
