use Rattle.std.proofs.Common.{◌≡◌, ◌++◌, take}
use Rattle.std.specs.List.{flat_map}
use Rattle.wreplies.specs.Spelling.{listed_text}
use Rattle.wreplies.proofs.lists.push_all.Given as goal

abbrev pub invariant-loop-listed : goal.invariant-loop-listed
invariant-loop-listed l = l.text.items ≡ l.initial.text.items ++ flat_map listed_text (take l.listed-index l.all)
