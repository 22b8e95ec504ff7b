use Rattle.std.proofs.Common.{◌≡◌, drop, map}
use Rattle.wlexer.specs.Keywords.{keyword_in, spelling_of}
use Rattle.wlexer.proofs.keyword.find.Given as goal

abbrev pub invariant-loop-entry : goal.invariant-loop-entry
invariant-loop-entry l = keyword_in (map spelling_of (drop l.entry-index l.table)) l.word ≡ keyword_in (map spelling_of l.table) l.word
