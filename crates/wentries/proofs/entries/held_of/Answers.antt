use Rattle.std.proofs.Common.{sym}
use Rattle.wentries.proofs.EntryFacts.{held_at}
use Rattle.wentries.proofs.Finding.{place_find, gap_find}
use Rattle.wentries.proofs.entries.held_of.Goals as goal

pub returns-in-Ok-clause-known : goal.returns-in-Ok-clause-known
returns-in-Ok-clause-known c = sym (place_find c.args.entries.now c.args.name.now c.in-Ok.i c.index-entries-i.result c.in-Ok.ensures.found)

pub returns-in-Err-clause-known : goal.returns-in-Err-clause-known
returns-in-Err-clause-known c = sym (gap_find c.args.entries.now c.args.name.now _ c.requires c.in-Err.ensures.absent)

pub returns-in-Ok-clause-read : goal.returns-in-Ok-clause-read
returns-in-Ok-clause-read c = λ d all. held_at d c.args.entries.now c.in-Ok.i c.index-entries-i.result c.in-Ok.ensures.bound all
