use Rattle.std.proofs.Common.{◌∙◌, ap, arith, length, sym}
use Rattle.std.proofs.lemmas.Bool.{or_parts}
use Rattle.wentries.specs.Knowledge.{Floor}
use Rattle.wentries.specs.Blocks.{flat}
use Rattle.wentries.specs.Entries.{above_floor}
use Rattle.wentries.proofs.EntryFacts.{length-known_entries}
use Rattle.wentries.proofs.Sizes.{few_dropped, rising_put}
use Rattle.wentries.proofs.blocks.raise_in.Goals as goal

pub drop_all_under-fall-requires : goal.drop_all_under-fall-requires
drop_all_under-fall-requires c = rising_put (flat c.args.blocks.now.items) (flat c.put_in.new.blocks.items) c.args.floor Floor
    c.requires c.in_ok-changes.ensures.ok

pub returns-clause-ok : goal.returns-clause-ok
returns-clause-ok c = c.drop_all_under-fall.ensures.known ∙ ap (above_floor c.args.floor) c.in_ok-changes.ensures.ok

pub returns-clause-read : goal.returns-clause-read
returns-clause-read c d all = c.drop_all_under-fall.ensures.read d (c.put_in.ensures.read d all tt)

pub returns-in_err-changes-clause-read : goal.returns-in_err-changes-clause-read
returns-in_err-changes-clause-read c d all = c.put_in.ensures.read d all tt

pub returns-clause-few : goal.returns-clause-few
returns-clause-few c =
    few_dropped (flat c.args.blocks.now.items) (flat c.put_in.new.blocks.items) (flat c.drop_all_under-fall.new.blocks.items)
    c.args.floor c.in_ok-changes.ensures.ok c.drop_all_under-fall.ensures.known

pub returns-clause-entries : goal.returns-clause-entries
returns-clause-entries c few =
    let mid = flat c.put_in.new.blocks.items in
    let put_is = ap length c.in_ok-changes.ensures.ok in
    let counted = length-known_entries mid in
    let left = c.drop_all_under-fall.ensures.entries (omega (arith, few, put_is, counted)) in
    omega (arith, left, put_is, counted, c.beside.ensures.entries)

pub returns-clause-lives : goal.returns-clause-lives
returns-clause-lives c same =
    let parts = or_parts _ _ (sym c.beside.ensures.lives ∙ same) in
    c.drop_all_under-fall.ensures.lives parts.0 ∙ c.in_ok-changes.ensures.lives parts.1
