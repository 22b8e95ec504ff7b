use Rattle.std.proofs.Common.{◌≤◌, ◌∙◌, ap, length, sym, subst, arith, rules}
use Rattle.std.specs.FinMap.{put}
use Rattle.wvalues.specs.Names.{name_cmp}
use Rattle.wentries.specs.Blocks.{longest}
use Rattle.wentries.specs.Entries.{AllHeldBy, IsRising, known_entries}
use Rattle.wentries.specs.Holding.{known_of}
use Rattle.wentries.specs.Keeping.{kept_in}
use Rattle.wentries.proofs.EntryFacts.{length-known_entries}
use Rattle.wentries.proofs.Sizes.{put_sized}
use Rattle.wentries.proofs.blocks.Block.put.Goals as goal

pub invariant_of-self-2 : goal.invariant_of-self-2
invariant_of-self-2 c =
    let sized = put_sized c.self.inside.entries.items c.put_entry.new.entries.items c.args.name (known_of c.args.held)
    (subst IsRising (sym c.self.view_is) c.requires.rising) c.in_ok-put_entry.ensures.ok in
    let room : length (put name_cmp c.args.name (known_of c.args.held) (known_entries c.self.inside.entries.items)) ≤ longest =
    subst (λ es. length (put name_cmp c.args.name (known_of c.args.held) (known_entries es)) ≤ longest) (sym c.self.view_is)
    (c.requires.room (known_of c.args.held)) in
    record {
      some = omega (arith, c.self.invariant.some, sized.0);
      bounded = omega (arith, room, ap length c.in_ok-put_entry.ensures.ok, length-known_entries c.put_entry.new.entries.items);
      counted = c.live_count-self-inside.ensures ∙ ap (λ es. length (kept_in es)) c.deref.ensures.value;
    }

pub returns-clause-read : goal.returns-clause-read
returns-clause-read c d all held = c.put_entry.ensures.read d (subst (AllHeldBy d) (sym c.self.view_is) all) held

pub returns-clause-more : goal.returns-clause-more
returns-clause-more c =
    let sized = put_sized c.self.inside.entries.items c.put_entry.new.entries.items c.args.name (known_of c.args.held)
    (subst IsRising (sym c.self.view_is) c.requires.rising) c.in_ok-put_entry.ensures.ok in
    omega (arith, sized.0, ap length c.self.view_is)

pub returns-clause-lives : goal.returns-clause-lives
returns-clause-lives c same = search rules
