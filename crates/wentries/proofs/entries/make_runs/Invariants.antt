use Rattle.std.proofs.Common.{◌≡◌, map, take}
use Rattle.std.specs.Prelude.{All}
use Rattle.wentries.specs.Keeping.{HeldHasRun, orders_held, plain_entry}
use Rattle.wentries.specs.declared.entries.Entry.{Entry}
use Rattle.wentries.proofs.AddedFacts.{AreAddedTo}
use Rattle.wentries.proofs.entries.make_runs.Given as goal

-- what is held stays, and those so far have the run, which is added to no others
abbrev pub invariant-loop-i : goal.invariant-loop-i
invariant-loop-i l = record {
  plain : map plain_entry l.entries.items ≡ map plain_entry l.initial.entries.items;
  has : All (λ e. HeldHasRun l.keys e.held) (take l.i l.entries.items);
  adds : AreAddedTo (λ (e : Entry). orders_held e.held) l.keys l.i l.initial.entries.items l.entries.items;
}
