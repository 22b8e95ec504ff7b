use Rattle.std.proofs.Common.{◌≡◌, map, take}
use Rattle.std.specs.Prelude.{All}
use Rattle.wentries.specs.Keeping.{BeginWithRuns, HeldHasRun, orders_in, plain_block, rows_in}
use Rattle.wentries.proofs.AddedFacts.{AreAddedTo}
use Rattle.wentries.proofs.DealtFacts.{rows_from}
use Rattle.wentries.proofs.blocks.keep_in.Given as goal

-- what is held stays, the blocks so far have the run, which is added to no others, and the runs of the others are left
abbrev pub invariant-loop-i : goal.invariant-loop-i
invariant-loop-i l = record {
  plain : map plain_block l.blocks.items ≡ map plain_block l.initial.blocks.items;
  has : All (All (λ e. HeldHasRun l.keys e.held)) (take l.i l.blocks.items);
  adds : AreAddedTo orders_in l.keys l.i l.initial.blocks.items l.blocks.items;
  runs : BeginWithRuns l.keys (rows_from rows_in l.i l.blocks.items) l.left;
}
