use Rattle.std.proofs.Common.{length, subst, sym, ap, ◌∙◌, arith}
use Rattle.std.specs.Prelude.{All}
use Rattle.wruns.specs.Cuts.{pieces_of, AreEndsOf}
use Rattle.wruns.specs.Runs.{run_of, IsGroup}
use Rattle.wruns.proofs.CutFacts.{joined_pieces}
use Rattle.wruns.proofs.DealingFacts.{run_length}
use Rattle.wruns.proofs.run.grouped_run.Goals as goal

pub group_ends-requires : goal.group_ends-requires
group_ends-requires c =
    omega (
      arith,
      ap length c.deref.ensures.value,
      ap length c.requires,
      run_length c.args.table.now.keys.now
          c.args.table.now.segment.now.rows,
      c.args.table.now.few,
    )

pub returns-clause-run : goal.returns-clause-run
returns-clause-run c =
    let rows = c.args.table.now.segment.now.rows in
    let ends : AreEndsOf c.in_ok-ends.ends c.args.rows.items = subst (AreEndsOf c.in_ok-ends.ends) c.deref.ensures.value
    c.in_ok-ends.ensures.ends in
    let groups = subst (λ l. All (IsGroup c.args.table.now.keys.now rows) (pieces_of c.in_ok-ends.ends l))
    c.deref.ensures.value c.in_ok-ends.ensures.groups in
    record {
      list = joined_pieces c.in_ok-ends.ends c.args.rows.items ends ∙ c.requires ∙ ap (λ k. run_of k rows) (sym c.in_ok-keys.ensures.items);
      groups = subst (λ k. All (IsGroup k rows) (pieces_of c.in_ok-ends.ends c.args.rows.items)) (sym c.in_ok-keys.ensures.items) groups;
    }
