use Rattle.std.proofs.Common.{◌∙◌, ap, arith, sym, subst}
use Rattle.wentries.specs.Blocks.{flat, half}
use Rattle.wentries.specs.Entries.{AllHeldBy, known_entries, AreBelow}
use Rattle.std.specs.FinMap.{put}
use Rattle.wvalues.specs.Names.{name_cmp}
use Rattle.wentries.specs.Holding.{known_of}
use Rattle.wentries.proofs.Cutting.{put_end}
use Rattle.wentries.proofs.Sizes.{few_after, few_before}
use Rattle.wentries.proofs.blocks.put_in.Goals as goal

pub returns-then-changes-clause-read : goal.returns-then-changes-clause-read
returns-then-changes-clause-read c d all held = c.put_home.ensures.read d (subst (AllHeldBy d) (sym c.roomy_home.ensures.same) all) held

pub returns-else-changes-clause-read : goal.returns-else-changes-clause-read
returns-else-changes-clause-read c d all held = c.put_home.ensures.read d (subst (AllHeldBy d) (sym c.roomy_home.ensures.same) all) held

pub returns-then-end_before-clause-ok : goal.returns-then-end_before-clause-ok
returns-then-end_before-clause-ok c =
    let below = subst (λ bs. AreBelow c.args.name (known_entries (flat bs))) c.deref.ensures.value
    (c.end_before.ensures.0 c.if-end_before.true) in
    ap known_entries c.in_ok-grown.ensures.ok ∙ put_end (flat c.args.blocks.now.items) (record {
      name = c.args.name;
      held =
          c.args.held;
    }) below

pub returns-then-end_before-clause-filled : goal.returns-then-end_before-clause-filled
returns-then-end_before-clause-filled c = c.append.ensures.filled half (omega arith)

pub returns-then-changes-clause-few : goal.returns-then-changes-clause-few
returns-then-changes-clause-few c = few_after (flat c.args.blocks.now.items) (flat c.put_home.new.blocks.items) c.args.name
    (known_of c.args.held) (c.in_ok-changes.ensures.ok
    ∙ ap (λ es. put name_cmp c.args.name (known_of c.args.held) (known_entries es)) c.roomy_home.ensures.same)

pub returns-else-changes-clause-few : goal.returns-else-changes-clause-few
returns-else-changes-clause-few c = few_after (flat c.args.blocks.now.items) (flat c.put_home.new.blocks.items) c.args.name
    (known_of c.args.held) (c.in_ok-changes.ensures.ok
    ∙ ap (λ es. put name_cmp c.args.name (known_of c.args.held) (known_entries es)) c.roomy_home.ensures.same)

pub returns-then-end_before-clause-few : goal.returns-then-end_before-clause-few
returns-then-end_before-clause-few c =
    let below = subst (λ bs. AreBelow c.args.name (known_entries (flat bs))) c.deref.ensures.value
    (c.end_before.ensures.0 c.if-end_before.true) in
    few_after (flat c.args.blocks.now.items) (flat c.append.new.blocks.items) c.args.name (known_of c.args.held)
    (ap known_entries c.in_ok-grown.ensures.ok ∙ put_end (flat c.args.blocks.now.items) (record {
      name = c.args.name;
      held = c.args.held;
    }) below)

pub returns-in_err-grown-clause-few : goal.returns-in_err-grown-clause-few
returns-in_err-grown-clause-few c = few_before (flat c.args.blocks.now.items) (flat c.append.new.blocks.items) c.args.name
    (known_of c.args.held) c.requires (ap flat c.in_err-grown.ensures.err)

pub returns-in_err-k-clause-few : goal.returns-in_err-k-clause-few
returns-in_err-k-clause-few c = few_before (flat c.args.blocks.now.items) (flat c.roomy_home.new.blocks.items) c.args.name
    (known_of c.args.held) c.requires c.roomy_home.ensures.same

pub returns-in_err-changes-clause-few : goal.returns-in_err-changes-clause-few
returns-in_err-changes-clause-few c =
    few_before (flat c.args.blocks.now.items) (flat c.put_home.new.blocks.items) c.args.name (known_of c.args.held)
    c.requires (c.in_err-changes.ensures.err ∙ c.roomy_home.ensures.same)
