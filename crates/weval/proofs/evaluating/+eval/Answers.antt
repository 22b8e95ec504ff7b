use Rattle.std.proofs.Common.{◌≡◌, Err, inl, inr, map, ap, sym, ◌∙◌}
use Rattle.std.proofs.lemmas.Result.{err_from_is_err_and}
use Rattle.wvalues.specs.Meaning.{meaning}
use Rattle.wplan.specs.Formula.{operand_of}
use Rattle.weval.specs.declared.cell.EvalFault.TheVariants.{NoMemory}
use Rattle.weval.specs.Values.{Judged}
use Rattle.weval.proofs.AmongFacts.{constants_give}
use Rattle.weval.proofs.ReadFacts.{chain_reads, entry_reads, link_reads, list_reads}
use Rattle.weval.proofs.Running.{along_ok, along_err, first_err, first_ok, chain_gives, in_gives, truth_fault}
use Rattle.weval.proofs.evaluating.+eval.Goals as goal

pub eval-returns-in-Chain-clause-gives : goal.eval-returns-in-Chain-clause-gives
eval-returns-in-Chain-clause-gives t c =
    chain_gives (map meaning c.args.row.now) c.args.e.now c.deref-in-Chain.result.now c.in-Chain.first c.in-Chain.links
    c.as_slice.result.now c.eval_chain.result c.in-Chain.is c.deref-in-Chain.ensures c.as_slice.ensures.value
    (c.eval_chain.ensures.gives _ c.eval-in-Chain.ensures.gives)

pub eval-returns-in-Chain-clause-memory : goal.eval-returns-in-Chain-clause-memory
eval-returns-in-Chain-clause-memory t c =
    chain_reads (map meaning c.args.row.now) c.args.e.now c.deref-in-Chain.result.now c.in-Chain.first c.in-Chain.links
    c.as_slice.result.now c.eval_chain.result c.eval-in-Chain.result c.in-Chain.is c.deref-in-Chain.ensures
    c.as_slice.ensures.value c.eval-in-Chain.ensures.memory c.eval_chain.ensures.memory

pub eval-returns-in_ok-eval-in-In-clause-gives : goal.eval-returns-in_ok-eval-in-In-clause-gives
eval-returns-in_ok-eval-in-In-clause-gives t c =
    in_gives (map meaning c.args.row.now) c.args.e.now c.deref-in-In.result.now c.in-In.negated c.in-In.operand c.in-In.list
    c.as_slice-in-In.result.now c.in_ok-eval-in-In.field-0 c.eval_in.result c.in-In.is c.deref-in-In.ensures
    c.as_slice-in-In.ensures.value c.in_ok-eval-in-In.ensures.gives c.eval_in.ensures.gives

pub eval-returns-in_ok-eval-in-In-clause-memory : goal.eval-returns-in_ok-eval-in-In-clause-memory
eval-returns-in_ok-eval-in-In-clause-memory t c = λ h.
    list_reads (map meaning c.args.row.now) c.args.e.now c.deref-in-In.result.now c.in-In.negated c.in-In.operand
    c.in-In.list c.as_slice-in-In.result.now c.in-In.is c.deref-in-In.ensures c.as_slice-in-In.ensures.value
    (c.eval_in.ensures.memory h)

pub eval_chain-returns-in-Err-clause-gives : goal.eval_chain-returns-in-Err-clause-gives
eval_chain-returns-in-Err-clause-gives t c = λ o h. first_err (map meaning c.args.row.now) c.in-Err.f
    (map operand_of c.args.links.now) o c.args.first c.in-Err.is h

pub eval_chain-returns-in-Err-clause-memory : goal.eval_chain-returns-in-Err-clause-memory
eval_chain-returns-in-Err-clause-memory t c = λ h. inl (c.in-Err.is ∙ h)

pub eval_chain-returns-in-Ok-clause-gives : goal.eval_chain-returns-in-Ok-clause-gives
eval_chain-returns-in-Ok-clause-gives t c = λ o h. first_ok (map meaning c.args.row.now) c.in-Ok.x
    (map operand_of c.args.links.now) o c.args.first c.eval_links.result c.in-Ok.is h c.eval_links.ensures.gives

pub eval_chain-returns-in-Ok-clause-memory : goal.eval_chain-returns-in-Ok-clause-memory
eval_chain-returns-in-Ok-clause-memory t c = λ h. inr (c.eval_links.ensures.memory h)

pub eval_links-returns-in-Err-clause-gives : goal.eval_links-returns-in-Err-clause-gives
eval_links-returns-in-Err-clause-gives t c = along_err (map meaning c.args.row.now) c.links.so_far c.in-Err.f _
    c.args.links.now c.links.link-index c.link-item.result c.links-test.true c.link-item.is c.links.invariant c.in-Err.ensures.gives

pub eval_links-returns-in-Err-clause-memory : goal.eval_links-returns-in-Err-clause-memory
eval_links-returns-in-Err-clause-memory t c = λ h. link_reads (map meaning c.args.row.now) c.args.links.now
    c.links.link-index c.link-item.result c.links-test.true c.link-item.is (c.in-Err.ensures.memory h)

pub eval_links-links-preserved : goal.eval_links-links-preserved
eval_links-links-preserved t c = along_ok (map meaning c.args.row.now) c.links.so_far c.in-Ok.next _ c.args.links.now
    c.links.link-index c.link-item.result c.links-test.true c.link-item.is c.links.invariant c.in-Ok.ensures.gives

pub eval_in-returns-in-Err-clause-gives : goal.eval_in-returns-in-Err-clause-gives
eval_in-returns-in-Err-clause-gives t c = truth_fault c.in-Err.f _ _ c.in-Err.ensures.gives

pub eval_in-returns-in-Err-clause-memory : goal.eval_in-returns-in-Err-clause-memory
eval_in-returns-in-Err-clause-memory t c = λ h.
    let lacks : c.in-Err.f ≡ NoMemory = cc in
    c.in-Err.ensures.memory (ap Err lacks)

pub eval_among-returns-in_err-y-clause-memory : goal.eval_among-returns-in_err-y-clause-memory
eval_among-returns-in_err-y-clause-memory t c = λ h.
    let p = err_from_is_err_and c.from_residual.result c.from_residual.ensures.1 in
    let same : Err p.0 ≡ Err NoMemory = sym p.1 ∙ h in
    let lacks : c.in_err-y.field-0.0 ≡ NoMemory = cc in
    entry_reads (map meaning c.args.row.now) c.args.list.now c.list.e-index c.e-item.result c.list-test.true c.e-item.is
    (c.in_err-y.ensures.memory (ap Err lacks))

pub eval-returns-in_ok-eval-in-InConstants-clause-gives : goal.eval-returns-in_ok-eval-in-InConstants-clause-gives
eval-returns-in_ok-eval-in-InConstants-clause-gives t c = ap Judged c.turned_truth-in-InConstants.ensures
    ∙ constants_give (map meaning c.args.row.now) c.in-InConstants.list c.args.e.now c.deref-in-InConstants.result.now
    c.in-InConstants.negated c.in-InConstants.operand c.in_ok-eval-in-InConstants.field-0 c.cell_among.result
    c.in-InConstants.is c.deref-in-InConstants.ensures c.in_ok-eval-in-InConstants.ensures.gives (c.cell_among.ensures _)
