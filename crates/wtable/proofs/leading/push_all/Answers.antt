use Rattle.std.proofs.Common.{◌+◌, ◌<◌, ◌++◌, ◌∷◌, [], length, take, take_all, append-nil, append_assoc, subst, sym, ap, ◌∙◌, arith}
use Rattle.std.proofs.lemmas.List.{take_more}
use Rattle.wrows.specs.Laid.{row_seen}
use Rattle.wtable.specs.Leading.{Lead}
use Rattle.wtable.proofs.leading.push_all.Goals as goal

pub loop-row-init : goal.loop-row-init
loop-row-init c = record {
  leads = λ all lead. subst (λ rows. Lead c.args.keys.now c.args.most rows c.args.leading.now) (sym (append-nil all)) lead;
  few = λ few. few;
  gone = λ gone h. omega (arith, h);
}

pub loop-row-preserved : goal.loop-row-preserved
loop-row-preserved c =
    let stored = c.args.segment.now.rows in
    let i = c.loop-row.row in
    let within : i < length stored = omega (arith, c.loop-row-test.true, c.rows-row-end.ensures.count) in
    record {
      leads = λ all lead. subst (λ rows. Lead c.args.keys.now c.args.most rows c.push.new.self)
          (append_assoc all (take i stored) (row_seen c.row.result ∷ [])
          ∙ ap (λ r. all ++ (take i stored ++ r ∷ [])) c.row.ensures.values ∙ ap (λ l. all ++ l) (sym (take_more stored i [] within)))
          (c.in_ok-push.ensures.leads (all ++ take i stored) (c.loop-row.invariant.leads all lead));
      few = λ few. c.in_ok-push.ensures.few (c.loop-row.invariant.few few);
      gone = λ gone h. omega (arith, c.in_ok-push.ensures.gone (gone + i) (c.loop-row.invariant.gone gone h));
    }

pub returns-clause-leads : goal.returns-clause-leads
returns-clause-leads c = λ all lead whole.
    subst (λ rows. Lead c.args.keys.now c.args.most (all ++ rows) c.loop-row.leading)
    (take_all c.loop-row.row c.args.segment.now.rows (omega (arith, c.loop-row-test.false, c.rows-row-end.ensures.count)))
    (c.loop-row.invariant.leads all lead)

pub returns-clause-few : goal.returns-clause-few
returns-clause-few c = c.loop-row.invariant.few
