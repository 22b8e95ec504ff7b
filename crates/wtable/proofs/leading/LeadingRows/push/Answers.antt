use Rattle.std.proofs.Common.{◌++◌, ◌∷◌, [], map, refl, sym, ◌∙◌, arith}
use Rattle.wvalues.specs.Meaning.{meaning}
use Rattle.wtable.proofs.LeadingFacts.{held_too, left_out}
use Rattle.wtable.proofs.leading.LeadingRows.push.Goals as goal

pub returns-then-is_behind-clause-leads : goal.returns-then-is_behind-clause-leads
returns-then-is_behind-clause-leads c = λ all lead.
    left_out c.args.keys.now c.args.most all c.args.self.now (map meaning c.args.row.now) lead
    (sym c.is_behind.ensures ∙ c.if-is_behind.true)

pub returns-then-is_behind-clause-gone : goal.returns-then-is_behind-clause-gone
returns-then-is_behind-clause-gone c = λ gone h. omega (arith, h)

pub returns-in_ok-prune-clause-leads : goal.returns-in_ok-prune-clause-leads
returns-in_ok-prune-clause-leads c = λ all lead.
    c.in_ok-prune.ensures.leads (all ++ map meaning c.args.row.now ∷ [])
    (held_too c.args.keys.now c.args.most all c.args.self.now _ c.args.row lead c.in_ok-push.ensures.items refl)
