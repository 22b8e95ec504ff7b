use Rattle.std.proofs.Common.{ap, ⊎_elim}
use Rattle.wvalues.specs.Meaning.{meaning}
use Rattle.wvalues.specs.declared.value.Value.{Value}
use Rattle.wplan.specs.Constants.{is_no_number, is_no_text, stand_apart}
use Rattle.wplan.proofs.ConstantFacts.{apart, null_apart_from_all}
use Rattle.wplan.proofs.constants.Constants.has_apart.Goals as goal

pub returns-in-Null : goal.returns-in-Null
returns-in-Null c = null_apart_from_all (meaning c.args.value.now) c.values.result.now c.args.self.now c.is_empty.result
    (ap meaning c.in-Null.is) c.values.ensures c.is_empty.ensures

pub returns-in-Int : goal.returns-in-Int
returns-in-Int c = apart (meaning c.args.value.now) is_no_number c.self.inside.written.items c.args.self.now
    c.self.inside.has_no_number (λ n. ap (λ (v : Value). stand_apart (meaning v) n) c.in-Int.is) c.self.view_is
    c.self.invariant.has_no_number

pub returns-in-Short : goal.returns-in-Short
returns-in-Short c = apart (meaning c.args.value.now) is_no_text c.self.inside.written.items c.args.self.now
    c.self.inside.has_no_text
    (λ n. ⊎_elim (λ p. ap (λ (v : Value). stand_apart (meaning v) n) p.1) (λ p. ap (λ (v : Value). stand_apart (meaning v) n) p.1)
    c.in-Short.is) c.self.view_is c.self.invariant.has_no_text
