use Rattle.std.proofs.Common.{rules, ◌≢◌}
use Rattle.wsegment.specs.declared.schema_fault.SchemaFault.TheVariants.{NoMemory}
use Rattle.wstore.proofs.Telling.{declares, refuses_table}
use Rattle.wstore.proofs.session.Session.declare.Goals as goal

pub returns-in_ok-cluster-in-Ok-clause-replies : goal.returns-in_ok-cluster-in-Ok-clause-replies
returns-in_ok-cluster-in-Ok-clause-replies c = λ h e stands. declares c.args.self.now c.in_ok-cluster-in-Ok.cluster h
    c.args.bytes.now c.in-Ok.schema e stands c.in-Ok.ensures.reads c.in_ok-cluster-in-Ok.ensures

pub returns-in-Err-clause-replies : goal.returns-in-Err-clause-replies
returns-in-Err-clause-replies c = λ h e stands.
    let other : c.in-Err.fault ≢ NoMemory = search rules in
    refuses_table c.args.self.now h c.args.bytes.now c.refused_table.result.now c.in-Err.fault e stands
    c.in-Err.ensures.reads other c.refused_table.ensures
