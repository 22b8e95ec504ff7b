use Rattle.std.proofs.Common.{refl}
use Rattle.wrecords.specs.declared.form.Form.TheVariants as forms
use Rattle.wexchange.specs.declared.version.Version.TheVariants.{Two}
use Rattle.wexchange.proofs.Faults.{adds_floor, low_name, lacks_memory}
use Rattle.wexchange.proofs.reading.add_floor.Goals as goal

pub returns-then-not-ends_before_origin-clause-fault : goal.returns-then-not-ends_before_origin-clause-fault
returns-then-not-ends_before_origin-clause-fault c = low_name Two c.args.set.now.schema c.args.set.now.view
    (forms.Floor c.args.name) c.args.name c.args.after.now c.requires tt refl
    (λ a. cc (c.ends_before_origin.ensures.before.1 a.1, c.if-not-ends_before_origin.true))

pub returns-in-Ok-clause-found : goal.returns-in-Ok-clause-found
returns-in-Ok-clause-found c = adds_floor c.args.set.now.schema c.args.set.now.view c.retire_to.new.self.view c.args.name
    c.args.after.now c.requires c.ends_before_origin.ensures.settled (c.ends_before_origin.ensures.before.0
    c.if-not-ends_before_origin.false) c.in-Ok.ensures.ok.view

pub returns-in-Err-clause-fault : goal.returns-in-Err-clause-fault
returns-in-Err-clause-fault c = lacks_memory Two c.args.set.now.schema c.args.set.now.view _
