use Rattle.std.proofs.Common.{subst, sym}
use Rattle.wcommand.specs.Required.{IsWhole}
use Rattle.wcommand.proofs.Telling.{name_and_rows}
use Rattle.wcommand.proofs.values.choice_of.Goals as goal

pub in_subcommand-requires : goal.in_subcommand-requires
in_subcommand-requires c = subst IsWhole (name_and_rows _ _ _ _ _ (sym c.in-Some.ensures.name) (sym c.in-Some.ensures.rows)) c.requires
