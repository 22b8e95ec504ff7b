use Rattle.std.proofs.Common.{rules, not}
use Rattle.std.proofs.lemmas.Fn.{filter_same}
use Rattle.wentries.specs.Knowledge.{is_above}
use Rattle.wentries.proofs.entries.drop_under.Goals as goal

pub returns : goal.returns
returns c = filter_same _ (λ e. not (is_above e.name c.args.floor.now)) _ (λ x b f called. search rules) _ _ c.retain.ensures.filtered
