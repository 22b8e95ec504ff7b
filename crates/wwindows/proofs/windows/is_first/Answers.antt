use Rattle.std.proofs.Common.{ap, ◌∙◌}
use Rattle.wscope.specs.Indexes.{is_place}
use Rattle.wwindows.proofs.windows.is_first.Goals as goal

pub returns : goal.returns
returns c = c.is_found_at.ensures ∙ ap (is_place c.args.place) (c.get.ensures.value ∙ c.args.windows.now.placed c.args.name.now)
