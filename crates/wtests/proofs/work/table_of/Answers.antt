use Rattle.std.proofs.Common.{ap, ◌∙◌}
use Rattle.wquery.specs.QueryTree.{view_query}
use Rattle.wplanner.specs.Sound.{is_sound_query}
use Rattle.wtests.proofs.work.table_of.Goals as goal

pub execute-requires : goal.execute-requires
execute-requires c = record {
  sound = ap is_sound_query c.in_ok-resolved.ensures.1 ∙ c.accepted_is_sound.ensures
      c.schema.result.now (view_query c.in_ok-query.query) c.in_ok-resolved.ensures.0;
}
