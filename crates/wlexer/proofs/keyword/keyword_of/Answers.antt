use Rattle.wlexer.specs.Keywords.{keyword_table}
use Rattle.wlexer.proofs.keyword.keyword_of.Goals as goal

pub returns : goal.returns
unfolding keyword_table
returns c = c.find.ensures
