use Rattle.std.proofs.Common.{sym, ◌∙◌}
use Rattle.wscope.specs.Sources.{all_titled, written_out}
use Rattle.wscope.proofs.Indexed.{star_again}
use Rattle.wscope.proofs.indexing.add_star.Goals as goal

pub returns-then-is_repeated : goal.returns-then-is_repeated
returns-then-is_repeated c = λ items e known. star_again c.args.called.now (all_titled c.args.columns.now) items
    (sym e ∙ c.if-is_repeated.true) known

pub returns : goal.returns
returns c = λ items e known. c.add_columns.ensures (written_out (all_titled c.args.columns.now) items) known
