use Rattle.wlexer.specs.Lexing.{nothing}
use Rattle.wlexer.proofs.lexer.behind_separators.Goals as goal

pub returns : goal.returns
returns c = c.separators.invariant.so_far _ (nothing c.in_default.ensures.none)
