use Rattle.std.proofs.Common.{arith}
use Rattle.window_bench.proofs.WordFacts.{word_there, word_missing}
use Rattle.window_bench.proofs.words.word_at.Goals as goal

pub returns-then-place-words : goal.returns-then-place-words
returns-then-place-words c = word_there c.args.words.now c.args.place (omega arith)

pub returns-else-place-words : goal.returns-else-place-words
returns-else-place-words c = word_missing c.args.words.now c.args.place (omega arith)
