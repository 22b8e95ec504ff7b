use Rattle.std.proofs.Common.{◌≡◌, ◌+◌, ◌∷◌, ◌++◌, take, drop, sym, ◌∙◌}
use Rattle.wlines.proofs.Cuts.{cut_once, no_cut, cut_at, take_rest}
use Rattle.wlines.proofs.words.split_word.Goals as goal

pub returns-in_default-clause-only : goal.returns-in_default-clause-only
returns-in_default-clause-only c = λ a b l e. no_cut 32 c.args.line.now a b c.in_default.ensures.first e

pub returns-clause-only : goal.returns-clause-only
returns-clause-only c = λ a b l e.
    let xs = c.args.line.now in
    let i = c.in-Some.place in
    let found = c.in-Some.ensures.found in
    let cut : xs ≡ take i xs ++ (32 ∷ drop (i + 1) xs) = cut_at 32 xs i found.0 found.1 in
    let parts = cut_once 32 (take i xs) a (drop (i + 1) xs) b c.in-Some.ensures.first l (sym cut ∙ e) in
    (parts.0, take_rest xs (i + 1) ∙ parts.1)
