use Rattle.std.proofs.Common.{◌∙◌, sym}
use Rattle.wlexer.proofs.Steps.{keyword_found, name_found, long_word}
use Rattle.wlexer.proofs.reading.word.Goals as goal

pub returns-in-Some-clause-found : goal.returns-in-Some-clause-found
returns-in-Some-clause-found c =
    keyword_found c.requires.0 c.requires.1 c.requires.2 c.requires.3 c.split_stretch.ensures.front
    c.split_stretch.ensures.behind (sym c.keyword_of.ensures ∙ c.in-Some.is)

pub returns-then-is_too_long-clause-none :
    goal.returns-then-is_too_long-clause-none
returns-then-is_too_long-clause-none c =
    long_word c.requires.0 c.requires.1 c.requires.2 c.requires.3 c.split_stretch.ensures.front (sym c.keyword_of.ensures
    ∙ c.in_default.is) c.if-is_too_long.ensures

pub returns-clause-found : goal.returns-clause-found
returns-clause-found c =
    name_found c.requires.0 c.requires.1 c.requires.2 c.requires.3 c.split_stretch.ensures.front
    c.split_stretch.ensures.behind (sym c.keyword_of.ensures ∙ c.in_default.is) c.if-is_too_long.ensures c.in_ok-name.ensures
