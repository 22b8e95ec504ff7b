use Rattle.std.proofs.Common.{◌∙◌, ap}
use Rattle.wlexer.specs.Spelling.{number_of}
use Rattle.wlexer.proofs.Steps.{number_found, number_spoiled, number_too_large}
use Rattle.wlexer.proofs.reading.number.Goals as goal

pub returns-then-not-ends_number-clause-none : goal.returns-then-not-ends_number-clause-none
returns-then-not-ends_number-clause-none c =
    number_spoiled c.requires.0 c.requires.1 c.requires.2 c.requires.3 c.split_stretch.ensures.behind c.if-not-ends_number.ensures

pub returns-in-None-clause-none : goal.returns-in-None-clause-none
returns-in-None-clause-none c =
    number_too_large c.requires.0 c.requires.1 c.requires.2 c.requires.3 (c.as_bytes.ensures.value
    ∙ c.split_stretch.ensures.front) c.in-None.ensures

pub returns-in-Some-clause-found : goal.returns-in-Some-clause-found
returns-in-Some-clause-found c =
    number_found c.requires.0 c.requires.1 c.requires.2 c.requires.3 c.split_stretch.ensures.front
    c.split_stretch.ensures.behind (c.in-Some.ensures.0 ∙ ap number_of c.as_bytes.ensures.value) c.in-Some.ensures.1
    c.if-not-ends_number.ensures
