use Rattle.std.proofs.Common.{◌∙◌, sym}
use Rattle.wlexer.proofs.Steps.{pair_found, no_symbol}
use Rattle.wlexer.specs.Spelling.{single_symbol}
use Rattle.wlexer.proofs.reading.symbol.Goals as goal

pub returns-in-Some-clause-found : goal.returns-in-Some-clause-found
returns-in-Some-clause-found c =
    pair_found c.in-Some.ensures.0 c.requires c.in-Some.ensures.1 c.in-Some.ensures.2

pub returns-in-None-clause-none : goal.returns-in-None-clause-none
returns-in-None-clause-none c =
    no_symbol c.requires c.in_default.ensures (sym c.symbol_of_one.ensures ∙ c.in-None.is)

pub returns-in-Some-symbol_of_one-clause-found : goal.returns-in-Some-symbol_of_one-clause-found
returns-in-Some-symbol_of_one-clause-found c =
    single_symbol c.requires (sym c.symbol_of_one.ensures ∙ c.in-Some-symbol_of_one.is) c.in_default.ensures
