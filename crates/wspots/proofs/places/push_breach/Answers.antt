use Rattle.std.proofs.Common.{string_bytes}
use Rattle.wspots.specs.Selects.{told}
use Rattle.wspots.proofs.Found.{may_point, on_ok}
use Rattle.wspots.proofs.places.push_breach.Goals as goal

pub returns-clause-place : goal.returns-clause-place
returns-clause-place c = on_ok c.push_found.result (may_point c.args.query.now c.args.tokens.now c.in_ok-found.found
    (string_bytes c.args.text.now) (string_bytes c.push_found.new.text)) c.push_found.ensures

pub returns-clause-told : goal.returns-clause-told
returns-clause-told c = on_ok c.push_found.result
    (told c.in-Ok.parsed c.in_ok-found.found c.in-Ok.ensures.spelled c.in_ok-found.ensures.told c.in_ok-found.ensures.among)
    c.push_found.ensures
