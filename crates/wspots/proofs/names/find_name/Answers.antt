use Rattle.std.proofs.Common.{refl}
use Rattle.wspots.proofs.Found.{told_in}
use Rattle.wspots.proofs.names.find_name.Goals as goal

pub returns-clause-told : goal.returns-clause-told
returns-clause-told c = told_in c.args.schema.now c.args.tokens.now c.args.query.now c.args.rule _ c.find_written.result
    c.find_written.ensures.told refl refl c.in_ok-clauses.ensures.pairs c.in_ok-clauses.ensures.standings
