use Rattle.std.proofs.Common.{length, sym, ◌∙◌}
use Rattle.wspots.specs.Scene.{tokens_of}
use Rattle.wspots.specs.Names.{breach_at_token}
use Rattle.wspots.proofs.Firsts.{first_behind, first_found}
use Rattle.wspots.proofs.names.first_token.Goals as goal

pub returns-then-is_some-clause-breach : goal.returns-then-is_some-clause-breach
returns-then-is_some-clause-breach c =
    first_found (λ number. breach_at_token c.args.scene.now number c.args.rule) c.loop-number.number (length (tokens_of c.args.scene.now))
    c.breach_at_token-breach.result c.loop-number-test.true c.breach_at_token-breach.ensures.breach (sym c.is_some.ensures
    ∙ c.if-is_some.true)
    ∙ sym c.loop-number.invariant

pub loop-number-preserved : goal.loop-number-preserved
loop-number-preserved c =
    c.loop-number.invariant
    ∙ first_behind (λ number. breach_at_token c.args.scene.now number c.args.rule) c.loop-number.number (length
    (tokens_of c.args.scene.now))
    c.breach_at_token-breach.result c.loop-number-test.true c.breach_at_token-breach.ensures.breach (sym c.is_some.ensures
    ∙ c.if-is_some.false)
