use Rattle.std.proofs.Common.{sym, subst}
use Rattle.wstore.specs.Sessions.{RepliesWith}
use Rattle.wstore.proofs.Telling.{refused}
use Rattle.wstore.proofs.session.refuse.Goals as goal

pub returns : goal.returns
returns c = λ session h command is allowed stands.
    subst (RepliesWith session h command) (sym c.refusal.ensures) (refused c.args.reason session h command is allowed stands)
