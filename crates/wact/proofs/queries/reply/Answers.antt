use Rattle.std.proofs.Common.{rules, ◌≢◌, ◌≡◌, ◌⊎◌, Ok, Err, refl, subst, sym}
use Rattle.wask.specs.Answer.{IsAnswer}
use Rattle.wplanner.specs.declared.fault.AskFault.TheVariants.{NoMemory}
use Rattle.wreplies.specs.Texts.{bytes_of}
use Rattle.wact.specs.Queries.{IsReply}
use Rattle.wact.proofs.Outcomes.{but_memory}
use Rattle.wact.proofs.queries.reply.Goals as goal
use Rattle.wact.proofs.queries.reply.Goals.{in-Ok, in-Err+in_ok-refused_query-in-Err}

pub returns-clause-replies : goal.returns-clause-replies
returns-clause-replies c =
    let node = c.args.node.now in
    elim c.match-ask.branch [
      | in-Ok w ↦ subst (λ t. IsReply node.schema node.view c.args.query.now (bytes_of t.0) t.1) (sym w.text-is) (record {
        answer = Ok w.in-Ok.answer.items;
        answers = search rules;
        text_is = refl;
        refused_is = refl;
      })
      | in-Err+in_ok-refused_query-in-Err w ↦
          let other : w.in-Err.fault ≢ NoMemory = search rules in
          let told : (w.in-Err.fault ≡ NoMemory) ⊎ IsAnswer node.schema node.view c.args.query.now (Err w.in-Err.fault) = search rules in
          subst (λ t. IsReply node.schema node.view c.args.query.now (bytes_of t.0) t.1) (sym w.text-is) (record {
            answer = Err w.in-Err.fault;
            answers = but_memory other told;
            text_is = w.in_ok-refused_query-in-Err.ensures.text;
            refused_is = refl;
          })
    ]
