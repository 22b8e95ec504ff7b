use Rattle.wshell.proofs.Answering.{replied_part, replied_whole}
use Rattle.wshell.proofs.Blanks.{not_blank}
use Rattle.wshell.proofs.replying.reply_to.Goals as goal

pub returns-in-Ok-clause-ok : goal.returns-in-Ok-clause-ok
returns-in-Ok-clause-ok g c = replied_whole _ _ _ _ _ _ _ _ _ (not_blank _ _ c.in-Ok-false.ensures
    c.in-Ok-false.field-0-test) c.in-Ok.ensures.replies c.write_query_reply.result c.write_query_reply.ensures.ok

pub returns-in-Ok-clause-part : goal.returns-in-Ok-clause-part
returns-in-Ok-clause-part g c = replied_part _ _ _ _ _ _ _ c.write_query_reply.new.replied _ (not_blank _ _ c.in-Ok-false.ensures
    c.in-Ok-false.field-0-test) c.in-Ok.ensures.replies c.write_query_reply.result c.write_query_reply.ensures.fault c.write_query_reply.ensures.front
