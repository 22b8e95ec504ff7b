use Rattle.std.proofs.Common.{rules, Ok, Err}
use Rattle.wact.specs.Opening.{TableRead, TableRefused}
use Rattle.wact.proofs.Outcomes.{if_ok, lacks_opening, on_err}
use Rattle.wact.proofs.opening.open_store.Goals as goal

pub returns-in-Ok-clause-opens : goal.returns-in-Ok-clause-opens
returns-in-Ok-clause-opens c =
    if_ok c.open_by.result (λ opened opens. TableRead c.in-Ok.schema c.in-Ok.ensures.reads opens) c.open_by.ensures.opens

pub returns-in-Ok-clause-lacks : goal.returns-in-Ok-clause-lacks
returns-in-Ok-clause-lacks c = on_err c.open_by.result
    (lacks_opening c.args.table.now c.args.store.now (Ok c.in-Ok.schema) c.in-Ok.ensures.reads c.in-Ok.ensures.long)
    c.open_by.ensures.lacks

pub returns-in-Err-NoMemory-clause-lacks : goal.returns-in-Err-NoMemory-clause-lacks
returns-in-Err-NoMemory-clause-lacks c =
    lacks_opening c.args.table.now c.args.store.now (Err c.in-Err-NoMemory.field-0) c.in-Err-NoMemory.ensures.reads
    c.in-Err-NoMemory.ensures.long c.in-Err-NoMemory.field-0-is

pub returns-in-Err-clause-opens : goal.returns-in-Err-clause-opens
returns-in-Err-clause-opens c = TableRefused c.in-Err.fault c.in-Err.ensures.reads (search rules, c.refused_table.ensures)
