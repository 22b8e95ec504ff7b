use Rattle.wstore_program.specs.Performing.{Store, Table}
use Rattle.wstore_program.specs.Shelling.{Missed}
use Rattle.wstore_program.proofs.Performed.{if_err}
use Rattle.wstore_program.proofs.Shells.{opened, unopened}
use Rattle.wstore_program.proofs.shelling.open_files.Goals as goal

pub returns-clause-opened : goal.returns-clause-opened
returns-clause-opened g c =
    opened c.args.paths _ c.in_ok-table.table.items _ _ _ _ c.opened.result c.as_slice.ensures.value
    c.in_ok-table.ensures.found c.in_ok-store.ensures.found
    (rw c.hashed_of.ensures at c.opened.ensures.opens)

pub returns-clause-unopened : goal.returns-clause-unopened
returns-clause-unopened g c =
    unopened c.args.paths _ _ _ _ _ c.opened.result c.in_ok-table.ensures.found c.in_ok-store.ensures.found c.opened.ensures.kind

pub returns-in_err-table-clause-unopened : goal.returns-in_err-table-clause-unopened
returns-in_err-table-clause-unopened g c = if_err _ (λ fault. Missed (Table c.in_err-table.ensures.begun))

pub returns-in_err-store-clause-unopened : goal.returns-in_err-store-clause-unopened
returns-in_err-store-clause-unopened g c =
    if_err _ (λ fault. Missed (Store _ _ c.in_ok-table.ensures.found c.in_err-store.ensures.begun))
