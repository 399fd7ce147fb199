use Rattle.fields.specs.TakingLaws as law
use Rattle.reading.specs.Tabled.{table_taken, table-struct}
use Rattle.reading.proofs.filling.table.Goals as goal

pub returns-in_err-ports : goal.returns-in_err-ports
returns-in_err-ports c =
    law.takes-exit _ _ _ c.from_residual.ensures.1
    (table-struct c.requires (table_taken (rw c.blank-table.ensures at c.in_err-ports.ensures.takes) law.takes_out law.takes_out))

pub returns-in_err-tasks : goal.returns-in_err-tasks
returns-in_err-tasks c =
    law.takes-exit _ _ _ c.from_residual-in_err-tasks.ensures.1
    (table-struct c.requires (table_taken (rw c.blank-table.ensures at c.in_ok-ports.ensures.takes) c.in_err-tasks.ensures law.takes_out))

pub returns-in_err-rest : goal.returns-in_err-rest
returns-in_err-rest c =
    law.takes-exit _ _ _ c.from_residual-in_err-rest.ensures.1
    (table-struct c.requires (table_taken (rw c.blank-table.ensures at c.in_ok-ports.ensures.takes) c.in_ok-tasks.ensures c.in_err-rest.ensures))

pub returns : goal.returns
returns c = table-struct c.requires (table_taken (rw c.blank-table.ensures at c.in_ok-ports.ensures.takes) c.in_ok-tasks.ensures c.in_ok-rest.ensures)
