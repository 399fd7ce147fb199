use Rattle.native.specs.Faces.{counts_in}
use Rattle.file.specs.Answers.{read_number}
use Rattle.reading.specs.declared.Reading.{Reading}
use Rattle.std.proofs.Common.{ap, ◌∙◌, rules}
use Rattle.native.proofs.read_number.Reads as read-number-reads
use Rattle.native.proofs.native_read.Goals as goal

pub returns : goal.returns
returns c =
    let read = c.read-reading.ensures.answer in record { number = c.read_number.ensures ∙ ap (λ (r : Reading). read_number r.answer) read; counts = ap (λ (r : Reading). counts_in r.table) read; code = ap (λ (r : Reading). r.table.code) read; drivers = ap (λ (r : Reading). r.table.driver_rows) read; guards = ap (λ (r : Reading). r.table.guard_rows) read; modes = ap (λ (r : Reading). r.table.mode_rows) read; tasks = ap (λ (r : Reading). r.table.task_rows) read; types = ap (λ (r : Reading). r.table.types) read; starts = ap (λ (r : Reading). r.table.starts) read }
