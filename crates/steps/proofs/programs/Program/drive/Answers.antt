use Rattle.std.proofs.Common.{refl}
use Rattle.std.proofs.Math.Seq.{set-get_or}
use borrow.Author.Tests.{ne_eqb}
use Rattle.steps.specs.RowLaws.{lot-inputs, driver-within, driver-past}
use Rattle.steps.proofs.programs.Program.drive.Goals as goal

pub returns-then-driver-ge288 : goal.returns-then-driver-ge288
returns-then-driver-ge288 c = rw (driver-past _ _ c.if-driver-ge288.true, set-get_or) refl

pub returns-in-4 : goal.returns-in-4
returns-in-4 c = rw (driver-within _ _ c.if-driver-ge288.false, c.copy_in.ensures, ← c.at32.ensures, c.in-4.is, ← c.at32-target.ensures, ← c.at32-count.ensures, lot-inputs, ← c.task_cell-to.ensures) refl

pub returns-in-5 : goal.returns-in-5
returns-in-5 c = rw (driver-within _ _ c.if-driver-ge288.false, ← c.at32.ensures, c.in-5.is, ← c.at32-target.ensures) c.terminate.ensures

pub returns-in_default : goal.returns-in_default
returns-in_default c =
    let others = c.in_default.in_default-own.rest in
    rw (driver-within _ _ c.if-driver-ge288.false, c.copy32.ensures, ← c.at32.ensures, ne_eqb _ 4 others.0.1, ne_eqb _ 5 others.1, ← c.at32-target.ensures, ← c.at32-source.ensures) refl
