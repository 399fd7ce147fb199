-- One instruction and one reaction over arrays: the answer, and the ports.
use Rattle.std.specs.Prelude.{ℕ, ◌≡◌, refl, List, Result, Ok, Err}
use Rattle.std.proofs.Common.{sym, ap, ◌∙◌}
use Rattle.settled.specs.Settled.{Settled}
use Rattle.steps.specs.declared.Fault.{Fault}
use Rattle.steps.specs.Steps.{Driven}
use Rattle.react.specs.declared.Ran.{Ran}
use Rattle.react.specs.Runs.{Shown, shows}
use Rattle.steps.proofs.programs.Program.row_at.Kinds as row_at
use Rattle.steps.proofs.programs.Program.row_at.Reads as row-at-reads
use Rattle.steps.proofs.place.Kinds as place
use Rattle.steps.proofs.place.Reads as place-reads
use Rattle.steps.proofs.task_cell.Kinds as task-cell
use Rattle.steps.proofs.task_cell.Reads as task-cell-reads
use Rattle.steps.proofs.programs.Program.begin_of.Kinds as begin-of
use Rattle.steps.proofs.programs.Program.begin_of.Reads as begin-of-reads
use Rattle.steps.proofs.programs.Program.drive.Kinds as drive
use Rattle.steps.proofs.programs.Program.drive.Reads as drive-reads
use Rattle.steps.proofs.programs.Program.holds.Kinds as holds
use Rattle.steps.proofs.programs.Program.holds.Reads as holds-reads
use Rattle.steps.proofs.Fault.number.Kinds as number
use Rattle.steps.proofs.Fault.number.Reads as number-reads
use Rattle.react.proofs.react.Kinds as react
use Rattle.react.proofs.react.Reads as react-reads

pub row-at-settled : Settled row_at.ps row_at.r row-at-reads.Post
row-at-settled κs arguments one other held kept p q = (p ∙ sym q, refl)

pub place-settled : Settled place.ps place.r place-reads.Post
place-settled κs arguments one other held kept p q = (refl, λ i. (tt, (tt, ((p ∙ sym q) i, tt))))

pub task-cell-settled : Settled task-cell.ps task-cell.r task-cell-reads.Post
task-cell-settled κs arguments one other held kept p q = (p ∙ sym q, refl)

pub begin-of-settled : Settled begin-of.ps begin-of.r begin-of-reads.Post
begin-of-settled κs arguments one other held kept p q = (p ∙ sym q, refl)

pub holds-settled : Settled holds.ps holds.r holds-reads.Post
holds-settled κs arguments one other held kept p q = (p ∙ sym q, refl)

pub number-settled : Settled number.ps number.r number-reads.Post
number-settled κs arguments one other held kept p q = (p ∙ sym q, refl)

-- the ports and the words of tasks behind a driver
pub drive-settled : Settled drive.ps drive.r drive-reads.Post
drive-settled κs arguments one other held kept p q =
    let same = p ∙ sym q in
    (ap (λ (d : Driven). d.answer) same, λ i. (tt, (tt, (tt, ((same i).ports, ((same i).tasks, tt))))))

-- what is shown of a reaction is all that it answers
shown-once : (one other : Result Ran Fault) (ports after : List ℕ) → shows one ports ≡ shows other after → one ≡ other
shown-once (Ok ran) (Ok more) ports after same =
    let halted : ran.halted ≡ more.halted = let endings = ap (λ (s : Shown). s.ending) same in cc in
    let steps = ap (λ (s : Shown). s.steps) same in
    λ i. Ok (record { halted = halted i; steps = steps i })
shown-once (Ok ran) (Err fault) ports after same = let endings = ap (λ (s : Shown). s.ending) same in cc
shown-once (Err fault) (Ok ran) ports after same = let endings = ap (λ (s : Shown). s.ending) same in cc
shown-once (Err fault) (Err more) ports after same = let endings = ap (λ (s : Shown). s.ending) same in cc

-- the ports of what is shown
ports-shown : (one : Result Ran Fault) (ports : List ℕ) → (shows one ports).ports ≡ ports
ports-shown (Ok ran) ports = refl
ports-shown (Err fault) ports = refl

same-ports : (one other : Result Ran Fault) (ports after : List ℕ) → shows one ports ≡ shows other after → ports ≡ after
same-ports one other ports after same = sym (ports-shown one ports) ∙ ap (λ (s : Shown). s.ports) same ∙ ports-shown other after

pub react-settled : Settled react.ps react.r react-reads.Post
react-settled κs arguments one other held kept p q =
    let same = p ∙ sym q in
    (shown-once one other _ _ same, λ i. (tt, (tt, (tt, (same-ports one other _ _ same i, (tt, (tt, (tt, tt))))))))
