use Rattle.native.specs.Faces.{held_of}
use Rattle.native.specs.Copies.{ticks_from, ticks_of}
use Rattle.reading.specs.declared.Reading.{Reading}
use Rattle.emachine.specs.declared.Machine.{Machine}
use Rattle.emachine.specs.declared.Ticked.{Ticked}
use Rattle.emachine.specs.Machines.{board_in, ticked_on}
use Rattle.machine.specs.Starts.{start_on}
use Rattle.std.proofs.Common.{Bool, ap, ◌∙◌, rules}
use Rattle.native.proofs.native_ticks.Goals as goal

pub returns : goal.returns
returns c =
    let a = c.args in
    let is_read = c.is_read in
    c.hold.ensures
    ∙ ap (λ (m : Machine). held_of m.standing)
    (c.ticked.ensures
    ∙ ap (λ (t : Ticked). ticks_from a.later a.types.now a.words.now a.times t.machine)
    (rw is_read.ensures at c.start_on-begun.ensures.machine))
    ∙ ap (λ (r : Reading). held_of (ticks_of r a.count a.later a.times a.types.now a.words.now).standing) c.read-reading.ensures.answer
