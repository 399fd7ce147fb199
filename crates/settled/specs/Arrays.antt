-- The machine over arrays of its caller: the answer, and every cell of the arrays that the call may write.
use Rattle.std.specs.Prelude.{◌≡◌, refl, List, []}
use Rattle.std.proofs.Common.{sym, ap, ◌∙◌}
use Rattle.settled.specs.Settled.{Settled}
use Rattle.machine.specs.Calls.{Ticked, Handed, Finished}
use Rattle.emachine.specs.Machines.{standing_of}
use Rattle.calls.proofs.Standing.begin.Kinds as begin
use Rattle.calls.proofs.Standing.begin.Reads as begin-reads
use Rattle.calls.proofs.standing_in.Kinds as standing-in
use Rattle.calls.proofs.standing_in.Reads as standing-in-reads
use Rattle.calls.proofs.fits.Kinds as fits
use Rattle.calls.proofs.fits.Reads as fits-reads
use Rattle.calls.proofs.react_on.Kinds as react-on
use Rattle.calls.proofs.react_on.Reads as react-on-reads
use Rattle.calls.proofs.tick_on.Kinds as tick-on
use Rattle.calls.proofs.tick_on.Reads as tick-on-reads
use Rattle.calls.proofs.next_on.Kinds as next-on
use Rattle.calls.proofs.next_on.Reads as next-on-reads
use Rattle.calls.proofs.finish_on.Kinds as finish-on
use Rattle.calls.proofs.finish_on.Reads as finish-on-reads
use Rattle.native.proofs.native_tick.Kinds as native-tick
use Rattle.native.proofs.native_tick.Reads as native-tick-reads
use Rattle.native.proofs.native_next.Kinds as native-next
use Rattle.native.proofs.native_next.Reads as native-next-reads
use Rattle.native.proofs.native_finish.Kinds as native-finish
use Rattle.native.proofs.native_finish.Reads as native-finish-reads

pub standing-in-settled : Settled standing-in.ps standing-in.r standing-in-reads.Post
standing-in-settled κs arguments one other held kept p q = (p ∙ sym q, refl)

pub fits-settled : Settled fits.ps fits.r fits-reads.Post
fits-settled κs arguments one other held kept p q = (p ∙ sym q, refl)

-- where the machine stands, of the state that a call leaves
pub react-on-settled : Settled react-on.ps react-on.r react-on-reads.Post
react-on-settled κs arguments one other held kept p q =
    let same = p ∙ sym q in
    (ap (λ (t : Ticked). t.answer) same, λ i. (tt, (tt, ((same i).state.store.ports, (standing_of (same i).state, (tt, (tt, tt)))))))

pub tick-on-settled : Settled tick-on.ps tick-on.r tick-on-reads.Post
tick-on-settled κs arguments one other held kept p q =
    let same = p ∙ sym q in
    (ap (λ (t : Ticked). t.answer) same, λ i. (tt, (tt, ((same i).state.store.ports, (standing_of (same i).state, (tt, (tt, (tt, tt))))))))

pub next-on-settled : Settled next-on.ps next-on.r next-on-reads.Post
next-on-settled κs arguments one other held kept p q =
    let same = p [] [] ∙ sym (q [] []) in
    (ap (λ (t : Handed). t.answer) same, λ i. (standing_of (same i).state, tt))

pub finish-on-settled : Settled finish-on.ps finish-on.r finish-on-reads.Post
finish-on-settled κs arguments one other held kept p q =
    let same = p [] ∙ sym (q []) in
    (ap (λ (t : Finished). t.answer) same, λ i. (tt, (tt, ((same i).state.aside, (standing_of (same i).state, (tt, (tt, (tt, tt))))))))

pub begin-settled : Settled begin.ps begin.r begin-reads.Post
begin-settled κs arguments one other held kept p q = (p ∙ sym q, refl)

pub native-tick-settled : Settled native-tick.ps native-tick.r native-tick-reads.Post
native-tick-settled κs arguments one other held kept p q =
    let state = p.1.0 ∙ sym q.1.0 in
    let lent = p.1.1 ∙ sym q.1.1 in
    (p.0 ∙ sym q.0, λ i. (tt, (tt, (tt, (tt, (tt, (tt, (tt, (tt, (tt, ((state i).store.ports, ((lent i).numbers, ((lent i).marks, ((lent i).sets, (tt, (tt, (tt, tt)))))))))))))))))

pub native-next-settled : Settled native-next.ps native-next.r native-next-reads.Post
native-next-settled κs arguments one other held kept p q =
    let sets = p.1.1 [] [] [] ∙ sym (q.1.1 [] [] []) in
    (p.0 [] [] [] ∙ sym (q.0 [] [] []), λ i. (tt, (sets i, tt)))

pub native-finish-settled : Settled native-finish.ps native-finish.r native-finish-reads.Post
native-finish-settled κs arguments one other held kept p q =
    let state = p.1.0 [] [] ∙ sym (q.1.0 [] []) in
    let sets = p.1.1 [] [] ∙ sym (q.1.1 [] []) in
    (p.0 [] [] ∙ sym (q.0 [] []), λ i. (tt, (tt, ((state i).aside, (tt, (sets i, (tt, (tt, (tt, tt)))))))))
