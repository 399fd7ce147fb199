-- The machine and the timing rules side by side: at every place of a history, and over one call more.
use Rattle.std.specs.Prelude.{ℕ, refl, Bool, true, false, cond, List, [], ◌∷◌, ◌++◌, Some, None, Ok, Err}
use Rattle.std.proofs.Common.{arith, sym, ◌∙◌, ap, subst}
use Rattle.std.proofs.Math.Path.{◌≡◌}
use Rattle.std.proofs.Math.Option.{Option, none, some}
use Rattle.model.specs.Clock.{Instant, early, due, missed, judged, elapsed, fits}
use Rattle.model.specs.Modules.{Module}
use Rattle.timing.specs.Rules as R
use Rattle.timing.specs.Calls as C
use Rattle.timing.specs.Calls.{Ask, Reply, reacted, fell, View, ask, started, comes, remains}
use Rattle.timing.specs.Accepted.{Accepted}
use Rattle.timing.specs.Docks.{Answer, ticking, turning, finishing, reply_to, Dock, asked}
use Rattle.timing.specs.Histories.{shadow, Waiting, Both}
use Rattle.timing.proofs.Histories.{call-both, start-both}
use Rattle.machine.specs.declared.Reaction.{Reaction}
use Rattle.machine.specs.declared.Reaction.TheVariants.{Obeyed, Idle, Refused, Late, Fault}
use Rattle.machine.specs.Boards.{Board}
use Rattle.machine.specs.Instructions as E
use Rattle.machine.specs.Instructions.{Res, ok, bad, Halt, Tally}
use Rattle.machine.specs.Store.{Store, reaction}
use Rattle.machine.specs.Calls as K
use Rattle.machine.specs.Calls.{State, Ticked, stopped_by, faulted, came_to, sensed, reading_types, by_instant, tick}
use Rattle.bridge.specs.Docked.{Asked, asks, dock_of, Held}
use Rattle.bridge.proofs.Docked.{call_same}
use Rattle.bridge.specs.Faithful.{machine_leaves, Started, begun}
use Rattle.bridge.proofs.Faithful.{first}
-- ---- which answer a reply stands for

use Rattle.bridge.specs.Beside.{Beside, Called}

pub late-answer : (x : Answer) (task : ℕ) → reply_to x ≡ some (fell task) → x ≡ ticking (Late task)
late-answer (ticking (Obeyed instructions)) task e = let z : ◌≡◌ {A = ℕ} 0 1 = cc in absurd (omega arith)
late-answer (ticking Idle) task e = let z : ◌≡◌ {A = ℕ} 0 1 = cc in absurd (omega arith)
late-answer (ticking (Refused number)) task e = let z : ◌≡◌ {A = ℕ} 0 1 = cc in absurd (omega arith)
late-answer (ticking (Late other)) task e = let h : other ≡ task = cc in ap (λ (k : ℕ). ticking (Late k)) h
late-answer (ticking (Fault number)) task e = let z : ◌≡◌ {A = ℕ} 0 1 = cc in absurd (omega arith)
late-answer (turning (Ok (Some other))) task e = let z : ◌≡◌ {A = ℕ} 0 1 = cc in absurd (omega arith)
late-answer (turning (Ok None)) task e = let z : ◌≡◌ {A = ℕ} 0 1 = cc in absurd (omega arith)
late-answer (turning (Err why)) task e = let z : ◌≡◌ {A = ℕ} 0 1 = cc in absurd (omega arith)
late-answer (finishing (Ok _)) task e = let z : ◌≡◌ {A = ℕ} 0 1 = cc in absurd (omega arith)
late-answer (finishing (Err why)) task e = let z : ◌≡◌ {A = ℕ} 0 1 = cc in absurd (omega arith)

-- ---- what a late task leaves of the machine
module _ (b : Board) (m : State) (count : ℕ) (types words : List ℕ) (task : ℕ) where
  late-fault : (fault : E.Fault) → (faulted fault m).answer ≡ Late task → (faulted fault m).state ≡ stopped_by 40 task m
  late-fault (E.late other) e = let h : other ≡ task = cc in ap (λ (k : ℕ). stopped_by 40 k m) h
  late-fault E.wild e = let z : ◌≡◌ {A = ℕ} 0 1 = cc in absurd (omega arith)
  late-fault E.astray e = let z : ◌≡◌ {A = ℕ} 0 1 = cc in absurd (omega arith)
  late-fault E.clash e = let z : ◌≡◌ {A = ℕ} 0 1 = cc in absurd (omega arith)

  late-came : (tally : Tally) (res : Res (Halt Store)) → (came_to m count tally res).answer ≡ Late task → (came_to m count tally res).state ≡ stopped_by 40 task m
  late-came tally (ok halt) e = let z : ◌≡◌ {A = ℕ} 0 1 = cc in absurd (omega arith)
  late-came tally (bad fault) e = late-fault fault e

  late_by : (instant : Instant) → (by_instant b m count words instant).answer ≡ Late task → (by_instant b m count words instant).state ≡ stopped_by 40 task m
  unfolding K.reacted
  late_by (early left) e = let z : ◌≡◌ {A = ℕ} 0 1 = cc in absurd (omega arith)
  late_by due e = late-came (reaction b m.aside m.mode m.pc (sensed words m.store)).tally (reaction b m.aside m.mode m.pc (sensed words m.store)).res e
  late_by missed e = let z : ◌≡◌ {A = ℕ} 0 1 = cc in absurd (omega arith)

  -- Ports, sensors, clock and words are as before that call: the machine is stopped, by 40 and this task, and nothing else differs.
  pub late-leaves : (tick b m count types words).answer ≡ Late task → (tick b m count types words).state ≡ stopped_by 40 task m
  unfolding tick
  late-leaves e = go m.stopped (fits (reading_types b) types words) (late_by (judged (elapsed m.clock count) m.remaining)) e
    where
      served : Ticked
      served = by_instant b m count words (judged (elapsed m.clock count) m.remaining)

      go : (stopped fit : Bool) → (served.answer ≡ Late task → served.state ≡ stopped_by 40 task m)
          → (cond stopped (record { answer = Refused 31; state = m }) (cond fit served (record { answer = Refused 32; state = m }))).answer ≡ Late task
          → (cond stopped (record { answer = Refused 31; state = m }) (cond fit served (record { answer = Refused 32; state = m }))).state ≡ stopped_by 40 task m
      go true fit on e = let z : ◌≡◌ {A = ℕ} 0 1 = cc in absurd (omega arith)
      go false true on e = on e
      go false false on e = let z : ◌≡◌ {A = ℕ} 0 1 = cc in absurd (omega arith)

-- ---- side by side

module _ (M : Module) (W : Accepted M) where
  pub one-call : (a : Ask) (m : State) (v : View) → (Beside M W) m v → (Called M W) a m v
  one-call a m v b =
      let c = call_same M W m b.held a in
      let d : Both M (ask M a v) (asked M a (dock_of M m)) = subst (λ (dock : Dock). Both M (ask M a v) (asked M a dock)) (sym b.shown) (call-both M W v b.pc b.waiting a) in
      record { says = ap reply_to c.says ∙ d.says; then = record { pc = d.pc; shown = c.shows ∙ d.shows; waiting = d.waiting; held = c.held } }

  pub all-calls : (asks : List Ask) (m : State) (v : View) → (Beside M W) m v → (Beside M W) (machine_leaves M asks m) (comes M asks v)
  all-calls [] m v b = b
  all-calls (a ∷ rest) m v b = all-calls rest (asks M a m).state (ask M a v).view (one-call a m v b).then

  module _ (count : ℕ) (types words : List ℕ) (S : Started M W count types words) where
    -- Behind a start and any calls.
    pub start-beside : (Beside M W) (begun M W count types words) (started M count words)
    start-beside =
        let f = first M W count types words S in
        let b = start-both M W count words in
        record { pc = b.pc; shown = f.shows ∙ b.shows; waiting = b.waiting; held = f.held }

    pub beside : (before : List Ask) → (Beside M W) (machine_leaves M before (begun M W count types words)) (comes M before (started M count words))
    beside before = all-calls before (begun M W count types words) (started M count words) start-beside
