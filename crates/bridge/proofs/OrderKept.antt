-- The order of finishing does not show (document 02, R-13), for the machine: what it shows rests on the readings of the due ticks and on the results, not on when between two due ticks a task is handed out and finished.
use Rattle.std.specs.Prelude.{ℕ, ◌≡◌, refl, List, [], ◌∷◌, map}
use Rattle.std.proofs.Common.{sym, ◌∙◌, ap, ap₂}
use Rattle.std.proofs.Math.Option.{Option, none, some}
use Rattle.model.specs.Modules.{Module}
use Rattle.timing.specs.Rules.{Standing}
use Rattle.timing.specs.Calls.{Ask, Reply, waits, reacted, refused, fell, given, taken, View, ask, started, comes}
use Rattle.timing.specs.Accepted.{Accepted}
use Rattle.timing.specs.Standings.{which_out}
use Rattle.timing.specs.Orders.{Shown, showing, logged, dues, due_log, Keeps}
use Rattle.timing.proofs.OrderFree.{order-free}
use Rattle.timing.specs.Docks.{reply_to, Dock}
use Rattle.machine.specs.Calls.{State}
use Rattle.bridge.specs.Docked.{asks, dock_of}
use Rattle.bridge.specs.Faithful.{machine_leaves, Started, begun}
use Rattle.bridge.specs.Beside.{Beside}
use Rattle.bridge.proofs.Beside.{one-call, start-beside, beside}
use Rattle.bridge.specs.Promises.{machine_at}
use Rattle.bridge.proofs.Promises.{ports-same, tasks-same}
use Rattle.bridge.specs.OrderKept.{SameShown, Seen, machine_log, noted, noted_by, plain, seen_in}

plain-log : (r : Reply) (s : Shown) (log : List Shown) → noted_by r (plain s) (map plain log) ≡ map plain (logged r s log)
plain-log waits s log = refl
plain-log reacted s log = refl
plain-log (refused number) s log = refl
plain-log (fell task) s log = refl
plain-log (given task) s log = refl
plain-log taken s log = refl

module _ (M : Module) (W : Accepted M) where
  seen_same : (m : State) (v : View) → Beside M W m v → seen_in M m ≡ plain (showing v.place)
  seen_same m v b =
      let mode : m.mode ≡ v.place.mode = ap (λ (d : Dock). d.mode) b.shown in
      let ports = ports-same M W m v b in
      let out : which_out (dock_of M m).store.tasks ≡ which_out v.place.store.tasks = ap which_out (tasks-same M W m v b) in
      λ i. record { mode = mode i; ports = ports i; out = out i }

  log-same : (rest : List Ask) (m : State) (v : View) → Beside M W m v → machine_log M rest m ≡ map plain (due_log M rest v)
  log-same [] m v b = refl
  log-same (a ∷ rest) m v b =
      let c = one-call M W a m v b in
      let reply = (ask M a v).reply in
      let u = (ask M a v).view in
      ap (λ (o : Option Reply). noted o (seen_in M (asks M a m).state) (machine_log M rest (asks M a m).state)) c.says
      ∙ ap₂ (λ (s : Seen) (l : List Seen). noted_by reply s l) (seen_same (asks M a m).state u c.then) (log-same rest (asks M a m).state u c.then)
      ∙ plain-log reply (showing u.place) (due_log M rest u)

  module _ (readings : ℕ → List ℕ) (results : ℕ → ℕ → List ℕ) (count : ℕ) (types₀ words₀ : List ℕ) (S : Started M W count types₀ words₀) where
    -- Two histories of as many due ticks, in each of which due tick i takes the same readings and every finish gives the results of the tick that released its task.
    pub order-kept : (first other : List Ask) → Keeps M readings results first (started M count words₀) 0 (λ j. 0) → Keeps M readings results other (started M count words₀) 0 (λ j. 0)
        → dues M first (started M count words₀) ≡ dues M other (started M count words₀) → (SameShown M W readings results count types₀ words₀ S) first other
    order-kept first other f g d =
        let s = order-free M readings results count words₀ first other f g d in
        let x = beside M W count types₀ words₀ S first in
        let y = beside M W count types₀ words₀ S other in
        let mode = s.same-mode in
        let ports = s.same-ports in
        let out = s.same_out in
        let b = start-beside M W count types₀ words₀ S in
        let same : plain (showing (comes M first (started M count words₀)).place) ≡ plain (showing (comes M other (started M count words₀)).place) = λ i. record { mode = mode i; ports = ports i; out = out i } in
        record {
          same-now = seen_same _ _ x ∙ same ∙ sym (seen_same _ _ y);
          same_log = log-same first _ _ b ∙ ap (map plain) s.same-dues ∙ sym (log-same other _ _ b);
        }
