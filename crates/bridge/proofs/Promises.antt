-- What a machine on an accepted module's table keeps, spelled out for the machine itself (document 01, 'What time does' and 'The machine'): no fault in time, a late task named, a missed instant served after all.
use Rattle.std.specs.Prelude.{ℕ, ◌<◌, ◌≡◌, refl, ◌≢◌, Bool, true, false, List, [], ◌∷◌, get_or}
use Rattle.std.proofs.Common.{arith, sym, ◌∙◌, subst}
use Rattle.std.proofs.Math.Path.{ap}
use Rattle.std.proofs.Math.Option.{Option, none, some}
use Rattle.model.specs.Clock.{elapsed, fits}
use Rattle.model.specs.Modules.{Module, Act, Call}
use Rattle.timing.specs.SlotLaws.{Each}
use Rattle.timing.specs.Rules.{Standing, idle}
use Rattle.timing.specs.Calls as C
use Rattle.timing.specs.Calls.{Ask, Reply, fell, View, Said, ask, started, comes, remains, reading_types}
use Rattle.timing.specs.Accepted.{Accepted}
use Rattle.timing.specs.Ticks.{Due}
use Rattle.timing.specs.Lates.{first_late, ending_next, late-falls, falls-late, Prompt, NoFault, no-fault, never-stopped}
use Rattle.timing.specs.Docks.{Answer, ticking, reply_to, Dock}
use Rattle.timing.specs.Histories.{shadow, stop_of}
use Rattle.machine.specs.declared.Reaction.{Reaction}
use Rattle.machine.specs.declared.Reaction.TheVariants.{Refused, Late, Fault}
use Rattle.machine.specs.Instructions as E
use Rattle.machine.specs.Calls as K
use Rattle.machine.specs.Calls.{State, Ticked, stopped_by}
use Rattle.machine.proofs.ClockLaws.{missed-is, still-served}
use Rattle.bridge.specs.Boards.{board, board-readings}
use Rattle.bridge.specs.Docked.{Asked, asks, dock_of, stop_by}
use Rattle.bridge.specs.Faithful.{machine_answers, machine_leaves, Started, begun}
use Rattle.bridge.specs.Beside.{Beside}
use Rattle.bridge.proofs.Beside.{late-answer, late-leaves, one-call, start-beside, beside}
-- ---- what is shown

use Rattle.bridge.specs.Promises.{DueNow, InTime, Missed, Named, Unfaulted, ending_soon, machine_at, standing_in, view_at, word_in}

module _ (M : Module) where
  unfaulted : (x : Answer) (r : Reply) → reply_to x ≡ some r → NoFault M r → (Unfaulted M) x
  unfaulted x r e n =
      record {
        not_late = λ task q. let h : some (fell task) ≡ some r = subst (λ (y : Answer). reply_to y ≡ some r) q e in let k : r ≡ fell task = cc in n task k;
        not-wild = λ number q. let h : none ≡ some r = subst (λ (y : Answer). reply_to y ≡ some r) q e in let z : ◌≡◌ {A = ℕ} 0 1 = cc in omega arith;
      }

  unticked : {x y : Reaction} → ticking x ≡ ticking y → x ≡ y
  unticked e = cc

  going : (stopped : Bool) (number task : ℕ) → stop_by stopped number task ≡ none → stopped ≡ false
  going false number task e = refl
  going true number task e = let z : ◌≡◌ {A = ℕ} 0 1 = cc in absurd (omega arith)

  not_stopped : (o : Option ℕ) → stop_of o ≡ none → o ≡ none
  not_stopped none e = refl
  not_stopped (some task) e = let z : ◌≡◌ {A = ℕ} 0 1 = cc in absurd (omega arith)

module _ (M : Module) (W : Accepted M) where
  module _ (m : State) (v : View) (b : Beside M W m v) where
    pub ports-same : (dock_of M m).store.ports ≡ v.place.store.ports
    ports-same = ap (λ (d : Dock). d.store.ports) b.shown

    pub tasks-same : (dock_of M m).store.tasks ≡ v.place.store.tasks
    tasks-same = ap (λ (d : Dock). d.store.tasks) b.shown

    -- what is due for the machine is due by the rules
    pub due-same : (count : ℕ) (types words : List ℕ) → DueNow M m count types words → Due M v count types words
    due-same count types words d =
        let s : stop_by m.stopped m.fault m.late ≡ stop_of v.stopped = ap (λ (x : Dock). x.stopped) b.shown in
        let clock : m.clock ≡ v.clock = ap (λ (x : Dock). x.clock) b.shown in
        let remaining : m.remaining ≡ remains M v.place = ap (λ (x : Dock). x.remaining) b.shown in
        record {
          taken = record { going = not_stopped M v.stopped (sym s ∙ ap (λ (y : Bool). stop_by y m.fault m.late) d.live); fitting = d.fitting };
          now = ap (λ (c : ℕ). elapsed c count) (sym clock) ∙ d.now ∙ remaining;
        }

  prompt-calls : (rest : List Ask) (m : State) (v : View) → Beside M W m v → Prompt M rest v → Each (Unfaulted M) (machine_answers M rest m)
  prompt-calls [] m v b p = tt
  prompt-calls (a ∷ rest) m v b p =
      let c = one-call M W a m v b in
      (unfaulted M (asks M a m).answer (ask M a v).reply c.says (no-fault M (a ∷ rest) v p).0, prompt-calls rest (asks M a m).state (ask M a v).view c.then p.1)

  module _ (count : ℕ) (types₀ words₀ : List ℕ) (S : Started M W count types₀ words₀) where
    pub in-time : (rest : List Ask) → Prompt M rest (started M count words₀) → (InTime M W count types₀ words₀ S) rest
    unfolding started
    in-time rest p =
        let b = beside M W count types₀ words₀ S rest in
        let s : (dock_of M ((machine_at M W count types₀ words₀ S) rest)).stopped ≡ stop_of ((view_at M W count types₀ words₀ S) rest).stopped = ap (λ (d : Dock). d.stopped) b.shown in
        record {
          no-faults = prompt-calls rest (begun M W count types₀ words₀) (started M count words₀) (start-beside M W count types₀ words₀ S) p;
          goes_on = going M ((machine_at M W count types₀ words₀ S) rest).stopped ((machine_at M W count types₀ words₀ S) rest).fault ((machine_at M W count types₀ words₀ S) rest).late (s ∙ ap stop_of (never-stopped M rest (started M count words₀) p refl));
        }

    module _ (before : List Ask) where
      pub late-named : (at : ℕ) (types words : List ℕ) (task : ℕ) → DueNow M ((machine_at M W count types₀ words₀ S) before) at types words → first_late (ending_soon M W count types₀ words₀ S before) (dock_of M ((machine_at M W count types₀ words₀ S) before)).store.tasks ≡ some task → (Named M W count types₀ words₀ S before) at types words task
      late-named at types words task d f =
          let m = (machine_at M W count types₀ words₀ S) before in
          let v = (view_at M W count types₀ words₀ S) before in
          let b = beside M W count types₀ words₀ S before in
          let g : first_late (ending_soon M W count types₀ words₀ S before) v.place.store.tasks ≡ some task = subst (λ (l : List Standing). first_late (ending_soon M W count types₀ words₀ S before) l ≡ some task) (tasks-same m v b) f in
          let said = late-falls M v at types words task (due-same m v b at types words d) g in
          let e : (asks M (C.tick at types words) m).answer ≡ ticking (Late task) =
          late-answer _ task ((one-call M W (C.tick at types words) m v b).says ∙ ap (λ (x : Said). some x.reply) said) in
          record { answers = e; leaves = late-leaves (board M) m at types words task (unticked M e) }

      -- Nothing else is answered 40: before that instant nothing of the lateness shows.
      pub late-only : (a : Ask) (task : ℕ) → (asks M a ((machine_at M W count types₀ words₀ S) before)).answer ≡ ticking (Late task) → first_late (ending_soon M W count types₀ words₀ S before) (dock_of M ((machine_at M W count types₀ words₀ S) before)).store.tasks ≡ some task
      late-only a task e =
          let m = (machine_at M W count types₀ words₀ S) before in
          let v = (view_at M W count types₀ words₀ S) before in
          let b = beside M W count types₀ words₀ S before in
          let says : some (fell task) ≡ some (ask M a v).reply = subst (λ (x : Answer). reply_to x ≡ some (ask M a v).reply) e (one-call M W a m v b).says in
          let r : (ask M a v).reply ≡ fell task = cc in
          subst (λ (l : List Standing). first_late (ending_soon M W count types₀ words₀ S before) l ≡ some task) (sym (tasks-same m v b)) (falls-late M v a task r)

      pub missed : (at : ℕ) (types words : List ℕ) → ((machine_at M W count types₀ words₀ S) before).stopped ≡ false → fits (reading_types M) types words ≡ true → ((machine_at M W count types₀ words₀ S) before).remaining < elapsed ((machine_at M W count types₀ words₀ S) before).clock at → (Missed M W count types₀ words₀ S before) at types words
      missed at types words live fit past =
          let m = (machine_at M W count types₀ words₀ S) before in
          let fit₀ : fits (K.reading_types (board M)) types words ≡ true = rw (board-readings M) fit in
          record {
            refuses = missed-is (board M) m live at types words fit₀ past;
            served = λ again types₁ words₁ d. still-served (board M) m live at types words fit₀ past again types₁ words₁ (rw (board-readings M) d.fitting) d.now;
          }
