-- Demand 3: a machine started on an accepted module's table, called in any order, answers and shows exactly what the timing rules say.
use Prim.Native.Nat.{ℕ, zero, suc, ◌+◌, ◌-◌, ◌*◌, ◌^◌, ◌≤◌, ◌<◌}
use Rattle.std.proofs.Common.{arith, sym, ◌∙◌, length-append}
use Rattle.std.specs.Prelude.{◌≡◌, Bool, true, false, cond, replicate, eqb}
use Rattle.std.proofs.Math.Path.{refl, ap, ap₂, subst}
use Rattle.std.proofs.Math.Option.{Option, none, some}
use mathlib.Core.List.{List, [], ◌∷◌, ◌++◌, map}
use Rattle.std.proofs.Math.ListN.{length, get_or, take}
use Rattle.model.specs.Clock.{fits}
use Rattle.model.specs.Modules.{Module, Sensor, Actuator, Output, Task, each, task_types, task_starts, port_types, port_starts}
use Rattle.timing.specs.SlotLaws.{Each}
use Rattle.timing.specs.Rules as R
use Rattle.timing.specs.Rules.{Standing, idle}
use Rattle.timing.specs.Calls as C
use Rattle.timing.specs.Calls.{Ask, Reply, View, start_mode, beginning, started, replies, comes}
use Rattle.timing.specs.Code.{begins_of}
use Rattle.timing.specs.Accepted.{Accepted, ports}
use Rattle.machine.specs.declared.Reaction.{Reaction}
use Rattle.machine.specs.declared.Reaction.TheVariants.{Obeyed, Idle, Refused, Late, Fault}
use Rattle.machine.specs.Words.{has}
use Rattle.machine.specs.Asks as A
use Rattle.machine.specs.WordLaws.{bit, bit-above}
use Rattle.machine.specs.Boards.{Board, board_of, board_room, aside_room}
use Rattle.machine.specs.Instructions as E
use Rattle.machine.specs.Store.{Store}
use Rattle.machine.specs.Calls.{State, Ticked, reacted, reading_types}
use Rattle.machine.specs.Starts.{fresh, start_on, start}
use Rattle.file.specs.Files.{sound}
use Rattle.prescribed.specs.Tables.{table_of}
use Rattle.timing.specs.Docks as D
use Rattle.timing.specs.Docks.{Answer, ticking, reply_to, Dock, Told, asked, new_dock, started_dock, answers, leaves}
use Rattle.timing.specs.Histories.{shadow, Both, Alike}
use Rattle.timing.proofs.Histories.{start-both, histories-agree, no-other-fault}
use Rattle.bridge.specs.Boards.{board, board-begin, board-start, board-readings}
use Rattle.bridge.specs.Tabulated.{tab}
use Rattle.bridge.specs.Views.{stand_of, tasks, stand_at, standings, view, Neat}
use Rattle.bridge.specs.Docked.{Asked, asks, dock_of, Held, Agrees}
use Rattle.bridge.proofs.Docked.{reacted-same, call_same}
-- ---- histories of the machine

use Rattle.bridge.specs.Faithful.{Along, Shows, Started, begun, machine_answers, machine_leaves}

module _ (M : Module) (W : Accepted M) where
  pub along : (rest : List Ask) (m : State) → Held M m → Along M rest m (dock_of M m)
  along [] m H = record { same-answers = refl; same-dock = refl; held = H }
  along (a ∷ rest) m H =
      let c = call_same M W m H a in
      let ih : Along M rest (asks M a m).state (asked M a (dock_of M m)).dock = subst (Along M rest (asks M a m).state) c.shows (along rest (asks M a m).state c.held) in
      record { same-answers = ap₂ (λ (x : Answer) (l : List Answer). x ∷ l) c.says ih.same-answers; same-dock = ih.same-dock; held = ih.held }

  -- ---- the beginning
  has-none : (k : ℕ) → has 0 k ≡ false
  has-none k = let b : bit 0 k ≡ 0 = bit-above 0 0 k (omega arith) (omega arith) in rw b refl

  none_out : Neat M 0 0 0
  none_out = record { fits = λ k. rw (has-none k) tt; within = λ k h. let e = has-none k in let z : ◌≡◌ {A = ℕ} 0 1 = cc in absurd (omega arith) }

  idle-all : (aside : List ℕ) → standings M aside 0 0 0 ≡ map (λ task. idle) M.tasks
  unfolding standings tab
  idle-all aside = go M.tasks (stand_at M aside 0 0 0) (λ k. rw (has-none k) refl)
    where
      go : (ts : List Task) (f : ℕ → Standing) → ((k : ℕ) → f k ≡ idle) → tab f (length ts) ≡ map (λ task. idle) ts
      go [] f h = refl
      go (t ∷ ts) f h = ap₂ (λ (x : Standing) (l : List Standing). x ∷ l) (h 0) (go ts (λ i. f (suc i)) (λ k. h (suc k)))

  taken-whole : (l r : List ℕ) (n : ℕ) → length l ≡ n → take n (l ++ r) ≡ l
  taken-whole [] r zero e = refl
  taken-whole [] r (suc n) e = absurd (omega arith)
  taken-whole (x ∷ l) r zero e = absurd (omega arith)
  taken-whole (x ∷ l) r (suc n) e = ap (λ (t : List ℕ). x ∷ t) (taken-whole l r n (omega arith))

  mapped : {A B C : Type 0} (f : A → B) (g : A → C) (l : List A) → length (map f l) ≡ length (map g l)
  mapped f g [] = refl
  mapped f g (a ∷ l) = ap suc (mapped f g l)

  joined : (a b c d : List ℕ) → length a ≡ length c → length b ≡ length d → length (a ++ b) ≡ length (c ++ d)
  joined a b c d e f = length-append a b ∙ ap₂ (λ (i j : ℕ). i + j) e f ∙ sym (length-append c d)

  zeros : (l : List ℕ) → length (map (λ (i : ℕ). zero) l) ≡ length l
  zeros [] = refl
  zeros (x ∷ l) = ap suc (zeros l)

  tasks-many : (ts : List Task) → length (each task_starts ts) ≡ length (each task_types ts)
  tasks-many [] = refl
  tasks-many (t ∷ ts) =
      joined (task_starts t) (each task_starts ts) (task_types t) (each task_types ts)
      (joined (map (λ (i : ℕ). zero) t.inputs) (map (λ (o : Output). o.start) t.outputs) t.inputs (map (λ (o : Output). o.type) t.outputs) (zeros t.inputs) (mapped (λ (o : Output). o.start) (λ (o : Output). o.type) t.outputs))
      (tasks-many ts)

  ports-many : length (port_starts M.sensors M.actuators M.tasks) ≡ ports M
  unfolding port_starts port_types
  ports-many =
      joined (map (λ (s : Sensor). zero) M.sensors) (map (λ (a : Actuator). a.start) M.actuators ++ each task_starts M.tasks)
      (map (λ (s : Sensor). s.type) M.sensors) (map (λ (a : Actuator). a.type) M.actuators ++ each task_types M.tasks)
      (mapped (λ (s : Sensor). zero) (λ (s : Sensor). s.type) M.sensors)
      (joined (map (λ (a : Actuator). a.start) M.actuators) (each task_starts M.tasks) (map (λ (a : Actuator). a.type) M.actuators) (each task_types M.tasks)
      (mapped (λ (a : Actuator). a.start) (λ (a : Actuator). a.type) M.actuators) (tasks-many M.tasks))

  -- a fresh machine is a new dock
  begins : (count : ℕ) → dock_of M (fresh (board M) count) ≡ new_dock M count
  unfolding board_of table_of
  begins count =
      let starts = port_starts M.sensors M.actuators M.tasks in
      let shown : take (ports M) (board M).starts ≡ starts = taken-whole starts (replicate (board_room - length starts) 0) (ports M) ports-many in
      let mode = board-start M in
      let pc : get_or (board M).begins (board M).start 0 ≡ get_or (begins_of M) (start_mode M) 0 = board-begin M (board M).start ∙ ap (λ (k : ℕ). get_or (begins_of M) k 0) mode in
      λ i. record { clock = count; remaining = 0; mode = mode i; pc = pc i; store = record { ports = shown i; tasks = idle-all (replicate aside_room 0) i }; stopped = none }

  held-fresh : (count : ℕ) → Held M (fresh (board M) count)
  held-fresh count = record { neat = none_out; room = refl }

  pub start_is : (count : ℕ) (types words : List ℕ) → (Started M W) count types words → start (table_of M) count types words ≡ reacted (board M) (fresh (board M) count) count words
  unfolding start
  start_is count types words h = rw (h.readable, board-readings M, h.readings) refl

  module _ (count : ℕ) (types words : List ℕ) (S : (Started M W) count types words) where
    pub first : Agrees M (record { answer = ticking (start (table_of M) count types words).answer; state = (begun M W) count types words }) (started_dock M count words)
    unfolding started_dock
    first =
        subst (λ (t : Ticked). Agrees M (record { answer = ticking t.answer; state = t.state }) (D.reacted_at M (new_dock M count) count words)) (sym (start_is count types words S))
        (subst (λ (d : Dock). Agrees M (record { answer = ticking (reacted (board M) (fresh (board M) count) count words).answer; state = (reacted (board M) (fresh (board M) count) count words).state }) (D.reacted_at M d count words)) (begins count)
        (reacted-same M W (fresh (board M) count) (held-fresh count) refl count words))

    pub faithful : (rest : List Ask) → (Shows M W count types words S) rest
    faithful rest =
        let h = histories-agree M W count words rest in
        let a : Along M rest ((begun M W) count types words) (started_dock M count words).dock = subst (Along M rest ((begun M W) count types words)) first.shows (along rest ((begun M W) count types words) first.held) in
        record { counts-are = a.same-answers; answers-are = ap (map reply_to) a.same-answers ∙ h.same-answers; pc = h.pc; shown = a.same-dock ∙ h.same_view }

    -- The start itself is a reaction of the rules.
    pub start-reacts : reply_to (ticking (start (table_of M) count types words).answer) ≡ some C.reacted
    start-reacts = ap reply_to first.says ∙ (start-both M W count words).says

    -- Faults 41, 42 and 43 never come, in time or late.
    pub no-wild-fault : (rest : List Ask) → Each (λ x. (number : ℕ) → x ≡ ticking (Fault number) → ⊥) (machine_answers M rest ((begun M W) count types words))
    no-wild-fault rest =
        let a : Along M rest ((begun M W) count types words) (started_dock M count words).dock = subst (Along M rest ((begun M W) count types words)) first.shows (along rest ((begun M W) count types words) first.held) in
        subst (Each (λ x. (number : ℕ) → x ≡ ticking (Fault number) → ⊥)) (sym a.same-answers) (no-other-fault M W count words rest)
