-- The timing rules at one instant (document 01, 'What time does'), over the module alone.
use Rattle.std.specs.Prelude.{ℕ, ◌+◌, Bool, true, false, cond, List, [], ◌∷◌, length, get_or, set, eqb}
use Rattle.std.proofs.Math.Option.{Option, none, some}
use Rattle.model.specs.Values.{holds, no_guard}
use Rattle.model.specs.Modules.{Module, Mode, Act, Call, Update, inputs_at, outputs_at, place, copy_to}
use Rattle.timing.specs.Slots.{closing, opening, soonest}

-- A task's standing: not out; released; handed out; finished, its results stored aside.
pub data Standing : Type 0 where
  idle : Standing
  ready : Standing
  running : Standing
  done : List ℕ → Standing

-- What a module shows and keeps: the words of its ports, and its tasks' standings.
pub record Store : Type 0 where
  pub ports : List ℕ
  pub tasks : List Standing

-- What comes of an instant: all is well, or a task is late.
pub data Outcome (A : Type 0) : Type 0 where
  well : A → Outcome A
  late : ℕ → Outcome A

-- on with what went well, or the lateness
abbrev pub and_then : {A B : Type 0} → Outcome A → (A → Outcome B) → Outcome B
and_then (well a) next = next a
and_then (late task) next = late task

-- Where a module is: its mode, the time in that mode's period, what it keeps, and the tasks released at this instant.
pub record Place : Type 0 where
  pub mode : ℕ
  pub time : ℕ
  pub store : Store
  pub released : List ℕ

-- what stands where no mode is
abbrev pub no_mode : Mode
no_mode = record { name = []; start = false; period = 1; calls = []; updates = []; switches = [] }

-- The first instant of a mode after t at which any slot ends; its period is the last.
unfoldable pub next_instant : Mode → ℕ → ℕ
next_instant m t = soonest m.period t m.switches (soonest m.period t m.updates (soonest m.period t m.calls m.period))

module _ (M : Module) where
  abbrev pub mode_at : ℕ → Mode
  mode_at k = get_or M.modes k no_mode

  -- the first port of the first task; the first input and the first output of task k
  abbrev pub task_ports_from : ℕ
  task_ports_from = length M.sensors + length M.actuators

  abbrev pub inputs_of : ℕ → ℕ
  inputs_of k = inputs_at task_ports_from M.tasks k

  abbrev pub outputs_of : ℕ → ℕ
  outputs_of k = outputs_at task_ports_from M.tasks k

  -- Guards read the values of that moment. No guard always holds.
  abbrev pub passes : Option ℕ → List ℕ → Bool
  passes none ports = true
  passes (some guard) ports = holds ports (get_or M.guards guard no_guard)

  -- Sensors take the host's reading.
  abbrev pub sensed : List ℕ → Store → Store
  sensed readings store = record { ports = place 0 readings store.ports; tasks = store.tasks }

  -- A task whose slot ends hands its results to its outputs. One that is not out stays so; one that is not finished is late.
  abbrev pub ended : ℕ → Store → Standing → Outcome Store
  ended task store idle = well store
  ended task store ready = late task
  ended task store running = late task
  ended task store (done results) = well (record { ports = place (outputs_of task) results store.ports; tasks = set store.tasks task idle })

  abbrev pub terminations : List (Act Call) → Store → Outcome Store
  terminations [] store = well store
  terminations (act ∷ acts) store = and_then (ended act.what.task store (get_or store.tasks act.what.task idle)) (terminations acts)

  -- Updates, in text order, each if its guard holds.
  abbrev pub updated : Update → List ℕ → List ℕ
  updated update ports = set ports update.target (get_or ports update.source 0)

  abbrev pub updates : List (Act Update) → List ℕ → List ℕ
  updates [] ports = ports
  updates (act ∷ acts) ports = updates acts (cond (passes act.guard ports) (updated act.what ports) ports)

  -- Switches: the first whose guard holds wins.
  abbrev pub chosen : List (Act ℕ) → List ℕ → Option ℕ
  chosen [] ports = none
  chosen (act ∷ acts) ports = cond (passes act.guard ports) (some act.what) (chosen acts ports)

  -- Releases, inputs copied, in text order, each if its guard holds.
  abbrev pub begun : Call → Store → Store
  begun call store = record { ports = copy_to (inputs_of call.task) call.sources store.ports; tasks = set store.tasks call.task ready }

  abbrev pub releases : List (Act Call) → Store → Store
  releases [] store = store
  releases (act ∷ acts) store = releases acts (cond (passes act.guard store.ports) (begun act.what store) store)

  -- the tasks that these releases release
  abbrev pub released_by : List (Act Call) → Store → List ℕ
  released_by [] store = []
  released_by (act ∷ acts) store =
      let later = released_by acts (cond (passes act.guard store.ports) (begun act.what store) store) in
      cond (passes act.guard store.ports) (act.what.task ∷ later) later

  -- Mode k at its time t: the releases of the slots that begin there.
  unfoldable pub entered : ℕ → ℕ → Store → Place
  entered k t store =
      let acts = opening (mode_at k).period t (mode_at k).calls in
      record { mode = k; time = t; store = releases acts store; released = released_by acts store }

  -- After a switch the target is at its time 0: releases only, as at the start. The end of the period is the next one's time 0.
  abbrev pub turned : ℕ → ℕ → Option ℕ → Store → Place
  turned k t (some target) store = entered target 0 store
  turned k t none store = entered k (cond (eqb t (mode_at k).period) 0 t) store

  -- Terminations handed over, the updates of the slots that end, then switches, then releases.
  abbrev pub after_ends : ℕ → ℕ → Store → Place
  after_ends k t store =
      let ports = updates (closing (mode_at k).period t (mode_at k).updates) store.ports in
      turned k t (chosen (closing (mode_at k).period t (mode_at k).switches) ports) (record { ports = ports; tasks = store.tasks })

  -- At one instant, time t of mode k, t over 0: sensors; terminations; updates; switches; releases.
  unfoldable pub instant : ℕ → ℕ → List ℕ → Store → Outcome Place
  instant k t readings store =
      and_then (terminations (closing (mode_at k).period t (mode_at k).calls) (sensed readings store)) (λ s. well (after_ends k t s))
