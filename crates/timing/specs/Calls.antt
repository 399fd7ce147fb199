-- The timing rules call by call: start, tick, next task and finish (document 01, 'What time does' and 'The machine'), over the module alone.
use Rattle.std.specs.Prelude.{ℕ, suc, ◌+◌, ◌-◌, cond, List, [], ◌∷◌, map, get_or, set}
use Rattle.std.proofs.Math.Option.{Option, none, some}
use Rattle.model.specs.Clock.{elapsed, Instant, early, due, missed, judged, fits}
use Rattle.model.specs.Modules.{Module, Mode, no_task, port_starts}
pub use Rattle.machine.specs.Asks.{Ask, tick, next, finish}
use Rattle.timing.specs.Rules.{Standing, idle, ready, running, done, Store, Outcome, well, late, Place, mode_at, next_instant, sensed, entered, instant}

-- What is answered: idle; a reaction; a refusal's number; fault 40 with the late task; the task handed out, or none; results taken.
pub data Reply : Type 0 where
  waits : Reply
  reacted : Reply
  refused : ℕ → Reply
  fell : ℕ → Reply
  given : Option ℕ → Reply
  taken : Reply

-- A module between two calls: its place, the last accepted count, and the late task that stopped it.
pub record View : Type 0 where
  pub place : Place
  pub clock : ℕ
  pub stopped : Option ℕ

-- a reply and what stands after it
pub record Said : Type 0 where
  pub reply : Reply
  pub view : View

-- The lowest-numbered task released and not yet handed out, counted from n; or none.
abbrev pub lowest : ℕ → List Standing → Option ℕ
lowest n [] = none
lowest n (idle ∷ rest) = lowest (suc n) rest
lowest n (ready ∷ rest) = some n
lowest n (running ∷ rest) = lowest (suc n) rest
lowest n (done results ∷ rest) = lowest (suc n) rest

-- The number of the start mode, counted from n.
abbrev pub start_from : ℕ → List Mode → ℕ
start_from n [] = n
start_from n (m ∷ ms) = cond m.start n (start_from (suc n) ms)

module _ (M : Module) where
  -- the start mode's number
  abbrev pub start_mode : ℕ
  start_mode = start_from 0 M.modes

  -- the types that readings must have
  abbrev pub reading_types : List ℕ
  reading_types = map (λ s. s.type) M.sensors

  -- the types that the results of task k must have
  abbrev pub result_types : ℕ → List ℕ
  result_types k = map (λ o. o.type) (get_or M.tasks k no_task).outputs

  -- What remains until the next instant.
  abbrev pub remains : Place → ℕ
  remains at = next_instant (mode_at M at.mode) at.time - at.time

  -- a reply that changes nothing
  abbrev pub stay : View → Reply → Said
  stay v reply = record { reply = reply; view = v }

  -- The same place with other standings.
  abbrev pub stands : View → List Standing → View
  stands v tasks =
      record {
        place = record { mode = v.place.mode; time = v.place.time; store = record { ports = v.place.store.ports; tasks = tasks }; released = v.place.released };
        clock = v.clock;
        stopped = v.stopped;
      }

  -- what an instant came to: a late task stops the module, all else as before the call
  abbrev pub came_to : View → ℕ → Outcome Place → Said
  came_to v count (well at) = record { reply = reacted; view = record { place = at; clock = count; stopped = none } }
  came_to v count (late task) = record { reply = fell task; view = record { place = v.place; clock = v.clock; stopped = some task } }

  -- time gone by before the next instant
  abbrev pub passed : View → ℕ → ℕ → View
  passed v count gone =
      record {
        place = record { mode = v.place.mode; time = v.place.time + gone; store = v.place.store; released = v.place.released };
        clock = count;
        stopped = none;
      }

  -- Less than what remains: idle. Equal: one reaction. More: refused.
  abbrev pub ticked : View → ℕ → List ℕ → Instant → Said
  ticked v count words (early left) = record { reply = waits; view = passed v count (elapsed v.clock count) }
  ticked v count words due = came_to v count (instant M v.place.mode (next_instant (mode_at M v.place.mode) v.place.time) words v.place.store)
  ticked v count words missed = stay v (refused 33)

  -- next: the task handed out, or none
  abbrev pub handed : View → Option ℕ → Said
  handed v none = stay v (given none)
  handed v (some task) = record { reply = given (some task); view = stands v (set v.place.store.tasks task running) }

  -- Finish stores results aside: of a task handed out and not yet finished.
  abbrev pub finished : View → ℕ → List ℕ → List ℕ → Standing → Said
  finished v task types words idle = stay v (refused 34)
  finished v task types words ready = stay v (refused 34)
  finished v task types words running =
      cond (fits (result_types task) types words) (record { reply = taken; view = stands v (set v.place.store.tasks task (done words)) }) (stay v (refused 35))
  finished v task types words (done results) = stay v (refused 34)

  -- A call, by whether the module is stopped (31); readings of wrong count or type are 32.
  abbrev pub answer : Ask → View → Option ℕ → Said
  answer ask v (some task) = stay v (refused 31)
  answer (tick count types words) v none =
      let reaction = ticked v count words (judged (elapsed v.clock count) (remains v.place)) in
      cond (fits reading_types types words) reaction (stay v (refused 32))
  answer next v none = handed v (lowest 0 v.place.store.tasks)
  answer (finish task types words) v none = finished v task types words (get_or v.place.store.tasks task idle)

  -- a call of the module as it stands
  unfoldable pub ask : Ask → View → Said
  ask a v = answer a v v.stopped

  -- The beginning: every port at its first value, no task out.
  abbrev pub beginning : Store
  beginning = record { ports = port_starts M.sensors M.actuators M.tasks; tasks = map (λ task. idle) M.tasks }

  -- Start with readings that fit: the start mode at its time 0.
  unfoldable pub started : ℕ → List ℕ → View
  started count words = record { place = entered M start_mode 0 (sensed M words beginning); clock = count; stopped = none }

  -- a history of calls: all that is answered
  abbrev pub replies : List Ask → View → List Reply
  replies [] v = []
  replies (a ∷ rest) v = (ask a v).reply ∷ replies rest (ask a v).view

  -- where a history comes to
  abbrev pub comes : List Ask → View → View
  comes [] v = v
  comes (a ∷ rest) v = comes rest (ask a v).view
