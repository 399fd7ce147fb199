-- Rows that hold the modes of a module: what whoever fills them has to show.
use Prim.Native.Nat.{ℕ, ◌+◌, ◌*◌, min, ◌≤◌}
use native.Mathlib.Omega.{arith}
use Rattle.std.specs.Prelude.{◌≡◌, get_or}
use Rattle.std.proofs.Math.Path.{refl}
use Rattle.std.proofs.Common.{◌∙◌}
use mathlib.Core.List.{List, [], ◌∷◌, map, map-map, map-id}
use Rattle.std.proofs.Math.ListN.{length}
use Rattle.model.specs.Rooms.{activity_room, mode_room}
use Rattle.model.specs.Modules.{Act, Call, Update, Mode}
use Rattle.emit.specs.Rows.{act_by, acts_by, map_act, call_of, update_of, mode_of, mode_by, modes_from, modes_by}
use Rattle.emit.specs.Erased.{erased, erased_call, erased_update}

-- activities stand one behind the other from this row on, what they do told by a number
abbrev pub HoldsActs : {A : Type 0} → (A → ℕ) → List ℕ → ℕ → List (Act A) → Type 0
HoldsActs number acts row [] = Unit {0}
HoldsActs number acts row (a ∷ rest) = (act_by acts row ≡ map_act number a) × HoldsActs number acts (row + 1) rest

pub record HoldsMode (modes acts : List ℕ) (k : ℕ) (m : Mode) : Type 0 where
  pub row : ℕ
  pub few : length m.calls + length m.updates + length m.switches ≤ activity_room
  pub period-cell : get_or modes (k * 5) 0 ≡ m.period
  pub calls-cell : get_or modes (k * 5 + 1) 0 ≡ length m.calls
  pub updates-cell : get_or modes (k * 5 + 2) 0 ≡ length m.updates
  pub switches-cell : get_or modes (k * 5 + 3) 0 ≡ length m.switches
  pub row-cell : get_or modes (k * 5 + 4) 0 ≡ row
  pub calls-rows : HoldsActs (λ c. c.task) acts row m.calls
  pub updates-rows : HoldsActs (λ u. 0) acts (row + length m.calls) m.updates
  pub switches-rows : HoldsActs (λ target. target) acts (row + length m.calls + length m.updates) m.switches

abbrev pub HoldsModes : List ℕ → List ℕ → ℕ → List Mode → Type 0
HoldsModes modes acts k [] = Unit {0}
HoldsModes modes acts k (m ∷ ms) = HoldsMode modes acts k m × HoldsModes modes acts (k + 1) ms

-- ---- they are read back

acts-held : {A : Type 0} (number : A → ℕ) (acts : List ℕ) (row : ℕ) (list : List (Act A)) → HoldsActs number acts row list → acts_by acts row (length list) ≡ map (map_act number) list
unfolding acts_by
acts-held number acts row [] h = refl
acts-held number acts row (a ∷ list) h = rw (h.0, acts-held number acts (row + 1) list h.1) refl

module _ (modes acts : List ℕ) where
  mode-held : (k : ℕ) (m : Mode) → HoldsMode modes acts k m → mode_by modes acts k ≡ erased m
  unfolding mode_of
  mode-held k m h =
      let f = h.few in
      let c : min (length m.calls) activity_room ≡ length m.calls = omega arith in
      let u : min (length m.updates) activity_room ≡ length m.updates = omega arith in
      let s : min (length m.switches) activity_room ≡ length m.switches = omega arith in
      let calls : map (map_act call_of) (acts_by acts h.row (length m.calls)) ≡ map (map_act erased_call) m.calls = rw (acts-held (λ c. c.task) acts h.row m.calls h.calls-rows) (map-map (map_act call_of) (map_act (λ (c : Call). c.task)) m.calls) in
      let updates : map (map_act update_of) (acts_by acts (h.row + length m.calls) (length m.updates)) ≡ map (map_act erased_update) m.updates =
      rw (acts-held (λ u. 0) acts (h.row + length m.calls) m.updates h.updates-rows) (map-map (map_act update_of) (map_act (λ (u : Update). 0)) m.updates) in
      let switches : acts_by acts (h.row + length m.calls + length m.updates) (length m.switches) ≡ m.switches =
      acts-held (λ target. target) acts (h.row + length m.calls + length m.updates) m.switches h.switches-rows ∙ map-id m.switches in
      rw (h.period-cell, h.calls-cell, h.updates-cell, h.switches-cell, h.row-cell, c, u, s, calls, updates, switches) refl

  modes-from : (k : ℕ) (ms : List Mode) → HoldsModes modes acts k ms → modes_from modes acts k (length ms) ≡ map erased ms
  unfolding modes_from
  modes-from k [] h = refl
  modes-from k (m ∷ ms) h = rw (mode-held k m h.0, modes-from (k + 1) ms h.1) refl

  pub modes-held : (ms : List Mode) → length ms ≤ mode_room → HoldsModes modes acts 0 ms → modes_by modes acts (length ms) ≡ map erased ms
  modes-held ms few h = let e : min (length ms) mode_room ≡ length ms = omega arith in rw e (modes-from 0 ms h)
