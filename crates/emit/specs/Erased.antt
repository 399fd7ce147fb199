-- The code depends only on periods, frequencies, guards, tasks and targets: names, the start and ports stand elsewhere in the file.
use Prim.Native.Nat.{ℕ, zero, suc, ◌+◌, ◌-◌, min, ◌≤◌}
use Rattle.std.proofs.Common.{arith, ◌∙◌}
use Rattle.std.specs.Prelude.{◌≡◌, Bool}
use Rattle.std.proofs.Math.Path.{refl, sym, ap, fun_ext}
use Rattle.std.proofs.Math.Bool.{true, false}
use mathlib.Core.List.{List, [], ◌∷◌, map}
use Rattle.std.proofs.Math.ListN.{length}
use Rattle.std.proofs.lemmas.List.{length-map}
use Rattle.std.proofs.Math.Dec.{ltb}
use Rattle.model.specs.Rooms.{task_room}
use Rattle.model.specs.Modules.{Call, Update, Mode, Module}
use Rattle.model.specs.Instructions.{call}
use Rattle.timing.specs.Slots.{span_ends, span_begins, closing, opening}
use Rattle.timing.specs.Rules.{next_instant}
use Rattle.timing.specs.Code.{driven_from, Piece, pieces, terminating, updating, releasing, front, back, instants_from, instants_of, first_or, later_blocks, mode_code, mode_driver_count, code_from, begins_from, code_of, begins_of}
use Rattle.emit.specs.Rows.{map_act, call_of, update_of, modes_by, code_by, begins_by}
use Rattle.emit.specs.Alike.{Alike, alike_from, alike-driven, alike-soonest, alike-pieces, alike-unguarded, ending, terminations}

abbrev pub erased_call : Call → Call
erased_call c = call_of c.task

abbrev pub erased_update : Update → Update
erased_update u = update_of 0

-- a mode with what its code depends on, and nothing else
abbrev pub erased : Mode → Mode
erased m =
    record {
      name = [];
      start = false;
      period = m.period;
      calls = map (map_act erased_call) m.calls;
      updates = map (map_act erased_update) m.updates;
      switches = m.switches;
    }

-- ---- the code of one mode

SameTask : Call → Call → Type 0
SameTask c d = c.task ≡ d.task

SomeUpdate : Update → Update → Type 0
SomeUpdate u v = Unit {0}

module _ (m : Mode) where
  calls-alike : Alike SameTask (erased m).calls m.calls
  unfolding SameTask
  calls-alike = alike_from erased_call (λ c. refl) m.calls

  updates-alike : Alike SomeUpdate (erased m).updates m.updates
  unfolding SomeUpdate
  updates-alike = alike_from erased_update (λ u. tt) m.updates

  same-instant : (t : ℕ) → next_instant (erased m) t ≡ next_instant m t
  unfolding next_instant
  same-instant t = rw (alike-soonest m.period t calls-alike, alike-soonest m.period t updates-alike) refl

  same-terminations : (t : ℕ) → terminating (closing m.period t (erased m).calls) ≡ terminating (closing m.period t m.calls)
  unfolding SameTask
  same-terminations t =
      sym (terminations m.period (span_ends t) (erased m).calls 0)
      ∙ ap (λ (p : Piece). p 0) (alike-pieces m.period ending ending (λ c d e. ap (λ (k : ℕ). call k ∷ []) e) (span_ends t) (alike-unguarded calls-alike))
      ∙ terminations m.period (span_ends t) m.calls 0

  same-updates : (n t : ℕ) → pieces updating (closing m.period t (driven_from n (erased m).updates)) ≡ pieces updating (closing m.period t (driven_from n m.updates))
  same-updates n t = alike-pieces m.period updating updating (λ u v e. ap (λ (k : ℕ). call k ∷ []) e.0) (span_ends t) (alike-driven n updates-alike)

  same-releases : (n t : ℕ) → pieces releasing (opening m.period t (driven_from n (erased m).calls)) ≡ pieces releasing (opening m.period t (driven_from n m.calls))
  unfolding SameTask
  same-releases n t = alike-pieces m.period releasing releasing (λ c d e. rw (e.0, e.1) refl) (span_begins t) (alike-driven n calls-alike)

  same-front : (n t : ℕ) → front n (erased m) t ≡ front n m t
  unfolding front
  same-front n t = rw (same-terminations t, same-updates n t) refl

  same_back : (n t distance : ℕ) → back n (erased m) t distance ≡ back n m t distance
  unfolding back
  same_back n t distance = rw (length-map m.updates (map_act erased_update), same-releases (n + length m.updates) t) refl

  same-instants : (most t : ℕ) → instants_from most (erased m) t ≡ instants_from most m t
  unfolding instants_from
  same-instants zero t = refl
  same-instants (suc most) t = go (ltb (next_instant m t) m.period) refl (same-instants most (next_instant m t))
    where
      go : (y : Bool) → ltb (next_instant m t) m.period ≡ y → instants_from most (erased m) (next_instant m t) ≡ instants_from most m (next_instant m t)
          → instants_from (suc most) (erased m) t ≡ instants_from (suc most) m t
      go true e on = rw (instants_from, same-instant t, e) (rw (same-instant t, on) refl)
      go false e on = rw (instants_from, same-instant t, e) refl

  same-later : (n begin : ℕ) (ts : List ℕ) → later_blocks n (erased m) begin ts ≡ later_blocks n m begin ts
  unfolding later_blocks
  same-later n begin [] = rw (same-front n m.period) refl
  same-later n begin (t ∷ ts) = rw (same-front n t, same_back n t (first_or m.period ts - t), same-later n begin ts) refl

  same-mode : (n : ℕ) → mode_code n (erased m) ≡ mode_code n m
  unfolding mode_code instants_of
  same-mode n = fun_ext (λ begin. rw (same-instants m.period 0, same_back n 0 (first_or m.period (instants_from m.period m 0)), same-later n begin (instants_from m.period m 0)) refl)

  same-drivers : mode_driver_count (erased m) ≡ mode_driver_count m
  same-drivers = rw (length-map m.updates (map_act erased_update), length-map m.calls (map_act erased_call)) refl

-- ---- the code of all modes, and their beginnings

pub code-erased : (n : ℕ) (ms : List Mode) → code_from n (map erased ms) ≡ code_from n ms
unfolding code_from
code-erased n [] = refl
code-erased n (m ∷ ms) = rw (same-mode m n, same-drivers m, code-erased (n + mode_driver_count m) ms) refl

pub begins-erased : (n : ℕ) (ms : List Mode) (pc : ℕ) → begins_from n (map erased ms) pc ≡ begins_from n ms pc
unfolding begins_from
begins-erased n [] pc = refl
begins-erased n (m ∷ ms) pc = rw (same-mode m n, same-drivers m, begins-erased (n + mode_driver_count m) ms (pc + length (mode_code n m pc))) refl

-- Rows that hold a module's modes have its code.
module _ (M : Module) (modes acts : List ℕ) (n : ℕ) (few : length M.tasks ≤ task_room) (hold : modes_by modes acts n ≡ map erased M.modes) where
  few-tasks : min (length M.tasks) task_room ≡ length M.tasks
  few-tasks = omega arith

  pub code-of : code_by modes acts n (length M.tasks) ≡ code_of M
  unfolding code_of
  code-of = rw (few-tasks, hold, code-erased (length M.tasks) M.modes) refl

  pub begins-of : begins_by modes acts n (length M.tasks) ≡ begins_of M
  unfolding begins_of
  begins-of = rw (few-tasks, hold, begins-erased (length M.tasks) M.modes 0) refl
