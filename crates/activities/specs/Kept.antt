-- The rules of modes and activities over what is kept of a mode: how many activities, which frequencies, and whether this one acts again.
use Rattle.std.specs.Prelude.{ℕ, ◌*◌, min, List, [], ◌∷◌, Bool, cond, not, ◌&&◌, eqb}
use Rattle.text.specs.declared.Name.{Name}
use Rattle.model.specs.Rooms.{activity_room, frequency_room}
use Rattle.refusals.specs.declared.Row.{Row}
use Rattle.refusals.specs.Checks.{Check, check}
use Rattle.refusals.specs.Names.{is_known, count}
use Rattle.refusals.specs.Refusals.{long_name, not_here, wrong_number, beyond, out_of_range, period_undivided, task_cut, full}
use Rattle.refusals.specs.Values.{number_of}
use Rattle.refusals.specs.Activities.{switch_kind, inputs_of}

-- a period of digits that are kept up to 4294967296
abbrev pub period_kept : List ℕ → Name → Bool → ℕ
period_kept s digits milli = cond milli (min (number_of s digits) 4294967296 * 1000) (min (number_of s digits) 4294967296)

-- an activity's head
unfoldable pub head_checks : ℕ → ℕ → List ℕ → ℕ → ℕ → ℕ → Name → List Check
head_checks activities period frequencies kind at frequency digits =
    full activity_room activities at ∷
    out_of_range (beyond frequency_room frequency) digits ∷
    period_undivided period frequency digits ∷
    task_cut (eqb kind switch_kind) frequencies frequency digits ∷
    []

-- 10, where what acts is known
abbrev pub acts_again : Bool → Row → Name → Check
acts_again again row name = check 10 name.start (is_known row && again)

-- a task invoked, an actuator updated, a switch to what is known as a mode or not
unfoldable pub call_checks : List Row → Bool → Row → Name → ℕ → List Check
call_checks rows again task name arguments =
    long_name name ∷
    not_here task name ∷
    wrong_number (is_known task) (count (inputs_of task) rows) arguments name ∷
    acts_again again task name ∷
    []

unfoldable pub update_checks : Bool → Row → Name → List Check
update_checks again actuator name = long_name name ∷ not_here actuator name ∷ acts_again again actuator name ∷ []

unfoldable pub target_checks : Bool → Name → List Check
target_checks known name = long_name name ∷ check 6 name.start (not known) ∷ []
