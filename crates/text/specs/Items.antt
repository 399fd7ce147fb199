-- The text as a list of items, read one by one, and refusals 2 and 3, the leftmost of them.
-- A working definition: crate grammar states document 01's grammar as data, and proves that the refusals and the items are the grammar's.
use Rattle.std.specs.Prelude.{ℕ, zero, suc, ◌+◌, ◌-◌, List, [], ◌∷◌, Bool, true, false, cond, eqb, ltb, length}
use Rattle.std.proofs.Math.Option.{Option, none, some}
use Rattle.text.specs.declared.Token.TheVariants as T
use Rattle.text.specs.declared.Got.{Got}
use Rattle.text.specs.declared.State.{State}
use Rattle.text.specs.declared.State.TheVariants as Q
use Rattle.text.specs.declared.Item.{Item}
use Rattle.text.specs.declared.Item.TheVariants as I
use Rattle.text.specs.declared.ReadItem.{ReadItem}
use Rattle.text.specs.Tokens.{token_at, code_of, code_at, stands}
use Rattle.text.specs.Expect.{from, refusal, want, want_any, closed}
use Rattle.text.specs.Productions.{module_at, constant_at, sensor_at, actuator_at, task_at, input_at, output_at, task_end_at, mode_at, activity_at, guard_at, guard_arg_at, invoke_at, arg_at, update_at, switch_at}

-- ---- sections: a keyword may stand where its section is not behind

-- no token that may stand here
unfoldable pub refused_at : List ℕ → Got → ReadItem
refused_at s g = closed I.Section Q.Finish (refusal (token_at s g.end))

-- the sections of a module: 2 const, 3 sensor, 4 actuator, 5 task, 6 start or mode, 7 the end; 0 for another token
unfoldable pub section_of : ℕ → ℕ
section_of c =
    cond (eqb c (code_of T.KeyConst)) 2 (
    cond (eqb c (code_of T.KeySensor)) 3 (
    cond (eqb c (code_of T.KeyActuator)) 4 (
    cond (eqb c (code_of T.KeyTask)) 5 (
    cond (eqb c (code_of T.KeyStart)) 6 (
    cond (eqb c (code_of T.KeyMode)) 6 (
    cond (eqb c (code_of T.RightBrace)) 7
    0))))))

-- the sections of a task: 2 input, 3 output, 4 uses
unfoldable pub portion_of : ℕ → ℕ
portion_of c =
    cond (eqb c (code_of T.KeyInput)) 2 (
    cond (eqb c (code_of T.KeyOutput)) 3 (
    cond (eqb c (code_of T.KeyUses)) 4
    0))

-- the sections of a mode: 2 task, 3 actuator, 4 mode, 5 the end
unfoldable pub part_of : ℕ → ℕ
part_of c =
    cond (eqb c (code_of T.KeyTask)) 2 (
    cond (eqb c (code_of T.KeyActuator)) 3 (
    cond (eqb c (code_of T.KeyMode)) 4 (
    cond (eqb c (code_of T.RightBrace)) 5
    0)))

-- ---- bodies

-- a declaration in section k of a module; a task has its keyword each time
unfoldable pub declaration_at : List ℕ → ℕ → Got → ReadItem
declaration_at s k g =
    cond (eqb k 2) (constant_at s g) (
    cond (eqb k 3) (sensor_at s g) (
    cond (eqb k 4) (actuator_at s g) (
    refused_at s g)))

-- section w of a module, in section k
unfoldable pub section_at : List ℕ → ℕ → ℕ → Got → ReadItem
section_at s k w g =
    cond (ltb w k) (refused_at s g) (
    cond (eqb w 5) (task_at s g) (
    cond (eqb w 6) (mode_at s g) (
    cond (eqb w 7) (closed I.ModuleEnd Q.Finish (want T.RightBrace s g)) (
    closed I.Section (Q.Module w) (want_any s g)))))

unfoldable pub module_body_at : List ℕ → ℕ → Got → ReadItem
module_body_at s k g = cond (stands T.Name s g.end) (declaration_at s k g) (section_at s k (section_of (code_at s g.end)) g)

-- a port in section k of a task
unfoldable pub task_port_at : List ℕ → ℕ → Got → ReadItem
task_port_at s k g =
    cond (eqb k 2) (input_at s g) (
    cond (eqb k 3) (output_at s g) (
    refused_at s g))

-- the part of a task that a keyword opens: its inputs, its outputs, or what it uses
unfoldable pub portion_at : List ℕ → ℕ → ℕ → Got → ReadItem
portion_at s k w g =
    cond (ltb w k) (refused_at s g) (
    cond (eqb w 4) (task_end_at s g) (
    closed I.Section (Q.Task w) (want_any s g)))

-- inside a task: another port, or another part
unfoldable pub task_body_at : List ℕ → ℕ → Got → ReadItem
task_body_at s k g = cond (stands T.Name s g.end) (task_port_at s k g) (portion_at s k (portion_of (code_at s g.end)) g)

-- an activity in section k of a mode, where there is a section
unfoldable pub head_at : List ℕ → ℕ → Got → ReadItem
head_at s k g = cond (eqb k 1) (refused_at s g) (activity_at s k g)

-- the part of a mode that a keyword opens
unfoldable pub part_at : List ℕ → ℕ → ℕ → Got → ReadItem
part_at s k w g =
    cond (ltb w k) (refused_at s g) (
    cond (eqb w 5) (closed I.ModeEnd (Q.Module 6) (want T.RightBrace s g)) (
    closed I.Section (Q.Mode w) (want_any s g)))

unfoldable pub mode_body_at : List ℕ → ℕ → Got → ReadItem
mode_body_at s k g = cond (stands T.LeftBracket s g.end) (head_at s k g) (part_at s k (part_of (code_at s g.end)) g)

-- what an activity of section k does
unfoldable pub target_at : List ℕ → ℕ → Got → ReadItem
target_at s k g =
    cond (eqb k 2) (invoke_at s g) (
    cond (eqb k 3) (update_at s g) (
    switch_at s g))

-- behind "]": a guard, or what is done
unfoldable pub act_at : List ℕ → ℕ → Got → ReadItem
act_at s k g = cond (stands T.KeyIf s g.end) (guard_at s k g) (target_at s k g)

-- the end of the text
unfoldable pub finish_at : List ℕ → Got → ReadItem
finish_at s g = closed I.End Q.Finish (want T.End s g)

-- the item at a place, in a state
unfoldable pub item_at : List ℕ → State → ℕ → ReadItem
item_at s Q.Begin at = module_at s (from at)
item_at s (Q.Module k) at = module_body_at s k (from at)
item_at s (Q.Task k) at = task_body_at s k (from at)
item_at s (Q.Mode k) at = mode_body_at s k (from at)
item_at s (Q.Act k) at = act_at s k (from at)
item_at s (Q.Guarded k) at = target_at s k (from at)
item_at s (Q.GuardArgs k) at = guard_arg_at s k (from at)
item_at s Q.Args at = arg_at s (from at)
item_at s Q.Finish at = finish_at s (from at)

-- ---- the items of a text

-- neither the end nor a refusal
abbrev pub goes : Item → Bool
goes (I.Module name) = true
goes I.Section = true
goes (I.Constant name value) = true
goes (I.Sensor typ name getter) = true
goes (I.Actuator typ name value setter) = true
goes (I.TaskBegin name) = true
goes (I.Input typ name) = true
goes (I.Output typ name value) = true
goes (I.TaskEnd name) = true
goes (I.ModeBegin start at name digits milli) = true
goes (I.Activity kind at digits) = true
goes (I.Guard name count) = true
goes (I.GuardArg port) = true
goes (I.Invoke task count) = true
goes (I.Arg port) = true
goes (I.Update actuator source) = true
goes (I.Switch name) = true
goes I.ModeEnd = true
goes I.ModuleEnd = true
goes I.End = false
goes (I.No number at) = false

-- an item, and the items behind it where it goes on
abbrev pub onto : Bool → Item → List Item → List Item
onto true item items = item ∷ items
onto false item items = item ∷ []

-- at most so many items from a place on
unfoldable pub items_in : ℕ → List ℕ → State → ℕ → List Item
items_in zero s state at = []
items_in (suc fuel) s state at =
    let read = item_at s state at in
    let on = items_in fuel s read.state read.next in
    onto (goes read.item) read.item on

-- the items from a place on; each is at least a byte
abbrev pub items_from : List ℕ → State → ℕ → List Item
items_from s state at = items_in (length s + 1 - at) s state at

-- the items of a text
abbrev pub items_of : List ℕ → List Item
items_of s = items_from s Q.Begin 0

-- ---- refusals 2 and 3

-- A refusal has a number and a byte offset.
pub record Refusal : Type 0 where
  pub number : ℕ
  pub offset : ℕ

-- a refusal by number and offset
abbrev pub refuse : ℕ → ℕ → Option Refusal
refuse number offset = some (record { number = number; offset = offset })

-- the refusal that an item is, or else this answer
abbrev pub refused_or : Item → Option Refusal → Option Refusal
refused_or (I.Module name) answer = answer
refused_or I.Section answer = answer
refused_or (I.Constant name value) answer = answer
refused_or (I.Sensor typ name getter) answer = answer
refused_or (I.Actuator typ name value setter) answer = answer
refused_or (I.TaskBegin name) answer = answer
refused_or (I.Input typ name) answer = answer
refused_or (I.Output typ name value) answer = answer
refused_or (I.TaskEnd name) answer = answer
refused_or (I.ModeBegin start at name digits milli) answer = answer
refused_or (I.Activity kind at digits) answer = answer
refused_or (I.Guard name count) answer = answer
refused_or (I.GuardArg port) answer = answer
refused_or (I.Invoke task count) answer = answer
refused_or (I.Arg port) answer = answer
refused_or (I.Update actuator source) answer = answer
refused_or (I.Switch name) answer = answer
refused_or I.ModeEnd answer = answer
refused_or I.ModuleEnd answer = answer
refused_or I.End answer = answer
refused_or (I.No number at) answer = refuse number at

-- the first refusal among items
unfoldable pub refused_in : List Item → Option Refusal
refused_in [] = none
refused_in (item ∷ items) =
    let on = refused_in items in
    refused_or item on

-- the leftmost 2 or 3 of a text
abbrev pub syntax_of : List ℕ → Option Refusal
syntax_of s = refused_in (items_of s)
