-- The target of a switch: a mode may be named earlier than it is declared, so it is looked for in the items to come.
use Rattle.std.specs.Prelude.{ℕ, Bool, true, false, cond, List, [], ◌∷◌, ◌==◌}
use Rattle.text.specs.declared.Name.{Name}
use Rattle.text.specs.declared.Item.{Item}
use Rattle.text.specs.declared.Item.TheVariants as I
use Rattle.model.specs.Bytes.{same}
use Rattle.refusals.specs.declared.Row.{Row}
use Rattle.refusals.specs.Names.{letters, meaning, module_scope, mode_sort, is_known}

-- whether an item begins a mode of this name
abbrev pub begins : List ℕ → List ℕ → Item → Bool
begins s word (I.Module name) = false
begins s word I.Section = false
begins s word (I.Constant name value) = false
begins s word (I.Sensor typ name getter) = false
begins s word (I.Actuator typ name value setter) = false
begins s word (I.TaskBegin name) = false
begins s word (I.Input typ name) = false
begins s word (I.Output typ name value) = false
begins s word (I.TaskEnd name) = false
begins s word (I.ModeBegin start at name digits milli) = same (letters s name) word
begins s word (I.Activity kind at digits) = false
begins s word (I.Guard name arguments) = false
begins s word (I.GuardArg port) = false
begins s word (I.Invoke task arguments) = false
begins s word (I.Arg port) = false
begins s word (I.Update actuator source) = false
begins s word (I.Switch name) = false
begins s word I.ModeEnd = false
begins s word I.ModuleEnd = false
begins s word I.End = false
begins s word (I.No number at) = false

-- whether one of these items does
unfoldable pub mode_ahead : List ℕ → List ℕ → List Item → Bool
mode_ahead s word [] = false
mode_ahead s word (item ∷ items) =
    let on = mode_ahead s word items in
    cond (begins s word item) true on

-- whether a name means a mode: by what is declared, or else by the items to come
abbrev pub is_target : List ℕ → List Row → List Item → Name → Bool
is_target s rows items name = cond (is_known (meaning s rows module_scope name)) ((meaning s rows module_scope name).sort == mode_sort) (mode_ahead s (letters s name) items)
