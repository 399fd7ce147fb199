-- The items of a text that holds every kind of them, with their places.
use Rattle.std.specs.Prelude.{ℕ, ◌≡◌, refl, List, [], ◌∷◌, true, false}
use Rattle.model.specs.Bytes.{bytes, same, place_in}
use Rattle.text.specs.declared.Name.{Name}
use Rattle.text.specs.declared.Port.{Port}
use Rattle.text.specs.declared.Literal.TheVariants.{Truth, Number, Named}
use Rattle.text.specs.declared.Item.{Item}
use Rattle.text.specs.declared.Item.TheVariants as I
use Rattle.text.specs.Spaces.{spaces}
use Rattle.text.specs.Words.{munch, keywords}
use Rattle.text.specs.Tokens.{key_tokens, sign_token, token_from, token_at}
use Rattle.text.specs.Expect.{refusal, want, want_any, want_word, closed}
use Rattle.text.specs.Productions.{truth_at, minus_at, number_at, named_at, literal_at, port_at, module_at, constant_at, sensor_at, actuator_at, task_at, input_at, output_at, task_end_at, mode_of, mode_at, activity_at, commas_in, count_at, guard_at, guard_arg_at, invoke_at, arg_at, update_at, switch_at}
use Rattle.text.specs.Items.{refused_at, section_of, portion_of, part_of, declaration_at, section_at, module_body_at, task_port_at, portion_at, task_body_at, head_at, part_at, mode_body_at, target_at, act_at, finish_at, item_at, items_in, items_of}

abbrev pub name : ℕ → ℕ → Name
name start end = record { start = start; end = end }

abbrev pub plain : Name → Port
plain first = record { first = first; second = first; dotted = false }

abbrev pub dotted : Name → Name → Port
dotted first second = record { first = first; second = second; dotted = true }

unfoldable pub text : List ℕ
text = bytes "module M { const c = -5; sensor int s uses g; actuator int a := true uses p; task t { input int i; output int o := c; uses f; } start mode m [period=5ms] { task [freq=2] if less(s, c) then t(s); actuator [freq=1] a := t.o; mode [freq=1] if f() then n; } mode n [period=7us] { task [freq=1] t(); } }"

unfoldable pub items : List Item
items =
    I.Module (name 7 8) ∷
    I.Section ∷
    I.Constant (name 17 18) (Number 21 (name 22 23) true) ∷
    I.Section ∷
    I.Sensor (name 32 35) (name 36 37) (name 43 44) ∷
    I.Section ∷
    I.Actuator (name 55 58) (name 59 60) (Truth 64 true) (name 74 75) ∷
    I.TaskBegin (name 82 83) ∷
    I.Section ∷
    I.Input (name 92 95) (name 96 97) ∷
    I.Section ∷
    I.Output (name 106 109) (name 110 111) (Named (name 115 116)) ∷
    I.TaskEnd (name 123 124) ∷
    I.ModeBegin true 128 (name 139 140) (name 149 150) true ∷
    I.Section ∷
    I.Activity 2 161 (name 167 168) ∷
    I.Guard (name 173 177) 2 ∷
    I.GuardArg (plain (name 178 179)) ∷
    I.GuardArg (plain (name 181 182)) ∷
    I.Invoke (name 189 190) 1 ∷
    I.Arg (plain (name 191 192)) ∷
    I.Section ∷
    I.Activity 3 204 (name 210 211) ∷
    I.Update (name 213 214) (dotted (name 218 219) (name 220 221)) ∷
    I.Section ∷
    I.Activity 4 228 (name 234 235) ∷
    I.Guard (name 240 241) 0 ∷
    I.Switch (name 249 250) ∷
    I.ModeEnd ∷
    I.ModeBegin false 254 (name 259 260) (name 269 270) false ∷
    I.Section ∷
    I.Activity 2 281 (name 287 288) ∷
    I.Invoke (name 290 291) 0 ∷
    I.ModeEnd ∷
    I.ModuleEnd ∷
    I.End ∷
    []

pub items-right : items_of text ≡ items
unfolding text items spaces munch keywords same place_in key_tokens sign_token token_from token_at refusal want want_any want_word closed truth_at minus_at number_at named_at literal_at port_at module_at constant_at sensor_at actuator_at task_at input_at output_at task_end_at mode_of mode_at activity_at commas_in count_at guard_at guard_arg_at invoke_at arg_at update_at switch_at refused_at section_of portion_of part_of declaration_at section_at module_body_at task_port_at portion_at task_body_at head_at part_at mode_body_at target_at act_at finish_at item_at items_in
items-right = refl
