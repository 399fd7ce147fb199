-- Rooms: the rows of each sort are as many as the module's, and within the room (document 01, 'Room on the board').
use Rattle.std.specs.Prelude.{ℕ, ◌+◌, ◌≤◌, ◌<◌, ◌≡◌, refl, List, [], ◌∷◌, ◌++◌, Bool, true, false, cond, eqb, get_or}
use Rattle.std.proofs.Common.{arith, append-nil, eqb-true, leb-false}
use Rattle.std.proofs.Math.Option.{none}
use Rattle.model.specs.Rooms.{constant_room, sensor_room, actuator_room, task_room, mode_room, all_port_room}
use Rattle.model.specs.Modules.{each}
use Rattle.text.specs.declared.Name.{Name}
use Rattle.text.specs.declared.State.{State}
use Rattle.text.specs.declared.State.TheVariants as Q
use Rattle.text.specs.declared.Item.{Item}
use Rattle.text.specs.Items.{syntax_of}
use Rattle.refusals.specs.declared.Row.{Row}
use Rattle.refusals.specs.Verdicts.{Fine}
use Rattle.refusals.specs.Checks.{first}
use Rattle.refusals.specs.ChecksLaws.{fine-parts, fine-one}
use Rattle.refusals.specs.Names.{constant_sort, sensor_sort, actuator_sort, task_sort, mode_sort, input_sort, output_sort, count, is_sort, is_port, is_port_of}
use Rattle.refusals.specs.Values.{type_rules}
use Rattle.refusals.specs.Declarations.{room_of, last_scope, new_rules, new_port_rules}
use Rattle.refusals.specs.Activities.{start_rules}
use Rattle.refusals.specs.Rules.{Env, grow, rules}
use Rattle.refusals.specs.Texts.{verdict_of}
use Rattle.accepted.specs.Steps.{Comes, module-begins, module-section, constant, sensor, actuator, task-begins, task-section, input, output, task-ends, mode-begins, mode-section, activity, guard-alone, guard, guard-arg, guard-last, invoke-alone, invoke, arg, arg-last, update, switch, mode-ends, module-ends, text-ends}
use Rattle.accepted.specs.Folds.{Reaches, whole, all_rows, last_env, last-rows}
use Rattle.accepted.specs.RowsFit.{count_next, count_same}

-- ---- within the room

abbrev pub room_for : ℕ → ℕ
room_for sort = get_or (constant_room ∷ sensor_room ∷ actuator_room ∷ task_room ∷ mode_room ∷ all_port_room ∷ all_port_room ∷ []) sort 0

pub record Roomy (rows : List Row) : Type 0 where
  pub room : (sort : ℕ) → count (is_sort sort) rows ≤ room_for sort

room-one : (rows : List Row) (row : Row) → Roomy rows → count (is_sort row.sort) rows < room_for row.sort → Roomy (rows ++ (row ∷ []))
room-one rows row h l = record { room = λ sort. by sort (eqb row.sort sort) refl }
  where
    by : (sort : ℕ) (b : Bool) → eqb row.sort sort ≡ b → count (is_sort sort) (rows ++ (row ∷ [])) ≤ room_for sort
    by sort true e =
        let n = count_next (is_sort sort) rows row e in
        let k : count (is_sort sort) rows < room_for sort = rw (eqb-true row.sort sort e) at l in
        omega (arith, n, k)
    by sort false e = rw (count_same (is_sort sort) rows row e) (h.room sort)

room-same : (rows : List Row) → Roomy rows → Roomy (rows ++ [])
room-same rows h = rw (append-nil rows) h

new-room : (s : List ℕ) (rows : List Row) (sort : ℕ) (name : Name) → first (new_rules s rows sort name) ≡ Fine → count (is_sort sort) rows < room_of sort
unfolding new_rules
new-room s rows sort name v = leb-false _ _ (fine-one _ _ (fine-one _ _ (fine-one _ _ v).1).1).0

pub port-room : (s : List ℕ) (rows : List Row) (sort : ℕ) (name : Name) → first (new_port_rules s rows sort name) ≡ Fine → (count (is_port_of (last_scope rows) sort) rows < 8) × (count (is_sort sort) rows < 128)
unfolding new_port_rules
port-room s rows sort name v =
    let w = fine-one _ _ (fine-one _ _ (fine-one _ _ v).1).1 in
    (leb-false _ _ w.0, leb-false _ _ (fine-one _ _ w.1).0)

abbrev Rooming : State → ℕ → Env → Type 0
Rooming q at env = Roomy env.rows

module _ (s : List ℕ) (all : List Row) (last : Env) where
  rooming : {q p : State} {at next : ℕ} {item : Item} (env : Env) → Comes s q at item p next → first (rules s all env item) ≡ Fine → Reaches s all last (grow s all env item) → Rooming q at env → Rooming p next (grow s all env item)
  rooming env (module-begins name) v r h = room-same env.rows h
  rooming env (module-section k w l b) v r h = room-same env.rows h
  rooming env (constant name value) v r h = room-one env.rows _ h (new-room s env.rows constant_sort name (fine-parts _ _ v).0)
  rooming env (sensor typ name getter) v r h = room-one env.rows _ h (new-room s env.rows sensor_sort name (fine-parts _ _ (fine-parts (type_rules s typ) _ v).1).0)
  rooming env (actuator typ name value setter) v r h = room-one env.rows _ h (new-room s env.rows actuator_sort name (fine-parts _ _ (fine-parts (type_rules s typ) _ v).1).0)
  rooming env (task-begins k name l) v r h = room-one env.rows _ h (new-room s env.rows task_sort name v)
  rooming env (task-section k w l) v r h = room-same env.rows h
  rooming env (input typ name) v r h = room-one env.rows _ h (port-room s env.rows input_sort name (fine-parts (type_rules s typ) _ v).1).1
  rooming env (output typ name value) v r h = room-one env.rows _ h (port-room s env.rows output_sort name (fine-parts _ _ (fine-parts (type_rules s typ) _ v).1).0).1
  rooming env (task-ends k name) v r h = room-same env.rows h
  rooming env (mode-begins k start begin name digits milli l) v r h = room-one env.rows _ h (new-room s env.rows mode_sort name (fine-parts _ _ (fine-parts (start_rules env.draft.started start begin) _ v).1).0)
  rooming env (mode-section k w l b) v r h = room-same env.rows h
  rooming env (activity k begin digits l) v r h = room-same env.rows h
  rooming env (guard-alone k name) v r h = room-same env.rows h
  rooming env (guard k name many c) v r h = room-same env.rows h
  rooming env (guard-arg k port c) v r h = room-same env.rows h
  rooming env (guard-last k port c) v r h = room-same env.rows h
  rooming env (invoke-alone name d) v r h = room-same env.rows h
  rooming env (invoke name many d c) v r h = room-same env.rows h
  rooming env (arg port c) v r h = room-same env.rows h
  rooming env (arg-last port c) v r h = room-same env.rows h
  rooming env (update name source d) v r h = room-same env.rows h
  rooming env (switch k name d a b) v r h = room-same env.rows h
  rooming env (mode-ends k) v r h = room-same env.rows h
  rooming env (module-ends k) v r h = room-same env.rows h
  rooming env text-ends v r h = room-same env.rows h

no_rows : (sort : ℕ) → count (is_sort sort) [] ≤ room_for sort
unfolding count
no_rows sort = omega arith

pub rows-room : (s : List ℕ) → syntax_of s ≡ none → verdict_of s ≡ Fine → Roomy (all_rows s)
rows-room s e v =
    let w = whole s e v Rooming (λ q p at next item. rooming s (all_rows s) (last_env s)) (record { room = no_rows }) in
    rw (last-rows s) at w.holds

-- ---- the ports are the sensors, the actuators, the inputs and the outputs

port-sort : (n i j k l m : ℕ) → m ≡ i + j + k + l → cond (cond (eqb n 1) true (cond (eqb n 2) true (cond (eqb n 5) true (eqb n 6)))) (m + 1) m ≡ cond (eqb n 1) (i + 1) i + cond (eqb n 2) (j + 1) j + cond (eqb n 5) (k + 1) k + cond (eqb n 6) (l + 1) l
port-sort n i j k l m h = by (eqb n 1) refl (eqb n 2) refl (eqb n 5) refl (eqb n 6) refl
  where
    by : (a : Bool) → eqb n 1 ≡ a → (b : Bool) → eqb n 2 ≡ b → (c : Bool) → eqb n 5 ≡ c → (d : Bool) → eqb n 6 ≡ d → cond (cond a true (cond b true (cond c true d))) (m + 1) m ≡ cond a (i + 1) i + cond b (j + 1) j + cond c (k + 1) k + cond d (l + 1) l
    by true p true q c r d t = absurd (omega (arith, eqb-true n 1 p, eqb-true n 2 q))
    by true p false q true r d t = absurd (omega (arith, eqb-true n 1 p, eqb-true n 5 r))
    by true p false q false r true t = absurd (omega (arith, eqb-true n 1 p, eqb-true n 6 t))
    by true p false q false r false t = omega arith
    by false p true q true r d t = absurd (omega (arith, eqb-true n 2 q, eqb-true n 5 r))
    by false p true q false r true t = absurd (omega (arith, eqb-true n 2 q, eqb-true n 6 t))
    by false p true q false r false t = omega arith
    by false p false q true r true t = absurd (omega (arith, eqb-true n 5 r, eqb-true n 6 t))
    by false p false q true r false t = omega arith
    by false p false q false r true t = omega arith
    by false p false q false r false t = omega arith

pub port-sorts : (rows : List Row) → count is_port rows ≡ count (is_sort sensor_sort) rows + count (is_sort actuator_sort) rows + count (is_sort input_sort) rows + count (is_sort output_sort) rows
unfolding count
port-sorts [] = refl
port-sorts (row ∷ rows) = port-sort row.sort _ _ _ _ _ (port-sorts rows)
