-- Laws of what is ahead: item by item, and that behind the first mode of a text only modes are declared.
use Rattle.std.specs.Prelude.{◌≡◌, ℕ, zero, suc, ◌+◌, ◌-◌, ◌<◌, ◌≤◌, Bool, true, false, cond, not, List, [], ◌∷◌, ◌++◌, length, ◌==◌, ◌≢◌, nat_eq, slice_index}
use Rattle.std.proofs.Math.Path.{refl}
use Rattle.std.proofs.Common.{sym, ap, ◌∙◌, arith, eqb-true, ltb-false, ne_eqb}
use mathlib.Core.List.{append-nil}
use Rattle.std.proofs.Math.Option.{none}
use Rattle.text.specs.declared.Name.{Name}
use Rattle.text.specs.declared.State.{State}
use Rattle.text.specs.declared.State.TheVariants as Q
use Rattle.text.specs.declared.Item.{Item}
use Rattle.text.specs.declared.Item.TheVariants as I
use Rattle.text.specs.declared.ReadItem.{ReadItem}
use Rattle.text.specs.Items.{item_at, goes, onto, items_in, items_from, refused_or}
use Rattle.text.proofs.ItemsLaws.{from_on, from-stop, turn-ahead}
use Rattle.text.proofs.Advance.{item-ahead}
use Rattle.text.proofs.PartsLaws.{unsaid}
use Rattle.model.specs.Bytes.{same}
use Rattle.refusals.specs.declared.Row.{Row}
use Rattle.refusals.specs.Names.{letters, named, module_scope, mode_sort, no_type, unknown, is_known, is_unknown, find, row_of}
use Rattle.refusals.specs.NamesLaws.{Sorted, find_first, find-new, rows-sorted}
use Rattle.refusals.specs.Declarations.{modes_in, declares, rows_after}
use Rattle.refusals.specs.Activities.{mode_named}
use Rattle.accepted.specs.Steps.{Comes, module-begins, module-section, constant, sensor, actuator, task-begins, task-section, input, output, task-ends, mode-begins, mode-section, activity, guard-alone, guard, guard-arg, guard-last, invoke-alone, invoke, arg, arg-last, update, switch, mode-ends, module-ends, text-ends, item-comes}
use Rattle.kept.specs.Rows.{state_of, fields_in, item_of, read_of}
use Rattle.kept.specs.Kinds.{each-kind, kind-goes}
use Rattle.kept.specs.Skips.{Skipped, here, over}
use Rattle.targets.specs.Ahead.{begins, mode_ahead, is_target}

-- ---- a turn of the search: r is what was read

module _ (s word : List ℕ) (state : State) (at : ℕ) (r : ReadItem) (h : at ≤ length s) (p : r ≡ item_at s state at) where
  pub ahead-here : begins s word r.item ≡ true → mode_ahead s word (items_from s state at) ≡ true
  unfolding mode_ahead
  ahead-here e = by (goes (item_at s state at).item) refl
    where
      by : (b : Bool) → goes (item_at s state at).item ≡ b → mode_ahead s word (items_from s state at) ≡ true
      by true g = rw (from_on s state at h g) (simp (rw p at e))
      by false g = rw (from-stop s state at h g) (simp (rw p at e))

  pub ahead-on : goes r.item ≡ true → begins s word r.item ≡ false → mode_ahead s word (items_from s state at) ≡ mode_ahead s word (items_from s r.state r.next)
  unfolding mode_ahead
  ahead-on g e = rw (from_on s state at h (rw p at g), p) (simp (rw p at e))

  pub ahead-stop : goes r.item ≡ false → begins s word r.item ≡ false → mode_ahead s word (items_from s state at) ≡ false
  unfolding mode_ahead
  ahead-stop g e = rw (from-stop s state at h (rw p at g)) (simp (rw p at e))

-- the search begins in the state that a number tells
pub entered : (s word : List ℕ) (n : ℕ) {state : State} (at : ℕ) {r : Bool} → state_of n ≡ state → mode_ahead s word (items_from s (state_of n) at) ≡ r → mode_ahead s word (items_from s state at) ≡ r
entered s word n at q e = ap (λ (p : State). mode_ahead s word (items_from s p at)) (sym q) ∙ e

-- a row of another kind than 9 begins no mode
pub kind-quiet : (s word row : List ℕ) → (slice_index row 0 ≢ 9) → begins s word (item_of (fields_in row)) ≡ false
kind-quiet s word row =
    each-kind row (λ (n : ℕ) (item : Item). (n ≢ 9) → begins s word item ≡ false)
    (λ h. refl) (λ h. refl) (λ h. refl) (λ h. refl) (λ h. refl) (λ h. refl) (λ h. refl) (λ h. refl) (λ h. refl) (λ h. absurd (h refl)) (λ h. refl) (λ h. refl) (λ h. refl) (λ h. refl) (λ h. refl) (λ h. refl) (λ h. refl) (λ h. refl) (λ h. refl) (λ h. refl)
    (λ n l h. refl)

pub ahead-end : (s word : List ℕ) (state : State) (at : ℕ) → length s < at → mode_ahead s word (items_from s state at) ≡ false
unfolding mode_ahead items_in
ahead-end s word state at h = let z : length s + 1 - at ≡ 0 = omega arith in rw z

-- items passed over on the way to the next mode begin none
pub quiet_same : (s word : List ℕ) {state at beyond ahead : ℕ} → at ≤ length s → Skipped s state at beyond ahead
    → (ahead ≤ length s) × (at ≤ ahead) × (mode_ahead s word (items_from s (state_of state) at) ≡ mode_ahead s word (items_from s (state_of beyond) ahead))
quiet_same s word h here = (h, omega arith, refl)
quiet_same s word h (over before row told other follows) =
    let w = quiet_same s word h before in
    let going = kind-goes row follows in
    let further = turn-ahead s _ _ (read_of row) w.0 told going in
    (further.1, omega (arith, w.1, further.0), w.2 ∙ ahead-on s word _ _ (read_of row) w.0 told going (kind-quiet s word row other))

-- ---- an item that goes on is no refusal

pub goes-plain : (item : Item) → goes item ≡ true → refused_or item none ≡ none
goes-plain (I.Module name) e = refl
goes-plain I.Section e = refl
goes-plain (I.Constant name value) e = refl
goes-plain (I.Sensor typ name getter) e = refl
goes-plain (I.Actuator typ name value setter) e = refl
goes-plain (I.TaskBegin name) e = refl
goes-plain (I.Input typ name) e = refl
goes-plain (I.Output typ name value) e = refl
goes-plain (I.TaskEnd name) e = refl
goes-plain (I.ModeBegin start at name digits milli) e = refl
goes-plain (I.Activity kind at digits) e = refl
goes-plain (I.Guard name arguments) e = refl
goes-plain (I.GuardArg port) e = refl
goes-plain (I.Invoke task arguments) e = refl
goes-plain (I.Arg port) e = refl
goes-plain (I.Update target source) e = refl
goes-plain (I.Switch name) e = refl
goes-plain I.ModeEnd e = refl
goes-plain I.ModuleEnd e = refl
goes-plain I.End e = refl
goes-plain (I.No number at) e = absurd (unsaid e)

-- ---- behind the first mode

-- the states that come behind the first mode's name
abbrev pub Late : State → Type 0
Late Q.Begin = ⊥
Late (Q.Module k) = 6 ≤ k
Late (Q.Task k) = ⊥
Late (Q.Mode k) = Unit {0}
Late (Q.Act k) = Unit {0}
Late (Q.Guarded k) = Unit {0}
Late (Q.GuardArgs k) = Unit {0}
Late Q.Args = Unit {0}
Late Q.Finish = Unit {0}

-- an item that declares a mode, or nothing
data LateItem (s word : List ℕ) : Item → Type 0 where
  a-mode : (start : Bool) (at : ℕ) (name digits : Name) (milli : Bool) → LateItem s word (I.ModeBegin start at name digits milli)
  quiet : {item : Item} → ((rows : List Row) → declares s rows item ≡ []) → begins s word item ≡ false → LateItem s word item

late-item : {s : List ℕ} {q p : State} {at next : ℕ} {item : Item} (word : List ℕ) → Comes s q at item p next → Late q → LateItem s word item × Late p
late-item word (module-begins name) h = absurd h
late-item word (module-section k w l b) h = absurd (omega arith)
late-item word (constant name value) h = absurd (omega arith)
late-item word (sensor typ name getter) h = absurd (omega arith)
late-item word (actuator typ name value setter) h = absurd (omega arith)
late-item word (task-begins k name l) h = absurd (omega arith)
late-item word (task-section k w l) h = absurd h
late-item word (input typ name) h = absurd h
late-item word (output typ name value) h = absurd h
late-item word (task-ends k name) h = absurd h
late-item word (mode-begins k start begin name digits milli l) h = (a-mode start begin name digits milli, tt)
late-item word (mode-section k w l b) h = (quiet (λ rows. refl) refl, tt)
late-item word (activity k begin digits l) h = (quiet (λ rows. refl) refl, tt)
late-item word (guard-alone k name) h = (quiet (λ rows. refl) refl, tt)
late-item word (guard k name many c) h = (quiet (λ rows. refl) refl, tt)
late-item word (guard-arg k port c) h = (quiet (λ rows. refl) refl, tt)
late-item word (guard-last k port c) h = (quiet (λ rows. refl) refl, tt)
late-item word (invoke-alone name d) h = (quiet (λ rows. refl) refl, tt)
late-item word (invoke name many d c) h = (quiet (λ rows. refl) refl, tt)
late-item word (arg port c) h = (quiet (λ rows. refl) refl, tt)
late-item word (arg-last port c) h = (quiet (λ rows. refl) refl, tt)
late-item word (update name source d) h = (quiet (λ rows. refl) refl, tt)
late-item word (switch k name d a b) h = (quiet (λ rows. refl) refl, tt)
late-item word (mode-ends k) h = (quiet (λ rows. refl) refl, omega arith)
late-item word (module-ends k) h = (quiet (λ rows. refl) refl, tt)
late-item word text-ends h = (quiet (λ rows. refl) refl, tt)

-- the last item of a text declares nothing
pub stop-quiet : (s word : List ℕ) (item : Item) → goes item ≡ false → ((rows : List Row) → declares s rows item ≡ []) × (begins s word item ≡ false)
stop-quiet s word (I.Module name) e = absurd (unsaid (sym e))
stop-quiet s word I.Section e = absurd (unsaid (sym e))
stop-quiet s word (I.Constant name value) e = absurd (unsaid (sym e))
stop-quiet s word (I.Sensor typ name getter) e = absurd (unsaid (sym e))
stop-quiet s word (I.Actuator typ name value setter) e = absurd (unsaid (sym e))
stop-quiet s word (I.TaskBegin name) e = absurd (unsaid (sym e))
stop-quiet s word (I.Input typ name) e = absurd (unsaid (sym e))
stop-quiet s word (I.Output typ name value) e = absurd (unsaid (sym e))
stop-quiet s word (I.TaskEnd name) e = absurd (unsaid (sym e))
stop-quiet s word (I.ModeBegin start at name digits milli) e = absurd (unsaid (sym e))
stop-quiet s word (I.Activity kind at digits) e = absurd (unsaid (sym e))
stop-quiet s word (I.Guard name arguments) e = absurd (unsaid (sym e))
stop-quiet s word (I.GuardArg port) e = absurd (unsaid (sym e))
stop-quiet s word (I.Invoke task arguments) e = absurd (unsaid (sym e))
stop-quiet s word (I.Arg port) e = absurd (unsaid (sym e))
stop-quiet s word (I.Update target source) e = absurd (unsaid (sym e))
stop-quiet s word (I.Switch name) e = absurd (unsaid (sym e))
stop-quiet s word I.ModeEnd e = absurd (unsaid (sym e))
stop-quiet s word I.ModuleEnd e = absurd (unsaid (sym e))
stop-quiet s word I.End e = (λ rows. refl, refl)
stop-quiet s word (I.No number at) e = (λ rows. refl, refl)

module _ (s word : List ℕ) where
  -- what a name means behind items is a mode: by what is declared before them, or else by a mode among them
  record Sought (rows : List Row) (items : List Item) : Type 0 where
    told : nat_eq (find s (rows_after s rows items) module_scope word).sort mode_sort ≡ cond (is_known (find s rows module_scope word)) ((find s rows module_scope word).sort == mode_sort) (mode_ahead s word items)

  sought-none : (rows : List Row) → Sought rows []
  unfolding rows_after mode_ahead
  sought-none rows = record { told = by (is_known row) refl }
    where
      row : Row
      row = find s rows module_scope word

      by : (b : Bool) → is_known row ≡ b → (row.sort == mode_sort) ≡ cond b (row.sort == mode_sort) false
      by true e = refl
      by false e = let l = ltb-false row.sort 7 e in ne_eqb row.sort mode_sort (λ q. omega (arith, q))

  mode-row : (rows : List Row) (name : Name) (value : ℕ) (items : List Item) (start : Bool) (at : ℕ) (digits : Name) (milli : Bool) → Sorted rows
      → Sought (rows ++ (row_of name module_scope mode_sort no_type (modes_in rows) ∷ [])) items → Sought rows (I.ModeBegin start at name digits milli ∷ items)
  unfolding rows_after mode_ahead find
  mode-row rows name value items start at digits milli h on = record { told = by (is_known (find s rows module_scope word)) refl }
    where
      row : Row
      row = row_of name module_scope mode_sort no_type (modes_in rows)

      last : (b : Bool) → same (letters s name) word ≡ b → is_known (find s rows module_scope word) ≡ false
          → ((find s (rows_after s (rows ++ (row ∷ [])) items) module_scope word).sort == mode_sort) ≡ cond b true (mode_ahead s word items)
      last true q e =
          let f : find s (rows ++ (row ∷ [])) module_scope word ≡ row = find-new s rows (row ∷ []) module_scope word h e ∙ simp q in
          rw f at on.told
      last false q e =
          let f : find s (rows ++ (row ∷ [])) module_scope word ≡ unknown = find-new s rows (row ∷ []) module_scope word h e ∙ simp q in
          rw f at on.told

      by : (b : Bool) → is_known (find s rows module_scope word) ≡ b
          → ((find s (rows_after s (rows ++ (row ∷ [])) items) module_scope word).sort == mode_sort) ≡ cond b ((find s rows module_scope word).sort == mode_sort) (cond (same (letters s name) word) true (mode_ahead s word items))
      by true e = on.told ∙ rw (find_first s rows (row ∷ []) module_scope word e) (rw e)
      by false e = last (same (letters s name) word) refl e

  sought-item : (item : Item) → LateItem s word item → (items : List Item) (rows : List Row) → Sorted rows → ((more : List Row) → Sorted more → Sought more items) → Sought rows (item ∷ items)
  unfolding rows_after mode_ahead
  sought-item item (a-mode start at name digits milli) items rows h on =
      mode-row rows name 0 items start at digits milli h (on _ (rows-sorted s rows (item ∷ []) h))
  sought-item item (quiet none-declared other) items rows h on =
      record { told = rw (none-declared rows, append-nil rows, other) (on rows h).told }

  sought-in : (fuel : ℕ) (state : State) (at : ℕ) → at ≤ length s → Late state → (rows : List Row) → Sorted rows → Sought rows (items_in fuel s state at)
  unfolding items_in
  sought-in zero state at h l rows k = sought-none rows
  sought-in (suc fuel) state at h l rows k = by (goes item) refl (λ g n o. sought-in fuel (item_at s state at).state (item_at s state at).next n o)
    where
      item : Item
      item = (item_at s state at).item

      by : (b : Bool) → goes item ≡ b → (goes item ≡ true → (item_at s state at).next ≤ length s → Late (item_at s state at).state → (more : List Row) → Sorted more → Sought more (items_in fuel s (item_at s state at).state (item_at s state at).next))
          → Sought rows (onto b item (items_in fuel s (item_at s state at).state (item_at s state at).next))
      by true g on =
          let w = late-item word (item-comes s state at (goes-plain item g)) l in
          sought-item item w.0 _ rows k (on g (item-ahead s state at h g).1 w.1)
      by false g on = sought-item item (let w = stop-quiet s word item g in quiet w.0 w.1) [] rows k (λ more o. sought-none more)

-- the target of a switch is no mode of the whole text just where it is none by what is declared, and by the items from here on
pub target_told : (s : List ℕ) (rows : List Row) (state : State) (at : ℕ) (name : Name) → at ≤ length s → Late state → Sorted rows
    → is_unknown (mode_named s (rows_after s rows (items_from s state at)) name) ≡ not (is_target s rows (items_from s state at) name)
unfolding named
target_told s rows state at name h l k = by (row.sort == mode_sort) refl ∙ ap not (sought-in s (letters s name) _ state at h l rows k).told
  where
    row : Row
    row = find s (rows_after s rows (items_from s state at)) module_scope (letters s name)

    by : (b : Bool) → (row.sort == mode_sort) ≡ b → is_unknown (cond b row unknown) ≡ not b
    by true e = rw (eqb-true row.sort mode_sort e)
    by false e = refl
