-- What is kept by each item of a text without 2 and 3, as it is put into a state, holds of the state behind the last.
use Prim.Native.Nat.{ℕ, zero, suc, ◌+◌, ◌-◌, ◌≤◌, ◌<◌}
use Rattle.std.proofs.Common.{arith, sym, ap, ◌∙◌, length-append}
use Rattle.std.specs.Prelude.{◌≡◌, List, Bool, true, false, length}
use Rattle.std.proofs.Math.Path.{refl}
use Rattle.std.proofs.Math.Option.{Option, none}
use Rattle.text.specs.declared.State.{State}
use Rattle.text.specs.declared.State.TheVariants as Q
use Rattle.text.specs.declared.Item.{Item}
use Rattle.text.specs.Items.{item_at, goes, items_from, items_of, Refusal, refused_or, refused_in, syntax_of}
use Rattle.text.proofs.ItemsLaws.{from_on, from-stop, turn_on}
use Rattle.text.proofs.Advance.{item-ahead}
use Rattle.text.proofs.PartsLaws.{unsaid}
use Rattle.refusals.specs.Declarations.{declares}
use Rattle.refusals.specs.Rules.{Env, nothing, grow, env_after}
use Rattle.names.specs.Tables.{rows_in}
use Rattle.accepted.specs.Steps.{Comes, module-begins, module-section, constant, sensor, actuator, task-begins, task-section, input, output, task-ends, mode-begins, mode-section, activity, guard-alone, guard, guard-arg, guard-last, invoke-alone, invoke, arg, arg-last, update, switch, mode-ends, module-ends, text-ends, item-comes}
use Rattle.accepted.specs.Folds.{rows-first, all_rows, last_env, last-rows}
use Rattle.build.specs.Walks.{declaring, runs, declares-many, rows-front}

-- an item that neither goes on nor refuses comes last
comes-last : {s : List ℕ} {q p : State} {at next : ℕ} {item : Item} → Comes s q at item p next → goes item ≡ false → p ≡ Q.Finish
comes-last (module-begins name) e = absurd (unsaid (sym e))
comes-last (module-section k w h b) e = absurd (unsaid (sym e))
comes-last (constant name value) e = absurd (unsaid (sym e))
comes-last (sensor typ name getter) e = absurd (unsaid (sym e))
comes-last (actuator typ name value setter) e = absurd (unsaid (sym e))
comes-last (task-begins k name h) e = absurd (unsaid (sym e))
comes-last (task-section k w h) e = absurd (unsaid (sym e))
comes-last (input typ name) e = absurd (unsaid (sym e))
comes-last (output typ name value) e = absurd (unsaid (sym e))
comes-last (task-ends k name) e = absurd (unsaid (sym e))
comes-last (mode-begins k start begin name digits milli h) e = absurd (unsaid (sym e))
comes-last (mode-section k w h b) e = absurd (unsaid (sym e))
comes-last (activity k begin digits h) e = absurd (unsaid (sym e))
comes-last (guard-alone k name) e = absurd (unsaid (sym e))
comes-last (guard k name count c) e = absurd (unsaid (sym e))
comes-last (guard-arg k port c) e = absurd (unsaid (sym e))
comes-last (guard-last k port c) e = absurd (unsaid (sym e))
comes-last (invoke-alone name d) e = absurd (unsaid (sym e))
comes-last (invoke name count d c) e = absurd (unsaid (sym e))
comes-last (arg port c) e = absurd (unsaid (sym e))
comes-last (arg-last port c) e = absurd (unsaid (sym e))
comes-last (update name source d) e = absurd (unsaid (sym e))
comes-last (switch k name d a b) e = absurd (unsaid (sym e))
comes-last (mode-ends k) e = absurd (unsaid (sym e))
comes-last (module-ends k) e = absurd (unsaid (sym e))
comes-last text-ends e = refl

module _ {B : Type 0} (s cells : List ℕ) (all : ℕ) (there : rows_in cells all ≡ all_rows s) (on : ℕ → Item → B → B) (Holds : State → Env → B → Type 0)
    (keeps : (q p : State) (at next : ℕ) (item : Item) (env : Env) (n : ℕ) (b : B) → Comes s q at item p next → rows_in cells n ≡ env.rows → Holds q env b → Holds p (grow s (all_rows s) env item) (on n item b)) where
  -- behind the items from a place on
  record Over (q : State) (at n : ℕ) (b : B) : Type 0 where
    over : Holds Q.Finish (last_env s) (runs on n (items_from s q at) b)

  -- the rows known behind an item are the first of the array
  known : (env : Env) (items : List Item) → env_after s (all_rows s) env items ≡ last_env s → rows_in cells (length env.rows) ≡ env.rows
  known env items to =
      let (more, e) = rows-first {s = s} {all = all_rows s} {last = last_env s} env (record { items = items; to = to }) in
      rows-front cells all 0 env.rows more (there ∙ sym (last-rows s) ∙ e)

  along : (fuel : ℕ) (q : State) (at : ℕ) (env : Env) (n : ℕ) (b : B) → at ≤ length s → length s < at + fuel → refused_in (items_from s q at) ≡ none
      → env_after s (all_rows s) env (items_from s q at) ≡ last_env s → length env.rows ≡ n → Holds q env b → Over q at n b
  unfolding refused_in env_after runs
  along zero q at env n b h f r to k i = absurd (omega arith)
  along (suc fuel) q at env n b h f r to k i =
      by (goes item) refl (λ a c. along fuel (item_at s q at).state next (grow s (all_rows s) env item) (n + declaring item) (on n item b) c (omega (arith, a)))
    where
      item : Item
      item = (item_at s q at).item

      next : ℕ
      next = (item_at s q at).next

      rows : rows_in cells n ≡ env.rows
      rows = rw k at (known env (items_from s q at) to)

      by : (t : Bool) → goes item ≡ t
          → (at < next → next ≤ length s → refused_in (items_from s (item_at s q at).state next) ≡ none → env_after s (all_rows s) (grow s (all_rows s) env item) (items_from s (item_at s q at).state next) ≡ last_env s
          → length (grow s (all_rows s) env item).rows ≡ n + declaring item → Holds (item_at s q at).state (grow s (all_rows s) env item) (on n item b) → Over (item_at s q at).state next (n + declaring item) (on n item b))
          → Over q at n b
      by true g further =
          let a = item-ahead s q at h g in
          let e = from_on s q at h g in
          let rest = sym (turn_on s q at (item_at s q at) h refl g) ∙ r in
          let whole : refused_or item (refused_in (items_from s (item_at s q at).state next)) ≡ none = sym (ap refused_in e) ∙ r in
          let fine : refused_or item none ≡ none = ap (λ (o : Option Refusal). refused_or item o) (sym rest) ∙ whole in
          let to' : env_after s (all_rows s) (grow s (all_rows s) env item) (items_from s (item_at s q at).state next) ≡ last_env s = ap (λ (l : List Item). env_after s (all_rows s) env l) (sym e) ∙ to in
          let l = length-append env.rows (declares s env.rows item) in
          let d = declares-many s env.rows item in
          let w = further a.0 a.1 rest to' (omega (arith, l, d, k)) (keeps _ _ _ _ item env n b (item-comes s q at fine) rows i) in
          record { over = rw e w.over }
      by false g further =
          let e = from-stop s q at h g in
          let fine : refused_or item none ≡ none = sym (ap refused_in e) ∙ r in
          let c = item-comes s q at fine in
          let to' : grow s (all_rows s) env item ≡ last_env s = ap (λ (l : List Item). env_after s (all_rows s) env l) (sym e) ∙ to in
          let w = keeps _ _ _ _ item env n b c rows i in
          let z : Holds Q.Finish (grow s (all_rows s) env item) (on n item b) = rw (comes-last c g) at w in
          record { over = rw e (rw to' at z) }

  pub throughout : syntax_of s ≡ none → (b : B) → Holds Q.Begin nothing b → Holds Q.Finish (last_env s) (runs on 0 (items_of s) b)
  throughout e b i = (along (length s + 1) Q.Begin 0 nothing 0 b (omega arith) (omega arith) e refl refl i).over
