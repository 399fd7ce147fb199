-- What holds at the beginning of a text, and is kept by each item that no rule refuses, holds at its end.
use Prim.Native.Nat.{ℕ, zero, suc, ◌+◌, ◌-◌, ◌≤◌, ◌<◌}
use Rattle.std.specs.Prelude.{◌≡◌, List, [], ◌∷◌, ◌++◌, Bool, true, false, length}
use Rattle.std.proofs.Math.Path.{refl}
use Rattle.std.proofs.Common.{sym, ap, ◌∙◌, append-nil, append_assoc, arith}
use Rattle.std.proofs.Math.Option.{none, some}
use Rattle.text.specs.declared.State.{State}
use Rattle.text.specs.declared.State.TheVariants as Q
use Rattle.text.specs.declared.Item.{Item}
use Rattle.text.specs.declared.Item.TheVariants as I
use Rattle.text.specs.Items.{item_at, goes, onto, items_in, items_of, refused_or, refused_in, syntax_of}
use Rattle.text.proofs.Advance.{item-ahead}
use Rattle.text.proofs.PartsLaws.{unsaid}
use Rattle.refusals.specs.declared.Row.{Row}
use Rattle.refusals.specs.Verdicts.{Fine}
use Rattle.refusals.specs.Checks.{first}
use Rattle.refusals.specs.ChecksLaws.{fine-parts}
use Rattle.refusals.specs.Declarations.{declares, rows_after}
use Rattle.refusals.specs.Activities.{end_rules}
use Rattle.refusals.specs.Rules.{Env, nothing, grow, rules, rules_from, env_after}
use Rattle.refusals.specs.NamesLaws.{env-rows}
use Rattle.refusals.specs.Texts.{declared_by, env_by, verdict_of}
use Rattle.accepted.specs.NamedItems.{Worded, item-worded}
use Rattle.accepted.specs.Steps.{Comes, module-begins, module-section, constant, sensor, actuator, task-begins, task-section, input, output, task-ends, mode-begins, mode-section, activity, guard-alone, guard, guard-arg, guard-last, invoke-alone, invoke, arg, arg-last, update, switch, mode-ends, module-ends, text-ends, item-comes}

-- an item that neither goes on nor refuses is the end, and comes last
ends_so : {s : List ℕ} {q p : State} {at next : ℕ} {item : Item} → Comes s q at item p next → goes item ≡ false → (item ≡ I.End) × (p ≡ Q.Finish)
ends_so (module-begins name) e = absurd (unsaid (sym e))
ends_so (module-section k w h b) e = absurd (unsaid (sym e))
ends_so (constant name value) e = absurd (unsaid (sym e))
ends_so (sensor typ name getter) e = absurd (unsaid (sym e))
ends_so (actuator typ name value setter) e = absurd (unsaid (sym e))
ends_so (task-begins k name h) e = absurd (unsaid (sym e))
ends_so (task-section k w h) e = absurd (unsaid (sym e))
ends_so (input typ name) e = absurd (unsaid (sym e))
ends_so (output typ name value) e = absurd (unsaid (sym e))
ends_so (task-ends k name) e = absurd (unsaid (sym e))
ends_so (mode-begins k start begin name digits milli h) e = absurd (unsaid (sym e))
ends_so (mode-section k w h b) e = absurd (unsaid (sym e))
ends_so (activity k begin digits h) e = absurd (unsaid (sym e))
ends_so (guard-alone k name) e = absurd (unsaid (sym e))
ends_so (guard k name count c) e = absurd (unsaid (sym e))
ends_so (guard-arg k port c) e = absurd (unsaid (sym e))
ends_so (guard-last k port c) e = absurd (unsaid (sym e))
ends_so (invoke-alone name d) e = absurd (unsaid (sym e))
ends_so (invoke name count d c) e = absurd (unsaid (sym e))
ends_so (arg port c) e = absurd (unsaid (sym e))
ends_so (arg-last port c) e = absurd (unsaid (sym e))
ends_so (update name source d) e = absurd (unsaid (sym e))
ends_so (switch k name d a b) e = absurd (unsaid (sym e))
ends_so (mode-ends k) e = absurd (unsaid (sym e))
ends_so (module-ends k) e = absurd (unsaid (sym e))
ends_so text-ends e = (refl, refl)

-- an item that goes on refuses nothing
passes_on : (item : Item) (items : List Item) → goes item ≡ true → refused_in (item ∷ items) ≡ none → (refused_or item none ≡ none) × (refused_in items ≡ none)
unfolding refused_in
passes_on (I.Module name) items e r = (refl, r)
passes_on I.Section items e r = (refl, r)
passes_on (I.Constant name value) items e r = (refl, r)
passes_on (I.Sensor typ name getter) items e r = (refl, r)
passes_on (I.Actuator typ name value setter) items e r = (refl, r)
passes_on (I.TaskBegin name) items e r = (refl, r)
passes_on (I.Input typ name) items e r = (refl, r)
passes_on (I.Output typ name value) items e r = (refl, r)
passes_on (I.TaskEnd name) items e r = (refl, r)
passes_on (I.ModeBegin start at name digits milli) items e r = (refl, r)
passes_on (I.Activity kind at digits) items e r = (refl, r)
passes_on (I.Guard name count) items e r = (refl, r)
passes_on (I.GuardArg port) items e r = (refl, r)
passes_on (I.Invoke task count) items e r = (refl, r)
passes_on (I.Arg port) items e r = (refl, r)
passes_on (I.Update target source) items e r = (refl, r)
passes_on (I.Switch name) items e r = (refl, r)
passes_on I.ModeEnd items e r = (refl, r)
passes_on I.ModuleEnd items e r = (refl, r)
passes_on I.End items e r = absurd (unsaid e)
passes_on (I.No number at) items e r = absurd (unsaid e)

module _ (s : List ℕ) (all : List Row) (last : Env) where
  -- from what is known here some items lead to what is known at the end
  pub record Reaches (env : Env) : Type 0 where
    pub items : List Item
    pub to : env_after s all env items ≡ last

  -- each item that no rule refuses keeps it
  abbrev pub Keeps : (State → ℕ → Env → Type 0) → Type 0
  Keeps Holds =
      (q p : State) (at next : ℕ) (item : Item) (env : Env) → Comes s q at item p next → first (rules s all env item) ≡ Fine → Reaches (grow s all env item) → Holds q at env → Holds p next (grow s all env item)

  -- the same, where the item's names may be used too
  abbrev pub KeepsNamed : (State → ℕ → Env → Type 0) → Type 0
  KeepsNamed Holds =
      (q p : State) (at next : ℕ) (item : Item) (env : Env) → Comes s q at item p next → Worded s item → first (rules s all env item) ≡ Fine → Reaches (grow s all env item) → Holds q at env → Holds p next (grow s all env item)

  pub record Ends (Holds : State → ℕ → Env → Type 0) : Type 0 where
    pub place : ℕ
    pub holds : Holds Q.Finish place last
    pub before : Env
    pub end-fine : first (end_rules before.draft.started (length s)) ≡ Fine
    pub same-draft : before.draft ≡ last.draft

  pub folds : (Holds : State → ℕ → Env → Type 0) → KeepsNamed Holds → (fuel : ℕ) (q : State) (at : ℕ) (env : Env) → at ≤ length s → length s < at + fuel
      → env_after s all env (items_in fuel s q at) ≡ last → refused_in (items_in fuel s q at) ≡ none → first (rules_from s all env (items_in fuel s q at)) ≡ Fine → Holds q at env → Ends Holds
  unfolding items_in env_after rules_from refused_in
  folds Holds keeps zero q at env h f to r v i = absurd (omega arith)
  folds Holds keeps (suc fuel) q at env h f to r v i =
      by (goes item) refl to r v (λ a b. folds Holds keeps fuel (item_at s q at).state next (grow s all env item) b (omega (arith, a)))
    where
      item : Item
      item = (item_at s q at).item

      next : ℕ
      next = (item_at s q at).next

      more : List Item
      more = items_in fuel s (item_at s q at).state next

      at-end : {here : Item} {p : State} → here ≡ I.End → p ≡ Q.Finish → first (rules s all env here) ≡ Fine → grow s all env here ≡ last → Holds p next (grow s all env here) → Ends Holds
      at-end e f v to w =
          let v' : first (rules s all env I.End) ≡ Fine = rw e at v in
          let to' : grow s all env I.End ≡ last = rw e at to in
          let w' : Holds Q.Finish next (grow s all env I.End) = rw (e, f) at w in
          record { place = next; holds = rw to' at w'; before = env; end-fine = v'; same-draft = ap (λ (known : Env). known.draft) to' }

      by : (b : Bool) → goes item ≡ b → env_after s all env (onto b item more) ≡ last → refused_in (onto b item more) ≡ none → first (rules_from s all env (onto b item more)) ≡ Fine
          → (at < next → next ≤ length s → env_after s all (grow s all env item) more ≡ last → refused_in more ≡ none → first (rules_from s all (grow s all env item) more) ≡ Fine → Holds (item_at s q at).state next (grow s all env item) → Ends Holds) → Ends Holds
      by true e to r v on =
          let a = item-ahead s q at h e in
          let (v0, v1) = fine-parts (rules s all env item) (rules_from s all (grow s all env item) more) v in
          let (n, rest) = passes_on item more e r in
          on a.0 a.1 to rest v1 (keeps _ _ _ _ _ env (item-comes s q at n) (item-worded s q at) v0 (record { items = more; to = to }) i)
      by false e to r v on =
          let (v0, v1) = fine-parts (rules s all env item) [] v in
          let (c, d) = ends_so (item-comes s q at r) e in
          at-end c d v0 to (keeps _ _ _ _ _ env (item-comes s q at r) (item-worded s q at) v0 (record { items = []; to = to }) i)

-- ---- what grows

rows_more : (s : List ℕ) (rows : List Row) (items : List Item) → (more : List Row) × (rows_after s rows items ≡ rows ++ more)
unfolding rows_after
rows_more s rows [] = ([], sym (append-nil rows))
rows_more s rows (item ∷ items) =
    let (more, e) = rows_more s (rows ++ declares s rows item) items in
    (declares s rows item ++ more, e ∙ append_assoc rows (declares s rows item) more)

-- the rows known so far are the first of all
pub rows-first : {s : List ℕ} {all : List Row} {last : Env} (env : Env) → Reaches s all last env → (more : List Row) × (last.rows ≡ env.rows ++ more)
rows-first {s} {all} {last} env r =
    let (more, e) = rows_more s env.rows r.items in
    (more, ap (λ (known : Env). known.rows) (sym r.to) ∙ env-rows s all env r.items ∙ e)

-- ---- the whole text

module _ (s : List ℕ) where
  abbrev pub all_rows : List Row
  all_rows = declared_by s (items_of s)

  abbrev pub last_env : Env
  last_env = env_by s (items_of s)

  pub last-rows : last_env.rows ≡ all_rows
  last-rows = env-rows s all_rows nothing (items_of s)

  pub whole-named : syntax_of s ≡ none → verdict_of s ≡ Fine → (Holds : State → ℕ → Env → Type 0) → KeepsNamed s all_rows last_env Holds → Holds Q.Begin 0 nothing → Ends s all_rows last_env Holds
  whole-named e v Holds keeps i = folds s all_rows last_env Holds keeps (length s + 1 - 0) Q.Begin 0 nothing (omega arith) (omega arith) refl e v i

  pub whole : syntax_of s ≡ none → verdict_of s ≡ Fine → (Holds : State → ℕ → Env → Type 0) → Keeps s all_rows last_env Holds → Holds Q.Begin 0 nothing → Ends s all_rows last_env Holds
  whole e v Holds keeps i = whole-named e v Holds (λ q p at next item env c w. keeps q p at next item env c) i
