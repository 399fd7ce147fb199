-- A start mode: one that was seen is under way or among the modes.
use Rattle.std.specs.Prelude.{ℕ, suc, ◌+◌, ◌<◌, ◌≡◌, refl, List, [], ◌∷◌, ◌++◌, Bool, true, false, cond, ◌||◌, ◌&&◌, ◌⊎◌, length}
use Rattle.std.proofs.Common.{arith, ◌∙◌, inl, inr, ⊎_elim}
use Rattle.std.proofs.Math.Option.{none}
use Rattle.std.proofs.lemmas.Bool.{not-false}
use Rattle.model.specs.Modules.{Mode}
use Rattle.text.specs.declared.State.{State}
use Rattle.text.specs.declared.State.TheVariants as Q
use Rattle.text.specs.declared.Item.{Item}
use Rattle.text.specs.Items.{syntax_of}
use Rattle.timing.specs.SlotLaws.{or_elim}
use Rattle.timing.specs.Calls.{start_from, start_mode}
use Rattle.refusals.specs.declared.Row.{Row}
use Rattle.refusals.specs.Verdicts.{Fine}
use Rattle.refusals.specs.Checks.{first}
use Rattle.refusals.specs.ChecksLaws.{fine-one, fine-parts}
use Rattle.refusals.specs.Activities.{start_rules, end_rules}
use Rattle.refusals.specs.Draft.{Draft}
use Rattle.refusals.specs.Rules.{Env, grow, rules}
use Rattle.refusals.specs.Texts.{verdict_of, module_of}
use Rattle.accepted.specs.Steps.{plain, guarded, Comes, module-begins, module-section, constant, sensor, actuator, task-begins, task-section, input, output, task-ends, mode-begins, mode-section, activity, guard-alone, guard, guard-arg, guard-last, invoke-alone, invoke, arg, arg-last, update, switch, mode-ends, module-ends, text-ends}
use Rattle.accepted.specs.Folds.{Reaches, whole, all_rows, last_env}

start-more : (n : ℕ) (modes : List Mode) (mode : Mode) → (start_from n modes < n + length modes) ⊎ (mode.start ≡ true) → start_from n (modes ++ (mode ∷ [])) < n + length (modes ++ (mode ∷ []))
start-more n [] mode (inl l) = absurd (omega arith)
start-more n [] mode (inr e) = rw e (omega arith)
start-more n (other ∷ modes) mode h = by other.start h (start-more (suc n) modes mode)
  where
    by : (b : Bool) → (cond b n (start_from (suc n) modes) < n + suc (length modes)) ⊎ (mode.start ≡ true) → ((start_from (suc n) modes < suc n + length modes) ⊎ (mode.start ≡ true) → start_from (suc n) (modes ++ (mode ∷ [])) < suc n + length (modes ++ (mode ∷ [])))
        → cond b n (start_from (suc n) (modes ++ (mode ∷ []))) < n + suc (length (modes ++ (mode ∷ [])))
    by true h on = omega arith
    by false (inl l) on = let k = on (inl (omega arith)) in omega (arith, k)
    by false (inr e) on = let k = on (inr e) in omega (arith, k)

-- among the modes; or under way
abbrev Among : Draft → Type 0
Among draft = draft.started ≡ true → start_from 0 draft.built.modes < length draft.built.modes

abbrev Begun : Draft → Type 0
Begun draft = draft.started ≡ true → (start_from 0 draft.built.modes < length draft.built.modes) ⊎ (draft.mode.start ≡ true)

abbrev Starting : State → ℕ → Env → Type 0
Starting Q.Begin at env = Among env.draft
Starting (Q.Module k) at env = Among env.draft
Starting (Q.Task k) at env = Among env.draft
Starting (Q.Mode k) at env = Begun env.draft
Starting (Q.Act k) at env = Begun env.draft
Starting (Q.Guarded k) at env = Begun env.draft
Starting (Q.GuardArgs k) at env = Begun env.draft
Starting Q.Args at env = Begun env.draft
Starting Q.Finish at env = Among env.draft

ended : (modes : List Mode) (mode : Mode) → (start_from 0 modes < length modes) ⊎ (mode.start ≡ true) → start_from 0 (modes ++ (mode ∷ [])) < length (modes ++ (mode ∷ []))
ended modes mode h = let k = start-more 0 modes mode (⊎_elim (λ l. inl (omega arith)) (λ e. inr e) h) in omega (arith, k)

module _ (s : List ℕ) (all : List Row) (last : Env) where
  starting : {q p : State} {at next : ℕ} {item : Item} (env : Env) → Comes s q at item p next → first (rules s all env item) ≡ Fine → Reaches s all last (grow s all env item) → Starting q at env → Starting p next (grow s all env item)
  starting env (module-begins name) v r h = h
  starting env (module-section k w l b) v r h = h
  starting env (constant name value) v r h = h
  starting env (sensor typ name getter) v r h = h
  starting env (actuator typ name value setter) v r h = h
  starting env (task-begins k name l) v r h = h
  starting env (task-section k w l) v r h = h
  starting env (input typ name) v r h = h
  starting env (output typ name value) v r h = h
  starting env (task-ends k name) v r h = h
  starting env (mode-begins k start begin name digits milli l) v r h = λ e. or_elim env.draft.started start e (λ d. inl (h d)) (λ d. inr d)
  starting env (mode-section k w l b) v r h = h
  starting env (activity k begin digits l) v r h = h
  starting env (guard-alone k name) v r h = h
  starting env (guard k name many c) v r h = h
  starting env (guard-arg k port c) v r h = h
  starting env (guard-last k port c) v r h = h
  starting env (invoke-alone name plain) v r h = h
  starting env (invoke-alone name guarded) v r h = h
  starting env (invoke name many plain c) v r h = h
  starting env (invoke name many guarded c) v r h = h
  starting env (arg port c) v r h = h
  starting env (arg-last port c) v r h = h
  starting env (update name source plain) v r h = h
  starting env (update name source guarded) v r h = h
  starting env (switch k name plain a b) v r h = h
  starting env (switch k name guarded a b) v r h = h
  starting env (mode-ends k) v r h = λ e. ended env.draft.built.modes env.draft.mode (h e)
  starting env (module-ends k) v r h = h
  starting env text-ends v r h = h

end-started : (started : Bool) (at : ℕ) → first (end_rules started at) ≡ Fine → started ≡ true
unfolding end_rules
end-started started at v = not-false started (fine-one _ _ v).0

pub start-there : (s : List ℕ) → syntax_of s ≡ none → verdict_of s ≡ Fine → start_mode (module_of s) < length (module_of s).modes
start-there s e v =
    let w = whole s e v Starting (λ q p at next item. starting s (all_rows s) (last_env s)) (λ z. let y : ◌≡◌ {A = ℕ} 0 1 = cc in absurd (omega arith)) in
    let d = end-started w.before.draft.started (length s) w.end-fine in
    w.holds (rw w.same-draft at d)

-- ---- exactly one

abbrev bit : Bool → ℕ
bit true = 1
bit false = 0

abbrev pub starts_in : List Mode → ℕ
starts_in [] = 0
starts_in (mode ∷ modes) = cond mode.start 1 0 + starts_in modes

starts-append : (modes : List Mode) (mode : Mode) → starts_in (modes ++ (mode ∷ [])) ≡ starts_in modes + cond mode.start 1 0
starts-append [] mode = omega arith
starts-append (other ∷ modes) mode = let e = starts-append modes mode in omega (arith, e)

abbrev Once : State → ℕ → Env → Type 0
Once Q.Begin at env = starts_in env.draft.built.modes ≡ bit env.draft.started
Once (Q.Module k) at env = starts_in env.draft.built.modes ≡ bit env.draft.started
Once (Q.Task k) at env = starts_in env.draft.built.modes ≡ bit env.draft.started
Once (Q.Mode k) at env = starts_in env.draft.built.modes + cond env.draft.mode.start 1 0 ≡ bit env.draft.started
Once (Q.Act k) at env = starts_in env.draft.built.modes + cond env.draft.mode.start 1 0 ≡ bit env.draft.started
Once (Q.Guarded k) at env = starts_in env.draft.built.modes + cond env.draft.mode.start 1 0 ≡ bit env.draft.started
Once (Q.GuardArgs k) at env = starts_in env.draft.built.modes + cond env.draft.mode.start 1 0 ≡ bit env.draft.started
Once Q.Args at env = starts_in env.draft.built.modes + cond env.draft.mode.start 1 0 ≡ bit env.draft.started
Once Q.Finish at env = starts_in env.draft.built.modes ≡ bit env.draft.started

not-twice : (n : ℕ) (started start : Bool) → (start && started) ≡ false → n ≡ bit started → n + cond start 1 0 ≡ bit (started || start)
not-twice n true true e h = let z : ◌≡◌ {A = ℕ} 0 1 = cc in absurd (omega arith)
not-twice n true false e h = omega arith
not-twice n false true e h = omega arith
not-twice n false false e h = omega arith

start_fine : (started start : Bool) (at : ℕ) → first (start_rules started start at) ≡ Fine → (start && started) ≡ false
unfolding start_rules
start_fine started start at v = (fine-one _ _ v).0

module _ (s : List ℕ) (all : List Row) (last : Env) where
  once : {q p : State} {at next : ℕ} {item : Item} (env : Env) → Comes s q at item p next → first (rules s all env item) ≡ Fine → Reaches s all last (grow s all env item) → Once q at env → Once p next (grow s all env item)
  once env (module-begins name) v r h = h
  once env (module-section k w l b) v r h = h
  once env (constant name value) v r h = h
  once env (sensor typ name getter) v r h = h
  once env (actuator typ name value setter) v r h = h
  once env (task-begins k name l) v r h = h
  once env (task-section k w l) v r h = h
  once env (input typ name) v r h = h
  once env (output typ name value) v r h = h
  once env (task-ends k name) v r h = h
  once env (mode-begins k start begin name digits milli l) v r h = not-twice (starts_in env.draft.built.modes) env.draft.started start (start_fine env.draft.started start begin (fine-parts (start_rules env.draft.started start begin) _ v).0) h
  once env (mode-section k w l b) v r h = h
  once env (activity k begin digits l) v r h = h
  once env (guard-alone k name) v r h = h
  once env (guard k name many c) v r h = h
  once env (guard-arg k port c) v r h = h
  once env (guard-last k port c) v r h = h
  once env (invoke-alone name plain) v r h = h
  once env (invoke-alone name guarded) v r h = h
  once env (invoke name many plain c) v r h = h
  once env (invoke name many guarded c) v r h = h
  once env (arg port c) v r h = h
  once env (arg-last port c) v r h = h
  once env (update name source plain) v r h = h
  once env (update name source guarded) v r h = h
  once env (switch k name plain a b) v r h = h
  once env (switch k name guarded a b) v r h = h
  once env (mode-ends k) v r h = starts-append env.draft.built.modes env.draft.mode ∙ h
  once env (module-ends k) v r h = h
  once env text-ends v r h = h

pub start-once : (s : List ℕ) → syntax_of s ≡ none → verdict_of s ≡ Fine → starts_in (module_of s).modes ≡ 1
start-once s e v =
    let w = whole s e v Once (λ q p at next item. once s (all_rows s) (last_env s)) refl in
    let d = end-started w.before.draft.started (length s) w.end-fine in
    let f = rw w.same-draft at d in
    w.holds ∙ rw f
