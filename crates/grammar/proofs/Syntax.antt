-- Refusals 2 and 3, and the items of a text that has neither, are the grammar's, and nothing else is.
use Rattle.std.specs.Prelude.{ℕ, zero, suc, ◌+◌, ◌<◌, ◌≡◌, refl, ◌↔◌, List, [], ◌∷◌, ◌++◌, length}
use Rattle.std.proofs.Common.{sym, ap, ◌∙◌, append_assoc, arith}
use Rattle.std.proofs.Math.Option.{Option, none}
use Rattle.text.specs.declared.State.{State}
use Rattle.text.specs.declared.State.TheVariants as Q
use Rattle.text.specs.declared.Item.{Item}
use Rattle.text.specs.declared.Item.TheVariants as I
use Rattle.text.specs.declared.ReadItem.{ReadItem}
use Rattle.text.specs.Tokens.{token_at}
use Rattle.text.specs.Items.{item_at, items_from, items_of, Refusal, refuse, refused_or, refused_in, syntax_of}
use Rattle.text.proofs.ItemsLaws.{from_on, from-stop, turn_on, turn-ahead, turn_end, turn-no}
use Rattle.grammar.specs.Expressions.{Expression, Word}
use Rattle.text.specs.Productions.{count_at}
use Rattle.grammar.specs.Making.{with_count, arguments_by, arguments_in, counted}
use Rattle.grammar.specs.Comes.{Does, plain, guarded, Comes, module-begins, module-section, constant, sensor, actuator, task-begins, task-section, input, output, task-ends, mode-begins, mode-section, activity, guard-alone, guard, guard-arg, guard-last, invoke-alone, invoke, arg, arg-last, update, switch, mode-ends, module-ends, text-ends, item-comes}
use Rattle.grammar.specs.Grammar.{Module}
use Rattle.grammar.specs.Judgement.{letter, letters, tokens_of, Judged, accepted}
use Rattle.grammar.specs.JudgementLaws.{judged-once}
use Rattle.grammar.specs.Firsts.{firsts, first_to, first-from, some_word}
use Rattle.grammar.specs.Readings.{Ready, fine}
use Rattle.grammar.specs.States.{Known, begins}
use Rattle.grammar.specs.Taken.{bare, bares}
use Rattle.grammar.specs.Operands.{Reads, on, out, ends}
use Rattle.grammar.proofs.Steps.{item-reads}

-- ---- the number of arguments to come

owed : List ℕ → State → ℕ → ℕ
owed s Q.Begin at = 0
owed s (Q.Module k) at = 0
owed s (Q.Task k) at = 0
owed s (Q.Mode k) at = 0
owed s (Q.Act k) at = 0
owed s (Q.Guarded k) at = 0
owed s (Q.GuardArgs k) at = count_at s at
owed s Q.Args at = count_at s at
owed s Q.Finish at = 0

none-owed : (s : List ℕ) {k : ℕ} {q : State} (at : ℕ) → Does k q → 0 ≡ owed s q at
unfolding owed
none-owed s at plain = refl
none-owed s at guarded = refl

-- an item has the number that is owed behind it, and leaves what is owed before it
step-owed : {s : List ℕ} {q : State} {at : ℕ} {item : Item} {q' : State} {next : ℕ} → Comes s q at item q' next → (arguments_by (bare item) (owed s q' next) ≡ owed s q at) × (with_count (owed s q' next) (bare item) ≡ item)
unfolding owed with_count arguments_by
step-owed (module-begins name) = (refl, refl)
step-owed (module-section k w a b) = (refl, refl)
step-owed (constant name value) = (refl, refl)
step-owed (sensor typ name getter) = (refl, refl)
step-owed (actuator typ name value setter) = (refl, refl)
step-owed (task-begins k name a) = (refl, refl)
step-owed (task-section k w a) = (refl, refl)
step-owed (input typ name) = (refl, refl)
step-owed (output typ name value) = (refl, refl)
step-owed (task-ends k name) = (refl, refl)
step-owed (mode-begins k start begin name digits milli a) = (refl, refl)
step-owed (mode-section k w a b) = (refl, refl)
step-owed (activity k begin digits n) = (refl, refl)
step-owed (guard-alone k name) = (refl, refl)
step-owed (guard k name count e) = (refl, ap (λ (n : ℕ). I.Guard name n) (sym e))
step-owed (guard-arg k port e) = (omega (arith, e), refl)
step-owed (guard-last k port e) = (sym e, refl)
step-owed {s} {at = at} (invoke-alone name d) = (none-owed s at d, refl)
step-owed {s} {at = at} (invoke name count d e) = (none-owed s at d, ap (λ (n : ℕ). I.Invoke name n) (sym e))
step-owed (arg port e) = (omega (arith, e), refl)
step-owed (arg-last port e) = (sym e, refl)
step-owed {s} {at = at} (update name source d) = (none-owed s at d, refl)
step-owed {s} {at = at} (switch k name d a b) = (none-owed s at d, refl)
step-owed (mode-ends k) = (refl, refl)
step-owed (module-ends k) = (refl, refl)
step-owed text-ends = (refl, refl)

end-owed : {s : List ℕ} {q : State} {at : ℕ} {q' : State} {next : ℕ} → Comes s q at I.End q' next → 0 ≡ owed s q at
unfolding owed
end-owed text-ends = refl

-- ---- the items
-- what the items from a place on come to, behind those before them
data Result (s : List ℕ) (outs items : List Item) (owes : ℕ) : Type 0 where
  word : refused_in items ≡ none → arguments_in (bares items) ≡ owes → counted (bares items) ≡ items →
      ((os : List Item) → Word Module (letters s (tokens_of s)) os ↔ os ≡ outs ++ bares items) → Result s outs items owes
  no_word : (number offset : ℕ) → refused_in items ≡ refuse number offset → Judged Module s (refuse number offset) → Result s outs items owes

onward : {s : List ℕ} {outs items : List Item} {owes owes' : ℕ} (item : Item) → refused_in (item ∷ items) ≡ refused_in items →
    (refused_or item none ≡ none → (arguments_by (bare item) owes' ≡ owes) × (with_count owes' (bare item) ≡ item)) → Result s (outs ++ (bare item ∷ [])) items owes' → Result s outs (item ∷ items) owes
unfolding bares arguments_in counted refused_in
onward {outs = outs} {items} {owes} {owes'} item e c (word f a b w) =
    let g : refused_or item none ≡ none = rw f at e in
    let d = c g in
    word (e ∙ f) (rw a d.0) (rw (a, b, d.1)) (λ os. (let i = append_assoc outs (bare item ∷ []) (bares items) in (λ v. (w os).0 v ∙ i, λ p. (w os).1 (p ∙ sym i))))
onward item e c (no_word n a f j) = no_word n a (e ∙ f) j

-- from a place on, in a state whose rest is known
items-come : (n : ℕ) (s : List ℕ) (outs : List Item) (state : State) (at : ℕ) {q : Expression} → length s < at + n → Known state q → Ready Module s outs (firsts q) at → Result s outs (items_from s state at) (owed s state at)
unfolding bares arguments_in counted with_count arguments_by
items-come zero s outs state at l k r = let i = r.inside in absurd (omega arith)
items-come (suc n) s outs state at l k r = by (item_at s state at) refl (item-reads k (fine r)) (λ os state' next q i k' r'. items-come n s os state' next (omega arith) k' r')
  where
    by : (read : ReadItem) → read ≡ item_at s state at → Reads s outs read → ((os : List Item) (state' : State) (next : ℕ) (q : Expression) → at < next → Known state' q → Ready Module s os (firsts q) next → Result s os (items_from s state' next) (owed s state' next)) → Result s outs (items_from s state at) (owed s state at)
    by read p (on {item = item} {state = state'} {next = next} g k' r') more =
        let i : items_from s state at ≡ item ∷ items_from s state' next = rw (← p) at (from_on s state at r.inside (rw (← p) g)) in
        let t : refused_in (item ∷ items_from s state' next) ≡ refused_in (items_from s state' next) = sym (ap refused_in i) ∙ turn_on s state at read r.inside p g in
        let c : refused_or item none ≡ none → Comes s state at item state' next = rw (← p) at (item-comes s state at) in
        rw i (onward item t (λ f. step-owed (c f)) (more _ state' next _ (turn-ahead s state at read r.inside p g).0 k' r'))
    by read p (out {number = number} {at = offset} j) more = no_word number offset (turn-no s state at read r.inside p _ _ refl) j
    by read p (ends {state = state'} {next = next} w) more =
        let i : items_from s state at ≡ I.End ∷ [] = rw (← p) at (from-stop s state at r.inside (rw (← p))) in
        let c : refused_or I.End none ≡ none → Comes s state at I.End state' next = rw (← p) at (item-comes s state at) in
        word (turn_end s state at read r.inside p refl) (rw i (end-owed (c refl))) (rw i) (rw i w)

-- at the beginning
start-ready : (s : List ℕ) → Ready Module s [] (firsts Module) 0
unfolding letters
start-ready s = record {
  inside = omega arith;
  before = [];
  split = refl;
  begins = some_word Module;
  only = λ v p w. (p, refl, first_to (letter s (token_at s 0)) w refl);
  every = λ v q a. first-from (letter s (token_at s 0)) Module a;
}

text-comes : (s : List ℕ) → Result s [] (items_of s) (owed s Q.Begin 0)
text-comes s = items-come (length s + 1) s [] Q.Begin 0 (omega arith) begins (start-ready s)

-- the leftmost 2 or 3 of a text is the grammar's
pub syntax-judged : (s : List ℕ) → Judged Module s (syntax_of s)
syntax-judged s = by (text-comes s)
  where
    by : Result s [] (items_of s) (owed s Q.Begin 0) → Judged Module s (refused_in (items_of s))
    by (word e a b w) = rw e (accepted _ ((w _).1 refl))
    by (no_word n a e j) = rw e j

-- and the grammar has no other answer
pub syntax-only : (s : List ℕ) (answer : Option Refusal) → Judged Module s answer → answer ≡ syntax_of s
syntax-only s answer j = judged-once Module s j (syntax-judged s)

-- so refusals 2 and 3 are the grammar's: `syntax_of` is `Judged Module`
pub syntax-is-judged : (s : List ℕ) (answer : Option Refusal) → answer ≡ syntax_of s ↔ Judged Module s answer
syntax-is-judged s answer = (λ e. rw e (syntax-judged s), syntax-only s answer)

-- a text free of 2 and 3 has just the items that the grammar reads it as, each with the number of arguments behind it
pub items-read : (s : List ℕ) → syntax_of s ≡ none → (items : List Item) × Word Module (letters s (tokens_of s)) items × (items_of s ≡ counted items)
items-read s f = by (text-comes s)
  where
    by : Result s [] (items_of s) (owed s Q.Begin 0) → (items : List Item) × Word Module (letters s (tokens_of s)) items × (items_of s ≡ counted items)
    by (word e a b w) = (bares (items_of s), (w _).1 refl, sym b)
    by (no_word n a e j) = let z : ◌≡◌ {A = ℕ} 0 1 = cc in absurd (omega arith)

-- and the grammar reads it in no other way
pub items-only : (s : List ℕ) (items : List Item) → Word Module (letters s (tokens_of s)) items → items_of s ≡ counted items
items-only s items v = by (text-comes s)
  where
    by : Result s [] (items_of s) (owed s Q.Begin 0) → items_of s ≡ counted items
    by (word e a b w) = rw ((w items).0 v) (sym b)
    by (no_word n a e j) = let i = judged-once Module s j (accepted items v) in let z : ◌≡◌ {A = ℕ} 0 1 = cc in absurd (omega arith)

-- a text is free of 2 and 3 exactly where its tokens are a module
pub syntax-free : (s : List ℕ) → syntax_of s ≡ none ↔ (items : List Item) × Word Module (letters s (tokens_of s)) items
syntax-free s = (λ e. (let r = items-read s e in (r.0, r.1)), λ w. sym (syntax-only s none (accepted w.0 w.1)))
