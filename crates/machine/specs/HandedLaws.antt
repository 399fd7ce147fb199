-- The task that next task hands out is the lowest-numbered one that waits, and waits no longer.
use Rattle.std.specs.Prelude.{ℕ, zero, suc, ◌+◌, ◌≤◌, ◌<◌, ◌≡◌, refl, Bool, true, false, cond, eqb, Some, None, Ok, Err}
use Rattle.std.proofs.Common.{arith, sym, ◌∙◌, ap, eqb-true}
use Rattle.std.proofs.Math.Option.{Option, none, some}
use Rattle.std.proofs.lemmas.Bool.{eqb-false}
use Rattle.machine.specs.Told.{Turn, refuse}
use Rattle.machine.specs.Words.{has, lowest_from, lowest_in}
use Rattle.machine.specs.WordLaws.{part_same, part-other}
use Rattle.machine.specs.Calls.{State, handed_out, next_task}

-- in the word, and none below it from `from` on
pub record LowestFrom (word from task : ℕ) : Type 0 where
  pub not-below : from ≤ task
  pub inside : has word task ≡ true
  pub first : (other : ℕ) → from ≤ other → other < task → has word other ≡ false

lowest-there : (n from word task : ℕ) → lowest_from n from word ≡ some task → LowestFrom word from task
unfolding lowest_from
lowest-there zero from word task found = let z : ◌≡◌ {A = ℕ} 0 1 = cc in absurd (omega arith)
lowest-there (suc n) from word task found = go (has word from) refl found (lowest-there n (from + 1) word task)
  where
    go : (here : Bool) → has word from ≡ here → cond here (some from) (lowest_from n (from + 1) word) ≡ some task
        → (lowest_from n (from + 1) word ≡ some task → LowestFrom word (from + 1) task) → LowestFrom word from task
    go true is found later =
        let same : from ≡ task = cc in
        record { not-below = omega arith; inside = sym (ap (has word) same) ∙ is; first = λ other above below. absurd (omega arith) }
    go false is found later =
        let rest = later found in
        record {
          not-below = omega (arith, rest.not-below);
          inside = rest.inside;
          first = λ other above below. before other above below (eqb other from) refl (rest.first other);
        }
      where
        before : (other : ℕ) → from ≤ other → other < task → (at : Bool) → eqb other from ≡ at → (from + 1 ≤ other → other < task → has word other ≡ false) → has word other ≡ false
        before other above below true same higher = ap (has word) (eqb-true other from same) ∙ is
        before other above below false apart higher = let differ = eqb-false other from apart in higher (above_on other above differ) below
          where
            above_on : (k : ℕ) → from ≤ k → (k ≡ from → ⊥) → from + 1 ≤ k
            above_on k h d = omega arith

-- What is handed out.
pub record HandedOut (m : State) (task : ℕ) (after : State) : Type 0 where
  pub lowest : LowestFrom m.store.waiting 0 task
  pub gone : has after.store.waiting task ≡ false
  pub others : (other : ℕ) → (other ≡ task → ⊥) → has after.store.waiting other ≡ has m.store.waiting other

abbrev pub Hands : State → Turn → State → Type 0
Hands m (Ok (Some task)) after = HandedOut m task after
Hands m (Ok None) after = after ≡ m
Hands m (Err why) after = after ≡ m

pub next-hands : (m : State) → Hands m (next_task m).answer (next_task m).state
unfolding next_task
next-hands m = go m.stopped (lowest_in m.store.waiting) refl
  where
    go : (stopped : Bool) (found : Option ℕ) → lowest_in m.store.waiting ≡ found
        → Hands m (cond stopped (record { answer = refuse 31; state = m }) (handed_out m found)).answer (cond stopped (record { answer = refuse 31; state = m }) (handed_out m found)).state
    go true found is = refl
    go false none is = refl
    go false (some task) is = record {
      lowest = lowest-there 64 0 m.store.waiting task is;
      gone = part_same m.store.waiting task;
      others = part-other m.store.waiting task;
    }
