-- The blocks of a mode, instant after instant: what is still to come.
use Prim.Native.Nat.{ℕ, zero, suc, ◌+◌, ◌-◌, ◌≤◌, ◌<◌}
use native.Mathlib.Omega.{arith}
use mathlib.Core.Path.{◌≡◌, refl, sym, ◌∙◌, ap}
use mathlib.Core.List.{List, [], ◌∷◌}
use Rattle.model.specs.Modules.{Mode}
use Rattle.model.specs.Instructions.{jump}
use Rattle.file.specs.Code.{no_argument}
use Rattle.timing.specs.Rules.{next_instant}
use Rattle.timing.specs.Code.{◌⊕◌, fixed, front, back, first_or, instants_from, instants_of, later_blocks, mode_code}
use Rattle.timing.specs.InstantLaws.{next_le, next-after, first-instant, instants-cons}
use Rattle.emit.specs.Emitted.{Out, emitted, Stored, Emitted}
use Rattle.emit.proofs.Emission.{emitted_then, renamed, follows, single}

-- the first instant, also of a mode that does not last
first-is : (m : Mode) → first_or m.period (instants_from m.period m 0) ≡ next_instant m 0
unfolding instants_from
first-is m = go m.period refl
  where
    go : (p : ℕ) → m.period ≡ p → first_or m.period (instants_from p m 0) ≡ next_instant m 0
    go zero e = let le = next_le m 0 in omega arith
    go (suc p) e = first-instant (suc p) m 0 (omega arith)

-- What is left of a mode whose begin block stands at `begin`, the first instant to come being t: the blocks of the instants after `since`.
pub record Left (driver : ℕ) (m : Mode) (begin : ℕ) (goal z : Out) (t : ℕ) : Type 0 where
  pub since : ℕ
  pub fuel : ℕ
  pub enough : m.period ≤ since + fuel
  pub first : first_or m.period (instants_from fuel m since) ≡ t
  pub before : t < m.period → since < t
  pub rest : emitted z (later_blocks driver m begin (instants_from fuel m since)) ≡ goal

module _ (driver : ℕ) (m : Mode) (begin : ℕ) where
  pub left-begins : (s : Out) (t : ℕ) → t ≡ next_instant m 0 → Left driver m begin (emitted s (later_blocks driver m begin (instants_of m))) s t
  unfolding instants_of
  left-begins s t e = record { since = 0; fuel = m.period; enough = omega arith; first = first-is m ∙ sym e; before = λ h. rw e (next-after m 0 (omega arith)); rest = refl }

  -- an instant inside the period is the first of those to come
  inside : (fuel since t : ℕ) (ts : List ℕ) → ts ≡ instants_from fuel m since → first_or m.period ts ≡ t → t < m.period
      → (n : ℕ) × (fuel ≡ suc n) × (ts ≡ t ∷ instants_from n m t)
  inside fuel since t [] e f h = absurd (omega arith)
  inside fuel since t (u ∷ us) e f h =
      let (n, a, b, c, d) = instants-cons fuel m since u us e in
      (n, a, ap (u ∷◌) d ∙ ap (λ (x : ℕ). x ∷ instants_from n m x) f)

  outside : (fuel since t : ℕ) (ts : List ℕ) → ts ≡ instants_from fuel m since → first_or m.period ts ≡ t → m.period ≤ t → ts ≡ []
  outside fuel since t [] e f h = refl
  outside fuel since t (u ∷ us) e f h = let (n, a, b, c, d) = instants-cons fuel m since u us e in absurd (omega arith)

  pub left-on : {goal s z : Out} {k : ℕ} (t : ℕ) → t < m.period → Left driver m begin goal s t → Emitted s z (front driver m t ⊕ back driver m t (next_instant m t - t)) k
      → Left driver m begin goal z (next_instant m t)
  unfolding later_blocks
  left-on {goal} {s} {z} t h l e =
      let (n, a, b) = inside l.fuel l.since t (instants_from l.fuel m l.since) refl l.first h in
      let lt = l.before h in
      let en = l.enough in
      let f : first_or m.period (instants_from n m t) ≡ next_instant m t = first-instant n m t (omega arith) in
      let w : emitted s (front driver m t ⊕ (back driver m t (next_instant m t - t) ⊕ later_blocks driver m begin (instants_from n m t))) ≡ goal =
      ap (λ (x : ℕ). emitted s (front driver m t ⊕ (back driver m t (x - t) ⊕ later_blocks driver m begin (instants_from n m t)))) (sym f)
      ∙ ap (λ (ts : List ℕ). emitted s (later_blocks driver m begin ts)) (sym b) ∙ l.rest in
      record {
        since = t;
        fuel = n;
        enough = omega arith;
        first = f;
        before = λ g. next-after m t h;
        rest =
            ap (λ (x : Out). emitted x (later_blocks driver m begin (instants_from n m t))) (e.code ∙ emitted_then s (front driver m t) (back driver m t (next_instant m t - t)))
            ∙ sym (emitted_then (emitted s (front driver m t)) (back driver m t (next_instant m t - t)) (later_blocks driver m begin (instants_from n m t)))
            ∙ sym (emitted_then s (front driver m t) (back driver m t (next_instant m t - t) ⊕ later_blocks driver m begin (instants_from n m t)))
            ∙ w;
      }

  pub left-ends : {goal s z w : Out} {k : ℕ} (t p : ℕ) → m.period ≡ p → p ≤ t → Left driver m begin goal s t → Emitted s z (front driver m p) k → Stored z w 5 begin no_argument → w ≡ goal
  unfolding later_blocks
  left-ends {goal} {s} {z} {w} t p is h l e j =
      let b : instants_from l.fuel m l.since ≡ [] = outside l.fuel l.since t (instants_from l.fuel m l.since) refl l.first (omega arith) in
      (single (jump begin) j).code ∙ ap (λ (x : Out). emitted x (fixed (jump begin ∷ []))) (e.code ∙ ap (λ (x : ℕ). emitted s (front driver m x)) (sym is))
      ∙ sym (emitted_then s (front driver m m.period) (fixed (jump begin ∷ [])))
      ∙ ap (λ (ts : List ℕ). emitted s (later_blocks driver m begin ts)) (sym b) ∙ l.rest

-- The whole mode: its begin block, and the others.
pub whole-mode : {s z w : Out} {j k : ℕ} (driver : ℕ) (m : Mode) (t : ℕ) → t ≡ next_instant m 0 → Emitted s z (back driver m 0 t) j
    → Emitted z w (later_blocks driver m s.pc (instants_of m)) k → Emitted s w (mode_code driver m) (j + k)
unfolding mode_code instants_of
whole-mode {s} {z} {w} driver m t e p q =
    renamed (mode_code driver m)
    (ap (λ (x : ℕ). (back driver m 0 x ⊕ later_blocks driver m s.pc (instants_from m.period m 0)) s.pc) (e ∙ sym (first-is m))) (follows p q)
