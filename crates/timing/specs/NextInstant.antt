-- What the rules' next instant is: the first time after t at which any slot of the mode ends; where none does, the period.
use Rattle.std.specs.Prelude.{ℕ, min, ◌≤◌, ◌<◌, ◌≡◌, refl, ◌⊎◌, Bool, true, false, cond, ◌||◌, List, [], ◌∷◌, eqb, ltb}
use Rattle.std.proofs.Common.{arith, ◌∙◌, inl, inr, ltb-true, ltb-false, eq-eqb, ne_eqb, lt-ltb}
use Rattle.model.specs.Modules.{Act, Mode}
use Rattle.timing.specs.Slots.{Span, spans, any_of, span_ends, ends_at, sooner, next_on, soonest}
use Rattle.timing.specs.SlotLaws.{next_on-le, soonest-le, or_left, or_right}
use Rattle.timing.specs.Rules.{next_instant}
use Rattle.timing.specs.InstantLaws.{next_le, next-after}

-- a slot of some activity ends at time t; so of any kind of activity of a mode
abbrev pub some_ends : {A : Type 0} → ℕ → ℕ → List (Act A) → Bool
some_ends period t [] = false
some_ends period t (act ∷ acts) = ends_at period t act || some_ends period t acts

-- whether a slot of the mode ends at a time
abbrev pub slot_ends : Mode → ℕ → Bool
slot_ends m t = some_ends m.period t m.calls || (some_ends m.period t m.updates || some_ends m.period t m.switches)

-- v is the first time after t at which a slot ends, or the period.
pub record FirstEnd (m : Mode) (t v : ℕ) : Type 0 where
  pub after : t < v
  pub within : v ≤ m.period
  pub ends : (slot_ends m v ≡ true) ⊎ (v ≡ m.period)
  pub none_before : (w : ℕ) → t < w → w < v → slot_ends m w ≡ false

-- ---- no slot ends before it

module _ (t v : ℕ) (lt : t < v) where
  apart : (x n : ℕ) → v < sooner t x n → eqb v x ≡ false
  apart x n h = ne_eqb v x (λ e. let q : t < x = omega arith in let b : ltb t x ≡ true = lt-ltb t x q in let k : v < min n x = rw b at h in omega arith)

  none-on : (l : List Span) (n : ℕ) → v < next_on t l n → any_of (span_ends v) l ≡ false
  none-on [] n h = refl
  none-on (span ∷ l) n h =
      let a : next_on t l (sooner t span.to n) ≤ sooner t span.to n = next_on-le t l (sooner t span.to n) in
      rw (apart span.to n (omega arith)) (none-on l (sooner t span.to n) h)

  none_of : {A : Type 0} (p : ℕ) (acts : List (Act A)) (n : ℕ) → v < soonest p t acts n → some_ends p v acts ≡ false
  none_of p [] n h = refl
  none_of p (a ∷ acts) n h =
      let b : soonest p t acts (next_on t (spans p a) n) ≤ next_on t (spans p a) n = soonest-le p t acts (next_on t (spans p a) n) in
      rw (none-on (spans p a) n (omega arith)) (none_of p acts (next_on t (spans p a) n) h)

-- ---- one ends at it

abbrev Or : Bool → ℕ → ℕ → Type 0
Or ends v n = (ends ≡ true) ⊎ (v ≡ n)

sooner-one : (t x n : ℕ) → (sooner t x n ≡ x) ⊎ (sooner t x n ≡ n)
sooner-one t x n = go (ltb t x) (ltb n x) refl
  where
    go : (y z : Bool) → ltb n x ≡ z → (cond y (min n x) n ≡ x) ⊎ (cond y (min n x) n ≡ n)
    go true true e = let h = ltb-true n x e in inr (omega arith)
    go true false e = let h = ltb-false n x e in inl (omega arith)
    go false z e = inr refl

ends_on : (t : ℕ) (l : List Span) (n : ℕ) → Or (any_of (span_ends (next_on t l n)) l) (next_on t l n) n
ends_on t [] n = inr refl
ends_on t (span ∷ l) n = go (ends_on t l (sooner t span.to n)) (sooner-one t span.to n)
  where
    v : ℕ
    v = next_on t l (sooner t span.to n)

    first : v ≡ span.to → Or (span_ends v span || any_of (span_ends v) l) v n
    first e = inl (or_left (span_ends v span) (any_of (span_ends v) l) (eq-eqb v span.to e))

    go : Or (any_of (span_ends v) l) v (sooner t span.to n) → (sooner t span.to n ≡ span.to) ⊎ (sooner t span.to n ≡ n) → Or (span_ends v span || any_of (span_ends v) l) v n
    go (inl h) s = inl (or_right (span_ends v span) (any_of (span_ends v) l) h)
    go (inr h) (inl e) = first (h ∙ e)
    go (inr h) (inr e) = inr (h ∙ e)

ends_of : {A : Type 0} (p t : ℕ) (acts : List (Act A)) (n : ℕ) → Or (some_ends p (soonest p t acts n) acts) (soonest p t acts n) n
ends_of p t [] n = inr refl
ends_of p t (a ∷ acts) n = go (ends_of p t acts (next_on t (spans p a) n)) (ends_on t (spans p a) n)
  where
    v : ℕ
    v = soonest p t acts (next_on t (spans p a) n)

    go : Or (some_ends p v acts) v (next_on t (spans p a) n) → Or (any_of (span_ends (next_on t (spans p a) n)) (spans p a)) (next_on t (spans p a) n) n → Or (ends_at p v a || some_ends p v acts) v n
    go (inl h) s = inl (or_right (ends_at p v a) (some_ends p v acts) h)
    go (inr h) (inl e) = inl (or_left (ends_at p v a) (some_ends p v acts) (rw h e))
    go (inr h) (inr e) = inr (h ∙ e)

-- ---- the law, and that nothing else is so

pub next-is-first : (m : Mode) (t : ℕ) → t < m.period → FirstEnd m t (next_instant m t)
unfolding next_instant
next-is-first m t lt = record { after = next-after m t lt; within = next_le m t; ends = go (ends_of p t m.switches by_updates) (ends_of p t m.updates by_calls) (ends_of p t m.calls p); none_before = before }
  where
    p : ℕ
    p = m.period

    by_calls : ℕ
    by_calls = soonest p t m.calls p

    by_updates : ℕ
    by_updates = soonest p t m.updates by_calls

    v : ℕ
    v = soonest p t m.switches by_updates

    go : Or (some_ends p v m.switches) v by_updates → Or (some_ends p by_updates m.updates) by_updates by_calls → Or (some_ends p by_calls m.calls) by_calls p → Or (slot_ends m v) v p
    go (inl h) u c = inl (or_right (some_ends p v m.calls) (some_ends p v m.updates || some_ends p v m.switches) (or_right (some_ends p v m.updates) (some_ends p v m.switches) h))
    go (inr h) (inl u) c = inl (or_right (some_ends p v m.calls) (some_ends p v m.updates || some_ends p v m.switches) (or_left (some_ends p v m.updates) (some_ends p v m.switches) (rw h u)))
    go (inr h) (inr u) (inl c) = let e : v ≡ by_calls = h ∙ u in inl (or_left (some_ends p v m.calls) (some_ends p v m.updates || some_ends p v m.switches) (rw e c))
    go (inr h) (inr u) (inr c) = inr (h ∙ u ∙ c)

    before : (w : ℕ) → t < w → w < v → slot_ends m w ≡ false
    before w a b =
        let x : by_updates ≤ by_calls = soonest-le p t m.updates by_calls in
        let y : v ≤ by_updates = soonest-le p t m.switches by_updates in
        rw (none_of t w a p m.calls p (omega arith), none_of t w a p m.updates by_calls (omega arith), none_of t w a p m.switches by_updates b) refl

pub first-end-unique : (m : Mode) (t v w : ℕ) → FirstEnd m t v → FirstEnd m t w → v ≡ w
first-end-unique m t v w a b = go (ltb v w) refl (ltb w v) refl
  where
    -- an end at x before y, or the period before y, is none
    never : (x y : ℕ) → FirstEnd m t x → FirstEnd m t y → x < y → ⊥
    never x y f g h = on f.ends
      where
        on : (slot_ends m x ≡ true) ⊎ (x ≡ m.period) → ⊥
        on (inl e) = let k = g.none_before x f.after h in let z : ◌≡◌ {A = ℕ} 0 1 = cc in omega arith
        on (inr e) = let k = g.within in omega arith

    go : (y : Bool) → ltb v w ≡ y → (z : Bool) → ltb w v ≡ z → v ≡ w
    go true e z f = absurd (never v w a b (ltb-true v w e))
    go false e true f = absurd (never w v b a (ltb-true w v f))
    go false e false f = let h = ltb-false v w e in let k = ltb-false w v f in omega arith
