-- Slots of a frequency that divides the period: they fit, they end and begin at the multiples of period/frequency, and refusal 9 keeps switches clear of tasks.
use Rattle.std.specs.Prelude.{ℕ, zero, suc, ◌+◌, ◌*◌, ◌/◌, ◌%◌, min, ◌≤◌, ◌<◌, ◌≡◌, Bool, true, false, cond, List, [], ◌∷◌, eqb, ltb}
use native.Mathlib.Omega.{arith}
use Rattle.std.proofs.Common.{mul-le-mul_right, mul-lt-mul_of_pos_right, mul-div_cancel, mul_comm, mul_assoc, add-mul, one-mul, sym, ◌∙◌, ltb-true, eqb-true, lt-ltb, le-ltb, eq-eqb}
use Rattle.std.proofs.Math.Nat.{lt_of_mul-lt-mul_right, div-add-mod', mul-mod_left, lt-div-mul-add}
use Rattle.std.proofs.Math.Path.{refl, ap, subst}
use Rattle.std.proofs.lemmas.Bool.{eqb-false}
use Rattle.model.specs.Modules.{Act}
use Rattle.timing.specs.Slots.{slots_from, spans, any_of, span_ends, span_begins, span_amid, ends_at, begins_at, amid_at, sooner, next_on}
use Rattle.timing.specs.SlotLaws.{Ordered, Fits, Each, or_elim, or_left, or_right}

-- A frequency that document 01 accepts in a mode of this period.
pub record Divides (frequency period : ℕ) : Type 0 where
  pub often : 0 < frequency
  pub lasts : 0 < period
  pub whole : period % frequency ≡ 0

-- ---- slots of one length

module _ (size : ℕ) (long : 0 < size) where
  slots-ordered : (n i : ℕ) → Ordered (i * size) (slots_from size n i) ((i + n) * size)
  slots-ordered zero i = mul-le-mul_right size (omega arith)
  slots-ordered (suc n) i =
      let e : i + 1 + n ≡ i + suc n = omega arith in
      (omega arith, mul-lt-mul_of_pos_right (omega arith) long, subst (λ k. Ordered ((i + 1) * size) (slots_from size n (i + 1)) (k * size)) e (slots-ordered n (i + 1)))

  module _ (t : ℕ) where
    -- a slot that ends at t: its number
    ends-number : (n i : ℕ) → any_of (span_ends t) (slots_from size n i) ≡ true → (k : ℕ) × (i < k) × (k ≤ i + n) × (t ≡ k * size)
    ends-number zero i h = let z : ◌≡◌ {A = ℕ} 0 1 = cc in absurd (omega arith)
    ends-number (suc n) i h =
        or_elim (eqb t ((i + 1) * size)) (any_of (span_ends t) (slots_from size n (i + 1))) h
        (λ e. (i + 1, omega arith, omega arith, eqb-true t ((i + 1) * size) e))
        (λ e. let (k, lo, hi, q) = ends-number n (i + 1) e in (k, omega arith, omega arith, q))

    number-ends : (k n i : ℕ) → i < k → k ≤ i + n → t ≡ k * size → any_of (span_ends t) (slots_from size n i) ≡ true
    number-ends k zero i lo hi e = absurd (omega arith)
    number-ends k (suc n) i lo hi e = go (eqb k (i + 1)) refl (λ l. number-ends k n (i + 1) l (omega arith) e)
      where
        go : (y : Bool) → eqb k (i + 1) ≡ y → (i + 1 < k → any_of (span_ends t) (slots_from size n (i + 1)) ≡ true) → any_of (span_ends t) (slots_from size (suc n) i) ≡ true
        go true h on = let q = eqb-true k (i + 1) h in or_left (eqb t ((i + 1) * size)) (any_of (span_ends t) (slots_from size n (i + 1))) (eq-eqb t ((i + 1) * size) (e ∙ ap (◌* size) q))
        go false h on = let q = eqb-false k (i + 1) h in or_right (eqb t ((i + 1) * size)) (any_of (span_ends t) (slots_from size n (i + 1))) (on (omega arith))

    begins-number : (n i : ℕ) → any_of (span_begins t) (slots_from size n i) ≡ true → (k : ℕ) × (i ≤ k) × (k < i + n) × (t ≡ k * size)
    begins-number zero i h = let z : ◌≡◌ {A = ℕ} 0 1 = cc in absurd (omega arith)
    begins-number (suc n) i h =
        or_elim (eqb t (i * size)) (any_of (span_begins t) (slots_from size n (i + 1))) h
        (λ e. (i, omega arith, omega arith, eqb-true t (i * size) e))
        (λ e. let (k, lo, hi, q) = begins-number n (i + 1) e in (k, omega arith, omega arith, q))

    number-begins : (k n i : ℕ) → i ≤ k → k < i + n → t ≡ k * size → any_of (span_begins t) (slots_from size n i) ≡ true
    number-begins k zero i lo hi e = absurd (omega arith)
    number-begins k (suc n) i lo hi e = go (eqb k i) refl (λ l. number-begins k n (i + 1) l (omega arith) e)
      where
        go : (y : Bool) → eqb k i ≡ y → (i + 1 ≤ k → any_of (span_begins t) (slots_from size n (i + 1)) ≡ true) → any_of (span_begins t) (slots_from size (suc n) i) ≡ true
        go true h on = let q = eqb-true k i h in or_left (eqb t (i * size)) (any_of (span_begins t) (slots_from size n (i + 1))) (eq-eqb t (i * size) (e ∙ ap (◌* size) q))
        go false h on = let q = eqb-false k i h in or_right (eqb t (i * size)) (any_of (span_begins t) (slots_from size n (i + 1))) (on (omega arith))

    -- at a multiple of the length no slot is in its midst
    multiple-clear : (k n i : ℕ) → t ≡ k * size → any_of (span_amid t) (slots_from size n i) ≡ false
    multiple-clear k zero i e = refl
    multiple-clear k (suc n) i e = go (ltb (i * size) t) refl (ltb t ((i + 1) * size)) refl (multiple-clear k n (i + 1) e)
      where
        go : (y : Bool) → ltb (i * size) t ≡ y → (z : Bool) → ltb t ((i + 1) * size) ≡ z → any_of (span_amid t) (slots_from size n (i + 1)) ≡ false → any_of (span_amid t) (slots_from size (suc n) i) ≡ false
        go true a true b on =
            let lo : i < k = lt_of_mul-lt-mul_right size (rw e at (ltb-true (i * size) t a)) in
            let hi : k < i + 1 = lt_of_mul-lt-mul_right size (rw e at (ltb-true t ((i + 1) * size) b)) in
            absurd (omega arith)
        go true a false b on = rw (a, b) on
        go false a z b on = rw a on

    -- the first slot end after t
    past : (x n : ℕ) → x ≤ t → sooner t x n ≡ n
    past x n h = rw (le-ltb t x h) refl

    ahead : (x n : ℕ) → n ≤ x → sooner t x n ≡ n
    ahead x n h = go (ltb t x)
      where
        go : (y : Bool) → cond y (min n x) n ≡ n
        go true = omega arith
        go false = refl

    rest-same : (k i n : ℕ) → n ≤ i * size → next_on t (slots_from size k i) n ≡ n
    rest-same zero i n h = refl
    rest-same (suc k) i n h =
        let a : i * size ≤ (i + 1) * size = mul-le-mul_right size (omega arith) in
        ap (λ x. next_on t (slots_from size k (i + 1)) x) (ahead ((i + 1) * size) n (omega arith)) ∙ rest-same k (i + 1) n (omega arith)

    next-slot : (q k i n : ℕ) → q * size ≤ t → t < (q + 1) * size → i ≤ q → q < i + k → next_on t (slots_from size k i) n ≡ min n ((q + 1) * size)
    next-slot q zero i n lo hi a b = absurd (omega arith)
    next-slot q (suc k) i n lo hi a b = go (eqb q i) refl (λ l. next-slot q k (i + 1) n lo hi l (omega arith))
      where
        go : (y : Bool) → eqb q i ≡ y → (i + 1 ≤ q → next_on t (slots_from size k (i + 1)) n ≡ min n ((q + 1) * size)) → next_on t (slots_from size (suc k) i) n ≡ min n ((q + 1) * size)
        go true h on =
            let e : q ≡ i = eqb-true q i h in
            let b1 : ltb t ((i + 1) * size) ≡ true = lt-ltb t ((i + 1) * size) (rw e at hi) in
            let c1 : sooner t ((i + 1) * size) n ≡ min n ((i + 1) * size) = rw b1 refl in
            ap (λ x. next_on t (slots_from size k (i + 1)) x) c1 ∙ rest-same k (i + 1) (min n ((i + 1) * size)) (omega arith) ∙ ap (λ x. min n ((x + 1) * size)) (sym e)
        go false h on =
            let e = eqb-false q i h in
            let m : (i + 1) * size ≤ q * size = mul-le-mul_right size (omega arith) in
            ap (λ x. next_on t (slots_from size k (i + 1)) x) (past ((i + 1) * size) n (omega arith)) ∙ on (omega arith)

-- ---- a frequency that divides the period

quotient : (t d : ℕ) → t % d ≡ 0 → t ≡ t / d * d
quotient t d h = let e = div-add-mod' t d in omega arith

module _ (frequency period : ℕ) (d : Divides frequency period) where
  -- as many slots as the frequency says fill the period, each of some length
  pub slots-fill : frequency * (period / frequency) ≡ period
  slots-fill = mul_comm frequency (period / frequency) ∙ sym (quotient period frequency d.whole)

  pub slot-long : 0 < period / frequency
  slot-long = go (period / frequency) refl
    where
      go : (n : ℕ) → period / frequency ≡ n → 0 < period / frequency
      go zero e = let f : frequency * 0 ≡ period = subst (λ n. frequency * n ≡ period) e slots-fill in let w = d.lasts in absurd (omega arith)
      go (suc n) e = omega arith

module _ {A : Type 0} (period : ℕ) (act : Act A) (d : Divides act.frequency period) where
  abbrev pub size : ℕ
  size = period / act.frequency

  long : 0 < size
  long = slot-long act.frequency period d

  fill : act.frequency * size ≡ period
  fill = slots-fill act.frequency period d

  -- The slots fit the period.
  pub divided-fits : Fits period act
  unfolding spans
  divided-fits =
      let e : 0 * size ≡ 0 = omega arith in
      let f : (0 + act.frequency) * size ≡ period = ap (◌* size) (omega arith) ∙ fill in
      record { ordered = subst (Ordered 0 (slots_from size act.frequency 0)) f (subst (λ lo. Ordered lo (slots_from size act.frequency 0) ((0 + act.frequency) * size)) e (slots-ordered size long act.frequency 0)) }

  -- A slot ends at k times its length for each k from 1 to the frequency, and at no other time.
  pub ends-at : (k : ℕ) → 0 < k → k ≤ act.frequency → ends_at period (k * size) act ≡ true
  unfolding spans
  ends-at k lo hi = number-ends size long (k * size) k act.frequency 0 lo (omega arith) refl

  pub ends-only : (t : ℕ) → ends_at period t act ≡ true → (k : ℕ) × (0 < k) × (k ≤ act.frequency) × (t ≡ k * size)
  unfolding spans
  ends-only t h = let (k, lo, hi, e) = ends-number size long t act.frequency 0 h in (k, lo, omega arith, e)

  -- A slot begins at k times its length for each k below the frequency, and at no other time.
  pub begins-at : (k : ℕ) → k < act.frequency → begins_at period (k * size) act ≡ true
  unfolding spans
  begins-at k hi = number-begins size long (k * size) k act.frequency 0 (omega arith) (omega arith) refl

  pub begins-only : (t : ℕ) → begins_at period t act ≡ true → (k : ℕ) × (k < act.frequency) × (t ≡ k * size)
  unfolding spans
  begins-only t h = let (k, lo, hi, e) = begins-number size long t act.frequency 0 h in (k, omega arith, e)

  below : (k t : ℕ) → t ≡ k * size → t < period → k < act.frequency
  below k t e h = lt_of_mul-lt-mul_right size (let f = fill in omega arith)

  up_to : (k t : ℕ) → t ≡ k * size → t ≤ period → k ≤ act.frequency
  up_to k t e h =
      let w = mul-lt-mul_of_pos_right {m = act.frequency} {n = act.frequency + 1} {k = size} (omega arith) long in
      let f = fill in
      let l : k < act.frequency + 1 = lt_of_mul-lt-mul_right size (omega arith) in
      omega arith

  -- So by division: up to the period a slot ends, and within it one begins, where the length divides the time.
  pub ends-by-division : (t : ℕ) → 0 < t → t ≤ period → ends_at period t act ≡ eqb (t % size) 0
  ends-by-division t pos le = go (eqb (t % size) 0) refl (ends_at period t act) refl
    where
      go : (y : Bool) → eqb (t % size) 0 ≡ y → (z : Bool) → ends_at period t act ≡ z → z ≡ y
      go true h true e = refl
      go false h false e = refl
      go true h false e =
          let q : t ≡ t / size * size = quotient t size (eqb-true (t % size) 0 h) in
          let lo : 0 < t / size = lt_of_mul-lt-mul_right size (omega arith) in
          let w : ends_at period t act ≡ true = subst (λ x. ends_at period x act ≡ true) (sym q) (ends-at (t / size) lo (up_to (t / size) t q le)) in
          cc
      go false h true e =
          let (k, lo, hi, q) = ends-only t e in
          let m : t % size ≡ 0 = rw q (mul-mod_left k size) in
          absurd (eqb-false (t % size) 0 h m)

  pub begins-by-division : (t : ℕ) → t < period → begins_at period t act ≡ eqb (t % size) 0
  begins-by-division t lt = go (eqb (t % size) 0) refl (begins_at period t act) refl
    where
      go : (y : Bool) → eqb (t % size) 0 ≡ y → (z : Bool) → begins_at period t act ≡ z → z ≡ y
      go true h true e = refl
      go false h false e = refl
      go true h false e =
          let q : t ≡ t / size * size = quotient t size (eqb-true (t % size) 0 h) in
          let w : begins_at period t act ≡ true = subst (λ x. begins_at period x act ≡ true) (sym q) (begins-at (t / size) (below (t / size) t q lt)) in
          cc
      go false h true e =
          let (k, hi, q) = begins-only t e in
          let m : t % size ≡ 0 = rw q (mul-mod_left k size) in
          absurd (eqb-false (t % size) 0 h m)

  -- The first slot end after t.
  pub next-by-division : (t n : ℕ) → t < period → next_on t (spans period act) n ≡ min n ((t / size + 1) * size)
  unfolding spans
  next-by-division t n lt =
      let q = t / size in
      let m = div-add-mod' t size in
      let above = lt-div-mul-add {a = t} {b = size} long in
      let hi : t < (t / size + 1) * size = rw (add-mul (t / size) 1 size, one-mul) above in
      let f = fill in
      let b : t / size < act.frequency = lt_of_mul-lt-mul_right size (omega arith) in
      next-slot size long t q act.frequency 0 n (omega arith) hi (omega arith) (omega arith)

-- ---- refusal 9: a switch's frequency divides that of every task invoked in its mode

regroup : (q f d p c : ℕ) → q * f ≡ c → c * d ≡ p → (q * d) * f ≡ p
regroup q f d p c e h = simp (mul_assoc, mul_comm d f) (simp mul_assoc at (rw (← e) at h))

-- At a slot end of the switch the invocation is at a multiple of its own slot.
pub divided-clear : {A B : Type 0} (period : ℕ) (switch : Act A) (call : Act B) → Divides switch.frequency period → Divides call.frequency period → call.frequency % switch.frequency ≡ 0
    → (t : ℕ) → ends_at period t switch ≡ true → amid_at period t call ≡ false
unfolding spans
divided-clear period switch call ds dc dv t h =
    let q = call.frequency / switch.frequency in
    let (k, lo, hi, e) = ends-only period switch ds t h in
    let e1 : q * switch.frequency ≡ call.frequency = sym (quotient call.frequency switch.frequency dv) in
    let e2 : (q * (period / call.frequency)) * switch.frequency ≡ period = regroup q switch.frequency (period / call.frequency) period call.frequency e1 (slots-fill call.frequency period dc) in
    let e3 : period / switch.frequency ≡ q * (period / call.frequency) = subst (λ x. x / switch.frequency ≡ q * (period / call.frequency)) e2 (mul-div_cancel (q * (period / call.frequency)) ds.often) in
    let e4 : t ≡ (k * q) * (period / call.frequency) = e ∙ ap (k *◌) e3 ∙ sym (mul_assoc k q (period / call.frequency)) in
    multiple-clear (period / call.frequency) (slot-long call.frequency period dc) t (k * q) call.frequency 0 e4

-- So for every invocation of a mode.
pub divided-clears : {A B : Type 0} (period : ℕ) (switch : Act A) → Divides switch.frequency period → (calls : List (Act B))
    → Each (λ c. Divides c.frequency period × (c.frequency % switch.frequency ≡ 0)) calls → (t : ℕ) → ends_at period t switch ≡ true → Each (λ c. amid_at period t c ≡ false) calls
divided-clears period switch ds [] w t h = tt
divided-clears period switch ds (c ∷ calls) w t h = (divided-clear period switch c ds w.0.0 w.0.1 t h, divided-clears period switch ds calls w.1 t h)
