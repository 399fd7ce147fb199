-- Slots of one length, counted by division; for any length and frequency.
use Prim.Native.Nat.{ℕ, zero, suc, ◌+◌, ◌-◌, ◌*◌, ◌/◌, ◌%◌, min, ◌≤◌, ◌<◌}
use native.Mathlib.Omega.{arith}
use native.Mathlib.Nat.{mul-le-mul_right, mul-lt-mul_of_pos_right, mul-div_cancel, mul-mod_left, div-add-mod', lt-div-mul-add, add-mul, one-mul, mul_comm, mul-zero, div-zero, add-zero}
use mathlib.Core.Path.{◌≡◌, refl, sym, ◌∙◌, ap}
use mathlib.Core.Bool.{Bool, true, false}
use mathlib.Core.Option.{none}
use lib.Dec.{eqb, leb, ltb}
use borrow.Author.Tests.{eqb-true, eqb-false, eq-eqb, le-ltb, ltb-true, ltb-false, leb-true, leb-false}
use Rattle.model.specs.Modules.{Act}
use Rattle.timing.specs.Slots.{Span, slots_from, spans, any_of, sooner, next_on}
use Rattle.timing.specs.SlotLaws.{or_elim, or_left, or_right}
use Rattle.timing.specs.SlotFits.{Divides, next-by-division}
use Rattle.emit.specs.Lines.{edge_of}
use Rattle.emit.specs.declared.activities.Kind.{Kind}
use Rattle.emit.specs.declared.activities.Kind.TheVariants.{Termination, Update, Switch, Release}

-- ---- the edge of a slot at time t: its number

abbrev offset : Kind → ℕ
offset Termination = 1
offset Update = 1
offset Switch = 1
offset Release = 0

edge_at : (kind : Kind) (t size i : ℕ) → edge_of kind t (record { from = i * size; to = (i + 1) * size }) ≡ eqb t ((i + offset kind) * size)
edge_at Termination t size i = refl
edge_at Update t size i = refl
edge_at Switch t size i = refl
edge_at Release t size i = rw (add-zero i) refl

module _ (kind : Kind) (t size : ℕ) where
  number : (n i : ℕ) → any_of (edge_of kind t) (slots_from size n i) ≡ true → (k : ℕ) × (i ≤ k) × (k < i + n) × (t ≡ (k + offset kind) * size)
  number zero i h = let z : ◌≡◌ {A = ℕ} 0 1 = cc in absurd (omega arith)
  number (suc n) i h =
      or_elim (edge_of kind t (record { from = i * size; to = (i + 1) * size })) (any_of (edge_of kind t) (slots_from size n (i + 1))) h
      (λ e. (i, omega arith, omega arith, eqb-true t ((i + offset kind) * size) (sym (edge_at kind t size i) ∙ e)))
      (λ e. let (k, lo, hi, q) = number n (i + 1) e in (k, omega arith, omega arith, q))

  found : (k n i : ℕ) → i ≤ k → k < i + n → t ≡ (k + offset kind) * size → any_of (edge_of kind t) (slots_from size n i) ≡ true
  found k zero i lo hi e = absurd (omega arith)
  found k (suc n) i lo hi e = go (eqb k i) refl (λ l. found k n (i + 1) l (omega arith) e)
    where
      slot : Span
      slot = record { from = i * size; to = (i + 1) * size }

      go : (y : Bool) → eqb k i ≡ y → (i + 1 ≤ k → any_of (edge_of kind t) (slots_from size n (i + 1)) ≡ true) → any_of (edge_of kind t) (slots_from size (suc n) i) ≡ true
      go true h on =
          let q = eqb-true k i h in
          or_left (edge_of kind t slot) (any_of (edge_of kind t) (slots_from size n (i + 1))) (edge_at kind t size i ∙ eq-eqb t ((i + offset kind) * size) (e ∙ ap (λ (x : ℕ). (x + offset kind) * size) q))
      go false h on = let q = eqb-false k i h in or_right (edge_of kind t slot) (any_of (edge_of kind t) (slots_from size n (i + 1))) (on (omega arith))

  -- none, where each would be absurd
  no_edge : (n : ℕ) → ((k : ℕ) → k < n → t ≡ (k + offset kind) * size → ⊥) → any_of (edge_of kind t) (slots_from size n 0) ≡ false
  no_edge n never = go (any_of (edge_of kind t) (slots_from size n 0)) refl
    where
      go : (y : Bool) → any_of (edge_of kind t) (slots_from size n 0) ≡ y → y ≡ false
      go true h = let (k, lo, hi, e) = number n 0 h in absurd (never k (omega arith) e)
      go false h = refl

-- ---- multiples

whole : (t size k : ℕ) → t ≡ k * size → t / size * size ≡ t
whole t zero k e = mul-zero (t / zero) ∙ sym (e ∙ mul-zero k)
whole t (suc size) k e = rw (e, mul-div_cancel k {n = suc size} (omega arith)) refl

count : (t size k : ℕ) → 0 < size → t ≡ k * size → t / size ≡ k
count t size k long e = rw e (mul-div_cancel k long)

-- ---- what the code asks: q slots go into t

module _ (kind : Kind) (f size q t : ℕ) (is : q ≡ t / size) where
  pub never-due : (q * size ≡ t → ⊥) → false ≡ any_of (edge_of kind t) (slots_from size f 0)
  never-due h = sym (no_edge kind t size f (λ k lt e. h (rw is (whole t size (k + offset kind) e))))

module _ (f size q t : ℕ) (is : q ≡ t / size) (multiple : q * size ≡ t) where
  pub begin-due : ltb q f ≡ any_of (edge_of Release t) (slots_from size f 0)
  begin-due = go (ltb q f) refl
    where
      go : (y : Bool) → ltb q f ≡ y → y ≡ any_of (edge_of Release t) (slots_from size f 0)
      go true h = let lt = ltb-true q f h in sym (found Release t size q f 0 (omega arith) (omega arith) (sym multiple ∙ ap (◌* size) (sym (add-zero q))))
      go false h =
          let le = ltb-false q f h in
          sym (no_edge Release t size f (λ k lt e. short size k (e ∙ ap (◌* size) (add-zero k)) lt le is))
        where
          short : (size k : ℕ) → t ≡ k * size → k < f → f ≤ q → q ≡ t / size → ⊥
          short zero k e lt le is = let z = div-zero t in omega arith
          short (suc size) k e lt le is = let c = count t (suc size) k (omega arith) e in omega arith

  module _ (kind : Kind) (ends : offset kind ≡ 1) where
    pub end_none : size ≡ 0 → ltb 0 f ≡ any_of (edge_of kind t) (slots_from size f 0)
    end_none z = go (ltb 0 f) refl
      where
        go : (y : Bool) → ltb 0 f ≡ y → y ≡ any_of (edge_of kind t) (slots_from size f 0)
        go true h =
            let lt = ltb-true 0 f h in
            let a : q * size ≡ 0 = ap (q *◌) z ∙ mul-zero q in
            let b : (0 + offset kind) * size ≡ 0 = ap ((0 + offset kind) *◌) z ∙ mul-zero (0 + offset kind) in
            sym (found kind t size 0 f 0 (omega arith) (omega arith) (sym multiple ∙ a ∙ sym b))
        go false h = let le = ltb-false 0 f h in sym (no_edge kind t size f (λ k lt e. omega arith))

    module _ (long : 0 < size) where
      after : (k : ℕ) → t ≡ (k + offset kind) * size → q ≡ k + 1
      after k e = is ∙ count t size (k + offset kind) long e ∙ ap (k +◌) ends

      pub end-first : q ≡ 0 → false ≡ any_of (edge_of kind t) (slots_from size f 0)
      end-first z = sym (no_edge kind t size f (λ k lt e. let a = after k e in omega arith))

      pub end-due : (q ≡ 0 → ⊥) → leb q f ≡ any_of (edge_of kind t) (slots_from size f 0)
      end-due pos = go (leb q f) refl
        where
          go : (y : Bool) → leb q f ≡ y → y ≡ any_of (edge_of kind t) (slots_from size f 0)
          go true h =
              let le = leb-true q f h in
              let a : q - 1 + offset kind ≡ q = ap (q - 1 +◌) ends ∙ omega arith in
              sym (found kind t size (q - 1) f 0 (omega arith) (omega arith) (sym multiple ∙ ap (◌* size) (sym a)))
          go false h = let gt = leb-false q f h in sym (no_edge kind t size f (λ k lt e. let a = after k e in omega arith))

-- ---- the first slot end after t

module _ (size t : ℕ) where
  past : (k i n : ℕ) → (i + k) * size ≤ t → next_on t (slots_from size k i) n ≡ n
  past zero i n h = refl
  past (suc k) i n h =
      let e : i + suc k ≡ i + 1 + k = omega arith in
      let h' : (i + 1 + k) * size ≤ t = rw e at h in
      let a : (i + 1) * size ≤ (i + 1 + k) * size = mul-le-mul_right size (omega arith) in
      let b : sooner t ((i + 1) * size) n ≡ n = rw (le-ltb t ((i + 1) * size) (omega arith)) refl in
      ap (λ (x : ℕ). next_on t (slots_from size k (i + 1)) x) b ∙ past k (i + 1) n h'

  module _ (f q n : ℕ) (is : q ≡ t / size) where
    pub next-none : size ≡ 0 → n ≡ next_on t (slots_from size f 0) n
    next-none z = let a : (0 + f) * size ≡ 0 = ap ((0 + f) *◌) z ∙ mul-zero (0 + f) in sym (past f 0 n (omega arith))

    pub next_past : f ≤ q → n ≡ next_on t (slots_from size f 0) n
    next_past le =
        let a : (0 + f) * size ≤ q * size = mul-le-mul_right size (omega arith) in
        let b : q * size + t % size ≡ t = ap (λ (x : ℕ). x * size + t % size) is ∙ div-add-mod' t size in
        sym (past f 0 n (omega arith))

    module _ (long : 0 < size) (lt : q < f) where
      act : Act ℕ
      act = record { frequency = f; guard = none; what = 0 }

      back : f * size / f ≡ size
      back = ap (◌/ f) (mul_comm f size) ∙ mul-div_cancel size (omega arith)

      divides : Divides f (f * size)
      divides =
          let a : 0 * size < f * size = mul-lt-mul_of_pos_right (omega arith) long in
          record { often = omega arith; lasts = omega arith; whole = ap (◌% f) (mul_comm f size) ∙ mul-mod_left size f }

      pub next-ahead : min n ((q + 1) * size) ≡ next_on t (slots_from size f 0) n
      unfolding act spans
      next-ahead =
          let a : t < t / size * size + size = lt-div-mul-add long in
          let b : (q + 1) * size ≡ t / size * size + size = rw is (add-mul (t / size) 1 size ∙ ap (t / size * size +◌) (one-mul size)) in
          let c : (q + 1) * size ≤ f * size = mul-le-mul_right size (omega arith) in
          let d : next_on t (slots_from (f * size / f) f 0) n ≡ min n ((t / (f * size / f) + 1) * (f * size / f)) = next-by-division (f * size) act divides t n (omega arith) in
          sym ((rw back at d) ∙ ap (λ (x : ℕ). min n ((x + 1) * size)) (sym is))
