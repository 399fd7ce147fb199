-- The laws of slots: what is accepted, and what holds of an activity up to the next instant.
use Rattle.std.specs.Prelude.{ℕ, min, ◌≤◌, ◌<◌, ◌≡◌, refl, Bool, true, false, cond, ◌||◌, ◌&&◌, List, [], ◌∷◌, eqb, leb, ltb}
use Rattle.std.proofs.Common.{arith, ltb-true, ltb-false, eqb-true, leb-true, lt-ltb, le-leb, ne_eqb}
use Rattle.std.proofs.lemmas.Bool.{eqb-false}
use Rattle.model.specs.Modules.{Act}
use Rattle.timing.specs.Slots.{Span, spans, any_of, span_ends, span_begins, span_live, span_amid, ends_at, begins_at, live_at, amid_at, sooner, next_on, soonest, keep}

-- Stretches of some length between lo and hi, none before another's end.
abbrev pub Ordered : ℕ → List Span → ℕ → Type 0
Ordered lo [] hi = lo ≤ hi
Ordered lo (span ∷ rest) hi = (lo ≤ span.from) × (span.from < span.to) × Ordered span.to rest hi

-- an activity's slots follow one another inside the period
pub record Fits {A : Type 0} (period : ℕ) (act : Act A) : Type 0 where
  pub ordered : Ordered 0 (spans period act) period

-- of every element of a list
abbrev pub Each : {A : Type 0} → (A → Type 0) → List A → Type 0
Each C [] = Unit {0}
Each C (a ∷ rest) = C a × Each C rest

pub each-zip : {A : Type 0} (B C D : A → Type 0) → ((a : A) → B a → C a → D a) → (list : List A) → Each B list → Each C list → Each D list
each-zip B C D f [] b c = tt
each-zip B C D f (a ∷ rest) b c = (f a b.0 c.0, each-zip B C D f rest b.1 c.1)

pub each_keep : {A : Type 0} (C : A → Type 0) (f : A → Bool) (l : List A) → Each C l → Each C (keep f l)
each_keep C f [] e = tt
each_keep C f (a ∷ l) e = go (f a) (each_keep C f l e.1)
  where
    go : (y : Bool) → Each C (keep f l) → Each C (cond y (a ∷ keep f l) (keep f l))
    go true r = (e.0, r)
    go false r = r

-- so for every activity
abbrev pub AllFit : {A : Type 0} → ℕ → List (Act A) → Type 0
AllFit period acts = Each (Fits period) acts

-- ---- tests joined

pub or_elim : {C : Type 0} (x y : Bool) → (x || y) ≡ true → (x ≡ true → C) → (y ≡ true → C) → C
or_elim true y h a b = a refl
or_elim false y h a b = b h

pub or_left : (x y : Bool) → x ≡ true → (x || y) ≡ true
or_left x y h = rw h refl

pub or_right : (x y : Bool) → y ≡ true → (x || y) ≡ true
or_right true y h = refl
or_right false y h = h

pub or-false : (x y : Bool) → (x || y) ≡ false → (x ≡ false) × (y ≡ false)
or-false true y h = let z : ◌≡◌ {A = ℕ} 0 1 = cc in absurd (omega arith)
or-false false y h = (refl, h)

pub and-true : (x y : Bool) → (x && y) ≡ true → (x ≡ true) × (y ≡ true)
and-true true y h = (refl, h)
and-true false y h = let z : ◌≡◌ {A = ℕ} 0 1 = cc in absurd (omega arith)

pub both_true : (x y : Bool) → x ≡ true → y ≡ true → (x && y) ≡ true
both_true x y h k = rw (h, k) refl

-- ---- the next slot end

module _ (t : ℕ) where
  sooner-le : (x n : ℕ) → sooner t x n ≤ n
  sooner-le x n = go (ltb t x)
    where
      go : (y : Bool) → cond y (min n x) n ≤ n
      go true = omega arith
      go false = omega arith

  sooner-to : (x n : ℕ) → t < x → sooner t x n ≤ x
  sooner-to x n h = rw (lt-ltb t x h) (omega arith)

  sooner-after : (x n : ℕ) → t < n → t < sooner t x n
  sooner-after x n h = go (ltb t x) refl
    where
      go : (y : Bool) → ltb t x ≡ y → t < cond y (min n x) n
      go true e = let b = ltb-true t x e in omega arith
      go false e = h

  sooner-same : (v x n : ℕ) → t ≤ v → v < sooner t x n → sooner v x n ≡ sooner t x n
  sooner-same v x n le h = go (ltb t x) refl (ltb v x) refl
    where
      go : (y : Bool) → ltb t x ≡ y → (z : Bool) → ltb v x ≡ z → sooner v x n ≡ sooner t x n
      go true e true f = rw (e, f) refl
      go false e false f = rw (e, f) refl
      go false e true f = let a = ltb-false t x e in let b = ltb-true v x f in absurd (omega arith)
      go true e false f = let a = ltb-true t x e in let b = ltb-false v x f in let c = sooner-to x n a in absurd (omega arith)

  pub next_on-le : (l : List Span) (n : ℕ) → next_on t l n ≤ n
  next_on-le [] n = omega arith
  next_on-le (span ∷ l) n = let a = next_on-le l (sooner t span.to n) in let b = sooner-le span.to n in omega arith

  pub next_on-after : (l : List Span) (n : ℕ) → t < n → t < next_on t l n
  next_on-after [] n h = h
  next_on-after (span ∷ l) n h = next_on-after l (sooner t span.to n) (sooner-after span.to n h)

  pub next_on-same : (v : ℕ) (l : List Span) (n : ℕ) → t ≤ v → v < next_on t l n → next_on v l n ≡ next_on t l n
  next_on-same v [] n le h = refl
  next_on-same v (span ∷ l) n le h =
      let m = sooner t span.to n in
      let a : next_on t l m ≤ m = next_on-le l m in
      let e : sooner v span.to n ≡ m = sooner-same v span.to n le (omega arith) in
      rw e (next_on-same v l m le h)

-- A slot that is in force at t and does not end with the next instant v is in its midst at v.
pub goes_on : (t v n : ℕ) (l : List Span) → t < v → v ≤ next_on t l n → any_of (span_live t) l ≡ true → any_of (span_ends v) l ≡ false → any_of (span_amid v) l ≡ true
goes_on t v n [] lt le h e = h
goes_on t v n (span ∷ l) lt le h e =
    or_elim (span_live t span) (any_of (span_live t) l) h
    (λ k. let (a, b) = and-true (leb span.from t) (ltb t span.to) k in
    let a1 = leb-true span.from t a in
    let b1 = ltb-true t span.to b in
    let c = next_on-le t l (sooner t span.to n) in
    let d = sooner-to t span.to n b1 in
    let f = eqb-false v span.to (or-false (span_ends v span) (any_of (span_ends v) l) e).0 in
    or_left (span_amid v span) (any_of (span_amid v) l) (both_true (ltb span.from v) (ltb v span.to) (lt-ltb span.from v (omega arith)) (lt-ltb v span.to (omega arith))))
    (λ k. or_right (span_amid v span) (any_of (span_amid v) l) (goes_on t v (sooner t span.to n) l lt le k (or-false (span_ends v span) (any_of (span_ends v) l) e).1))

-- And one in force at t is so up to the next instant.
lives-on : (t v n : ℕ) (l : List Span) → t ≤ v → v < next_on t l n → any_of (span_live t) l ≡ true → any_of (span_live v) l ≡ true
lives-on t v n [] le lt h = h
lives-on t v n (span ∷ l) le lt h =
    or_elim (span_live t span) (any_of (span_live t) l) h
    (λ k. let (a, b) = and-true (leb span.from t) (ltb t span.to) k in
    let a1 = leb-true span.from t a in
    let b1 = ltb-true t span.to b in
    let c = next_on-le t l (sooner t span.to n) in
    let d = sooner-to t span.to n b1 in
    or_left (span_live v span) (any_of (span_live v) l) (both_true (leb span.from v) (ltb v span.to) (le-leb span.from v (omega arith)) (lt-ltb v span.to (omega arith))))
    (λ k. or_right (span_live v span) (any_of (span_live v) l) (lives-on t v (sooner t span.to n) l le lt k))

-- ---- slots one behind the other

module _ (t hi : ℕ) where
  ordered-le : (lo : ℕ) (l : List Span) → Ordered lo l hi → lo ≤ hi
  ordered-le lo [] o = o
  ordered-le lo (span ∷ l) o = let h = ordered-le span.to l o.2 in omega arith

  amid-live : (l : List Span) → any_of (span_amid t) l ≡ true → any_of (span_live t) l ≡ true
  amid-live [] h = h
  amid-live (span ∷ l) h =
      or_elim (span_amid t span) (any_of (span_amid t) l) h
      (λ k. let (a, b) = and-true (ltb span.from t) (ltb t span.to) k in
      let a1 = ltb-true span.from t a in
      or_left (span_live t span) (any_of (span_live t) l) (both_true (leb span.from t) (ltb t span.to) (le-leb span.from t (omega arith)) b))
      (λ k. or_right (span_live t span) (any_of (span_live t) l) (amid-live l k))

  amid-low : (lo : ℕ) (l : List Span) → Ordered lo l hi → any_of (span_amid t) l ≡ true → (lo < t) × (t < hi)
  amid-low lo [] o h = let z : ◌≡◌ {A = ℕ} 0 1 = cc in absurd (omega arith)
  amid-low lo (span ∷ l) o h =
      or_elim (span_amid t span) (any_of (span_amid t) l) h
      (λ k. let (a, b) = and-true (ltb span.from t) (ltb t span.to) k in
      let a1 = ltb-true span.from t a in
      let b1 = ltb-true t span.to b in
      let c = ordered-le span.to l o.2 in
      (omega arith, omega arith))
      (λ k. let i = amid-low span.to l o.2 k in (omega arith, omega arith))

  none_before : (lo : ℕ) (l : List Span) → Ordered lo l hi → t < lo → any_of (span_begins t) l ≡ false
  none_before lo [] o h = refl
  none_before lo (span ∷ l) o h =
      let e : eqb t span.from ≡ false = ne_eqb t span.from (λ q. omega arith) in
      rw e (none_before span.to l o.2 (omega arith))

  amid-begins : (lo : ℕ) (l : List Span) → Ordered lo l hi → any_of (span_amid t) l ≡ true → any_of (span_begins t) l ≡ false
  amid-begins lo [] o h = refl
  amid-begins lo (span ∷ l) o h =
      or_elim (span_amid t span) (any_of (span_amid t) l) h
      (λ k. let (a, b) = and-true (ltb span.from t) (ltb t span.to) k in
      let a1 = ltb-true span.from t a in
      let b1 = ltb-true t span.to b in
      let e : eqb t span.from ≡ false = ne_eqb t span.from (λ q. omega arith) in
      rw e (none_before span.to l o.2 b1))
      (λ k. let i = amid-low span.to l o.2 k in
      let e : eqb t span.from ≡ false = ne_eqb t span.from (λ q. omega arith) in
      rw e (amid-begins span.to l o.2 k))

  begins-live : (lo : ℕ) (l : List Span) → Ordered lo l hi → any_of (span_begins t) l ≡ true → any_of (span_live t) l ≡ true
  begins-live lo [] o h = h
  begins-live lo (span ∷ l) o h =
      or_elim (span_begins t span) (any_of (span_begins t) l) h
      (λ k. let e = eqb-true t span.from k in
      or_left (span_live t span) (any_of (span_live t) l) (both_true (leb span.from t) (ltb t span.to) (le-leb span.from t (omega arith)) (lt-ltb t span.to (omega arith))))
      (λ k. or_right (span_live t span) (any_of (span_live t) l) (begins-live span.to l o.2 k))

-- ---- the laws of an activity that theorems cite

module _ {A : Type 0} (period t : ℕ) (act : Act A) where
  pub begun-live : Fits period act → begins_at period t act ≡ true → live_at period t act ≡ true
  begun-live f = begins-live t period 0 (spans period act) f.ordered

  pub midst-live : amid_at period t act ≡ true → live_at period t act ≡ true
  midst-live = amid-live t period (spans period act)

  pub midst-begins : Fits period act → amid_at period t act ≡ true → begins_at period t act ≡ false
  midst-begins f = amid-begins t period 0 (spans period act) f.ordered

  pub midst-before : Fits period act → amid_at period t act ≡ true → t < period
  midst-before f h = (amid-low t period 0 (spans period act) f.ordered h).1

-- in force at t, and not ending with the next instant v
abbrev pub stays_at : {A : Type 0} → ℕ → ℕ → ℕ → Act A → Bool
stays_at period t v act = cond (ends_at period v act) false (live_at period t act)

module _ {A : Type 0} (period t : ℕ) where
  pub soonest-le : (acts : List (Act A)) (n : ℕ) → soonest period t acts n ≤ n
  soonest-le [] n = omega arith
  soonest-le (a ∷ acts) n = let h = soonest-le acts (next_on t (spans period a) n) in let k = next_on-le t (spans period a) n in omega arith

  pub soonest-after : (acts : List (Act A)) (n : ℕ) → t < n → t < soonest period t acts n
  soonest-after [] n h = h
  soonest-after (a ∷ acts) n h = soonest-after acts (next_on t (spans period a) n) (next_on-after t (spans period a) n h)

  pub soonest-same : (v : ℕ) (acts : List (Act A)) (n : ℕ) → t ≤ v → v < soonest period t acts n → soonest period v acts n ≡ soonest period t acts n
  soonest-same v [] n le h = refl
  soonest-same v (a ∷ acts) n le h =
      let m = next_on t (spans period a) n in
      let b : soonest period t acts m ≤ m = soonest-le acts m in
      let e : next_on v (spans period a) n ≡ m = next_on-same t v (spans period a) n le (omega arith) in
      rw e (soonest-same v acts m le h)

  -- Up to the next instant v: what stays is in its midst there, and what is in force before is in force.
  abbrev pub Midst : ℕ → Act A → Type 0
  Midst v act = stays_at period t v act ≡ true → amid_at period v act ≡ true

  abbrev pub Lasts : ℕ → Act A → Type 0
  Lasts v act = live_at period t act ≡ true → live_at period v act ≡ true

  pub lasting : (v : ℕ) (acts : List (Act A)) (n : ℕ) → t ≤ v → v < soonest period t acts n → Each (Lasts v) acts
  lasting v [] n le lt = tt
  lasting v (a ∷ acts) n le lt = let b = soonest-le acts (next_on t (spans period a) n) in (lives-on t v n (spans period a) le (omega arith), lasting v acts (next_on t (spans period a) n) le lt)

  pub midst : (v : ℕ) (acts : List (Act A)) (n : ℕ) → t < v → v ≤ soonest period t acts n → Each (Midst v) acts
  midst v [] n lt le = tt
  midst v (a ∷ acts) n lt le =
      let b = soonest-le acts (next_on t (spans period a) n) in
      (λ h. go (ends_at period v a) refl h (omega arith), midst v acts (next_on t (spans period a) n) lt le)
    where
      go : (y : Bool) → ends_at period v a ≡ y → cond y false (live_at period t a) ≡ true → v ≤ next_on t (spans period a) n → amid_at period v a ≡ true
      go true e h q = let z : ◌≡◌ {A = ℕ} 0 1 = cc in absurd (omega arith)
      go false e h q = goes_on t v n (spans period a) lt q h e
