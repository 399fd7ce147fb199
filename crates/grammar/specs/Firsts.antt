-- What may stand first in a word of an expression, and what follows it: computed, and proved to be so.
use Rattle.std.specs.Prelude.{ℕ, ◌≡◌, ◌⊎◌, true}
use Rattle.std.proofs.Math.Path.{refl, sym, ap}
use Rattle.std.proofs.Common.{◌∙◌, eq-eqb}
use Rattle.std.proofs.Math.Logic.{inl, inr}
use mathlib.Core.List.{List, [], ◌∷◌, ◌++◌, append_assoc}
use Rattle.model.specs.Bytes.{same}
use Rattle.text.specs.declared.Token.TheVariants as T
use Rattle.text.specs.declared.Item.{Item}
use Rattle.text.specs.Tokens.{code_of}
use Rattle.grammar.specs.Expressions.{Letter, Atom, kind, spelt, fits, Expression, nothing, one, ◌⊙◌, ◌∣◌, many, reads, Word, empty, single, joined, left, right, stop, again, made}
use Rattle.grammar.specs.Empties.{empties, In, head, tail, none_in, no-cons, null, one_in, nulled}

-- one behind the other, bracketed to the right
unfoldable pub onto : Expression → Expression → Expression
onto nothing k = k
onto (one a) k = one a ⊙ k
onto (x ⊙ y) k = x ⊙ onto y k
onto (x ∣ y) k = (x ∣ y) ⊙ k
onto (many x) k = many x ⊙ k
onto (reads make x) k = reads make x ⊙ k

-- a token that may stand first, the items before it, and what follows it
pub record First : Type 0 where
  pub atom : Atom
  pub out : List Item
  pub rest : Letter → Expression

abbrev pub first : Atom → (Letter → Expression) → First
first atom rest = record { atom = atom; out = []; rest = rest }

behind : Expression → List First → List First
behind k [] = []
behind k (f ∷ fs) = record { atom = f.atom; out = f.out; rest = λ l. onto (f.rest l) k } ∷ behind k fs

within : (List Letter → Item) → List First → List First
within make [] = []
within make (f ∷ fs) = record { atom = f.atom; out = f.out; rest = λ l. reads (λ u. make (l ∷ u)) (f.rest l) } ∷ within make fs

unfoldable pub past : List Item → List First → List First
past o [] = []
past o (f ∷ fs) = record { atom = f.atom; out = o ++ f.out; rest = f.rest } ∷ past o fs

unfoldable pub after : List Item → List First → List First
unfolding past
after [] fs = fs
after (i ∷ o) fs = past (i ∷ o) fs

fronts : List (List Item) → List First → List First
unfolding after
fronts [] fs = []
fronts (o ∷ []) fs = after o fs
fronts (o ∷ (p ∷ os)) fs = after o fs ++ fronts (p ∷ os) fs

unfoldable pub firsts : Expression → List First
unfolding empties onto behind within fronts
firsts nothing = []
firsts (one a) = first a (λ l. nothing) ∷ []
firsts (x ⊙ y) = behind y (firsts x) ++ fronts (empties x) (firsts y)
firsts (x ∣ y) = firsts x ++ firsts y
firsts (many x) = behind (many x) (firsts x)
firsts (reads make x) = within make (firsts x)

-- a token and the letters behind it go along one of these, read as these items
pub data Along (l : Letter) (v : List Letter) : List Item → List First → Type 0 where
  here : {f : First} {fs : List First} {p : List Item} → fits f.atom l ≡ true → Word (f.rest l) v p → Along l v (f.out ++ p) (f ∷ fs)
  later : {f : First} {fs : List First} {p : List Item} → Along l v p fs → Along l v p (f ∷ fs)

-- ---- brackets

onto-to : (x k : Expression) {u v : List Letter} {o p : List Item} → Word x u o → Word k v p → Word (onto x k) (u ++ v) (o ++ p)
unfolding onto
onto-to nothing k empty q = q
onto-to (one a) k p q = joined p q
onto-to (x ⊙ y) k {v = v} {p = e} (joined {u = s} {v = t} {o = c} {p = d} p r) q = rw (append_assoc s t v, append_assoc c d e) (joined p (onto-to y k r q))
onto-to (x ∣ y) k p q = joined p q
onto-to (many x) k p q = joined p q
onto-to (reads make x) k p q = joined p q

-- a word in two parts
record Parts (x y : Expression) (w : List Letter) (o : List Item) : Type 0 where
  front : List Letter
  back : List Letter
  whole : w ≡ front ++ back
  ahead : List Item
  rear : List Item
  all : o ≡ ahead ++ rear
  one : Word x front ahead
  two : Word y back rear

parted : {x y : Expression} {w : List Letter} {o : List Item} → Word (x ⊙ y) w o → Parts x y w o
parted (joined {u = u} {v = v} {o = o} {p = p} a b) = record { front = u; back = v; whole = refl; ahead = o; rear = p; all = refl; one = a; two = b }

-- a word goes along the first entry
record AtHead (l : Letter) (v : List Letter) (o : List Item) (f : First) : Type 0 where
  read : List Item
  all : o ≡ f.out ++ read
  fits : fits f.atom l ≡ true
  word : Word (f.rest l) v read

onto-from : (x k : Expression) {w : List Letter} {o : List Item} → Word (onto x k) w o → Parts x k w o
unfolding onto
onto-from nothing k {w} {o} p = record { front = []; back = w; whole = refl; ahead = []; rear = o; all = refl; one = empty; two = p }
onto-from (one a) k p = parted p
onto-from (x ⊙ y) k (joined {u = u} {o = o} p q) =
    let r = onto-from y k q in
    record {
      front = u ++ r.front;
      back = r.back;
      whole = rw (append_assoc u r.front r.back) (ap (λ (l : List Letter). u ++ l) r.whole);
      ahead = o ++ r.ahead;
      rear = r.rear;
      all = rw (append_assoc o r.ahead r.rear) (ap (λ (l : List Item). o ++ l) r.all);
      one = joined p r.one;
      two = r.two;
    }
onto-from (x ∣ y) k p = parted p
onto-from (many x) k p = parted p
onto-from (reads make x) k p = parted p

-- ---- along lists of firsts

pub none-along : {l : Letter} {v : List Letter} {o : List Item} → Along l v o [] → ⊥
none-along a = elim a [ ]

-- the letters behind a token in two parts, the first along these
record Behind (l : Letter) (k : Expression) (fs : List First) (w : List Letter) (o : List Item) : Type 0 where
  front : List Letter
  back : List Letter
  whole : w ≡ front ++ back
  ahead : List Item
  rear : List Item
  all : o ≡ ahead ++ rear
  along : Along l front ahead fs
  two : Word k back rear

unmade : (make : List Letter → Item) {x : Expression} {v : List Letter} {o : List Item} → Word (reads make x) v o → (p : List Item) × (o ≡ p ++ (make v ∷ [])) × Word x v p
unmade make (made {o = p} w) = (p, refl, w)

-- the same word under other names for its letters and items
again-as : {x : Expression} {w v : List Letter} {o p : List Item} → w ≡ v → o ≡ p → Word x v p → Word x w o
again-as e f a = rw (e, f) a

module _ {l : Letter} where
  along-left : {v : List Letter} {o : List Item} {fs : List First} (gs : List First) → Along l v o fs → Along l v o (fs ++ gs)
  along-left gs (here f w) = here f w
  along-left gs (later a) = later (along-left gs a)

  along-right : {v : List Letter} {o : List Item} (fs : List First) {gs : List First} → Along l v o gs → Along l v o (fs ++ gs)
  along-right [] a = a
  along-right (f ∷ fs) a = later (along-right fs a)

  along-cases : {v : List Letter} {o : List Item} (fs : List First) {gs : List First} → Along l v o (fs ++ gs) → Along l v o fs ⊎ Along l v o gs
  along-cases [] a = inr a
  along-cases (f ∷ fs) (here e w) = inl (here e w)
  along-cases (f ∷ fs) (later a) = elim (along-cases fs a) [ inl b ↦ inl (later b) | inr b ↦ inr b ]

  along-cons : {v : List Letter} {o : List Item} (f : First) (fs : List First) → Along l v o (f ∷ fs) → AtHead l v o f ⊎ Along l v o fs
  along-cons f fs (here {p = p} e w) = inl (record { read = p; all = refl; fits = e; word = w })
  along-cons f fs (later a) = inr a

  behind-to : {u v : List Letter} {o p : List Item} {k : Expression} {fs : List First} → Along l u o fs → Word k v p → Along l (u ++ v) (o ++ p) (behind k fs)
  unfolding behind
  behind-to {p = q} {k = k} (here {f = f} {p = p} e w) r = rw (append_assoc f.out p q) (here {f = record { atom = f.atom; out = f.out; rest = λ m. onto (f.rest m) k }} e (onto-to (f.rest l) k w r))
  behind-to (later a) q = later (behind-to a q)

  behind-from : {w : List Letter} {o : List Item} (k : Expression) (fs : List First) → Along l w o (behind k fs) → Behind l k fs w o
  unfolding behind
  behind-from k [] a = absurd (none-along a)
  behind-from {w} {o} k (f ∷ fs) a = by (along-cons (record { atom = f.atom; out = f.out; rest = λ m. onto (f.rest m) k }) (behind k fs) a) (behind-from k fs)
    where
      by : AtHead l w o (record { atom = f.atom; out = f.out; rest = λ m. onto (f.rest m) k }) ⊎ Along l w o (behind k fs) → (Along l w o (behind k fs) → Behind l k fs w o) → Behind l k (f ∷ fs) w o
      by (inl h) go =
          let r = onto-from (f.rest l) k h.word in
          record { front = r.front; back = r.back; whole = r.whole; ahead = f.out ++ r.ahead; rear = r.rear; all = h.all ∙ rw (append_assoc f.out r.ahead r.rear) (ap (λ (c : List Item). f.out ++ c) r.all); along = here h.fits r.one; two = r.two }
      by (inr b) go =
          let r = go b in
          record { front = r.front; back = r.back; whole = r.whole; ahead = r.ahead; rear = r.rear; all = r.all; along = later r.along; two = r.two }

  within-to : (make : List Letter → Item) {v : List Letter} {o : List Item} {fs : List First} → Along l v o fs → Along l v (o ++ (make (l ∷ v) ∷ [])) (within make fs)
  unfolding within
  within-to make {v} (here {f = f} {p = p} e w) = rw (append_assoc f.out p (make (l ∷ v) ∷ [])) (here {f = record { atom = f.atom; out = f.out; rest = λ m. reads (λ u. make (m ∷ u)) (f.rest m) }} e (made w))
  within-to make (later a) = later (within-to make a)

  within-from : (make : List Letter → Item) {v : List Letter} {o : List Item} (fs : List First) → Along l v o (within make fs) → (p : List Item) × (o ≡ p ++ (make (l ∷ v) ∷ [])) × Along l v p fs
  unfolding within
  within-from make [] a = absurd (none-along a)
  within-from make {v} {o} (f ∷ fs) a = by (along-cons (record { atom = f.atom; out = f.out; rest = λ m. reads (λ u. make (m ∷ u)) (f.rest m) }) (within make fs) a) (within-from make fs)
    where
      by : AtHead l v o (record { atom = f.atom; out = f.out; rest = λ m. reads (λ u. make (m ∷ u)) (f.rest m) }) ⊎ Along l v o (within make fs) → (Along l v o (within make fs) → (p : List Item) × (o ≡ p ++ (make (l ∷ v) ∷ [])) × Along l v p fs) → (p : List Item) × (o ≡ p ++ (make (l ∷ v) ∷ [])) × Along l v p (f ∷ fs)
      by (inl h) go =
          let r = unmade (λ u. make (l ∷ u)) h.word in
          (f.out ++ r.0, h.all ∙ ap (λ (c : List Item). f.out ++ c) r.1 ∙ sym (append_assoc f.out r.0 (make (l ∷ v) ∷ [])), here h.fits r.2)
      by (inr b) go = let r = go b in (r.0, r.1, later r.2)

  past_to : (o : List Item) {v : List Letter} {p : List Item} {fs : List First} → Along l v p fs → Along l v (o ++ p) (past o fs)
  unfolding past
  past_to o (here {f = f} {p = p} e w) = rw (← append_assoc o f.out p) (here {f = record { atom = f.atom; out = o ++ f.out; rest = f.rest }} e w)
  past_to o (later a) = later (past_to o a)

  past-from : (o : List Item) {v : List Letter} {p : List Item} (fs : List First) → Along l v p (past o fs) → (q : List Item) × (p ≡ o ++ q) × Along l v q fs
  unfolding past
  past-from o [] a = absurd (none-along a)
  past-from o (f ∷ fs) (here {p = q} e w) = (f.out ++ q, append_assoc o f.out q, here e w)
  past-from o (f ∷ fs) (later a) = let r = past-from o fs a in (r.0, r.1, later r.2)

  pub after-to : (o : List Item) {v : List Letter} {p : List Item} {fs : List First} → Along l v p fs → Along l v (o ++ p) (after o fs)
  unfolding after
  after-to [] a = a
  after-to (i ∷ o) a = past_to (i ∷ o) a

  pub after-from : (o : List Item) {v : List Letter} {p : List Item} (fs : List First) → Along l v p (after o fs) → (q : List Item) × (p ≡ o ++ q) × Along l v q fs
  unfolding after
  after-from [] {p = p} fs a = (p, refl, a)
  after-from (i ∷ o) fs a = past-from (i ∷ o) fs a

  fronts-to : (os : List (List Item)) {o : List Item} {v : List Letter} {p : List Item} {fs : List First} → In o os → Along l v p fs → Along l v (o ++ p) (fronts os fs)
  unfolding fronts
  fronts-to [] i a = absurd (none_in i)
  fronts-to (q ∷ []) i a = rw (one_in i) (after-to q a)
  fronts-to (q ∷ (r ∷ os)) {fs = fs} (head e) a = along-left {fs = after q fs} _ (rw e (after-to q a))
  fronts-to (q ∷ (r ∷ os)) {fs = fs} (tail i) a = along-right (after q fs) (fronts-to (r ∷ os) i a)

  fronts-from : (os : List (List Item)) {v : List Letter} {p : List Item} (fs : List First) → Along l v p (fronts os fs) → (o : List Item) × (q : List Item) × (p ≡ o ++ q) × In o os × Along l v q fs
  unfolding fronts
  fronts-from [] fs a = absurd (none-along a)
  fronts-from (o ∷ []) fs a = let r = after-from o fs a in (o, r.0, r.1, head refl, r.2)
  fronts-from (o ∷ (p ∷ os)) fs a = elim (along-cases (after o fs) a) [
    | inl b ↦ (let r = after-from o fs b in (o, r.0, r.1, head refl, r.2))
    | inr b ↦ (let r = fronts-from (p ∷ os) fs b in (r.0, r.1, r.2, tail r.3, r.4))
  ]

-- ---- the first token of a word

module _ (l : Letter) where
  -- every word that begins with the token goes along
  pub first_to : {x : Expression} {w v : List Letter} {o : List Item} → Word x w o → w ≡ l ∷ v → Along l v o (firsts x)
  unfolding firsts
  first_to empty e = absurd (no-cons e)
  first_to {v = v} (single {a = a} {l = m} f) e =
      let p : m ≡ l = cc in
      let q : [] ≡ v = cc in
      rw (← p, ← q) (here {f = first a (λ n. nothing)} f empty)
  first_to (joined {x = x} {y = y} {u = []} p q) e = along-right (behind y (firsts x)) (fronts-to (empties x) (null p refl) (first_to q e))
  first_to {v = w} (joined {x = x} {y = y} {u = m ∷ u} {v = v} p q) e =
      let h : m ≡ l = cc in
      let t : u ++ v ≡ w = cc in
      along-left {fs = behind y (firsts x)} _ (rw (← t) (behind-to (first_to p (ap (λ (n : Letter). n ∷ u) h)) q))
  first_to (left p) e = along-left _ (first_to p e)
  first_to (right {x = x} q) e = along-right (firsts x) (first_to q e)
  first_to stop e = absurd (no-cons e)
  first_to {v = w} (again {l = m} {u = u} {v = v} p q) e =
      let h : m ≡ l = cc in
      let t : u ++ v ≡ w = cc in
      rw (← t) (behind-to (first_to p (ap (λ (n : Letter). n ∷ u) h)) q)
  first_to (made {make = make} p) e = rw e (within-to make (first_to p e))

  nothing_left : {w : List Letter} {o : List Item} → Word nothing w o → (w ≡ []) × (o ≡ [])
  nothing_left empty = (refl, refl)

  one_from : (a : Atom) {v : List Letter} {o : List Item} → Along l v o (first a (λ n. nothing) ∷ []) → Word (one a) (l ∷ v) o
  one_from a (here f w) = let r = nothing_left w in rw (r.0, r.1) (single f)
  one_from a (later b) = absurd (none-along b)

  -- and what goes along is a word that begins with it
  pub first-from : (x : Expression) {v : List Letter} {o : List Item} → Along l v o (firsts x) → Word x (l ∷ v) o
  unfolding firsts
  first-from nothing a = absurd (none-along a)
  first-from (one a) b = one_from a b
  first-from (x ⊙ y) {v} {o} a = by (λ u p c. first-from x c) (λ p c. first-from y c) (along-cases (behind y (firsts x)) a)
    where
      by : ((u : List Letter) (p : List Item) → Along l u p (firsts x) → Word x (l ∷ u) p) → ((p : List Item) → Along l v p (firsts y) → Word y (l ∷ v) p) → Along l v o (behind y (firsts x)) ⊎ Along l v o (fronts (empties x) (firsts y)) → Word (x ⊙ y) (l ∷ v) o
      by at on (inl c) = let r = behind-from y (firsts x) c in again-as (ap (λ (u : List Letter). l ∷ u) r.whole) r.all (joined (at _ _ r.along) r.two)
      by at on (inr c) = let r = fronts-from (empties x) (firsts y) c in again-as refl r.2 (joined (nulled x r.3) (on _ r.4))
  first-from (x ∣ y) a = elim (along-cases (firsts x) a) [ inl b ↦ left (first-from x b) | inr b ↦ right (first-from y b) ]
  first-from (many x) a = let r = behind-from (many x) (firsts x) a in again-as (ap (λ (u : List Letter). l ∷ u) r.whole) r.all (again (first-from x r.along) r.two)
  first-from (reads make x) a = let r = within-from make (firsts x) a in again-as refl r.1 (made (first-from x r.2))

-- ---- every expression has a word

same_self : (w : List ℕ) → same w w ≡ true
unfolding same
same_self [] = refl
same_self (x ∷ xs) = rw (eq-eqb x x refl) (same_self xs)

pub some_word : (x : Expression) → (w : List Letter) × (o : List Item) × Word x w o
some_word nothing = ([], [], empty)
some_word (one (kind t)) = (record { token = t; start = 0; end = 0; bytes = [] } ∷ [], [], single (eq-eqb (code_of t) (code_of t) refl))
some_word (one (spelt w)) = (record { token = T.Name; start = 0; end = 0; bytes = w } ∷ [], [], single (same_self w))
some_word (x ⊙ y) = ((some_word x).0 ++ (some_word y).0, (some_word x).1 ++ (some_word y).1, joined (some_word x).2 (some_word y).2)
some_word (x ∣ y) = ((some_word x).0, (some_word x).1, left (some_word x).2)
some_word (many x) = ([], [], stop)
some_word (reads make x) = ((some_word x).0, (some_word x).1 ++ (make (some_word x).0 ∷ []), made (some_word x).2)
