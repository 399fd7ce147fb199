-- What the empty word of an expression is read as: computed, and proved to be so.
use Rattle.std.specs.Prelude.{ℕ, ◌≡◌, refl, ◌⊎◌, List, [], ◌∷◌, ◌++◌}
use Rattle.std.proofs.Common.{ap, inl, inr, arith}
use Rattle.text.specs.declared.Item.{Item}
use Rattle.grammar.specs.Expressions.{Letter, Expression, nothing, one, ◌⊙◌, ◌∣◌, many, reads, Word, empty, single, joined, left, right, stop, again, made}

glue : List Item → List (List Item) → List (List Item)
glue o [] = []
glue o (p ∷ ps) = (o ++ p) ∷ glue o ps

pairs : List (List Item) → List (List Item) → List (List Item)
unfolding glue
pairs [] qs = []
pairs (o ∷ os) qs = glue o qs ++ pairs os qs

ends : Item → List (List Item) → List (List Item)
ends i [] = []
ends i (o ∷ os) = (o ++ (i ∷ [])) ∷ ends i os

unfoldable pub empties : Expression → List (List Item)
unfolding glue pairs ends
empties nothing = [] ∷ []
empties (one a) = []
empties (x ⊙ y) = pairs (empties x) (empties y)
empties (x ∣ y) = empties x ++ empties y
empties (many x) = [] ∷ []
empties (reads make x) = ends (make []) (empties x)

-- ---- the empty word

pub data In (o : List Item) : List (List Item) → Type 0 where
  head : {p : List Item} {ps : List (List Item)} → o ≡ p → In o (p ∷ ps)
  tail : {p : List Item} {ps : List (List Item)} → In o ps → In o (p ∷ ps)

pub none_in : {o : List Item} → In o [] → ⊥
none_in i = elim i [ ]

pub in_left : {o : List Item} {ps : List (List Item)} (qs : List (List Item)) → In o ps → In o (ps ++ qs)
in_left qs (head e) = head e
in_left qs (tail i) = tail (in_left qs i)

in_right : {o : List Item} (ps : List (List Item)) {qs : List (List Item)} → In o qs → In o (ps ++ qs)
in_right [] i = i
in_right (p ∷ ps) i = tail (in_right ps i)

in-cases : {o : List Item} (ps : List (List Item)) {qs : List (List Item)} → In o (ps ++ qs) → In o ps ⊎ In o qs
in-cases [] i = inr i
in-cases (p ∷ ps) (head e) = inl (head e)
in-cases (p ∷ ps) (tail i) = elim (in-cases ps i) [ inl j ↦ inl (tail j) | inr j ↦ inr j ]

in-glue : (o : List Item) {p : List Item} {qs : List (List Item)} → In p qs → In (o ++ p) (glue o qs)
unfolding glue
in-glue o (head e) = head (ap (λ (q : List Item). o ++ q) e)
in-glue o (tail i) = tail (in-glue o i)

in_pairs : {o p : List Item} {os qs : List (List Item)} → In o os → In p qs → In (o ++ p) (pairs os qs)
unfolding pairs
in_pairs {qs = qs} (head {p = q} e) j = in_left {ps = glue q qs} _ (rw e (in-glue q j))
in_pairs {qs = qs} (tail {p = q} i) j = in_right (glue q qs) (in_pairs i j)

in-ends : (i : Item) {o : List Item} {os : List (List Item)} → In o os → In (o ++ (i ∷ [])) (ends i os)
unfolding ends
in-ends i (head e) = head (ap (λ (q : List Item). q ++ (i ∷ [])) e)
in-ends i (tail j) = tail (in-ends i j)

pub no-cons : {l : Letter} {v : List Letter} → [] ≡ l ∷ v → ⊥
no-cons e = let z : ◌≡◌ {A = ℕ} 0 1 = cc in omega arith

no-nil : {l : Letter} {v : List Letter} → l ∷ v ≡ [] → ⊥
no-nil e = let z : ◌≡◌ {A = ℕ} 0 1 = cc in omega arith

null-left : (u v : List Letter) → u ++ v ≡ [] → u ≡ []
null-left [] v e = refl
null-left (l ∷ u) v e = absurd (no-nil e)

null-right : (u v : List Letter) → u ++ v ≡ [] → v ≡ []
null-right [] v e = e
null-right (l ∷ u) v e = absurd (no-nil e)

pub null : {x : Expression} {w : List Letter} {o : List Item} → Word x w o → w ≡ [] → In o (empties x)
unfolding empties
null empty e = head refl
null (single f) e = absurd (no-nil e)
null (joined {u = u} {v = v} p q) e = in_pairs (null p (null-left u v e)) (null q (null-right u v e))
null (left p) e = in_left _ (null p e)
null (right {x = x} q) e = in_right (empties x) (null q e)
null stop e = head refl
null (again p q) e = absurd (no-nil e)
null (made {make = make} {u = u} p) e = rw e (in-ends (make []) (null p e))

record Glued (o : List Item) (os qs : List (List Item)) : Type 0 where
  front : List Item
  back : List Item
  whole : o ≡ front ++ back
  one : In front os
  two : In back qs

from-glue : (o : List Item) {p : List Item} (qs : List (List Item)) → In p (glue o qs) → (q : List Item) × (p ≡ o ++ q) × In q qs
unfolding glue
from-glue o [] i = absurd (none_in i)
from-glue o (q ∷ qs) (head e) = (q, e, head refl)
from-glue o (q ∷ qs) (tail i) = let r = from-glue o qs i in (r.0, r.1, tail r.2)

from-pairs : {p : List Item} (os qs : List (List Item)) → In p (pairs os qs) → Glued p os qs
unfolding pairs
from-pairs [] qs i = absurd (none_in i)
from-pairs (o ∷ os) qs i = elim (in-cases (glue o qs) i) [
  | inl j ↦ (let r = from-glue o qs j in record { front = o; back = r.0; whole = r.1; one = head refl; two = r.2 })
  | inr j ↦ (let r = from-pairs os qs j in record { front = r.front; back = r.back; whole = r.whole; one = tail r.one; two = r.two })
]

from-ends : (i : Item) {p : List Item} (os : List (List Item)) → In p (ends i os) → (q : List Item) × (p ≡ q ++ (i ∷ [])) × In q os
unfolding ends
from-ends i [] j = absurd (none_in j)
from-ends i (o ∷ os) (head e) = (o, e, head refl)
from-ends i (o ∷ os) (tail j) = let r = from-ends i os j in (r.0, r.1, tail r.2)

pub one_in : {o p : List Item} → In o (p ∷ []) → o ≡ p
one_in (head e) = e
one_in (tail i) = absurd (none_in i)

pub nulled : (x : Expression) {o : List Item} → In o (empties x) → Word x [] o
unfolding empties
nulled nothing i = rw (one_in i) empty
nulled (one a) i = absurd (none_in i)
nulled (x ⊙ y) i = let r = from-pairs (empties x) (empties y) i in rw r.whole (joined (nulled x r.one) (nulled y r.two))
nulled (x ∣ y) i = elim (in-cases (empties x) i) [ inl j ↦ left (nulled x j) | inr j ↦ right (nulled y j) ]
nulled (many x) i = rw (one_in i) stop
nulled (reads make x) i = let r = from-ends (make []) (empties x) i in rw r.1 (made (nulled x r.2))
