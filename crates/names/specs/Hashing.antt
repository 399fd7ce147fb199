-- The key of a name, from the letters where it stands in the text, and what it tells.
use Rattle.std.specs.Prelude.{◌≡◌, ℕ, ◌+◌, ◌-◌, ◌*◌, ◌/◌, ◌%◌, ◌^◌, ◌<◌, ◌≤◌, Bool, true, false, List, length, ◌==◌, nat_lt, slice_index, slice_index_or}
use Rattle.std.proofs.Common.{arith, sym, ◌∙◌, ext_get_or}
use Rattle.std.proofs.Math.Path.{refl}
use borrow.Author.Tests.{ltb-true, ltb-false, lt-ltb, le-ltb, eqb-true, eqb-false}
use Rattle.std.proofs.Math.ListN.{get_or-eq_default}
use Rattle.model.specs.Bytes.{same}
use Rattle.names.specs.Parts.{same-own}
use Rattle.names.specs.Index.{Letters, quad, pair, key_of, mixed, chain_of}

pub chain-small : (scope : ℕ) (word : List ℕ) → chain_of scope word < 512
unfolding chain_of
chain-small scope word = omega arith

pub chain_by : (scope : ℕ) (word : List ℕ) (key : ℕ) → key ≡ key_of word → mixed scope key ≡ chain_of scope word
unfolding chain_of
chain_by scope word key e = rw e

-- a sum in 64 bits is as good as the whole
halved : (a r : ℕ) → r ≡ a % 2 ^ 64 → r % 4294967296 ≡ a % 4294967296
halved a r e = omega (arith, e)

joined : (a b c : ℕ) → a % 4294967296 ≡ b % 4294967296 → (a + c) % 4294967296 ≡ (b + c) % 4294967296
joined a b c e = omega (arith, e)

pub mixed-wraps : (scope key sum all : ℕ) → sum ≡ (key / 4294967296 + key) % 2 ^ 64 → all ≡ (sum + scope) % 2 ^ 64 → all % 4294967296 * 2654435769 / 8388608 % 512 ≡ mixed scope key
mixed-wraps scope key sum all e f =
    let z = halved (sum + scope) all f ∙ joined sum (key / 4294967296 + key) scope (halved (key / 4294967296 + key) sum e) in
    rw z

-- names with the same key are of the same chain
pub chain_same : (scope : ℕ) (word other : List ℕ) → key_of word ≡ key_of other → chain_of scope word ≡ chain_of scope other
unfolding chain_of
chain_same scope word other e = rw e

-- ---- the key of a word, by how many letters it has

module _ (word : List ℕ) where
  pub key-none : length word ≡ 0 → 0 ≡ key_of word
  unfolding key_of
  key-none e =
      let z : (i : ℕ) → slice_index word i ≡ 0 = λ i. get_or-eq_default word 0 (omega arith) in
      rw (lt-ltb (length word) 4 (omega arith), z 0, z (length word / 2), z (length word - 1))

  pub key-three : length word < 4 → slice_index word 0 + slice_index word (length word / 2) * 256 + slice_index word (length word - 1) * 65536 ≡ key_of word
  unfolding key_of
  key-three l = rw (lt-ltb (length word) 4 l)

  pub key-eight : 4 ≤ length word → length word ≤ 8 → pair word 0 (length word - 4) ≡ key_of word
  unfolding key_of
  key-eight g l = rw (le-ltb (length word) 4 g, le-ltb 8 (length word) l)

  pub key_more : 8 < length word → pair word 0 (length word - 4) / 2 + pair word ((length word - 8) / 2) ((length word - 8) / 2 + 4) / 2 ≡ key_of word
  unfolding key_of
  key_more g = rw (le-ltb (length word) 4 (omega arith), lt-ltb 8 (length word) g)

-- ---- a word of at most eight letters is told by its length and its key

digit : (x p y q : ℕ) → x < 256 → y < 256 → x + p * 256 ≡ y + q * 256 → (x ≡ y) × (p ≡ q)
digit x p y q h g e = let first : x ≡ y = omega arith in (first, omega arith)

module _ (x x1 x2 x3 y y1 y2 y3 : ℕ) (b : x < 256) (b1 : x1 < 256) (b2 : x2 < 256) (d : y < 256) (d1 : y1 < 256) (d2 : y2 < 256) where
  digits : x + x1 * 256 + x2 * 65536 + x3 * 16777216 ≡ y + y1 * 256 + y2 * 65536 + y3 * 16777216 → (x ≡ y) × (x1 ≡ y1) × (x2 ≡ y2) × (x3 ≡ y3)
  digits e =
      let first = digit x (x1 + (x2 + x3 * 256) * 256) y (y1 + (y2 + y3 * 256) * 256) b d (omega arith) in
      let second = digit x1 (x2 + x3 * 256) y1 (y2 + y3 * 256) b1 d1 first.1 in
      let third = digit x2 x3 y2 y3 b2 d2 second.1 in
      (first.0, second.0, third.0, third.1)

halves : (p q r t : ℕ) → p < 4294967296 → r < 4294967296 → p + q * 4294967296 ≡ r + t * 4294967296 → (p ≡ r) × (q ≡ t)
halves p q r t h g e = let first : p ≡ r = omega arith in (first, omega arith)

quad-small : (a : List ℕ) → Letters a → (i : ℕ) → quad a i < 4294967296
quad-small a l i = omega (arith, l.bytes i, l.bytes (i + 1), l.bytes (i + 2), l.bytes (i + 3))

module _ (a b : List ℕ) (l : Letters a) (m : Letters b) where
  quads : (i : ℕ) → quad a i ≡ quad b i → (j : ℕ) → i ≤ j → j < i + 4 → slice_index a j ≡ slice_index b j
  quads i e j g h =
      let same = digits (slice_index a i) (slice_index a (i + 1)) (slice_index a (i + 2)) (slice_index a (i + 3)) (slice_index b i) (slice_index b (i + 1)) (slice_index b (i + 2)) (slice_index b (i + 3)) (l.bytes i) (l.bytes (i + 1)) (l.bytes (i + 2)) (m.bytes i) (m.bytes (i + 1)) (m.bytes (i + 2)) e in
      by same (j == i) refl (j == i + 1) refl (j == i + 2) refl
    where
      by : (slice_index a i ≡ slice_index b i) × (slice_index a (i + 1) ≡ slice_index b (i + 1)) × (slice_index a (i + 2) ≡ slice_index b (i + 2)) × (slice_index a (i + 3) ≡ slice_index b (i + 3)) → (p : Bool) → (j == i) ≡ p → (q : Bool) → (j == i + 1) ≡ q → (r : Bool) → (j == i + 2) ≡ r → slice_index a j ≡ slice_index b j
      by same true z q y r x = rw (eqb-true j i z) same.0
      by same false z true y r x = rw (eqb-true j (i + 1) y) same.1
      by same false z false y true x = rw (eqb-true j (i + 2) x) same.2
      by same false z false y false x =
          let last : j ≡ i + 3 = omega (arith, eqb-false j i z, eqb-false j (i + 1) y, eqb-false j (i + 2) x) in
          rw last same.3

  module _ (n : ℕ) (p : length a ≡ n) (q : length b ≡ n) (k : key_of a ≡ key_of b) where
    threes : n < 4 → (j : ℕ) → j < n → slice_index a j ≡ slice_index b j
    unfolding key_of
    threes h j g =
        let key : slice_index_or a 0 0 + slice_index a (n / 2) * 256 + slice_index a (n - 1) * 65536 ≡ slice_index b 0 + slice_index b (n / 2) * 256 + slice_index b (n - 1) * 65536 = simp (p, q, lt-ltb n 4 h) at k in
        let first = digit (slice_index a 0) (slice_index a (n / 2) + slice_index a (n - 1) * 256) (slice_index b 0) (slice_index b (n / 2) + slice_index b (n - 1) * 256) (l.bytes 0) (m.bytes 0) (omega arith) in
        let second = digit (slice_index a (n / 2)) (slice_index a (n - 1)) (slice_index b (n / 2)) (slice_index b (n - 1)) (l.bytes (n / 2)) (m.bytes (n / 2)) first.1 in
        by first.0 second.0 second.1 (j == 0) refl (j == n - 1) refl
      where
        by : slice_index_or a 0 0 ≡ slice_index b 0 → slice_index a (n / 2) ≡ slice_index b (n / 2) → slice_index a (n - 1) ≡ slice_index b (n - 1) → (u : Bool) → (j == 0) ≡ u → (v : Bool) → (j == n - 1) ≡ v → slice_index a j ≡ slice_index b j
        by first middle last true z v y = rw (eqb-true j 0 z) first
        by first middle last false z true y = rw (eqb-true j (n - 1) y) last
        by first middle last false z false y = let is : j ≡ n / 2 = omega (arith, eqb-false j 0 z, eqb-false j (n - 1) y) in rw is middle

    eights : 4 ≤ n → n ≤ 8 → (j : ℕ) → j < n → slice_index a j ≡ slice_index b j
    unfolding key_of
    eights h g j i =
        let key : pair a 0 (n - 4) ≡ pair b 0 (n - 4) = simp (p, q, le-ltb n 4 h, le-ltb 8 n g) at k in
        let same = halves (quad a 0) (quad a (n - 4)) (quad b 0) (quad b (n - 4)) (quad-small a l 0) (quad-small b m 0) key in
        by same (nat_lt j 4) refl
      where
        by : (quad a 0 ≡ quad b 0) × (quad a (n - 4) ≡ quad b (n - 4)) → (u : Bool) → nat_lt j 4 ≡ u → slice_index a j ≡ slice_index b j
        by same true z = quads 0 same.0 j (omega arith) (omega (arith, ltb-true j 4 z))
        by same false z = quads (n - 4) same.1 j (omega (arith, ltb-false j 4 z)) (omega arith)

    pub key-tells : n ≤ 8 → a ≡ b
    key-tells h = ext_get_or 0 a b (p ∙ sym q) (λ j g. by j (rw p at g) (nat_lt n 4) refl)
      where
        by : (j : ℕ) → j < n → (u : Bool) → nat_lt n 4 ≡ u → slice_index a j ≡ slice_index b j
        by j g true z = threes (ltb-true n 4 z) j g
        by j g false z = eights (ltb-false n 4 z) h j g

-- names of the same length and key are the same, where it is at most eight
pub named-short : (a b : List ℕ) → Letters a → Letters b → length a ≡ length b → length b ≤ 8 → key_of a ≡ key_of b → same a b ≡ true
named-short a b l m e h k = rw (key-tells a b l m (length b) e refl k h) (same-own b)
