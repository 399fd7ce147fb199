-- How a name is read: its length, its bytes, and whether they are one.
use Rattle.std.specs.Prelude.{ℕ, zero, suc, ◌+◌, ◌-◌, ◌≤◌, ◌<◌, ◌≡◌, refl, ◌&&◌, min, eqb, Bool, true, false, cond, leb, List, [], ◌∷◌, ◌++◌, length, get_or, set, take, drop}
use Rattle.std.proofs.Common.{add-zero, add-one, arith, sym, ap, ◌∙◌, leb-true, take-suc, take_all, zero-add, length-take-le, get_or-drop, get_or-take}
use Rattle.std.proofs.Math.Seq.{slice, slice_empty, slice-cons, take-nil}
use Rattle.std.proofs.Math.ListN.{length-set}
use borrow.Rule.Slice.PartMut.{put_mid}
use lib.Pointwise.{pointwise}
use Rattle.model.specs.Bytes.{same}
use Rattle.codec.specs.Readings.{got, no}
use Rattle.codec.proofs.Readings.{and_then-got, or_no-got}
use Rattle.codec.specs.Codecs.{Codec}
use Rattle.codec.specs.Numbers.{byte}
use Rattle.codec.proofs.Numbers.{byte_at, byte-missing}
use Rattle.codec.specs.Views.{check, view_get, when_true}
use Rattle.codec.proofs.Views.{when_true-some, check-no, check-fails, check-got}
use Rattle.codec.specs.Lists.{many_get}
use Rattle.codec.proofs.Lists.{list-no, list_on}
use Rattle.text.specs.Words.{within}
use Rattle.file.specs.Names.{good_name, name}
use Rattle.layout.specs.Rows.{name_cells}
use Rattle.layout.specs.Filling.{stored, stored_more, stored-then}
use Rattle.fields.specs.CellLaws.{stored-part}

-- ---- bytes one after the other

pub bytes-there : (n : ℕ) (s : List ℕ) (i : ℕ) → i + n ≤ length s → many_get byte n (drop i s) ≡ got (slice i (i + n) s) (drop (i + n) s)
bytes-there zero s i h =
    let e : i ≡ i + 0 = sym (add-zero i) in
    ap (λ (l : List ℕ). got l (drop i s)) (sym (slice_empty i s)) ∙ ap (λ (k : ℕ). got (slice i k s) (drop k s)) e
bytes-there (suc n) s i h =
    let e : i + 1 + n ≡ i + suc n = omega arith in
    let p = byte_at s i (omega arith) in
    let q = bytes-there n s (i + 1) (omega arith) in
    let r : slice i (i + suc n) s ≡ get_or s i 0 ∷ slice (i + 1) (i + suc n) s = slice-cons i (i + suc n) s 0 (omega arith) h ∙ rw add-one refl in
    rw (p, q, e, r) refl

pub bytes-short : (n : ℕ) (s : List ℕ) (i : ℕ) → length s - i < n → many_get byte n (drop i s) ≡ no 22
bytes-short zero s i h = absurd (omega arith)
bytes-short (suc n) s i h = go (length s - i) refl (bytes-short n s (i + 1))
  where
    go : (m : ℕ) → length s - i ≡ m → (length s - (i + 1) < n → many_get byte n (drop (i + 1) s) ≡ no 22) → many_get byte (suc n) (drop i s) ≡ no 22
    go zero e f = rw (byte-missing s i (omega arith)) refl
    go (suc m) e f = rw (byte_at s i (omega arith), f (omega arith)) refl

-- the first n bytes
pub take-there : (n : ℕ) (s : List ℕ) → n ≤ length s → many_get byte n s ≡ got (take n s) (drop n s)
take-there n s h = rw zero-add at (bytes-there n s 0 (omega arith))

pub take-short : (n : ℕ) (s : List ℕ) → length s < n → many_get byte n s ≡ no 22
take-short n s h = bytes-short n s 0 (omega arith)

pub ruleset take_laws = (take-there, take-short)

-- ---- the name behind its length

-- what passed a test holds it
pub check-passed : {A : Type 0} (c : Codec A) (e : ℕ) (test : A → Bool) (bs : List ℕ) {a : A} {r : List ℕ} → (check c e test).get bs ≡ got a r → test a ≡ true
unfolding check view_get
check-passed c e test bs {a} p =
    let (b, s, q, u) = and_then-got (c.get bs) _ p in
    let (v, w) = or_no-got e (when_true (test b) b) s u in
    let (x, y) = when_true-some (test b) v in
    ap test x ∙ y

pub sized-least : (bs : List ℕ) {n : ℕ} {r : List ℕ} → (check byte 23 (within 1 32)).get bs ≡ got n r → 1 ≤ n
sized-least bs {n} p = go (leb 1 n) refl (check-passed byte 23 (within 1 32) bs p)
  where
    go : (t : Bool) → leb 1 n ≡ t → cond t (leb n 32) false ≡ true → 1 ≤ n
    go true e h = leb-true 1 n e
    go false e h = absurd (let z : ◌≡◌ {A = ℕ} 0 1 = cc in omega arith)

module _ (bs : List ℕ) where
  pub unsized-name : (e : ℕ) → (check byte 23 (within 1 32)).get bs ≡ no e → name.get bs ≡ no e
  unfolding name
  unsized-name e p = check-no _ _ _ (list-no _ _ p)

  module _ (s : List ℕ) (i n : ℕ) (sized : (check byte 23 (within 1 32)).get bs ≡ got n (drop i s)) where
    pub short-name : length s - i < n → name.get bs ≡ no 22
    unfolding name
    short-name h = check-no _ _ _ (list_on _ _ sized ∙ bytes-short n s i h)

    pub bad-name : i + n ≤ length s → good_name (slice i (i + n) s) ≡ false → name.get bs ≡ no 23
    unfolding name
    bad-name h g = check-fails _ _ _ (list_on _ _ sized ∙ bytes-there n s i h) g

    pub whole-name : i + n ≤ length s → good_name (slice i (i + n) s) ≡ true → name.get bs ≡ got (slice i (i + n) s) (drop (i + n) s)
    unfolding name
    whole-name h g = check-got _ _ _ (list_on _ _ sized ∙ bytes-there n s i h) g

-- the number of a function's name, by the words that it is compared with
pub same-is : (a b : List ℕ) → pointwise eqb a b ≡ same a b
unfolding same
same-is [] [] = refl
same-is [] (y ∷ ys) = refl
same-is (x ∷ xs) [] = refl
same-is (x ∷ xs) (y ∷ ys) = go (eqb x y) (same-is xs ys)
  where
    go : (t : Bool) → pointwise eqb xs ys ≡ same xs ys → (t && pointwise eqb xs ys) ≡ cond t (same xs ys) false
    go true e = e
    go false e = refl

pub compared : (word : List ℕ) {l : List ℕ} {b : Bool} (v : List ℕ) → b ≡ pointwise eqb word l → l ≡ v → same word v ≡ b
compared word v e f = sym (same-is word v) ∙ rw (← f, e) refl

-- ---- a name that is put into its row

pub put-row : (l word part : List ℕ) (place end : ℕ) → place < length l → end ≡ min (length l) (place + 1 + length word) → part ≡ take (end - (place + 1)) word
    → put_mid (place + 1) (end - (place + 1)) (set l place (length word)) part ≡ stored l place (name_cells word)
put-row l word part place end h e p =
    let k : end - (place + 1) ≡ min (length (set l place (length word)) - (place + 1)) (length word) = omega (arith, length-set l place (length word)) in
    stored-part (set l place (length word)) word part (place + 1) (end - (place + 1)) (omega (arith, length-set l place (length word))) k p ∙ sym (stored-then l place (length word) word)

-- ---- a name that is copied byte by byte

pub slice-part : (from end : ℕ) (s : List ℕ) → slice from end s ≡ take (end - from) (drop from s)
slice-part zero end s = let e : end ≡ end - 0 = omega arith in ap (λ (n : ℕ). take n s) e
slice-part (suc from) zero s = let e : 0 ≡ 0 - suc from = omega arith in ap (λ (n : ℕ). take n (drop (suc from) s)) e
slice-part (suc from) (suc end) [] = sym (take-nil (suc end - suc from))
slice-part (suc from) (suc end) (x ∷ s) = let e : end - from ≡ suc end - suc from = omega arith in slice-part from end s ∙ ap (λ (n : ℕ). take n (drop from s)) e

pub slice-byte : (s : List ℕ) (from end k : ℕ) → from + k < end → get_or (slice from end s) k 0 ≡ get_or s (from + k) 0
slice-byte s from end k h = get_or-drop from (take end s) k 0 ∙ get_or-take end s (from + k) 0 h

pub copied_more : (l : List ℕ) (place k cell : ℕ) (word : List ℕ) → k < length word → cell ≡ get_or word k 0
    → set (stored l place (take k word)) (place + k) cell ≡ stored l place (take (k + 1) word)
copied_more l place k cell word h c =
    let n : length (take k word) ≡ k = length-take-le k word (omega arith) in
    let e : place + k ≡ place + length (take k word) = omega arith in
    let t : take k word ++ (cell ∷ []) ≡ take (k + 1) word = rw (c, add-one) (sym (take-suc word k 0 h)) in
    ap (λ (i : ℕ). set (stored l place (take k word)) i cell) e ∙ stored_more l place cell (take k word)
    ∙ ap (λ (w : List ℕ). stored l place w) t

pub copied_all : (l : List ℕ) (place k : ℕ) (word : List ℕ) → length word ≤ k → stored l place (take k word) ≡ stored l place word
copied_all l place k word h = rw (take_all k word h) refl

-- a row: the length, then the bytes
pub row-stored : (l : List ℕ) {m n : List ℕ} (place size : ℕ) (word : List ℕ) → size ≡ length word → m ≡ set l place size → n ≡ stored m (place + 1) word → n ≡ stored l place (name_cells word)
row-stored l {m} {n} place size word e p q = q ∙ rw (p, e) (sym (stored-then l place (length word) word))
