-- What makes a codec's value one that can stand in a file, part by part (document 01, 'The file').
use Rattle.std.specs.Prelude.{ℕ, ◌^◌, ◌≤◌, ◌<◌, ◌≡◌, refl, List, [], ◌∷◌, Bool, true, false, cond, eqb, ltb, leb, length}
use Rattle.std.proofs.Common.{arith, lt-ltb, le-leb, leb-true, eq-eqb, eqb-true}
use Rattle.codec.specs.Codecs.{Codec}
use Rattle.codec.proofs.Codecs.{and_left, and_right, and_both}
use Rattle.codec.specs.Numbers.{byte, be}
use Rattle.codec.proofs.Numbers.{be-ok}
use Rattle.codec.specs.Sequences.{dep, dep_ok}
use Rattle.codec.specs.Views.{check, shape, view_ok}
use Rattle.codec.specs.Tags.{enum}
use Rattle.codec.specs.Lists.{running, list, run_ok, many_ok}
use Rattle.model.specs.Values.{fits_type}
use Rattle.text.specs.Words.{within, letter, digit, word_byte}
use Rattle.timing.specs.SlotLaws.{Each}
use Rattle.file.specs.Parts.{all_in, count, type, value}
use Rattle.file.specs.Names.{name_bytes, good_name, name}
use Rattle.accepted.specs.NamesFit.{NameFits}

pub check-so : {A : Type 0} (c : Codec A) (e : ℕ) (test : A → Bool) (a : A) → test a ≡ true → c.ok a ≡ true → (check c e test).ok a ≡ true
unfolding check view_ok
check-so c e test a p q = and_both p q

pub shape-so : {A B : Type 0} (c : Codec A) (to : B → A) (from : A → B) (b : B) → c.ok (to b) ≡ true → (shape c to from).ok b ≡ true
unfolding shape view_ok
shape-so c to from b p = p

pub dep-so : {A : Type 0} (c : Codec A) (P : A → Type 0) (d : (a : A) → Codec (P a)) (a : A) (b : P a) → c.ok a ≡ true → (d a).ok b ≡ true → (dep c P d).ok (a, b) ≡ true
unfolding dep dep_ok
dep-so c P d a b p q = and_both p q

pub enum-so : {A : Type 0} (c : Codec ℕ) (e : ℕ) (number : A → ℕ) (all : List A) (a : A) → c.ok (number a) ≡ true → (enum c e number all).ok a ≡ true
unfolding enum view_ok
enum-so c e number all a p = p

pub running-so : {A S : Type 0} (c : S → Codec A) (on : S → A → S) (counts : Codec ℕ) (s : S) (xs : List A) → counts.ok (length xs) ≡ true → run_ok c on s xs ≡ true → (running c on counts s).ok xs ≡ true
unfolding running view_ok dep_ok
running-so c on counts s xs p q = and_both p (and_both (eq-eqb (length xs) (length xs) refl) q)

many-so : {A : Type 0} (c : Codec A) (xs : List A) → Each (λ x. c.ok x ≡ true) xs → many_ok c xs ≡ true
many-so c [] h = refl
many-so c (x ∷ xs) h = and_both h.0 (many-so c xs h.1)

pub list-so : {A : Type 0} (counts : Codec ℕ) (c : Codec A) (xs : List A) → counts.ok (length xs) ≡ true → Each (λ x. c.ok x ≡ true) xs → (list counts c).ok xs ≡ true
unfolding list
list-so {A} counts c xs p h = running-so {A = A} {S = Unit {0}} (λ s. c) (λ s a. s) counts tt xs p (many-so c xs h)

-- ---- numbers

pub byte-so : (n : ℕ) → n < 256 → byte.ok n ≡ true
unfolding byte
byte-so n h = lt-ltb n 256 h

pub count-so : (size room n : ℕ) → n ≤ room → n < 256 ^ size → (count size room).ok n ≡ true
unfolding count
count-so size room n l k = check-so (be size) 22 (λ n. leb n room) n (le-leb n room l) (be-ok size n k)

pub type-so : (n : ℕ) → n < 2 → type.ok n ≡ true
unfolding type
type-so n l = check-so byte 23 (λ n. ltb n 2) n (lt-ltb n 2 l) (byte-so n (omega (arith, l)))

pub value-so : (t n : ℕ) → fits_type t n ≡ true → n < 4294967296 → (value t).ok n ≡ true
unfolding value
value-so t n f l = check-so (be 4) 23 (fits_type t) n f (be-ok 4 n l)

pub within-so : (low high n : ℕ) → low ≤ n → n ≤ high → within low high n ≡ true
within-so low high n a b = rw (le-leb low n a) (le-leb n high b)

-- ---- names

within-below : (low high n : ℕ) → within low high n ≡ true → n ≤ high
within-below low high n e = by (leb low n) e
  where
    by : (b : Bool) → cond b (leb n high) false ≡ true → n ≤ high
    by true e = leb-true n high e
    by false e = let z : ◌≡◌ {A = ℕ} 0 1 = cc in absurd (omega arith)

letter-below : (b : ℕ) → letter b ≡ true → b < 256
letter-below b e = by (within 65 90 b) refl (within 97 122 b) refl e
  where
    by : (x : Bool) → within 65 90 b ≡ x → (y : Bool) → within 97 122 b ≡ y → cond x true (cond y true (eqb b 95)) ≡ true → b < 256
    by true p y q e = let l = within-below 65 90 b p in omega (arith, l)
    by false p true q e = let l = within-below 97 122 b q in omega (arith, l)
    by false p false q e = let l = eqb-true b 95 e in omega (arith, l)

word_below : (b : ℕ) → word_byte b ≡ true → b < 256
word_below b e = by (letter b) refl e
  where
    by : (x : Bool) → letter b ≡ x → cond x true (digit b) ≡ true → b < 256
    by true p e = letter-below b p
    by false p e = let l = within-below 48 57 b e in omega (arith, l)

rest-bytes : (bs : List ℕ) → all_in word_byte bs ≡ true → Each (λ b. byte.ok b ≡ true) bs
unfolding all_in
rest-bytes [] h = tt
rest-bytes (b ∷ bs) h = (byte-so b (word_below b (and_left _ _ h)), rest-bytes bs (and_right (word_byte b) _ h))

name-bytes : (w : List ℕ) → name_bytes w ≡ true → Each (λ b. byte.ok b ≡ true) w
unfolding name_bytes
name-bytes [] h = tt
name-bytes (b ∷ bs) h = (byte-so b (letter-below b (and_left _ _ h)), rest-bytes bs (and_right (letter b) _ h))

good-bytes : (w : List ℕ) → good_name w ≡ true → name_bytes w ≡ true
unfolding good_name
good-bytes w h = and_left _ _ h

pub name-so : (w : List ℕ) → NameFits w → name.ok w ≡ true
unfolding name
name-so w h =
    let lo = h.some in
    let hi = h.short in
    check-so (list (check byte 23 (within 1 32)) byte) 23 good_name w h.good
    (list-so (check byte 23 (within 1 32)) byte w (check-so byte 23 (within 1 32) (length w) (within-so 1 32 (length w) (omega (arith, lo)) hi) (byte-so (length w) (omega (arith, hi)))) (name-bytes w (good-bytes w h.good)))
