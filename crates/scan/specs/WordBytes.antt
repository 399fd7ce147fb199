-- Small letters, the marks of names, and where a text's last byte ends every word.
use Rattle.std.specs.Prelude.{ℕ, zero, suc, ◌+◌, ◌-◌, ◌≤◌, ◌<◌, ◌≡◌, refl, List, [], ◌∷◌, Bool, true, false, cond, ◌&&◌, length, get_or, take, eqb, leb, ltb, T}
use Rattle.std.proofs.Common.{sym, subst, ap, ◌∙◌, arith, ne_eqb, ltb-true, ltb-false, leb-true, get_or-take, get_or-drop}
use Rattle.std.proofs.lemmas.Bool.{lt-leb}
use Rattle.std.specs.Int.{is_in_range}
use Rattle.std.specs.Char.{is_ascii_digit, is_ascii_lowercase}
use Rattle.std.proofs.Math.Seq.{slice}
use Rattle.model.specs.Bytes.{same}
use Rattle.text.specs.declared.Token.TheVariants as Token
use Rattle.text.specs.Words.{within, letter, digit, word_byte, keywords, keyword}
use Rattle.text.specs.Tokens.{word_token}
use Rattle.text.specs.KeyTable.{key_numbers, key-none}
use Rattle.text.specs.EachEntry.{both, both_left, both_right, each-entry}
use Rattle.scan.specs.Runs.{small, mark}
use Rattle.scan.specs.KeyMarks.{no-keyword, is-keyword}
use Rattle.scan.specs.Slices.{slice-length}

never : {P : Type 0} → true ≡ false → P
never e = absurd (subst T e tt)

either_way : (b : Bool) {x : Bool} → x ≡ true → cond b true x ≡ true
either_way true e = refl
either_way false e = e

marked-word : (upper lower line number : Bool) → cond line true (cond number true upper) ≡ true → cond (cond upper true (cond lower true line)) true number ≡ true
marked-word true lower line number e = refl
marked-word false true line number e = refl
marked-word false false true number e = refl
marked-word false false false true e = refl
marked-word false false false false e = e

no_byte : (upper lower line number : Bool) → lower ≡ false → cond line true (cond number true upper) ≡ false → cond (cond upper true (cond lower true line)) true number ≡ false
no_byte true lower true number p q = q
no_byte false true true number p q = q
no_byte false false true number p q = q
no_byte true lower false true p q = q
no_byte false true false true p q = q
no_byte false false false true p q = q
no_byte true lower false false p q = q
no_byte false true false false p q = p
no_byte false false false false p q = refl

in_range : (low high b : ℕ) → is_in_range low high b ≡ within low high b
in_range low high b = by (leb low b)
  where
    by : (t : Bool) → (t && leb b high) ≡ cond t (leb b high) false
    by true = refl
    by false = refl

module _ (b : ℕ) where
  pub small-ascii : is_ascii_lowercase b ≡ small b
  small-ascii = in_range 97 122 b

  pub digit-ascii : is_ascii_digit b ≡ digit b
  digit-ascii = in_range 48 57 b

  pub small-letter : small b ≡ true → letter b ≡ true
  small-letter e = either_way (within 65 90 b) (simp e)

  pub small_word : small b ≡ true → word_byte b ≡ true
  small_word e = simp (small-letter e)

  pub mark-word : mark b ≡ true → word_byte b ≡ true
  mark-word e = marked-word (within 65 90 b) (small b) (eqb b 95) (digit b) e

  pub no_word : small b ≡ false → mark b ≡ false → word_byte b ≡ false
  no_word p q = no_byte (within 65 90 b) (small b) (eqb b 95) (digit b) p q

  low_word : b < 48 → word_byte b ≡ false
  low_word h = simp (lt-leb 65 b (omega arith), lt-leb 97 b (omega arith), lt-leb 48 b h, ne_eqb b 95 (λ e. absurd (omega (arith, e))))

-- a digit is no letter
pub digit-letter : (b : ℕ) → digit b ≡ true → letter b ≡ false
digit-letter b d =
    let h : b ≤ 57 = below (leb 48 b) d in
    simp (lt-leb 65 b (omega arith), lt-leb 97 b (omega arith), ne_eqb b 95 (λ e. absurd (omega (arith, e))))
  where
    below : (t : Bool) → cond t (leb b 57) false ≡ true → b ≤ 57
    below true e = leb-true _ _ e
    below false e = never (sym e)

-- a byte that goes on a name is not the last
pub further : (s : List ℕ) (i : ℕ) → get_or s (length s - 1) 0 < 48 → i < length s → word_byte (get_or s i 0) ≡ true → i + 1 < length s
further s i low h w = by (ltb (i + 1) (length s)) refl
  where
    by : (t : Bool) → ltb (i + 1) (length s) ≡ t → i + 1 < length s
    by true e = ltb-true _ _ e
    by false e =
        let over : length s ≤ i + 1 = ltb-false _ _ e in
        let q : i ≡ length s - 1 = omega arith in
        let none : word_byte (get_or s i 0) ≡ false = rw q (low_word (get_or s (length s - 1) 0) low) in
        never (sym w ∙ none)

-- ---- a word with a byte that is no small letter is no keyword

small_all : List ℕ → Bool
small_all [] = true
small_all (x ∷ xs) = both (small x) (small_all xs)

small_at : (w : List ℕ) → T (small_all w) → (j : ℕ) → j < length w → T (small (get_or w j 0))
unfolding small_all
small_at [] t j h = absurd (omega arith)
small_at (x ∷ xs) t zero h = both_left (small x) (small_all xs) t
small_at (x ∷ xs) t (suc j) h = small_at xs (both_right (small x) (small_all xs) t) j (omega arith)

all_small : ℕ → ℕ → Bool
all_small k n = small_all (keyword k)

key-small : (k : ℕ) → k < 22 → T (small_all (keyword k))
unfolding all_small small_all keywords
key-small k h = each-entry all_small key_numbers tt k h

module _ (w : List ℕ) (j : ℕ) (h : j < length w) (large : small (get_or w j 0) ≡ false) where
  unlike : (k : ℕ) → k < 22 → same w (keyword k) ≡ false
  unlike k g = by (same w (keyword k)) refl
    where
      by : (b : Bool) → same w (keyword k) ≡ b → same w (keyword k) ≡ false
      by false e = e
      by true e =
          let q : w ≡ keyword k = is-keyword k g w e in
          let t : T (small (get_or w j 0)) = small_at w (rw q (key-small k g)) j h in
          absurd (subst T large t)

  pub no_key : word_token w ≡ Token.Name
  no_key = rw (no-keyword w unlike) (key-none 22 (omega arith))

-- a word of the text that has such a byte
pub named : (s : List ℕ) (at i end : ℕ) → at ≤ i → i < end → end ≤ length s → small (get_or s i 0) ≡ false → word_token (slice at end s) ≡ Token.Name
named s at i end a h g large =
    let long : length (slice at end s) ≡ end - at = slice-length at end s ∙ omega arith in
    let byte : get_or (slice at end s) (i - at) 0 ≡ get_or s i 0 = get_or-drop at (take end s) (i - at) 0 ∙ get_or-take end s (at + (i - at)) 0 (omega arith) ∙ ap (λ (j : ℕ). get_or s j 0) (omega arith) in
    no_key (slice at end s) (i - at) (omega (arith, long)) (ap small byte ∙ large)
