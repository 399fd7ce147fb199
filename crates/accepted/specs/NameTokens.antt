-- A name in a text: a letter first, then letters and digits, and no keyword (document 01, 'The text of a module').
use Prim.Native.Char.{code}
use Prim.Native.Nat.{ℕ, zero, suc, ◌+◌, ◌≤◌, ◌<◌}
use native.Mathlib.Omega.{arith}
use Rattle.std.specs.Prelude.{◌≡◌, refl, List, [], ◌∷◌, Bool, false, cond, not, eqb, ltb, length}
use Rattle.std.proofs.Common.{sym, ap, ◌∙◌, ltb-true, ltb-false, le-ltb}
use Rattle.std.proofs.Math.Path.{subst}
use Rattle.std.proofs.Math.Bool.{true}
use Rattle.std.proofs.lemmas.Bool.{eqb-false, not-true}
use Rattle.std.proofs.Math.Seq.{slice, slice_empty, slice-cons}
use Rattle.std.proofs.Math.ListN.{get_or}
use Rattle.codec.proofs.Codecs.{and_left, and_right, and_both}
use Rattle.model.specs.Bytes.{place_in}
use Rattle.text.specs.declared.Token.{Token}
use Rattle.text.specs.declared.Token.TheVariants as T
use Rattle.text.specs.declared.Lexed.{Lexed}
use Rattle.text.specs.declared.Skipped.{Skipped}
use Rattle.text.specs.declared.Skipped.TheVariants.{Stop, Open}
use Rattle.text.specs.Words.{letter, digit, word_byte, munch_at, keywords}
use Rattle.text.proofs.WordsLaws.{munch-end, munch-on, munch-out}
use Rattle.text.specs.Spaces.{spaces_at}
use Rattle.text.specs.Tokens.{code_of, code_at, key_tokens, word_token, sign_token, lexed, becomes, token_from, starts_at, behind, token_at}
use Rattle.text.proofs.TokensLaws.{munch-at-within}
use Rattle.file.specs.Parts.{all_in}
use Rattle.file.specs.Names.{name_bytes, is_keyword, good_name}

-- a run of bytes that p takes
module _ (p : ℕ → Bool) (s : List ℕ) where
  none-taken : (i : ℕ) → munch_at p s i ≡ i → all_in p (slice i (munch_at p s i) s) ≡ true
  unfolding all_in
  none-taken i e = rw e (ap (all_in p) (slice_empty i s))

  one-taken : (i : ℕ) → i < length s → p (get_or s i 0) ≡ true → all_in p (slice (i + 1) (munch_at p s (i + 1)) s) ≡ true → all_in p (slice i (munch_at p s i) s) ≡ true
  unfolding all_in
  one-taken i l q r =
      let m = munch-at-within p s (i + 1) (omega (arith, l)) in
      let c : slice i (munch_at p s (i + 1)) s ≡ get_or s i 0 ∷ slice (suc i) (munch_at p s (i + 1)) s = slice-cons i (munch_at p s (i + 1)) s 0 (omega (arith, m.0)) m.1 in
      let z : suc i ≡ i + 1 = omega arith in
      let r' : all_in p (slice (suc i) (munch_at p s (i + 1)) s) ≡ true = subst (λ (k : ℕ). all_in p (slice k (munch_at p s (i + 1)) s) ≡ true) (sym z) r in
      rw (munch-on p s i l q) (ap (all_in p) c ∙ and_both q r')

  run-all : (n i : ℕ) → i ≤ length s → length s ≤ i + n → all_in p (slice i (munch_at p s i) s) ≡ true
  run-all zero i h k = none-taken i (munch-end p s i (omega (arith, k)))
  run-all (suc n) i h k = by (ltb i (length s)) refl (p (get_or s i 0)) refl (λ a b. run-all n (i + 1) a b)
    where
      by : (b : Bool) → ltb i (length s) ≡ b → (c : Bool) → p (get_or s i 0) ≡ c → (i + 1 ≤ length s → length s ≤ i + 1 + n → all_in p (slice (i + 1) (munch_at p s (i + 1)) s) ≡ true) → all_in p (slice i (munch_at p s i) s) ≡ true
      by false e c q on = none-taken i (munch-end p s i (ltb-false _ _ e))
      by true e false q on = none-taken i (munch-out p s i (ltb-true _ _ e) q)
      by true e true q on = let l = ltb-true i (length s) e in one-taken i l q (on (omega (arith, l)) (omega (arith, k)))

-- ---- only a word that is no keyword is a name

record NoName (token : Token) : Type 0 where
  no : code_of token ≡ 0 → ⊥

cond_no : (b : Bool) {x y : Token} → NoName x → NoName y → NoName (cond b x y)
cond_no true p q = p
cond_no false p q = q

no_name : (token : Token) → eqb (code_of token) 0 ≡ false → NoName token
no_name token e = record { no = eqb-false _ _ e }

sign-code : (b : ℕ) → NoName (sign_token b)
unfolding sign_token
sign-code b =
    cond_no (eqb b (code "{")) (no_name T.LeftBrace refl) (
    cond_no (eqb b (code "}")) (no_name T.RightBrace refl) (
    cond_no (eqb b (code "[")) (no_name T.LeftBracket refl) (
    cond_no (eqb b (code "]")) (no_name T.RightBracket refl) (
    cond_no (eqb b (code "(")) (no_name T.LeftParen refl) (
    cond_no (eqb b (code ")")) (no_name T.RightParen refl) (
    cond_no (eqb b (code ";")) (no_name T.Semicolon refl) (
    cond_no (eqb b (code "=")) (no_name T.Equals refl) (
    cond_no (eqb b (code ".")) (no_name T.Dot refl) (
    cond_no (eqb b (code ",")) (no_name T.Comma refl) (
    cond_no (eqb b (code "-")) (no_name T.Minus refl) (
    no_name T.Bad refl)))))))))))

past-keys : (tokens : List Token) (k : ℕ) → all_in (λ t. not (eqb (code_of t) 0)) tokens ≡ true → code_of (get_or tokens k T.Name) ≡ 0 → length tokens ≤ k
unfolding all_in
past-keys [] k h e = omega arith
past-keys (token ∷ tokens) zero h e = absurd (eqb-false (code_of token) 0 (not-true _ (and_left _ _ h)) e)
past-keys (token ∷ tokens) (suc k) h e = let l = past-keys tokens k (and_right (not (eqb (code_of token) 0)) _ h) e in omega (arith, l)

no_key : (word : List ℕ) → code_of (word_token word) ≡ 0 → is_keyword word ≡ false
unfolding key_tokens is_keyword keywords all_in
no_key word e = le-ltb _ _ (past-keys key_tokens (place_in keywords 0 word) refl e)

-- the token that starts at a place, where it is a name
pub record WordAt (s : List ℕ) (start end : ℕ) : Type 0 where
  pub good : good_name (slice start end s) ≡ true
  pub some : start < end
  pub inside : end ≤ length s

starts-name : (s : List ℕ) (i : ℕ) → code_of (starts_at s i).token ≡ 0 → WordAt s (starts_at s i).start (starts_at s i).end
unfolding token_from good_name name_bytes
starts-name s i = by (ltb i (length s)) refl (letter (get_or s i 0)) refl (digit (get_or s i 0)) (becomes s i (get_or s i 0))
  where
    end : ℕ
    end = munch_at word_byte s (i + 1)

    chosen : Bool → Bool → Bool → Bool → Lexed
    chosen a b c d = cond a (cond b (lexed (word_token (slice i end s)) i end) (cond c (lexed T.Number i (munch_at digit s (i + 1))) (cond d (lexed T.Becomes i (i + 1 + 1)) (lexed (sign_token (get_or s i 0)) i (i + 1))))) (lexed T.End i i)

    by : (a : Bool) → ltb i (length s) ≡ a → (b : Bool) → letter (get_or s i 0) ≡ b → (c d : Bool) → code_of (chosen a b c d).token ≡ 0 → WordAt s (chosen a b c d).start (chosen a b c d).end
    by false p b q c d e = absurd (omega (arith, e))
    by true p false q true d e = absurd (omega (arith, e))
    by true p false q false true e = absurd (omega (arith, e))
    by true p false q false false e = absurd ((sign-code (get_or s i 0)).no e)
    by true p true q c d e =
        let l = ltb-true i (length s) p in
        let m = munch-at-within word_byte s (i + 1) (omega (arith, l)) in
        let z : suc i ≡ i + 1 = omega arith in
        let w : slice i end s ≡ get_or s i 0 ∷ slice (suc i) end s = slice-cons i end s 0 (omega (arith, m.0)) m.1 in
        let r = run-all word_byte s (length s) (i + 1) (omega (arith, l)) (omega arith) in
        let n : name_bytes (slice i end s) ≡ true = ap name_bytes w ∙ and_both q (subst (λ (k : ℕ). all_in word_byte (slice k end s) ≡ true) (sym z) r) in
        let k = no_key (slice i end s) e in
        record { good = rw (n, k); some = omega (arith, m.0); inside = m.1 }

pub name-token : (s : List ℕ) (at : ℕ) → code_at s at ≡ 0 → WordAt s (token_at s at).start (token_at s at).end
unfolding token_at
name-token s at = by (spaces_at s at)
  where
    by : (skipped : Skipped) → code_of (behind s skipped).token ≡ 0 → WordAt s (behind s skipped).start (behind s skipped).end
    by (Stop i) e = starts-name s i e
    by (Open from) e = absurd (omega (arith, e))
