-- Some bytes are a name where the scanner takes all of them for one.
use Prim.Native.Nat.{ℕ, zero, suc, ◌+◌, ◌≤◌}
use Prim.Native.Char.{code}
use native.Mathlib.Omega.{arith}
use Rattle.std.specs.Prelude.{◌≡◌, Bool, ◌&&◌, ◌⊎◌, not, eqb, ltb, get_or}
use Rattle.std.proofs.Math.Path.{refl}
use borrow.Author.Rules.{rules}
use denote.Enum.Bare.{sameb, same_true}
use Rattle.std.proofs.Common.{sym, ap, ◌∙◌, ⊎_elim, eq-eqb, ne_eqb, ltb-false, ltb-true, lt-ltb, le-ltb}
use Rattle.std.proofs.Math.Bool.{true, false, cond}
use mathlib.Core.List.{List, [], ◌∷◌}
use Rattle.std.proofs.Math.ListN.{length, get_or-eq_default}
use Rattle.std.proofs.Math.Seq.{slice, take-length}
use Rattle.std.proofs.lemmas.Bool.{eqb-false}
use Rattle.codec.proofs.Codecs.{and_left, and_right, and_both}
use Rattle.model.specs.Bytes.{place_in}
use Rattle.text.specs.declared.Skipped.{Skipped}
use Rattle.text.specs.declared.Skipped.TheVariants.{Stop, Open}
use Rattle.text.specs.contracts.Token.{the_type}
use Rattle.text.specs.declared.Lexed.{Lexed}
use Rattle.text.specs.declared.Token.{Token}
use Rattle.text.specs.Spaces.{white, spaces_at, spaces}
use Rattle.text.proofs.SpacesLaws.{spaces-other}
use Rattle.text.specs.Words.{letter, digit, word_byte, munch, munch_at, keywords}
use Rattle.text.specs.Tokens.{code_of, key_tokens, key_token, word_token, sign_token, lexed, becomes, token_from, starts_at, behind, token_at}
use Rattle.text.specs.StartsLaws.{starts-word}
use Rattle.file.specs.Parts.{all_in}
use Rattle.file.specs.Names.{name_bytes, is_keyword, good_name}

-- ---- the first byte

by_flag : (b : Bool) (P : Bool → Type 0) → (b ≡ true → P true) → (b ≡ false → P false) → P b
by_flag true P f g = f refl
by_flag false P f g = g refl

never : {P : Type 0} → true ≡ false → P
never e = absurd (let z : ◌≡◌ {A = ℕ} 0 1 = cc in omega arith)

-- a letter is no other byte that is asked for
other_byte : (b k : ℕ) → letter k ≡ false → letter b ≡ true → b ≡ k → ⊥
other_byte b k f t e = never (sym t ∙ ap letter e ∙ f)

letter-shown : (b : ℕ) → letter b ≡ true → white b ≡ false
letter-shown b t =
    simp (ne_eqb b 32 (other_byte b 32 refl t), ne_eqb b 10 (other_byte b 10 refl t), ne_eqb b 13 (other_byte b 13 refl t), ne_eqb b 9 (other_byte b 9 refl t))

-- ---- the bytes behind it

module _ (p : ℕ → Bool) where
  all-munched : (bs : List ℕ) (at : ℕ) → all_in p bs ≡ true → munch p bs at ≡ at + length bs
  unfolding munch all_in
  all-munched [] at h = omega arith
  all-munched (b ∷ bs) at h =
      let on = all-munched bs (at + 1) (and_right (p b) _ h) in
      rw (and_left (p b) _ h) (on ∙ omega arith)

  munched-all : (bs : List ℕ) (at : ℕ) → munch p bs at ≡ at + length bs → all_in p bs ≡ true
  unfolding munch all_in
  munched-all [] at h = refl
  munched-all (b ∷ bs) at h = go (p b) (munched-all bs (at + 1)) h
    where
      go : (t : Bool) → (munch p bs (at + 1) ≡ at + 1 + length bs → all_in p bs ≡ true) → cond t (munch p bs (at + 1)) at ≡ at + suc (length bs) → (t && all_in p bs) ≡ true
      go true f e = f (e ∙ omega arith)
      go false f e = absurd (omega arith)

-- ---- which words are names

abbrev none_named : List Token → Bool
none_named [] = true
none_named (token ∷ tokens) = ltb 0 (code_of token) && none_named tokens

in-named : (tokens : List Token) → none_named tokens ≡ true → (k : ℕ) → code_of (get_or tokens k Token.Name) ≡ 0 → length tokens ≤ k
in-named [] h k e = omega arith
in-named (token ∷ tokens) h zero e = let p = ltb-true 0 (code_of token) (and_left _ _ h) in absurd (omega arith)
in-named (token ∷ tokens) h (suc k) e = let p = in-named tokens (and_right (ltb 0 (code_of token)) _ h) k e in omega arith

key-named : (k : ℕ) → code_of (key_token k) ≡ 0 → 22 ≤ k
unfolding key_tokens
key-named k e = in-named key_tokens refl k e

named-key : (k : ℕ) → 22 ≤ k → key_token k ≡ Token.Name
unfolding key_tokens
named-key k h = get_or-eq_default key_tokens Token.Name h

keyword-count : length keywords ≡ 22
unfolding keywords
keyword-count = refl

not_key : (w : List ℕ) → not (is_keyword w) ≡ true → 22 ≤ place_in keywords 0 w
unfolding is_keyword
not_key w h =
    let p = ltb-false (place_in keywords 0 w) (length keywords) (go (ltb (place_in keywords 0 w) (length keywords)) h) in
    omega (arith, keyword-count)
  where
    go : (t : Bool) → not t ≡ true → t ≡ false
    go true e = never (sym e)
    go false e = refl

key-not : (w : List ℕ) → 22 ≤ place_in keywords 0 w → not (is_keyword w) ≡ true
unfolding is_keyword
key-not w h = rw (le-ltb (place_in keywords 0 w) (length keywords) (omega (arith, keyword-count))) refl

-- ---- the token of a name

whole : (w : List ℕ) → slice 0 (length w) w ≡ w
whole w = take-length w

first-token : (b : ℕ) (bs : List ℕ) → letter b ≡ true → token_at (b ∷ bs) 0 ≡ lexed (word_token (slice 0 (munch word_byte bs 1) (b ∷ bs))) 0 (munch word_byte bs 1)
unfolding token_at
first-token b bs t =
    rw (spaces-other (b ∷ bs) 0 (omega arith) (letter-shown b t) (other_byte b 47 refl t)) (starts-word (b ∷ bs) 0 (omega arith) t)

pub name-token : (w : List ℕ) → good_name w ≡ true → token_at w 0 ≡ lexed Token.Name 0 (length w)
unfolding good_name name_bytes
name-token [] h = never (sym h)
name-token (b ∷ bs) h =
    let n = and_left _ _ h in
    let k = and_right (letter b && all_in word_byte bs) _ h in
    let e : munch word_byte bs 1 ≡ suc (length bs) = all-munched word_byte bs 1 (and_right (letter b) _ n) ∙ omega arith in
    first-token b bs (and_left _ _ n) ∙ rw (e, whole (b ∷ bs), named-key _ (not_key (b ∷ bs) k)) refl

-- ---- a token that is a name begins with a letter

record Other (token : Token) : Type 0 where
  no_name : code_of token ≡ 0 → ⊥

either : {x y : Token} (t : Bool) → Other x → Other y → Other (cond t x y)
either true p q = p
either false p q = q

other : (token : Token) → eqb (code_of token) 0 ≡ false → Other token
other token h = record { no_name = eqb-false (code_of token) 0 h }

sign-other : (b : ℕ) → Other (sign_token b)
unfolding sign_token
sign-other b =
    either (eqb b (code "{")) (other Token.LeftBrace refl)
    (either (eqb b (code "}")) (other Token.RightBrace refl)
    (either (eqb b (code "[")) (other Token.LeftBracket refl)
    (either (eqb b (code "]")) (other Token.RightBracket refl)
    (either (eqb b (code "(")) (other Token.LeftParen refl)
    (either (eqb b (code ")")) (other Token.RightParen refl)
    (either (eqb b (code ";")) (other Token.Semicolon refl)
    (either (eqb b (code "=")) (other Token.Equals refl)
    (either (eqb b (code ".")) (other Token.Dot refl)
    (either (eqb b (code ",")) (other Token.Comma refl)
    (either (eqb b (code "-")) (other Token.Minus refl) (other Token.Bad refl)))))))))))

starts-there : (s : List ℕ) (i : ℕ) → (starts_at s i).start ≡ i
unfolding token_from
starts-there s i = go (ltb i (length s)) (letter (get_or s i 0)) (digit (get_or s i 0)) (becomes s i (get_or s i 0))
  where
    go : (t u v w : Bool)
        → (cond t (cond u (lexed (word_token (slice i (munch_at word_byte s (i + 1)) s)) i (munch_at word_byte s (i + 1)))
        (cond v (lexed Token.Number i (munch_at digit s (i + 1))) (cond w (lexed Token.Becomes i (i + 1 + 1)) (lexed (sign_token (get_or s i 0)) i (i + 1)))))
        (lexed Token.End i i)).start ≡ i
    go true true v w = refl
    go true false true w = refl
    go true false false true = refl
    go true false false false = refl
    go false u v w = refl

starts-letter : (b : ℕ) (bs : List ℕ) → code_of (starts_at (b ∷ bs) 0).token ≡ 0 → letter b ≡ true
unfolding token_from
starts-letter b bs e = let l = lt-ltb 0 (suc (length bs)) (omega arith) in go (letter b) (digit b) (becomes (b ∷ bs) 0 b) (rw l at e)
  where
    go : (u v w : Bool)
        → code_of (cond u (lexed (word_token (slice 0 (munch_at word_byte (b ∷ bs) (0 + 1)) (b ∷ bs))) 0 (munch_at word_byte (b ∷ bs) (0 + 1)))
        (cond v (lexed Token.Number 0 (munch_at digit (b ∷ bs) (0 + 1))) (cond w (lexed Token.Becomes 0 (0 + 1 + 1)) (lexed (sign_token b) 0 (0 + 1))))).token ≡ 0
        → u ≡ true
    go true v w e = refl
    go false true w e = absurd (omega arith)
    go false false true e = absurd (omega arith)
    go false false false e = absurd ((sign-other b).no_name e)

token-letter : (b : ℕ) (bs : List ℕ) (skipped : Skipped) → spaces_at (b ∷ bs) 0 ≡ skipped → code_of (behind (b ∷ bs) skipped).token ≡ 0 → (behind (b ∷ bs) skipped).start ≡ 0
    → letter b ≡ true
token-letter b bs (Stop i) p e z =
    let j : i ≡ 0 = sym (starts-there (b ∷ bs) i) ∙ z in
    starts-letter b bs (ap (λ (k : ℕ). code_of (starts_at (b ∷ bs) k).token) (sym j) ∙ e)
token-letter b bs (Open from) p e z = absurd (omega arith)

pub token-name : (w : List ℕ) → code_of (token_at w 0).token ≡ 0 → (token_at w 0).start ≡ 0 → (token_at w 0).end ≡ length w → good_name w ≡ true
unfolding good_name name_bytes token_at spaces
token-name [] e z h = absurd (omega arith)
token-name (b ∷ bs) e z h =
    let t = token-letter b bs (spaces_at (b ∷ bs) 0) refl e z in
    let f = first-token b bs t in
    let m : munch word_byte bs 1 ≡ suc (length bs) = ap (λ x. x.end) (sym f) ∙ h in
    let all = munched-all word_byte bs 1 (m ∙ omega arith) in
    let k : code_of (word_token (slice 0 (munch word_byte bs 1) (b ∷ bs))) ≡ 0 = ap (λ x. code_of x.token) (sym f) ∙ e in
    and_both (and_both t all) (key-not (b ∷ bs) (key-named _ (rw (m, whole (b ∷ bs)) at k)))

-- ---- the scanner's word on it

is_name : {token : Token} → false ≡ not (sameb the_type token Token.Name) → token ≡ Token.Name
is_name {token} e = same_true the_type (search rules) token Token.Name (go (sameb the_type token Token.Name) e)
  where
    go : (b : Bool) → false ≡ not b → b ≡ true
    go true e = refl
    go false e = never (sym e)

module _ (w : List ℕ) (x : Lexed) (scanned : x ≡ token_at w 0) where
  pub unnamed : {b : Bool} → b ≡ not (sameb the_type x.token Token.Name) → (b ≡ true) ⊎ ((b ≡ false) × (x.start ≡ 0 → ⊥)) → false ≡ good_name w
  unnamed {b} e h =
      by_flag (good_name w) (λ t. false ≡ t)
      (λ g.
      let n = scanned ∙ name-token w g in
      ⊎_elim (λ (p : b ≡ true). never (sym p ∙ e ∙ ap (λ (y : Lexed). not (sameb the_type y.token Token.Name)) n))
      (λ (p : (b ≡ false) × (x.start ≡ 0 → ⊥)). absurd (p.1 (ap (λ (y : Lexed). y.start) n))) h)
      (λ g. refl)

  pub named : false ≡ not (sameb the_type x.token Token.Name) → x.start ≡ 0 → eqb x.end (length w) ≡ good_name w
  named e z =
      let t : code_of (token_at w 0).token ≡ 0 = ap (λ (y : Lexed). code_of y.token) (sym scanned) ∙ ap code_of (is_name e) in
      let o : (token_at w 0).start ≡ 0 = ap (λ (y : Lexed). y.start) (sym scanned) ∙ z in
      by_flag (good_name w) (λ b. eqb x.end (length w) ≡ b) (λ g. eq-eqb _ _ (ap (λ (y : Lexed). y.end) (scanned ∙ name-token w g)))
      (λ g. ne_eqb _ _ (λ h. never (sym (token-name w t o (ap (λ (y : Lexed). y.end) (sym scanned) ∙ h)) ∙ g)))
