-- Keywords by their marks: a word can be at most one keyword, that of its mark.
use Rattle.std.specs.Prelude.{ℕ, suc, ◌+◌, ◌-◌, ◌*◌, ◌≤◌, ◌<◌, ◌≡◌, refl, List, [], ◌∷◌, Bool, true, false, cond, Option, Some, None, length, get_or, eqb, leb, T}
use denote.Ref.{Bor}
use Rattle.text.specs.declared.Token as tokens
use Rattle.text.specs.declared.Token.TheVariants as Token
use Rattle.text.specs.Tokens.{key_token, word_token}
use Rattle.std.specs.Cmp.Lexicographic.{pointwise}
use Rattle.std.proofs.Common.{sym, ap, ◌∙◌, add-zero, arith}
use Rattle.std.proofs.Math.Dec.{eqb→eq, leb→le}
use Rattle.model.specs.Bytes.{same, place_in}
use Rattle.text.specs.Words.{keywords, keyword}
use Rattle.text.proofs.WordsLaws.{same→eq, same-lengths}
use Rattle.text.specs.EachEntry.{both, both_left, both_right, each-entry}
use Rattle.text.specs.KeyTable.{key_numbers, key-none}
use Rattle.scan.specs.Slices.{same-pointwise}

-- a word's mark: its first letter, twice its last but one and five times its length
abbrev pub mark_of : List ℕ → ℕ
mark_of w = get_or w 0 0 + get_or w (length w - 2) 0 * 2 + length w * 5

-- the only keyword that has a mark, 22 where none has it
unfoldable pub marked : ℕ → ℕ
marked mark =
    cond (eqb mark 359) 0 (
    cond (eqb mark 301) 1 (
    cond (eqb mark 391) 2 (
    cond (eqb mark 354) 3 (
    cond (eqb mark 357) 4 (
    cond (eqb mark 325) 5 (
    cond (eqb mark 363) 6 (
    cond (eqb mark 335) 7 (
    cond (eqb mark 364) 8 (
    cond (eqb mark 329) 9 (
    cond (eqb mark 355) 10 (
    cond (eqb mark 375) 11 (
    cond (eqb mark 352) 12 (
    cond (eqb mark 367) 13 (
    cond (eqb mark 368) 14 (
    cond (eqb mark 372) 15 (
    cond (eqb mark 343) 16 (
    cond (eqb mark 366) 17 (
    cond (eqb mark 338) 18 (
    cond (eqb mark 370) 19 (
    cond (eqb mark 360) 20 (
    cond (eqb mark 339) 21
    22)))))))))))))))))))))

-- what is told of a mark: the keyword that has it with its token, or that none has
abbrev pub Candidate : ℕ → Option (Bor (List ℕ) × tokens.Token) → Type 0
Candidate mark (Some (word, token)) = (k : ℕ) × (k < 22) × (marked mark ≡ k) × (word.now ≡ keyword k) × (token ≡ key_token k)
Candidate mark None = marked mark ≡ 22

-- of 2 letters up to 12
sized : ℕ → ℕ → Bool
sized k n = both (leb 2 (length (keyword k))) (leb (length (keyword k)) 12)

-- the one that its mark says, and first at its place
placed : ℕ → ℕ → Bool
placed k n = both (eqb (marked (mark_of (keyword k))) k) (eqb (place_in keywords 0 (keyword k)) k)

every-sized : (k : ℕ) → k < 22 → T (sized k (get_or key_numbers k 0))
unfolding sized keywords
every-sized k h = each-entry sized key_numbers tt k h

every-placed : (k : ℕ) → k < 22 → T (placed k (get_or key_numbers k 0))
unfolding placed marked keywords place_in same
every-placed k h = each-entry placed key_numbers tt k h

module _ (k : ℕ) (h : k < 22) where
  key-long : 2 ≤ length (keyword k)
  unfolding sized
  key-long = leb→le _ _ (both_left (leb 2 (length (keyword k))) (leb (length (keyword k)) 12) (every-sized k h))

  key-short : length (keyword k) ≤ 12
  unfolding sized
  key-short = leb→le _ _ (both_right (leb 2 (length (keyword k))) (leb (length (keyword k)) 12) (every-sized k h))

  key-marked : marked (mark_of (keyword k)) ≡ k
  unfolding placed
  key-marked = eqb→eq _ _ (both_left (eqb (marked (mark_of (keyword k))) k) (eqb (place_in keywords 0 (keyword k)) k) (every-placed k h))

  key-place : place_in keywords 0 (keyword k) ≡ k
  unfolding placed
  key-place = eqb→eq _ _ (both_right (eqb (marked (mark_of (keyword k))) k) (eqb (place_in keywords 0 (keyword k)) k) (every-placed k h))

  pub is-keyword : (w : List ℕ) → same w (keyword k) ≡ true → w ≡ keyword k
  is-keyword w e = same→eq w (keyword k) (rw e tt)

  pub place_at : (w : List ℕ) → same w (keyword k) ≡ true → place_in keywords 0 w ≡ k
  place_at w e = rw (is-keyword w e) key-place

-- ---- words that are no keyword

none_of : (vs : List (List ℕ)) (n : ℕ) (w : List ℕ) → ((j : ℕ) → j < length vs → same w (get_or vs j []) ≡ false) → place_in vs n w ≡ n + length vs
unfolding place_in
none_of [] n w h = sym (add-zero n)
none_of (v ∷ vs) n w h =
    let first = h 0 (omega arith) in
    let on = none_of vs (n + 1) w (λ j g. h (suc j) (omega arith)) in
    simp first (on ∙ omega arith)

pub no-keyword : (w : List ℕ) → ((j : ℕ) → j < 22 → same w (keyword j) ≡ false) → place_in keywords 0 w ≡ 22
unfolding keywords
no-keyword w h = none_of keywords 0 w h

module _ (w : List ℕ) where
  pub too_short : length w < 2 → place_in keywords 0 w ≡ 22
  too_short h = no-keyword w (λ j g. same-lengths w (keyword j) (λ e. omega (arith, key-long j g)))

  pub too_long : 12 < length w → place_in keywords 0 w ≡ 22
  too_long h = no-keyword w (λ j g. same-lengths w (keyword j) (λ e. omega (arith, key-short j g)))

  -- a word that is not the keyword of its mark is none
  pub unlike : (k : ℕ) → k ≡ marked (mark_of w) → (k < 22 → same w (keyword k) ≡ false) → place_in keywords 0 w ≡ 22
  unlike k p n = no-keyword w (λ j g. by j g (same w (keyword j)) refl)
    where
      by : (j : ℕ) → j < 22 → (b : Bool) → same w (keyword j) ≡ b → same w (keyword j) ≡ false
      by j g false e = e
      by j g true e =
          let q : k ≡ j = p ∙ rw (is-keyword j g w e) (key-marked j g) in
          rw q at n g

  -- a word that is no keyword
  pub no_token : place_in keywords 0 w ≡ 22 → Token.Name ≡ word_token w
  no_token e = sym (rw e (key-none 22 (omega arith)))

  -- what is told of the word's mark tells its token
  pub candidate_token : (keyword : Bor (List ℕ)) (token : tokens.Token) → Candidate (mark_of w) (Some (keyword, token)) → pointwise eqb w keyword.now ≡ true → token ≡ word_token w
  candidate_token v t (k, h, m, e, p) q =
      let alike : same w (keyword k) ≡ true = rw (← e) (sym (same-pointwise w v.now) ∙ q) in
      p ∙ sym (ap key_token (place_at k h w alike))

  pub candidate-other : (keyword : Bor (List ℕ)) (token : tokens.Token) → Candidate (mark_of w) (Some (keyword, token)) → pointwise eqb w keyword.now ≡ false → Token.Name ≡ word_token w
  candidate-other v t (k, h, m, e, p) q = no_token (unlike k (sym m) (λ g. rw (← e) (sym (same-pointwise w v.now) ∙ q)))

  pub candidate-none : Candidate (mark_of w) None → Token.Name ≡ word_token w
  candidate-none m = no_token (unlike 22 (sym m) (λ g. absurd (omega arith)))
