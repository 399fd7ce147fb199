-- How the number of arguments goes by the token at a place.
use Rattle.std.specs.Prelude.{ℕ, zero, suc, ◌+◌, ◌-◌, ◌≤◌, ◌<◌, ◌≡◌, refl, List, Bool, true, false, cond, length, eqb, ltb}
use Rattle.std.proofs.Common.{sym, ap, ◌∙◌, arith, ltb-true, ltb-false, lt-ltb, le-ltb, eqb-true, ne_eqb}
use Rattle.text.specs.declared.Lexed.{Lexed}
use Rattle.text.specs.Tokens.{token_at, code_at, code_of}
use Rattle.text.proofs.TokensLaws.{token-here}
use Rattle.text.specs.Productions.{is_part, comma, commas_in, commas_from}

-- a name, a dot and a comma are neither the end nor bad
pub part_small : (c : ℕ) → is_part c ≡ true → c < 36
part_small c e = by (eqb c 12) refl (eqb c 0) refl (eqb c 10) refl e
  where
    by : (x : Bool) → eqb c 12 ≡ x → (y : Bool) → eqb c 0 ≡ y → (z : Bool) → eqb c 10 ≡ z → cond x true (cond y true z) ≡ true → c < 36
    by true p y q z r u = omega (arith, eqb-true c 12 p)
    by false p true q z r u = omega (arith, eqb-true c 0 q)
    by false p false q true r u = omega (arith, eqb-true c 10 r)
    by false p false q false r u = let z : ◌≡◌ {A = ℕ} 0 1 = cc in absurd (omega arith)

in_end : (s : List ℕ) (i fuel : ℕ) → length s ≤ i → commas_in fuel s i ≡ 0
unfolding commas_in
in_end s i zero h = refl
in_end s i (suc fuel) h = simp (le-ltb _ _ h)

module _ (s : List ℕ) (i fuel : ℕ) (h : i < length s) where
  in_on : is_part (code_at s i) ≡ true → commas_in (suc fuel) s i ≡ comma (code_at s i) (commas_in fuel s (token_at s i).end)
  unfolding commas_in
  in_on e = simp (lt-ltb _ _ h, e)

  in-out : is_part (code_at s i) ≡ false → commas_in (suc fuel) s i ≡ 0
  unfolding commas_in
  in-out e = simp (lt-ltb _ _ h, e)

-- more fuel than bytes changes nothing
enough : (f g : ℕ) (s : List ℕ) (i : ℕ) → length s ≤ i + f → length s ≤ i + g → commas_in f s i ≡ commas_in g s i
enough zero g s i h k = in_end s i zero (omega arith) ∙ sym (in_end s i g (omega arith))
enough (suc f) zero s i h k = in_end s i (suc f) (omega arith) ∙ sym (in_end s i zero (omega arith))
enough (suc f) (suc g) s i h k = by (ltb i (length s)) refl (is_part (code_at s i)) refl (λ m. enough f g s (token_at s i).end (omega (arith, m)) (omega (arith, m)))
  where
    by : (b : Bool) → ltb i (length s) ≡ b → (d : Bool) → is_part (code_at s i) ≡ d → (i < (token_at s i).end → commas_in f s (token_at s i).end ≡ commas_in g s (token_at s i).end) → commas_in (suc f) s i ≡ commas_in (suc g) s i
    by false e d q on = in_end s i (suc f) (ltb-false _ _ e) ∙ sym (in_end s i (suc g) (ltb-false _ _ e))
    by true e false q on = in-out s i f (ltb-true _ _ e) q ∙ sym (in-out s i g (ltb-true _ _ e) q)
    by true e true q on =
        let t = token-here s i (part_small _ q) in
        in_on s i f (ltb-true _ _ e) q ∙ ap (comma (code_at s i)) (on (omega (arith, t.low, t.some))) ∙ sym (in_on s i g (ltb-true _ _ e) q)

pub commas-end : (s : List ℕ) (i : ℕ) → length s ≤ i → commas_from s i ≡ 0
commas-end s i h = in_end s i _ h

module _ (s : List ℕ) (i : ℕ) (h : i < length s) where
  less : length s - i ≡ suc (length s - (i + 1))
  less = omega arith

  pub commas-out : is_part (code_at s i) ≡ false → commas_from s i ≡ 0
  commas-out e = rw less (in-out s i _ h e)

  pub commas-on : is_part (code_at s i) ≡ true → commas_from s i ≡ comma (code_at s i) (commas_from s (token_at s i).end)
  commas-on e =
      let t = token-here s i (part_small _ e) in
      rw less (in_on s i _ h e ∙ ap (comma (code_at s i)) (enough _ _ s _ (omega (arith, t.low, t.some)) (omega (arith, t.low, t.some))))

-- a turn of a loop over tokens: l is the token at i, c its number
module _ (s : List ℕ) (i : ℕ) (l : Lexed) (c : ℕ) (h : i < length s) (p : l ≡ token_at s i) (q : c ≡ code_of l.token) where
  here : code_at s i ≡ c
  here = rw (q, p)

  pub count-ahead : c < 36 → (i < l.end) × (l.end ≤ length s)
  count-ahead k = let t = token-here s i (rw here k) in rw p (omega (arith, t.low, t.some, t.high))

  onward : is_part c ≡ true → commas_from s i ≡ comma c (commas_from s l.end)
  onward e = let o = commas-on s i h (rw here e) in rw p (rw here at o)

  pub count-comma : (n : ℕ) → c ≡ 12 → n + commas_from s i ≡ n + 1 + commas_from s l.end
  count-comma n e = let o = onward (rw e) in let b : commas_from s i ≡ suc (commas_from s l.end) = rw e at o in omega (arith, b)

  pub count-name : (n : ℕ) → c ≡ 0 → n + commas_from s i ≡ n + commas_from s l.end
  count-name n e = let o = onward (rw e) in let b : commas_from s i ≡ commas_from s l.end = rw e at o in omega (arith, b)

  pub count-dot : (n : ℕ) → c ≡ 10 → n + commas_from s i ≡ n + commas_from s l.end
  count-dot n e = let o = onward (rw e) in let b : commas_from s i ≡ commas_from s l.end = rw e at o in omega (arith, b)

  pub count-out : (n : ℕ) → (c ≡ 12 → ⊥) → (c ≡ 0 → ⊥) → (c ≡ 10 → ⊥) → n + commas_from s i ≡ n
  count-out n a b d = let o = commas-out s i h (rw here (simp (ne_eqb _ _ a, ne_eqb _ _ b, ne_eqb _ _ d))) in omega (arith, o)

pub count-end : (s : List ℕ) (i n : ℕ) → length s ≤ i → n + commas_from s i ≡ n
count-end s i n h = let o = commas-end s i h in omega (arith, o)
