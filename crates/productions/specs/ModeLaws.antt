-- What is read of a mode's head, and of an activity's, is what the text's definition says of it.
use Rattle.std.specs.Prelude.{ℕ, ◌≡◌, refl, List, Ok, Err, Bool, true, false, cond, eqb}
use Rattle.std.proofs.Common.{sym, arith, ne_eqb}
use Rattle.text.specs.declared.Token.TheVariants as T
use Rattle.text.specs.declared.Name.{Name}
use Rattle.text.specs.declared.Refusal.{Refusal}
use Rattle.text.specs.declared.State.TheVariants as Q
use Rattle.text.specs.Tokens.{token_at, is}
use Rattle.text.specs.Expect.{from, got, want, want_word, spells, either, closed}
use Rattle.text.specs.WantLaws.{word-took, word-refused, word-stuck}
use Rattle.text.specs.Productions.{period, freq, ms, us, mode_of, mode_at, activity_at}
use Rattle.wants.specs.Given.{taken, refused, spelling, see, see-word, behind-name, behind-refusal, word-behind-name, word-behind-refusal}
use Rattle.productions.specs.Read.{closed_of, unit_by, unit_of, begin_of, activity_of}
use Rattle.productions.specs.Read.{mode_of as mode_read}
use Rattle.productions.specs.ReadLaws.{found-is, any-here}

-- ---- units

module _ (s : List ℕ) where
  -- a word by its spelling
  unit-word : (word : List ℕ) (at : ℕ) (name : Name) → want T.Name s (from at) ≡ taken name → (b : Bool) → spells s name.start name.end word ≡ b
      → want_word word s (from at) ≡ cond b (taken name) (got 3 name.start name.start)
  unit-word word at name e true q = word-took word s (from at) (taken name) (sym e) refl q
  unit-word word at name e false q = word-refused word s (from at) (taken name) (sym e) refl q

  pub see-unit : {P : Type 0} (at : ℕ)
      → ((milli : Bool) (start end : ℕ) → unit_of s at ≡ Ok (milli, end) → either (want_word ms s (from at)) (want_word us s (from at)) ≡ got 0 start end → eqb (want_word ms s (from at)).bad 0 ≡ milli → P)
      → ((r : Refusal) → (r.number ≡ 0 → ⊥) → unit_of s at ≡ Err r → either (want_word ms s (from at)) (want_word us s (from at)) ≡ refused r → P)
      → P
  unfolding unit_of unit_by spelling
  see-unit {P} at took gone = see T.Name s at (λ name e. by name e (spells s name.start name.end ms) refl (spells s name.start name.end us) refl)
      (λ r z e. gone r z (simp (e, ne_eqb _ _ z)) (simp (word-stuck ms s (from at) (refused r) (sym e) z, word-stuck us s (from at) (refused r) (sym e) z, ne_eqb _ _ z)))
    where
      by : (name : Name) → want T.Name s (from at) ≡ taken name → (a : Bool) → spells s name.start name.end ms ≡ a → (b : Bool) → spells s name.start name.end us ≡ b → P
      by name e true p b q = took true name.start name.end (simp (e, p)) (simp (unit-word ms at name e true p)) (simp (unit-word ms at name e true p))
      by name e false p true q = took false name.start name.end (simp (e, p, q)) (simp (unit-word ms at name e false p, unit-word us at name e true q)) (simp (unit-word ms at name e false p))
      by name e false p false q = gone (record { number = 3; at = name.start }) (λ z. absurd (omega (arith, z))) (simp (e, p, q)) (simp (unit-word ms at name e false p, unit-word us at name e false q))

-- ---- modes

module _ (s : List ℕ) (start : Bool) (begin : ℕ) where
  pub mode-read : (at : ℕ) → closed_of (Q.Mode 1) (mode_read s start begin at) ≡ mode_of s start begin (from at)
  unfolding mode_read mode_of closed
  mode-read at =
      see T.Name s at (λ name e. simp (e, behind-name s name) (
      see T.LeftBracket s name.end (λ bracket f. simp (f, word-behind-name s bracket) (
      see-word period s bracket.end (λ word g. simp (g, behind-name s word) (
      see T.Equals s word.end (λ equals h. simp (h, behind-name s equals) (
      see T.Number s equals.end (λ digits i. simp (i, word-behind-name s digits) (
      see-unit s digits.end (λ milli low high j k l. simp (j, k, behind-name s (record { start = low; end = high })) (simp l (
      see T.RightBracket s high (λ close m. simp (m, behind-name s close) (
      see T.LeftBrace s close.end (λ last n. simp n)
      (λ r z e. simp (e, ne_eqb _ _ z))))
      (λ r z e. simp (e, behind-refusal s r z, ne_eqb _ _ z)))))
      (λ r z e f. simp (e, f, behind-refusal s r z, ne_eqb _ _ z))))
      (λ r z e. simp (e, word-behind-refusal s r z, behind-refusal s r z, ne_eqb _ _ z))))
      (λ r z e. simp (e, behind-refusal s r z, word-behind-refusal s r z, ne_eqb _ _ z))))
      (λ r z e. simp (e, behind-refusal s r z, word-behind-refusal s r z, ne_eqb _ _ z))))
      (λ r z e. simp (e, word-behind-refusal s r z, behind-refusal s r z, ne_eqb _ _ z))))
      (λ r z e. simp (e, behind-refusal s r z, word-behind-refusal s r z, ne_eqb _ _ z))

  mode-behind-name : (name : Name) → mode_of s start begin (taken name) ≡ mode_of s start begin (from name.end)
  unfolding mode_of want
  mode-behind-name name = refl

  mode-behind-refusal : (r : Refusal) → (r.number ≡ 0 → ⊥) → mode_of s start begin (refused r) ≡ closed_of (Q.Mode 1) (Err r)
  unfolding mode_of closed
  mode-behind-refusal r z = simp (behind-refusal s r z, word-behind-refusal s r z, ne_eqb _ _ z)

pub mode-told : (s : List ℕ) (at : ℕ) → closed_of (Q.Mode 1) (begin_of s (token_at s at)) ≡ mode_at s (from at)
unfolding begin_of mode_at
mode-told s at = by (is T.KeyStart (token_at s at)) refl
  where
    start : ℕ
    start = (token_at s at).start

    by : (b : Bool) → is T.KeyStart (token_at s at) ≡ b → closed_of (Q.Mode 1) (begin_of s (token_at s at)) ≡ mode_at s (from at)
    by true e = simp (e, any-here s at T.KeyStart (omega arith) e, behind-name s (record { start = start; end = (token_at s at).end })) (
        see T.KeyMode s (token_at s at).end (λ word f. simp (f, mode-behind-name s true start word, mode-read s true start word.end))
        (λ r z f. simp (f, mode-behind-refusal s true start r z, ne_eqb _ _ z)))
    by false e = simp (e, found-is s at) (
        see T.KeyMode s at (λ word f. simp (f, mode-behind-name s false word.start word, mode-read s false word.start word.end))
        (λ r z f. simp (f, mode-behind-refusal s false r.at r z, ne_eqb _ _ z)))

pub activity-told : (s : List ℕ) (k at : ℕ) → closed_of (Q.Act k) (activity_of s k (token_at s at)) ≡ activity_at s k (from at)
unfolding activity_of activity_at closed
activity-told s k at = simp (found-is s at) (
    see T.LeftBracket s at (λ bracket e. simp (e, word-behind-name s bracket) (
    see-word freq s bracket.end (λ word f. simp (f, behind-name s word) (
    see T.Equals s word.end (λ equals g. simp (g, behind-name s equals) (
    see T.Number s equals.end (λ digits h. simp (h, behind-name s digits) (
    see T.RightBracket s digits.end (λ last i. simp i)
    (λ r z e. simp (e, ne_eqb _ _ z))))
    (λ r z e. simp (e, behind-refusal s r z, ne_eqb _ _ z))))
    (λ r z e. simp (e, behind-refusal s r z, ne_eqb _ _ z))))
    (λ r z e. simp (e, behind-refusal s r z, ne_eqb _ _ z))))
    (λ r z e. simp (e, word-behind-refusal s r z, behind-refusal s r z, ne_eqb _ _ z)))
