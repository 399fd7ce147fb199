-- What was taken where a reading did not refuse: the token that stands there.
use Rattle.std.specs.Prelude.{ℕ, ◌≡◌, refl, Bool, true, false, eqb, ltb}
use Rattle.std.proofs.Common.{sym, ap, ◌∙◌, arith}
use mathlib.Core.List.{List, [], ◌∷◌}
use borrow.Author.Tests.{eqb-true, eqb-false, ne_eqb}
use Rattle.std.proofs.Math.Seq.{slice}
use Rattle.model.specs.Bytes.{bytes, same}
use Rattle.text.specs.declared.Token.{Token}
use Rattle.text.specs.declared.Token.TheVariants as T
use Rattle.text.specs.declared.Got.{Got}
use Rattle.text.specs.declared.Name.{Name}
use Rattle.text.specs.declared.Literal.{Literal}
use Rattle.text.specs.declared.Item.{Item}
use Rattle.text.specs.declared.Item.TheVariants as I
use Rattle.text.specs.Tokens.{token_at, code_of, code_at, is, stands}
use Rattle.text.specs.Expect.{got, want, want_any, want_word, either, name_of}
use Rattle.text.proofs.ExpectLaws.{refusal-bad, any-follows}
use Rattle.text.specs.WantLaws.{want-stuck, want-took, want-refused, any-took, word-took, word-refused, word-stuck}
use Rattle.grammar.specs.Making.{with_count}
use Rattle.grammar.specs.Readings.{chain}

pub unsaid : true ≡ false → ⊥
unsaid e = let z : ◌≡◌ {A = ℕ} 0 1 = cc in omega arith

-- the token at a place, as it was taken
abbrev pub got_at : List ℕ → ℕ → Got
got_at s at = got 0 (token_at s at).start (token_at s at).end

abbrev pub name_at : List ℕ → ℕ → Name
name_at s at = record { start = (token_at s at).start; end = (token_at s at).end }

module _ (s : List ℕ) where
  pub took : (t : Token) (g : Got) → (want t s g).bad ≡ 0 → (g.bad ≡ 0) × (want t s g ≡ got_at s g.end)
  took t g z = by (eqb g.bad 0) refl (is t (token_at s g.end)) refl
    where
      by : (b : Bool) → eqb g.bad 0 ≡ b → (d : Bool) → is t (token_at s g.end) ≡ d → (g.bad ≡ 0) × (want t s g ≡ got_at s g.end)
      by false e d f = let n = eqb-false _ _ e in absurd (n (rw (want-stuck s g n t) at z))
      by true e false f = absurd (refusal-bad (token_at s g.end) (rw (want-refused s g (token_at s g.end) (eqb-true _ _ e) refl t f) at z))
      by true e true f = (eqb-true _ _ e, want-took s g (token_at s g.end) (eqb-true _ _ e) refl t f)

  pub back : (t : Token) (g : Got) → (want t s g).bad ≡ 0 → g.bad ≡ 0
  back t g z = (took t g z).0

  pub name-eq : (t : Token) (g : Got) → (want t s g).bad ≡ 0 → name_at s g.end ≡ name_of (want t s g)
  name-eq t g z = ap name_of (sym (took t g z).1)

  pub start-eq : (t : Token) (g : Got) → (want t s g).bad ≡ 0 → (token_at s g.end).start ≡ (want t s g).start
  start-eq t g z = ap (λ (r : Got). r.start) (sym (took t g z).1)

  pub chain_back : (ts : List Token) (g : Got) → (chain ts s g).bad ≡ 0 → g.bad ≡ 0
  unfolding chain
  chain_back [] g z = z
  chain_back (t ∷ ts) g z = back t g (chain_back ts (want t s g) z)

  pub any-start-eq : (t : Token) (g : Got) → ltb (code_of t) 36 ≡ true → stands t s g.end ≡ true → (want_any s g).bad ≡ 0 → (token_at s g.end).start ≡ (want_any s g).start
  any-start-eq t g c e z = ap (λ (r : Got). r.start) (sym (any-took s g (token_at s g.end) (any-follows z).fine refl (omega (arith, eqb-true (code_at s g.end) (code_of t) e, borrow.Author.Tests.ltb-true (code_of t) 36 c))))

  pub not-other : (t u : Token) (at : ℕ) → eqb (code_of t) (code_of u) ≡ false → stands t s at ≡ true → stands u s at ≡ false
  not-other t u at n e = ne_eqb (code_at s at) (code_of u) (λ k. eqb-false (code_of t) (code_of u) n (sym (eqb-true (code_at s at) (code_of t) e) ∙ k))

pub actuator-eq : {a a' b b' c c' : Name} {v v' : Literal} → a ≡ a' → b ≡ b' → v ≡ v' → c ≡ c' → I.Actuator a b v c ≡ I.Actuator a' b' v' c'
actuator-eq p q r t = cc

-- a token that was taken is of its kind
pub took-kind : (s : List ℕ) (t : Token) (g : Got) → (want t s g).bad ≡ 0 → is t (token_at s g.end) ≡ true
took-kind s t g z = by (is t (token_at s g.end)) refl
  where
    by : (d : Bool) → is t (token_at s g.end) ≡ d → is t (token_at s g.end) ≡ true
    by true f = f
    by false f = absurd (refusal-bad (token_at s g.end) (rw (want-refused s g (token_at s g.end) (back s t g z) refl t f) at z))

pub not-dot : (s : List ℕ) (g : Got) → (want T.Semicolon s g).bad ≡ 0 → stands T.Dot s g.end ≡ false
not-dot s g z = not-other s T.Semicolon T.Dot g.end refl (took-kind s T.Semicolon g z)

pub begin-eq : {start : Bool} {at : ℕ} {a a' b b' : Name} {c c' : Bool} → a ≡ a' → b ≡ b' → c ≡ c' → I.ModeBegin start at a b c ≡ I.ModeBegin start at a' b' c'
begin-eq p q r = cc

-- a unit that was taken: it is milliseconds where the first word was
pub unit-fine : (s : List ℕ) (g : Got) → (either (want_word (bytes "ms") s g) (want_word (bytes "us") s g)).bad ≡ 0 →
    (g.bad ≡ 0) × (same (slice (token_at s g.end).start (token_at s g.end).end s) (bytes "ms") ≡ eqb (want_word (bytes "ms") s g).bad 0)
unit-fine s g z = by (eqb (want T.Name s g).bad 0) refl (same (slice (token_at s g.end).start (token_at s g.end).end s) (bytes "ms")) refl
  where
    by : (b : Bool) → eqb (want T.Name s g).bad 0 ≡ b → (d : Bool) → same (slice (token_at s g.end).start (token_at s g.end).end s) (bytes "ms") ≡ d → (g.bad ≡ 0) × (same (slice (token_at s g.end).start (token_at s g.end).end s) (bytes "ms") ≡ eqb (want_word (bytes "ms") s g).bad 0)
    by false e d f = let n = eqb-false _ _ e in absurd (n (rw (word-stuck (bytes "ms") s g (want T.Name s g) refl n, word-stuck (bytes "us") s g (want T.Name s g) refl n, e) at z))
    by true e true f = let t = took s T.Name g (eqb-true _ _ e) in (t.0, rw (f, word-took (bytes "ms") s g (got_at s g.end) (sym t.1) refl f))
    by true e false f = let t = took s T.Name g (eqb-true _ _ e) in (t.0, rw (f, word-refused (bytes "ms") s g (got_at s g.end) (sym t.1) refl f))

-- an item but for the number of its arguments
abbrev pub bare : Item → Item
bare item = with_count 0 item

unfoldable pub bares : List Item → List Item
bares [] = []
bares (item ∷ items) = bare item ∷ bares items
