-- Expectations of a token that has been found already, and that they are those of the text's definitions where it stands next.
use Rattle.std.specs.Prelude.{ℕ, ◌+◌, ◌-◌, ◌<◌, ◌≤◌, ◌≡◌, List, Result, Ok, Err, Bool, cond, eqb, ltb, length, get_or, drop, slice_range}
use Rattle.std.proofs.Math.Path.{refl, ap}
use Rattle.std.proofs.Common.{◌∙◌, sym, arith, eq-eqb, add-zero}
use Rattle.std.proofs.lemmas.List.{get_or-take, get_or-drop}
use Rattle.std.proofs.Math.Bool.{true, false}
use Rattle.text.specs.declared.Token.{Token}
use Rattle.text.specs.declared.Token.TheVariants as T
use Rattle.text.specs.declared.Lexed.{Lexed}
use Rattle.text.specs.declared.Got.{Got}
use Rattle.text.specs.declared.Name.{Name}
use Rattle.text.specs.declared.Refusal.{Refusal}
use Rattle.text.specs.Tokens.{token_at, code_of, is, lexed, behind}
use Rattle.text.specs.Expect.{got, from, refusal, want, want_any, spells, want_word, name_of}
use Rattle.text.specs.WantLaws.{want-stuck, word-stuck, word-took, word-refused}
use Rattle.text.specs.Spaces.{white}
use Rattle.text.proofs.SpacesLaws.{spaces-white}
use Rattle.scan.specs.Others.{Standing, at_once}

-- ---- a reading of the text's definitions as the code answers it

-- the refusal that a reading is
abbrev pub refusal_in : Got → Refusal
refusal_in g = record { number = g.bad; at = g.start }

-- the name that was read, or the refusal
abbrev pub told : Got → Result Name Refusal
told g = cond (eqb g.bad 0) (Ok (name_of g)) (Err (refusal_in g))

-- a name that was read, as the reading that goes on behind it
abbrev pub taken : Name → Got
taken name = got 0 name.start name.end

-- what follows a reading, or its refusal
infixl 10 ◌>>=◌
abbrev pub ◌>>=◌ : {A B : Type 0} → Result A Refusal → (A → Result B Refusal) → Result B Refusal
(Ok x) >>= f = f x
(Err e) >>= f = Err e

-- ---- a token that has been found

-- the token found where it may stand, else its refusal
abbrev pub allowed_of : Bool → Lexed → Got
allowed_of allowed found = cond allowed (got 0 found.start found.end) (refusal found)

-- the token found, which must be t
unfoldable pub want_of : Token → Lexed → Got
want_of t found = allowed_of (is t found) found

-- the token found, whichever it is, but not the end
unfoldable pub any_of : Lexed → Got
any_of found = allowed_of (ltb (code_of found.token) (code_of T.End)) found

-- a name that was read, which must be `word`; another name is 3
unfoldable pub spelling : List ℕ → List ℕ → Name → Got
spelling word s name = cond (spells s name.start name.end word) (taken name) (got 3 name.start name.start)

pub refused-told : (found : Lexed) → told (refusal found) ≡ Err (refusal_in (refusal found))
unfolding refusal
refused-told found = by (is T.Bad found)
  where
    by : (b : Bool) → told (got (cond b 2 3) found.start found.start) ≡ Err (refusal_in (got (cond b 2 3) found.start found.start))
    by true = refl
    by false = refl

-- a word is a name that is spelt so
pub word-told : (word s : List ℕ) (at : ℕ) → (told (want T.Name s (from at)) >>= λ name. told (spelling word s name)) ≡ told (want_word word s (from at))
unfolding want want_word spelling refusal
word-told word s at = by (is T.Name (token_at s at)) (is T.Bad (token_at s at))
  where
    read : Bool → Bool → Got
    read b d = cond b (got 0 (token_at s at).start (token_at s at).end) (got (cond d 2 3) (token_at s at).start (token_at s at).start)

    by : (b d : Bool) → (told (read b d) >>= λ name. told (cond (spells s name.start name.end word) (taken name) (got 3 name.start name.start)))
        ≡ told (cond (eqb (read b d).bad 0) (cond (spells s (read b d).start (read b d).end word) (read b d) (got 3 (read b d).start (read b d).start)) (read b d))
    by true d = refl
    by false true = refl
    by false false = refl

module _ (s : List ℕ) (at : ℕ) (found : Lexed) (p : found ≡ token_at s at) where
  pub want-of : (t : Token) → want_of t found ≡ want t s (from at)
  unfolding want want_of
  want-of t = rw p

  pub any-of : any_of found ≡ want_any s (from at)
  unfolding want_any any_of
  any-of = rw p

-- ---- a sign that stands at a place itself, or behind a blank there

-- t stands at the place, and ends there
pub record Ends (s : List ℕ) (at : ℕ) (t : Token) (end : ℕ) : Type 0 where
  pub some : 0 < end
  pub stands : token_at s at ≡ lexed t (end - 1) end

-- the bytes from the place on
pub record Rest (s : List ℕ) (at : ℕ) (rest : List ℕ) : Type 0 where
  pub bytes : rest ≡ slice_range s at (length s)
  pub size : length rest + at ≡ length s

byte-in : {s rest : List ℕ} {at : ℕ} → Rest s at rest → (i : ℕ) → i < length rest → get_or rest i 0 ≡ get_or s (at + i) 0
byte-in {s} {rest} {at} r i h = rw r.bytes (get_or-take (length s - at) (drop at s) i 0 (omega (arith, r.size)) ∙ get_or-drop at s i 0)

first-in : {s rest : List ℕ} {at : ℕ} → Rest s at rest → 1 ≤ length rest → get_or rest 0 0 ≡ get_or s at 0
first-in {s} {rest} {at} r h = byte-in r 0 h ∙ ap (λ (i : ℕ). get_or s i 0) (add-zero at)

module _ {s rest : List ℕ} {at : ℕ} {t : Token} {b : ℕ} (p : Standing b t) (r : Rest s at rest) where
  -- a blank is passed over
  past-blank : 1 ≤ length rest → get_or rest 0 0 ≡ 32 → token_at s at ≡ token_at s (at + 1)
  unfolding token_at
  past-blank h e =
      let w : white (get_or s at 0) ≡ true = rw (sym (first-in r h) ∙ e) refl in
      ap (behind s) (spaces-white s at (omega (arith, r.size)) w)

  pub ends-at : 1 ≤ length rest → get_or rest 0 0 ≡ b → Ends s at t (at + 1)
  ends-at h e =
      let start : at + 1 - 1 ≡ at = omega arith in
      record { some = omega arith; stands = rw start (at_once s at b t (omega (arith, r.size)) (sym (first-in r h) ∙ e) p) }

  pub ends-behind : 2 ≤ length rest → get_or rest 0 0 ≡ 32 → get_or rest 1 0 ≡ b → Ends s at t (at + 2)
  ends-behind h w e =
      let start : at + 2 - 1 ≡ at + 1 = omega arith in
      let end : at + 2 ≡ at + 1 + 1 = omega arith in
      record { some = omega arith; stands = rw (start, end) (past-blank (omega arith) w ∙ at_once s (at + 1) b t (omega (arith, r.size)) (sym (byte-in r 1 h) ∙ e) p) }

-- what is read where t stands
pub ends-want : {s : List ℕ} {at : ℕ} {t : Token} {end : ℕ} → Ends s at t end → want t s (from at) ≡ got 0 (end - 1) end
unfolding want
ends-want {t = t} e = simp (e.stands, eq-eqb (code_of t) (code_of t) refl)

-- ---- a reading by its answer

-- a refusal as a reading
abbrev pub refused : Refusal → Got
refused r = got r.number r.at r.at

-- what is read next is a name, or a refusal
pub see : {P : Type 0} (t : Token) (s : List ℕ) (at : ℕ)
    → ((name : Name) → want t s (from at) ≡ taken name → P)
    → ((r : Refusal) → (r.number ≡ 0 → ⊥) → want t s (from at) ≡ refused r → P)
    → P
unfolding want refusal
see {P} t s at took gone = by (is t (token_at s at)) (is T.Bad (token_at s at)) took gone
  where
    start : ℕ
    start = (token_at s at).start

    end : ℕ
    end = (token_at s at).end

    by : (b d : Bool)
        → ((name : Name) → cond b (got 0 start end) (got (cond d 2 3) start start) ≡ taken name → P)
        → ((r : Refusal) → (r.number ≡ 0 → ⊥) → cond b (got 0 start end) (got (cond d 2 3) start start) ≡ refused r → P)
        → P
    by true d took gone = took (record { start = start; end = end }) refl
    by false true took gone = gone (record { number = 2; at = start }) (λ e. absurd (omega (arith, e))) refl
    by false false took gone = gone (record { number = 3; at = start }) (λ e. absurd (omega (arith, e))) refl

-- the same of a word
pub see-word : {P : Type 0} (word s : List ℕ) (at : ℕ)
    → ((name : Name) → want_word word s (from at) ≡ taken name → P)
    → ((r : Refusal) → (r.number ≡ 0 → ⊥) → want_word word s (from at) ≡ refused r → P)
    → P
see-word {P} word s at took gone = see T.Name s at (λ name e. by name e (spells s name.start name.end word) refl) (λ r z e. gone r z (word-stuck word s (from at) (refused r) (sym e) z))
  where
    by : (name : Name) → want T.Name s (from at) ≡ taken name → (b : Bool) → spells s name.start name.end word ≡ b → P
    by name e true q = took name (word-took word s (from at) (taken name) (sym e) refl q)
    by name e false q = gone (record { number = 3; at = name.start }) (λ z. absurd (omega (arith, z))) (word-refused word s (from at) (taken name) (sym e) refl q)

-- what is read behind a name, and behind a refusal
module _ (s : List ℕ) (name : Name) where
  pub behind-name : (t : Token) → want t s (taken name) ≡ want t s (from name.end)
  unfolding want
  behind-name t = refl

  pub word-behind-name : (word : List ℕ) → want_word word s (taken name) ≡ want_word word s (from name.end)
  unfolding want want_word
  word-behind-name word = refl

module _ (s : List ℕ) (r : Refusal) (z : r.number ≡ 0 → ⊥) where
  pub behind-refusal : (t : Token) → want t s (refused r) ≡ refused r
  behind-refusal t = want-stuck s (refused r) z t

  pub word-behind-refusal : (word : List ℕ) → want_word word s (refused r) ≡ refused r
  word-behind-refusal word = word-stuck word s (refused r) (refused r) (sym (behind-refusal T.Name)) z
