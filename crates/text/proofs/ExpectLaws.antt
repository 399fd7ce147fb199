-- Readings go forward: what is read behind another stands behind it, and a refusal stays where it was found.
use Rattle.std.specs.Prelude.{ℕ, ◌≤◌, ◌<◌, ◌≡◌, refl, List, Bool, true, false, cond, length, eqb, ltb}
use Rattle.std.proofs.Common.{arith, eqb-true, ltb-true}
use Rattle.std.proofs.lemmas.Bool.{eqb-false}
use Rattle.text.specs.declared.Token.{Token}
use Rattle.text.specs.declared.Token.TheVariants as T
use Rattle.text.specs.declared.Lexed.{Lexed}
use Rattle.text.specs.declared.Got.{Got}
use Rattle.text.specs.Tokens.{token_at, code_of, code_at, is}
use Rattle.text.proofs.TokensLaws.{token-in, token-here}
use Rattle.text.specs.Expect.{got, from, refusal, allow, want, want_any, spells, want_word, either}
-- ---- nothing was refused, and h was read behind g

use Rattle.text.specs.ExpectLaws.{Follows, Kept, Refused}

pub refusal-bad : (l : Lexed) → (refusal l).bad ≡ 0 → ⊥
unfolding refusal
refusal-bad l e = by (is T.Bad l) e
  where
    by : (b : Bool) → ◌≡◌ {A = ℕ} (cond b 2 3) 0 → ⊥
    by true e = omega arith
    by false e = omega arith

allow-follows : (allowed : Bool) (s : List ℕ) (g : Got) → (allowed ≡ true → code_at s g.end < 36) → (allow allowed (token_at s g.end) g).bad ≡ 0 → Follows s g (allow allowed (token_at s g.end) g)
allow-follows allowed s g c z = by (eqb g.bad 0) refl allowed c z
  where
    by : (b : Bool) → eqb g.bad 0 ≡ b → (d : Bool) → (d ≡ true → code_at s g.end < 36) → (cond b (cond d (got 0 (token_at s g.end).start (token_at s g.end).end) (refusal (token_at s g.end))) g).bad ≡ 0 → Follows s g (cond b (cond d (got 0 (token_at s g.end).start (token_at s g.end).end) (refusal (token_at s g.end))) g)
    by false e d c z = absurd (eqb-false _ _ e z)
    by true e false c z = absurd (refusal-bad _ z)
    by true e true c z =
        let t = token-here s g.end (c refl) in
        record { fine = eqb-true _ _ e; low = t.low; some = t.some; high = t.high }

pub want-follows : (t : Token) {s : List ℕ} {g : Got} → ltb (code_of t) 36 ≡ true → (want t s g).bad ≡ 0 → Follows s g (want t s g)
unfolding want
want-follows t {s} {g} k z = allow-follows (is t (token_at s g.end)) s g (λ q. omega (arith, eqb-true (code_at s g.end) (code_of t) q, ltb-true (code_of t) 36 k)) z

pub any-follows : {s : List ℕ} {g : Got} → (want_any s g).bad ≡ 0 → Follows s g (want_any s g)
unfolding want_any
any-follows {s} {g} z = allow-follows (ltb (code_at s g.end) 36) s g (λ q. ltb-true (code_at s g.end) 36 q) z

pub word-follows : (word : List ℕ) {s : List ℕ} {g : Got} → (want_word word s g).bad ≡ 0 → Follows s g (want_word word s g)
unfolding want_word
word-follows word {s} {g} z = by (eqb (want T.Name s g).bad 0) refl (spells s (want T.Name s g).start (want T.Name s g).end word) z
  where
    by : (b : Bool) → eqb (want T.Name s g).bad 0 ≡ b → (d : Bool) → (cond b (cond d (want T.Name s g) (got 3 (want T.Name s g).start (want T.Name s g).start)) (want T.Name s g)).bad ≡ 0 → Follows s g (cond b (cond d (want T.Name s g) (got 3 (want T.Name s g).start (want T.Name s g).start)) (want T.Name s g))
    by true e true z = want-follows T.Name refl z
    by true e false z = absurd (omega (arith, z))
    by false e d z = want-follows T.Name refl z

pub either-follows : {s : List ℕ} {g a b : Got} → (a.bad ≡ 0 → Follows s g a) → (b.bad ≡ 0 → Follows s g b) → (either a b).bad ≡ 0 → Follows s g (either a b)
either-follows {s} {g} {a} {b} p q z = by (eqb a.bad 0) z
  where
    by : (t : Bool) → (cond t a b).bad ≡ 0 → Follows s g (cond t a b)
    by true z = p z
    by false z = q z

pub from-kept : (s : List ℕ) (at : ℕ) → at ≤ length s → Kept s at (from at)
from-kept s at h = record { on = λ e. omega arith; out = λ n. absurd (n refl) }

cond-kept : {s : List ℕ} {at : ℕ} {x y : Got} (b : Bool) → Kept s at x → Kept s at y → Kept s at (cond b x y)
cond-kept true p q = p
cond-kept false p q = q

refused-kept : (s : List ℕ) (at number offset : ℕ) → Refused at (length s) number offset → Kept s at (got number offset offset)
refused-kept s at number offset r = record { on = λ e. absurd (omega (arith, e)); out = λ n. r }

refusal-refused : (s : List ℕ) (at : ℕ) (l : Lexed) → at ≤ l.start → l.start ≤ length s → Kept s at (refusal l)
unfolding refusal
refusal-refused s at l h k = refused-kept s at _ _ (by (is T.Bad l))
  where
    by : (b : Bool) → Refused at (length s) (cond b 2 3) l.start
    by true = record { two = omega arith; three = omega arith; least = h; most = k }
    by false = record { two = omega arith; three = omega arith; least = h; most = k }

pub refusal-kept : (s : List ℕ) {at : ℕ} {g : Got} → g.bad ≡ 0 → Kept s at g → Kept s at (refusal (token_at s g.end))
refusal-kept s {at} {g} e f =
    let o = f.on e in
    let t = token-in s g.end o.1 in
    refusal-refused s at _ (omega (arith, o.0, t.low)) (omega (arith, t.up, t.high))

allow-kept : (allowed : Bool) (s : List ℕ) (at : ℕ) (g : Got) → Kept s at g → Kept s at (allow allowed (token_at s g.end) g)
allow-kept allowed s at g f = by (eqb g.bad 0) refl
  where
    by : (b : Bool) → eqb g.bad 0 ≡ b → Kept s at (cond b (cond allowed (got 0 (token_at s g.end).start (token_at s g.end).end) (refusal (token_at s g.end))) g)
    by false e = f
    by true e =
        let z = eqb-true g.bad 0 e in
        let o = f.on z in
        let t = token-in s g.end o.1 in
        cond-kept allowed (record { on = λ q. (omega (arith, o.0, t.low, t.up), t.high); out = λ n. absurd (n refl) }) (refusal-kept s z f)

pub want_kept : (t : Token) {s : List ℕ} {at : ℕ} {g : Got} → Kept s at g → Kept s at (want t s g)
unfolding want
want_kept t {s} {at} {g} f = allow-kept (is t (token_at s g.end)) s at g f

pub any-kept : {s : List ℕ} {at : ℕ} {g : Got} → Kept s at g → Kept s at (want_any s g)
unfolding want_any
any-kept {s} {at} {g} f = allow-kept (ltb (code_at s g.end) 36) s at g f

pub word_kept : (word : List ℕ) {s : List ℕ} {at : ℕ} {g : Got} → Kept s at g → Kept s at (want_word word s g)
unfolding want_word
word_kept word {s} {at} {g} f = by (eqb (want T.Name s g).bad 0) refl
  where
    name : Kept s at (want T.Name s g)
    name = want_kept T.Name f

    by : (b : Bool) → eqb (want T.Name s g).bad 0 ≡ b → Kept s at (cond b (cond (spells s (want T.Name s g).start (want T.Name s g).end word) (want T.Name s g) (got 3 (want T.Name s g).start (want T.Name s g).start)) (want T.Name s g))
    by false e = name
    by true e =
        let w = want-follows T.Name {s = s} {g = g} refl (eqb-true _ _ e) in
        let o = f.on w.fine in
        cond-kept (spells s (want T.Name s g).start (want T.Name s g).end word) name (refused-kept s at _ _ (record { two = omega arith; three = omega arith; least = omega (arith, o.0, w.low); most = omega (arith, w.some, w.high) }))

pub either-kept : {s : List ℕ} {at : ℕ} {a b : Got} → Kept s at a → Kept s at b → Kept s at (either a b)
either-kept {s} {at} {a} {b} p q = cond-kept (eqb a.bad 0) p q
