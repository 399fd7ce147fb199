-- Laws of reading: what was got in the end was got step by step, and so was a refusal.
use Rattle.std.specs.Prelude.{◌≡◌, refl, List, ℕ}
use Rattle.std.proofs.Common.{ap, subst, arith}
use Rattle.std.proofs.Math.Option.{Option, none, some}
use Rattle.codec.specs.Readings.{Reading, got, no, and_then, or_no}

pub got_same : {A : Type 0} {a b : A} {r s : List ℕ} → got a r ≡ got b s → (a ≡ b) × (r ≡ s)
got_same e = (cc, cc)

-- two changes of what was got are one
pub and_then-as : {A B C : Type 0} (f : A → B) (g : B → C) (m : Reading A)
    → and_then (and_then m (λ a r. got (f a) r)) (λ b r. got (g b) r) ≡ and_then m (λ a r. got (g (f a)) r)
and_then-as f g (got a r) = refl
and_then-as f g (no e) = refl

-- what was got in the end was got step by step
pub and_then-got : {A B : Type 0} (m : Reading A) (go : A → List ℕ → Reading B) {b : B} {r : List ℕ}
    → and_then m go ≡ got b r → (a : A) × (s : List ℕ) × (m ≡ got a s) × (go a s ≡ got b r)
and_then-got (got a s) go e = (a, s, refl, e)
and_then-got (no n) go e = absurd (let z : ◌≡◌ {A = ℕ} 0 1 = cc in omega arith)

-- a refusal in the end is one of the first step or of the second
pub and_then-no : {A B : Type 0} (P : ℕ → Type 0) (m : Reading A) (go : A → List ℕ → Reading B)
    → ((e : ℕ) → m ≡ no e → P e) → ((a : A) (r : List ℕ) (e : ℕ) → go a r ≡ no e → P e) → (e : ℕ) → and_then m go ≡ no e → P e
and_then-no P (got a r) go f g e p = g a r e p
and_then-no P (no n) go f g e p = let q : n ≡ e = cc in f e (ap no q)

pub or_no-no : {A : Type 0} (P : ℕ → Type 0) (n : ℕ) (o : Option A) (r : List ℕ) → P n → (e : ℕ) → or_no n o r ≡ no e → P e
or_no-no P n none r h e p = let q : n ≡ e = cc in subst P q h
or_no-no P n (some a) r h e p = absurd (let z : ◌≡◌ {A = ℕ} 0 1 = cc in omega arith)

pub or_no-got : {A : Type 0} (e : ℕ) (o : Option A) (s : List ℕ) {a : A} {r : List ℕ} → or_no e o s ≡ got a r → (o ≡ some a) × (s ≡ r)
or_no-got e none s p = absurd (let z : ◌≡◌ {A = ℕ} 0 1 = cc in omega arith)
or_no-got e (some b) s p = (cc, cc)
