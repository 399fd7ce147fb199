-- Laws of bytes, bounds and tests, of which every codec's laws are made.
use Rattle.std.specs.Prelude.{◌≡◌, refl, List, [], ◌∷◌, ◌++◌, Bool, true, false, ◌&&◌, ℕ, zero, suc, ◌+◌, ◌≤◌, ◌<◌, length, get_or}
use Rattle.std.proofs.Common.{subst, arith, get_or-append-add}
use Rattle.codec.specs.Codecs.{Codec, Bytes, Bounded}

pub bounded-up : {A : Type 0} {P : ℕ → Type 0} {m n : ℕ} {c : Codec A} → m ≤ n → Bounded P m c → Bounded P n c
bounded-up l f = record { room = λ a h. let p = f.room a h in omega arith; number = f.number }

bytes-joined : (p r : List ℕ) → ((i : ℕ) → get_or p i 0 < 256) → ((i : ℕ) → get_or r i 0 < 256) → (i : ℕ) → get_or (p ++ r) i 0 < 256
bytes-joined [] r h g i = g i
bytes-joined (b ∷ p) r h g zero = h 0
bytes-joined (b ∷ p) r h g (suc i) = bytes-joined p r (λ j. h (suc j)) g i

pub no_bytes : Bytes []
no_bytes = record { below = λ i. omega arith }

pub bytes-both : {p r : List ℕ} → Bytes p → Bytes r → Bytes (p ++ r)
bytes-both {p} {r} h g = record { below = bytes-joined p r h.below g.below }

pub bytes-behind : (p r : List ℕ) → Bytes (p ++ r) → Bytes r
bytes-behind p r h = record { below = λ i. subst (λ (x : ℕ). x < 256) (get_or-append-add p r i 0) (h.below (length p + i)) }

pub and_left : (a b : Bool) → (a && b) ≡ true → a ≡ true
and_left true b e = refl
and_left false b e = e

pub and_right : (a b : Bool) → (a && b) ≡ true → b ≡ true
and_right true b e = e
and_right false b e = absurd (let z : ◌≡◌ {A = ℕ} 0 1 = cc in omega arith)

pub and_both : {a b : Bool} → a ≡ true → b ≡ true → (a && b) ≡ true
and_both p q = rw (p, q)
