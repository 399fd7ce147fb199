-- Bytes put into a buffer from a place on: what its end cuts off is lost, and the place behind never passes it.
use Rattle.std.specs.Prelude.{ℕ, zero, suc, ◌+◌, ◌-◌, ◌≤◌, min, ◌≡◌, refl, List, [], ◌∷◌, ◌++◌, Bool, true, false, leb, length, set, take, drop}
use Rattle.std.proofs.Common.{arith, add-one, sym, ap, ◌∙◌, append_assoc, length-append, length-set, leb-true, leb-false}
use Rattle.std.proofs.Math.Seq.{set_out, take-nil}
use Rattle.std.proofs.lemmas.List.Edits.{sets-eq}
use Rattle.layout.specs.Filling.{stored, stored-none, stored-then, stored-both, length-stored}

-- the place behind n bytes that are put at a place of a buffer of this length
abbrev pub behind : ℕ → ℕ → ℕ → ℕ
behind room at n = at + min n (room - at)

-- some bytes are put at a place: the buffer then, and the place behind them
pub record Puts (before : List ℕ) (at : ℕ) (bytes after : List ℕ) (next : ℕ) : Type 0 where
  pub is : after ≡ stored before at bytes
  pub goes : next ≡ behind (length before) at (length bytes)

-- n parts by their numbers, one behind the other
unfoldable pub parts : (ℕ → List ℕ) → ℕ → List ℕ
parts part zero = []
parts part (suc n) = parts part n ++ part n

-- ---- laws

stored-out : (l : List ℕ) (at : ℕ) (bytes : List ℕ) → length l ≤ at → stored l at bytes ≡ l
stored-out l at [] h = stored-none l at
stored-out l at (x ∷ bytes) h = stored-then l at x bytes ∙ ap (λ (m : List ℕ). stored m (at + 1) bytes) (set_out l at x h) ∙ stored-out l (at + 1) bytes (omega arith)

-- cells that fit, put in from a place on
pub stored-fits : (l : List ℕ) (at : ℕ) (cells : List ℕ) → at + length cells ≤ length l → stored l at cells ≡ take at l ++ (cells ++ drop (at + length cells) l)
unfolding stored
stored-fits l at cells h = sets-eq cells l at h ∙ append_assoc (take at l) cells (drop (at + length cells) l)

-- what the end cuts off is lost
pub stored_cut : (l : List ℕ) (at : ℕ) (bytes : List ℕ) → stored l at bytes ≡ stored l at (take (length l - at) bytes)
stored_cut l at [] = ap (stored l at) (sym (take-nil (length l - at)))
stored_cut l at (x ∷ bytes) = go (leb (length l) at) refl (stored_cut (set l at x) (at + 1) bytes)
  where
    go : (t : Bool) → leb (length l) at ≡ t → stored (set l at x) (at + 1) bytes ≡ stored (set l at x) (at + 1) (take (length (set l at x) - (at + 1)) bytes)
        → stored l at (x ∷ bytes) ≡ stored l at (take (length l - at) (x ∷ bytes))
    go true p f =
        let q = leb-true (length l) at p in
        let none : length l - at ≡ 0 = omega (arith, q) in
        stored-out l at (x ∷ bytes) q ∙ sym (ap (λ (n : ℕ). stored l at (take n (x ∷ bytes))) none ∙ stored-none l at)
    go false p f =
        let q = leb-false (length l) at p in
        let more : length l - at ≡ suc (length (set l at x) - (at + 1)) = omega (arith, q, length-set l at x) in
        stored-then l at x bytes ∙ f ∙ sym (ap (λ (n : ℕ). stored l at (take n (x ∷ bytes))) more ∙ stored-then l at x _)

pub puts_none : {l : List ℕ} {at : ℕ} → Puts l at [] l at
puts_none {l} {at} = record { is = sym (stored-none l at); goes = omega arith }

pub puts-out : {l : List ℕ} {at : ℕ} (bytes : List ℕ) → length l ≤ at → Puts l at bytes l at
puts-out {l} {at} bytes h = record { is = sym (stored-out l at bytes h); goes = omega arith }

pub puts-length : {l m bytes : List ℕ} {at next : ℕ} → Puts l at bytes m next → length m ≡ length l
puts-length {l} {m} {bytes} {at} p = ap length p.is ∙ length-stored l at bytes

-- one behind the other
stored_on : (l a b : List ℕ) (i j : ℕ) → j ≡ behind (length l) i (length a) → stored (stored l i a) j b ≡ stored l i (a ++ b)
stored_on l a b i j e = go (leb (i + length a) (length l)) refl ∙ sym (stored-both l i a b)
  where
    go : (t : Bool) → leb (i + length a) (length l) ≡ t → stored (stored l i a) j b ≡ stored (stored l i a) (i + length a) b
    go true p = let q = leb-true (i + length a) (length l) p in ap (λ (k : ℕ). stored (stored l i a) k b) (omega (arith, e, q))
    go false p =
        let q = leb-false (i + length a) (length l) p in
        let size = length-stored l i a in
        stored-out (stored l i a) j b (omega (arith, e, q, size)) ∙ sym (stored-out (stored l i a) (i + length a) b (omega (arith, q, size)))

pub puts-both : {l m n a b : List ℕ} {i j k : ℕ} → Puts l i a m j → Puts m j b n k → Puts l i (a ++ b) n k
puts-both {l} {m} {n} {a} {b} {i} {j} {k} p q =
    let e = puts-length p in
    let s = length-append a b in
    record {
      is = q.is ∙ ap (λ (x : List ℕ). stored x j b) p.is ∙ stored_on l a b i j p.goes;
      goes = omega arith;
    }

-- the next of some parts
pub puts-more : {l m n : List ℕ} {i j o k next : ℕ} (part : ℕ → List ℕ) → Puts l i (parts part k) m j → Puts m j (part k) n o → next ≡ k + 1 → Puts l i (parts part next) n o
unfolding parts
puts-more {k = k} part p q e = rw (e, add-one) (puts-both p q)

pub puts-begin : {l : List ℕ} {at : ℕ} (part : ℕ → List ℕ) → Puts l at (parts part 0) l at
unfolding parts
puts-begin part = puts_none
