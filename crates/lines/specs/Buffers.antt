-- What a buffer holds when numbers are put at a place of it, and the place behind them.
use Rattle.std.specs.Prelude.{ℕ, ◌+◌, ◌≤◌, ◌<◌, min, max, ◌≡◌, refl, List, [], ◌∷◌, ◌++◌, Bool, true, false, length, set, leb}
use Rattle.std.proofs.Common.{sym, ◌∙◌, append-nil, arith, length-set, length-append, leb-true, leb-false}
use Rattle.std.proofs.Math.Seq.{set_out}

-- one number behind the other from a place on; what is behind the buffer's end is lost
unfoldable pub written : List ℕ → ℕ → List ℕ → List ℕ
written out at [] = out
written out at (x ∷ xs) = written (set out at x) (at + 1) xs

-- the place behind what was put: no further than the end of so much room
unfoldable pub behind : ℕ → ℕ → List ℕ → ℕ
behind room at xs = max at (min room (at + length xs))

pub written_none : (out : List ℕ) (at : ℕ) → written out at [] ≡ out
unfolding written
written_none out at = refl

pub written_on : (out : List ℕ) (at x : ℕ) (xs : List ℕ) → written out at (x ∷ xs) ≡ written (set out at x) (at + 1) xs
unfolding written
written_on out at x xs = refl

pub written-length : (xs out : List ℕ) (at : ℕ) → length (written out at xs) ≡ length out
unfolding written
written-length [] out at = refl
written-length (x ∷ xs) out at = written-length xs (set out at x) (at + 1) ∙ length-set out at x

-- past the end nothing is written
pub written_over : (xs out : List ℕ) (at : ℕ) → length out ≤ at → written out at xs ≡ out
unfolding written
written_over [] out at h = refl
written_over (x ∷ xs) out at h = rw (set_out out at x h) (written_over xs out (at + 1) (omega arith))

-- xs and then ys is xs ++ ys
pub written_then : (xs ys out : List ℕ) (at : ℕ) → written out at (xs ++ ys) ≡ written (written out at xs) (at + length xs) ys
unfolding written
written_then [] ys out at = let e : at + 0 ≡ at = omega arith in rw e
written_then (x ∷ xs) ys out at =
    let e : at + length (x ∷ xs) ≡ at + 1 + length xs = omega arith in
    rw e (written_then xs ys (set out at x) (at + 1))

-- xs is what was put into a buffer at a place, and the answer is the place behind it
pub record Said (out : List ℕ) (at : ℕ) (xs then : List ℕ) (next : ℕ) : Type 0 where
  pub held : then ≡ written out at xs
  pub place : next ≡ behind (length out) at xs

-- putting ys is all that is left of putting xs
pub record Still (out : List ℕ) (at : ℕ) (xs then : List ℕ) (next : ℕ) (ys : List ℕ) : Type 0 where
  pub held : written out at xs ≡ written then next ys
  pub place : behind (length out) at xs ≡ behind (length then) next ys
  pub long : length then ≡ length out

-- ---- how they go on

-- the place where the code goes on serves as well as the one behind all of xs
pub written_behind : (xs ys out : List ℕ) (at : ℕ) → written (written out at xs) (behind (length out) at xs) ys ≡ written out at (xs ++ ys)
unfolding behind
written_behind xs ys out at = go (leb (at + length xs) (length out)) refl
  where
    go : (t : Bool) → leb (at + length xs) (length out) ≡ t → written (written out at xs) (behind (length out) at xs) ys ≡ written out at (xs ++ ys)
    go true e =
        let l : at + length xs ≤ length out = leb-true _ _ e in
        let p : max at (min (length out) (at + length xs)) ≡ at + length xs = omega arith in
        rw p (sym (written_then xs ys out at))
    go false e =
        let l : length out < at + length xs = leb-false _ _ e in
        let n : length (written out at xs) ≡ length out = written-length xs out at in
        written_over ys (written out at xs) _ (omega arith) ∙ sym (written_over ys (written out at xs) (at + length xs) (omega arith)) ∙ sym (written_then xs ys out at)

pub behind-then : (room at : ℕ) (xs ys : List ℕ) → behind room (behind room at xs) ys ≡ behind room at (xs ++ ys)
unfolding behind
behind-then room at xs ys = rw (length-append xs ys) (omega arith)

pub behind-none : (room at : ℕ) → behind room at [] ≡ at
unfolding behind
behind-none room at = omega arith

pub said-none : (out : List ℕ) (at : ℕ) → Said out at [] out at
said-none out at = record { held = sym (written_none out at); place = sym (behind-none (length out) at) }

pub said-one : (out : List ℕ) (at x : ℕ) → at < length out → Said out at (x ∷ []) (set out at x) (at + 1)
unfolding behind
said-one out at x h = record { held = sym (written_on out at x [] ∙ written_none (set out at x) (at + 1)); place = omega arith }

pub said-lost : (out : List ℕ) (at x : ℕ) → length out ≤ at → Said out at (x ∷ []) out at
unfolding behind
said-lost out at x h = record { held = sym (written_over (x ∷ []) out at h); place = omega arith }

module _ {out : List ℕ} {at : ℕ} {xs : List ℕ} where
  pub still-begins : Still out at xs out at xs
  still-begins = record { held = refl; place = refl; long = refl }

  pub still-ends : {then : List ℕ} {next : ℕ} → Still out at xs then next [] → Said out at xs then next
  still-ends {then} {next} s =
      record { held = sym (s.held ∙ written_none then next); place = sym (s.place ∙ behind-none (length then) next) }

  pub still-on : {then after ys : List ℕ} {next last : ℕ} (zs : List ℕ) → Still out at xs then next (ys ++ zs) → Said then next ys after last → Still out at xs after last zs
  still-on {then} {after} {ys} {next} {last} zs s d =
      let n : length after ≡ length then = rw d.held (written-length ys then next) in
      record {
        held = s.held ∙ sym (written_behind ys zs then next) ∙ rw (← d.held, ← d.place);
        place = s.place ∙ sym (behind-then (length then) next ys zs) ∙ rw (← d.place, n);
        long = n ∙ s.long;
      }

pub said-then : {out then after xs ys : List ℕ} {at next last : ℕ} → Said out at xs then next → Said then next ys after last → Said out at (xs ++ ys) after last
said-then {xs} {ys} a b =
    still-ends (still-on [] (rw append-nil (still-on ys still-begins a)) b)
