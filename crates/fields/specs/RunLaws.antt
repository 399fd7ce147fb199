-- How readings go on over a list of parts, and by a tag: said once for every loop and every tag.
use Prim.Native.Nat.{ℕ, zero, suc, ◌+◌, ◌-◌, ◌≤◌, ◌<◌}
use native.Mathlib.Omega.{arith}
use Rattle.std.specs.Prelude.{◌≡◌, List, ◌∷◌, length, Result}
use Rattle.std.specs.Result.{IsErrAnd}
use Rattle.std.proofs.lemmas.Result.{err_from_is_err_and}
use Rattle.std.proofs.Math.Path.{refl, sym, ap}
use Rattle.std.proofs.Common.{◌∙◌}
use Rattle.codec.specs.Readings.{Reading, got, no, and_then}
use Rattle.codec.specs.Codecs.{Codec}
use Rattle.codec.specs.Lists.{run_get, running, list}
use Rattle.codec.proofs.Lists.{running-no, running-on, run_length}
use Rattle.layout.specs.Filling.{fill}
use Rattle.file.specs.declared.Refused.{Refused}
use Rattle.fields.specs.Outcomes.{outcome}
use Rattle.fields.specs.Taking.{taken, Takes, ahead, Left, Runs, counted}
use Rattle.fields.specs.TakingLaws.{changed, takes-no, takes-in-read}

-- ---- a loop that reads n parts into a state

module _ {A S U : Type 0} {c : U → Codec A} {with : U → A → U} {used : S → U} {store : ℕ → A → S → S} where
  pub left-begin : {n : ℕ} {p : Reading S} → Left c with used store n 0 p p
  left-begin = record { is = refl }

  pub left-more : {n k : ℕ} {bs : List ℕ} {l : S} {p r : Reading S} → ((a : A) → used (store k a l) ≡ with (used l) a) → k < n → Left c with used store n k p (got l bs)
      → Takes (c (used l)) (store k) (got l bs) r → Left c with used store n (k + 1) p r
  unfolding ahead taken fill
  left-more {n} {k} {bs} {l} {p} {r} keep h w t =
      let j : n - k ≡ suc (n - (k + 1)) = omega arith in
      record { is = w.is ∙ ap (λ (m : ℕ). ahead-by m (got l bs)) j ∙ in-part ((c (used l)).get bs) ∙ ap (ahead c with used store n (k + 1)) t.is }
    where
      ahead-by : ℕ → Reading S → Reading S
      ahead-by m x = and_then x (λ l bs. and_then (run_get c with m (used l) bs) (λ xs rest. got (fill store k xs l) rest))

      in_rest : (a : A) (x : Reading (List A))
          → and_then (and_then x (λ xs rest. got (a ∷ xs) rest)) (λ xs rest. got (fill store k xs l) rest) ≡ and_then x (λ xs rest. got (fill store (k + 1) xs (store k a l)) rest)
      in_rest a (got xs rest) = refl
      in_rest a (no e) = refl

      in-part : (x : Reading A)
          → and_then (and_then x (λ a rest. and_then (run_get c with (n - (k + 1)) (with (used l) a) rest) (λ xs rest. got (a ∷ xs) rest))) (λ xs rest. got (fill store k xs l) rest)
          ≡ ahead c with used store n (k + 1) (and_then x (λ a rest. got (store k a l) rest))
      in-part (got a rest) = rw (keep a) (in_rest a (run_get c with (n - (k + 1)) (with (used l) a) rest))
      in-part (no e) = refl

  pub left_end : {n k : ℕ} {p q : Reading S} → n ≤ k → Left c with used store n k p q → Runs c with used store n p q
  unfolding ahead fill
  left_end {n} {k} {p} {q} h w =
      let j : n - k ≡ 0 = omega arith in
      record { is = w.is ∙ ap (λ (m : ℕ). and_then q (λ l bs. and_then (run_get c with m (used l) bs) (λ xs rest. got (fill store k xs l) rest))) j ∙ go q }
    where
      go : (x : Reading S) → and_then x (λ l bs. got l bs) ≡ x
      go (got l bs) = refl
      go (no e) = refl

  -- a part is refused
  pub left_out : {n k e : ℕ} {bs : List ℕ} {l : S} {p : Reading S} → ((a : A) → used (store k a l) ≡ with (used l) a) → k < n → Left c with used store n k p (got l bs)
      → Takes (c (used l)) (store k) (got l bs) (no e) → Runs c with used store n p (no e)
  unfolding ahead
  left_out keep h w t = record { is = (left-more keep h w t).is }

  -- where a part is refused, so is the whole
  pub runs-exit : {X : Type 0} {n : ℕ} {p : Reading S} {e : Refused} (view : X → S) (r : Result X Refused) (rest : List ℕ) → IsErrAnd r (λ y. y ≡ e) → Runs c with used store n p (no e.number)
      → Runs c with used store n p (outcome view r rest)
  runs-exit view r rest h w = let (y, q, z) = err_from_is_err_and r h in rw (q, z) w

-- parts that stand alone: nothing is kept of what stood before
abbrev pub LeftMany : {A S : Type 0} → Codec A → (ℕ → A → S → S) → ℕ → ℕ → Reading S → Reading S → Type 0
LeftMany c store n k p q = Left {U = Unit {0}} (λ u. c) (λ u a. u) (λ l. tt) store n k p q

abbrev pub RunsMany : {A S : Type 0} → Codec A → (ℕ → A → S → S) → ℕ → Reading S → Reading S → Type 0
RunsMany c store n p q = Runs {U = Unit {0}} (λ u. c) (λ u a. u) (λ l. tt) store n p q

-- ---- a count, and as many parts

module _ {A S U : Type 0} {c : U → Codec A} {with : U → A → U} {used : S → U} {store : ℕ → A → S → S} (count : Codec ℕ) (u : U) {bs rest : List ℕ} {n : ℕ} {l : S} {q : Reading S} where
  pub takes-running : used l ≡ u → count.get bs ≡ got n rest → Runs c with used store n (got l rest) q → Takes (running c with count u) (fill store 0) (got l bs) q
  unfolding taken ahead
  takes-running same t w =
      let zero-less : n - 0 ≡ n = omega arith in
      record { is = rw (running-on c with count u t) (rw (← same) (rw zero-less at w.is)) }

module _ {A S U : Type 0} {c : U → Codec A} {with : U → A → U} {used : S → U} {store : ℕ → A → S → S} (count : Codec ℕ) (u : U) {bs rest : List ℕ} {n m : ℕ} {l : S} {q : Reading S} where
  -- the parts and their number
  pub takes-counted : used l ≡ u → count.get bs ≡ got n rest → Runs c with used store n (got l rest) q → Takes (running c with count u) (counted store) (got (m, l) bs) (changed (λ k. (n, k)) q)
  unfolding counted
  takes-counted same t w =
      takes-in-read (λ k. (n, k)) (λ xs left p. ap (λ (i : ℕ). (i, fill store 0 xs l)) (run_length c with n u rest (sym (running-on c with count u t) ∙ p)))
      (takes-running count u same t w)

module _ {A S : Type 0} {c : Codec A} {store : ℕ → A → S → S} (count : Codec ℕ) {bs rest : List ℕ} {n : ℕ} {l : S} {q : Reading S} where
  pub takes-list : count.get bs ≡ got n rest → RunsMany c store n (got l rest) q → Takes (list count c) (fill store 0) (got l bs) q
  unfolding list
  takes-list t w = takes-running count tt refl t w

module _ {A S : Type 0} {c : Codec A} {store : ℕ → A → S → S} (count : Codec ℕ) {bs rest : List ℕ} {n m : ℕ} {l : S} {q : Reading S} where
  pub takes-counted-list : count.get bs ≡ got n rest → RunsMany c store n (got l rest) q → Takes (list count c) (counted store) (got (m, l) bs) (changed (λ k. (n, k)) q)
  unfolding list
  takes-counted-list t w = takes-counted count tt refl t w

pub list-length : {A : Type 0} (c : Codec A) (count : Codec ℕ) {bs rest left : List ℕ} {n : ℕ} {xs : List A} → count.get bs ≡ got n rest → (list count c).get bs ≡ got xs left → length xs ≡ n
unfolding list
list-length c count {rest = rest} {n = n} t p = run_length {S = Unit {0}} (λ u. c) (λ u a. u) n tt rest (sym (running-on {S = Unit {0}} (λ u. c) (λ u a. u) count tt t) ∙ p)

-- ---- a part by its first byte

-- what the tag says stands behind it
pub takes-tag : {A B S : Type 0} {c : Codec A} {store : A → S → S} {bs z : List ℕ} {l : S} (rest : Codec B) (of : B → A) {q : Reading S} → c.get bs ≡ and_then (rest.get z) (λ x y. got (of x) y)
    → Takes rest (λ x. store (of x)) (got l z) q → Takes c store (got l bs) q
unfolding taken
takes-tag {A} {B} {S} {c} {store} {bs} {z} {l} rest of law t = record { is = rw law (go (rest.get z)) ∙ t.is }
  where
    go : (x : Reading B) → and_then (and_then x (λ b z. got (of b) z)) (λ a z. got (store a l) z) ≡ and_then x (λ b z. got (store (of b) l) z)
    go (got b z) = refl
    go (no e) = refl
