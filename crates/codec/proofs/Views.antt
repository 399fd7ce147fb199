-- A view is lawful where the part that it stands as is, and the ways between them undo each other; so is a test, and another shape. How each is read, and its bounds.
use Rattle.std.proofs.Math.Path.{◌≡◌, refl, ap₂}
use Rattle.std.proofs.Common.{sym, ap, ◌∙◌, arith}
use mathlib.Core.List.{List, ◌++◌}
use Rattle.std.specs.Prelude.{Bool, true, false, ℕ}
use Rattle.std.proofs.Math.Option.{Option, some}
use Rattle.codec.specs.Readings.{got, no, and_then}
use Rattle.codec.specs.Codecs.{Codec, Bytes, Lawful, Bounded}
use Rattle.codec.specs.Views.{view_put, view_get, view_ok, view, when_true, check, shape}
use Rattle.codec.proofs.Readings.{and_then-got, and_then-no, or_no-got, or_no-no}
use Rattle.codec.proofs.Codecs.{and_left, and_right, and_both}

-- ---- B stands as A; where what stands is no B, the refusal is e

module _ {A B : Type 0} (c : Codec A) (e : ℕ) (to : B → A) (from : A → Option B) (fit : B → Bool) where
  module _ (f : Lawful c) (sees : (b : B) → fit b ≡ true → from (to b) ≡ some b)
      (same : (a : A) (b : B) → c.ok a ≡ true → from a ≡ some b → (to b ≡ a) × (fit b ≡ true)) where
    pub view-there : (b : B) (r : List ℕ) → view_ok c to fit b ≡ true → view_get c e from (view_put c to b ++ r) ≡ got b r
    unfolding view_put view_ok view_get
    view-there b r h = rw (f.there (to b) r (and_right (fit b) _ h), sees b (and_left _ _ h)) refl

    pub view-whole : (b : B) → view_ok c to fit b ≡ true → Bytes (view_put c to b)
    unfolding view_put view_ok
    view-whole b h = f.whole (to b) (and_right (fit b) _ h)

    pub view-back : (bs : List ℕ) (b : B) (r : List ℕ) → Bytes bs → view_get c e from bs ≡ got b r → (bs ≡ view_put c to b ++ r) × (view_ok c to fit b ≡ true)
    unfolding view_put view_ok view_get
    view-back bs b r h p =
        let (a, s, q, u) = and_then-got (c.get bs) _ p in
        let v = or_no-got e (from a) s u in
        let m = f.back bs a s h q in
        let w = same a b m.1 v.0 in
        (m.0 ∙ ap₂ (λ (x : A) (l : List ℕ). c.put x ++ l) (sym w.0) v.1, and_both w.1 (ap (λ (x : A). c.ok x) w.0 ∙ m.1))

    pub view-lawful : Lawful (view c e to from fit)
    unfolding view
    view-lawful = record { there = view-there; whole = view-whole; back = view-back }

  pub view-bounded : {P : ℕ → Type 0} {n : ℕ} → P e → Bounded P n c → Bounded P n (view c e to from fit)
  unfolding view view_put view_get view_ok
  view-bounded {P} h f =
      record {
        room = λ b g. f.room (to b) (and_right (fit b) _ g);
        number = λ bs. and_then-no P (c.get bs) _ (f.number bs) (λ a r. or_no-no P e (from a) r h);
      }

-- ---- a part that must pass a test, or the refusal is e

pub when_true-some : {A : Type 0} (t : Bool) {a b : A} → when_true t a ≡ some b → (b ≡ a) × (t ≡ true)
when_true-some true e = (cc, refl)
when_true-some false e = absurd (let z : ◌≡◌ {A = ℕ} 0 1 = cc in omega arith)

module _ {A : Type 0} (c : Codec A) (e : ℕ) (test : A → Bool) where
  pub check-same : (a b : A) → c.ok a ≡ true → when_true (test a) a ≡ some b → (b ≡ a) × (test b ≡ true)
  check-same a b h p = let m = when_true-some (test a) p in (m.0, ap test m.0 ∙ m.1)

  pub check-lawful : Lawful c → Lawful (check c e test)
  unfolding check
  check-lawful f = view-lawful c e (λ a. a) (λ a. when_true (test a) a) test f (λ a h. rw h) check-same

  pub check-no : {bs : List ℕ} {n : ℕ} → c.get bs ≡ no n → (check c e test).get bs ≡ no n
  unfolding check view_get
  check-no p = rw p refl

  pub check-fails : {bs r : List ℕ} {a : A} → c.get bs ≡ got a r → test a ≡ false → (check c e test).get bs ≡ no e
  unfolding check view_get
  check-fails p q = rw (p, q) refl

  pub check-got : {bs r : List ℕ} {a : A} → c.get bs ≡ got a r → test a ≡ true → (check c e test).get bs ≡ got a r
  unfolding check view_get
  check-got p q = rw (p, q) refl

  pub check-ok : (a : A) → (check c e test).ok a ≡ true → (test a ≡ true) × (c.ok a ≡ true)
  unfolding check view_ok
  check-ok a h = (and_left _ _ h, and_right (test a) _ h)

  pub check-bounded : {P : ℕ → Type 0} {n : ℕ} → P e → Bounded P n c → Bounded P n (check c e test)
  unfolding check
  check-bounded h f = view-bounded c e _ _ test h f

-- ---- the same under another shape, as a record for a tuple; the way back and forth need hold only for what can stand in a file

module _ {A B : Type 0} (c : Codec A) (to : B → A) (from : A → B) where
  module _ (one : (b : B) → from (to b) ≡ b) (two : (a : A) → c.ok a ≡ true → to (from a) ≡ a) where
    pub shape-sees : (b : B) → true ≡ true → some (from (to b)) ≡ some b
    shape-sees b h = ap some (one b)

    pub shape_same : (a : A) (b : B) → c.ok a ≡ true → some (from a) ≡ some b → (to b ≡ a) × (true ≡ true)
    shape_same a b h p = let q : from a ≡ b = cc in (sym (ap to q) ∙ two a h, refl)

    pub shape-lawful : Lawful c → Lawful (shape c to from)
    unfolding shape
    shape-lawful f = view-lawful c 0 to (λ a. some (from a)) (λ b. true) f shape-sees shape_same

  pub shape_on : (bs : List ℕ) → (shape c to from).get bs ≡ and_then (c.get bs) (λ a r. got (from a) r)
  unfolding shape view_get
  shape_on bs = refl

  pub shape-no : {bs : List ℕ} {n : ℕ} → c.get bs ≡ no n → (shape c to from).get bs ≡ no n
  unfolding shape view_get
  shape-no p = rw p refl

  pub shape-got : {bs r : List ℕ} {a : A} → c.get bs ≡ got a r → (shape c to from).get bs ≡ got (from a) r
  unfolding shape view_get
  shape-got p = rw p refl

  pub shape-ok : (b : B) → (shape c to from).ok b ≡ true → c.ok (to b) ≡ true
  unfolding shape view_ok
  shape-ok b h = h

  pub shape-bounded : {P : ℕ → Type 0} {n : ℕ} → Bounded P n c → Bounded P n (shape c to from)
  unfolding shape view_put view_get view_ok
  shape-bounded {P} f =
      record {
        room = λ b g. f.room (to b) g;
        number = λ bs. and_then-no P (c.get bs) _ (f.number bs) (λ a r e p. absurd (let z : ◌≡◌ {A = ℕ} 0 1 = cc in omega arith));
      }
