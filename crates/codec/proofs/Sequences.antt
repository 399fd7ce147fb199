-- One part after another is lawful where both parts are; how it is read, and its bounds.
use Rattle.std.proofs.Math.Path.{◌≡◌, refl, sym, ap, subst}
use Rattle.std.proofs.Common.{◌∙◌, arith}
use mathlib.Core.List.{List, ◌++◌, append_assoc}
use Rattle.std.specs.Prelude.{true, ◌&&◌, ℕ, ◌+◌}
use Rattle.std.proofs.Math.ListN.{length-append}
use Rattle.codec.specs.Readings.{got, no, and_then}
use Rattle.codec.specs.Codecs.{Codec, Bytes, Lawful, Bounded}
use Rattle.codec.specs.Sequences.{dep, dep_put, dep_get, dep_ok}
use Rattle.codec.proofs.Readings.{got_same, and_then-got, and_then-no}
use Rattle.codec.proofs.Codecs.{bytes-both, bytes-behind, and_left, and_right, and_both}

module _ {A : Type 0} (c : Codec A) (P : A → Type 0) (d : (a : A) → Codec (P a)) where
  module _ (f : Lawful c) (g : (a : A) → Lawful (d a)) where
    pub dep-there : (x : (a : A) × P a) (r : List ℕ) → dep_ok c P d x ≡ true → dep_get c P d (dep_put c P d x ++ r) ≡ got x r
    unfolding dep_put dep_ok dep_get
    dep-there x r h =
        rw (append_assoc, f.there x.0 ((d x.0).put x.1 ++ r) (and_left _ _ h), (g x.0).there x.1 r (and_right (c.ok x.0) _ h)) refl

    pub dep-whole : (x : (a : A) × P a) → dep_ok c P d x ≡ true → Bytes (dep_put c P d x)
    unfolding dep_put dep_ok
    dep-whole x h = bytes-both (f.whole x.0 (and_left _ _ h)) ((g x.0).whole x.1 (and_right (c.ok x.0) _ h))

    pub dep-back : (bs : List ℕ) (x : (a : A) × P a) (r : List ℕ) → Bytes bs → dep_get c P d bs ≡ got x r → (bs ≡ dep_put c P d x ++ r) × (dep_ok c P d x ≡ true)
    unfolding dep_put dep_ok dep_get
    dep-back bs x r h e =
        let (a, s, p, q) = and_then-got (c.get bs) _ e in
        let (b, t, u, v) = and_then-got ((d a).get s) _ q in
        let (i, j) = got_same v in
        let m = f.back bs a s h p in
        let n = (g a).back s b t (bytes-behind (c.put a) s (subst Bytes m.0 h)) u in
        subst (λ (y : (a : A) × P a). (bs ≡ (c.put y.0 ++ (d y.0).put y.1) ++ r) × ((c.ok y.0 && (d y.0).ok y.1) ≡ true)) i (
          m.0 ∙ ap (λ (l : List ℕ). c.put a ++ l) (n.0 ∙ ap (λ (l : List ℕ). (d a).put b ++ l) j) ∙ sym (append_assoc (c.put a) ((d a).put b) r),
          and_both m.1 n.1,
        )

    pub dep-lawful : Lawful (dep c P d)
    unfolding dep
    dep-lawful = record { there = dep-there; whole = dep-whole; back = dep-back }

  -- ---- how it is read

  pub dep-no : {bs : List ℕ} {e : ℕ} → c.get bs ≡ no e → (dep c P d).get bs ≡ no e
  unfolding dep dep_get
  dep-no p = rw p refl

  pub dep-on : {bs r : List ℕ} {a : A} → c.get bs ≡ got a r → (dep c P d).get bs ≡ and_then ((d a).get r) (λ b s. got (a, b) s)
  unfolding dep dep_get
  dep-on p = rw p refl

  pub dep-out : {bs r : List ℕ} {a : A} {e : ℕ} → c.get bs ≡ got a r → (d a).get r ≡ no e → (dep c P d).get bs ≡ no e
  unfolding dep dep_get
  dep-out p q = rw (p, q) refl

  pub dep-got : {bs r s : List ℕ} {a : A} {b : P a} → c.get bs ≡ got a r → (d a).get r ≡ got b s → (dep c P d).get bs ≡ got (a, b) s
  unfolding dep dep_get
  dep-got p q = rw (p, q) refl

  -- ---- what can stand there, and its bounds

  pub dep-ok : (a : A) (b : P a) → (dep c P d).ok (a, b) ≡ true → (c.ok a ≡ true) × ((d a).ok b ≡ true)
  unfolding dep dep_ok
  dep-ok a b h = (and_left _ _ h, and_right (c.ok a) _ h)

  pub dep-bounded : {Q : ℕ → Type 0} {m n : ℕ} → Bounded Q m c → ((a : A) → Bounded Q n (d a)) → Bounded Q (m + n) (dep c P d)
  unfolding dep dep_put dep_get dep_ok
  dep-bounded {Q} {m} {n} f g =
      record {
        room = λ x h.
            let p = f.room x.0 (and_left _ _ h) in
            let q = (g x.0).room x.1 (and_right (c.ok x.0) _ h) in
            simp length-append (omega arith);
        number = λ bs.
            and_then-no Q (c.get bs) _ (f.number bs)
            (λ a r. and_then-no Q ((d a).get r) _ ((g a).number r) (λ b s e p. absurd (let z : ◌≡◌ {A = ℕ} 0 1 = cc in omega arith)));
      }
