-- How the parts of a file join to the whole, and what a reading says of the bytes.
use Rattle.std.specs.Prelude.{ℕ}
use Rattle.std.proofs.Common.{sym, ◌∙◌}
use Rattle.std.proofs.Math.Path.{◌≡◌, refl, ap}
use mathlib.Core.List.{List}
use Rattle.codec.specs.Readings.{Reading, got, no, and_then}
use Rattle.codec.specs.Codecs.{Codec}
use Rattle.codec.specs.Sequences.{dep, dep_get}
use Rattle.fields.specs.Taking.{taken, Takes}

-- ---- a part behind three

abbrev two : {A B : Type 0} → A → B → A × B
two a b = (a, b)

module _ {A B C D S : Type 0} (a : Codec A) (b : Codec B) (c : Codec C) {d : Codec D} {f : A × (B × C) → S → S} {g : D → S → S} {p q r : Reading S} where
  pub takes-behind : Takes (dep a (λ x. B × C) (λ x. dep b (λ y. C) (λ y. c))) f p q → Takes d g q r
      → Takes (dep a (λ x. B × (C × D)) (λ x. dep b (λ y. C × D) (λ y. dep c (λ z. D) (λ z. d)))) (λ x l. g x.1.1.1 (f (x.0, (x.1.0, x.1.1.0)) l)) p r
  unfolding taken dep dep_get
  takes-behind t u = record { is = sym (go p) ∙ ap (taken d g) t.is ∙ u.is }
    where
      store : A × (B × (C × D)) → S → S
      store x l = g x.1.1.1 (f (x.0, (x.1.0, x.1.1.0)) l)

      last : S → List ℕ → Reading S
      last l bs = and_then (d.get bs) (λ w rest. got (g w l) rest)

      in-fourth : (x : A) (y : B) (z : C) (l : S) (m : Reading D)
          → and_then m (λ w rest. got (g w (f (x, (y, z)) l)) rest)
          ≡ and_then (and_then (and_then (and_then m (λ w rest. got (two z w) rest)) (λ w rest. got (two y w) rest)) (λ w rest. got (two x w) rest)) (λ w rest. got (store w l) rest)
      in-fourth x y z l (got w rest) = refl
      in-fourth x y z l (no n) = refl

      in-third : (x : A) (y : B) (l : S) (m : Reading C)
          → and_then (and_then (and_then (and_then m (λ z rest. got (two y z) rest)) (λ w rest. got (two x w) rest)) (λ w rest. got (f w l) rest)) last
          ≡ and_then (and_then (and_then (and_then m (λ z bs. and_then (d.get bs) (λ w rest. got (two z w) rest))) (λ w rest. got (two y w) rest)) (λ w rest. got (two x w) rest)) (λ w rest. got (store w l) rest)
      in-third x y l (got z rest) = in-fourth x y z l (d.get rest)
      in-third x y l (no n) = refl

      in-second : (x : A) (l : S) (m : Reading B)
          → and_then (and_then (and_then (and_then m (λ y bs. and_then (c.get bs) (λ z rest. got (two y z) rest))) (λ w rest. got (two x w) rest)) (λ w rest. got (f w l) rest)) last
          ≡ and_then (and_then (and_then m (λ y bs. and_then (and_then (c.get bs) (λ z bs. and_then (d.get bs) (λ w rest. got (two z w) rest))) (λ w rest. got (two y w) rest))) (λ w rest. got (two x w) rest)) (λ w rest. got (store w l) rest)
      in-second x l (got y rest) = in-third x y l (c.get rest)
      in-second x l (no n) = refl

      in-first : (l : S) (m : Reading A)
          → and_then (and_then (and_then m (λ x bs. and_then (and_then (b.get bs) (λ y bs. and_then (c.get bs) (λ z rest. got (two y z) rest))) (λ w rest. got (two x w) rest))) (λ w rest. got (f w l) rest)) last
          ≡ and_then (and_then m (λ x bs. and_then (and_then (b.get bs) (λ y bs. and_then (and_then (c.get bs) (λ z bs. and_then (d.get bs) (λ w rest. got (two z w) rest))) (λ w rest. got (two y w) rest))) (λ w rest. got (two x w) rest))) (λ w rest. got (store w l) rest)
      in-first l (got x rest) = in-second x l (b.get rest)
      in-first l (no n) = refl

      go : (m : Reading S) → taken d g (taken (dep a (λ x. B × C) (λ x. dep b (λ y. C) (λ y. c))) f m)
          ≡ taken (dep a (λ x. B × (C × D)) (λ x. dep b (λ y. C × D) (λ y. dep c (λ z. D) (λ z. d)))) store m
      go (got l bs) = in-first l (a.get bs)
      go (no n) = refl

-- ---- what a part that was taken says of the bytes

-- the part that was read, and the state with it
pub record Got {A S : Type 0} (c : Codec A) (store : A → S → S) (l : S) (bs rest : List ℕ) (l' : S) : Type 0 where
  pub part : A
  pub reads : c.get bs ≡ got part rest
  pub holds : l' ≡ store part l

module _ {A S : Type 0} {c : Codec A} {store : A → S → S} {l : S} {bs : List ℕ} where
  pub taken-got : {l' : S} {rest : List ℕ} → Takes c store (got l bs) (got l' rest) → Got c store l bs rest l'
  unfolding taken
  taken-got {l'} {rest} t = go (c.get bs) refl t.is
    where
      go : (m : Reading A) → c.get bs ≡ m → and_then m (λ a rest. got (store a l) rest) ≡ got l' rest → Got c store l bs rest l'
      go (got a left) e p =
          let q : left ≡ rest = cc in
          record { part = a; reads = e ∙ ap (λ (r : List ℕ). got a r) q; holds = cc }
      go (no n) e p = absurd cc

  pub taken-no : {e : ℕ} → Takes c store (got l bs) (no e) → c.get bs ≡ no e
  unfolding taken
  taken-no {e} t = go (c.get bs) refl t.is
    where
      go : (m : Reading A) → c.get bs ≡ m → and_then m (λ a rest. got (store a l) rest) ≡ no e → c.get bs ≡ no e
      go (got a rest) q p = absurd cc
      go (no n) q p = let s : n ≡ e = cc in q ∙ ap no s
