-- How readings go on, said once for every reader.
use Rattle.std.specs.Prelude.{ℕ, ◌≤◌, ◌≡◌, refl, List, length, drop, Result}
use Rattle.std.proofs.Common.{arith, sym, ap, ◌∙◌, length-drop}
use Rattle.std.specs.Result.{IsErrAnd}
use Rattle.std.proofs.lemmas.Result.{err_from_is_err_and}
use Rattle.codec.specs.Readings.{Reading, got, no, and_then}
use Rattle.codec.specs.Codecs.{Codec}
use Rattle.codec.specs.Sequences.{dep, dep_get}
use Rattle.codec.specs.Views.{shape}
use Rattle.codec.proofs.Views.{shape_on}
use Rattle.file.specs.declared.Refused.{Refused}
use Rattle.fields.specs.Outcomes.{outcome}
use Rattle.fields.specs.Taking.{taken, Takes}

-- ---- one part

-- a refusal stays
pub takes_out : {A S : Type 0} {c : Codec A} {store : A → S → S} {e : ℕ} → Takes c store (no e) (no e)
unfolding taken
takes_out = record { is = refl }

-- the part is refused
pub takes-no : {A S : Type 0} {c : Codec A} {store : A → S → S} {l : S} {bs : List ℕ} {e : ℕ} → c.get bs ≡ no e → Takes c store (got l bs) (no e)
unfolding taken
takes-no p = record { is = rw p refl }

-- the part is there
pub takes-got : {A S : Type 0} {c : Codec A} {store : A → S → S} {l k : S} {bs rest : List ℕ} {a : A} → c.get bs ≡ got a rest → k ≡ store a l → Takes c store (got l bs) (got k rest)
unfolding taken
takes-got {rest = rest} p e = record { is = rw p (ap (λ x. got x rest) (sym e)) }

-- what is read is settled where there is no refusal: no second state fits, and no other bytes are left
pub one_rest : {A S : Type 0} {c : Codec A} {store : A → S → S} {p : Reading S} {rest rest' : List ℕ} {l l' : S} → Takes c store p (got l rest) → Takes c store p (got l' rest') → (rest ≡ rest') × (l ≡ l')
one_rest {rest = rest} {rest'} {l} {l'} t u = let e : got l rest ≡ got l' rest' = sym t.is ∙ u.is in (cc, cc)

-- nor is a second place of the file the next one, at the end of its bytes too
pub one_place : {A S : Type 0} (s : List ℕ) {c : Codec A} {store : A → S → S} {p : Reading S} {next next' : ℕ} {l l' : S} → next ≤ length s → next' ≤ length s
    → Takes c store p (got l (drop next s)) → Takes c store p (got l' (drop next' s)) → (next ≡ next') × (l ≡ l')
one_place s {next = next} {next'} i j t u =
    let (d, e) = one_rest t u in
    let m : length (drop next s) ≡ length (drop next' s) = ap (λ (r : List ℕ). length r) d in
    (omega (arith, length-drop next s, length-drop next' s), e)

-- the same part, put in under another name
pub takes-as : {A S : Type 0} {c : Codec A} {f g : A → S → S} {p q : Reading S} → ((a : A) (l : S) → f a l ≡ g a l) → Takes c f p q → Takes c g p q
unfolding taken
takes-as {A} {S} {c} {f} {g} {p} e t = record { is = go p ∙ t.is }
  where
    in-part : (l : S) (r : Reading A) → and_then r (λ a rest. got (g a l) rest) ≡ and_then r (λ a rest. got (f a l) rest)
    in-part l (got a rest) = ap (λ (x : S). got x rest) (sym (e a l))
    in-part l (no n) = refl

    go : (m : Reading S) → taken c g m ≡ taken c f m
    go (got l bs) = in-part l (c.get bs)
    go (no n) = refl

-- a reading with its state changed
abbrev pub changed : {X S : Type 0} → (X → S) → Reading X → Reading S
changed f m = and_then m (λ x rest. got (f x) rest)

pub changed-got : {A B : Type 0} (f : A → B) (m : Reading A) {b : B} {r : List ℕ} → changed f m ≡ got b r → (a : A) × (m ≡ got a r) × (f a ≡ b)
changed-got f (got a rest) {b} {r} e = let p : rest ≡ r = cc in (a, ap (λ (l : List ℕ). got a l) p, cc)
changed-got f (no n) e = absurd cc

pub changed-no : {A B : Type 0} (f : A → B) (m : Reading A) {e : ℕ} → changed f m ≡ no e → m ≡ no e
changed-no f (got a rest) e = absurd cc
changed-no f (no n) {e} p = let q : n ≡ e = cc in ap no q

-- what goes into a part of the state goes into the whole of it, where only what was read counts
module _ {A X S : Type 0} {c : Codec A} {part : A → X → X} {store : A → S → S} {bs : List ℕ} {x : X} {l : S} {q : Reading X} where
  pub takes-in-read : (f : X → S) → ((a : A) (rest : List ℕ) → c.get bs ≡ got a rest → store a l ≡ f (part a x)) → Takes c part (got x bs) q → Takes c store (got l bs) (changed f q)
  unfolding taken
  takes-in-read f same t = record { is = go (c.get bs) same ∙ ap (changed f) t.is }
    where
      go : (m : Reading A) → ((a : A) (rest : List ℕ) → m ≡ got a rest → store a l ≡ f (part a x))
          → and_then m (λ a rest. got (store a l) rest) ≡ changed f (and_then m (λ a rest. got (part a x) rest))
      go (got a rest) h = ap (λ (z : S). got z rest) (h a rest refl)
      go (no n) h = refl

  pub takes-in : (f : X → S) → ((a : A) → store a l ≡ f (part a x)) → Takes c part (got x bs) q → Takes c store (got l bs) (changed f q)
  takes-in f same t = takes-in-read f (λ a rest p. same a) t

-- the same part, put into another state, where only what was read counts
pub takes-from : {A S : Type 0} (c : Codec A) {part store : A → S → S} {bs : List ℕ} {x l : S} {q : Reading S} → ((a : A) (rest : List ℕ) → c.get bs ≡ got a rest → store a l ≡ part a x) → Takes c part (got x bs) q
    → Takes c store (got l bs) q
unfolding taken
takes-from {A} {S} c {part} {store} {bs} {x} {l} same t = record { is = go (c.get bs) same ∙ t.is }
  where
    go : (m : Reading A) → ((a : A) (rest : List ℕ) → m ≡ got a rest → store a l ≡ part a x) → and_then m (λ a rest. got (store a l) rest) ≡ and_then m (λ a rest. got (part a x) rest)
    go (got a rest) h = ap (λ (z : S). got z rest) (h a rest refl)
    go (no n) h = refl

-- into one part of the state, by how that part is read and written
pub takes-lens : {A X S : Type 0} {c : Codec A} {part : A → X → X} {bs : List ℕ} {l : S} {q : Reading X} (get : S → X) (put : X → S → S) → Takes c part (got (get l) bs) q
    → Takes c (λ a m. put (part a (get m)) m) (got l bs) (changed (λ z. put z l) q)
takes-lens {l = l} get put t = takes-in (λ z. put z l) (λ a. refl) t

-- where a part is refused, so is the whole
pub takes-exit : {A S X : Type 0} {c : Codec A} {store : A → S → S} {p : Reading S} {e : Refused} (view : X → S) (r : Result X Refused) (rest : List ℕ) → IsErrAnd r (λ y. y ≡ e)
    → Takes c store p (no e.number) → Takes c store p (outcome view r rest)
takes-exit view r rest h t = let (y, q, w) = err_from_is_err_and r h in rw (q, w) t

-- ---- one part behind another

abbrev joint : {A : Type 0} {P : A → Type 0} (a : A) → P a → (a : A) × P a
joint a b = (a, b)

module _ {A B S : Type 0} {c : Codec A} {d : Codec B} {f : A → S → S} {g : B → S → S} {p q r : Reading S} where
  pub takes-both : Takes c f p q → Takes d g q r → Takes (dep c (λ a. B) (λ a. d)) (λ x l. g x.1 (f x.0 l)) p r
  unfolding taken dep dep_get
  takes-both t u = record { is = go p ∙ ap (taken d g) t.is ∙ u.is }
    where
      in-second : (a : A) (l : S) (r : Reading B)
          → and_then (and_then r (λ b rest. got (joint {P = λ a. B} a b) rest)) (λ x rest. got (g x.1 (f x.0 l)) rest) ≡ and_then r (λ b rest. got (g b (f a l)) rest)
      in-second a l (got b rest) = refl
      in-second a l (no n) = refl

      in-first : (l : S) (r : Reading A)
          → and_then (and_then r (λ a bs. and_then (d.get bs) (λ b rest. got (joint {P = λ a. B} a b) rest))) (λ x rest. got (g x.1 (f x.0 l)) rest)
          ≡ and_then (and_then r (λ a rest. got (f a l) rest)) (λ l bs. and_then (d.get bs) (λ b rest. got (g b l) rest))
      in-first l (got a rest) = in-second a l (d.get rest)
      in-first l (no n) = refl

      go : (m : Reading S) → taken (dep c (λ a. B) (λ a. d)) (λ x l. g x.1 (f x.0 l)) m ≡ taken d g (taken c f m)
      go (got l bs) = in-first l (c.get bs)
      go (no n) = refl

-- the second part is what the first says
module _ {A S : Type 0} (c : Codec A) (P : A → Type 0) (d : (a : A) → Codec (P a)) {store : (a : A) × P a → S → S} {l : S} {bs : List ℕ} where
  pub takes-by : {rest : List ℕ} {a : A} {q : Reading S} → c.get bs ≡ got a rest → Takes (d a) (λ b. store (a, b)) (got l rest) q → Takes (dep c P d) store (got l bs) q
  unfolding taken dep dep_get
  takes-by {rest} {a} p t = record { is = rw p (go ((d a).get rest)) ∙ t.is }
    where
      go : (m : Reading (P a)) → and_then (and_then m (λ b rest. got (joint {P = P} a b) rest)) (λ x rest. got (store x l) rest) ≡ and_then m (λ b rest. got (store (a, b) l) rest)
      go (got b rest) = refl
      go (no n) = refl

-- ---- a part under another shape

module _ {A B S : Type 0} (c : Codec A) (to : B → A) (from : A → B) {store : B → S → S} {p q : Reading S} where
  pub takes-shape : Takes c (λ a. store (from a)) p q → Takes (shape c to from) store p q
  unfolding taken
  takes-shape t = record { is = go p ∙ t.is }
    where
      in-part : (l : S) (r : Reading A) → and_then (and_then r (λ a rest. got (from a) rest)) (λ b rest. got (store b l) rest) ≡ and_then r (λ a rest. got (store (from a) l) rest)
      in-part l (got a rest) = refl
      in-part l (no n) = refl

      go : (m : Reading S) → taken (shape c to from) store m ≡ taken c (λ a. store (from a)) m
      go (got l bs) = ap (λ (r : Reading B). and_then r (λ b rest. got (store b l) rest)) (shape_on c to from bs) ∙ in-part l (c.get bs)
      go (no n) = refl
