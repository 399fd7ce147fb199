-- Parts of one kind are lawful where each is, and their count; how they are read, and their bounds.
use Rattle.std.proofs.Math.Path.{◌≡◌, refl}
use Rattle.std.proofs.Common.{sym, ap, ◌∙◌, subst, arith, suc-mul}
use mathlib.Core.List.{List, [], ◌∷◌, ◌++◌, append_assoc}
use Rattle.std.specs.Prelude.{true, ℕ, zero, suc, ◌+◌, ◌*◌, ◌≤◌, eqb}
use Rattle.std.proofs.Math.Nat.{mul-le-mul_right}
use Rattle.std.proofs.Math.ListN.{length, length-append}
use borrow.Author.Tests.{eqb-true, eq-eqb}
use Rattle.codec.specs.Readings.{Reading, got, no, and_then}
use Rattle.codec.specs.Codecs.{Codec, Bytes, Lawful, Bounded}
use Rattle.codec.specs.Sequences.{dep, dep_put, dep_get, dep_ok}
use Rattle.codec.specs.Views.{view_put, view_get, view_ok}
use Rattle.codec.specs.Lists.{run_put, run_get, run_ok, run, running, many_get, many_ok, many, list}
use Rattle.codec.proofs.Readings.{got_same, and_then-got, and_then-no}
use Rattle.codec.proofs.Codecs.{no_bytes, bytes-both, bytes-behind, and_left, and_right, and_both}
use Rattle.codec.proofs.Sequences.{dep-lawful}
use Rattle.codec.proofs.Views.{shape-lawful}

abbrev paired : {A : Type 0} → ℕ → A → ℕ × A
paired n a = (n, a)

-- ---- n parts; s is what stood before the first, and `on` adds a part to it

module _ {A S : Type 0} (c : S → Codec A) (on : S → A → S) where
  module _ (f : (s : S) → Lawful (c s)) where
    pub run-there : (n : ℕ) (s : S) (xs : List A) (r : List ℕ) → length xs ≡ n → run_ok c on s xs ≡ true → run_get c on n s (run_put c on s xs ++ r) ≡ got xs r
    run-there zero s [] r l h = refl
    run-there zero s (a ∷ xs) r l h = absurd (omega arith)
    run-there (suc n) s [] r l h = absurd (omega arith)
    run-there (suc n) s (a ∷ xs) r l h =
        rw (append_assoc, (f s).there a (run_put c on (on s a) xs ++ r) (and_left _ _ h), run-there n (on s a) xs r (omega arith) (and_right ((c s).ok a) _ h)) refl

    pub run-whole : (s : S) (xs : List A) → run_ok c on s xs ≡ true → Bytes (run_put c on s xs)
    run-whole s [] h = no_bytes
    run-whole s (a ∷ xs) h = bytes-both ((f s).whole a (and_left _ _ h)) (run-whole (on s a) xs (and_right ((c s).ok a) _ h))

    pub run-back : (n : ℕ) (s : S) (bs : List ℕ) (xs : List A) (r : List ℕ) → Bytes bs → run_get c on n s bs ≡ got xs r
        → (bs ≡ run_put c on s xs ++ r) × (length xs ≡ n) × (run_ok c on s xs ≡ true)
    run-back zero s bs xs r h e =
        let (i, j) = got_same e in
        subst (λ (y : List A). (bs ≡ run_put c on s y ++ r) × (length y ≡ 0) × (run_ok c on s y ≡ true)) i (j, refl, refl)
    run-back (suc n) s bs xs r h e =
        let (a, t, p, q) = and_then-got ((c s).get bs) _ e in
        let (b, v, u, w) = and_then-got (run_get c on n (on s a) t) _ q in
        let (i, j) = got_same w in
        let m = (f s).back bs a t h p in
        let k = run-back n (on s a) t b v (bytes-behind ((c s).put a) t (subst Bytes m.0 h)) u in
        subst (λ (y : List A). (bs ≡ run_put c on s y ++ r) × (length y ≡ suc n) × (run_ok c on s y ≡ true)) i (
          m.0 ∙ ap (λ (l : List ℕ). (c s).put a ++ l) (k.0 ∙ ap (λ (l : List ℕ). run_put c on (on s a) b ++ l) j) ∙ sym (append_assoc ((c s).put a) (run_put c on (on s a) b) r),
          ap suc k.1,
          and_both m.1 k.2,
        )

    pub run-lawful : (s : S) (n : ℕ) → Lawful (run c on s n)
    unfolding run
    run-lawful s n =
        record {
          there = λ xs r h. run-there n s xs r (eqb-true _ _ (and_left _ _ h)) (and_right (eqb (length xs) n) _ h);
          whole = λ xs h. run-whole s xs (and_right (eqb (length xs) n) _ h);
          back = λ bs xs r h e. let m = run-back n s bs xs r h e in (m.0, and_both (eq-eqb _ _ m.1) m.2);
        }

  -- what is read as n parts is n parts
  pub run_length : (n : ℕ) (s : S) (bs : List ℕ) {xs : List A} {r : List ℕ} → run_get c on n s bs ≡ got xs r → length xs ≡ n
  run_length zero s bs {xs} e = let q : [] ≡ xs = cc in ap length (sym q)
  run_length (suc n) s bs {xs} e =
      let (a, t, p, q) = and_then-got ((c s).get bs) _ e in
      let (b, v, u, w) = and_then-got (run_get c on n (on s a) t) _ q in
      let i : (a ∷ b) ≡ xs = cc in
      ap length (sym i) ∙ ap suc (run_length n (on s a) t u)

  run_put-room : {P : ℕ → Type 0} {m : ℕ} → ((s : S) → Bounded P m (c s)) → (s : S) (xs : List A) → run_ok c on s xs ≡ true → length (run_put c on s xs) ≤ length xs * m
  run_put-room f s [] h = omega arith
  run_put-room {P} {m} f s (a ∷ xs) h =
      let p = (f s).room a (and_left _ _ h) in
      let q = run_put-room f (on s a) xs (and_right ((c s).ok a) _ h) in
      simp length-append (omega (arith, suc-mul (length xs) m))

  run_get-refuses : {P : ℕ → Type 0} {m : ℕ} → ((s : S) → Bounded P m (c s)) → (n : ℕ) (s : S) (bs : List ℕ) (e : ℕ) → run_get c on n s bs ≡ no e → P e
  run_get-refuses f zero s bs e p = absurd (let z : ◌≡◌ {A = ℕ} 0 1 = cc in omega arith)
  run_get-refuses {P} f (suc n) s bs e p =
      and_then-no P ((c s).get bs) _ ((f s).number bs)
      (λ a r. and_then-no P (run_get c on n (on s a) r) _ (run_get-refuses f n (on s a) r) (λ xs t k q. absurd (let z : ◌≡◌ {A = ℕ} 0 1 = cc in omega arith))) e p

  -- ---- a count, and as many parts

  module _ (count : Codec ℕ) (s : S) where
    pub running-two : (x : (n : ℕ) × List A) → (dep count (λ n. List A) (run c on s)).ok x ≡ true → ◌≡◌ {A = (n : ℕ) × List A} (length x.1, x.1) x
    unfolding dep dep_ok run
    running-two x h =
        let l = eqb-true (length x.1) x.0 (and_left _ _ (and_right (count.ok x.0) _ h)) in
        λ i. (l i, x.1)

    pub running-lawful : Lawful count → ((s : S) → Lawful (c s)) → Lawful (running c on count s)
    unfolding running
    running-lawful f g = shape-lawful (dep count (λ n. List A) (run c on s)) (λ xs. (length xs, xs)) (λ x. x.1) (λ xs. refl) running-two (dep-lawful _ _ _ f (run-lawful g s))

    pub running-no : {bs : List ℕ} {e : ℕ} → count.get bs ≡ no e → (running c on count s).get bs ≡ no e
    unfolding running view_get dep_get
    running-no p = rw p refl

    pub running-on : {bs r : List ℕ} {n : ℕ} → count.get bs ≡ got n r → (running c on count s).get bs ≡ run_get c on n s r
    unfolding running view_get dep_get
    running-on {bs} {r} {n} p = rw p (go (run_get c on n s r))
      where
        go : (m : Reading (List A)) → and_then (and_then m (λ xs t. got (paired n xs) t)) (λ x t. got x.1 t) ≡ m
        go (got xs t) = refl
        go (no e) = refl

    pub running-ok : (xs : List A) → (running c on count s).ok xs ≡ true → (count.ok (length xs) ≡ true) × (run_ok c on s xs ≡ true)
    unfolding running view_ok dep_ok
    running-ok xs h = (and_left _ _ h, and_right (eqb (length xs) (length xs)) _ (and_right (count.ok (length xs)) _ h))

    pub running-bounded : {P : ℕ → Type 0} {k m : ℕ} (most : ℕ) → Bounded P k count → ((n : ℕ) → count.ok n ≡ true → n ≤ most) → ((s : S) → Bounded P m (c s))
        → Bounded P (k + most * m) (running c on count s)
    unfolding running view_put view_get dep_put dep_get
    running-bounded {P} {k} {m} most f g w =
        record {
          room = λ xs h.
              let (p, q) = running-ok xs h in
              let i = f.room (length xs) p in
              let j = run_put-room w s xs q in
              let l : length xs * m ≤ most * m = mul-le-mul_right m (g (length xs) p) in
              simp length-append (omega arith);
          number = λ bs.
              and_then-no P (dep_get count (λ n. List A) (run c on s) bs) _
              (and_then-no P (count.get bs) _ (f.number bs)
              (λ n r. and_then-no P (run_get c on n s r) _ (run_get-refuses w n s r) (λ xs t e p. absurd (let z : ◌≡◌ {A = ℕ} 0 1 = cc in omega arith))))
              (λ x r e p. absurd (let z : ◌≡◌ {A = ℕ} 0 1 = cc in omega arith));
        }

-- ---- parts that stand alone: nothing is kept of what stood before

module _ {A : Type 0} (c : Codec A) where
  pub many-lawful : Lawful c → (n : ℕ) → Lawful (many c n)
  unfolding many
  many-lawful f n = run-lawful {S = Unit {0}} (λ s. c) (λ s a. s) (λ s. f) tt n

  pub many-length : (n : ℕ) (bs : List ℕ) {xs : List A} {r : List ℕ} → many_get c n bs ≡ got xs r → length xs ≡ n
  many-length n bs e = run_length {S = Unit {0}} (λ s. c) (λ s a. s) n tt bs e

-- a count, and as many parts
module _ {A : Type 0} (count : Codec ℕ) (c : Codec A) where
  pub list-lawful : Lawful count → Lawful c → Lawful (list count c)
  unfolding list
  list-lawful f g = running-lawful {S = Unit {0}} (λ s. c) (λ s a. s) count tt f (λ s. g)

  pub list-no : {bs : List ℕ} {e : ℕ} → count.get bs ≡ no e → (list count c).get bs ≡ no e
  unfolding list
  list-no p = running-no {S = Unit {0}} (λ s. c) (λ s a. s) count tt p

  pub list_on : {bs r : List ℕ} {n : ℕ} → count.get bs ≡ got n r → (list count c).get bs ≡ many_get c n r
  unfolding list
  list_on p = running-on {S = Unit {0}} (λ s. c) (λ s a. s) count tt p

  pub list-ok : (xs : List A) → (list count c).ok xs ≡ true → (count.ok (length xs) ≡ true) × (many_ok c xs ≡ true)
  unfolding list
  list-ok xs h = running-ok {S = Unit {0}} (λ s. c) (λ s a. s) count tt xs h

  pub list-bounded : {P : ℕ → Type 0} {k m : ℕ} (most : ℕ) → Bounded P k count → ((n : ℕ) → count.ok n ≡ true → n ≤ most) → Bounded P m c → Bounded P (k + most * m) (list count c)
  unfolding list
  list-bounded most f g w = running-bounded {S = Unit {0}} (λ s. c) (λ s a. s) count tt most f g (λ s. w)
