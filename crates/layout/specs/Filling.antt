-- Arrays that are filled record by record: the laws by which they come to hold the layout.
use Rattle.std.specs.Prelude.{ℕ, zero, suc, ◌+◌, ◌-◌, ◌*◌, ◌≤◌, ◌<◌, ◌≡◌, refl, true, set, take, drop}
use Rattle.std.proofs.Common.{add-zero, add-suc, suc-add, suc-mul, zero-mul, arith, ◌∙◌, take_at}
use Rattle.std.proofs.Math.Numerals.{add-one, towards_suc}
use Rattle.std.proofs.Math.Path.{sym, ap, ap₂, subst}
use mathlib.Core.List.{List, [], ◌∷◌, ◌++◌, append-nil, append_assoc}
use Rattle.std.proofs.Math.ListN.{length, length-append}
use Rattle.std.proofs.lemmas.List.{length-replicate, replicate-append-replicate}
use Rattle.std.proofs.lemmas.List.Edits.{sets, sets-eq}
use Rattle.std.proofs.Math.Seq.{length-sets, drop-append-add, append_snoc}
use Rattle.codec.specs.Codecs.{Codec}
use Rattle.codec.proofs.Codecs.{and_left, and_right}
use Rattle.codec.specs.Lists.{run_ok}
use Rattle.model.specs.Modules.{each}
use Rattle.layout.specs.Rows.{zeros, padded, rows}

-- cells put one after the other from a place on
unfoldable pub stored : List ℕ → ℕ → List ℕ → List ℕ
stored l at cells = sets l at cells

-- the records of a list put in one after the other, the first as number k
unfoldable pub fill : {A S : Type 0} → (ℕ → A → S → S) → ℕ → List A → S → S
fill store k [] l = l
fill store k (x ∷ xs) l = fill store (k + 1) xs (store k x l)

-- ---- one cell after another

pub stored-none : (l : List ℕ) (at : ℕ) → stored l at [] ≡ l
unfolding stored
stored-none l at = refl

pub stored_one : (l : List ℕ) (at cell : ℕ) → stored l at (cell ∷ []) ≡ set l at cell
unfolding stored
stored_one l at cell = refl

sets-both : (l : List ℕ) (at : ℕ) (a b : List ℕ) → sets l at (a ++ b) ≡ sets (sets l at a) (at + length a) b
sets-both l at [] b = ap (λ (k : ℕ). sets l k b) (sym (add-zero at))
sets-both l at (x ∷ a) b =
    sets-both (set l at x) (suc at) a b ∙ ap (λ (k : ℕ). sets (sets (set l at x) (suc at) a) k b) (suc-add at (length a) ∙ sym (add-suc at (length a)))

pub stored-both : (l : List ℕ) (at : ℕ) (a b : List ℕ) → stored l at (a ++ b) ≡ stored (stored l at a) (at + length a) b
unfolding stored
stored-both l at a b = sets-both l at a b

pub stored-then : (l : List ℕ) (at cell : ℕ) (cells : List ℕ) → stored l at (cell ∷ cells) ≡ stored (set l at cell) (at + 1) cells
unfolding stored
stored-then l at cell cells = simp towards_suc

pub stored_more : (l : List ℕ) (at cell : ℕ) (cells : List ℕ) → set (stored l at cells) (at + length cells) cell ≡ stored l at (cells ++ (cell ∷ []))
stored_more l at cell cells = sym (stored-both l at cells (cell ∷ []) ∙ stored_one (stored l at cells) (at + length cells) cell)

pub length-stored : (l : List ℕ) (at : ℕ) (cells : List ℕ) → length (stored l at cells) ≡ length l
unfolding stored
length-stored l at cells = length-sets l at cells

-- ---- zeros and padding

pub length-zeros : (n : ℕ) → length (zeros n) ≡ n
unfolding zeros
length-zeros n = length-replicate n 0

pub zeros-both : (m n : ℕ) → zeros m ++ zeros n ≡ zeros (m + n)
unfolding zeros
zeros-both m n = replicate-append-replicate m n 0

drop-zeros : (k n : ℕ) → drop k (zeros n) ≡ zeros (n - k)
unfolding zeros
drop-zeros zero n = let e : n ≡ n - 0 = omega arith in ap zeros e
drop-zeros (suc k) zero = let e : 0 ≡ 0 - suc k = omega arith in ap zeros e
drop-zeros (suc k) (suc n) = let e : n - k ≡ suc n - suc k = omega arith in drop-zeros k n ∙ ap zeros e

pub length-padded : (room : ℕ) (list : List ℕ) → length list ≤ room → length (padded room list) ≡ room
unfolding padded
length-padded room list h = simp (length-append, length-zeros) (omega arith)

-- what is not used is zeros
pub padded-none : (room : ℕ) → zeros room ≡ padded room []
unfolding padded
padded-none room = ap zeros (omega arith)

-- zeros behind a list are its padding
pub padded-zeros : (room : ℕ) (list : List ℕ) (n : ℕ) → length list + n ≤ room → padded room (list ++ zeros n) ≡ padded room list
unfolding padded
padded-zeros room list n h =
    append_assoc list (zeros n) _
    ∙ ap (λ (l : List ℕ). list ++ l) (zeros-both n _ ∙ ap zeros (simp (length-append, length-zeros) (omega arith)))

pub padded-more : (room at : ℕ) (list cells : List ℕ) → at ≡ length list → length list + length cells ≤ room
    → stored (padded room list) at cells ≡ padded room (list ++ cells)
unfolding padded stored
padded-more room at list cells e h =
    let z = zeros (room - length list) in
    let l : length (list ++ z) ≡ room = simp (length-append, length-zeros) (omega arith) in
    let p : take at (list ++ z) ≡ list = take_at list z at (sym e) in
    let q : drop (at + length cells) (list ++ z) ≡ zeros (room - length (list ++ cells)) =
    ap (λ (k : ℕ). drop (k + length cells) (list ++ z)) e
    ∙ drop-append-add list z (length cells) ∙ drop-zeros (length cells) _ ∙ ap zeros (simp length-append (omega arith)) in
    sets-eq cells (list ++ z) at (omega arith) ∙ ap₂ (λ (a b : List ℕ). a ++ cells ++ b) p q

pub padded-behind : (room : ℕ) (front list : List ℕ) → front ++ padded room list ≡ (front ++ list) ++ zeros (room - length list)
unfolding padded
padded-behind room front list = sym (append_assoc front list (zeros (room - length list)))

-- ---- rows

pub length-row : (width : ℕ) (cells : List ℕ) → length cells ≤ width → length (padded width cells) ≡ width
length-row width cells h = length-padded width cells h

pub each_both : {A B : Type 0} (f : A → List B) (xs ys : List A) → each f (xs ++ ys) ≡ each f xs ++ each f ys
each_both f [] ys = refl
each_both f (x ∷ xs) ys = ap (λ l. f x ++ l) (each_both f xs ys) ∙ sym (append_assoc (f x) (each f xs) (each f ys))

-- an array whose first rows are those of some records
pub record Rowed {A : Type 0} (width size : ℕ) (cells : A → List ℕ) (done : List A) (l : List ℕ) : Type 0 where
  pub is : l ≡ rows width size cells done
  pub used : length (each (λ x. padded width (cells x)) done) ≡ length done * width

module _ {A : Type 0} (width size : ℕ) (cells : A → List ℕ) where
  pub rowed-none : Rowed width size cells [] (zeros size)
  unfolding rows
  rowed-none = record { is = padded-none size; used = sym (zero-mul width) }

  pub rowed-more : {done : List A} {l : List ℕ} (at : ℕ) (x : A) → at ≡ length done * width → length (cells x) ≤ width → at + width ≤ size
      → Rowed width size cells done l → Rowed width size cells (done ++ (x ∷ [])) (stored l at (cells x))
  unfolding rows
  rowed-more {done} {l} at x e h r g =
      let old = each (λ y. padded width (cells y)) done in
      let u : length old ≡ length done * width = g.used in
      let s : each (λ y. padded width (cells y)) (done ++ (x ∷ [])) ≡ old ++ padded width (cells x) =
      each_both (λ y. padded width (cells y)) done (x ∷ []) ∙ ap (λ (m : List ℕ). old ++ m) (append-nil (padded width (cells x))) in
      let p : padded size (old ++ padded width (cells x)) ≡ padded size (old ++ cells x) =
      ap (padded size) (padded-behind width old (cells x))
      ∙ padded-zeros size (old ++ cells x) (width - length (cells x)) (simp length-append (omega arith)) in
      record {
        is =
            ap (λ (m : List ℕ). stored m at (cells x)) g.is ∙ padded-more size at old (cells x) (e ∙ sym u) (omega arith) ∙ sym p ∙ ap (padded size) (sym s);
        used =
            ap length s ∙ length-append old (padded width (cells x)) ∙ ap₂ (λ (a b : ℕ). a + b) u (length-padded width (cells x) h)
            ∙ simp (length-append, add-one, suc-mul) refl;
      }

-- ---- any state that a list of parts is put into

pub record Some {U : Type 0} (P : U → Type 0) : Type 0 where
  pub one : U
  pub holds : P one

module _ {A S U : Type 0} (c : U → Codec A) (on : U → A → U) (store : ℕ → A → S → S) (I : U → List A → S → Type 0) (room : ℕ)
    (next : (u : U) (done : List A) (x : A) (s : S) → I u done s → (c u).ok x ≡ true → length done < room → I (on u x) (done ++ (x ∷ [])) (store (length done) x s)) where
  -- what holds before the first part and is kept by each holds behind the last
  pub filled : (u : U) (done xs : List A) (s : S) → I u done s → run_ok c on u xs ≡ true → length done + length xs ≤ room → Some (λ v. I v (done ++ xs) (fill store (length done) xs s))
  unfolding fill
  filled u done [] s i h r = record { one = u; holds = rw append-nil i }
  filled u done (x ∷ xs) s i h r =
      let j = next u done x s i (and_left _ _ h) (omega arith) in
      let l : length (done ++ (x ∷ [])) ≡ length done + 1 = length-append done (x ∷ []) in
      let t = store (length done) x s in
      let k = filled (on u x) (done ++ (x ∷ [])) xs t j (and_right ((c u).ok x) _ h) (omega arith) in
      subst (λ (n : ℕ). Some (λ v. I v (done ++ (x ∷ xs)) (fill store n xs t))) l
      (subst (λ (d : List A). Some (λ v. I v d (fill store (length (done ++ (x ∷ []))) xs t))) (append_snoc done x xs) k)
