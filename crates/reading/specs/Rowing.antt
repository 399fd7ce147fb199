-- Arrays of zeros that are filled record by record come to hold the layout's rows.
use Rattle.std.specs.Prelude.{ℕ, suc, ◌+◌, ◌*◌, ◌≤◌, ◌<◌, ◌≡◌, refl, Bool, true, false, cond, leb, List, [], ◌∷◌, ◌++◌, map, length, set}
use Rattle.std.proofs.Common.{mul-le-mul_right, suc-mul, arith, sym, ap, ◌∙◌, subst, append_assoc, length-append, leb-true}
use Rattle.std.proofs.lemmas.List.{map-append}
use Rattle.codec.specs.Codecs.{Codec}
use Rattle.codec.proofs.Views.{check-ok}
use Rattle.codec.specs.Lists.{list, many_ok}
use Rattle.codec.proofs.Lists.{list-ok}
use Rattle.model.specs.Modules.{each}
use Rattle.file.specs.Parts.{count}
use Rattle.file.specs.Names.{name}
use Rattle.text.specs.Words.{within}
use Rattle.layout.specs.Rows.{zeros, padded, rows, name_cells}
use Rattle.layout.specs.Filling.{stored, fill, stored_one, padded-more, padded-none, each_both, Rowed, rowed-none, rowed-more, filled}

-- ---- what can stand in a file

pub few : {A : Type 0} (c : Codec A) (size room : ℕ) (xs : List A) → (list (count size room) c).ok xs ≡ true → length xs ≤ room
unfolding count
few c size room xs h = leb-true _ _ (check-ok _ _ _ _ (list-ok _ c xs h).0).0

pub fine : {A : Type 0} (c : Codec A) (size room : ℕ) (xs : List A) → (list (count size room) c).ok xs ≡ true → many_ok c xs ≡ true
fine c size room xs h = (list-ok _ c xs h).1

-- ---- rows of one width

room-ahead : (n room width size : ℕ) → n < room → room * width ≤ size → n * width + width ≤ size
room-ahead n room width size h g =
    let m : suc n * width ≤ room * width = mul-le-mul_right width h in
    omega (arith, suc-mul n width)

module _ {A : Type 0} (c : Codec A) (cells : A → List ℕ) (width size room : ℕ) (store : ℕ → A → List ℕ → List ℕ)
    (puts : (k : ℕ) (x : A) (l : List ℕ) → store k x l ≡ stored l (k * width) (cells x))
    (wide : (x : A) → c.ok x ≡ true → length (cells x) ≤ width) (holds : room * width ≤ size) where
  pub row_more : (done : List A) (x : A) (l : List ℕ) → Rowed width size cells done l → c.ok x ≡ true → length done < room
      → Rowed width size cells (done ++ (x ∷ [])) (store (length done) x l)
  row_more done x l i h g =
      subst (Rowed width size cells (done ++ (x ∷ []))) (sym (puts (length done) x l))
      (rowed-more width size cells (length done * width) x refl (wide x h) (room-ahead (length done) room width size g holds) i)

  pub rows-filled : (xs : List A) → many_ok c xs ≡ true → length xs ≤ room → fill store 0 xs (zeros size) ≡ rows width size cells xs
  rows-filled xs h g =
      (filled {U = Unit {0}} (λ u. c) (λ u a. u) store (λ u done l. Rowed width size cells done l) room (λ u done x l i. row_more done x l i) tt [] xs (zeros size)
      (rowed-none width size cells) h (omega arith)).holds.is

-- ---- names

within-high : (n : ℕ) → within 1 32 n ≡ true → n ≤ 32
within-high n h = go (leb 1 n) h
  where
    go : (t : Bool) → cond t (leb n 32) false ≡ true → n ≤ 32
    go true e = leb-true n 32 e
    go false e = absurd (let z : ◌≡◌ {A = ℕ} 0 1 = cc in omega arith)

pub name-short : (w : List ℕ) → name.ok w ≡ true → length w ≤ 32
unfolding name
name-short w h = within-high (length w) (check-ok _ _ _ _ (list-ok _ _ w (check-ok _ _ _ _ h).1).0).0

-- two names to a record
module _ {A : Type 0} (first second : A → List ℕ) where
  abbrev pub both_names : A → List (List ℕ)
  both_names x = first x ∷ second x ∷ []

  pub both-length : (xs : List A) → length (each both_names xs) ≡ length xs * 2
  both-length [] = refl
  both-length (x ∷ xs) = omega (arith, both-length xs, suc-mul (length xs) 2)

  pub both-more : (size : ℕ) (done : List A) (x : A) (l : List ℕ) → length (first x) ≤ 32 → length (second x) ≤ 32 → length done * 66 + 66 ≤ size
      → Rowed 33 size name_cells (each both_names done) l
      → Rowed 33 size name_cells (each both_names (done ++ (x ∷ []))) (stored (stored l (length done * 66) (name_cells (first x))) (length done * 66 + 33) (name_cells (second x)))
  both-more size done x l f g h i =
      let old = each both_names done in
      let n = both-length done in
      let one = rowed-more 33 size name_cells (length done * 66) (first x) (omega arith) (omega arith) (omega arith) i in
      let m = length-append old (first x ∷ []) in
      let two = rowed-more 33 size name_cells (length done * 66 + 33) (second x) (omega arith) (omega arith) (omega arith) one in
      subst (λ (z : List (List ℕ)). Rowed 33 size name_cells z (stored (stored l (length done * 66) (name_cells (first x))) (length done * 66 + 33) (name_cells (second x))))
      (append_assoc old (first x ∷ []) (second x ∷ []) ∙ sym (each_both both_names done (x ∷ []))) two

-- ---- lists that are padded

-- one more at the end of a list, behind others
pub map_more : {A B : Type 0} (f : A → B) (front : List B) (done : List A) (x : A) → (front ++ map f done) ++ (f x ∷ []) ≡ front ++ map f (done ++ (x ∷ []))
map_more f front done x = append_assoc front (map f done) (f x ∷ []) ∙ ap (λ l. front ++ l) (sym (map-append f done (x ∷ [])))

pub padded-cell-more : (room at : ℕ) (list : List ℕ) (cell : ℕ) → at ≡ length list → length list < room → set (padded room list) at cell ≡ padded room (list ++ (cell ∷ []))
padded-cell-more room at list cell e h = sym (stored_one (padded room list) at cell) ∙ padded-more room at list (cell ∷ []) e (omega arith)

pub zeros-stored : (room : ℕ) (cells : List ℕ) → length cells ≤ room → stored (zeros room) 0 cells ≡ padded room cells
zeros-stored room cells h = ap (λ (l : List ℕ). stored l 0 cells) (padded-none room) ∙ padded-more room 0 [] cells refl (omega arith)
