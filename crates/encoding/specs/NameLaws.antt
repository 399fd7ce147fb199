-- Names in rows of 33 cells: what is written from a row is what the codec of names writes.
use Rattle.std.specs.Prelude.{ℕ, zero, suc, ◌+◌, ◌*◌, ◌≤◌, ◌<◌, ◌≡◌, refl, Bool, true, false, cond, List, [], ◌∷◌, ◌++◌, map, leb, length, get_or}
use Rattle.std.proofs.Common.{add-zero, arith, sym, ap, ap₂, ◌∙◌, subst, leb-true}
use Rattle.std.proofs.Math.Seq.{take-length}
use Rattle.codec.specs.Numbers.{byte}
use Rattle.codec.specs.Views.{check, view, view_put}
use Rattle.codec.proofs.Views.{check-ok}
use Rattle.codec.specs.Lists.{list}
use Rattle.codec.proofs.Lists.{list-ok}
use Rattle.model.specs.Modules.{each}
use Rattle.model.specs.Rooms.{name_room}
use Rattle.file.specs.Names.{name}
use Rattle.file.proofs.Names.{name-lawful}
use Rattle.layout.specs.Rows.{name_cells, names, rows}
use Rattle.layout.specs.Cells.{rows-cell, each_width, each_part}
use Rattle.writing.specs.Puts.{parts}
use Rattle.writing.specs.Cells.{byte_of, cell, name_in}
use Rattle.encoding.specs.Parts.{byte-is, parts-list, list_put}

-- every name of a list fits its row
pub record Narrow (list : List (List ℕ)) : Type 0 where
  pub fits : (i : ℕ) → length (get_or list i []) ≤ name_room

narrow-joined : (a b : List (List ℕ)) → ((i : ℕ) → length (get_or a i []) ≤ name_room) → ((i : ℕ) → length (get_or b i []) ≤ name_room) → (i : ℕ) → length (get_or (a ++ b) i []) ≤ name_room
narrow-joined [] b h g i = g i
narrow-joined (x ∷ a) b h g zero = h 0
narrow-joined (x ∷ a) b h g (suc i) = narrow-joined a b (λ j. h (suc j)) g i

pub narrow-none : Narrow []
narrow-none = record { fits = λ i. omega arith }

pub narrow-more : {w : List ℕ} {list : List (List ℕ)} → length w ≤ name_room → Narrow list → Narrow (w ∷ list)
narrow-more {w} {list} h n = record { fits = go }
  where
    go : (i : ℕ) → length (get_or (w ∷ list) i []) ≤ name_room
    go zero = h
    go (suc i) = n.fits i

pub narrow-each : {A : Type 0} (f : A → List (List ℕ)) (d : A) (xs : List A) → ((k : ℕ) → k < length xs → Narrow (f (get_or xs k d))) → Narrow (each f xs)
narrow-each f d [] h = narrow-none
narrow-each f d (x ∷ xs) h =
    record { fits = narrow-joined (f x) (each f xs) (h 0 (omega arith)).fits (narrow-each f d xs (λ k g. h (suc k) (omega arith))).fits }

pub narrow-map : {A : Type 0} (f : A → List ℕ) (d : A) (xs : List A) → ((k : ℕ) → k < length xs → length (f (get_or xs k d)) ≤ name_room) → Narrow (map f xs)
narrow-map f d [] h = narrow-none
narrow-map f d (x ∷ xs) h = narrow-more (h 0 (omega arith)) (narrow-map f d xs (λ k g. h (suc k) (omega arith)))

-- ---- one name

pub name-most : (w : List ℕ) → name.ok w ≡ true → length w ≤ 32
unfolding name
name-most w h = go (leb 1 (length w)) (check-ok _ _ _ _ (list-ok _ _ w (check-ok _ _ _ w h).1).0).0
  where
    go : (t : Bool) → cond t (leb (length w) 32) false ≡ true → length w ≤ 32
    go true e = leb-true (length w) 32 e
    go false e = absurd (let z : ◌≡◌ {A = ℕ} 0 1 = cc in omega arith)

name-put : (w : List ℕ) → name.put w ≡ byte.put (length w) ++ each byte.put w
unfolding name check view view_put
name-put w = list_put _ byte w

bytes-is : (w : List ℕ) → each byte.put w ≡ w
unfolding byte
bytes-is [] = refl
bytes-is (b ∷ w) = ap (λ (l : List ℕ). b ∷ l) (bytes-is w)

pub name-cells : (w : List ℕ) → name.put w ≡ name_cells w
unfolding byte
name-cells w = name-put w ∙ ap (λ (l : List ℕ). length w ∷ l) (bytes-is w)

-- a name from the cells of its row
pub name_in_lem : (cells : List ℕ) (row : ℕ) (w : List ℕ) → name.ok w ≡ true → ((j : ℕ) → j < 33 → get_or cells (row + j) 0 ≡ get_or (name_cells w) j 0) → name_in cells row ≡ name.put w
unfolding name_in
name_in_lem cells row w good is =
    let few = name-most w good in
    let part : ℕ → List ℕ = λ k. byte_of (cell cells (row + 1 + k)) in
    let size : cell cells row ≡ length w = ap (cell cells) (sym (add-zero row)) ∙ is 0 (omega arith) in
    let below : (k : ℕ) → get_or w k 0 < 256 = λ k. subst (λ (l : List ℕ). get_or l (suc k) 0 < 256) (name-cells w) ((name-lawful.whole w good).below (suc k)) in
    let shown : (k : ℕ) → k < length w → part k ≡ byte.put (get_or w k 0) =
    λ k h. let e : row + 1 + k ≡ row + suc k = omega arith in ap byte_of (ap (cell cells) e ∙ is (suc k) (omega arith)) ∙ byte-is (get_or w k 0) (below k) in
    ap (λ (n : ℕ). byte_of n ++ parts part n) size
    ∙ ap₂ (λ (a b : List ℕ). a ++ b) (byte-is (length w) (omega arith)) (parts-list part byte.put 0 w shown) ∙ sym (name-put w)

-- the name in row k of an array of names
pub name-row : (room : ℕ) (list : List (List ℕ)) → Narrow list → (k row : ℕ) → row ≡ k * 33 → k < length list → name.ok (get_or list k []) ≡ true → name_in (names room list) row ≡ name.put (get_or list k [])
name-row room list narrow k row e within good =
    name_in_lem (names room list) row (get_or list k []) good (λ j less.
    ap (λ (i : ℕ). get_or (names room list) (i + j) 0) e
    ∙ rows-cell 33 (33 * room) name_cells [] list (λ i h. let f = narrow.fits i in omega arith) k within j less)

-- ---- records with two names

module _ {A : Type 0} (first second : A → List ℕ) (d : A) (xs : List A) (room : ℕ)
    (good : (k : ℕ) → k < length xs → (name.ok (first (get_or xs k d)) ≡ true) × (name.ok (second (get_or xs k d)) ≡ true)) where
  -- the two names of a record
  abbrev pub both : A → List (List ℕ)
  both x = first x ∷ second x ∷ []

  both-narrow : Narrow (each both xs)
  both-narrow = narrow-each both d xs (λ k h. narrow-more (name-most _ (good k h).0) (narrow-more (name-most _ (good k h).1) narrow-none))

  both-length : length (each both xs) ≡ length xs * 2
  both-length = ap (λ (l : List A). length (each both l)) (sym (take-length xs)) ∙ each_width both d [] 2 xs (length xs) (λ i h. refl) (omega arith)

  pub first-name : (k : ℕ) → k < length xs → name_in (names room (each both xs)) (k * 66) ≡ name.put (first (get_or xs k d))
  first-name k h =
      let l = both-length in
      let p : get_or (each both xs) (k * 2) [] ≡ first (get_or xs k d) =
      ap (λ (i : ℕ). get_or (each both xs) i []) (sym (add-zero (k * 2))) ∙ each_part both d [] 2 xs k 0 (λ i g. refl) h (omega arith) in
      name-row room (each both xs) both-narrow (k * 2) (k * 66) (omega arith) (omega arith) (ap name.ok p ∙ (good k h).0) ∙ ap name.put p

  pub second-name : (k : ℕ) → k < length xs → name_in (names room (each both xs)) (k * 66 + 33) ≡ name.put (second (get_or xs k d))
  second-name k h =
      let l = both-length in
      let p : get_or (each both xs) (k * 2 + 1) [] ≡ second (get_or xs k d) = each_part both d [] 2 xs k 1 (λ i g. refl) h (omega arith) in
      name-row room (each both xs) both-narrow (k * 2 + 1) (k * 66 + 33) (omega arith) (omega arith) (ap name.ok p ∙ (good k h).1) ∙ ap name.put p
