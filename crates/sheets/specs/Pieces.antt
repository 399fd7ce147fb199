-- The drivers and the activities of a draft, piece by piece; and rows to which one more is added.
use Rattle.std.specs.Prelude.{ℕ, zero, suc, ◌+◌, ◌*◌, ◌≤◌, ◌<◌, ◌≡◌, refl, Bool, true, false, List, [], ◌∷◌, ◌++◌, map, length}
use Rattle.std.proofs.Common.{add-zero, zero-mul, arith, sym, ap, ◌∙◌, append-nil, append_assoc, length-append}
use Rattle.std.proofs.lemmas.List.{length-map}
use Rattle.model.specs.Modules.{Task, Act, Call, Update, Mode, each}
use Rattle.model.specs.Instructions.{Driver, updates, releases, terminates}
use Rattle.timing.specs.SlotLaws.{Each}
use Rattle.timing.specs.Code.{terminates_from, mode_drivers}
use Rattle.emit.specs.Rows.{map_act}
use Rattle.layout.specs.Rows.{rows}
use Rattle.layout.specs.Filling.{stored, each_both}
use Rattle.accepted.specs.Lists.{each_append, each_first, each_map}
use Rattle.refusals.specs.Draft.{Draft, sourced, last_sourced}
use Rattle.sheets.specs.Sheets.{raised, inserted}
use Rattle.sheets.specs.Held.{drivers_in, acts_of, acts_in, last_sources, Fits, frames}
use Rattle.sheets.specs.Raising.{rows-inserted}

-- ---- of each element

pub each_last : {A : Type 0} (C : A → Type 0) (xs ys : List A) → Each C (xs ++ ys) → Each C ys
each_last C [] ys h = h
each_last C (x ∷ xs) ys h = each_last C xs ys h.1

pub each-without : {A : Type 0} (C : A → Type 0) (xs : List A) (x : A) (ys : List A) → Each C (xs ++ (x ∷ ys)) → Each C (xs ++ ys)
each-without C xs x ys h = each_append C xs ys (each_first C xs (x ∷ ys) h) (each_last C xs (x ∷ ys) h).1

pub length_without : {A : Type 0} (xs : List A) (x : A) (ys : List A) → length (xs ++ (x ∷ ys)) ≡ length (xs ++ ys) + 1
length_without xs x ys = omega (arith, length-append xs (x ∷ ys), length-append xs ys)

-- ---- rows of which each fits

pub shorts : {A : Type 0} (width : ℕ) (cells : A → List ℕ) (xs : List A) → Each (λ y. Fits width (cells y)) xs → Each (λ y. length (cells y) ≤ width) xs
shorts width cells = each_map (λ y. Fits width (cells y)) (λ y. length (cells y) ≤ width) (λ y f. f.short)

-- one row more among rows that fit
module _ {A : Type 0} (v size : ℕ) (cells : A → List ℕ) (xs ys : List A) (x : A) (fit : Each (λ y. length (cells y) ≤ suc v) (xs ++ (x ∷ ys)))
    (room : length (xs ++ (x ∷ ys)) * suc v ≤ size) where
  pub grown : {l made : List ℕ} (row behind : ℕ) → l ≡ rows (suc v) size cells (xs ++ ys) → row ≡ length xs → behind ≡ length ys → made ≡ cells x
      → inserted (suc v) row behind made l ≡ rows (suc v) size cells (xs ++ (x ∷ ys))
  grown {l} {made} row behind e r b m =
      let last = each_last (λ y. length (cells y) ≤ suc v) xs (x ∷ ys) fit in
      let n : length (xs ++ (x ∷ ys)) ≡ length xs + length ys + 1 = omega (arith, length-append xs (x ∷ ys)) in
      ap (inserted (suc v) row behind made) e ∙ ap (λ (c : List ℕ). inserted (suc v) row behind c (rows (suc v) size cells (xs ++ ys))) m
      ∙ rows-inserted v size cells xs ys x (each_first (λ y. length (cells y) ≤ suc v) xs (x ∷ ys) fit) last.1 last.0 (rw n at room) row behind r b

pub inserted-last : (width row : ℕ) (cells l : List ℕ) → inserted width row 0 cells l ≡ stored l (row * width) cells
unfolding inserted raised
inserted-last width row cells l = rw (zero-mul width) refl

-- one row more behind them
module _ {A : Type 0} (v size : ℕ) (cells : A → List ℕ) (xs : List A) (x : A) (fit : Each (λ y. length (cells y) ≤ suc v) (xs ++ (x ∷ [])))
    (room : length (xs ++ (x ∷ [])) * suc v ≤ size) where
  pub added : {l made : List ℕ} (row : ℕ) → l ≡ rows (suc v) size cells xs → row ≡ length xs → made ≡ cells x → stored l (row * suc v) made ≡ rows (suc v) size cells (xs ++ (x ∷ []))
  added {l} {made} row e r m =
      sym (inserted-last (suc v) row made l)
      ∙ grown v size cells xs [] x fit room row 0 (e ∙ ap (rows (suc v) size cells) (sym (append-nil xs))) r refl m

-- ---- drivers

-- the drivers of what is finished
abbrev pub fore_drivers : Draft → List Driver
fore_drivers draft = terminates_from 0 draft.built.tasks ++ each mode_drivers draft.built.modes

abbrev pub updates_of : Mode → List Driver
updates_of m = map (λ a. updates a.what.source a.what.target) m.updates

abbrev pub releases_of : Mode → List Driver
releases_of m = map (λ a. releases a.what.task a.what.sources) m.calls

-- the activities of a mode, by kind
abbrev pub calls_of : Mode → List (Act ℕ)
calls_of m = map (map_act (λ c. c.task)) m.calls

abbrev pub renewals_of : Mode → List (Act ℕ)
renewals_of m = map (map_act (λ u. 0)) m.updates

pub map_more : {A B : Type 0} (f : A → B) (xs : List A) (x : A) → map f (xs ++ (x ∷ [])) ≡ map f xs ++ (f x ∷ [])
map_more f [] x = refl
map_more f (y ∷ xs) x = ap (λ l. f y ∷ l) (map_more f xs x)

pub terminates-more : (k : ℕ) (tasks : List Task) (task : Task) → terminates_from k (tasks ++ (task ∷ [])) ≡ terminates_from k tasks ++ (terminates (k + length tasks) ∷ [])
terminates-more k [] task = ap (λ (n : ℕ). terminates n ∷ []) (sym (add-zero k))
terminates-more k (t ∷ tasks) task =
    let e : k + 1 + length tasks ≡ k + suc (length tasks) = omega arith in
    ap (λ l. terminates k ∷ l) (terminates-more (k + 1) tasks task ∙ ap (λ (n : ℕ). terminates_from (k + 1) tasks ++ (terminates n ∷ [])) e)

pub length-terminates : (k : ℕ) (tasks : List Task) → length (terminates_from k tasks) ≡ length tasks
length-terminates k [] = refl
length-terminates k (t ∷ tasks) = ap suc (length-terminates (k + 1) tasks)

each-one : {A B : Type 0} (f : A → List B) (xs : List A) (x : A) → each f (xs ++ (x ∷ [])) ≡ each f xs ++ f x
each-one f xs x = each_both f xs (x ∷ []) ∙ ap (λ l. each f xs ++ l) (append-nil (f x))

module _ (draft : Draft) where
  pub drivers-inside : drivers_in true draft ≡ fore_drivers draft ++ (updates_of draft.mode ++ releases_of draft.mode)
  drivers-inside =
      ap (λ l. terminates_from 0 draft.built.tasks ++ l) (each-one mode_drivers draft.built.modes draft.mode)
      ∙ sym (append_assoc (terminates_from 0 draft.built.tasks) (each mode_drivers draft.built.modes) (mode_drivers draft.mode))

  pub drivers-outside : drivers_in false draft ≡ fore_drivers draft
  drivers-outside = ap (λ ms. terminates_from 0 draft.built.tasks ++ each mode_drivers ms) (append-nil draft.built.modes)

  pub acts-inside : acts_in true draft ≡ each acts_of draft.built.modes ++ acts_of draft.mode
  acts-inside = each-one acts_of draft.built.modes draft.mode

  pub acts-outside : acts_in false draft ≡ each acts_of draft.built.modes
  acts-outside = ap (λ ms. each acts_of ms) (append-nil draft.built.modes)

-- ---- the task invoked last

-- a list that has a last element, and what stands before it
pub data Ends {A : Type 0} : List A → Type 0 where
  empty : Ends []
  behind : (front : List A) (last : A) → Ends (front ++ (last ∷ []))

pub ends : {A : Type 0} (xs : List A) → Ends xs
ends [] = empty
ends (x ∷ xs) = on (ends xs)
  where
    on : {ys : List _} → Ends ys → Ends (x ∷ ys)
    on empty = behind [] x
    on (behind front last) = behind (x ∷ front) last

pub last-sourced : (source : ℕ) (calls : List (Act Call)) (call : Act Call) → last_sourced source (calls ++ (call ∷ [])) ≡ calls ++ (sourced source call ∷ [])
unfolding last_sourced
last-sourced source [] call = refl
last-sourced source (c ∷ []) call = refl
last-sourced source (c ∷ d ∷ calls) call = ap (λ l. c ∷ l) (last-sourced source (d ∷ calls) call)

pub last-sources : (calls : List (Act Call)) (call : Act Call) → last_sources (calls ++ (call ∷ [])) ≡ length call.what.sources
unfolding last_sources
last-sources [] call = refl
last-sources (c ∷ []) call = refl
last-sources (c ∷ d ∷ calls) call = last-sources (d ∷ calls) call

-- ---- modes

pub frames-more : (row : ℕ) (ms : List Mode) (m : Mode)
    → frames row (ms ++ (m ∷ [])) ≡ frames row ms ++ ((m.period ∷ length m.calls ∷ length m.updates ∷ length m.switches ∷ (row + length (each acts_of ms)) ∷ []) ∷ [])
unfolding frames
frames-more row [] m = ap (λ (n : ℕ). (m.period ∷ length m.calls ∷ length m.updates ∷ length m.switches ∷ n ∷ []) ∷ []) (sym (add-zero row))
frames-more row (n ∷ ms) m =
    let e : row + length (acts_of n) + length (each acts_of ms) ≡ row + length (acts_of n ++ each acts_of ms) = omega (arith, length-append (acts_of n) (each acts_of ms)) in
    ap (λ l. (n.period ∷ length n.calls ∷ length n.updates ∷ length n.switches ∷ row ∷ []) ∷ l)
    (frames-more (row + length (acts_of n)) ms m
    ∙ ap (λ (k : ℕ). frames (row + length (acts_of n)) ms ++ ((m.period ∷ length m.calls ∷ length m.updates ∷ length m.switches ∷ k ∷ []) ∷ [])) e)

pub frames-short : (row : ℕ) (ms : List Mode) → Each (λ cells. length cells ≤ 5) (frames row ms)
unfolding frames
frames-short row [] = tt
frames-short row (m ∷ ms) = (omega arith, frames-short (row + length (acts_of m)) ms)

pub length-frames : (row : ℕ) (ms : List Mode) → length (frames row ms) ≡ length ms
unfolding frames
length-frames row [] = refl
length-frames row (m ∷ ms) = ap suc (length-frames (row + length (acts_of m)) ms)
