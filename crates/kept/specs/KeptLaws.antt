-- Laws of rows: the last of each kind, and one row more in an array.
use Prim.Native.Nat.{ℕ, zero, suc, ◌+◌, ◌-◌, ◌*◌, ◌/◌, ◌%◌, ◌≤◌, ◌<◌, min}
use Rattle.std.specs.Prelude.{◌≡◌, refl, Bool, true, false, ltb, get_or, set}
use Rattle.std.proofs.Math.Path.{sym, ap}
use Rattle.std.proofs.Common.{◌∙◌, ltb-true, ltb-false, length-append, drop_of_length-le, length-take-le, take_at, drop-set-lt, drop-drop, get_or-set_same, drop-cons}
use mathlib.Core.List.{List, [], ◌∷◌, ◌++◌, append-nil, append_assoc}
use native.Mathlib.Omega.{arith}
use borrow.Rule.Slice.PartMut.{put_mid, Post-is}
use Rattle.std.proofs.Math.ListN.{length, take, drop, length-set, get_or-eq_default}
use Rattle.std.proofs.lemmas.List.Edits.{sets, sets-eq}
use Rattle.std.proofs.Math.Seq.{length-sets, drop_at, drop-length}
use Rattle.std.proofs.lemmas.List.{drop-append-le, drop-set-add, take-set-le}
use Rattle.text.specs.declared.Name.{Name}
use Rattle.text.specs.declared.State.{State}
use Rattle.text.specs.declared.State.TheVariants as Q
use Rattle.text.specs.declared.Literal.TheVariants as L
use Rattle.text.specs.declared.Item.TheVariants as I
use Rattle.text.specs.declared.ReadItem.{ReadItem}
use Rattle.text.specs.Items.{item_at, items_of}
use Rattle.kept.specs.Rows.{Fields, states, state_of, name_of, literals, literal_of, acts, act_of, read_of}
use Rattle.kept.specs.declared.Seen.{Seen}
use Rattle.kept.specs.States.{number_of}
use Rattle.kept.specs.Seen.{kind_of, first_of, seen_of, seen_in}
use Rattle.kept.specs.Kept.{row_of, Right, Told, Kept, Lies, Laid, Stand, RowAt, Listed, Keeps}

-- row k as it is lent, from its start up to its end
abbrev pub lent_of : List ℕ → ℕ → List ℕ
lent_of memo k = take (k * 16 + 16 + 16 - (k * 16 + 16)) (drop (k * 16 + 16) memo)

-- row k, kept of this place, in the state of this number
pub record At (memo : List ℕ) (k state at : ℕ) (row : List ℕ) : Type 0 where
  pub below : k < get_or memo 0 0
  pub size : length row ≡ 16
  pub lent : row ≡ lent_of memo k
  pub number : get_or row 1 0 ≡ state
  pub place : get_or row 2 0 ≡ at

-- ---- the last of each kind

pub state-last : (n : ℕ) → 8 ≤ n % 16 → state_of n ≡ Q.Finish
unfolding state_of
state-last n h = get_or-eq_default (states _) Q.Finish h

pub literal-last : (kind at flag start end : ℕ) → 2 ≤ kind → literal_of kind at flag start end ≡ L.Named (name_of start end)
unfolding literal_of
literal-last kind at flag start end h = get_or-eq_default (literals at flag start end) _ h

pub act-last : (kind : ℕ) (f : Fields) → 11 ≤ kind → act_of kind f ≡ I.No (f.three % 256) f.four
unfolding act_of
act-last kind f h = get_or-eq_default (acts f) _ h

-- a byte is its own rest by 256
pub byte_of : {r number : ℕ} → (r ≡ number) × (r < 256) → r % 256 ≡ number
byte_of w = omega (arith, w.0, w.1)

-- a number from k on that is not k is beyond it
pub beyond : (k : ℕ) {n : ℕ} → k ≤ n → (n ≡ k → ⊥) → k + 1 ≤ n
beyond k h e = omega (arith, e)

-- ---- a run of numbers written into an array

run-new : (memo new : List ℕ) (at : ℕ) → at + length new ≤ length memo → take (length new) (drop at (sets memo at new)) ≡ new
run-new memo new at h =
    let long = length-take-le at memo (omega arith) in
    rw (sets-eq new memo at h, drop-append-le at (take at memo ++ new) (drop (at + length new) memo) (omega (arith, long, length-append (take at memo) new)), drop_at (take at memo) new at long)
    (take_at new _ (length new) refl)

set_before : (l : List ℕ) (i j n a : ℕ) → j + n ≤ i → take n (drop j (set l i a)) ≡ take n (drop j l)
set_before l i j n a h =
    let e : i ≡ j + (i - j) = omega arith in
    ap (λ (k : ℕ). take n (drop j (set l k a))) e ∙ ap (λ (m : List ℕ). take n m) (drop-set-add j l (i - j) a) ∙ take-set-le n (drop j l) (i - j) a (omega arith)

run-before : (new memo : List ℕ) (at j n : ℕ) → j + n ≤ at → take n (drop j (sets memo at new)) ≡ take n (drop j memo)
run-before [] memo at j n h = refl
run-before (a ∷ new) memo at j n h = run-before new (set memo at a) (suc at) j n (omega arith) ∙ set_before memo at j n a h

-- ---- a row as a whole

-- n numbers of a list from a place on
abbrev pub numbers_from : ℕ → ℕ → List ℕ → List ℕ
numbers_from i zero l = []
numbers_from i (suc n) l = get_or l i 0 ∷ numbers_from (suc i) n l

numbers-from : (i n : ℕ) (l : List ℕ) → i + n ≡ length l → drop i l ≡ numbers_from i n l
numbers-from i zero l e = drop_of_length-le l {i = i} (omega arith)
numbers-from i (suc n) l e = drop-cons l i 0 (omega arith) ∙ ap (λ (m : List ℕ). get_or l i 0 ∷ m) (numbers-from (suc i) n l (omega arith))

-- a row by its numbers
pub whole : (row : List ℕ) → length row ≡ 16 → row ≡ numbers_from 0 16 row
whole row e = numbers-from 0 16 row (sym e)

-- numbers written over all of a row
over : (new row : List ℕ) → length row ≡ length new → sets row 0 new ≡ new
over new row e = sets-eq new row 0 (omega arith) ∙ rw (drop_of_length-le row {i = 0 + length new} (omega arith)) (append-nil new)

-- a row whose numbers are each set to those of another
pub all_set : (from row : List ℕ) → length from ≡ 16 → length row ≡ 16 → sets row 0 (numbers_from 0 16 from) ≡ from
all_set from row e h = ap (λ (l : List ℕ). sets row 0 l) (sym (numbers-from 0 16 from (sym e))) ∙ over from row (h ∙ sym e)

-- ---- one row more

module _ (rows new : List ℕ) (many : ℕ) (long : length new ≡ 16) (h : many * 16 + 16 ≤ length rows) where
  -- the rows with one behind the first ones
  abbrev more : List ℕ
  more = sets rows (many * 16) new

  more-last : take 16 (drop (many * 16) more) ≡ new
  more-last = ap (λ (n : ℕ). take n (drop (many * 16) more)) (sym long) ∙ run-new rows new (many * 16) (omega (arith, long))

  more-first : (k : ℕ) → k < many → take 16 (drop (k * 16) more) ≡ take 16 (drop (k * 16) rows)
  more-first k g = run-before new rows (many * 16) (k * 16) 16 (omega arith)

-- the same with the row laid in the part that was lent for it
module _ (rows row : List ℕ) (many : ℕ) (long : length row ≡ 16) (h : many * 16 + 16 ≤ length rows) where
  abbrev pub lent : List ℕ
  lent = put_mid (many * 16) (many * 16 + 16 - many * 16) rows row

  put_is : lent ≡ take (many * 16) rows ++ (row ++ drop (many * 16 + 16) rows)
  put_is = rw (Post-is (many * 16) (many * 16 + 16) rows (omega arith))

  lent_is : lent ≡ sets rows (many * 16) row
  lent_is =
      let first = many * 16 in
      let whole_row : first + length row ≡ first + 16 = omega (arith, long) in
      let put : sets rows first row ≡ take first rows ++ (row ++ drop (first + 16) rows) = sets-eq row rows first (omega (arith, long)) ∙ append_assoc (take first rows) row (drop (first + length row) rows) ∙ ap (λ (n : ℕ). take first rows ++ (row ++ drop n rows)) whole_row in
      put_is ∙ sym put

  pub lent_length : length lent ≡ length rows
  lent_length = rw lent_is (length-sets rows (many * 16) row)

  pub lent-part : take (many * 16 + 16 - many * 16) (drop (many * 16) lent) ≡ row
  lent-part =
      let z : many * 16 + 16 - many * 16 ≡ 16 = omega arith in
      rw (lent_is, z) (more-last rows row many long h)

  -- the new row, and those before it
  pub lent-here : take 16 (drop (many * 16) lent) ≡ row
  lent-here = rw lent_is (more-last rows row many long h)

  pub lent-before : (k : ℕ) → k < many → take 16 (drop (k * 16) lent) ≡ take 16 (drop (k * 16) rows)
  lent-before k g = rw lent_is (more-first rows row many long h k g)

  -- the first row is read from the start of the rows
  lent-start : many ≡ 0 → lent ≡ row ++ drop (many * 16 + 16) rows
  lent-start z = put_is ∙ ap (λ (n : ℕ). take (n * 16) rows ++ (row ++ drop (many * 16 + 16) rows)) z

  pub lent-read : many ≡ 0 → read_of lent ≡ read_of row
  lent-read z = rw (lent-start z, whole row long)

  pub lent_seen : many ≡ 0 → seen_in lent ≡ seen_in row
  lent_seen z = rw (lent-start z, whole row long)

-- the rows behind the first sixteen numbers of an array, and their number in front
module _ (memo rows : List ℕ) (many : ℕ) (long : length rows ≡ length memo - 16) (h : 16 ≤ length memo) where
  abbrev behind : List ℕ
  behind = put_mid 16 (length memo - 16) memo rows

  behind-is : behind ≡ take 16 memo ++ rows
  behind-is = rw (Post-is 16 (length memo) memo h, drop-length memo, append-nil rows)

  sixteen : length (take 16 memo) ≡ 16
  sixteen = length-take-le 16 memo h

  behind-long : length behind ≡ length memo
  behind-long = rw behind-is (omega (arith, length-append (take 16 memo) rows, sixteen, long, h))

  pub behind-count : get_or (set behind 0 many) 0 0 ≡ many
  behind-count = get_or-set_same behind 0 many 0 (omega (arith, behind-long, h))

  pub behind-row : (k : ℕ) → row_of (set behind 0 many) k ≡ take 16 (drop (k * 16) rows)
  unfolding row_of
  behind-row k =
      let e : k * 16 + 16 ≡ 16 + k * 16 = omega arith in
      ap (λ (l : List ℕ). take 16 l) (drop-set-lt (k * 16 + 16) behind 0 many (omega arith) ∙ ap (λ (n : ℕ). drop n behind) e ∙ sym (drop-drop (k * 16) 16 behind) ∙ ap (λ (l : List ℕ). drop (k * 16) l) (ap (λ (l : List ℕ). drop 16 l) behind-is ∙ drop_at (take 16 memo) rows 16 sixteen))

  -- the rows of the items of a text keep them
  pub behind-keeps : {s : List ℕ} → Listed s (record { state = 0; at = 0 }) rows many → Keeps s (set behind 0 many)
  unfolding state_of
  behind-keeps {s} listed =
      let size : length (set behind 0 many) ≡ length memo = length-set behind 0 many ∙ behind-long in
      record {
        count = rw (behind-count, size) (listed.count ∙ ap (λ (n : ℕ). min (length (items_of s)) (n / 16)) long);
        row = λ k l. rw (behind-row k) (listed.row k (rw behind-count at l));
        last = λ l. rw (behind-count, behind-row (many - 1)) listed.last;
      }

-- ---- arrays that keep items

row-right : {s : List ℕ} {b : Stand} {row : List ℕ} → RowAt s b row → Right s row × Told s row
row-right r = (rw (r.number, r.place) r.told, rw (r.number, r.place) r.seen)

-- an array that keeps the items of a text holds items of it alone
pub keeps-kept : {s memo : List ℕ} → Keeps s memo → Kept s memo
keeps-kept {s} {memo} keeps = record { each = λ k l. (by k (ltb (k + 1) (get_or memo 0 0)) refl l).0; seen = λ k l. (by k (ltb (k + 1) (get_or memo 0 0)) refl l).1 }
  where
    by : (k : ℕ) (c : Bool) → ltb (k + 1) (get_or memo 0 0) ≡ c → k < get_or memo 0 0 → Right s (row_of memo k) × Told s (row_of memo k)
    by k true c l = row-right (keeps.row k (ltb-true (k + 1) (get_or memo 0 0) c))
    by k false c l =
        let last : k ≡ get_or memo 0 0 - 1 = omega (arith, ltb-false (k + 1) (get_or memo 0 0) c, l) in
        rw last (row-right (keeps.last (omega (arith, l))))

-- an array without room for a row keeps none
pub keeps-none : (s memo : List ℕ) → length memo < 32 → get_or memo 0 0 ≡ 0 → Keeps s memo
keeps-none s memo h z =
    record {
      count = z ∙ omega (arith, h);
      row = λ k l. absurd (omega (arith, z, l));
      last = λ l. absurd (omega (arith, z, l));
    }

-- what row k tells, where it was read at this place and in this state
pub fetched : {s memo : List ℕ} (k : ℕ) {state : State} {at : ℕ} {r : ReadItem} → Kept s memo → k < get_or memo 0 0 → r ≡ read_of (lent_of memo k) → state_of (get_or (lent_of memo k) 1 0) ≡ state → get_or (lent_of memo k) 2 0 ≡ at
    → r ≡ item_at s state at
unfolding row_of
fetched {s} {memo} k {state} kept l e q p =
    let z : k * 16 + 16 + 16 - (k * 16 + 16) ≡ 16 = omega arith in
    let right : Right s (lent_of memo k) = rw z (kept.each k l) in
    e ∙ right ∙ ap (λ (x : State). item_at s x (get_or (lent_of memo k) 2 0)) q ∙ ap (λ (n : ℕ). item_at s state n) p

-- what a search looks at in row k, where it was read at this place and in this state
pub looked : {s memo : List ℕ} (k : ℕ) {state at : ℕ} → Kept s memo → k < get_or memo 0 0 → get_or (lent_of memo k) 1 0 ≡ state → get_or (lent_of memo k) 2 0 ≡ at → seen_in (lent_of memo k) ≡ seen_of (item_at s (state_of state) at)
unfolding row_of
looked {s} {memo} k {state} kept l q p =
    let z : k * 16 + 16 + 16 - (k * 16 + 16) ≡ 16 = omega arith in
    let told : Told s (lent_of memo k) = rw z (kept.seen k l) in
    told ∙ ap (λ (n : ℕ). seen_of (item_at s (state_of n) (get_or (lent_of memo k) 2 0))) q ∙ ap (λ (n : ℕ). seen_of (item_at s (state_of state) n)) p

-- the same of a row that is known to be so
pub at-read : {s memo row : List ℕ} {k state at : ℕ} → At memo k state at row → Kept s memo → read_of row ≡ item_at s (state_of state) at
at-read {k = k} a kept = fetched k kept a.below (ap read_of a.lent) (ap (λ (r : List ℕ). state_of (get_or r 1 0)) (sym a.lent) ∙ ap state_of a.number) (ap (λ (r : List ℕ). get_or r 2 0) (sym a.lent) ∙ a.place)

pub at-seen : {s memo row : List ℕ} {k state at : ℕ} → At memo k state at row → Kept s memo → seen_in row ≡ seen_of (item_at s (state_of state) at)
at-seen {k = k} a kept = ap seen_in a.lent ∙ looked k kept a.below (ap (λ (r : List ℕ). get_or r 1 0) (sym a.lent) ∙ a.number) (ap (λ (r : List ℕ). get_or r 2 0) (sym a.lent) ∙ a.place)

seen_by : {kind start end n : ℕ} (r : ReadItem) → kind ≡ kind_of r.item → name_of start end ≡ first_of r.item → n ≡ number_of r.state → ◌≡◌ {A = Seen} (record { kind = kind; start = start; end = end; behind = n; next = r.next }) (seen_of r)
seen_by r k e b = rw (k, b) (ap (λ (m : Name). (record { kind = kind_of r.item; start = m.start; end = m.end; behind = number_of r.state; next = r.next })) e)

-- the numbers of the states and the places beside those of an item
pub laid_by : {s : List ℕ} {at : ℕ} {state : State} (before : ℕ) (row : List ℕ) (r : ReadItem) (n : ℕ) → length row ≡ 16 → state ≡ state_of before → r ≡ item_at s state at → Lies row r.item → (n ≡ number_of r.state) × (state_of n ≡ r.state)
    → Laid s before at (sets row 1 (before ∷ at ∷ n ∷ r.next ∷ [])) (get_or (sets row 1 (before ∷ at ∷ n ∷ r.next ∷ [])) 0 0) n r.next
laid_by {s} {at} before row r n long e p i q =
    let here : r ≡ item_at s (state_of before) at = p ∙ ap (λ (x : State). item_at s x at) e in
    record {
      told = rw (whole row long) (rw (i.told, q.1) here);
      seen = rw (whole row long) (seen_by r i.kind i.name q.0) ∙ ap seen_of here;
      number = rw (whole row long);
      place = rw (whole row long);
      kind = refl;
      after = rw (whole row long);
      next = rw (whole row long);
    }
