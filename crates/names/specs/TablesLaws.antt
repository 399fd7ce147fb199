-- Laws of the table, row by row.
use Rattle.std.specs.Prelude.{◌≡◌, ℕ, zero, suc, ◌+◌, ◌-◌, ◌*◌, ◌<◌, ◌≤◌, Bool, true, false, List, [], ◌∷◌, ◌++◌, length, ◌≢◌, nat_lt, slice_index, slice_index_or, refl}
use Rattle.std.proofs.Common.{sym, ◌∙◌, add-zero, zero-add, add-one, ltb-true, ltb-false}
use Rattle.std.proofs.Math.Path.{ap}
use native.Mathlib.Omega.{arith}
use Rattle.std.proofs.Math.ListN.{get_or-eq_default}
use Rattle.refusals.specs.declared.Row.{Row}
use Rattle.refusals.specs.Names.{unknown, is_row, find, no_type, count, types}
use Rattle.names.specs.Tables.{row_at, rows_from, rows_in}

-- ---- from a place up to another

-- the rows from place k up to place n
abbrev pub rows_up : List ℕ → ℕ → ℕ → List Row
rows_up cells k n = rows_from (n - k) cells k

module _ (cells : List ℕ) (k n : ℕ) where
  pub up-end : n ≤ k → rows_up cells k n ≡ []
  unfolding rows_from
  up-end h = let z : n - k ≡ 0 = omega arith in rw z

  pub up-on : k < n → rows_up cells k n ≡ row_at cells k ∷ rows_up cells (k + 1) n
  unfolding rows_from
  up-on h =
      let z : n - k ≡ suc (n - (k + 1)) = omega arith in
      rw z

pub up-begin : (cells : List ℕ) (n : ℕ) → rows_in cells n ≡ rows_up cells 0 n
up-begin cells n = let z : n - 0 ≡ n = omega arith in rw z

-- behind the end of the array stand zeros
pub row_out : (cells : List ℕ) (k : ℕ) → length cells ≤ k → record { start = 0; end = 0; scope = 0; sort = 0; typ = 0; value = 0 } ≡ row_at cells k
unfolding row_at
row_out cells k h =
    let out : (j : ℕ) → length cells ≤ j → slice_index cells j ≡ 0 = λ j g. get_or-eq_default cells 0 g in
    rw (out (k * 8 + 1280) (omega arith), out (k * 8 + 1280 + 1) (omega arith), out (k * 8 + 1280 + 2) (omega arith), out (k * 8 + 1280 + 3) (omega arith), out (k * 8 + 1280 + 4) (omega arith), out (k * 8 + 1280 + 5) (omega arith))

module _ (s cells : List ℕ) (k n scope : ℕ) (word : List ℕ) where
  pub find-end : n ≤ k → find s (rows_up cells k n) scope word ≡ unknown
  unfolding find
  find-end h = rw (up-end cells k n h)

  pub find-out : k < n → is_row s scope word (row_at cells k) ≡ true → find s (rows_up cells k n) scope word ≡ row_at cells k
  unfolding find
  find-out h e = rw (up-on cells k n h) (simp e)

  pub find-on : k < n → is_row s scope word (row_at cells k) ≡ false → find s (rows_up cells k n) scope word ≡ find s (rows_up cells (k + 1) n) scope word
  unfolding find
  find-on h e = rw (up-on cells k n h) (simp e)

module _ (test : Row → Bool) (cells : List ℕ) (k n : ℕ) where
  pub count-end : n ≤ k → count test (rows_up cells k n) ≡ 0
  unfolding count
  count-end h = rw (up-end cells k n h)

  pub count-more : k < n → test (row_at cells k) ≡ true → count test (rows_up cells k n) ≡ count test (rows_up cells (k + 1) n) + 1
  unfolding count
  count-more h e = rw (up-on cells k n h) (simp e)

  pub count-on : k < n → test (row_at cells k) ≡ false → count test (rows_up cells k n) ≡ count test (rows_up cells (k + 1) n)
  unfolding count
  count-on h e = rw (up-on cells k n h) (simp e)

  -- the type at place i of those that the test takes
  abbrev pub type_up : ℕ → ℕ
  type_up i = slice_index_or (types test (rows_up cells k n)) i no_type

module _ (test : Row → Bool) (cells : List ℕ) (k n : ℕ) where
  pub type-end : n ≤ k → (i : ℕ) → type_up test cells k n i ≡ no_type
  unfolding types
  type-end h i = rw (up-end cells k n h)

  pub type-out : k < n → test (row_at cells k) ≡ true → type_up test cells k n 0 ≡ (row_at cells k).typ
  unfolding types
  type-out h e = rw (up-on cells k n h) (simp e)

  pub type-less : k < n → test (row_at cells k) ≡ true → (i : ℕ) → (i ≢ 0) → type_up test cells k n i ≡ type_up test cells (k + 1) n (i - 1)
  unfolding types
  type-less h e i z =
      let q : i ≡ suc (i - 1) = omega arith in
      ap (type_up test cells k n) q ∙ rw (up-on cells k n h) (simp e)

  pub type-on : k < n → test (row_at cells k) ≡ false → (i : ℕ) → type_up test cells k n i ≡ type_up test cells (k + 1) n i
  unfolding types
  type-on h e i = rw (up-on cells k n h) (simp e)

-- rows that the test does not take may be passed over
pub type-skip : (test : Row → Bool) (cells : List ℕ) (n i from : ℕ) → ((k : ℕ) → k < n → k < from → test (row_at cells k) ≡ false) → type_up test cells 0 n i ≡ type_up test cells from n i
type-skip test cells n i zero h = refl
type-skip test cells n i (suc from) h = type-skip test cells n i from (λ k g l. h k g (omega arith)) ∙ by (nat_lt from n) refl
  where
    by : (b : Bool) → nat_lt from n ≡ b → type_up test cells from n i ≡ type_up test cells (suc from) n i
    by true e = let l = ltb-true from n e in type-on test cells from n l (h from l (omega arith)) i ∙ rw (add-one from)
    by false e = let l = ltb-false from n e in type-end test cells from n l i ∙ sym (type-end test cells (suc from) n (omega arith) i)

-- ---- the rows as a whole

rows_snoc : (m : ℕ) (cells : List ℕ) (k : ℕ) → rows_from (suc m) cells k ≡ rows_from m cells k ++ (row_at cells (k + m) ∷ [])
unfolding rows_from
rows_snoc zero cells k = rw (add-zero k)
rows_snoc (suc m) cells k =
    let e : k + 1 + m ≡ k + suc m = omega arith in
    ap (λ (l : List Row). row_at cells k ∷ l) (rows_snoc m cells (k + 1) ∙ rw e)

-- the last row stands behind the rows before it
pub rows_last : (m : ℕ) (cells : List ℕ) → rows_in cells (suc m) ≡ rows_in cells m ++ (row_at cells m ∷ [])
rows_last m cells = rw (rows_snoc m cells 0, zero-add m)

pub length-rows : (m : ℕ) (cells : List ℕ) (k : ℕ) → length (rows_from m cells k) ≡ m
unfolding rows_from
length-rows zero cells k = refl
length-rows (suc m) cells k = ap suc (length-rows m cells (k + 1))
