-- The counts that the index keeps, and how one row more counts.
use Rattle.std.specs.Prelude.{◌≡◌, ℕ, zero, suc, ◌+◌, ◌-◌, ◌*◌, ◌<◌, ◌≤◌, min, Bool, true, false, cond, List, [], ◌∷◌, ◌++◌, length, ◌==◌, ◌≢◌, slice_index, slice_index_or, slice_set}
use native.Mathlib.Omega.{arith}
use Rattle.std.proofs.Math.Path.{refl}
use Rattle.std.proofs.Common.{sym, ap, ◌∙◌, eqb-true}
use Rattle.std.proofs.lemmas.Bool.{eqb-false}
use Rattle.std.proofs.Math.ListN.{length-set}
use Rattle.std.proofs.Math.Seq.{get_or-set_same, get_or-set_other}
use Rattle.refusals.specs.declared.Row.{Row}
use Rattle.refusals.specs.Names.{count, is_sort, is_port, is_port_of}
use Rattle.refusals.specs.NamesLaws.{count-append}
use Rattle.names.specs.Tables.{row_at, rows_from, rows_in, has_room}
use Rattle.names.specs.TablesLaws.{length-rows}
use Rattle.names.specs.Chains.{last_of, next_of, last-same, next-same}
use Rattle.names.specs.Index.{chain_at, indexed, Linked, ports_kept, sorts_kept, scopes_kept, first_kept, Counts, with_row, one_more, kind_place, sort_place, scope_place, first_place, first_by, tallied}
use Rattle.names.specs.Storing as store

-- ---- counts

module _ (test : Row → Bool) where
  count_next : (rows : List Row) (row : Row) → test row ≡ true → count test (rows ++ (row ∷ [])) ≡ count test rows + 1
  unfolding count
  count_next rows row e =
      let one : count test (row ∷ []) ≡ 1 = rw e in
      omega (arith, count-append test rows (row ∷ []), one)

  count_same : (rows : List Row) (row : Row) → test row ≡ false → count test (rows ++ (row ∷ [])) ≡ count test rows
  unfolding count
  count_same rows row e =
      let none : count test (row ∷ []) ≡ 0 = rw e in
      omega (arith, count-append test rows (row ∷ []), none)

  pub count-le : (rows : List Row) → count test rows ≤ length rows
  unfolding count
  count-le [] = omega arith
  count-le (row ∷ rows) = by (count-le rows) (test row)
    where
      by : count test rows ≤ length rows → (b : Bool) → cond b (count test rows + 1) (count test rows) ≤ suc (length rows)
      by on true = omega arith
      by on false = omega arith

-- ---- what stands in the array behind a tally

-- where a row counts among the ports or beside them
kind-low : (row : Row) → 0 < kind_place row
kind-low row = by (is_port row)
  where
    by : (b : Bool) → 0 < cond b 1 2
    by true = omega arith
    by false = omega arith

kind-high : (row : Row) → kind_place row < 3
kind-high row = by (is_port row)
  where
    by : (b : Bool) → cond b 1 2 < 3
    by true = omega arith
    by false = omega arith

-- a scope's first row is at or before each row of it, where one more stands in it
first_by_lem : (k n known : ℕ) → k < n + 1 → (k < n → (0 < known) × (known ≤ k + 1)) → (0 < first_by known (n + 1)) × (first_by known (n + 1) ≤ k + 1)
first_by_lem k n known g i = by (known == 0) refl (k == n) refl
  where
    by : (a : Bool) → (known == 0) ≡ a → (b : Bool) → (k == n) ≡ b → (0 < cond a (n + 1) (min known (n + 1))) × (cond a (n + 1) (min known (n + 1)) ≤ k + 1)
    by true p true q = (omega arith, omega (arith, eqb-true k n q))
    by true p false q = absurd (omega (arith, eqb-true known 0 p, (i (omega (arith, eqb-false k n q))).0))
    by false p true q = (omega (arith, eqb-false known 0 p), omega (arith, eqb-true k n q))
    by false p false q = (omega (arith, (i (omega (arith, eqb-false k n q))).0), omega (arith, (i (omega (arith, eqb-false k n q))).1))

module _ (cells : List ℕ) (n : ℕ) (row : Row) (h : 1280 ≤ length cells) where
  -- the places where the row counts, the arrays between, and the last
  abbrev after : List ℕ
  after = tallied cells n row

  abbrev kinds : List ℕ
  kinds = slice_set cells (kind_place row) (one_more cells (kind_place row) n)

  abbrev sorts : List ℕ
  sorts = slice_set kinds (sort_place row) (one_more cells (sort_place row) n)

  abbrev scopes : List ℕ
  scopes = slice_set sorts (scope_place row) (one_more cells (scope_place row) n)

  pub else_same : (place : ℕ) → (place ≢ kind_place row) → (place ≢ sort_place row) → (place ≢ scope_place row) → (place ≢ first_place row) → slice_index after place ≡ slice_index cells place
  unfolding tallied
  else_same place a b c d =
      get_or-set_other scopes (first_place row) place (first_by (slice_index cells (first_place row)) (n + 1)) 0 d
      ∙ get_or-set_other sorts (scope_place row) place (one_more cells (scope_place row) n) 0 c
      ∙ get_or-set_other kinds (sort_place row) place (one_more cells (sort_place row) n) 0 b
      ∙ get_or-set_other cells (kind_place row) place (one_more cells (kind_place row) n) 0 a

  kind-more : slice_index_or after (kind_place row) 0 ≡ one_more cells (kind_place row) n
  unfolding tallied
  kind-more =
      get_or-set_other scopes (first_place row) (kind_place row) (first_by (slice_index cells (first_place row)) (n + 1)) 0 (λ z. omega (arith, z, kind-low row, kind-high row))
      ∙ get_or-set_other sorts (scope_place row) (kind_place row) (one_more cells (scope_place row) n) 0 (λ z. omega (arith, z, kind-low row, kind-high row))
      ∙ get_or-set_other kinds (sort_place row) (kind_place row) (one_more cells (sort_place row) n) 0 (λ z. omega (arith, z, kind-low row, kind-high row))
      ∙ get_or-set_same cells (kind_place row) (one_more cells (kind_place row) n) 0 (omega (arith, h, kind-low row, kind-high row))

  sort-more : slice_index_or after (sort_place row) 0 ≡ one_more cells (sort_place row) n
  unfolding tallied
  sort-more =
      get_or-set_other scopes (first_place row) (sort_place row) (first_by (slice_index cells (first_place row)) (n + 1)) 0 (λ z. omega (arith, z))
      ∙ get_or-set_other sorts (scope_place row) (sort_place row) (one_more cells (scope_place row) n) 0 (λ z. omega (arith, z))
      ∙ get_or-set_same kinds (sort_place row) (one_more cells (sort_place row) n) 0 (simp length-set (omega (arith, h)))

  scope-more : slice_index_or after (scope_place row) 0 ≡ one_more cells (scope_place row) n
  unfolding tallied
  scope-more =
      get_or-set_other scopes (first_place row) (scope_place row) (first_by (slice_index cells (first_place row)) (n + 1)) 0 (λ z. omega (arith, z))
      ∙ get_or-set_same sorts (scope_place row) (one_more cells (scope_place row) n) 0 (simp length-set (omega (arith, h)))

  first_more : slice_index_or after (first_place row) 0 ≡ first_by (slice_index cells (first_place row)) (n + 1)
  unfolding tallied
  first_more = get_or-set_same scopes (first_place row) (first_by (slice_index cells (first_place row)) (n + 1)) 0 (simp length-set (omega (arith, h)))

  pub tally-long : length after ≡ length cells
  unfolding tallied
  tally-long = simp length-set

  -- before the ports, and behind the firsts, all is as it was
  pub outside : (place : ℕ) → 186 ≤ place → slice_index after place ≡ slice_index cells place
  outside place g = else_same place (λ z. omega (arith, z, kind-low row, kind-high row)) (λ z. omega (arith, z)) (λ z. omega (arith, z)) (λ z. omega (arith, z))

  size_same : indexed after ≡ indexed cells
  size_same = else_same 0 (λ z. omega (arith, z, kind-low row, kind-high row)) (λ z. omega (arith, z)) (λ z. omega (arith, z)) (λ z. omega (arith, z))

  row_kept : (k : ℕ) → row_at after k ≡ row_at cells k
  unfolding row_at
  row_kept k = rw (outside (k * 8 + 1280) (omega arith), outside (k * 8 + 1280 + 1) (omega arith), outside (k * 8 + 1280 + 2) (omega arith), outside (k * 8 + 1280 + 3) (omega arith), outside (k * 8 + 1280 + 4) (omega arith), outside (k * 8 + 1280 + 5) (omega arith))

  rows-kept : (m k : ℕ) → rows_from m after k ≡ rows_from m cells k
  unfolding rows_from
  rows-kept zero k = refl
  rows-kept (suc m) k = rw (row_kept k, rows-kept m (k + 1))

  lasts-kept : (s : List ℕ) (chain k : ℕ) → last_of (chain_at s after) chain k ≡ last_of (chain_at s cells) chain k
  lasts-kept s chain k = last-same (chain_at s after) (chain_at s cells) chain k (λ j g. rw (row_kept j))

  nexts-kept : (s : List ℕ) (chain k d : ℕ) → next_of (chain_at s after) chain k d ≡ next_of (chain_at s cells) chain k d
  nexts-kept s chain k d = next-same (chain_at s after) (chain_at s cells) chain k d (λ j g. rw (row_kept j))

  pub linked-kept : (s : List ℕ) → Linked s cells → Linked s after
  linked-kept s l =
      record {
        heads = λ chain g. rw (size_same, nexts-kept s chain 0 (indexed cells), outside (chain + 256) (omega arith)) (l.heads chain g);
        tails = λ chain g. rw (size_same, lasts-kept s chain (indexed cells), outside (chain + 768) (omega arith)) (l.tails chain g);
        links = λ k g. rw (size_same, outside (k * 8 + 1280 + 6) (omega arith), row_kept k, nexts-kept s (chain_at s cells k) (k + 1) (indexed cells - (k + 1))) (l.links k (rw size_same at g));
        keys = λ k g. rw (outside (k * 8 + 1280 + 7) (omega arith), row_kept k) (l.keys k (rw size_same at g));
      }

-- ---- the counts behind a declaration

module _ (s cells : List ℕ) (n : ℕ) (row : Row) (h : has_room cells n ≡ true) where
  -- the array with the row, and with the row counted
  abbrev stored : List ℕ
  stored = with_row s cells n row

  abbrev tallies : List ℕ
  tallies = tallied stored n row

  pub long : 1280 ≤ length stored
  long = omega (arith, store.row-long s cells n row h, store.fits s cells n row h)

  pub size-then : indexed tallies ≡ n + 1
  size-then = size_same stored n row long ∙ store.more_rows s cells n row h

  pub rows_then : rows_in tallies (n + 1) ≡ rows_in cells n ++ (row ∷ [])
  rows_then = rows-kept stored n row long (n + 1) 0 ∙ store.rows_more s cells n row h

  -- the index beside its chains is not touched by the row
  was : (place : ℕ) → 0 < place → place < 186 → slice_index stored place ≡ slice_index cells place
  was place g l = store.low s cells n row h place g (omega arith)

  module _ (test : Row → Bool) (place : ℕ) (low : 0 < place) (high : place < 186) (kept : slice_index_or cells place 0 ≡ count test (rows_in cells n)) where
    bound : count test (rows_in cells n) ≤ n
    bound = omega (arith, count-le test (rows_in cells n), length-rows n cells 0)

    counts-on : test row ≡ true → slice_index tallies place ≡ one_more stored place n → slice_index tallies place ≡ count test (rows_in cells n ++ (row ∷ []))
    counts-on e m = m ∙ rw (was place low high, kept, count_next test (rows_in cells n) row e) (omega (arith, bound))

    counts_same : test row ≡ false → slice_index tallies place ≡ slice_index stored place → slice_index tallies place ≡ count test (rows_in cells n ++ (row ∷ []))
    counts_same e m = m ∙ was place low high ∙ kept ∙ sym (count_same test (rows_in cells n) row e)

  module _ (c : Counts cells) (m : indexed cells ≡ n) where
    ports-then : ports_kept tallies ≡ count is_port (rows_in cells n ++ (row ∷ []))
    ports-then = by (is_port row) refl
      where
        by : (b : Bool) → is_port row ≡ b → ports_kept tallies ≡ count is_port (rows_in cells n ++ (row ∷ []))
        by true e =
            let place : kind_place row ≡ 1 = rw e in
            counts-on is_port 1 (omega arith) (omega arith) (c.ports ∙ rw m) e (rw place at (kind-more stored n row long))
        by false e =
            let place : kind_place row ≡ 2 = rw e in
            counts_same is_port 1 (omega arith) (omega arith) (c.ports ∙ rw m) e (else_same stored n row long 1 (λ z. omega (arith, z, place)) (λ z. omega (arith, z)) (λ z. omega (arith, z)) (λ z. omega (arith, z)))

    sorts-then : (sort : ℕ) → sort < 7 → sorts_kept tallies sort ≡ count (is_sort sort) (rows_in cells n ++ (row ∷ []))
    sorts-then sort g = by (row.sort == sort) refl
      where
        by : (b : Bool) → (row.sort == sort) ≡ b → sorts_kept tallies sort ≡ count (is_sort sort) (rows_in cells n ++ (row ∷ []))
        by true e =
            let place : sort_place row ≡ sort + 8 = omega (arith, eqb-true row.sort sort e) in
            counts-on (is_sort sort) (sort + 8) (omega arith) (omega arith) (c.sorts sort g ∙ rw m) e (rw place at (sort-more stored n row long))
        by false e =
            let not = eqb-false row.sort sort e in
            counts_same (is_sort sort) (sort + 8) (omega arith) (omega arith) (c.sorts sort g ∙ rw m) e (else_same stored n row long (sort + 8) (λ z. omega (arith, z, kind-low row, kind-high row)) (λ z. not (omega (arith, z))) (λ z. omega (arith, z)) (λ z. omega (arith, z)))

    scopes-then : (scope sort : ℕ) → scope < 33 → 4 < sort → sort < 7 → scopes_kept tallies scope sort ≡ count (is_port_of scope sort) (rows_in cells n ++ (row ∷ []))
    scopes-then scope sort l f g = by (row.scope == scope) refl (row.sort == sort) refl
      where
        same_place : is_port_of scope sort row ≡ false → (scope * 4 + (sort - 4) + 16 ≢ scope_place row) → scopes_kept tallies scope sort ≡ count (is_port_of scope sort) (rows_in cells n ++ (row ∷ []))
        same_place e not = counts_same (is_port_of scope sort) (scope * 4 + (sort - 4) + 16) (omega arith) (omega arith) (c.scopes scope sort l f g ∙ rw m) e (else_same stored n row long (scope * 4 + (sort - 4) + 16) (λ z. omega (arith, z, kind-low row, kind-high row)) (λ z. omega (arith, z)) not (λ z. omega (arith, z)))

        by : (a : Bool) → (row.scope == scope) ≡ a → (b : Bool) → (row.sort == sort) ≡ b → scopes_kept tallies scope sort ≡ count (is_port_of scope sort) (rows_in cells n ++ (row ∷ []))
        by true d true e =
            let place : scope_place row ≡ scope * 4 + (sort - 4) + 16 = omega (arith, eqb-true row.scope scope d, eqb-true row.sort sort e) in
            counts-on (is_port_of scope sort) (scope * 4 + (sort - 4) + 16) (omega arith) (omega arith) (c.scopes scope sort l f g ∙ rw m) (rw (d, e)) (rw place at (scope-more stored n row long))
        by true d false e = let not = eqb-false row.sort sort e in same_place (rw (d, e)) (λ z. not (omega (arith, z)))
        by false d b e = let not = eqb-false row.scope scope d in same_place (rw d) (λ z. not (omega (arith, z)))

    firsts-then : (scope k : ℕ) → scope < 33 → k < n + 1 → (row_at tallies k).scope ≡ scope → (0 < first_kept tallies scope) × (first_kept tallies scope ≤ k + 1)
    firsts-then scope k l g e = by (row.scope == scope) refl (k == n) refl
      where
        same_row : k < n → (row_at cells k).scope ≡ scope
        same_row i = ap (λ (r : Row). r.scope) (sym (row_kept stored n row long k ∙ store.row_before s cells n row h k i)) ∙ e

        own_row : k ≡ n → row.scope ≡ scope
        own_row i = ap (λ (r : Row). r.scope) (sym (row_kept stored n row long n ∙ store.row_same s cells n row h)) ∙ rw i at e

        before : k < n → (0 < first_kept cells scope) × (first_kept cells scope ≤ k + 1)
        before i = c.firsts scope k l (omega (arith, m)) (same_row i)

        by : (a : Bool) → (row.scope == scope) ≡ a → (b : Bool) → (k == n) ≡ b → (0 < first_kept tallies scope) × (first_kept tallies scope ≤ k + 1)
        by true d b q =
            let place : first_place row ≡ scope + 152 = omega (arith, eqb-true row.scope scope d) in
            let told : first_kept tallies scope ≡ first_by (first_kept cells scope) (n + 1) = rw (← place) (first_more stored n row long ∙ rw (place, was (scope + 152) (omega arith) (omega arith))) in
            rw told (first_by_lem k n (first_kept cells scope) g before)
        by false d true q = absurd (eqb-false row.scope scope d (own_row (eqb-true k n q)))
        by false d false q =
            let not = eqb-false row.scope scope d in
            let told : first_kept tallies scope ≡ first_kept cells scope = else_same stored n row long (scope + 152) (λ z. omega (arith, z, kind-low row, kind-high row)) (λ z. omega (arith, z)) (λ z. omega (arith, z)) (λ z. not (omega (arith, z))) ∙ was (scope + 152) (omega arith) (omega arith) in
            rw told (before (omega (arith, eqb-false k n q)))

    pub counts-then : Counts tallies
    counts-then =
        record {
          ports = rw (size-then, rows_then) ports-then;
          sorts = λ sort g. rw (size-then, rows_then) (sorts-then sort g);
          scopes = λ scope sort l f g. rw (size-then, rows_then) (scopes-then scope sort l f g);
          firsts = λ scope k l g. firsts-then scope k l (rw size-then at g);
        }
