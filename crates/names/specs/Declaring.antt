-- The laws of a declaration, and of the table of names.
use Rattle.std.specs.Prelude.{◌≡◌, ℕ, suc, ◌+◌, ◌-◌, ◌*◌, ◌<◌, ◌≤◌, Bool, true, false, cond, List, [], ◌∷◌, ◌++◌, length, replicate, nat_lt, slice_index, refl}
use Rattle.std.proofs.Common.{arith, add-zero, sym, ◌∙◌, lt-ltb, ltb-true, ltb-false}
use mathlib.Core.List.{append-nil, append_assoc}
use Rattle.std.proofs.Math.ListN.{length-append, get_or-eq_default}
use Rattle.std.proofs.lemmas.List.{length-replicate, get_or-replicate}
use Rattle.refusals.specs.declared.Row.{Row}
use Rattle.refusals.specs.Names.{count}
use Rattle.names.specs.Tables.{rows_from, rows_in, room_in, has_room}
use Rattle.names.specs.Chains.{last_none, next-none}
use Rattle.names.specs.Index.{chain_at, indexed, Indexed, with_row, tallied, declared_in, Declared, empty_table, entered_in, table_in}
use Rattle.names.specs.Storing as store
use Rattle.names.specs.Tallying.{tally-long, linked-kept, long, size-then, rows_then, counts-then}

-- ---- the laws of a declaration

module _ {s cells : List ℕ} {n : ℕ} {row : Row} {after : List ℕ} {count : ℕ} (d : Declared s cells n row after count) where
  pub declared-length : length after ≡ length cells
  declared-length = rw d.array (by (has_room cells n) refl)
    where
      by : (b : Bool) → has_room cells n ≡ b → length (cond b (tallied (with_row s cells n row) n row) cells) ≡ length cells
      by true e = tally-long (with_row s cells n row) n row (long s cells n row e) ∙ store.row-long s cells n row e
      by false e = refl

  pub declared-count : has_room cells n ≡ true → count ≡ n + 1
  declared-count h = d.rows ∙ rw h

  pub declared-rows : has_room cells n ≡ true → rows_in after count ≡ rows_in cells n ++ (row ∷ [])
  declared-rows h = rw (d.array, d.rows, h) (rows_then s cells n row h)

  -- the index stays right, and has one row more
  pub declared-indexed : has_room cells n ≡ true → Indexed s cells → indexed cells ≡ n → Indexed s after
  declared-indexed h ix m = rw (d.array, h) (record { linked = linked-kept (with_row s cells n row) n row (long s cells n row h) s (store.linked-more s cells n row h ix.linked m); counts = counts-then s cells n row h ix.counts m })

  pub declared-all : has_room cells n ≡ true → indexed after ≡ count
  declared-all h = rw (d.array, d.rows, h) (size-then s cells n row h)

-- ---- the table of names

zeros : (n i : ℕ) → ◌≡◌ {A = ℕ} (slice_index (replicate n 0) i) 0
zeros n i = by (nat_lt i n) refl
  where
    by : (b : Bool) → nat_lt i n ≡ b → ◌≡◌ {A = ℕ} (slice_index (replicate n 0) i) 0
    by true e = get_or-replicate {A = ℕ} n i 0 0 (ltb-true i n e)
    by false e = get_or-eq_default {A = ℕ} (replicate n 0) 0 (omega (arith, length-replicate {A = ℕ} n 0, ltb-false i n e))

empty-cell : (i : ℕ) → slice_index empty_table i ≡ 0
unfolding empty_table
empty-cell i = zeros 4672 i

pub empty-long : length empty_table ≡ 4672
unfolding empty_table
empty-long = length-replicate {A = ℕ} 4672 0

pub empty-none : indexed empty_table ≡ 0
empty-none = empty-cell 0

-- the table without names is right for every text
pub empty-indexed : (s : List ℕ) → Indexed s empty_table
unfolding count rows_from
empty-indexed s =
    record {
      linked =
          record {
            heads = λ chain g. rw (empty-none, empty-cell (chain + 256)) (sym (next-none (chain_at s empty_table) chain 0));
            tails = λ chain g. rw (empty-none, empty-cell (chain + 768)) (sym (last_none (chain_at s empty_table) chain));
            links = λ k g. absurd (omega (arith, empty-none, g));
            keys = λ k g. absurd (omega (arith, empty-none, g));
          };
      counts =
          record {
            ports = rw (empty-none, empty-cell 1);
            sorts = λ sort g. rw (empty-none, empty-cell (sort + 8));
            scopes = λ scope sort l f g. rw (empty-none, empty-cell (scope * 4 + (sort - 4) + 16));
            firsts = λ scope k l g. absurd (omega (arith, empty-none, g));
          };
    }

pub table_none : (s : List ℕ) → table_in s [] ≡ empty_table
unfolding table_in entered_in
table_none s = refl

entered-more : (s cells : List ℕ) (k : ℕ) (rows : List Row) (row : Row) → entered_in s cells k (rows ++ (row ∷ [])) ≡ declared_in s (entered_in s cells k rows) (k + length rows) row
unfolding entered_in
entered-more s cells k [] row = rw (add-zero k)
entered-more s cells k (other ∷ rows) row =
    let e : k + 1 + length rows ≡ k + suc (length rows) = omega arith in
    entered-more s (declared_in s cells k other) (k + 1) rows row ∙ rw e

-- one name more
pub table_more : (s : List ℕ) (rows : List Row) (row : Row) → table_in s (rows ++ (row ∷ [])) ≡ declared_in s (table_in s rows) (length rows) row
unfolding table_in
table_more s rows row =
    let e : 0 + length rows ≡ length rows = omega arith in
    entered-more s empty_table 0 rows row ∙ rw e

-- ---- the array holds these names, and nothing else

pub record Holding (s : List ℕ) (rows : List Row) (cells : List ℕ) : Type 0 where
  pub wide : length cells ≡ 4672
  pub size : indexed cells ≡ length rows
  pub same : rows_in cells (length rows) ≡ rows
  pub index : Indexed s cells

module _ (s : List ℕ) where
  holds-none : Holding s [] empty_table
  unfolding rows_from
  holds-none = record { wide = empty-long; size = empty-none; same = refl; index = empty-indexed s }

  pub holds_more : (rows : List Row) (cells : List ℕ) (row : Row) → Holding s rows cells → length rows < 424 → Holding s (rows ++ (row ∷ [])) (declared_in s cells (length rows) row)
  holds_more rows cells row w l =
      let room : has_room cells (length rows) ≡ true = lt-ltb (length rows) (room_in cells) (omega (arith, w.wide)) in
      let d : Declared s cells (length rows) row (declared_in s cells (length rows) row) (length rows + 1) = record { array = refl; rows = rw room } in
      let more : length (rows ++ (row ∷ [])) ≡ length rows + 1 = length-append rows (row ∷ []) in
      record {
        wide = declared-length d ∙ w.wide;
        size = declared-all d room ∙ sym more;
        same = rw more (declared-rows d room ∙ rw w.same);
        index = declared-indexed d room w.index w.size;
      }

  holds-all : (more rows : List Row) (cells : List ℕ) → Holding s rows cells → length rows + length more ≤ 424 → Holding s (rows ++ more) (entered_in s cells (length rows) more)
  unfolding entered_in
  holds-all [] rows cells w l = rw (append-nil rows) w
  holds-all (row ∷ more) rows cells w l =
      let long : length (rows ++ (row ∷ [])) ≡ length rows + 1 = length-append rows (row ∷ []) in
      let next = holds-all more (rows ++ (row ∷ [])) (declared_in s cells (length rows) row) (holds_more rows cells row w (omega arith)) (omega (arith, long)) in
      rw (long, append_assoc rows (row ∷ []) more) at next

  -- the table of names that have room holds them, and its index is right
  pub table-holds : (rows : List Row) → length rows ≤ 424 → Holding s rows (table_in s rows)
  unfolding table_in
  table-holds rows l = holds-all rows [] empty_table holds-none (omega (arith, l))
