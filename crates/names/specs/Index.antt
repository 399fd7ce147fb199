-- The index of a table of names: what lets a name be found, and rows be counted, without going through all rows.
use Rattle.std.specs.Prelude.{◌≡◌, ℕ, ◌+◌, ◌-◌, ◌*◌, ◌/◌, ◌%◌, ◌<◌, ◌≤◌, min, Bool, false, cond, List, [], ◌∷◌, length, set, replicate, ◌==◌, nat_lt, slice_index, slice_set}
use Rattle.std.proofs.Math.Seq.{slice}
use Rattle.std.proofs.lemmas.List.Edits.{sets}
use Rattle.refusals.specs.declared.Row.{Row}
use Rattle.refusals.specs.Names.{count, is_sort, is_port, is_port_of}
use Rattle.names.specs.Tables.{row_at, rows_in, has_room}
use Rattle.names.specs.Chains.{last_of, next_of}

-- the numbers of a text are letters
pub record Letters (s : List ℕ) : Type 0 where
  pub bytes : (i : ℕ) → slice_index s i < 256

-- four letters from a place on, as one number
abbrev pub quad : List ℕ → ℕ → ℕ
quad s i = slice_index s i + slice_index s (i + 1) * 256 + slice_index s (i + 2) * 65536 + slice_index s (i + 3) * 16777216

-- eight letters, four from each of two places on, as one number
abbrev pub pair : List ℕ → ℕ → ℕ → ℕ
pair s i j = quad s i + quad s j * 4294967296

-- what tells names apart: all letters of a name that has at most eight, in longer ones those at its ends and in its middle
unfoldable pub key_of : List ℕ → ℕ
key_of word =
    cond (nat_lt (length word) 4)
    (slice_index word 0 + slice_index word (length word / 2) * 256 + slice_index word (length word - 1) * 65536)
    (cond (nat_lt 8 (length word))
    (pair word 0 (length word - 4) / 2 + pair word ((length word - 8) / 2) ((length word - 8) / 2 + 4) / 2)
    (pair word 0 (length word - 4)))

-- one of 512 chains, by a scope and a key: the halves of the key and the scope added, and spread by multiplication with 2 ^ 32 by the golden ratio
abbrev pub mixed : ℕ → ℕ → ℕ
mixed scope key = (key / 4294967296 + key + scope) % 4294967296 * 2654435769 / 8388608 % 512

-- the chain of a name in a scope
unfoldable pub chain_of : ℕ → List ℕ → ℕ
chain_of scope word = mixed scope (key_of word)

-- the key and the chain of a row
abbrev pub key_by : List ℕ → Row → ℕ
key_by s row = key_of (slice row.start row.end s)

abbrev pub chain_by : List ℕ → Row → ℕ
chain_by s row = chain_of row.scope (slice row.start row.end s)

-- the name and the chain of the row at a place
abbrev pub word_at : List ℕ → List ℕ → ℕ → List ℕ
word_at s cells k = slice (row_at cells k).start (row_at cells k).end s

abbrev pub chain_at : List ℕ → List ℕ → ℕ → ℕ
chain_at s cells k = chain_by s (row_at cells k)

-- how many rows the index has
abbrev pub indexed : List ℕ → ℕ
indexed cells = slice_index cells 0

-- the first and the last row of a chain, one more than their places; 0 where there is none
abbrev pub head_in : List ℕ → ℕ → ℕ
head_in cells chain = slice_index cells (chain + 256)

abbrev pub tail_in : List ℕ → ℕ → ℕ
tail_in cells chain = slice_index cells (chain + 768)

-- the row behind that at a place in its chain, one more than its place; 0 where there is none
abbrev pub link_at : List ℕ → ℕ → ℕ
link_at cells k = slice_index cells (k * 8 + 1280 + 6)

-- the key that is kept of the row at a place
abbrev pub key_at : List ℕ → ℕ → ℕ
key_at cells k = slice_index cells (k * 8 + 1280 + 7)

-- whether the row at a place is of a scope and has a key, by what is kept of it
abbrev pub marked_by : List ℕ → ℕ → ℕ → ℕ → Bool
marked_by cells k scope key = cond (key_at cells k == key) ((row_at cells k).scope == scope) false

-- the chains and the keys that stand in the array are right for its rows and this text
pub record Linked (s cells : List ℕ) : Type 0 where
  pub heads : (chain : ℕ) → chain < 512 → head_in cells chain ≡ next_of (chain_at s cells) chain 0 (indexed cells)
  pub tails : (chain : ℕ) → chain < 512 → tail_in cells chain ≡ last_of (chain_at s cells) chain (indexed cells)
  pub links : (k : ℕ) → k < indexed cells → link_at cells k ≡ next_of (chain_at s cells) (chain_at s cells k) (k + 1) (indexed cells - (k + 1))
  pub keys : (k : ℕ) → k < indexed cells → key_at cells k ≡ key_by s (row_at cells k)

-- how many rows are ports; how many are of a sort; and how many inputs or outputs are in a scope
abbrev pub ports_kept : List ℕ → ℕ
ports_kept cells = slice_index cells 1

abbrev pub sorts_kept : List ℕ → ℕ → ℕ
sorts_kept cells sort = slice_index cells (sort + 8)

abbrev pub scopes_kept : List ℕ → ℕ → ℕ → ℕ
scopes_kept cells scope sort = slice_index cells (scope * 4 + (sort - 4) + 16)

-- the first row of a scope, one more than its place; 0 where there is none
abbrev pub first_kept : List ℕ → ℕ → ℕ
first_kept cells scope = slice_index cells (scope + 152)

-- the counts that stand in the array are right for its rows
pub record Counts (cells : List ℕ) : Type 0 where
  pub ports : ports_kept cells ≡ count is_port (rows_in cells (indexed cells))
  pub sorts : (sort : ℕ) → sort < 7 → sorts_kept cells sort ≡ count (is_sort sort) (rows_in cells (indexed cells))
  pub scopes : (scope sort : ℕ) → scope < 33 → 4 < sort → sort < 7 → scopes_kept cells scope sort ≡ count (is_port_of scope sort) (rows_in cells (indexed cells))
  pub firsts : (scope k : ℕ) → scope < 33 → k < indexed cells → (row_at cells k).scope ≡ scope → (0 < first_kept cells scope) × (first_kept cells scope ≤ k + 1)

-- the index that stands in the array is right for its rows and this text
pub record Indexed (s cells : List ℕ) : Type 0 where
  pub linked : Linked s cells
  pub counts : Counts cells

-- ---- one row more

-- the numbers of a row, no link to a row behind it in its chain, and its key
abbrev pub numbers : Row → ℕ → List ℕ
numbers row key = row.start ∷ row.end ∷ row.scope ∷ row.sort ∷ row.typ ∷ row.value ∷ 0 ∷ key ∷ []

-- where the link to the row behind the last of a chain stands: in that row, or with no row in the chain at its head
abbrev pub link_place : ℕ → ℕ → ℕ
link_place chain last = cond (last == 0) (chain + 256) ((last - 1) * 8 + 1280 + 6)

-- the array with this row at a place, the last of its chain and of all
unfoldable pub with_row : List ℕ → List ℕ → ℕ → Row → List ℕ
with_row s cells n row =
    let chain = chain_by s row in
    slice_set (slice_set (slice_set (sets cells (n * 8 + 1280) (numbers row (key_by s row))) (link_place chain (min (tail_in cells chain) n)) (n + 1)) (chain + 768) (n + 1)) 0 (n + 1)

-- one more than what stands at a place, which is at most n
abbrev pub one_more : List ℕ → ℕ → ℕ → ℕ
one_more cells place n = min (slice_index cells place) n + 1

-- where a row counts: among the ports or beside them; by its sort; by its scope and sort; and where the first of its scope is kept
abbrev pub kind_place : Row → ℕ
kind_place row = cond (is_port row) 1 2

abbrev pub sort_place : Row → ℕ
sort_place row = min row.sort 7 + 8

abbrev pub scope_place : Row → ℕ
scope_place row = min row.scope 33 * 4 + (min row.sort 7 - 4) + 16

abbrev pub first_place : Row → ℕ
first_place row = min row.scope 33 + 152

-- the first row of a scope, where one more stands in it
abbrev pub first_by : ℕ → ℕ → ℕ
first_by known new = cond (known == 0) new (min known new)

-- the array with this row counted, behind n others
unfoldable pub tallied : List ℕ → ℕ → Row → List ℕ
tallied cells n row =
    set
    (set
    (set
    (slice_set cells (kind_place row) (one_more cells (kind_place row) n))
    (sort_place row) (one_more cells (sort_place row) n))
    (scope_place row) (one_more cells (scope_place row) n))
    (first_place row) (first_by (slice_index cells (first_place row)) (n + 1))

-- the array with one row more behind the first n, where there is room
abbrev pub declared_in : List ℕ → List ℕ → ℕ → Row → List ℕ
declared_in s cells n row = cond (has_room cells n) (tallied (with_row s cells n row) n row) cells

-- the array and the number of rows behind a declaration: one row more where there is room, else as before
pub record Declared (s cells : List ℕ) (n : ℕ) (row : Row) (after : List ℕ) (count : ℕ) : Type 0 where
  pub array : after ≡ declared_in s cells n row
  pub rows : count ≡ cond (has_room cells n) (n + 1) n

-- ---- the table of names

-- the table without names: room for 424 rows
unfoldable pub empty_table : List ℕ
empty_table = replicate 4672 0

-- an array with these rows declared one after the other, behind the first k
unfoldable pub entered_in : List ℕ → List ℕ → ℕ → List Row → List ℕ
entered_in s cells k [] = cells
entered_in s cells k (row ∷ rows) = entered_in s (declared_in s cells k row) (k + 1) rows

-- the table of these names
unfoldable pub table_in : List ℕ → List Row → List ℕ
table_in s rows = entered_in s empty_table 0 rows
