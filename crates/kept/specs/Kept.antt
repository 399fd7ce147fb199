-- The items that an array of numbers keeps of a text.
use Rattle.std.specs.Prelude.{ℕ, zero, suc, ◌+◌, ◌-◌, ◌*◌, ◌/◌, ◌<◌, min, ◌≡◌, List, length, get_or, take, drop}
use Rattle.text.specs.declared.Item.{Item}
use Rattle.text.specs.declared.ReadItem.{ReadItem}
use Rattle.text.specs.Items.{item_at, items_from, items_of}
use Rattle.kept.specs.Rows.{state_of, name_at, fields_in, item_of, read_of}
use Rattle.kept.specs.States.{number_of}
use Rattle.kept.specs.Seen.{kind_of, first_of, seen_of, seen_in}

-- row k of an array
unfoldable pub row_of : List ℕ → ℕ → List ℕ
row_of memo k = take 16 (drop (k * 16 + 16) memo)

-- a row is the item of the text at its own place, in its own state
abbrev pub Right : List ℕ → List ℕ → Type 0
Right s row = read_of row ≡ item_at s (state_of (get_or row 1 0)) (get_or row 2 0)

-- and what a search looks at stands in it
abbrev pub Told : List ℕ → List ℕ → Type 0
Told s row = seen_in row ≡ seen_of (item_at s (state_of (get_or row 1 0)) (get_or row 2 0))

-- every row that the array holds is the item of this text at its place and state
pub record Kept (s memo : List ℕ) : Type 0 where
  pub each : (k : ℕ) → k < get_or memo 0 0 → Right s (row_of memo k)
  pub seen : (k : ℕ) → k < get_or memo 0 0 → Told s (row_of memo k)

-- a row holds an item, its kind and its first name
pub record Lies (row : List ℕ) (item : Item) : Type 0 where
  pub told : item_of (fields_in row) ≡ item
  pub kind : get_or row 0 0 ≡ kind_of item
  pub name : name_at row 5 ≡ first_of item

-- a row is the item of the text at this place, in the state of this number; and what a pass goes on by stands in it
pub record Laid (s : List ℕ) (before at : ℕ) (row : List ℕ) (sort beyond ahead : ℕ) : Type 0 where
  pub told : read_of row ≡ item_at s (state_of before) at
  pub seen : seen_in row ≡ seen_of (item_at s (state_of before) at)
  pub number : get_or row 1 0 ≡ before
  pub place : get_or row 2 0 ≡ at
  pub kind : sort ≡ get_or row 0 0
  pub after : beyond ≡ get_or row 3 0
  pub next : ahead ≡ get_or row 4 0

-- what a search looks at in a row that is the item of the text at this place, in the state of this number
pub record Looked (s : List ℕ) (state at sort start end beyond ahead : ℕ) : Type 0 where
  pub row : List ℕ
  pub told : read_of row ≡ item_at s (state_of state) at
  pub kind : sort ≡ get_or row 0 0
  pub from : start ≡ get_or row 5 0
  pub to : end ≡ get_or row 6 0
  pub behind : beyond ≡ get_or row 3 0
  pub next : ahead ≡ get_or row 4 0

-- ---- item by item

-- where an item begins: the number of the state, and the place
pub record Stand : Type 0 where
  pub state : ℕ
  pub at : ℕ

-- the item that begins there
abbrev pub read_at : List ℕ → Stand → ReadItem
read_at s b = item_at s (state_of b.state) b.at

-- where the next one begins
abbrev pub past : List ℕ → Stand → Stand
past s b = record { state = number_of (read_at s b).state; at = (read_at s b).next }

-- where item k begins, from a place on
unfoldable pub stand_from : List ℕ → Stand → ℕ → Stand
stand_from s b zero = b
stand_from s b (suc k) = past s (stand_from s b k)

-- where item k of a text begins
abbrev pub stand_of : List ℕ → ℕ → Stand
stand_of s k = stand_from s (record { state = 0; at = 0 }) k

-- a row is that of the item that begins there
pub record RowAt (s : List ℕ) (b : Stand) (row : List ℕ) : Type 0 where
  pub told : read_of row ≡ read_at s b
  pub seen : seen_in row ≡ seen_of (read_at s b)
  pub number : get_or row 1 0 ≡ b.state
  pub place : get_or row 2 0 ≡ b.at

-- the rows of the items from a place on: as many as there are items, or as there is room for; row k is item k, and the last row is the last item
pub record Listed (s : List ℕ) (b : Stand) (rows : List ℕ) (many : ℕ) : Type 0 where
  pub count : many ≡ min (length (items_from s (state_of b.state) b.at)) (length rows / 16)
  pub row : (k : ℕ) → k + 1 < many → RowAt s (stand_from s b k) (take 16 (drop (k * 16) rows))
  pub last : RowAt s (stand_from s b (length (items_from s (state_of b.state) b.at) - 1)) (take 16 (drop ((many - 1) * 16) rows))

-- the same of an array and a whole text; without room for a row it keeps none
pub record Keeps (s memo : List ℕ) : Type 0 where
  pub count : get_or memo 0 0 ≡ min (length (items_of s)) ((length memo - 16) / 16)
  pub row : (k : ℕ) → k + 1 < get_or memo 0 0 → RowAt s (stand_of s k) (row_of memo k)
  pub last : 0 < get_or memo 0 0 → RowAt s (stand_of s (length (items_of s) - 1)) (row_of memo (get_or memo 0 0 - 1))
