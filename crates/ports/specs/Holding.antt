-- Arrays that hold what is declared so far, where it is within the rooms; and one more in each of them.
use Rattle.std.specs.Prelude.{ℕ, ◌+◌, ◌*◌, ◌≤◌, ◌<◌, ◌≡◌, refl, List, [], ◌∷◌, ◌++◌, length, set}
use Rattle.std.proofs.Common.{arith, sym, ap, ◌∙◌, length-append, take_all}
use Rattle.model.specs.Rooms.{name_room}
use Rattle.text.specs.declared.Name.{Name}
use Rattle.layout.specs.Rows.{padded, name_cells}
use Rattle.layout.specs.Filling.{stored, stored_one, padded-more, Rowed, rowed-more}
use Rattle.timing.specs.SlotLaws.{Each}
use Rattle.refusals.specs.Names.{letters}
use Rattle.accepted.specs.Lists.{each_first}
use Rattle.ports.specs.declared.Ports.{Ports}
use Rattle.ports.specs.Boards.{word, more, short_part, short_name, name_row, names_put, name_put, Lanes, lane_put, row_put, Board}
use Rattle.ports.specs.Laid.{NamesWithin, Within, Laid, Under, also, lane_also, under_cells}

-- ---- what is declared later takes nothing away

pub each_last : {A : Type 0} (C : A → Type 0) (xs : List A) (x : A) → Each C (xs ++ (x ∷ [])) → C x
each_last C [] x h = h.0
each_last C (y ∷ xs) x h = each_last C xs x h.1

pub names-before : (room : ℕ) (names : List (List ℕ)) (name : List ℕ) → NamesWithin room (also names name) → NamesWithin room names
names-before room names name w = record { short = each_first (λ n. length n ≤ name_room) names (name ∷ []) w.short; few = let e = length-append names (name ∷ []) in let f = w.few in omega arith }

-- ---- names

-- an array whose first rows are these names
pub record Rowing (room : ℕ) (names : List (List ℕ)) (array : List ℕ) (next : ℕ) : Type 0 where
  pub held : Rowed 33 (33 * room) name_cells names array
  pub behind : length names ≡ next

short-all : (s : List ℕ) (name : Name) → length (letters s name) ≤ name_room → short_name s name ≡ letters s name
unfolding short_part
short-all s name h = take_all 32 (letters s name) h

module _ (room : ℕ) (s : List ℕ) where
  pub rowing_more : {names : List (List ℕ)} {array : List ℕ} {next : ℕ} (name : Name) (at : ℕ) → at ≡ next * 33 → NamesWithin room (also names (letters s name))
      → Rowing room names array next → Rowing room (also names (letters s name)) (stored array at (name_row s name)) (next + 1)
  rowing_more {names} {array} {next} name at e w r =
      let n = length-append names (letters s name ∷ []) in
      let f = w.few in
      let b = r.behind in
      let h : length (letters s name) ≤ name_room = each_last (λ (l : List ℕ). length l ≤ name_room) names (letters s name) w.short in
      let held : Rowed 33 (33 * room) name_cells (also names (letters s name)) (stored array at (name_cells (letters s name))) = rowed-more 33 (33 * room) name_cells at (letters s name) (omega arith) (omega arith) (omega arith) r.held in
      record { held = rw (short-all s name h) held; behind = omega arith }

  -- the two names of a record
  pub rowing-both : {names : List (List ℕ)} {array : List ℕ} (first second : Name) (k : ℕ) → k < 64 → NamesWithin room (also (also names (letters s first)) (letters s second))
      → Rowing room names array (2 * k) → Rowing room (also (also names (letters s first)) (letters s second)) (names_put s k first second array) (2 * more k)
  rowing-both {names} {array} first second k l w r =
      let one = rowing_more first (k * 66) (omega arith) (names-before room (also names (letters s first)) (letters s second) w) r in
      let two = rowing_more second (k * 66 + 33) (omega arith) w one in
      record { held = two.held; behind = let b = two.behind in omega arith }

  -- a name in the next row
  pub rowing-next : {names : List (List ℕ)} {array : List ℕ} {next : ℕ} (name : Name) → next < 4294967295 → NamesWithin room (also names (letters s name))
      → Rowing room names array next → Rowing room (also names (letters s name)) (name_put s next name array) (more next)
  rowing-next {next = next} name l w r =
      let one = rowing_more name (next * 33) refl w r in
      record { held = one.held; behind = let b = one.behind in omega arith }

-- ---- ports

-- arrays whose first cells are these ports'
pub record Laning (lists arrays : Lanes) (port : ℕ) : Type 0 where
  pub roles : arrays.roles ≡ padded 320 lists.roles
  pub types : arrays.types ≡ padded 320 lists.types
  pub starts : arrays.starts ≡ padded 320 lists.starts
  pub next : port ≡ length lists.types

-- as many of each
pub record Even (l : Lanes) : Type 0 where
  pub roles : length l.roles ≡ length l.types
  pub starts : length l.starts ≡ length l.types

pub even-more : (role type start : ℕ) (l : Lanes) → Even l → Even (lane_also role type start l)
even-more role type start l e =
    let a = length-append l.roles (role ∷ []) in
    let b = length-append l.types (type ∷ []) in
    let c = length-append l.starts (start ∷ []) in
    let p = e.roles in
    let q = e.starts in
    record { roles = omega arith; starts = omega arith }

cell-more : (array list : List ℕ) (at cell : ℕ) → array ≡ padded 320 list → at ≡ length list → length list < 320 → set array at cell ≡ padded 320 (list ++ (cell ∷ []))
cell-more array list at cell e f h =
    ap (λ (l : List ℕ). set l at cell) e ∙ sym (stored_one (padded 320 list) at cell) ∙ padded-more 320 at list (cell ∷ []) f (omega arith)

pub laning-more : (lists arrays : Lanes) (port role type start : ℕ) → Even lists → length (lists.types ++ (type ∷ [])) ≤ 320 → Laning lists arrays port
    → Laning (lane_also role type start lists) (lane_put port role type start arrays) (more port)
laning-more lists arrays port role type start e h l =
    let n = length-append lists.types (type ∷ []) in
    let p = e.roles in
    let q = e.starts in
    let at = l.next in
    record {
      roles = cell-more arrays.roles lists.roles port role l.roles (omega arith) (omega arith);
      types = cell-more arrays.types lists.types port type l.types (omega arith) (omega arith);
      starts = cell-more arrays.starts lists.starts port start l.starts (omega arith) (omega arith);
      next = omega arith;
    }

-- ---- the rows of tasks, and the task under way

-- an array whose first rows are these
pub record Tasked (rows : List (List ℕ)) (array : List ℕ) (next : ℕ) : Type 0 where
  pub held : Rowed 4 128 (λ cells. cells) rows array
  pub behind : next ≡ length rows

-- the numbers of the task under way
pub record Underway (u : Under) (p : Ports) : Type 0 where
  pub first : p.first ≡ u.first
  pub inputs : p.inputs ≡ u.inputs
  pub outputs : p.outputs ≡ u.outputs

pub tasked-more : (rows : List (List ℕ)) (array : List ℕ) (u : Under) (p : Ports) → u.first + u.inputs ≤ 320 → length (rows ++ (under_cells u ∷ [])) ≤ 32 → Underway u p → Tasked rows array p.tasks
    → Tasked (rows ++ (under_cells u ∷ [])) (row_put p array) (more p.tasks)
tasked-more rows array u p small h g t =
    let n = length-append rows (under_cells u ∷ []) in
    let b = t.behind in
    let i = g.inputs in
    let f = g.first in
    let s : word (p.first + p.inputs) ≡ u.first + u.inputs = omega arith in
    let held : Rowed 4 128 (λ cells. cells) (rows ++ (under_cells u ∷ [])) (stored array (p.tasks * 4) (under_cells u)) = rowed-more 4 128 (λ cells. cells) (p.tasks * 4) (under_cells u) (omega arith) (omega arith) (omega arith) t.held in
    record { held = rw (s, f, i, g.outputs) held; behind = omega arith }

-- ---- all of them

-- every array holds its list, and every count is its length
pub record Fits (l : Laid) (b : Board) : Type 0 where
  pub title : Rowing 1 l.words.modules b.names.title (length l.words.modules)
  pub sensors : Rowing 64 l.words.sensors b.names.sensors (2 * b.counts.sensors)
  pub actuators : Rowing 64 l.words.actuators b.names.actuators (2 * b.counts.actuators)
  pub tasks : Rowing 64 l.words.tasks b.names.tasks b.counts.labels
  pub outputs : Rowing 128 l.words.outputs b.names.outputs b.counts.titles
  pub lanes : Laning l.lanes b.lanes b.counts.ports
  pub rows : Tasked l.rows b.rows b.counts.tasks
  pub under : Underway l.under b.counts

-- what holds of every list of items
pub record Well (l : Laid) : Type 0 where
  pub even : Even l.lanes
  pub inside : l.under.first + l.under.inputs + l.under.outputs ≤ length l.lanes.types

-- where what is declared is within the rooms, the arrays hold it
pub record Holds (l : Laid) (b : Board) : Type 0 where
  pub well : Well l
  pub fits : Within l → Fits l b
