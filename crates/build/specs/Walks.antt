-- The items of a text put into a state one after the other, each where the first rows of the table of names stand before it.
use Rattle.std.specs.Prelude.{ℕ, zero, suc, ◌+◌, ◌≤◌, ◌<◌, ◌≡◌, List, [], ◌∷◌, ◌++◌, Bool, not, length}
use Rattle.std.proofs.Common.{arith, sym, ap, ◌∙◌, leb-false, le-leb}
use Rattle.std.proofs.Math.Path.{refl}
use Rattle.std.proofs.Math.Bool.{true, false, cond}
use Rattle.std.proofs.Math.Dec.{leb}
use Rattle.std.proofs.lemmas.Bool.{lt-leb}
use Rattle.text.specs.declared.State.{State}
use Rattle.text.specs.declared.ReadItem.{ReadItem}
use Rattle.text.specs.declared.Item.{Item}
use Rattle.text.specs.declared.Item.TheVariants as I
use Rattle.text.specs.Items.{item_at, goes, items_from}
use Rattle.text.proofs.ItemsLaws.{from_on, from-stop, turn-ahead}
use Rattle.text.proofs.PartsLaws.{unsaid}
use Rattle.refusals.specs.declared.Row.{Row}
use Rattle.refusals.specs.Declarations.{declares}
use Rattle.names.specs.Tables.{row_at, rows_from, rows_in}
use Rattle.timing.specs.SlotLaws.{Each}
use Rattle.ports.specs.Boards.{Board, placed_by}
use Rattle.ports.specs.Parts.{Still}
use Rattle.sheets.specs.Sheets.{Sheet, planned}

-- how many names an item declares
abbrev pub declaring : Item → ℕ
declaring (I.Module name) = 0
declaring I.Section = 0
declaring (I.Constant name value) = 1
declaring (I.Sensor typ name getter) = 1
declaring (I.Actuator typ name value setter) = 1
declaring (I.TaskBegin name) = 1
declaring (I.Input typ name) = 1
declaring (I.Output typ name value) = 1
declaring (I.TaskEnd name) = 0
declaring (I.ModeBegin start at name digits milli) = 1
declaring (I.Activity kind at digits) = 0
declaring (I.Guard name arguments) = 0
declaring (I.GuardArg port) = 0
declaring (I.Invoke task arguments) = 0
declaring (I.Arg port) = 0
declaring (I.Update actuator source) = 0
declaring (I.Switch name) = 0
declaring I.ModeEnd = 0
declaring I.ModuleEnd = 0
declaring I.End = 0
declaring (I.No number at) = 0

-- a walk is over behind the last item, and where what would come next does not lie ahead
unfoldable pub over_by : Item → ℕ → ℕ → Bool
over_by item at next = cond (leb next at) true (not (goes item))

-- what some items leave, where n rows of names stand before the first of them
unfoldable pub runs : {B : Type 0} → (ℕ → Item → B → B) → ℕ → List Item → B → B
runs on n [] b = b
runs on n (item ∷ items) b = runs on (n + declaring item) items (on n item b)

-- the arrays of declarations behind some items
abbrev pub board_run : List ℕ → List ℕ → ℕ → List Item → Board → Board
board_run s cells n items b = runs (λ k item board. placed_by s (rows_in cells k) item board) n items b

-- the arrays of modes behind some items, where the table of names has so many rows in all
abbrev pub sheet_run : List ℕ → List ℕ → ℕ → ℕ → List Item → Sheet → Sheet
sheet_run s cells all n items h = runs (λ k item sheet. planned s (rows_in cells all) (rows_in cells k) item sheet) n items h

pub declares-many : (s : List ℕ) (rows : List Row) (item : Item) → length (declares s rows item) ≡ declaring item
declares-many s rows (I.Module name) = refl
declares-many s rows I.Section = refl
declares-many s rows (I.Constant name value) = refl
declares-many s rows (I.Sensor typ name getter) = refl
declares-many s rows (I.Actuator typ name value setter) = refl
declares-many s rows (I.TaskBegin name) = refl
declares-many s rows (I.Input typ name) = refl
declares-many s rows (I.Output typ name value) = refl
declares-many s rows (I.TaskEnd name) = refl
declares-many s rows (I.ModeBegin start at name digits milli) = refl
declares-many s rows (I.Activity kind at digits) = refl
declares-many s rows (I.Guard name arguments) = refl
declares-many s rows (I.GuardArg port) = refl
declares-many s rows (I.Invoke task arguments) = refl
declares-many s rows (I.Arg port) = refl
declares-many s rows (I.Update actuator source) = refl
declares-many s rows (I.Switch name) = refl
declares-many s rows I.ModeEnd = refl
declares-many s rows I.ModuleEnd = refl
declares-many s rows I.End = refl
declares-many s rows (I.No number at) = refl

-- the first rows of an array whose rows begin with these
pub rows-front : (cells : List ℕ) (m k : ℕ) (xs more : List Row) → rows_from m cells k ≡ xs ++ more → rows_from (length xs) cells k ≡ xs
unfolding rows_from
rows-front cells m k [] more e = refl
rows-front cells zero k (x ∷ xs) more e = absurd (let z : ◌≡◌ {A = ℕ} 0 1 = cc in omega arith)
rows-front cells (suc m) k (x ∷ xs) more e =
    let h : row_at cells k ≡ x = cc in
    let t : rows_from m cells (k + 1) ≡ xs ++ more = cc in
    rw (h, rows-front cells m (k + 1) xs more t) refl

-- ---- a turn of a loop over items: r is what was read

module _ {B : Type 0} (on : ℕ → Item → B → B) (s : List ℕ) (state : State) (at : ℕ) (r : ReadItem) (h : at ≤ length s) (p : r ≡ item_at s state at) (n : ℕ) (b : B) where
  pub run_on : goes r.item ≡ true → runs on n (items_from s state at) b ≡ runs on (n + declaring r.item) (items_from s r.state r.next) (on n r.item b)
  unfolding runs
  run_on e = let g : goes (item_at s state at).item ≡ true = rw p at e in rw (from_on s state at h g, p)

  pub run_out : goes r.item ≡ false → runs on n (items_from s state at) b ≡ on n r.item b
  unfolding runs
  run_out e = let g : goes (item_at s state at).item ≡ false = rw p at e in rw (from-stop s state at h g, p)

  -- the invariant of such a loop: what is left of the run is the whole
  pub run-again : {after whole : B} {d : ℕ} → goes r.item ≡ true → after ≡ on n r.item b → d ≡ declaring r.item → runs on n (items_from s state at) b ≡ whole
      → runs on (n + d) (items_from s r.state r.next) after ≡ whole
  run-again g e f w = rw (e, f) (sym (run_on g) ∙ w)

  pub run-over : {after whole : B} → goes r.item ≡ false → after ≡ on n r.item b → runs on n (items_from s state at) b ≡ whole → after ≡ whole
  run-over g e w = e ∙ sym (run_out g) ∙ w

-- items that put nothing into the arrays of declarations leave them as they are
pub still-run : (s cells : List ℕ) (n : ℕ) (items : List Item) (b : Board) → Each Still items → b ≡ board_run s cells n items b
unfolding runs
still-run s cells n [] b u = refl
still-run s cells n (item ∷ items) b u = u.0.same s (rows_in cells n) b ∙ still-run s cells (n + declaring item) items (placed_by s (rows_in cells n) item b) u.1

-- ---- whether a walk is over

module _ (item : Item) (at next : ℕ) where
  pub over-behind : next ≤ at → true ≡ over_by item at next
  unfolding over_by
  over-behind h = rw (le-leb next at h) refl

  pub over_last : at < next → not (goes item) ≡ over_by item at next
  unfolding over_by
  over_last h = rw (lt-leb next at h) refl

  -- one that is not over goes on, ahead
  pub on-ahead : over_by item at next ≡ false → (at < next) × (goes item ≡ true)
  unfolding over_by
  on-ahead e = by (leb next at) (goes item) refl refl e
    where
      by : (b g : Bool) → leb next at ≡ b → goes item ≡ g → cond b true (not g) ≡ false → (at < next) × (goes item ≡ true)
      by true g l f e = absurd (unsaid (sym e))
      by false true l f e = (leb-false next at l, f)
      by false false l f e = absurd (unsaid (sym e))

-- an item of a text with which a walk is over is its last
pub over-out : (s : List ℕ) (state : State) (at : ℕ) (r : ReadItem) → at ≤ length s → r ≡ item_at s state at → over_by r.item at r.next ≡ true → goes r.item ≡ false
over-out s state at r h p e = by (goes r.item) refl
  where
    by : (g : Bool) → goes r.item ≡ g → goes r.item ≡ false
    by false g = g
    by true g =
        let ahead = turn-ahead s state at r h p g in
        absurd (unsaid (sym (ap not g) ∙ over_last r.item at r.next ahead.0 ∙ e))

-- at most one
pub declaring-few : (item : Item) → declaring item ≤ 1
declaring-few (I.Module name) = omega arith
declaring-few I.Section = omega arith
declaring-few (I.Constant name value) = omega arith
declaring-few (I.Sensor typ name getter) = omega arith
declaring-few (I.Actuator typ name value setter) = omega arith
declaring-few (I.TaskBegin name) = omega arith
declaring-few (I.Input typ name) = omega arith
declaring-few (I.Output typ name value) = omega arith
declaring-few (I.TaskEnd name) = omega arith
declaring-few (I.ModeBegin start at name digits milli) = omega arith
declaring-few (I.Activity kind at digits) = omega arith
declaring-few (I.Guard name arguments) = omega arith
declaring-few (I.GuardArg port) = omega arith
declaring-few (I.Invoke task arguments) = omega arith
declaring-few (I.Arg port) = omega arith
declaring-few (I.Update actuator source) = omega arith
declaring-few (I.Switch name) = omega arith
declaring-few I.ModeEnd = omega arith
declaring-few I.ModuleEnd = omega arith
declaring-few I.End = omega arith
declaring-few (I.No number at) = omega arith
