-- Where the pass stands in a text, and its turns: an item is judged, and what it declares and does is entered.
use Rattle.std.specs.Prelude.{◌≡◌, ℕ, ◌+◌, ◌<◌, ◌≤◌, Bool, true, false, List, [], ◌∷◌, ◌++◌, map, length, Result, Ok, Err, is_err, IsErr, IsErrAnd}
use Rattle.std.specs.Result.{result_and}
use Rattle.std.proofs.Common.{arith, ap, ◌∙◌}
use Rattle.std.proofs.Math.Path.{refl, sym}
use mathlib.Core.List.{append-nil}
use Rattle.text.specs.declared.State.{State}
use Rattle.text.specs.declared.State.TheVariants as Q
use Rattle.text.specs.declared.Item.{Item}
use Rattle.text.specs.declared.ReadItem.{ReadItem}
use Rattle.text.specs.declared.Refusal.{Refusal}
use Rattle.text.specs.Items.{item_at, goes, items_from, items_of}
use Rattle.text.proofs.ItemsLaws.{from_on, from-stop}
use Rattle.text.proofs.Advance.{item-ahead}
use Rattle.model.specs.Rooms.{activity_room}
use Rattle.refusals.specs.declared.Row.{Row}
use Rattle.refusals.specs.Verdicts.{Verdict, Fine}
use Rattle.refusals.specs.Checks.{first, is_fine}
use Rattle.refusals.specs.ChecksLaws.{first_on, first-stop}
use Rattle.refusals.specs.NamesLaws.{Sorted, rows-sorted}
use Rattle.refusals.specs.Declarations.{declares, rows_after}
use Rattle.refusals.specs.Draft.{blank}
use Rattle.refusals.specs.Rules.{Env, nothing, grow, rules, rules_from, env_after}
use Rattle.refusals.specs.Texts.{declared_by, verdict_of}
use Rattle.accepted.specs.Steps.{Comes, item-comes}
use Rattle.accepted.specs.RowsFit.{RowsFit, fitting}
use Rattle.names.specs.Tables.{rows_in}
use Rattle.judging.specs.Asking.{asked-none, asked-all}
use Rattle.names.specs.Index.{empty_table, table_in, Declared}
use Rattle.meanings.specs.Held.{rows_of, held_row}
use Rattle.meanings.specs.declared.declaring.Declaration.{Declaration}
use Rattle.meanings.specs.declared.declaring.Declaration.TheVariants.{Nothing, One}
use Rattle.noting.specs.declared.Known.{Known}
use Rattle.noting.specs.Known.{nothing_known, noted_by}
use Rattle.noting.specs.Laying.{Laid, Entered}
use Rattle.noting.specs.Rowed.{Rowed, rowed-first, rowed-size, rows-room, joins, rowed-on}
use Rattle.noting.specs.Drafted.{Drafted, drafted-on, drafted-first}
use Rattle.targets.specs.AheadLaws.{goes-plain, stop-quiet}
use Rattle.rules.specs.Meets.{Meets}
use Rattle.rules.specs.declared.Turn.{Turn}

-- the names that a text declares
abbrev pub all_names : List ℕ → List Row
all_names s = declared_by s (items_of s)

-- the items before a place broke no rule; what they tell is held, and the rest decides
pub record Going (s : List ℕ) (state : State) (at : ℕ) (cells : List ℕ) (n : ℕ) (known : Known) (rates tasks aims : List ℕ) : Type 0 where
  pub env : Env
  pub within : at ≤ length s
  pub left : verdict_of s ≡ first (rules_from s (all_names s) env (items_from s state at))
  pub declared : all_names s ≡ rows_after s env.rows (items_from s state at)
  pub rowed : Rowed s env.rows cells n
  pub drafted : Drafted state env.rows env.draft known rates tasks aims

-- the array and the number of its rows are the table of these names of a text
pub record Tabled (s : List ℕ) (names : List Row) (cells : List ℕ) (n : ℕ) : Type 0 where
  pub rows : rows_in cells n ≡ names
  pub size : n ≡ length names
  pub table : cells ≡ table_in s names

-- the answer of the pass, and with a fine one the names of the whole text
pub record Answered (s : List ℕ) (verdict : Verdict) (cells : List ℕ) (n : ℕ) : Type 0 where
  pub leftmost : verdict ≡ verdict_of s
  pub names : verdict ≡ Fine → Tabled s (all_names s) cells n

-- the pass has answered: with the number of the names, or with the leftmost that is broken
abbrev pub Ends : List ℕ → Result ℕ Refusal → List ℕ → Type 0
Ends s (Ok n) cells = Answered s Fine cells n
Ends s (Err r) cells = Answered s (Err r) cells 0

-- a turn of the pass over what was read: where others come behind it, the pass stands there, which is further on; where none do, it has answered
abbrev pub TurnedBy : Bool → List ℕ → ℕ → ReadItem → Turn → List ℕ → List ℕ → List ℕ → List ℕ → Type 0
TurnedBy true s from read turn cells rates tasks aims = (from < read.next) × Going s read.state read.next cells turn.rows turn.known rates tasks aims
TurnedBy false s from read turn cells rates tasks aims = Ends s (Ok turn.rows) cells

abbrev pub Turned : List ℕ → ℕ → ReadItem → Result Turn Refusal → List ℕ → List ℕ → List ℕ → List ℕ → Type 0
Turned s from read (Ok turn) cells rates tasks aims = TurnedBy (goes read.item) s from read turn cells rates tasks aims
Turned s from read (Err r) cells rates tasks aims = Ends s (Err r) cells

-- the turn of an item that breaks this, or else leaves so many names and this known
abbrev pub turn_of : ℕ → Verdict → Known → Result Turn Refusal
turn_of n verdict next = result_and verdict (Ok (record { rows = n; known = next }))

-- what an item breaks, what is known behind it, and what is laid ready, by what is known before it
pub record Acts (s : List ℕ) (env : Env) (item : Item) (rows : List Row) (verdict : Verdict) (known next : Known) (rates tasks aims rates_then tasks_then aims_then : List ℕ) : Type 0 where
  pub judged : verdict ≡ first (rules s (all_names s) env item)
  pub noted : next ≡ noted_by s rows known item
  pub laid : Laid s rows known item rates tasks aims rates_then tasks_then aims_then

-- what an item declares is entered in the table
pub record Enters (s cells : List ℕ) (n : ℕ) (item : Item) (cells_then : List ℕ) (count : ℕ) : Type 0 where
  pub declaration : Declaration
  pub declared : rows_of declaration ≡ map held_row (declares s (rows_in cells n) item)
  pub entered : Entered s cells n declaration cells_then count

-- a turn tells what an item breaks and what is known behind it; what the item declares is entered where it breaks nothing
pub record Told (s cells : List ℕ) (n : ℕ) (item : Item) (verdict : Verdict) (next : Known) (turn : Result Turn Refusal) (cells_then : List ℕ) : Type 0 where
  pub count : ℕ
  pub tells : turn ≡ turn_of count verdict next
  pub broken : is_fine verdict ≡ false → (cells_then ≡ cells) × (count ≡ n)
  pub entered : verdict ≡ Fine → Enters s cells n item cells_then count

-- an item that declares nothing leaves the table as it is
pub told-plain : {s cells : List ℕ} {n : ℕ} {item : Item} {verdict : Verdict} {next : Known} {turn : Result Turn Refusal} → turn ≡ turn_of n verdict next → declares s (rows_in cells n) item ≡ [] → Told s cells n item verdict next turn cells
told-plain {n = n} e q =
    record {
      count = n;
      tells = e;
      broken = λ f. (refl, refl);
      entered = λ f. record { declaration = Nothing; declared = rw q; entered = (refl, refl) };
    }

module _ {s cells : List ℕ} {n : ℕ} {item : Item} {verdict : Verdict} {next : Known} {turn : Result Turn Refusal} where
  -- what breaks a rule declares nothing
  pub told-broken : {r : Refusal} → IsErr turn × IsErrAnd turn (λ e. e ≡ r) → Err r ≡ verdict → Told s cells n item verdict next turn cells
  told-broken h p =
      record {
        count = n;
        tells = asked-none _ h p;
        broken = λ g. (refl, refl);
        entered = λ fine. let z : ◌≡◌ {A = ℕ} 0 1 = cc (p ∙ fine) in absurd (omega arith);
      }

  -- what breaks none enters what it declares
  pub told-new : {u : Unit {0}} {row : Row} {cells_then : List ℕ} (count : ℕ) → Ok u ≡ verdict → turn ≡ Ok (record { rows = count; known = next }) → Declared s cells n row cells_then count → rows_of (One row) ≡ map held_row (declares s (rows_in cells n) item)
      → Told s cells n item verdict next turn cells_then
  told-new {row = row} count fine e d q =
      record {
        count = count;
        tells = e ∙ asked-all fine;
        broken = λ f. let z : ◌≡◌ {A = ℕ} 0 1 = cc (ap is_fine fine ∙ f) in absurd (omega arith);
        entered = λ f. record { declaration = One row; declared = q; entered = d };
      }

-- the table without names, and arrays for the activities of a mode
pub record Spread (cells rates tasks aims : List ℕ) : Type 0 where
  pub no_names : cells ≡ empty_table
  pub long-rates : length rates ≡ activity_room
  pub long-tasks : length tasks ≡ activity_room
  pub long-aims : length aims ≡ activity_room

pub begins : (s : List ℕ) {cells rates tasks aims : List ℕ} → Spread cells rates tasks aims → Going s Q.Begin 0 cells 0 nothing_known rates tasks aims
begins s {cells} {rates} {tasks} {aims} l =
    record {
      env = nothing;
      within = omega arith;
      left = refl;
      declared = refl;
      rowed = rw l.no_names (rowed-first s);
      drafted = drafted-first blank rates tasks aims refl refl refl l.long-rates l.long-tasks l.long-aims;
    }

module _ {s : List ℕ} {state : State} {at : ℕ} {cells : List ℕ} {n : ℕ} {known : Known} {rates tasks aims : List ℕ} (g : Going s state at cells n known rates tasks aims) (read : ReadItem) (p : read ≡ item_at s state at) where
  comes-so : goes read.item ≡ true → Comes s state at read.item read.state read.next
  comes-so e = rw p (item-comes s state at (goes-plain (item_at s state at).item (rw p at e)))

  module _ {rates_then tasks_then aims_then : List ℕ} (l : Laid s (rows_in cells n) known read.item rates tasks aims rates_then tasks_then aims_then) where
    laid_so : Laid s g.env.rows known read.item rates tasks aims rates_then tasks_then aims_then
    laid_so = rw g.rowed.same at l

    pub meets : Meets s (all_names s) g.env state at known read.item cells n rates_then tasks_then aims_then
    meets =
        record {
          rates-before = rates;
          tasks-before = tasks;
          aims-before = aims;
          behind = read.state;
          next = read.next;
          comes = comes-so;
          within = g.within;
          declared = g.declared;
          rowed = g.rowed;
          laid = laid_so;
          drafted = g.drafted;
        }

    -- an item that is this one is judged by what is known where it stands
    pub acts-by : {item : Item} → read.item ≡ item → {verdict : Verdict} → (Meets s (all_names s) g.env state at known item cells n rates_then tasks_then aims_then → verdict ≡ first (rules s (all_names s) g.env item))
        → {next : Known} → next ≡ noted_by s (rows_in cells n) known item → Acts s g.env read.item (rows_in cells n) verdict known next rates tasks aims rates_then tasks_then aims_then
    acts-by told v q = record { judged = rw told (v (rw told at meets)); noted = rw told q; laid = l }

  -- the rules of this item come first, and then those of the rest
  item-first : (v : Verdict) → v ≡ first (rules s (all_names s) g.env read.item) → is_fine v ≡ false → v ≡ verdict_of s
  unfolding rules_from
  item-first v e f = by (goes item) refl
    where
      item : Item
      item = (item_at s state at).item

      told : v ≡ first (rules s (all_names s) g.env item)
      told = rw p at e

      stops : is_fine (first (rules s (all_names s) g.env item)) ≡ false
      stops = ap is_fine (sym told) ∙ f

      by : (b : Bool) → goes item ≡ b → v ≡ verdict_of s
      by true k = told ∙ sym (g.left ∙ rw (from_on s state at g.within k) (first-stop (rules s (all_names s) g.env item) _ stops))
      by false k = told ∙ sym (g.left ∙ rw (from-stop s state at g.within k) (first-stop (rules s (all_names s) g.env item) _ stops))

  -- a broken rule is the answer
  pub goes-out : (v : Verdict) (count : ℕ) → v ≡ first (rules s (all_names s) g.env read.item) → is_fine v ≡ false → Answered s v cells count
  goes-out v count e f = record { leftmost = item-first v e f; names = λ q. let z : ◌≡◌ {A = ℕ} 0 1 = cc (ap is_fine q) in absurd (omega arith) }

  -- no rule is broken up to the end
  pub goes-stop : first (rules s (all_names s) g.env read.item) ≡ Fine → goes read.item ≡ false → Answered s Fine cells n
  unfolding rules_from rows_after
  goes-stop v k =
      let item = (item_at s state at).item in
      let stop : goes item ≡ false = rw p at k in
      let fine : first (rules s (all_names s) g.env item) ≡ Fine = rw p at v in
      let items = from-stop s state at g.within stop in
      let all : all_names s ≡ g.env.rows = g.declared ∙ rw items (rw ((stop-quiet s [] item stop).0 g.env.rows, append-nil g.env.rows)) in
      record {
        leftmost = sym (g.left ∙ rw items (rw (append-nil (rules s (all_names s) g.env item)) fine));
        names = λ q. rw all (record { rows = g.rowed.same; size = sym (rowed-size g.rowed); table = g.rowed.table });
      }

  pub goes_on : {rates_then tasks_then aims_then : List ℕ} → Laid s (rows_in cells n) known read.item rates tasks aims rates_then tasks_then aims_then → first (rules s (all_names s) g.env read.item) ≡ Fine → goes read.item ≡ true
      → {cells_then : List ℕ} {count : ℕ} → Enters s cells n read.item cells_then count
      → {more : Known} → more ≡ noted_by s (rows_in cells n) known read.item → (at < read.next) × Going s read.state read.next cells_then count more rates_then tasks_then aims_then
  unfolding rules_from rows_after env_after
  goes_on {rates_then} {tasks_then} {aims_then} l v k {cells_then} {count} d {more} q =
      let item = read.item in
      let env = g.env in
      let all = all_names s in
      let come = comes-so k in
      let ahead : (at < read.next) × (read.next ≤ length s) = rw p (item-ahead s state at g.within (rw p at k)) in
      let items : items_from s state at ≡ item ∷ items_from s read.state read.next = rw p (from_on s state at g.within (rw p at k)) in
      let fits : RowsFit (env.rows ++ declares s env.rows item) = fitting s all (grow s all env item) env come v (record { items = []; to = refl }) g.rowed.fits in
      let sorted : Sorted (env.rows ++ declares s env.rows item) = rows-sorted s env.rows (item ∷ []) g.rowed.sorted in
      let entry : rows_of d.declaration ≡ map held_row (declares s env.rows item) = rw g.rowed.same at d.declared in
      let note : more ≡ noted_by s env.rows known item = rw g.rowed.same at q in (
        ahead.0,
        record {
          env = grow s all env item;
          within = ahead.1;
          left = g.left ∙ rw items (first_on (rules s all env item) _ v);
          declared = g.declared ∙ rw items;
          rowed = rowed-on g.rowed (declares s env.rows item) fits sorted (joins s all env item v) d.declaration entry cells_then count d.entered;
          drafted = rw note (drafted-on s all env known rates tasks aims rates_then tasks_then aims_then come v (rows-room g.rowed) g.rowed.fits (rw g.rowed.same at l) g.drafted);
        },
      )

  -- the turn of an item behind which others come
  pub goes-told : {verdict : Verdict} {next : Known} {turn : Result Turn Refusal} {cells_then rates_then tasks_then aims_then : List ℕ} → Acts s g.env read.item (rows_in cells n) verdict known next rates tasks aims rates_then tasks_then aims_then
      → goes read.item ≡ true → Told s cells n read.item verdict next turn cells_then → Turned s at read turn cells_then rates_then tasks_then aims_then
  goes-told {verdict} {next} {turn} {cells_then} {rates_then} {tasks_then} {aims_then} a k t = rw t.tells (by verdict refl)
    where
      by : (v : Verdict) → verdict ≡ v → Turned s at read (turn_of t.count v next) cells_then rates_then tasks_then aims_then
      by (Ok fine) e = rw k (goes_on a.laid (sym a.judged ∙ e) k (t.entered e) a.noted)
      by (Err r) e = rw (t.broken (ap is_fine e)).0 (goes-out (Err r) 0 (sym e ∙ a.judged) refl)

  -- the turn of an item that is this one
  pub turns : {item : Item} → read.item ≡ item → {rates_then tasks_then aims_then : List ℕ} → Laid s (rows_in cells n) known item rates tasks aims rates_then tasks_then aims_then
      → {verdict : Verdict} → (Meets s (all_names s) g.env state at known item cells n rates_then tasks_then aims_then → verdict ≡ first (rules s (all_names s) g.env item))
      → {next : Known} → next ≡ noted_by s (rows_in cells n) known item → goes item ≡ true → {turn : Result Turn Refusal} {cells_then : List ℕ} → Told s cells n item verdict next turn cells_then → Turned s at read turn cells_then rates_then tasks_then aims_then
  turns {item} same {rates_then} {tasks_then} {aims_then} l {verdict} v {next} q k {turn} {cells_then} t =
      let told : Told s cells n read.item verdict next turn cells_then = rw same t in
      let laid : Laid s (rows_in cells n) known read.item rates tasks aims rates_then tasks_then aims_then = rw same l in
      let on : goes read.item ≡ true = rw same k in
      goes-told (acts-by laid same v q) on told

  -- the answer at an item behind which nothing comes
  pub goes_over : (v : Verdict) → v ≡ first (rules s (all_names s) g.env read.item) → goes read.item ≡ false → Turned s at read (turn_of n v known) cells rates tasks aims
  goes_over (Ok fine) e k = rw k (goes-stop (sym e) k)
  goes_over (Err r) e k = goes-out (Err r) 0 e refl

-- ---- the answer as a whole

-- for a text that breaks no rule the number of its names, for any other its refusal
abbrev pub judged_by : Verdict → List Row → Result ℕ Refusal
judged_by verdict names = result_and verdict (Ok (length names))

-- what a text is answered with
abbrev pub judged : List ℕ → Result ℕ Refusal
judged s = judged_by (verdict_of s) (all_names s)

-- for a text that breaks no rule the table of its names, for any other the table without names
abbrev pub tabled_by : List ℕ → Verdict → List Row → List ℕ
tabled_by s (Ok fine) names = table_in s names
tabled_by s (Err r) names = empty_table

-- the table of a text's names
abbrev pub tabled : List ℕ → List ℕ
tabled s = tabled_by s (verdict_of s) (all_names s)

-- what an answer says of the rules
abbrev pub verdict_in : Result ℕ Refusal → Verdict
verdict_in (Ok n) = Fine
verdict_in (Err r) = Err r

-- an answer and a table are a text's
pub record Judges (s : List ℕ) (answer : Result ℕ Refusal) (cells : List ℕ) : Type 0 where
  pub leftmost : verdict_in answer ≡ verdict_of s
  pub names : (n : ℕ) → answer ≡ Ok n → rows_in cells n ≡ all_names s
  pub answers : answer ≡ judged s
  pub table : cells ≡ tabled s

module _ {s : List ℕ} (cells : List ℕ) where
  pub judges-no : (answer : Result ℕ Refusal) → is_err answer ≡ true → Ends s answer cells → Judges s answer empty_table
  judges-no (Ok n) e a = let z : ◌≡◌ {A = ℕ} 0 1 = cc in absurd (omega arith)
  judges-no (Err r) e a =
      record {
        leftmost = a.leftmost;
        names = λ n e. let z : ◌≡◌ {A = ℕ} 0 1 = cc in absurd (omega arith);
        answers = rw (← a.leftmost);
        table = rw (← a.leftmost);
      }

  pub judges-fine : (answer : Result ℕ Refusal) → is_err answer ≡ false → Ends s answer cells → Judges s answer cells
  judges-fine (Ok n) e a =
      let w = a.names refl in
      record {
        leftmost = a.leftmost;
        names = λ m e. let same : n ≡ m = cc in rw (← same) w.rows;
        answers = rw (← a.leftmost, ← w.size);
        table = w.table ∙ rw (← a.leftmost);
      }
  judges-fine (Err r) e a = let z : ◌≡◌ {A = ℕ} 0 1 = cc in absurd (omega arith)
