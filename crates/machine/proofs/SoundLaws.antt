-- Laws: what soundness says of a table's tasks and releases: every task that the code releases is one of the table's, of which there are at most 32.
use Rattle.std.specs.Prelude.{ℕ, ◌+◌, ◌≤◌, ◌≡◌, refl, true, ◌&&◌, List, [], ◌∷◌, length, eqb, ltb}
use Rattle.std.proofs.Common.{arith, sym, ◌∙◌, ap, ltb-true, leb-true, lt-ltb}
use Rattle.codec.proofs.Codecs.{and_left, and_right}
use Rattle.codec.specs.Sequences.{dep, dep_ok}
use Rattle.codec.specs.Views.{shape, view_ok}
use Rattle.codec.proofs.Views.{check-ok}
use Rattle.codec.proofs.Lists.{running-ok}
use Rattle.model.specs.Instructions.{Instr, nop, future, call, release, iff, jump, return, switch}
use Rattle.model.specs.Modules.{port_types}
use Rattle.model.specs.Clock.{fits}
use Rattle.file.specs.Tables.{ModeRow, Table}
use Rattle.file.specs.Parts.{all_in, count}
use Rattle.file.specs.Names.{name}
use Rattle.file.specs.Records.{sensors, actuators, tasks}
use Rattle.file.specs.References.{port_roles, good_driver, good_guard, good_instruction, start_modes, good_references}
use Rattle.file.specs.Files.{table, version_of, table_by, sound}
use Rattle.machine.specs.Boards.{board_of}
use Rattle.machine.specs.Calls.{State, reading_types, tasks_out}
use Rattle.machine.specs.Starts.{start}
use Rattle.machine.specs.Asks.{Ask, behind}
use Rattle.machine.specs.Counts.{history, opened}
use Rattle.machine.specs.CountLaw.{within, Within}
use Rattle.machine.proofs.CountLaw.{count_law, history-behind}

tasks-room : (t : Table) → (table_by (version_of t)).ok t ≡ true → length t.tasks ≤ 32
unfolding table table_by version_of shape view_ok dep dep_ok tasks count
tasks-room t fine =
    let good = and_left _ _ (and_right (actuators.ok t.actuators) _ (and_right (sensors.ok t.sensors) _ (and_right (name.ok t.name) _ fine))) in
    leb-true _ _ (check-ok _ _ _ _ (running-ok _ _ _ _ _ good).0).0

released-within : (t : Table) → length t.tasks ≤ 32 → (i : Instr) → good_instruction t i ≡ true → within i ≡ true
unfolding good_instruction
released-within t few (release task) good = lt-ltb task 64 (omega (arith, ltb-true task (length t.tasks) good))
released-within t few (nop marker) good = refl
released-within t few (future pc delay) good = refl
released-within t few (call driver) good = refl
released-within t few (iff guard pc) good = refl
released-within t few (jump pc) good = refl
released-within t few return good = refl
released-within t few (switch mode) good = refl

all-within : (t : Table) → length t.tasks ≤ 32 → (code : List Instr) → all_in (good_instruction t) code ≡ true → Within code
unfolding all_in
all-within t few [] good = tt
all-within t few (i ∷ code) good = (released-within t few i (and_left _ _ good), all-within t few code (and_right (good_instruction t i) _ good))

pub sound-within : (t : Table) → sound t ≡ true → Within t.code
unfolding sound good_references
sound-within t is-sound =
    let roles = port_roles t.sensors t.actuators t.tasks in
    let types = port_types t.sensors t.actuators t.tasks in
    let begins = all_in (λ (m : ModeRow). ltb m.begin (length t.code)) t.modes in
    let rows = all_in (good_driver roles types t.tasks) t.drivers && all_in (good_guard roles types) t.guards in
    let good = and_right (begins && eqb (start_modes t.modes) 1) _ (and_right rows _ (and_right ((table_by (version_of t)).ok t) _ is-sound)) in
    all-within t (tasks-room t (and_left _ _ is-sound)) t.code good

-- Releases so far equal terminations plus tasks out, over every history of calls of a machine on a table that the reader can return.
pub sound-count-law : (t : Table) → sound t ≡ true → (count : ℕ) (words : List ℕ) (calls : List Ask)
    → let after = history (board_of t) (opened (board_of t) count words) calls in after.releases ≡ after.terminations + tasks_out after.state
sound-count-law t is-sound count words calls = count_law (board_of t) (unfold board_of in sound-within t is-sound) count words calls

-- the account opens where a start that is not refused leaves the machine
pub start-opens : (t : Table) (count : ℕ) (types words : List ℕ) → sound t ≡ true → fits (reading_types (board_of t)) types words ≡ true
    → (start t count types words).state ≡ (opened (board_of t) count words).state
unfolding start opened
start-opens t count types words is-sound fit = rw (is-sound, fit) refl

-- Releases so far equal terminations plus tasks out, from a start on, behind every list of calls.
pub started-count-law : (t : Table) (count : ℕ) (types words : List ℕ) → sound t ≡ true → fits (reading_types (board_of t)) types words ≡ true → (calls : List Ask)
    → let account = history (board_of t) (opened (board_of t) count words) calls in
    account.releases ≡ account.terminations + tasks_out (behind (board_of t) calls (start t count types words).state)
started-count-law t count types words is-sound fit calls =
    let b = board_of t in
    let from = opened b count words in
    let there : (history b from calls).state ≡ behind b calls (start t count types words).state = history-behind b from calls ∙ ap (behind b calls) (sym (start-opens t count types words is-sound fit)) in
    sound-count-law t is-sound count words calls ∙ ap (λ (m : State). (history b from calls).terminations + tasks_out m) there
