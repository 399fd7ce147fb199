-- The last stages: the table of an accepted text becomes its file. Writing it is never refused with 30.
use Rattle.std.specs.Prelude.{Result, Ok, Err, ℕ, ◌*◌, ◌≤◌, ◌<◌, ◌≡◌, Bool, false, ltb}
use native.Mathlib.Omega.{arith}
use Rattle.std.proofs.Math.Path.{refl, sym, ap}
use Rattle.std.proofs.Common.{ap₂, ◌∙◌, subst, ltb-true, ltb-false, le-leb}
use Rattle.std.proofs.Math.Bool.{true}
use mathlib.Core.List.{List}
use Rattle.std.proofs.Math.ListN.{length}
use Rattle.std.proofs.lemmas.Bool.{lt-leb}
use Rattle.model.specs.Rooms.{code_room}
use Rattle.refusals.specs.Texts.{module_of}
use Rattle.timing.specs.Code.{code_of}
use Rattle.file.specs.Answers.{writes, written}
use Rattle.file.specs.declared.Refused.{Refused as Refusal}
use Rattle.tables.specs.declared.Table.{Table as Plain}
use Rattle.text.specs.Items.{items_of}
use Rattle.layout.specs.Rows.{zeros}
use Rattle.layout.specs.Plain.{struct_of}
use Rattle.filing.specs.Whole.{roles_aside, file-aside}
use Rattle.ecode.specs.Sound.{bytes_of, Holds, holds-file}
use Rattle.prescribed.proofs.Acceptance.{free}
use Rattle.prescribed.specs.Tables.{table_of}
use Rattle.prescribed.specs.Compiled.{Compiled, Written, Refused}
use Rattle.prescribed.specs.Compiles.{file_of, in_room}
use Rattle.prescribed.specs.Answers.{answered, buffered}
use Rattle.accepted.specs.Accepts.{accepted}
use Rattle.accepted.specs.TableSound.{table-sound}
use Rattle.emit.specs.Held.{HoldsModes}
use Rattle.ports.specs.declared.Ports.{Ports}
use Rattle.ports.specs.Boards.{Board, board_of}
use Rattle.ports.specs.Placing.{blank_board}
use Rattle.sheets.specs.declared.Plan.{Plan}
use Rattle.sheets.specs.Sheets.{Sheet, sheet}
use Rattle.build.specs.Walks.{board_run, sheet_run}
use Rattle.build.specs.Tables.{blank_sheet, table_in}
use Rattle.build.specs.Accepting.{uncoded, plans-right, table-right}
use Rattle.coding.specs.Codings.{with_code, Coded}
use Rattle.coding.specs.Whole.{coded-right}
use Rattle.tdl.specs.Stages.{Compiles, Unbroken, answers, compiles, overfull, in-room}

-- the answer of the writer, a refusal at the text's end
abbrev pub told_at : ℕ → Result ℕ Refusal → Compiled
told_at end (Ok length) = Written length
told_at end (Err refused) = Refused refused.number end

-- the arrays that a text's declarations are put into, where they begin with zeros; one more has the ports' roles
pub record Declares (text names : List ℕ) (ports : Ports) (name sensor_names actuator_names task_names output_names types starts task_rows : List ℕ) : Type 0 where
  pub roles : List ℕ
  pub is : board_of ports name sensor_names actuator_names task_names output_names roles types starts task_rows ≡ board_run text names 0 (items_of text) blank_board

-- a file goes to a buffer with room for it, else 14
module _ (end : ℕ) (file before : List ℕ) where
  by-room : (b : Bool) → ltb (length before) (length file) ≡ b
      → (told_at end (writes true file before) ≡ answered (in_room end (length before) file)) × (written true file before ≡ buffered before (in_room end (length before) file))
  by-room true e = let l = lt-leb (length file) (length before) (ltb-true _ _ e) in rw (e, l) (refl, refl)
  by-room false e = let l = le-leb (length file) (length before) (ltb-false _ _ e) in rw (e, l) (refl, refl)

module _ {text names : List ℕ} {rows : ℕ} (a : Unbroken text names rows)
    {ports : Ports} {name sensor_names actuator_names task_names output_names types starts task_rows : List ℕ} (d : Declares text names ports name sensor_names actuator_names task_names output_names types starts task_rows)
    {plan : Plan} {guard_rows driver_rows acts mode_names mode_rows modes : List ℕ}
    (p : sheet plan guard_rows driver_rows acts mode_names mode_rows modes ≡ sheet_run text names rows 0 (items_of text) blank_sheet)
    {code heads : List ℕ} {count : ℕ} (c : Coded modes acts plan.filled.modes ports.tasks (zeros (3 * code_room)) mode_rows code heads count) where
  -- the table before its code is made
  abbrev bare : Plain
  bare = table_in (board_of ports name sensor_names actuator_names task_names output_names d.roles types starts task_rows) (sheet plan guard_rows driver_rows acts mode_names mode_rows modes)

  bare-is : bare ≡ struct_of (uncoded (module_of text))
  bare-is = ap₂ (λ (b : Board) (h : Sheet). table_in b h) d.is p ∙ table-right text names rows a.declared (free a.readable) a.verdict

  held : HoldsModes modes acts 0 (module_of text).modes
  held = subst (λ (h : Sheet). HoldsModes h.modes h.acts 0 (module_of text).modes) (sym p) (plans-right text names rows a.declared (free a.readable) a.verdict).modes-held

  coded : (count ≡ length (code_of (module_of text))) × (count ≤ code_room → with_code bare count heads code ≡ struct_of (table_of (module_of text)))
  coded =
      let W = accepted text (free a.readable) a.verdict in
      coded-right (module_of text) modes acts W.few-modes W.few-tasks held bare bare-is c

  -- 13
  pub too_much : {before : List ℕ} → code_room < count → Compiles text before (Refused 13 (length text)) before
  too_much {before} h = let n = coded.0 in compiles (overfull text (length before) a.readable a.verdict (omega arith))

  -- the file of the arrays as they then are
  abbrev pub filed : List ℕ
  filed = bytes_of (roles_aside (with_code bare count heads code))

  -- 14, or the file
  pub enough : {before after : List ℕ} {answer : Result ℕ Refusal} {result : Compiled} → count ≤ code_room → result ≡ told_at (length text) answer → answer ≡ writes true filed before → after ≡ written true filed before
      → Compiles text before result after
  unfolding file_of
  enough {before} h result told left =
      let M = module_of text in
      let n = coded.0 in
      let fits : length (code_of M) ≤ code_room = omega arith in
      let t = with_code bare count heads code in
      let holds : Holds t = record { table = table_of M; good = table-sound text (free a.readable) a.verdict fits; is = sym (coded.1 h) } in
      let bytes = file-aside 71364 t ∙ holds-file t holds in
      let c = in-room text (length before) a.readable a.verdict fits in
      let (p, q) = by-room (length text) (file_of M) before _ refl in
      answers (result ∙ ap (told_at (length text)) told ∙ ap (λ (l : List ℕ). told_at (length text) (writes true l before)) bytes ∙ p ∙ ap answered (sym c))
      (left ∙ ap (λ (l : List ℕ). written true l before) bytes ∙ q ∙ ap (buffered before) (sym c))
