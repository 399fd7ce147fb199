-- What the walks leave of a text without 2 and 3: the arrays of declarations and of modes hold its module, where it is within the rooms.
use Rattle.std.specs.Prelude.{ℕ, ◌≡◌, refl, List, [], false}
use Rattle.std.proofs.Math.Option.{none}
use Rattle.model.specs.Modules.{port_types, port_starts}
use Rattle.file.specs.References.{port_roles}
use Rattle.layout.specs.Plain.{task_rows}
use Rattle.text.specs.declared.State.{State}
use Rattle.text.specs.declared.State.TheVariants as Q
use Rattle.text.specs.declared.Item.{Item}
use Rattle.text.specs.Items.{items_of, syntax_of}
use Rattle.refusals.specs.Rules.{Env, nothing, grow}
use Rattle.names.specs.Tables.{rows_in}
use Rattle.accepted.specs.Steps.{Comes}
use Rattle.accepted.specs.Folds.{all_rows, last_env}
use Rattle.ports.specs.Boards.{Board, placed_by}
use Rattle.ports.specs.Laid.{Laid, bare, laid_by}
use Rattle.ports.specs.Holding.{Holds}
use Rattle.ports.specs.Placing.{blank_board, bare-holds, placed-holds}
use Rattle.sheets.specs.Sheets.{Sheet, planned}
use Rattle.sheets.specs.Held.{PlansHold}
use Rattle.sheets.specs.Walk.{inside_of, comes-in-order}
use Rattle.sheets.proofs.Kept.{plans-begin, plans-kept}
use Rattle.build.specs.Walks.{board_run, sheet_run}
use Rattle.build.specs.Along.{throughout}
use Rattle.build.specs.Sections.{Ordering, ordered}
use Rattle.build.specs.Tables.{blank_sheet}

-- before the first item there are no ports and no rows
none_yet : (◌≡◌ {A = List ℕ} [] (port_roles [] [] [])) × (◌≡◌ {A = List ℕ} [] (port_types [] [] [])) × (◌≡◌ {A = List ℕ} [] (port_starts [] [] [])) × (◌≡◌ {A = List (List ℕ)} [] (task_rows 0 []))
unfolding port_roles port_types port_starts task_rows
none_yet = (refl, refl, refl, refl)

module _ (s cells : List ℕ) (all : ℕ) (there : rows_in cells all ≡ all_rows s) (e : syntax_of s ≡ none) where
  pub modes-walked : PlansHold s false (last_env s).draft (sheet_run s cells all 0 (items_of s) blank_sheet)
  modes-walked = throughout s cells all there (λ k item sheet. planned s (rows_in cells all) (rows_in cells k) item sheet) (λ q env h. PlansHold s (inside_of q) env.draft h) keeps e blank_sheet (plans-begin s)
    where
      keeps : (q p : State) (at next : ℕ) (item : Item) (env : Env) (n : ℕ) (h : Sheet) → Comes s q at item p next → rows_in cells n ≡ env.rows → PlansHold s (inside_of q) env.draft h
          → PlansHold s (inside_of p) (grow s (all_rows s) env item).draft (planned s (rows_in cells all) (rows_in cells n) item h)
      keeps q p at next item env n h c r w =
          let o = comes-in-order c in
          rw (r, there) (rw o.inside-now at (plans-kept s (all_rows s) env.rows env.draft h (inside_of q) item o.ordered w))

  -- ---- declarations

  -- the arrays hold what is declared so far, and that is the draft's
  pub record Placed (q : State) (env : Env) (b : Board) : Type 0 where
    pub laid : Laid
    pub holds : Holds laid b
    pub order : Ordering q laid env.draft

  pub ports-walked : Placed Q.Finish (last_env s) (board_run s cells 0 (items_of s) blank_board)
  ports-walked = throughout s cells all there (λ k item board. placed_by s (rows_in cells k) item board) Placed keeps e blank_board begin
    where
      keeps : (q p : State) (at next : ℕ) (item : Item) (env : Env) (n : ℕ) (b : Board) → Comes s q at item p next → rows_in cells n ≡ env.rows → Placed q env b → Placed p (grow s (all_rows s) env item) (placed_by s (rows_in cells n) item b)
      keeps q p at next item env n b c r w =
          record { laid = laid_by s env.rows item w.laid; holds = rw r (placed-holds s env.rows w.laid b w.holds item); order = ordered s (all_rows s) env.rows w.laid env.draft c w.order }

      begin : Placed Q.Begin nothing blank_board
      begin = record { laid = bare; holds = bare-holds; order = (refl, record { tells = record { sensor-words = refl; actuator-words = refl; task-words = refl; output-words = refl; roles = none_yet.0; types = none_yet.1; starts = none_yet.2; rows = none_yet.3 }; no-actuators = λ n. refl; no-tasks = λ n. refl }) }
