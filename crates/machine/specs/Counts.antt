-- Releases, and terminations of tasks that were out, counted from the history of calls that did not fault (document 01, 'How far a contract must go').
use Rattle.std.specs.Prelude.{ℕ, ◌+◌, List, [], ◌∷◌}
use Rattle.machine.specs.declared.Reaction.{Reaction}
use Rattle.machine.specs.declared.Reaction.TheVariants.{Obeyed, Idle, Refused, Late, Fault}
use Rattle.machine.specs.Boards.{Board}
use Rattle.machine.specs.Instructions.{Tally, no_tally}
use Rattle.machine.specs.Store.{reaction}
use Rattle.machine.specs.Calls as C
use Rattle.machine.specs.Calls.{State, reacted, sensed}
use Rattle.machine.specs.Asks.{Ask, tick, next, finish, asks}
use Rattle.machine.specs.Starts.{fresh}

-- A reaction counts where it is answered with its instructions; idle, refused and faulted calls count nothing.
abbrev pub if_obeyed : Reaction → Tally → Tally
if_obeyed (Obeyed instructions) tally = tally
if_obeyed Idle tally = no_tally
if_obeyed (Refused number) tally = no_tally
if_obeyed (Late task) tally = no_tally
if_obeyed (Fault number) tally = no_tally

module _ (b : Board) where
  -- what the reaction to these readings counts: instructions obeyed, tasks released, tasks terminated that were out
  abbrev pub tally_at : State → List ℕ → Tally
  tally_at m words = (reaction b m.aside m.mode m.pc (sensed words m.store)).tally

  -- what a call counts
  abbrev pub tally_of : Ask → State → Tally
  tally_of (tick count types words) m = if_obeyed (C.tick b m count types words).answer (tally_at m words)
  tally_of next m = no_tally
  tally_of (finish task types words) m = no_tally

-- A machine with what was released, and what was terminated that was out, so far.
pub record Account : Type 0 where
  pub state : State
  pub releases : ℕ
  pub terminations : ℕ

-- an account with a call's counts added
abbrev pub counting : Account → State → Tally → Account
counting a state tally = record { state = state; releases = a.releases + tally.begun; terminations = a.terminations + tally.ended }

-- after every call of a history
unfoldable pub history : Board → Account → List Ask → Account
history b a [] = a
history b a (one ∷ rest) = history b (counting a (asks b one a.state).state (tally_of b one a.state)) rest

-- the account of a start that was not refused
unfoldable pub opened : Board → ℕ → List ℕ → Account
opened b count words =
    let m = fresh b count in
    let r = reacted b m count words in
    counting (record { state = m; releases = 0; terminations = 0 }) r.state (if_obeyed r.answer (tally_at b m words))
