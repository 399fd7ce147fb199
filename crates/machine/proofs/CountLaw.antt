-- Laws: releases so far equal terminations plus tasks out, over every history of calls: terminations of tasks that were out, tasks out by the word.
use Prim.Native.Nat.{ℕ, zero, suc, ◌+◌, ◌-◌, ◌^◌, ◌<◌}
use Rattle.std.proofs.Common.{arith, ap, ltb-true}
use Rattle.std.specs.Prelude.{◌≡◌, true, false, get_or, drop, length, ltb, Some, None, Ok, Err}
use Rattle.std.proofs.Math.Path.{refl}
use Rattle.std.proofs.Math.Bool.{Bool, cond}
use Rattle.std.proofs.Math.Option.{Option, none, some}
use mathlib.Core.List.{List, [], ◌∷◌}
use Rattle.std.proofs.Math.Dec.{lit<}
use Rattle.model.specs.Instructions.{Instr, nop, future, call, release, iff, jump, return, switch, Driver, updates, releases, terminates}
use Rattle.model.specs.Clock.{elapsed, Instant, early, due, missed, judged, fits}
use Rattle.machine.specs.declared.Reaction.TheVariants as R
use Rattle.machine.specs.Told.{Turn, Finishing}
use Rattle.machine.specs.Words.{has, joined, parted, count_from, count_in}
use Rattle.machine.specs.WordLaws.{has_within, hasnt-bit, set-fits, count-joined, count-parted}
use Rattle.machine.specs.Boards.{Board}
use Rattle.machine.specs.Instructions.{late, wild, astray, clash, Res, ok, bad, Future, Tally, no_tally, counted, step, Halt, Run, go_on, exec}
use Rattle.machine.specs.Store.{Store, driven, ended, ending_by, driver_at, released, store_ops, reaction}
use Rattle.machine.specs.Calls as C
use Rattle.machine.specs.Calls.{State, Ticked, came_to, reacted, sensed, reading_types, by_instant, next_task, tasks_out}
use Rattle.machine.specs.Asks.{Ask, tick, next, finish, asks, behind}
use Rattle.machine.specs.Leaves.{LeavesNext, LeavesFinish}
use Rattle.machine.proofs.Leaves.{next-leaves, finish-leaves}
use Rattle.machine.specs.Starts.{fresh}
use Rattle.machine.specs.Counts.{if_obeyed, tally_at, tally_of, Account, counting, history, opened}
-- ---- code whose releases name tasks that a word can hold

use Rattle.machine.specs.CountLaw.{Balanced, Square, Within}

drop-within : (n : ℕ) (code : List Instr) → Within code → Within (drop n code)
drop-within zero code fine = fine
drop-within (suc n) [] fine = tt
drop-within (suc n) (i ∷ rest) fine = drop-within n rest fine.1

pick-within : (test : Bool) (rest other : List Instr) → Within rest → Within other → Within (cond test rest other)
pick-within true rest other fine also = fine
pick-within false rest other fine also = also

abbrev Settled : ℕ → Tally → Res Store → Type 0
Settled first n (ok after) = Square first n after
Settled first n (bad fault) = Unit {0}

abbrev Squared : ℕ → Tally → Res (Halt Store) → Type 0
Squared first tally (ok halt) = Square first tally halt.store
Squared first tally (bad fault) = Unit {0}

part_small : (word task : ℕ) → word < 2 ^ 64 → parted word task < 2 ^ 64
part_small word task small = go (has word task)
  where
    go : (there : Bool) → cond there (word - 2 ^ task) word < 2 ^ 64
    go true = omega arith
    go false = small

join-small : (word task : ℕ) → word < 2 ^ 64 → task < 64 → has word task ≡ false → joined word task < 2 ^ 64
join-small word task small low lacks = rw lacks (go (ltb task 64))
  where
    go : (inside : Bool) → cond inside (word + 2 ^ task) word < 2 ^ 64
    go true = set-fits 64 task word low small (hasnt-bit word task lacks)
    go false = small

module _ (b : Board) (aside : List ℕ) (first : ℕ) (n : Tally) (s : Store) (square : Square first n s) where
  -- the same word, nothing counted
  still : (ports : List ℕ) → Square first (counted 0 0 n) (record { ports = ports; out = s.out; waiting = s.waiting; finished = s.finished })
  still ports = record { word = square.word; books = omega (arith, square.books) }

  ended-square : (task : ℕ) (out finished : Bool) → has s.out task ≡ out → Settled first (counted 0 (cond out 1 0) n) (ended b aside task s out finished)
  ended-square task false finished is = still s.ports
  ended-square task true false is = tt
  ended-square task true true is = record {
    word = part_small s.out task square.word;
    books = omega (arith, square.books, count-parted s.out task (has_within s.out task square.word is) is);
  }

  driven-square : (d : Driver) → Settled first (counted 0 (ending_by b aside d s) n) (driven b aside d s)
  driven-square (updates source target) = still _
  driven-square (releases task sources) = still _
  driven-square (terminates task) = ended-square task (has s.out task) (has s.finished task) refl

  released-square : (task : ℕ) → ltb task 64 ≡ true → (out : Bool) → has s.out task ≡ out → Settled first (counted 1 0 n) (released b aside task s out)
  released-square task low true is = tt
  released-square task low false is = record {
    word = join-small s.out task square.word (ltb-true task 64 low) is;
    books = omega (arith, square.books, count-joined s.out task (ltb-true task 64 low) is);
  }

module _ (b : Board) (aside : List ℕ) (first : ℕ) (fine : Within b.code) where
  abbrev runs : ℕ → List Instr → ℕ → Option Future → Tally → Store → Run Store
  runs most rest mode u n s = exec (store_ops b aside) b.begins b.code most rest mode u n s

  run-square : (most : ℕ) (rest : List Instr) (mode : ℕ) (u : Option Future) (n : Tally) (s : Store) → Within rest → Square first n s
      → Squared first (runs most rest mode u n s).tally (runs most rest mode u n s).res
  unfolding exec
  run-square zero rest mode u n s safe square = tt
  run-square (suc most) [] mode u n s safe square = tt
  run-square (suc most) (nop marker ∷ rest) mode u n s safe square = run-square most rest mode u (step n) s safe.1 (record { word = square.word; books = square.books })
  run-square (suc most) (future pc delay ∷ rest) mode none n s safe square =
      run-square most rest mode (some (record { pc = pc; delay = delay })) (step n) s safe.1 (record { word = square.word; books = square.books })
  run-square (suc most) (future pc delay ∷ rest) mode (some promised) n s safe square = tt
  run-square (suc most) (call driver ∷ rest) mode u n s safe square =
      go ((store_ops b aside).drive driver s) (driven-square b aside first n s square (driver_at b aside driver)) (λ after. run-square most rest mode u (counted 0 ((store_ops b aside).ending driver s) n) after safe.1)
    where
      go : (res : Res Store) → Settled first (counted 0 ((store_ops b aside).ending driver s) n) res
          → ((after : Store) → Square first (counted 0 ((store_ops b aside).ending driver s) n) after
          → Squared first (runs most rest mode u (counted 0 ((store_ops b aside).ending driver s) n) after).tally (runs most rest mode u (counted 0 ((store_ops b aside).ending driver s) n) after).res)
          → Squared first (go_on res (λ after. runs most rest mode u (counted 0 ((store_ops b aside).ending driver s) n) after)).tally (go_on res (λ after. runs most rest mode u (counted 0 ((store_ops b aside).ending driver s) n) after)).res
      go (ok after) settled on = on after settled
      go (bad fault) settled on = tt
  run-square (suc most) (release task ∷ rest) mode u n s safe square =
      go ((store_ops b aside).begin task s) (released-square b aside first n s square task safe.0 (has s.out task) refl) (λ after. run-square most rest mode u (counted 1 0 n) after safe.1)
    where
      go : (res : Res Store) → Settled first (counted 1 0 n) res
          → ((after : Store) → Square first (counted 1 0 n) after → Squared first (runs most rest mode u (counted 1 0 n) after).tally (runs most rest mode u (counted 1 0 n) after).res)
          → Squared first (go_on res (λ after. runs most rest mode u (counted 1 0 n) after)).tally (go_on res (λ after. runs most rest mode u (counted 1 0 n) after)).res
      go (ok after) settled on = on after settled
      go (bad fault) settled on = tt
  run-square (suc most) (iff guard other ∷ rest) mode u n s safe square =
      run-square most (cond ((store_ops b aside).test guard s) rest (drop other b.code)) mode u (step n) s
      (pick-within ((store_ops b aside).test guard s) rest (drop other b.code) safe.1 (drop-within other b.code fine)) (record { word = square.word; books = square.books })
  run-square (suc most) (jump pc ∷ rest) mode u n s safe square =
      run-square most (drop pc b.code) mode u (step n) s (drop-within pc b.code fine) (record { word = square.word; books = square.books })
  run-square (suc most) (return ∷ rest) mode none n s safe square = tt
  run-square (suc most) (return ∷ rest) mode (some promised) n s safe square = record { word = square.word; books = square.books }
  run-square (suc most) (switch target ∷ rest) mode u n s safe square =
      run-square most (drop (get_or b.begins target 0) b.code) target u (step n) s (drop-within (get_or b.begins target 0) b.code fine) (record { word = square.word; books = square.books })

-- a call that leaves the word and counts nothing
kept : (a : Account) (after : State) → after.store.out ≡ a.state.store.out → Balanced a → Balanced (counting a after no_tally)
kept a after same balanced = record {
  word = rw same balanced.word;
  books = omega (arith, balanced.books, ap count_in same);
}

came-balanced : (a : Account) (count : ℕ) (tally : Tally) (res : Res (Halt Store)) → Balanced a → Squared (tasks_out a.state) tally res
    → let r = came_to a.state count tally res in Balanced (counting a r.state (if_obeyed r.answer tally))
came-balanced a count tally (ok halt) balanced square = record { word = square.word; books = omega (arith, balanced.books, square.books) }
came-balanced a count tally (bad (late task)) balanced square = kept a _ refl balanced
came-balanced a count tally (bad wild) balanced square = kept a _ refl balanced
came-balanced a count tally (bad astray) balanced square = kept a _ refl balanced
came-balanced a count tally (bad clash) balanced square = kept a _ refl balanced

module _ (b : Board) (fine : Within b.code) where
  reacted-balanced : (a : Account) (count : ℕ) (words : List ℕ) → Balanced a
      → let r = reacted b a.state count words in Balanced (counting a r.state (if_obeyed r.answer (tally_at b a.state words)))
  unfolding reacted reaction
  reacted-balanced a count words balanced =
      let run = reaction b a.state.aside a.state.mode a.state.pc (sensed words a.state.store) in
      came-balanced a count run.tally run.res balanced
      (run-square b a.state.aside (tasks_out a.state) fine (length b.code) (drop a.state.pc b.code) a.state.mode none no_tally (sensed words a.state.store)
      (drop-within a.state.pc b.code fine) (record { word = balanced.word; books = refl }))

  tick-balanced : (a : Account) (count : ℕ) (types words : List ℕ) → Balanced a
      → let r = C.tick b a.state count types words in Balanced (counting a r.state (if_obeyed r.answer (tally_at b a.state words)))
  unfolding C.tick
  tick-balanced a count types words balanced = go a.state.stopped (fits (reading_types b) types words) (judged (elapsed a.state.clock count) a.state.remaining)
    where
      by : Bool → Bool → Instant → Ticked
      by stopped fit instant = cond stopped (record { answer = R.Refused 31; state = a.state }) (cond fit (by_instant b a.state count words instant) (record { answer = R.Refused 32; state = a.state }))

      go : (stopped fit : Bool) (instant : Instant) → Balanced (counting a (by stopped fit instant).state (if_obeyed (by stopped fit instant).answer (tally_at b a.state words)))
      go true fit instant = kept a _ refl balanced
      go false true (early left) = kept a _ refl balanced
      go false true due = reacted-balanced a count words balanced
      go false true missed = kept a _ refl balanced
      go false false instant = kept a _ refl balanced

  call-balanced : (a : Account) (one : Ask) → Balanced a → Balanced (counting a (asks b one a.state).state (tally_of b one a.state))
  call-balanced a (tick count types words) balanced = tick-balanced a count types words balanced
  call-balanced a next balanced = kept a _ (go (next_task a.state).answer (next-leaves a.state)) balanced
    where
      go : (answer : Turn) → LeavesNext a.state answer (next_task a.state).state → (next_task a.state).state.store.out ≡ a.state.store.out
      go (Ok (Some task)) left = ap (λ (after : State). after.store.out) left
      go (Ok None) left = ap (λ (after : State). after.store.out) left
      go (Err why) left = ap (λ (after : State). after.store.out) left
  call-balanced a (finish task types words) balanced = kept a _ (go (C.finish b a.state task types words).answer (finish-leaves b a.state task types words)) balanced
    where
      go : (answer : Finishing) → LeavesFinish a.state task words answer (C.finish b a.state task types words).state → (C.finish b a.state task types words).state.store.out ≡ a.state.store.out
      go (Ok _) left = ap (λ (after : State). after.store.out) left
      go (Err why) left = ap (λ (after : State). after.store.out) left

  history-balanced : (a : Account) (calls : List Ask) → Balanced a → Balanced (history b a calls)
  unfolding history
  history-balanced a [] balanced = balanced
  history-balanced a (one ∷ rest) balanced = history-balanced (counting a (asks b one a.state).state (tally_of b one a.state)) rest (call-balanced a one balanced)

  opened-balanced : (count : ℕ) (words : List ℕ) → Balanced (opened b count words)
  unfolding opened count_from
  opened-balanced count words = reacted-balanced (record { state = fresh b count; releases = 0; terminations = 0 }) count words (record { word = lit< tt; books = refl })

  -- Releases so far equal terminations plus tasks out, after a start and every history of calls.
  pub count_law : (count : ℕ) (words : List ℕ) (calls : List Ask)
      → let after = history b (opened b count words) calls in after.releases ≡ after.terminations + tasks_out after.state
  count_law count words calls = (history-balanced (opened b count words) calls (opened-balanced count words)).books

-- The machine of an account is the machine behind its calls.
pub history-behind : (b : Board) (a : Account) (calls : List Ask) → (history b a calls).state ≡ behind b calls a.state
unfolding history
history-behind b a [] = refl
history-behind b a (one ∷ rest) = history-behind b (counting a (asks b one a.state).state (tally_of b one a.state)) rest
