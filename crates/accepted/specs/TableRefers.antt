-- The table of an accepted text refers only to what is there (document 01, 'The file', refusal 24).
use Rattle.std.specs.Prelude.{ℕ, suc, ◌+◌, ◌≤◌, ◌<◌, ◌≡◌, Bool, cond}
use Rattle.std.proofs.Common.{arith, ap, ◌∙◌}
use Rattle.std.proofs.Math.Path.{refl}
use mathlib.Core.List.{List, [], ◌∷◌, map}
use Rattle.std.proofs.Math.Bool.{true}
use Rattle.std.proofs.Math.Option.{none}
use borrow.Author.Tests.{lt-ltb, eq-eqb}
use Rattle.std.proofs.Math.Dec.{eqb, ltb}
use Rattle.std.proofs.Math.ListN.{length, length-map}
use Rattle.codec.proofs.Codecs.{and_both}
use Rattle.model.specs.Modules.{Module, Mode, Task, Act, Call, Update, each}
use Rattle.model.specs.Instructions.{Instr, nop, future, call, release, iff, jump, return, switch, Driver, updates, releases}
use Rattle.file.specs.Parts.{all_in}
use Rattle.file.specs.Tables.{ModeRow, GuardRow}
use Rattle.file.specs.References.{good_driver, good_guard, good_instruction, start_modes, good_references}
use Rattle.prescribed.specs.Tables.{guard_row, mode_rows, table_of}
use Rattle.text.specs.Items.{syntax_of}
use Rattle.timing.specs.SlotLaws.{Each}
use Rattle.timing.specs.Accepted.{Accepted, CallFits, ModeFits}
use Rattle.timing.specs.Code.{terminates_from, mode_drivers, mode_driver_count, drivers_of, begins_from, begins_of, mode_code, code_of}
use Rattle.refusals.specs.Verdicts.{Fine}
use Rattle.refusals.specs.Texts.{verdict_of, module_of}
use Rattle.accepted.specs.Lists.{each_append, each-mapped}
use Rattle.accepted.specs.CodeFits.{Good, driver_count, code-good, begins-in, every-mode}
use Rattle.accepted.specs.Meanings.{roles_of, types_of}
use Rattle.accepted.specs.Takes.{Taken, Drives, modes-drive}
use Rattle.accepted.specs.GuardTypes.{GuardGood, guards-good}
use Rattle.accepted.specs.Starts.{starts_in, start-once}
use Rattle.accepted.specs.Accepts.{accepted}

pub all_in_lem : {A : Type 0} (test : A → Bool) (C : A → Type 0) → ((x : A) → C x → test x ≡ true) → (xs : List A) → Each C xs → all_in test xs ≡ true
unfolding all_in
all_in_lem test C f [] h = refl
all_in_lem test C f (x ∷ xs) h = and_both (f x h.0) (all_in_lem test C f xs h.1)

-- ---- drivers

module _ (M : Module) where
  abbrev pub GoodDriver : Driver → Type 0
  GoodDriver driver = good_driver (roles_of M) (types_of M) M.tasks driver ≡ true

  terminates-good : (k : ℕ) (tasks : List Task) → k + length tasks ≤ length M.tasks → Each GoodDriver (terminates_from k tasks)
  unfolding good_driver
  terminates-good k [] l = tt
  terminates-good k (task ∷ tasks) l = (lt-ltb k (length M.tasks) (omega arith), terminates-good (k + 1) tasks (omega arith))

  release-good : (a : Act Call) → CallFits M a → Taken M a → GoodDriver (releases a.what.task a.what.sources)
  unfolding good_driver
  release-good a f t = and_both (lt-ltb _ _ f.task) t

  calls-good : (calls : List (Act Call)) → Each (CallFits M) calls → Each (Taken M) calls → Each (λ a. GoodDriver (releases a.what.task a.what.sources)) calls
  calls-good [] f t = tt
  calls-good (a ∷ calls) f t = (release-good a f.0 t.0, calls-good calls f.1 t.1)

  modes-good : (ms : List Mode) → Each (ModeFits M) ms → Each (Drives M) ms → Each GoodDriver (each mode_drivers ms)
  modes-good [] f d = tt
  modes-good (m ∷ ms) f d =
      each_append GoodDriver (mode_drivers m) (each mode_drivers ms)
      (each_append GoodDriver (map (λ a. updates a.what.source a.what.target) m.updates) (map (λ a. releases a.what.task a.what.sources) m.calls)
      (each-mapped GoodDriver (λ (a : Act Update). updates a.what.source a.what.target) m.updates d.0.updated)
      (each-mapped GoodDriver (λ (a : Act Call). releases a.what.task a.what.sources) m.calls (calls-good m.calls f.0.calls d.0.taken)))
      (modes-good ms f.1 d.1)

  drivers-good : Accepted M → Each (Drives M) M.modes → Each GoodDriver (drivers_of M)
  unfolding drivers_of
  drivers-good W d = each_append GoodDriver (terminates_from 0 M.tasks) (each mode_drivers M.modes) (terminates-good 0 M.tasks (omega arith)) (modes-good M.modes (every-mode M M.modes W.modes) d)

-- ---- modes

begins-length : (n : ℕ) (ms : List Mode) (pc : ℕ) → length (begins_from n ms pc) ≡ length ms
unfolding begins_from
begins-length n [] pc = refl
begins-length n (m ∷ ms) pc = ap suc (begins-length (n + mode_driver_count m) ms (pc + length (mode_code n m pc)))

pub mode-rows-length : (ms : List Mode) (begins : List ℕ) → length begins ≡ length ms → length (mode_rows ms begins) ≡ length ms
mode-rows-length [] begins e = refl
mode-rows-length (m ∷ ms) [] e = absurd (omega arith)
mode-rows-length (m ∷ ms) (begin ∷ begins) e = ap suc (mode-rows-length ms begins (omega arith))

rows-begin : (size : ℕ) (ms : List Mode) (begins : List ℕ) → Each (λ b. b < size) begins → Each (λ m. m.begin < size) (mode_rows ms begins)
rows-begin size [] begins h = tt
rows-begin size (m ∷ ms) [] h = tt
rows-begin size (m ∷ ms) (begin ∷ begins) h = (h.0, rows-begin size ms begins h.1)

rows_start : (ms : List Mode) (begins : List ℕ) → length begins ≡ length ms → start_modes (mode_rows ms begins) ≡ starts_in ms
rows_start [] begins e = refl
rows_start (m ∷ ms) [] e = absurd (omega arith)
rows_start (m ∷ ms) (begin ∷ begins) e = ap (λ (n : ℕ). cond m.start 1 0 + n) (rows_start ms begins (omega arith))

pub begins-as-many : (M : Module) → length (begins_of M) ≡ length M.modes
unfolding begins_of
begins-as-many M = begins-length (length M.tasks) M.modes 0

-- ---- code

module _ (M : Module) where
  instruction-good : (i : Instr) → Good (length (code_of M)) (driver_count M) M i → good_instruction (table_of M) i ≡ true
  unfolding good_instruction table_of
  instruction-good (nop marker) h = refl
  instruction-good (future pc delay) h = lt-ltb _ _ h.0
  instruction-good (call driver) h = lt-ltb _ _ h
  instruction-good (release task) h = lt-ltb _ _ h
  instruction-good (iff guard pc) h = let n = length-map M.guards guard_row in and_both (lt-ltb guard (length (map guard_row M.guards)) (omega (arith, n, h.0))) (lt-ltb _ _ h.1)
  instruction-good (jump pc) h = lt-ltb _ _ h
  instruction-good return h = refl
  instruction-good (switch mode) h = let n = mode-rows-length M.modes (begins_of M) (begins-as-many M) in lt-ltb mode (length (mode_rows M.modes (begins_of M))) (omega (arith, n, h))

  pub refers : Accepted M → Each (Drives M) M.modes → Each (GuardGood M) M.guards → starts_in M.modes ≡ 1 → good_references (table_of M) ≡ true
  unfolding good_references table_of
  refers W d g one =
      let a = all_in_lem (good_driver (roles_of M) (types_of M) M.tasks) (GoodDriver M) (λ x h. h) (drivers_of M) (drivers-good M W d) in
      let b = all_in_lem (good_guard (roles_of M) (types_of M)) (λ (row : GuardRow). good_guard (roles_of M) (types_of M) row ≡ true) (λ x h. h) (map guard_row M.guards) (each-mapped (λ (row : GuardRow). good_guard (roles_of M) (types_of M) row ≡ true) guard_row M.guards g) in
      let c = all_in_lem (λ (m : ModeRow). ltb m.begin (length (code_of M))) (λ (m : ModeRow). m.begin < length (code_of M)) (λ m h. lt-ltb _ _ h) (mode_rows M.modes (begins_of M)) (rows-begin (length (code_of M)) M.modes (begins_of M) (begins-in M W)) in
      let e : eqb (start_modes (mode_rows M.modes (begins_of M))) 1 ≡ true = eq-eqb _ _ (rows_start M.modes (begins_of M) (begins-as-many M) ∙ one) in
      let f = all_in_lem (good_instruction (table_of M)) (Good (length (code_of M)) (driver_count M) M) instruction-good (code_of M) (code-good M W) in
      and_both (and_both a b) (and_both (and_both c e) f)

pub text-refers : (s : List ℕ) → syntax_of s ≡ none → verdict_of s ≡ Fine → good_references (table_of (module_of s)) ≡ true
text-refers s e v = refers (module_of s) (accepted s e v) (modes-drive s e v) (guards-good s e v) (start-once s e v)
