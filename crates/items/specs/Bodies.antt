-- What is read at a place by the token found there, and that it is what the text's definitions say.
use Rattle.std.specs.Prelude.{ℕ, ◌≡◌, refl, List, Ok, Err, Bool, true, false, cond, eqb, ltb}
use Rattle.std.proofs.Common.{ap, ◌∙◌}
use Rattle.text.specs.declared.Token.{Token}
use Rattle.text.specs.declared.Token.TheVariants as T
use Rattle.text.specs.declared.Lexed.{Lexed}
use Rattle.text.specs.declared.Got.{Got}
use Rattle.text.specs.declared.State.{State}
use Rattle.text.specs.declared.State.TheVariants as Q
use Rattle.text.specs.declared.Item.{Item}
use Rattle.text.specs.declared.Item.TheVariants as I
use Rattle.text.specs.declared.ReadItem.{ReadItem}
use Rattle.text.specs.Tokens.{token_at, code_of, is}
use Rattle.text.specs.Expect.{from, got, refusal, want, want_any, closed}
use Rattle.text.specs.Items.{refused_at, section_of, portion_of, part_of, declaration_at, section_at, module_body_at, task_port_at, portion_at, task_body_at, head_at, part_at, mode_body_at, target_at, act_at, finish_at}
use Rattle.wants.specs.Given.{told, refusal_in, want_of, any_of, allowed_of, want-of, any-of, ◌>>=◌}
use Rattle.productions.specs.Read.{Reads, closed_of, constant_of, sensor_of, actuator_of, task_of, begin_of as mode_of, input_of, output_of, task_end_of, activity_of, guard_of, invoke_of, update_of, switch_of}
use Rattle.productions.specs.ReadLaws.{constant-told, sensor-told, actuator-told, task-told, input-told, output-told, task-end-told}
use Rattle.productions.specs.ModeLaws.{mode-told, activity-told}
use Rattle.productions.specs.ActLaws.{guard-told, invoke-told, update-told, switch-told}

-- ---- a token by itself

-- a token that may not stand here
abbrev pub refused_of : Lexed → ReadItem
refused_of found = closed_of Q.Finish (Err (refusal_in (refusal found)))

-- a token that opens a section
unfoldable pub begin_of : Lexed → Reads (Item × ℕ)
begin_of found = do
  word ← told (any_of found)
  Ok (I.Section, word.end)

-- a token that must be t, as an item
unfoldable pub token_of : Lexed → Token → Item → Reads (Item × ℕ)
token_of found t item = do
  last ← told (want_of t found)
  Ok (item, last.end)

-- ---- bodies

unfoldable pub declaration_of : List ℕ → ℕ → Lexed → ReadItem
declaration_of s k found =
    cond (eqb k 2) (closed_of (Q.Module 2) (constant_of s found)) (
    cond (eqb k 3) (closed_of (Q.Module 3) (sensor_of s found)) (
    cond (eqb k 4) (closed_of (Q.Module 4) (actuator_of s found)) (
    refused_of found)))

unfoldable pub module_section_of : List ℕ → ℕ → Lexed → ReadItem
module_section_of s k found =
    let w = section_of (code_of found.token) in
    cond (ltb w k) (refused_of found) (
    cond (eqb w 5) (closed_of (Q.Task 1) (task_of s found)) (
    cond (eqb w 6) (closed_of (Q.Mode 1) (mode_of s found)) (
    cond (eqb w 7) (closed_of Q.Finish (token_of found T.RightBrace I.ModuleEnd)) (
    closed_of (Q.Module w) (begin_of found)))))

unfoldable pub task_port_of : List ℕ → ℕ → Lexed → ReadItem
task_port_of s k found =
    cond (eqb k 2) (closed_of (Q.Task 2) (input_of s found)) (
    cond (eqb k 3) (closed_of (Q.Task 3) (output_of s found)) (
    refused_of found))

unfoldable pub task_section_of : List ℕ → ℕ → Lexed → ReadItem
task_section_of s k found =
    let w = portion_of (code_of found.token) in
    cond (ltb w k) (refused_of found) (
    cond (eqb w 4) (closed_of (Q.Module 5) (task_end_of s found)) (
    closed_of (Q.Task w) (begin_of found)))

unfoldable pub head_of : List ℕ → ℕ → Lexed → ReadItem
head_of s k found = cond (eqb k 1) (refused_of found) (closed_of (Q.Act k) (activity_of s k found))

unfoldable pub mode_section_of : ℕ → Lexed → ReadItem
mode_section_of k found =
    let w = part_of (code_of found.token) in
    cond (ltb w k) (refused_of found) (
    cond (eqb w 5) (closed_of (Q.Module 6) (token_of found T.RightBrace I.ModeEnd)) (
    closed_of (Q.Mode w) (begin_of found)))

unfoldable pub target_of : List ℕ → ℕ → Lexed → ReadItem
target_of s k found =
    cond (eqb k 2) (invoke_of s found) (
    cond (eqb k 3) (closed_of (Q.Mode 3) (update_of s found)) (
    closed_of (Q.Mode 4) (switch_of s found)))

-- ---- they are the text's

-- a token allowed or refused, as the last of an item
allowed-told : (item : Item) (state : State) (allowed : Bool) (l : Lexed) → closed_of state (told (allowed_of allowed l) >>= λ last. Ok (item, last.end)) ≡ closed item state (allowed_of allowed l)
unfolding refusal closed
allowed-told item state true l = refl
allowed-told item state false l = by (is T.Bad l)
  where
    by : (b : Bool) → closed_of state (told (got (cond b 2 3) l.start l.start) >>= λ last. Ok (item, last.end)) ≡ closed item state (got (cond b 2 3) l.start l.start)
    by true = refl
    by false = refl

module _ (s : List ℕ) (at : ℕ) where
  refused-told : refused_of (token_at s at) ≡ refused_at s (from at)
  unfolding refused_at refusal closed
  refused-told = by (is T.Bad (token_at s at))
    where
      by : (b : Bool) → closed_of Q.Finish (Err (refusal_in (got (cond b 2 3) (token_at s at).start (token_at s at).start))) ≡ closed I.Section Q.Finish (got (cond b 2 3) (token_at s at).start (token_at s at).start)
      by true = refl
      by false = refl

  token-told : (t : Token) (item : Item) (state : State) → closed_of state (token_of (token_at s at) t item) ≡ closed item state (want t s (from at))
  unfolding token_of want_of
  token-told t item state = allowed-told item state (is t (token_at s at)) (token_at s at) ∙ ap (λ (g : Got). closed item state g) (want-of s at (token_at s at) refl t)

  begin-told : (state : State) → closed_of state (begin_of (token_at s at)) ≡ closed I.Section state (want_any s (from at))
  unfolding begin_of any_of
  begin-told state = allowed-told I.Section state _ (token_at s at) ∙ ap (λ (g : Got). closed I.Section state g) (any-of s at (token_at s at) refl)

  pub target-told : (k : ℕ) → target_of s k (token_at s at) ≡ target_at s k (from at)
  unfolding target_of target_at
  target-told k = rw (invoke-told s at, update-told s at, switch-told s at)

  declaration-told : (k : ℕ) → declaration_of s k (token_at s at) ≡ declaration_at s k (from at)
  unfolding declaration_of declaration_at
  declaration-told k = rw (constant-told s at, sensor-told s at, actuator-told s at, refused-told)

  module-section-told : (k : ℕ) → module_section_of s k (token_at s at) ≡ section_at s k (section_of (code_of (token_at s at).token)) (from at)
  unfolding module_section_of section_at
  module-section-told k = simp (refused-told, task-told s at, mode-told s at, token-told T.RightBrace I.ModuleEnd Q.Finish, begin-told)

  task-port-told : (k : ℕ) → task_port_of s k (token_at s at) ≡ task_port_at s k (from at)
  unfolding task_port_of task_port_at
  task-port-told k = rw (input-told s at, output-told s at, refused-told)

  task-section-told : (k : ℕ) → task_section_of s k (token_at s at) ≡ portion_at s k (portion_of (code_of (token_at s at).token)) (from at)
  unfolding task_section_of portion_at
  task-section-told k = simp (refused-told, task-end-told s at, begin-told)

  head-told : (k : ℕ) → head_of s k (token_at s at) ≡ head_at s k (from at)
  unfolding head_of head_at
  head-told k = rw (refused-told, activity-told s k at)

  mode-section-told : (k : ℕ) → mode_section_of k (token_at s at) ≡ part_at s k (part_of (code_of (token_at s at).token)) (from at)
  unfolding mode_section_of part_at
  mode-section-told k = simp (refused-told, token-told T.RightBrace I.ModeEnd (Q.Module 6), begin-told)

  -- by the token found
  pub module-body-told : (k : ℕ) → cond (is T.Name (token_at s at)) (declaration_of s k (token_at s at)) (module_section_of s k (token_at s at)) ≡ module_body_at s k (from at)
  unfolding module_body_at
  module-body-told k = rw (declaration-told k, module-section-told k)

  pub task-body-told : (k : ℕ) → cond (is T.Name (token_at s at)) (task_port_of s k (token_at s at)) (task_section_of s k (token_at s at)) ≡ task_body_at s k (from at)
  unfolding task_body_at
  task-body-told k = rw (task-port-told k, task-section-told k)

  pub mode-body-told : (k : ℕ) → cond (is T.LeftBracket (token_at s at)) (head_of s k (token_at s at)) (mode_section_of k (token_at s at)) ≡ mode_body_at s k (from at)
  unfolding mode_body_at
  mode-body-told k = rw (head-told k, mode-section-told k)

  pub act-told : (k : ℕ) → cond (is T.KeyIf (token_at s at)) (guard_of s k (token_at s at)) (target_of s k (token_at s at)) ≡ act_at s k (from at)
  unfolding act_at
  act-told k = rw (guard-told s k at, target-told k)

  pub finish-told : closed_of Q.Finish (token_of (token_at s at) T.End I.End) ≡ finish_at s (from at)
  unfolding finish_at
  finish-told = token-told T.End I.End Q.Finish
