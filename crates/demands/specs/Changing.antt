-- Demand 3: when a port of the code's machine changes, and to what, behind compile, read, start and any calls.
use Rattle.std.specs.Prelude.{ℕ, ◌+◌, ◌<◌, ◌≡◌, ◌≢◌, ◌⊎◌, List, length}
use Rattle.std.proofs.Common.{sym, ◌∙◌, ap, inl, inr}
use Rattle.model.specs.Modules.{Module}
use Rattle.timing.specs.Rules.{outputs_of}
use Rattle.timing.specs.PortLaws.{output_count, SensorPort, ActuatorPort, InputPort}
use Rattle.machine.specs.Asks.{Ask, Answer, ticking}
use Rattle.machine.specs.declared.Reaction.TheVariants.{Obeyed}
use Rattle.machine.specs.Calls.{State}
use Rattle.emachine.specs.declared.Machine.{Machine}
use Rattle.emachine.specs.Machines.{machine_of}
use Rattle.bridge.specs.Views.{stands}
use Rattle.bridge.specs.Docked.{asks}
use Rattle.bridge.specs.Sources.{Sourced, compiled-sourced}
use Rattle.bridge.specs.PortsKept as K
use Rattle.bridge.proofs.PortsKept as KLaws
use Rattle.demands.specs.Uses.{Serves, Runs, Launch, module_in, rules}
use Rattle.demands.specs.Terms.{word, standing, HandsOver, Sets, Senses, Fills, Rests}
use Rattle.demands.specs.Joins.{made, keeps, aims, starts-so, state_at, Behind, behind, then, obeyed-answer}

module _ (l : Launch) (calls : List Ask) (answers : List Answer) (m : Machine) (run : Runs l.begun.machine calls answers m) (a : Ask) (x : Answer) (n : Machine) (call : Serves m a x n) where
  abbrev M : Module
  M = module_in l

  abbrev s : State
  s = state_at l calls

  here : Behind l calls answers m
  here = behind l calls answers m run

  on : (x ≡ (asks M a s).answer) × (n ≡ machine_of l.reading.table (asks M a s).state)
  on = then l calls answers m here a x n call

  -- bridge's words for a port, before and after
  abbrev old : ℕ → ℕ
  old i = K.word_before M (keeps l) (aims l) l.count l.types l.words (starts-so l) calls a i

  abbrev new : ℕ → ℕ
  new i = K.word_after M (keeps l) (aims l) l.count l.types l.words (starts-so l) calls a i

  before : (i : ℕ) → word M m i ≡ old i
  before i = ap (λ (k : Machine). word M k i) here.left_so

  after : (i : ℕ) → word M n i ≡ new i
  after i = ap (λ (k : Machine). word M k i) on.1

  -- what changes is kept apart from what stays
  carried : (i : ℕ) {C D : Type 0} → (C → D) → (new i ≡ old i) ⊎ C → (word M n i ≡ word M m i) ⊎ D
  carried i f (inl e) = inl (after i ∙ e ∙ sym (before i))
  carried i f (inr c) = inr (f c)

  pub output-changes : (task i : ℕ) → i < output_count M task → (word M n (outputs_of M task + i) ≡ word M m (outputs_of M task + i)) ⊎ HandsOver M (rules l calls) m x n task i
  output-changes task i h =
      carried (outputs_of M task + i)
      (λ d.
      let (k, q) = obeyed-answer (asks M a s).answer d.reacts in
      record {
        steps = k;
        reacts = on.0 ∙ q;
        ends = d.ends;
        results = d.results;
        finished = ap (λ (y : Machine). standing M y task) here.left_so ∙ sym (stands M s.aside s.store.out s.store.waiting s.store.finished here.near.held.neat task) ∙ d.finished;
        holds = after (outputs_of M task + i) ∙ d.holds;
      })
      (KLaws.output-kept M (keeps l) (aims l) l.count l.types l.words (starts-so l) calls a task i h)

  sources : Sourced M
  sources = compiled-sourced l.text (length l.before) (made l).content (made l).is

  pub actuator-changes : (i : ℕ) → ActuatorPort M i → (word M n i ≡ word M m i) ⊎ Sets M (rules l calls) x n i
  actuator-changes i p =
      carried i
      (λ d.
      let (k, q) = obeyed-answer (asks M a s).answer d.reacts in
      record {
        steps = k;
        reacts = on.0 ∙ q;
        before = d.by.before;
        update = d.by.update;
        after = d.by.after;
        ends = d.by.row;
        aims = d.by.aims;
        holds = after i ∙ d.by.holds ∙ sym (after d.by.update.what.source);
      })
      (KLaws.actuator-kept M (keeps l) (aims l) l.count l.types l.words (starts-so l) calls a sources i p)

  pub input-changes : (task i : ℕ) → InputPort M task i → (word M n i ≡ word M m i) ⊎ Fills M (rules l calls) a x task
  input-changes task i p =
      carried i (λ d. let (k, q) = obeyed-answer (asks M a s).answer d.reacts in record { steps = k; reacts = on.0 ∙ q; releases = d.releases })
      (KLaws.input-kept M (keeps l) (aims l) l.count l.types l.words (starts-so l) calls a task i p)

  pub sensor-changes : (i : ℕ) → SensorPort M i → (word M n i ≡ word M m i) ⊎ Senses M a x n i
  sensor-changes i p =
      carried i
      (λ d.
      let (k, q) = obeyed-answer (asks M a s).answer d.reacts in
      record { steps = k; reacts = on.0 ∙ q; count = d.at; types = d.types; words = d.words; called = d.called; holds = after i ∙ d.holds })
      (KLaws.sensor-kept M (keeps l) (aims l) l.count l.types l.words (starts-so l) calls a i p)

  pub between : ((steps : ℕ) → x ≢ ticking (Obeyed steps)) → Rests m n
  between unless =
      let r = KLaws.between M a s (λ k e. unless k (on.0 ∙ e)) in
      let p = on.1 in
      let q = sym here.left_so in
      record {
        same-ports = ap (λ (y : Machine). y.ports) p ∙ r.same-ports ∙ ap (λ (y : Machine). y.ports) q;
        same_out = ap (λ (y : Machine). y.standing.out) p ∙ r.same_out ∙ ap (λ (y : Machine). y.standing.out) q;
        same-mode = ap (λ (y : Machine). y.standing.mode) p ∙ r.same-mode ∙ ap (λ (y : Machine). y.standing.mode) q;
      }
