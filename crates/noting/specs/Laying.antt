-- What an item enters: its name in the table, and what it acts on in the arrays of the mode.
use Rattle.std.specs.Prelude.{ℕ, ◌≡◌, refl, List, Bool, true, false, set, get_or}
use Rattle.std.proofs.Common.{arith, sym, ap, ◌∙◌}
use Rattle.std.proofs.lemmas.List.{set-get_or}
use Rattle.text.specs.declared.Name.{Name}
use Rattle.text.specs.declared.Port.{Port}
use Rattle.text.specs.declared.Item.{Item}
use Rattle.text.specs.declared.Item.TheVariants as I
use Rattle.refusals.specs.declared.Row.{Row}
use Rattle.refusals.specs.Ports.{task_named}
use Rattle.refusals.specs.Activities.{actuator_named}
use Rattle.names.specs.Index.{Declared}
use Rattle.meanings.specs.declared.declaring.Declaration.{Declaration}
use Rattle.meanings.specs.declared.declaring.Declaration.TheVariants.{Nothing, One}
use Rattle.noting.specs.declared.Known.{Known}

-- a frequency, a task and an actuator behind those of the mode: of an item that invokes a task or updates an actuator they are its own
pub record Laid (s : List ℕ) (rows : List Row) (known : Known) (item : Item) (rates tasks aims rates_then tasks_then aims_then : List ℕ) : Type 0 where
  pub rate : ℕ
  pub task : ℕ
  pub aim : ℕ
  pub invokes : (name : Name) (arguments : ℕ) → item ≡ I.Invoke name arguments → (rate ≡ known.frequency) × (task ≡ (task_named s rows name).value)
  pub updates : (name : Name) (source : Port) → item ≡ I.Update name source → aim ≡ (actuator_named s rows name).value
  pub rated : rates_then ≡ set rates known.calls rate
  pub tasked : tasks_then ≡ set tasks known.calls task
  pub aimed : aims_then ≡ set aims known.updates aim

-- the table and the number of its rows behind what an item declares
abbrev pub Entered : List ℕ → List ℕ → ℕ → Declaration → List ℕ → ℕ → Type 0
Entered s cells n Nothing after count = (after ≡ cells) × (count ≡ n)
Entered s cells n (One row) after count = Declared s cells n row after count

-- whether an item neither invokes a task nor updates an actuator
abbrev pub quiet : Item → Bool
quiet (I.Module name) = true
quiet I.Section = true
quiet (I.Constant name value) = true
quiet (I.Sensor typ name getter) = true
quiet (I.Actuator typ name value setter) = true
quiet (I.TaskBegin name) = true
quiet (I.Input typ name) = true
quiet (I.Output typ name value) = true
quiet (I.TaskEnd name) = true
quiet (I.ModeBegin start at name digits milli) = true
quiet (I.Activity kind at digits) = true
quiet (I.Guard name arguments) = true
quiet (I.GuardArg port) = true
quiet (I.Invoke task arguments) = false
quiet (I.Arg port) = true
quiet (I.Update actuator source) = false
quiet (I.Switch name) = true
quiet I.ModeEnd = true
quiet I.ModuleEnd = true
quiet I.End = true
quiet (I.No number at) = true

module _ (s : List ℕ) (rows : List Row) (known : Known) (rates tasks aims : List ℕ) where
  pub laid-nothing : (item : Item) → quiet item ≡ true → Laid s rows known item rates tasks aims rates tasks aims
  laid-nothing item q =
      record {
        rate = get_or rates known.calls 0;
        task = get_or tasks known.calls 0;
        aim = get_or aims known.updates 0;
        invokes = λ name arguments e. let z : ◌≡◌ {A = ℕ} 0 1 = cc (sym q ∙ ap quiet e) in absurd (omega arith);
        updates = λ name source e. let z : ◌≡◌ {A = ℕ} 0 1 = cc (sym q ∙ ap quiet e) in absurd (omega arith);
        rated = sym (set-get_or rates known.calls 0);
        tasked = sym (set-get_or tasks known.calls 0);
        aimed = sym (set-get_or aims known.updates 0);
      }

  pub laid-call : (name : Name) (arguments : ℕ) {rates_then tasks_then : List ℕ} → rates_then ≡ set rates known.calls known.frequency → tasks_then ≡ set tasks known.calls (task_named s rows name).value
      → Laid s rows known (I.Invoke name arguments) rates tasks aims rates_then tasks_then aims
  laid-call name arguments r t =
      record {
        rate = known.frequency;
        task = (task_named s rows name).value;
        aim = get_or aims known.updates 0;
        invokes = λ other others e. let z : name ≡ other = cc in (refl, rw z);
        updates = λ other source e. let z : ◌≡◌ {A = ℕ} 0 1 = cc in absurd (omega arith);
        rated = r;
        tasked = t;
        aimed = sym (set-get_or aims known.updates 0);
      }

  pub laid-update : (name : Name) (source : Port) {aims_then : List ℕ} → aims_then ≡ set aims known.updates (actuator_named s rows name).value → Laid s rows known (I.Update name source) rates tasks aims rates tasks aims_then
  laid-update name source a =
      record {
        rate = get_or rates known.calls 0;
        task = get_or tasks known.calls 0;
        aim = (actuator_named s rows name).value;
        invokes = λ other others e. let z : ◌≡◌ {A = ℕ} 0 1 = cc in absurd (omega arith);
        updates = λ other sources e. let z : name ≡ other = cc in rw z;
        rated = sym (set-get_or rates known.calls 0);
        tasked = sym (set-get_or tasks known.calls 0);
        aimed = a;
      }
