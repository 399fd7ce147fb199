-- Ports by number: the row of a port says what stands at its number (document 01, 'The code', ports).
use Rattle.std.specs.Prelude.{ℕ, zero, suc, ◌+◌, ◌<◌, ◌≡◌, refl, List, [], ◌∷◌, ◌++◌, Bool, true, false, cond, length, get_or}
use Rattle.std.proofs.Common.{arith, sym, ap, ◌∙◌, append-nil}
use Rattle.std.proofs.Math.Option.{none}
use Rattle.std.proofs.Math.Seq.{get_or-append_seam}
use Rattle.text.specs.declared.State.{State}
use Rattle.text.specs.declared.Item.{Item}
use Rattle.text.specs.Items.{syntax_of}
use Rattle.text.proofs.PartsLaws.{unsaid}
use Rattle.timing.specs.SlotLaws.{Each}
use Rattle.refusals.specs.declared.Row.{Row}
use Rattle.refusals.specs.Verdicts.{Fine}
use Rattle.refusals.specs.Checks.{first}
use Rattle.refusals.specs.Names.{count, is_port}
use Rattle.refusals.specs.Declarations.{ports_in}
use Rattle.refusals.specs.Rules.{Env, grow, rules}
use Rattle.refusals.specs.Texts.{verdict_of}
use Rattle.accepted.specs.Steps.{plain, guarded, Comes, module-begins, module-section, constant, sensor, actuator, task-begins, task-section, input, output, task-ends, mode-begins, mode-section, activity, guard-alone, guard, guard-arg, guard-last, invoke-alone, invoke, arg, arg-last, update, switch, mode-ends, module-ends, text-ends}
use Rattle.accepted.specs.Folds.{Reaches, whole, all_rows, last_env, last-rows}
use Rattle.accepted.specs.Lists.{each_append, each_map}
use Rattle.accepted.specs.RowsFit.{count-one, count-more}

-- a port's type and sort
pub record Kind : Type 0 where
  pub typ : ℕ
  pub sort : ℕ

abbrev pub kind : ℕ → ℕ → Kind
kind typ sort = record { typ = typ; sort = sort }

abbrev pub no_kind : Kind
no_kind = kind 0 0

abbrev pub kind_of : Row → Kind
kind_of row = kind row.typ row.sort

-- of the rows of ports, in order
unfoldable pub kinds_in : List Row → List Kind
kinds_in [] = []
kinds_in (row ∷ rows) =
    let on = kinds_in rows in
    cond (is_port row) (kind_of row ∷ on) on

pub kinds-append : (rows more : List Row) → kinds_in (rows ++ more) ≡ kinds_in rows ++ kinds_in more
unfolding kinds_in
kinds-append [] more = refl
kinds-append (row ∷ rows) more = by (is_port row) (kinds-append rows more)
  where
    by : (b : Bool) → kinds_in (rows ++ more) ≡ kinds_in rows ++ kinds_in more → cond b (kind_of row ∷ kinds_in (rows ++ more)) (kinds_in (rows ++ more)) ≡ cond b (kind_of row ∷ kinds_in rows) (kinds_in rows) ++ kinds_in more
    by true e = ap (λ (l : List Kind). kind_of row ∷ l) e
    by false e = e

kinds-length : (rows : List Row) → length (kinds_in rows) ≡ count is_port rows
unfolding kinds_in count
kinds-length [] = refl
kinds-length (row ∷ rows) = by (is_port row) (kinds-length rows)
  where
    by : (b : Bool) → length (kinds_in rows) ≡ count is_port rows → length (cond b (kind_of row ∷ kinds_in rows) (kinds_in rows)) ≡ cond b (count is_port rows + 1) (count is_port rows)
    by true e = omega arith
    by false e = e

pub kinds-port : (rows : List Row) (row : Row) → is_port row ≡ true → kinds_in (rows ++ (row ∷ [])) ≡ kinds_in rows ++ (kind_of row ∷ [])
unfolding kinds_in
kinds-port rows row e = kinds-append rows (row ∷ []) ∙ ap (λ (l : List Kind). kinds_in rows ++ l) (rw e)

pub kinds-other : (rows : List Row) (row : Row) → is_port row ≡ false → kinds_in (rows ++ (row ∷ [])) ≡ kinds_in rows
unfolding kinds_in
kinds-other rows row e = kinds-append rows (row ∷ []) ∙ ap (λ (l : List Kind). kinds_in rows ++ l) (rw e) ∙ append-nil (kinds_in rows)

pub first_kind : (kinds more : List Kind) (k : ℕ) → k < length kinds → get_or (kinds ++ more) k no_kind ≡ get_or kinds k no_kind
first_kind [] more k l = absurd (omega arith)
first_kind (x ∷ kinds) more zero l = refl
first_kind (x ∷ kinds) more (suc k) l = first_kind kinds more k (omega arith)

-- a port's row: its number is its place
pub record Placed (rows : List Row) (row : Row) : Type 0 where
  pub within : is_port row ≡ true → row.value < ports_in rows
  pub there : is_port row ≡ true → get_or (kinds_in rows) row.value no_kind ≡ kind_of row

placed-more : (rows more : List Row) (row : Row) → Placed rows row → Placed (rows ++ more) row
placed-more rows more row h =
    record {
      within = λ e. let l = h.within e in let m = count-more is_port rows more in omega (arith, l, m);
      there = λ e.
          let l = h.within e in
          let n = kinds-length rows in
          rw (kinds-append rows more) (first_kind (kinds_in rows) (kinds_in more) row.value (omega (arith, l, n)) ∙ h.there e);
    }

place-one : (rows : List Row) (row : Row) → Each (Placed rows) rows → Placed (rows ++ (row ∷ [])) row → Each (Placed (rows ++ (row ∷ []))) (rows ++ (row ∷ []))
place-one rows row h p = each_append (Placed (rows ++ (row ∷ []))) rows (row ∷ []) (each_map (Placed rows) (Placed (rows ++ (row ∷ []))) (placed-more rows (row ∷ [])) rows h) (p, tt)

port-one : (rows : List Row) (row : Row) → is_port row ≡ true → row.value ≡ ports_in rows → Each (Placed rows) rows → Each (Placed (rows ++ (row ∷ []))) (rows ++ (row ∷ []))
port-one rows row e q h =
    place-one rows row h (record {
      within = λ d. let l = count-one is_port rows row e in omega (arith, l, q);
      there = λ d. rw (kinds-port rows row e, q ∙ sym (kinds-length rows)) (get_or-append_seam (kinds_in rows) (kind_of row) [] no_kind);
    })

other-one : (rows : List Row) (row : Row) → is_port row ≡ false → Each (Placed rows) rows → Each (Placed (rows ++ (row ∷ []))) (rows ++ (row ∷ []))
other-one rows row e h = place-one rows row h (record { within = λ d. absurd (unsaid (sym e ∙ d)); there = λ d. absurd (unsaid (sym e ∙ d)) })

none-one : (rows : List Row) → Each (Placed rows) rows → Each (Placed (rows ++ [])) (rows ++ [])
none-one rows h = rw (append-nil rows) h

abbrev Placing : State → ℕ → Env → Type 0
Placing q at env = Each (Placed env.rows) env.rows

module _ (s : List ℕ) (all : List Row) (last : Env) where
  placing : {q p : State} {at next : ℕ} {item : Item} (env : Env) → Comes s q at item p next → first (rules s all env item) ≡ Fine → Reaches s all last (grow s all env item) → Placing q at env → Placing p next (grow s all env item)
  placing env (module-begins name) v r h = none-one env.rows h
  placing env (module-section k w l b) v r h = none-one env.rows h
  placing env (constant name value) v r h = other-one env.rows _ refl h
  placing env (sensor typ name getter) v r h = port-one env.rows _ refl refl h
  placing env (actuator typ name value setter) v r h = port-one env.rows _ refl refl h
  placing env (task-begins k name l) v r h = other-one env.rows _ refl h
  placing env (task-section k w l) v r h = none-one env.rows h
  placing env (input typ name) v r h = port-one env.rows _ refl refl h
  placing env (output typ name value) v r h = port-one env.rows _ refl refl h
  placing env (task-ends k name) v r h = none-one env.rows h
  placing env (mode-begins k start begin name digits milli l) v r h = other-one env.rows _ refl h
  placing env (mode-section k w l b) v r h = none-one env.rows h
  placing env (activity k begin digits l) v r h = none-one env.rows h
  placing env (guard-alone k name) v r h = none-one env.rows h
  placing env (guard k name many c) v r h = none-one env.rows h
  placing env (guard-arg k port c) v r h = none-one env.rows h
  placing env (guard-last k port c) v r h = none-one env.rows h
  placing env (invoke-alone name plain) v r h = none-one env.rows h
  placing env (invoke-alone name guarded) v r h = none-one env.rows h
  placing env (invoke name many plain c) v r h = none-one env.rows h
  placing env (invoke name many guarded c) v r h = none-one env.rows h
  placing env (arg port c) v r h = none-one env.rows h
  placing env (arg-last port c) v r h = none-one env.rows h
  placing env (update name source plain) v r h = none-one env.rows h
  placing env (update name source guarded) v r h = none-one env.rows h
  placing env (switch k name plain a b) v r h = none-one env.rows h
  placing env (switch k name guarded a b) v r h = none-one env.rows h
  placing env (mode-ends k) v r h = none-one env.rows h
  placing env (module-ends k) v r h = none-one env.rows h
  placing env text-ends v r h = none-one env.rows h

pub rows-placed : (s : List ℕ) → syntax_of s ≡ none → verdict_of s ≡ Fine → Each (Placed (all_rows s)) (all_rows s)
rows-placed s e v =
    let w = whole s e v Placing (λ q p at next item. placing s (all_rows s) (last_env s)) tt in
    rw (last-rows s) at w.holds
