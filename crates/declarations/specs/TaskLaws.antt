-- What a task fills, as a part of what all tasks fill.
use Rattle.std.specs.Prelude.{ℕ, ◌+◌, ◌*◌, ◌≡◌, refl, replicate}
use Rattle.std.proofs.Common.{ap}
use mathlib.Core.List.{List, [], ◌∷◌}
use Rattle.std.proofs.Math.ListN.{length}
use Rattle.codec.specs.Readings.{Reading, got, no}
use Rattle.codec.specs.Lists.{list}
use Rattle.file.specs.Names.{name}
use Rattle.file.specs.Parts.{type}
use Rattle.file.specs.Records.{output, port_count, task}
use Rattle.layout.specs.Rows.{name_cells}
use Rattle.layout.specs.Filling.{stored, fill}
use Rattle.fields.specs.Taking.{Takes, counted}
use Rattle.fields.specs.TakingLaws.{changed, takes_out, takes-as, takes-in, takes-both, takes-by, takes-shape}
use Rattle.declarations.specs.Stores.{Ported, with_types, TaskParts, TaskState, store_input, store_output, store_parts, store_task}
use Rattle.declarations.specs.StoreLaws.{task-marks}

abbrev pub parts_of : List ℕ → Ported → ℕ → ℕ → TaskParts
parts_of names ports inputs outputs = record { names = names; inputs = inputs; outputs = outputs; ports = ports }

abbrev pub state_of : List ℕ → Ported → List ℕ → List ℕ → ℕ → ℕ → TaskState
state_of names ports roles rows inputs outputs = record { names = names; ports = ports; roles = roles; rows = rows; inputs = inputs; outputs = outputs }

-- the roles of a task's ports, and its row, as the code enters them
abbrev pub roles_of : List ℕ → ℕ → ℕ → ℕ → List ℕ
roles_of roles first inputs outputs = stored (stored roles first (replicate inputs 3)) (first + inputs) (replicate outputs 4)

abbrev pub rows_of : List ℕ → ℕ → ℕ → ℕ → ℕ → List ℕ
rows_of rows k first inputs outputs = stored rows (k * 4) (first ∷ inputs ∷ (first + inputs) ∷ outputs ∷ [])

abbrev pub entered : List ℕ → List ℕ → ℕ → ℕ → ℕ → ℕ → TaskParts → TaskState
entered roles rows k first ins outs z =
    state_of z.names z.ports (roles_of roles first z.inputs z.outputs) (rows_of rows k first z.inputs z.outputs) (ins + z.inputs) (outs + z.outputs)

-- the rows of a task's name and function
abbrev pub titled : List ℕ → ℕ → List ℕ → List ℕ → List ℕ
titled names k word function = stored (stored names (k * 66) (name_cells word)) (k * 66 + 33) (name_cells function)

-- a task's inputs, and its outputs behind them
abbrev into : ℕ → List ℕ → List ℕ → TaskParts → ℕ × List ℕ → TaskParts
into k word function l z = parts_of (titled l.names k word function) (with_types l.ports z.1) z.0 0

abbrev behind : TaskParts → ℕ × Ported → TaskParts
behind l z = parts_of l.names z.1 l.inputs z.0

-- a task is put in once its ports are read, behind its name and its function
module _ (k port ins outs : ℕ) (names word function : List ℕ) (ports : Ported) {bs r s : List ℕ} (named : name.get bs ≡ got word r) (computed : name.get r ≡ got function s) where
  takes-ports : {m q : Reading TaskParts} → Takes (list (port_count ins) type) (λ is l. into k word function l (counted (store_input port) is (0, l.ports.types))) (got (parts_of names ports 0 0) s) m
      → Takes (list (port_count outs) output) (λ os l. behind l (counted (store_output outs (port + l.inputs)) os (0, l.ports))) m q
      → Takes (task (record { inputs = ins; outputs = outs })) (store_parts k port outs) (got (parts_of names ports 0 0) bs) q
  unfolding task store_parts counted
  takes-ports t u =
      takes-shape _ _ _
      (takes-by _ _ _ named
      (takes-by _ _ _ computed
      (takes-as (λ a l. refl) (takes-both t u))))

  pub inputs-out : {e : ℕ} → Takes (list (port_count ins) type) (counted (store_input port)) (got (0, ports.types) s) (no e)
      → Takes (task (record { inputs = ins; outputs = outs })) (store_parts k port outs) (got (parts_of names ports 0 0) bs) (no e)
  inputs-out t = takes-ports (takes-in (into k word function (parts_of names ports 0 0)) (λ a. refl) t) takes_out

  pub takes-outputs : {i : ℕ} {types rest : List ℕ} {q : Reading (ℕ × Ported)} → Takes (list (port_count ins) type) (counted (store_input port)) (got (0, ports.types) s) (got (i, types) rest)
      → Takes (list (port_count outs) output) (counted (store_output outs (port + i))) (got (0, with_types ports types) rest) q
      → Takes (task (record { inputs = ins; outputs = outs })) (store_parts k port outs) (got (parts_of names ports 0 0) bs) (changed (λ z. parts_of (titled names k word function) z.1 i z.0) q)
  takes-outputs {i} {types} t u =
      takes-ports (takes-in (into k word function (parts_of names ports 0 0)) (λ a. refl) t) (takes-in (behind (parts_of (titled names k word function) (with_types ports types) i 0)) (λ a. refl) u)

module _ (from k : ℕ) {ins outs : ℕ} {bs names roles rows : List ℕ} {ports : Ported} where
  pub takes-entered : {q : Reading TaskParts} (first : ℕ) → first ≡ from + ins + outs
      → Takes (task (record { inputs = ins; outputs = outs })) (store_parts k first outs) (got (parts_of names ports 0 0) bs) q
      → Takes (task (record { inputs = ins; outputs = outs })) (store_task from k) (got (state_of names ports roles rows ins outs) bs) (changed (entered roles rows k first ins outs) q)
  unfolding store_task store_parts
  takes-entered first e t =
      takes-in (entered roles rows k first ins outs)
      (λ a.
      rw (← e)
      (ap (λ (r : List ℕ).
      state_of (store_parts k first outs a (parts_of names ports 0 0)).names (store_parts k first outs a (parts_of names ports 0 0)).ports r
      (rows_of rows k first (length a.inputs) (length a.outputs)) (ins + length a.inputs) (outs + length a.outputs))
      (task-marks roles first a)))
      t
