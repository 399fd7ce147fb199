-- A table that is read is the record of the table that stands there.
use Rattle.std.specs.Prelude.{ℕ, ◌≡◌, refl, true, List}
use Rattle.std.proofs.Common.{sym}
use Rattle.codec.specs.Readings.{Reading, got}
use Rattle.codec.specs.Codecs.{Bytes}
use Rattle.codec.specs.Sequences.{dep}
use Rattle.file.specs.Tables.{Table}
use Rattle.file.specs.Names.{name}
use Rattle.file.specs.Records.{sensors, actuators, tasks}
use Rattle.file.specs.Code.{drivers, guards, modes, code}
use Rattle.file.specs.Files.{table}
use Rattle.file.proofs.Files.{table-lawful}
use Rattle.layout.specs.Plain.{struct_of, blank}
use Rattle.fields.specs.Taking.{Takes}
use Rattle.fields.specs.TakingLaws.{changed, takes-in, takes-both, takes-shape, takes-from}
use Rattle.tables.specs.declared.Table.{Table as Plain}
use Rattle.reading.specs.Stages.{PortState, store_name, store_sensors, store_actuators, ports_of, with_ports, store_ports, store_tasks, RestState, store_drivers, store_guards, store_modes, store_code, rest_of, with_rest, store_rest}
use Rattle.reading.specs.Joining.{takes-behind}
use Rattle.reading.specs.Whole.{put_in, whole}

-- a table that was read can stand in a file
pub table-fine : {bs : List ℕ} (t : Table) (rest : List ℕ) → Bytes bs → table.get bs ≡ got t rest → table.ok t ≡ true
table-fine {bs} t rest h p = (table-lawful.back bs t rest h p).1

-- name, sensors and actuators
pub takes-ports : {l : Plain} {bs : List ℕ} {p q r : Reading PortState} → Takes name store_name (got (ports_of l) bs) p → Takes sensors store_sensors p q → Takes actuators store_actuators q r
    → Takes (dep name _ (λ x. dep sensors _ (λ x. actuators))) store_ports (got l bs) (changed (λ z. with_ports z l) r)
unfolding store_ports
takes-ports {l} t u v = takes-in (λ z. with_ports z l) (λ a. refl) (takes-both t (takes-both u v))

-- drivers, guards, modes and code
pub takes-rest : {l : Plain} {bs : List ℕ} {p q r v : Reading RestState} → Takes drivers store_drivers (got (rest_of l) bs) p → Takes guards store_guards p q → Takes modes store_modes q r → Takes code store_code r v
    → Takes (dep drivers _ (λ x. dep guards _ (λ x. dep modes _ (λ x. code)))) store_rest (got l bs) (changed (λ z. with_rest z l) v)
unfolding store_rest
takes-rest {l} t u v w = takes-in (λ z. with_rest z l) (λ a. refl) (takes-both t (takes-both u (takes-both v w)))

-- name, sensors and actuators; tasks; drivers, guards, modes and code
module _ {p q r v : Reading Plain} where
  pub table_taken : Takes (dep name _ (λ x. dep sensors _ (λ x. actuators))) store_ports p q → Takes tasks store_tasks q r
      → Takes (dep drivers _ (λ x. dep guards _ (λ x. dep modes _ (λ x. code)))) store_rest r v → Takes table put_in p v
  unfolding table put_in
  table_taken t u w = takes-shape _ _ _ (takes-behind name sensors actuators t (takes-both u w))

pub table-struct : {bs : List ℕ} {q : Reading Plain} → Bytes bs → Takes table put_in (got blank bs) q → Takes table (λ t old. struct_of t) (got blank bs) q
table-struct {bs} h t = takes-from table (λ a rest p. sym (whole a (table-fine a rest h p))) t
