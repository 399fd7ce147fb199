-- The file of a table, written and read (document 01, 'The file').
use Rattle.std.specs.Prelude.{Bool, cond, ◌&&◌, List, [], ◌∷◌, ◌++◌, ℕ, eqb, length}
use Rattle.codec.specs.Readings.{Reading, got, no}
use Rattle.codec.specs.Codecs.{Codec}
use Rattle.codec.specs.Numbers.{be}
use Rattle.codec.specs.Sequences.{dep}
use Rattle.codec.specs.Views.{shape}
use Rattle.model.specs.Instructions.{Instr}
use Rattle.file.specs.Tables.{Table}
use Rattle.file.specs.Names.{name}
use Rattle.file.specs.Records.{sensors, actuators, tasks}
use Rattle.file.specs.Code.{drivers, guards, modes, code}
use Rattle.file.specs.References.{good_references}

-- module name; sensors; actuators; tasks; drivers; guards; modes; code
unfoldable pub table : Codec Table
table =
    shape
    (dep name _ (λ x. dep sensors _ (λ x. dep actuators _ (λ x. dep tasks _ (λ x. dep drivers _ (λ x. dep guards _ (λ x. dep modes (λ x. List Instr) (λ x. code))))))))
    (λ t. (t.name, (t.sensors, (t.actuators, (t.tasks, (t.drivers, (t.guards, (t.modes, t.code))))))))
    (λ x. record {
      name = x.0;
      sensors = x.1.0;
      actuators = x.1.1.0;
      tasks = x.1.1.1.0;
      drivers = x.1.1.1.1.0;
      guards = x.1.1.1.1.1.0;
      modes = x.1.1.1.1.1.1.0;
      code = x.1.1.1.1.1.1.1;
    })

-- ---- versions

-- the version that a table is written in
unfoldable pub version_of : Table → ℕ
version_of t = 1

-- the versions that the reader knows
unfoldable pub known_version : ℕ → Bool
known_version version = eqb version 1

-- the table's codec, by version
unfoldable pub table_by : ℕ → Codec Table
table_by version = table

-- ---- writing

-- One byte: version. Then the table.
unfoldable pub body : Table → List ℕ
body t = version_of t ∷ (table_by (version_of t)).put t

-- Four bytes: length of the rest.
unfoldable pub encode : Table → List ℕ
encode t = (be 4).put (length (body t)) ++ body t

-- ---- reading

-- The reader returns a table, or one number and no table.
pub data Answer : Type 0 where
  read : Table → Answer
  refused : ℕ → Answer

-- 22 and 23 come first, bytes left over are 22, last 24
abbrev pub judged : Reading Table → Answer
judged (no e) = refused e
judged (got t []) = cond (good_references t) (read t) (refused 24)
judged (got t (b ∷ rest)) = refused 22

-- 20 under five bytes in all, 21 version
abbrev pub versioned : List ℕ → Answer
versioned [] = refused 20
versioned (version ∷ rest) = cond (known_version version) (judged ((table_by version).get rest)) (refused 21)

-- 20 length wrong
abbrev pub framed : Reading ℕ → Answer
framed (no e) = refused 20
framed (got n rest) = cond (eqb n (length rest)) (versioned rest) (refused 20)

-- what the reader answers to any bytes: the table, or one of 20 to 24
unfoldable pub decode : List ℕ → Answer
decode bs = framed ((be 4).get bs)

-- a table that the reader can return
unfoldable pub sound : Table → Bool
sound t = (table_by (version_of t)).ok t && good_references t
