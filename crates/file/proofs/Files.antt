-- The table of a file is lawful, in each version.
use Rattle.std.specs.Prelude.{refl, ℕ}
use Rattle.codec.specs.Codecs.{Lawful}
use Rattle.codec.proofs.Sequences.{dep-lawful}
use Rattle.codec.proofs.Views.{shape-lawful}
use Rattle.file.specs.Files.{table, table_by}
use Rattle.file.proofs.Names.{name-lawful}
use Rattle.file.proofs.Records.{sensors-lawful, actuators-lawful, tasks-lawful}
use Rattle.file.proofs.CodeLaws.{drivers-lawful, guards-lawful, modes-lawful, code-lawful}

pub table-lawful : Lawful table
unfolding table
table-lawful =
    shape-lawful _ _ _ (λ t. refl) (λ x h. refl)
    (dep-lawful _ _ _ name-lawful
    (λ x. dep-lawful _ _ _ sensors-lawful
    (λ x. dep-lawful _ _ _ actuators-lawful
    (λ x. dep-lawful _ _ _ tasks-lawful
    (λ x. dep-lawful _ _ _ drivers-lawful
    (λ x. dep-lawful _ _ _ guards-lawful
    (λ x. dep-lawful _ _ _ modes-lawful (λ x. code-lawful))))))))

pub table_by-lawful : (version : ℕ) → Lawful (table_by version)
unfolding table_by
table_by-lawful version = table-lawful
