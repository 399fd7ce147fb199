-- Counts, types and values are lawful.
use Rattle.std.specs.Prelude.{ℕ}
use Rattle.codec.specs.Codecs.{Lawful}
use Rattle.codec.proofs.Numbers.{byte-lawful, be-lawful}
use Rattle.codec.proofs.Views.{check-lawful}
use Rattle.file.specs.Parts.{count, type, value}

pub count-lawful : (size room : ℕ) → Lawful (count size room)
unfolding count
count-lawful size room = check-lawful _ _ _ (be-lawful size)

pub type-lawful : Lawful type
unfolding type
type-lawful = check-lawful _ _ _ byte-lawful

pub value-lawful : (type : ℕ) → Lawful (value type)
unfolding value
value-lawful type = check-lawful _ _ _ (be-lawful 4)
