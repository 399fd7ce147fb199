-- Names are lawful.
use Rattle.codec.specs.Codecs.{Lawful}
use Rattle.codec.proofs.Numbers.{byte-lawful}
use Rattle.codec.proofs.Views.{check-lawful}
use Rattle.codec.proofs.Lists.{list-lawful}
use Rattle.file.specs.Names.{name}

pub name-lawful : Lawful name
unfolding name
name-lawful = check-lawful _ _ _ (list-lawful _ _ (check-lawful _ _ _ byte-lawful) byte-lawful)
