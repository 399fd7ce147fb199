use Rattle.file.specs.Files.{decode}
use Rattle.reading.specs.Readings.{read-table, read-refused, read-numbered}
use Rattle.reading.proofs.read.Goals as goal

pub returns-in-Ok : goal.returns-in-Ok
returns-in-Ok c =
    let (a, n) = read-numbered (decode c.args.bytes.now) (read-table (decode c.args.bytes.now) c.in-Ok.ensures) in
    record { answer = a; number = n }

pub returns-in-Err : goal.returns-in-Err
returns-in-Err c =
    let (a, n) = read-numbered (decode c.args.bytes.now) (read-refused (decode c.args.bytes.now) c.blank.ensures c.in-Err.ensures) in
    record { answer = a; number = n }
