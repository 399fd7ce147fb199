use Rattle.std.proofs.Common.{◌≡◌, [], take, length, refl, subst, arith, length-take-le}
use Rattle.std.specs.Io.KnownBytes.{Consumes}
use Rattle.std.proofs.KnownBytes.{Consumes-nil, Consumes-kept}
use Rattle.lines.specs.InputsLaws.{filled, held-still}
use Rattle.lines.proofs.input.Lines.fill.Goals as goal

pub returns-in-Ok-eq0-clause-read : goal.returns-in-Ok-eq0-clause-read
returns-in-Ok-eq0-clause-read g c =
    let before = g.R.Read.remaining c.args.input.now in
    let after = g.R.Read.remaining c.read.new.self in
    (subst (λ n. Consumes before after (take n c.read.new.buf)) c.in-Ok-eq0.field-0-test c.in-Ok-eq0.ensures.bytes.0, held-still c.args.self.now.buffer.now c.read.new.buf _ c.args.self.now.from c.args.self.now.to (omega arith) (omega arith), refl)

pub returns-in-Ok-clause-read : goal.returns-in-Ok-clause-read
returns-in-Ok-clause-read g c =
    let bytes = c.read.new.buf in
    let n = c.in-Ok.n in
    let long : length (take n bytes) ≡ n = length-take-le n bytes (omega arith) in
    (take n bytes, omega arith, c.in-Ok.ensures.bytes.0, filled c.args.self.now.buffer.now bytes _ c.args.self.now.from c.args.self.now.to n (omega arith) (omega arith) (omega arith))

pub returns-in-Err-clause-read : goal.returns-in-Err-clause-read
returns-in-Err-clause-read g c =
    (Consumes-kept _ _ _ [] (Consumes-nil _) c.in-Err.ensures.bytes, held-still c.args.self.now.buffer.now c.read.new.buf _ c.args.self.now.from c.args.self.now.to (omega arith) (omega arith), refl)
