-- The compiler and the file: the text's file or its refusal, the table of some bytes, the file of a table.
use Rattle.std.specs.Prelude.{◌≡◌, refl, List, []}
use Rattle.std.proofs.Common.{sym, ap, ◌∙◌}
use Rattle.settled.specs.Settled.{Settled}
use Rattle.tdl.proofs.compile.Kinds as compile
use Rattle.tdl.proofs.compile.Reads as compile-reads
use Rattle.ecode.proofs.read.Kinds as read
use Rattle.ecode.proofs.read.Reads as read-reads
use Rattle.ecode.proofs.sound.Kinds as sound
use Rattle.ecode.proofs.sound.Reads as sound-reads
use Rattle.ecode.proofs.write.Kinds as write
use Rattle.ecode.proofs.write.Reads as write-reads
use Rattle.native.proofs.native_compile.Kinds as native-compile
use Rattle.native.proofs.native_compile.Reads as native-compile-reads
use Rattle.native.proofs.native_read.Kinds as native-read
use Rattle.native.proofs.native_read.Reads as native-read-reads

pub compile-settled : Settled compile.ps compile.r compile-reads.Post
compile-settled κs arguments one other held kept p q =
    let buffer : held.1.0 ≡ kept.1.0 = cc in
    (cc, λ i. (tt, (buffer i, tt)))

pub read-settled : Settled read.ps read.r read-reads.Post
read-settled κs arguments one other held kept p q = (cc, refl)

pub sound-settled : Settled sound.ps sound.r sound-reads.Post
sound-settled κs arguments one other held kept p q = (cc, refl)

pub write-settled : Settled write.ps write.r write-reads.Post
write-settled κs arguments one other held kept p q =
    let buffer : held.1.0 ≡ kept.1.0 = cc in
    (cc, λ i. (tt, (buffer i, tt)))

pub native-compile-settled : Settled native-compile.ps native-compile.r native-compile-reads.Post
native-compile-settled κs arguments one other held kept p q = (p.0 ∙ sym q.0, λ i. (tt, ((p.1 ∙ sym q.1) i, tt)))

pub native-read-settled : Settled native-read.ps native-read.r native-read-reads.Post
native-read-settled κs arguments one other held kept p q = (p.0 ∙ sym q.0, λ i. (tt, ((p.1.0 ∙ sym q.1.0) i, ((p.1.1.0 ∙ sym q.1.1.0) i, ((p.1.1.1.0 ∙ sym q.1.1.1.0) i, ((p.1.1.1.1.0 ∙ sym q.1.1.1.1.0) i, ((p.1.1.1.1.1.0 ∙ sym q.1.1.1.1.1.0) i, ((p.1.1.1.1.1.1.0 ∙ sym q.1.1.1.1.1.1.0) i, ((p.1.1.1.1.1.1.1.0 ∙ sym q.1.1.1.1.1.1.1.0) i, ((p.1.1.1.1.1.1.1.1 ∙ sym q.1.1.1.1.1.1.1.1) i, tt))))))))))
