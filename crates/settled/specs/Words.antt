-- The words of a request line and of its answer, and the names of a table's ports.
use Rattle.std.specs.Prelude.{◌≡◌, refl, List, []}
use Rattle.std.proofs.Common.{sym, ap, ◌∙◌}
use Rattle.settled.specs.Settled.{Settled, SettledAs}
use Rattle.lines.proofs.find.Kinds as find
use Rattle.lines.proofs.find.Reads as find-reads
use Rattle.lines.proofs.word.Kinds as word
use Rattle.lines.proofs.word.Reads as word-reads
use Rattle.lines.proofs.is_last.Kinds as is_last
use Rattle.lines.proofs.is_last.Reads as is-last-reads
use Rattle.lines.proofs.is.Kinds as is
use Rattle.lines.proofs.is.Reads as is-reads
use Rattle.lines.proofs.numbers.decimal.Kinds as numbers-decimal
use Rattle.lines.proofs.numbers.decimal.Reads as numbers-decimal-reads
use Rattle.lines.proofs.numbers.small.Kinds as numbers-small
use Rattle.lines.proofs.numbers.small.Reads as numbers-small-reads
use Rattle.lines.proofs.numbers.bytes.Kinds as numbers-bytes
use Rattle.lines.proofs.numbers.bytes.Reads as numbers-bytes-reads
use Rattle.lines.proofs.values.values.Kinds as values-values
use Rattle.lines.proofs.values.values.Reads as values-values-reads
use Rattle.lines.proofs.saying.byte.Kinds as saying-byte
use Rattle.lines.proofs.saying.byte.Reads as saying-byte-reads
use Rattle.lines.proofs.saying.text.Kinds as saying-text
use Rattle.lines.proofs.saying.text.Reads as saying-text-reads
use Rattle.lines.proofs.saying.decimal.Kinds as saying-decimal
use Rattle.lines.proofs.saying.decimal.Reads as saying-decimal-reads
use Rattle.lines.proofs.saying.hex.Kinds as saying-hex
use Rattle.lines.proofs.saying.hex.Reads as saying-hex-reads
use Rattle.lines.proofs.saying.value.Kinds as saying-value
use Rattle.lines.proofs.saying.value.Reads as saying-value-reads
use Rattle.lines.proofs.saying.values.Kinds as saying-values
use Rattle.lines.proofs.saying.values.Reads as saying-values-reads
use Rattle.naming.proofs.named.Kinds as named
use Rattle.naming.proofs.named.Reads as named-reads
use Rattle.naming.proofs.name.Kinds as name
use Rattle.naming.proofs.name.Reads as name-reads
use Rattle.naming.proofs.Names.port.Kinds as port
use Rattle.naming.proofs.Names.port.Reads as port-reads

pub find-settled : Settled find.ps find.r find-reads.Post
find-settled κs arguments one other held kept p q = (p.place ∙ sym q.place, refl)

pub word-settled : Settled word.ps word.r word-reads.Post
word-settled κs arguments one other held kept p q = (p ∙ sym q, refl)

pub is-last-settled : Settled is_last.ps is_last.r is-last-reads.Post
is-last-settled κs arguments one other held kept p q = (p ∙ sym q, refl)

pub is-settled : Settled is.ps is.r is-reads.Post
is-settled κs arguments one other held kept p q = (p ∙ sym q, refl)

pub numbers-decimal-settled : Settled numbers-decimal.ps numbers-decimal.r numbers-decimal-reads.Post
numbers-decimal-settled κs arguments one other held kept p q = (p ∙ sym q, refl)

pub numbers-small-settled : Settled numbers-small.ps numbers-small.r numbers-small-reads.Post
numbers-small-settled κs arguments one other held kept p q = (p ∙ sym q, refl)

pub numbers-bytes-settled : Settled numbers-bytes.ps numbers-bytes.r numbers-bytes-reads.Post
numbers-bytes-settled κs arguments one other held kept p q =
    let same = p.answer ∙ sym q.answer in
    let room = (rw same at p.held) ∙ sym q.held in
    (same, λ i. (tt, (tt, (room i, tt))))

pub values-values-settled : Settled values-values.ps values-values.r values-values-reads.Post
values-values-settled κs arguments one other held kept p q =
    let same = p.answer ∙ sym q.answer in
    let types = (rw same at p.types-held) ∙ sym q.types-held in
    let words = (rw same at p.words-held) ∙ sym q.words-held in
    (same, λ i. (tt, (tt, (types i, (words i, tt)))))

-- ---- what is said into a buffer, and the place behind it

pub saying-byte-settled : Settled saying-byte.ps saying-byte.r saying-byte-reads.Post
saying-byte-settled κs arguments one other held kept p q = (p.place ∙ sym q.place, λ i. ((p.held ∙ sym q.held) i, (tt, (tt, tt))))

pub saying-text-settled : Settled saying-text.ps saying-text.r saying-text-reads.Post
saying-text-settled κs arguments one other held kept p q = (p.place ∙ sym q.place, λ i. ((p.held ∙ sym q.held) i, (tt, (tt, tt))))

pub saying-decimal-settled : Settled saying-decimal.ps saying-decimal.r saying-decimal-reads.Post
saying-decimal-settled κs arguments one other held kept p q = (p.place ∙ sym q.place, λ i. ((p.held ∙ sym q.held) i, (tt, (tt, tt))))

pub saying-hex-settled : Settled saying-hex.ps saying-hex.r saying-hex-reads.Post
saying-hex-settled κs arguments one other held kept p q = (p.place ∙ sym q.place, λ i. ((p.held ∙ sym q.held) i, (tt, (tt, tt))))

pub saying-value-settled : Settled saying-value.ps saying-value.r saying-value-reads.Post
saying-value-settled κs arguments one other held kept p q = (p.place ∙ sym q.place, λ i. ((p.held ∙ sym q.held) i, (tt, (tt, (tt, tt)))))

pub saying-values-settled : Settled saying-values.ps saying-values.r saying-values-reads.Post
saying-values-settled κs arguments one other held kept p q = (p.place ∙ sym q.place, λ i. ((p.held ∙ sym q.held) i, (tt, (tt, (tt, (tt, tt))))))

pub named-settled : SettledAs named.ps named.r (λ κs answer. answer.now) named-reads.Post
named-settled κs arguments one other held kept p q = (p ∙ sym q, refl)

pub name-settled : Settled name.ps name.r name-reads.Post
name-settled κs arguments one other held kept p q = (p.place ∙ sym q.place, λ i. ((p.held ∙ sym q.held) i, (tt, (tt, (tt, tt)))))

pub port-settled : Settled port.ps port.r port-reads.Post
port-settled κs arguments one other held kept p q = (p.place ∙ sym q.place, λ i. (tt, ((p.held ∙ sym q.held) i, (tt, (tt, tt)))))
