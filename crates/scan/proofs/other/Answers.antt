use borrow.Author.Rules.{rules}
use Rattle.std.specs.Char.{is_ascii_digit}
use mathlib.Core.Path.{◌≡◌, sym, ◌∙◌}
use Rattle.text.specs.Words.{digit, word_byte}
use Rattle.scan.specs.WordBytes.{digit-ascii}
use Rattle.scan.specs.Others as law
use Rattle.scan.proofs.other.Goals as goal

pub returns-then-is_ascii_digit : goal.returns-then-is_ascii_digit
returns-then-is_ascii_digit c =
    let args = c.args in
    c.found.ensures ∙ rw (c.run_end.ensures digit (λ b r h e. let told : r ≡ is_ascii_digit b = search rules in told ∙ digit-ascii b)) (sym (law.starts-number args.s.now args.at args.b c.requires (sym (digit-ascii args.b) ∙ sym c.if-is_ascii_digit.ensures.value)))

pub returns-then-is_letter : goal.returns-then-is_letter
returns-then-is_letter c =
    let args = c.args in
    c.found-then-is_letter.ensures ∙ rw (c.run_end-then-is_letter.ensures word_byte (λ b r h e. e)) (sym (law.starts-name args.s.now args.at args.b c.requires (sym c.if-is_letter.ensures)))

pub returns-then-becomes : goal.returns-then-becomes
returns-then-becomes c =
    let args = c.args in
    c.found-then-becomes.ensures ∙ sym (law.starts-becomes args.s.now args.at args.b c.requires (sym c.if-is_letter.ensures) (sym (digit-ascii args.b) ∙ sym c.if-is_ascii_digit.ensures.value) (sym c.if-becomes.ensures))

pub returns-else-becomes : goal.returns-else-becomes
returns-else-becomes c =
    let args = c.args in
    c.found-else-becomes.ensures ∙ sym (law.starts-bad args.s.now args.at args.b c.requires (sym c.if-is_letter.ensures) (sym (digit-ascii args.b) ∙ sym c.if-is_ascii_digit.ensures.value) (sym c.if-becomes.ensures))
