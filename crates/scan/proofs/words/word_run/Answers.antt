use Prim.Native.Nat.{◌+◌}
use mathlib.Core.Bool.{false}
use mathlib.Core.Path.{◌≡◌, sym, ◌∙◌}
use native.Mathlib.Omega.{arith}
use borrow.Author.Rules.{rules}
use lib.ListN.{get_or}
use Rattle.std.specs.Char.{is_ascii_lowercase}
use Rattle.text.specs.Words.{word_byte}
use Rattle.text.proofs.WordsLaws as words
use Rattle.text.proofs.TokensLaws.{munch-at-within}
use Rattle.scan.specs.Runs.{small}
use Rattle.scan.specs.WordBytes as law
use Rattle.scan.proofs.words.word_run.Goals as goal

pub returns-then-is_mark : goal.returns-then-is_mark
returns-then-is_mark c =
    let args = c.args in
    let s = args.s.now in
    let ends = c.closed_end-end.ensures in
    let end = c.closed_end-end.result in
    let word = law.mark-word (get_or s end 0) (sym c.if-is_mark.ensures) in
    let further = c.closed_end.ensures in
    let within = munch-at-within word_byte s (end + 1) (omega (arith, ends.inside)) in
    let whole = ends.same ∙ words.munch-on word_byte s end ends.inside word in
    let told : false ≡ is_ascii_lowercase (get_or s end 0) = search rules in
    let other : small (get_or s end 0) ≡ false = sym (law.small-ascii (get_or s end 0)) ∙ sym told in
    let r = sym (further.same ∙ words.munch-out word_byte s c.closed_end.result further.inside (sym further.other)) in
    (r ∙ sym whole, law.named s args.at end c.closed_end.result (omega (arith, ends.on)) (omega (arith, r, within.0)) (omega (arith, r, within.1)) other)

pub returns-else-is_mark : goal.returns-else-is_mark
returns-else-is_mark c =
    let args = c.args in
    let s = args.s.now in
    let ends = c.closed_end-end.ensures in
    let end = c.closed_end-end.result in
    let told : false ≡ is_ascii_lowercase (get_or s end 0) = search rules in
    let other : small (get_or s end 0) ≡ false = sym (law.small-ascii (get_or s end 0)) ∙ sym told in
    sym (ends.same ∙ words.munch-out word_byte s end ends.inside (law.no_word (get_or s end 0) other (sym c.if-is_mark.ensures)))
