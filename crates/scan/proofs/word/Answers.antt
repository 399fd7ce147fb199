use Prim.Native.Nat.{ℕ, ◌+◌, ◌≤◌, ◌<◌}
use mathlib.Core.Path.{◌≡◌, sym, ◌∙◌}
use native.Mathlib.Omega.{arith}
use borrow.Author.Rules.{rules}
use lib.ListN.{length}
use mathlib.Core.List.{List}
use Rattle.text.specs.Words.{word_byte, munch_at}
use Rattle.text.proofs.TokensLaws.{munch-at-within}
use Rattle.scan.specs.Slices.{slice-range}
use Rattle.scan.specs.Others as law
use Rattle.scan.proofs.word.Goals as goal

within : (s : List ℕ) (at end : ℕ) → at < length s → end ≡ munch_at word_byte s (at + 1) → (at ≤ end) × (end ≤ length s)
within s at end h e =
    let w = munch-at-within word_byte s (at + 1) (omega arith) in
    (omega (arith, e, w.0), omega (arith, e, w.1))

pub slice_bounds-word_token-count : goal.slice_bounds-word_token-count
slice_bounds-word_token-count c = (within c.args.s.now c.args.at c.in-Word.end c.requires.0 c.in-Word.ensures).0

pub slice_bounds-word_token-start : goal.slice_bounds-word_token-start
slice_bounds-word_token-start c =
    let w = within c.args.s.now c.args.at c.in-Word.end c.requires.0 c.in-Word.ensures in
    search rules

pub slice_bounds-word_token-end : goal.slice_bounds-word_token-end
slice_bounds-word_token-end c =
    let w = within c.args.s.now c.args.at c.in-Word.end c.requires.0 c.in-Word.ensures in
    search rules

pub returns-in-Name : goal.returns-in-Name
returns-in-Name c =
    let args = c.args in
    let pre = c.requires in
    let ends = rw c.in-Name.is at c.word_run.ensures in
    c.found.ensures ∙ sym (law.starts-small args.s.now args.at _ pre.0 pre.1 ends.0 ∙ rw ends.1)

pub returns-in-Word : goal.returns-in-Word
returns-in-Word c =
    let args = c.args in
    let pre = c.requires in
    let ends = rw c.in-Word.is at c.word_run.ensures in
    let part = slice-range args.at c.in-Word.end args.s.now (within args.s.now args.at c.in-Word.end pre.0 ends).0 in
    c.found-in-Word.ensures ∙ rw (c.word_token.ensures, part) (sym (law.starts-small args.s.now args.at _ pre.0 pre.1 ends))
