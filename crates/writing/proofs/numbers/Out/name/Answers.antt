use Rattle.std.proofs.Common.{arith, ap, ◌∙◌, [], ◌∷◌, ◌-◌, ◌+◌, ◌%◌, ◌≡◌, take, drop}
use Rattle.writing.specs.Wrote.{wrote-both, wrote_of, wrote_as, letters_held}
use Rattle.writing.specs.Cells.{cell, byte_of, letters_in, name_in}
use Rattle.writing.proofs.numbers.Out.name.Goals as goal

pub returns-then-end-names : goal.returns-then-end-names
unfolding name_in byte_of
returns-then-end-names c =
    let names = c.args.names.now in
    let first = c.args.row + 1 in
    let size = c.at8-size.result in
    let low : size ≡ cell names c.args.row % 256 = omega (arith, c.at8-size.ensures) in
    let many : first + size - first ≡ size = omega arith in
    let held = letters_held names first size c.if-end-names.true c.type_inv.names in
    wrote-both (wrote_of (λ n. n ∷ []) low c.put.ensures)
    (wrote_as (ap (λ n. take n (drop first names)) many ∙ held ∙ ap (letters_in names first) c.at8-size.ensures) c.put_letters.ensures)

pub returns-else-end-names : goal.returns-else-end-names
unfolding name_in byte_of
returns-else-end-names c =
    let names = c.args.names.now in
    let first = c.args.row + 1 in
    let size = c.at8-size.result in
    let low : size ≡ cell names c.args.row % 256 = omega (arith, c.at8-size.ensures) in
    wrote-both (wrote_of (λ n. n ∷ []) low c.put.ensures) (wrote_of (letters_in names first) c.at8-size.ensures c.cut_name.ensures)
