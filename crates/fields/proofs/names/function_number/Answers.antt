use Rattle.std.proofs.Common.{refl}
use Rattle.model.specs.Bytes.{place_in}
use Rattle.fields.specs.NameLaws as law
use Rattle.fields.proofs.names.function_number.Goals as goal

pub returns-then-eq : goal.returns-then-eq
unfolding place_in
returns-then-eq c = rw (law.compared c.args.word.now _ c.if-eq.ensures c.as_slice.ensures) refl

pub returns-then-eq-2 : goal.returns-then-eq-2
unfolding place_in
returns-then-eq-2 c =
    let w = c.args.word.now in
    rw (law.compared w _ c.if-eq.ensures c.as_slice.ensures, law.compared w _ c.if-eq-2.ensures c.as_slice-else-eq.ensures) refl

pub returns-then-eq-3 : goal.returns-then-eq-3
unfolding place_in
returns-then-eq-3 c =
    let w = c.args.word.now in
    rw (law.compared w _ c.if-eq.ensures c.as_slice.ensures, law.compared w _ c.if-eq-2.ensures c.as_slice-else-eq.ensures, law.compared w _ c.if-eq-3.ensures c.as_slice-else-eq-2.ensures) refl

pub returns-then-eq-4 : goal.returns-then-eq-4
unfolding place_in
returns-then-eq-4 c =
    let w = c.args.word.now in
    rw (law.compared w _ c.if-eq.ensures c.as_slice.ensures, law.compared w _ c.if-eq-2.ensures c.as_slice-else-eq.ensures, law.compared w _ c.if-eq-3.ensures c.as_slice-else-eq-2.ensures, law.compared w _ c.if-eq-4.ensures c.as_slice-else-eq-3.ensures) refl

pub returns-else-eq-4 : goal.returns-else-eq-4
unfolding place_in
returns-else-eq-4 c =
    let w = c.args.word.now in
    rw (law.compared w _ c.if-eq.ensures c.as_slice.ensures, law.compared w _ c.if-eq-2.ensures c.as_slice-else-eq.ensures, law.compared w _ c.if-eq-3.ensures c.as_slice-else-eq-2.ensures, law.compared w _ c.if-eq-4.ensures c.as_slice-else-eq-3.ensures) refl
