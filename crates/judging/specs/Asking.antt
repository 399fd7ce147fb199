-- How a function that asks part by part answers for the whole: its first refusal, or else what the last part says.
use Rattle.std.specs.Prelude.{◌≡◌, List, [], ◌∷◌, ◌++◌, false, Result, Ok, Err, IsErr, IsErrAnd}
use Rattle.std.specs.Result.{result_and}
use Rattle.std.proofs.Common.{sym, ap, ◌∙◌}
use Rattle.std.proofs.lemmas.Result.{err_from_is_err_and}
use Rattle.text.specs.declared.Refusal.{Refusal}
use Rattle.refusals.specs.Verdicts.{Verdict}
use Rattle.refusals.specs.Checks.{Check, first}
use Rattle.refusals.specs.ChecksLaws.{first_on, part-ends, fine-one}

-- what `?` hands on
pub handed : {T : Type 0} {r : Result T Refusal} {e : Refusal} → IsErr r × IsErrAnd r (λ d. d ≡ e) → r ≡ Err e
handed {r} h = let p = err_from_is_err_and r h.1 in p.1 ∙ ap Err p.2

-- a part that is refused ends the asking
pub asked-ends : {r : Verdict} {e : Refusal} (cs ds : List Check) → IsErr r × IsErrAnd r (λ d. d ≡ e) → Err e ≡ first cs → r ≡ first (cs ++ ds)
asked-ends cs ds h p = part-ends cs ds (handed h ∙ p) (rw (handed h))

-- behind one that is not, the rest decides
pub asked-on : {v : Verdict} {u : Unit {0}} (cs ds : List Check) → Ok u ≡ first cs → v ≡ first ds → v ≡ first (cs ++ ds)
asked-on cs ds p q = q ∙ sym (first_on cs ds (sym p))

-- ---- where an answer without a refusal has a value beside it

pub asked-none : {T : Type 0} {r : Result T Refusal} {e : Refusal} {v : Verdict} (x : Result T Refusal) → IsErr r × IsErrAnd r (λ d. d ≡ e) → Err e ≡ v → r ≡ result_and v x
asked-none x h p = handed h ∙ rw (← p)

pub asked-all : {T : Type 0} {x : Result T Refusal} {u : Unit {0}} {v : Verdict} → Ok u ≡ v → x ≡ result_and v x
asked-all p = rw (← p)

-- a rule that is asked and refuses nothing is not broken
pub not-broken : (c : Check) {u : Unit {0}} → Ok u ≡ first (c ∷ []) → c.broken ≡ false
not-broken c p = (fine-one c [] (sym p)).0
