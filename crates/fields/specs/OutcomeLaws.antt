-- What a reader returns where a part of it is refused, or does not pass its test.
use Rattle.std.specs.Prelude.{ℕ, ◌≡◌, refl, Bool, true, false, List, Result, Ok, Err, if◌then◌else◌}
use Rattle.std.proofs.Common.{sym, ap, ◌∙◌}
use Rattle.std.specs.Result.{IsErrAnd}
use Rattle.std.proofs.lemmas.Result.{err_from_is_err_and}
use Rattle.codec.specs.Readings.{Reading, got, no}
use Rattle.codec.specs.Codecs.{Codec}
use Rattle.codec.specs.Views.{check}
use Rattle.codec.proofs.Views.{check-no, check-got, check-fails}
use Rattle.file.specs.declared.Refused.{Refused}
use Rattle.fields.specs.Outcomes.{outcome}

-- the refusal of a part is that of the whole
pub out : {A B : Type 0} (view : A → B) (r : Result A Refused) (rest : List ℕ) (m : Reading B) (e : Refused) → IsErrAnd r (λ y. y ≡ e) → m ≡ no e.number → m ≡ outcome view r rest
out view r rest m e h p = let (y, q, w) = err_from_is_err_and r h in rw (q, w) p

-- what was returned is settled where there is no refusal: no second answer fits, and no other bytes are left
pub one_answer : {A B : Type 0} (view : A → B) (m : Reading B) {rest rest' : List ℕ} {a a' : A} → m ≡ outcome view (Ok a) rest → m ≡ outcome view (Ok a') rest' → (rest ≡ rest') × (view a ≡ view a')
one_answer view m {rest} {rest'} {a} {a'} p q = let e : got (view a) rest ≡ got (view a') rest' = sym p ∙ q in (cc, cc)

-- a part that is tested
module _ {X A : Type 0} (view : X → A) (c : Codec A) (e : ℕ) (test : A → Bool) {bs rest : List ℕ} {x : X} where
  pub tested : {r : Result X Refused} → c.get bs ≡ got (view x) rest → r ≡ (if test (view x) then Ok x else Err (record { number = e })) → (check c e test).get bs ≡ outcome view r rest
  tested p q = rw q (go (test (view x)) refl)
    where
      go : (b : Bool) → test (view x) ≡ b → (check c e test).get bs ≡ outcome view (if b then Ok x else Err (record { number = e })) rest
      go true f = check-got c e test p f
      go false f = check-fails c e test p f
