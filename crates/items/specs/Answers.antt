-- For the first pass's answers, document 01's number and byte offset for each of its cases.
use Rattle.std.specs.Prelude.{◌≡◌, refl, Result, Ok, Err}
use Rattle.std.proofs.Math.Option.{Option, none, some}
use Rattle.text.specs.Items.{Refusal, refuse}
use Rattle.text.specs.declared.Refusal as code

-- a text free of 2 and 3, or the leftmost of them and its place
abbrev pub FirstPass : Type 0
FirstPass = Result (Unit {0}) code.Refusal

abbrev pub refusal_of : FirstPass → Option Refusal
refusal_of (Ok free) = none
refusal_of (Err refusal) = refuse refusal.number refusal.at

-- the answer for what a text is refused with
abbrev pub answered : Option Refusal → FirstPass
answered none = Ok tt
answered (some refusal) = Err (record { number = refusal.number; at = refusal.offset })

-- an answer tells what the text is refused with
pub told : (o : Option Refusal) (r : FirstPass) → r ≡ answered o → o ≡ refusal_of r
told o r e = rw e (back o)
  where
    back : (p : Option Refusal) → p ≡ refusal_of (answered p)
    back none = refl
    back (some refusal) = refl
