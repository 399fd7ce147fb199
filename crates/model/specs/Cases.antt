-- Values, guards, ports and the clock, computed.
use Rattle.std.specs.Prelude.{ℕ, ◌≡◌, refl, Bool, true, ◌&&◌, not, List, [], ◌∷◌, T, eqb}
use Rattle.std.specs.Int.{w32}
use Rattle.std.proofs.Common.{to_z}
use Rattle.model.specs.declared.Value.TheVariants.{Int, Flag}
use Rattle.model.specs.declared.Operand.TheVariants.{Port, Fixed}
use Rattle.model.specs.declared.Function.{Function}
use Rattle.model.specs.declared.Function.TheVariants.{IsTrue, IsFalse, Less, Equal}
use Rattle.model.specs.Bytes.{bytes, same, place_in}
use Rattle.model.specs.Values.{int, boolean, word_of, value_of, holds, function_names}
use Rattle.model.specs.Clock.{elapsed, early, due, missed, judged, fits}
use Rattle.model.specs.Modules.{place, copy_to}

-- a guard on ports that hold -1, 7 and true, and on the fixed values 7 and true
ports : List ℕ
ports = 4294967295 ∷ 7 ∷ 1 ∷ []

first : Function → ℕ → ℕ → Bool
first function a b = holds ports (record { function = function; first = Port a; second = Port b })

fixed : Function → ℕ → Bool
fixed function a = holds ports (record { function = function; first = Port a; second = Fixed (Int (to_z w32 7)) })

guards : T ((first Less 0 1 && not (first Less 1 0)) && ((not (first Less 1 1) && first Equal 1 1) && ((first IsTrue 2 0 && not (first IsFalse 2 0)) && (fixed Less 0 && fixed Equal 1))))
unfolding holds ports first fixed
guards = tt

words : T (eqb (word_of (Int (to_z w32 4294967295))) 4294967295 && (eqb (word_of (Flag true)) 1 && eqb (word_of (value_of int 2147483648)) 2147483648))
words = tt

-- the clock runs over; only the difference matters
clock : T (eqb (elapsed 4294965000 2704) 5000 && (eqb (elapsed 4294965000 4294967000) 2000 && (eqb (elapsed 5 4) 4294967295 && eqb (elapsed 7 7) 0)))
clock = tt

less-idle : judged 2000 5000 ≡ early 3000
less-idle = refl

equal-due : judged 5000 5000 ≡ due
equal-due = refl

more-missed : judged 5001 5000 ≡ missed
more-missed = refl

-- right in number and type; a boolean is 0 or 1
values : T (fits (int ∷ boolean ∷ []) (int ∷ boolean ∷ []) (9 ∷ 1 ∷ []) && (not (fits (int ∷ []) (boolean ∷ []) (1 ∷ [])) && (not (fits (boolean ∷ []) (boolean ∷ []) (2 ∷ [])) && (not (fits [] (int ∷ []) (1 ∷ [])) && not (fits (int ∷ []) (int ∷ []) [])))))
unfolding fits
values = tt

copies : copy_to 1 (0 ∷ 1 ∷ []) (5 ∷ 6 ∷ 7 ∷ []) ≡ 5 ∷ 5 ∷ 5 ∷ []
copies = refl

places : place 1 (8 ∷ 9 ∷ 10 ∷ []) (5 ∷ 6 ∷ 7 ∷ []) ≡ 5 ∷ 8 ∷ 9 ∷ []
places = refl

named : T (eqb (place_in function_names 0 (bytes "less")) 2 && eqb (place_in function_names 0 (bytes "Less")) 4)
unfolding place_in same
named = tt
