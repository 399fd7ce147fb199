-- The definitions by cases (docs/CONSOLE.md).
use Rattle.std.specs.Prelude.{ℕ, ◌≡◌, refl, List, [], ◌∷◌, Bool, Some, None, ◌&&◌, not, T}
use Prim.Native.String.{String}
use Rattle.model.specs.Bytes.{bytes, same}
use Rattle.text.specs.Words.{munch, value_from}
use Rattle.lines.specs.Buffers.{written, behind}
use Rattle.lines.specs.Sayings.{digits_before, decimal_of, glyph_of, pairs_of, hex_of, int_of, value_of, values_behind, values_of}
use Rattle.lines.specs.Parts.{word_at}
use Rattle.lines.specs.Numbers.{digit_in, all, digits, number_of, small_of, hex_worth, bytes_of, unspelled_of}
use Rattle.lines.specs.Values.{boolean_in, positive_of, negative_of, int_in, value_in, pieces, list_in, all_values, types_in, words_in}

puts : written (0 ∷ 0 ∷ 0 ∷ 0 ∷ []) 2 (7 ∷ 8 ∷ 9 ∷ []) ≡ 0 ∷ 0 ∷ 7 ∷ 8 ∷ []
unfolding written
puts = refl

places : (behind 4 2 (7 ∷ 8 ∷ 9 ∷ []) ≡ 4) × (behind 4 1 (7 ∷ 8 ∷ []) ≡ 3) × (behind 4 6 (7 ∷ []) ≡ 6)
unfolding behind
places = (refl, refl, refl)

says : List ℕ → String → Bool
says said text = same said (bytes text)

numbers : T (says (decimal_of 0) "0" && (says (decimal_of 10) "10" && (says (decimal_of 4294967295) "4294967295" && says (decimal_of 18446744073709551615) "18446744073709551615")))
unfolding digits_before same says
numbers = tt

strings : T (says (hex_of []) "-" && says (hex_of (0 ∷ 10 ∷ 255 ∷ [])) "000aff")
unfolding hex_of pairs_of glyph_of same says
strings = tt

values : T (says (values_of [] [] 0) "-" && says (values_of (1 ∷ 0 ∷ 0 ∷ 0 ∷ []) (1 ∷ 7 ∷ 4294967295 ∷ 2147483648 ∷ []) 4) "b1,i7,i-1,i-2147483648")
unfolding values_of values_behind value_of int_of digits_before same says
values = tt

words : (word_at (bytes "tick 7 -") 0 ≡ record { from = 0; to = 4; next = 5 }) × (word_at (bytes "tick 7 -") 7 ≡ record { from = 7; to = 8; next = 9 }) × (word_at (bytes "tick") 9 ≡ record { from = 9; to = 4; next = 5 })
unfolding munch
words = (refl, refl, refl)

small : (small_of (bytes "007") ≡ Some 7) × (small_of (bytes "4294967295") ≡ Some 4294967295) × (small_of (bytes "4294967296") ≡ None) × (small_of (bytes "7a") ≡ None) × (small_of [] ≡ None)
unfolding small_of digits all digit_in value_from
small = (refl, refl, refl, refl, refl)

unspelled : (unspelled_of (bytes "00ff") 2 ≡ Some 2) × (unspelled_of (bytes "00ff") 1 ≡ None) × (unspelled_of (bytes "0ff") 9 ≡ None) × (unspelled_of (bytes "0F") 9 ≡ None) × (unspelled_of (bytes "-") 0 ≡ Some 0) × (unspelled_of [] 9 ≡ None) × (bytes_of (bytes "0aff") ≡ 10 ∷ 255 ∷ [])
unfolding unspelled_of digits all digit_in same bytes_of hex_worth
unspelled = (refl, refl, refl, refl, refl, refl, refl)

listed : List ℕ → Bool
listed w = all_values (list_in w)

lists : T (listed (bytes "-") && (listed (bytes "b0,i-0,i99999999999") && (not (listed []) && (not (listed (bytes "b2")) && (not (listed (bytes "i1,")) && (not (listed (bytes "i1,,i2")) && not (listed (bytes "i--1"))))))))
unfolding listed list_in pieces all_values value_in boolean_in int_in positive_of negative_of number_of digits all digit_in value_from same
lists = tt

kept : (types_in (list_in (bytes "b1,i-1,i2147483648")) ≡ 1 ∷ 0 ∷ 2 ∷ []) × (words_in (list_in (bytes "b1,i-1,i-2147483648")) ≡ 1 ∷ 4294967295 ∷ 2147483648 ∷ [])
unfolding list_in pieces types_in words_in value_in boolean_in int_in positive_of negative_of number_of digits all digit_in value_from same
kept = (refl, refl)
