-- Refusals 1, 13 and 14 by cases, on both sides of each limit (document 01, 'When the compiler says no').
use Rattle.std.specs.Prelude.{ℕ, zero, suc, ◌&&◌, List, [], ◌∷◌, ◌++◌, length, T}
use Prim.Native.String.{String}
use Rattle.model.specs.Bytes.{bytes, same}
use Rattle.text.specs.Items.{refused_in}
use Rattle.file.specs.Opened.{opened}
use Rattle.refusals.specs.Reading.{read_items, answer_by, module_by}
use Rattle.timing.specs.Slots.{spans}
use Rattle.timing.specs.Rules.{next_instant}
use Rattle.timing.specs.Code.{code_of, begins_of, drivers_of, code_from, begins_from, mode_code, later_blocks, back, front, instants_of, instants_from}
use Rattle.prescribed.specs.Tables.{table_of}
use Rattle.prescribed.specs.Compiles.{file_of, compile_of}
use Rattle.prescribed.specs.Bench.{is_file, is_refusal, smallest}

-- ---- 1: 16,385 bytes are too many, 16,384 are not

unfoldable pub blanks : ℕ → List ℕ
blanks zero = []
blanks (suc n) = 32 ∷ blanks n

pub too_long : T (is_refusal (compile_of (blanks 16385) 0) 1 0)
unfolding blanks is_refusal compile_of
too_long = tt

pub not-too-long : T (is_refusal (compile_of (blanks 16384) 0) 3 16384)
unfolding blanks is_refusal compile_of read_items refused_in
not-too-long = tt

-- ---- 13: code of 4,097 instructions is too much, of 4,096 is not

-- a mode of this name with two tasks of frequency 64 has 641 instructions
unfoldable pub full : String → List ℕ
full name = bytes "mode " ++ (bytes name ++ bytes "[period=64us]{task[freq=64]t();[freq=64]u();}")

unfoldable pub six : List ℕ
six = full "a" ++ (full "b" ++ (full "c" ++ (full "d" ++ (full "e" ++ full "f"))))

-- six of them, and a mode with a switch of frequency 49, which has 246, and one instruction more for each of these switches
unfoldable pub large : String → List ℕ
large switches =
    bytes "module M{task t{uses f;}task u{uses f;}" ++ (six ++ (bytes "start mode g[period=49us]{mode[freq=49]g;" ++ (bytes switches ++ bytes "}}")))

pub too_large : T (is_refusal (compile_of (large "[freq=1]g;[freq=1]g;[freq=1]g;[freq=1]g;[freq=1]g;") 100000) 13 (length (large "[freq=1]g;[freq=1]g;[freq=1]g;[freq=1]g;[freq=1]g;")))
unfolding full six large is_refusal compile_of read_items answer_by module_by refused_in same code_of code_from mode_code later_blocks back front instants_of instants_from next_instant spans
too_large = tt

-- it goes on to 14
pub not-too-large : T (is_refusal (compile_of (large "[freq=1]g;[freq=1]g;[freq=1]g;[freq=1]g;") 0) 14 (length (large "[freq=1]g;[freq=1]g;[freq=1]g;[freq=1]g;")))
unfolding full six large is_refusal compile_of file_of table_of opened read_items answer_by module_by refused_in same code_of begins_of drivers_of code_from begins_from mode_code later_blocks back front instants_of instants_from next_instant spans
not-too-large = tt

-- ---- 14: a buffer of 76 bytes is too short for the smallest module's 77, one of 77 is not

pub no_room : T (is_refusal (compile_of smallest 76) 14 (length smallest) && is_file (compile_of smallest 77))
unfolding smallest is_refusal is_file compile_of file_of table_of opened read_items answer_by module_by refused_in same code_of begins_of drivers_of code_from begins_from mode_code later_blocks back front instants_of instants_from next_instant spans
no_room = tt
