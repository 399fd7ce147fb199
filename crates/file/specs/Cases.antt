-- Worked files (document 01, 'The file'), by computation: one table of cases, one theorem.
use Rattle.std.specs.Prelude.{Bool, true, false, ◌&&◌, List, [], ◌∷◌, ◌++◌, ℕ, zero, suc, ◌-◌, T, eqb, length, take, set}
use Rattle.model.specs.Bytes.{bytes, same}
use Rattle.model.specs.Values.{int, boolean}
use Rattle.model.specs.Instructions.{Instr, Driver, nop, future, call, release, iff, jump, return, switch, updates, releases, terminates}
use Rattle.file.specs.Tables.{port, fixed, GuardRow, Table}
use Rattle.file.specs.Files.{body, encode, Answer, read, refused, decode, sound}
use Rattle.file.specs.Opened.{opened}
use Rattle.file.specs.Samples.{mode_row, guard_row, smallest_with, one_mode, smallest, smallest_file, full_with, all_drivers, all_guards, all_modes, full, framed, wide_tasks, one_more, begun, to_drivers, to_guards, to_modes, to_code}

pub data Case : Type 0 where
  written : Table → List ℕ → Case  -- this table and this file, both ways
  rounds : Table → Case  -- the table is sound, and read back from its file
  refuses : ℕ → List ℕ → Case  -- this file, with this number
  unsound : Table → Case  -- the table's file, with 24
  cut : Table → Case  -- the table's file broken off anywhere behind the version, its length set right, with 22

is_read : Answer → Table → Bool
is_read (read t) u = same (encode t) (encode u)
is_read (refused e) u = false

is_refused : ℕ → Answer → Bool
is_refused e (read t) = false
is_refused e (refused n) = eqb n e

cut_refused : List ℕ → ℕ → Bool
cut_refused bs zero = true
cut_refused bs (suc k) = is_refused 22 (decode (framed (take (suc k) bs))) && cut_refused bs k

passes : Case → Bool
passes (written t bs) = same (encode t) bs && (is_read (decode bs) t && sound t)
passes (rounds t) = is_read (decode (encode t)) t && sound t
passes (refuses e bs) = is_refused e (decode bs)
passes (unsound t) = is_refused 24 (decode (encode t))
passes (cut t) = cut_refused (body t) (length (body t) - 1)

pass_all : List Case → Bool
pass_all [] = true
pass_all (c ∷ cs) = passes c && pass_all cs

-- a byte of the smallest file changed
abbrev changed : ℕ → ℕ → List ℕ
changed at b = set smallest_file at b

-- the full table with this driver alone, or this guard alone, or another code of nine instructions
abbrev with_driver : Driver → Table
with_driver d = full_with (d ∷ []) [] one_mode (return ∷ [])

abbrev with_guard : GuardRow → Table
with_guard g = full_with [] (g ∷ []) one_mode (return ∷ [])

abbrev with_code : Instr → Table
with_code i = full_with all_drivers all_guards all_modes (i ∷ return ∷ return ∷ return ∷ return ∷ return ∷ return ∷ return ∷ return ∷ [])

cases : List Case
cases =
    written smallest smallest_file
    ∷ rounds full
    ∷ cut (full_with (releases 0 (0 ∷ 1 ∷ []) ∷ []) (guard_row (bytes "less") (port 0 ∷ fixed int 0 ∷ []) ∷ []) one_mode (return ∷ []))
    -- 20: under five bytes in all, the length wrong, or its lowest byte first
    ∷ refuses 20 []
    ∷ refuses 20 (0 ∷ 0 ∷ 0 ∷ 0 ∷ [])
    ∷ refuses 20 (changed 3 0x48)
    ∷ refuses 20 (changed 3 0x4A)
    ∷ refuses 20 (smallest_file ++ (0 ∷ []))
    ∷ refuses 20 (set (changed 3 0) 0 0x49)
    -- 21 comes before whatever stands behind the version
    ∷ refuses 21 (changed 4 0)
    ∷ refuses 21 (changed 4 2)
    ∷ refuses 21 (framed (2 ∷ []))
    -- 22: nothing behind the version; bytes missing; bytes left over, before any 24; a count over the room
    ∷ refuses 22 (begun [])
    ∷ refuses 22 (begun (2 ∷ 50 ∷ []))
    ∷ refuses 22 (framed (body smallest ++ (0 ∷ [])))
    ∷ refuses 22 (framed (body (smallest_with one_mode []) ++ (0 ∷ [])))
    ∷ refuses 22 (changed 8 33)
    ∷ refuses 22 (changed 10 33)
    ∷ refuses 22 (changed 12 33)
    ∷ refuses 22 (set (changed 13 1) 14 33)
    ∷ refuses 22 (set (changed 15 1) 16 1)
    ∷ refuses 22 (changed 18 9)
    ∷ refuses 22 (set (changed 30 16) 31 1)
    -- 23: a name's length, 1 to 32, before its bytes; its bytes when all are there; a keyword
    ∷ refuses 23 (begun (0 ∷ []))
    ∷ refuses 23 (begun (33 ∷ []))
    ∷ refuses 22 (begun (32 ∷ []))
    ∷ refuses 23 (begun (2 ∷ 50 ∷ 50 ∷ []))
    ∷ refuses 23 (begun (2 ∷ bytes "as"))
    ∷ refuses 22 (begun (2 ∷ bytes "aS"))
    ∷ refuses 23 (changed 6 32)
    -- a type before its value and its getter; a boolean value
    ∷ refuses 23 (begun (1 ∷ 77 ∷ 0 ∷ 1 ∷ 1 ∷ 115 ∷ 2 ∷ []))
    ∷ refuses 23 (begun (1 ∷ 77 ∷ 0 ∷ 0 ∷ 0 ∷ 1 ∷ 1 ∷ 97 ∷ 1 ∷ 0 ∷ 0 ∷ 0 ∷ 2 ∷ []))
    ∷ refuses 22 (begun (1 ∷ 77 ∷ 0 ∷ 0 ∷ 0 ∷ 1 ∷ 1 ∷ 97 ∷ 0 ∷ 0 ∷ 0 ∷ 0 ∷ 2 ∷ []))
    -- inputs in all: 22 at the count that passes 128
    ∷ refuses 23 (one_more 15)
    ∷ refuses 22 (one_more 16)
    -- a tag before what follows; a release driver's count, a guard's count
    ∷ refuses 23 (to_drivers (2 ∷ []))
    ∷ refuses 23 (to_drivers (6 ∷ []))
    ∷ refuses 22 (to_drivers (4 ∷ 0 ∷ 0 ∷ 9 ∷ []))
    ∷ refuses 22 (to_guards (1 ∷ 103 ∷ 3 ∷ []))
    ∷ refuses 23 (to_guards (1 ∷ 103 ∷ 1 ∷ 2 ∷ []))
    ∷ refuses 23 (to_guards (1 ∷ 103 ∷ 1 ∷ 1 ∷ 1 ∷ 0 ∷ 0 ∷ 0 ∷ 2 ∷ []))
    ∷ refuses 23 (to_guards (1 ∷ 48 ∷ []))
    -- a mode's start byte and period
    ∷ refuses 23 (to_modes (1 ∷ 109 ∷ 2 ∷ []))
    ∷ refuses 23 (to_modes (1 ∷ 109 ∷ 1 ∷ 0 ∷ 0 ∷ 0 ∷ 0 ∷ []))
    ∷ refuses 23 (to_modes (1 ∷ 109 ∷ 1 ∷ 128 ∷ 0 ∷ 0 ∷ 0 ∷ []))
    -- an opcode before its arguments, the first argument before the second: marker, delay, unused
    ∷ refuses 23 (to_code (8 ∷ []))
    ∷ refuses 22 (to_code (7 ∷ []))
    ∷ refuses 23 (to_code (0 ∷ 0 ∷ 0 ∷ 0 ∷ 3 ∷ []))
    ∷ refuses 22 (to_code (0 ∷ 0 ∷ 0 ∷ 0 ∷ 2 ∷ []))
    ∷ refuses 23 (to_code (1 ∷ 0 ∷ 0 ∷ 0 ∷ 0 ∷ 0 ∷ 0 ∷ 0 ∷ 0 ∷ []))
    ∷ refuses 23 (to_code (1 ∷ 0 ∷ 0 ∷ 0 ∷ 0 ∷ 128 ∷ 0 ∷ 0 ∷ 0 ∷ []))
    ∷ refuses 23 (to_code (6 ∷ 0 ∷ 0 ∷ 0 ∷ 0 ∷ []))
    ∷ refuses 23 (to_code (5 ∷ 0 ∷ 0 ∷ 0 ∷ 0 ∷ 0 ∷ 0 ∷ 0 ∷ 0 ∷ []))
    -- 24: a pc names an instruction
    ∷ refuses 24 (changed 72 5)
    ∷ rounds (with_code (jump 8))
    ∷ unsound (with_code (jump 9))
    ∷ unsound (with_code (future 9 1))
    ∷ unsound (with_code (iff 0 9))
    ∷ unsound (with_code (iff 5 0))
    ∷ unsound (with_code (call 6))
    ∷ unsound (with_code (release 2))
    ∷ unsound (with_code (switch 2))
    ∷ unsound (smallest_with (mode_row (bytes "m") 1 1 1 ∷ []) (return ∷ []))
    -- exactly one start mode
    ∷ unsound (smallest_with [] (return ∷ []))
    ∷ unsound (smallest_with (mode_row (bytes "m") 0 1 0 ∷ []) (return ∷ []))
    ∷ unsound (smallest_with (mode_row (bytes "m") 1 1 0 ∷ mode_row (bytes "n") 1 1 0 ∷ []) (return ∷ []))
    -- sources are sensors and outputs, an update's target an actuator, of one type
    ∷ rounds (with_driver (updates 0 2))
    ∷ unsound (with_driver (updates 3 2))
    ∷ unsound (with_driver (updates 4 2))
    ∷ unsound (with_driver (updates 9 2))
    ∷ unsound (with_driver (updates 1 2))
    ∷ unsound (with_driver (updates 0 6))
    ∷ unsound (with_driver (terminates 2))
    ∷ unsound (with_driver (releases 2 []))
    ∷ unsound (with_driver (releases 0 (0 ∷ [])))
    ∷ unsound (with_driver (releases 0 (0 ∷ 1 ∷ 1 ∷ [])))
    ∷ unsound (with_driver (releases 0 (1 ∷ 0 ∷ [])))
    ∷ unsound (with_driver (releases 0 (2 ∷ 1 ∷ [])))
    -- guards: unknown, of a wrong number, of wrong types
    ∷ unsound (with_guard (guard_row (bytes "more") (port 0 ∷ port 0 ∷ [])))
    ∷ unsound (with_guard (guard_row (bytes "isTrue") []))
    ∷ unsound (with_guard (guard_row (bytes "isTrue") (port 1 ∷ port 1 ∷ [])))
    ∷ unsound (with_guard (guard_row (bytes "less") (port 0 ∷ [])))
    ∷ unsound (with_guard (guard_row (bytes "isFalse") (port 0 ∷ [])))
    ∷ unsound (with_guard (guard_row (bytes "less") (port 1 ∷ port 1 ∷ [])))
    ∷ unsound (with_guard (guard_row (bytes "equal") (port 0 ∷ fixed boolean 0 ∷ [])))
    ∷ unsound (with_guard (guard_row (bytes "isTrue") (port 3 ∷ [])))
    ∷ unsound (with_guard (guard_row (bytes "isTrue") (port 9 ∷ [])))
    -- what the reader does not check: equal names, code without a return
    ∷ rounds (smallest_with (mode_row (bytes "m") 0 1 0 ∷ mode_row (bytes "m") 1 1 0 ∷ []) (nop 0 ∷ []))
    ∷ []

bench : T (pass_all cases)
unfolding opened smallest_with smallest_file full_with wide_tasks is_read is_refused cut_refused passes pass_all cases
bench = tt
