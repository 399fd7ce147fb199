-- Words of 64 bits, a bit for each task (document 01, 'The machine': which tasks are out is one 64-bit word).
use Rattle.std.specs.Prelude.{ℕ, zero, suc, ◌+◌, ◌-◌, ◌/◌, ◌%◌, ◌^◌, Bool, cond, eqb, ltb}
use Rattle.std.proofs.Math.Option.{Option, none, some}

-- the task is in the word
abbrev pub has : ℕ → ℕ → Bool
has word task = eqb (word / 2 ^ task % 2) 1

-- a word with a task's bit; there is none for task 64 and above
abbrev pub joined : ℕ → ℕ → ℕ
joined word task = cond (has word task) word (cond (ltb task 64) (word + 2 ^ task) word)

-- a word without a task's bit
abbrev pub parted : ℕ → ℕ → ℕ
parted word task = cond (has word task) (word - 2 ^ task) word

-- the lowest of the n tasks from `task` on that is in the word
unfoldable pub lowest_from : ℕ → ℕ → ℕ → Option ℕ
lowest_from zero task word = none
lowest_from (suc n) task word =
    let higher = lowest_from n (task + 1) word in
    cond (has word task) (some task) higher

-- the lowest task in a word
abbrev pub lowest_in : ℕ → Option ℕ
lowest_in word = lowest_from 64 0 word

-- how many of the n tasks from `task` on are in the word
unfoldable pub count_from : ℕ → ℕ → ℕ → ℕ
count_from zero task word = 0
count_from (suc n) task word =
    let others = count_from n (task + 1) word in
    cond (has word task) (others + 1) others

-- how many tasks a word has
abbrev pub count_in : ℕ → ℕ
count_in word = count_from 64 0 word
