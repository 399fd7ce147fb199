-- Where a machine waits that keeps up with the rules: which block is next.
use Rattle.std.specs.Prelude.{ℕ, ◌+◌, ◌-◌, ◌≤◌, ◌<◌, ◌≡◌, get_or}
use mathlib.Core.List.{List, ◌∷◌, ◌++◌}
use Rattle.std.proofs.Math.ListN.{length, drop}
use Rattle.model.specs.Modules.{Module}
use Rattle.model.specs.Instructions.{Instr}
use Rattle.timing.specs.Rules.{mode_at, next_instant}
use Rattle.timing.specs.Code.{code_of, begins_of, mode_code, back, front, later_blocks, instants_from, instants_of, first_or}
use Rattle.timing.specs.Placed.{bases_from}

module _ (M : Module) where
  -- the first driver of mode k, and where its begin block stands
  abbrev pub base : ℕ → ℕ
  base k = get_or (bases_from (length M.tasks) M.modes) k 0

  abbrev pub at : ℕ → ℕ
  at k = get_or (begins_of M) k 0

  abbrev pub code : List Instr
  code = code_of M

  -- the distance of the first block behind the begin block; the begin block; the length of a mode's code
  abbrev pub first_distance : ℕ → ℕ
  first_distance k = first_or (mode_at M k).period (instants_of (mode_at M k))

  abbrev pub begin_block : ℕ → List Instr
  begin_block k = back (base k) (mode_at M k) 0 (first_distance k) (at k)

  abbrev pub size : ℕ → ℕ
  size k = length (mode_code (base k) (mode_at M k) (at k))

  -- A machine that waits at pc is the rules' mode k at time t: there stand the blocks of the instants that are left.
  pub record Sync (k t pc : ℕ) : Type 0 where
    pub known : k < length M.modes
    pub before : t < (mode_at M k).period
    pub left : List ℕ
    pub since : ℕ
    pub most : ℕ
    pub enough : (mode_at M k).period ≤ since + most
    pub listed : left ≡ instants_from most (mode_at M k) since
    pub inside : since < (mode_at M k).period
    pub soon : next_instant (mode_at M k) t ≡ first_or (mode_at M k).period left
    pub rest : List Instr
    pub here : drop pc code ≡ later_blocks (base k) (mode_at M k) (at k) left pc ++ rest
    pub low : at k + length (begin_block k) ≤ pc
    pub high : pc + length (later_blocks (base k) (mode_at M k) (at k) left pc) ≤ at k + size k

  -- Past the block of instant t, in the same mode.
  module _ (k time pc : ℕ) (S : Sync k time pc) (t : ℕ) (later : List ℕ) (e : S.left ≡ t ∷ later) where
    abbrev pub behind_front : ℕ
    behind_front = pc + length (front (base k) (mode_at M k) t pc)

    abbrev pub back_block : List Instr
    back_block = back (base k) (mode_at M k) t (first_or (mode_at M k).period later - t) behind_front

    abbrev pub last_blocks : List Instr
    last_blocks = later_blocks (base k) (mode_at M k) (at k) later (behind_front + length back_block)
