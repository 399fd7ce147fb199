-- What the code has of the definition's option: its own.
use Rattle.std.specs.Prelude.{ℕ, ◌≡◌, refl, Option, Some, None}
use Rattle.std.proofs.Math.Option as M
use Rattle.std.proofs.Math.Option.{none, some}

abbrev pub found_of : M.Option ℕ → Option ℕ
found_of none = None
found_of (some task) = Some task

-- what the definition says where the answer is known
pub task-is : (found : M.Option ℕ) (task : ℕ) → found_of found ≡ Some task → found ≡ some task
task-is none task same = cc
task-is (some other) task same = cc

pub nobody-is : (found : M.Option ℕ) → found_of found ≡ None → found ≡ none
nobody-is none same = refl
nobody-is (some other) same = cc
