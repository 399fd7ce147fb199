-- The activities of a kind at one instant: what each puts into the code.
use Rattle.std.specs.Prelude.{ℕ, Bool, cond, List, [], ◌∷◌, map}
use Rattle.std.proofs.Math.Option.{Option, none}
use Rattle.model.specs.Modules.{Act}
use Rattle.model.specs.Instructions.{Instr, call, release, switch}
use Rattle.timing.specs.Slots.{Span, spans, any_of, span_ends, span_begins, keep}
use Rattle.timing.specs.Code.{Driven, driven_from, Piece, fixed, guarded, pieces}
use Rattle.emit.specs.declared.activities.Kind.{Kind}
use Rattle.emit.specs.declared.activities.Kind.TheVariants.{Termination, Update, Switch, Release}

-- A termination calls its task's driver, an update its own. A release is call, release.
abbrev pub body_of : Kind → ℕ → ℕ → List Instr
body_of Termination what driver = call what ∷ []
body_of Update what driver = call driver ∷ []
body_of Switch what driver = switch what ∷ []
body_of Release what driver = call driver ∷ release what ∷ []

abbrev pub body_in : Kind → Driven ℕ → List Instr
body_in kind act = body_of kind act.does act.driver

-- A termination has no `if`.
abbrev pub guard_for : Kind → Option ℕ → Option ℕ
guard_for Termination guard = none
guard_for Update guard = guard
guard_for Switch guard = guard
guard_for Release guard = guard

abbrev pub seen_as : {A : Type 0} → Kind → Act A → Act A
seen_as kind act = record { frequency = act.frequency; guard = guard_for kind act.guard; what = act.what }

-- Releases are due at a slot's beginning, all else at its end.
abbrev pub edge_of : Kind → ℕ → Span → Bool
edge_of Termination t = span_ends t
edge_of Update t = span_ends t
edge_of Switch t = span_ends t
edge_of Release t = span_begins t

abbrev pub due_at : {A : Type 0} → Kind → ℕ → ℕ → Act A → Bool
due_at kind period t act = any_of (edge_of kind t) (spans period act)

-- the activities that are due, their drivers from `driver` on
unfoldable pub lines : Kind → ℕ → ℕ → ℕ → List (Act ℕ) → Piece
lines kind period t driver acts = pieces (body_in kind) (keep (due_at kind period t) (driven_from driver (map (seen_as kind) acts)))

-- one of them
unfoldable pub line : Kind → ℕ → ℕ → ℕ → Act ℕ → Piece
line kind period t driver act = cond (due_at kind period t act) (guarded (guard_for kind act.guard) (body_of kind act.what driver)) (fixed [])
