-- What it is that a contract settles.
use Rattle.std.specs.Prelude.{ℕ, ◌≡◌, List}
use contract.Lifetimes.{Lfts}
use borrow.Fn.Kinds.{ParamKind, ResultKind, Out, Dens, res_t, ended_of}
use denote.Triple.Clauses.{Lasts, at_exit}

-- Whatever is handed in: two answers that meet the contract, each with what the lent arrays hold when it is given, are the same, and the arrays hold the same.
abbrev pub Settled : {n : ℕ} (ps : List (ParamKind n)) (r : ResultKind n) → Out n ps r → Type 0
Settled {n} ps r contract =
    (κs : Lfts n) (arguments : Dens κs ps) (one other : (res_t r κs).Denot) (held kept : Lasts (ended_of n ps r) κs arguments)
    → contract κs arguments one (at_exit (ended_of n ps r) κs arguments held)
    → contract κs arguments other (at_exit (ended_of n ps r) κs arguments kept)
    → (one ≡ other) × (held ≡ kept)

-- The same where the answer is a reference, by what it shows.
abbrev pub SettledAs : {n : ℕ} {T : Type 0} (ps : List (ParamKind n)) (r : ResultKind n) → ((κs : Lfts n) → (res_t r κs).Denot → T) → Out n ps r → Type 0
SettledAs {n} ps r shown contract =
    (κs : Lfts n) (arguments : Dens κs ps) (one other : (res_t r κs).Denot) (held kept : Lasts (ended_of n ps r) κs arguments)
    → contract κs arguments one (at_exit (ended_of n ps r) κs arguments held)
    → contract κs arguments other (at_exit (ended_of n ps r) κs arguments kept)
    → (shown κs one ≡ shown κs other) × (held ≡ kept)
