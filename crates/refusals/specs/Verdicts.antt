-- The answer of the rules 4 to 12: none is broken, or the number and the place of the leftmost that is.
use Rattle.std.specs.Prelude.{ℕ, ◌≡◌, Result, Ok, Err}
use Rattle.std.proofs.Common.{ap}
use Rattle.text.specs.declared.Refusal.{Refusal}

abbrev pub Verdict : Type 0
Verdict = Result (Unit {0}) Refusal

abbrev pub Fine : Verdict
Fine = Ok tt

abbrev pub No : ℕ → ℕ → Verdict
No number at = Err (record { number = number; at = at })

-- two refusals that are one have one number and one place
pub one-refusal : {T : Type 0} {n a m b : ℕ} → ◌≡◌ {A = Result T Refusal} (Err (record { number = n; at = a })) (Err (record { number = m; at = b })) → (n ≡ m) × (a ≡ b)
one-refusal {T} {n} {a} {m} {b} e =
    let same : ◌≡◌ {A = Refusal} (record { number = n; at = a }) (record { number = m; at = b }) = cc in
    (ap (λ (r : Refusal). r.number) same, ap (λ (r : Refusal). r.at) same)
