-- Slots (document 01, 'What time does'): an activity of frequency f has f slots of period/f. When slots begin and end is said here and nowhere else.
use Rattle.std.specs.Prelude.{ℕ, zero, suc, ◌+◌, ◌*◌, ◌/◌, min, Bool, false, cond, ◌||◌, ◌&&◌, List, [], ◌∷◌, eqb, leb, ltb}
use Rattle.model.specs.Modules.{Act}

-- A stretch of a mode's period.
pub record Span : Type 0 where
  pub from : ℕ
  pub to : ℕ

-- The slots of one length from the i-th on.
abbrev pub slots_from : ℕ → ℕ → ℕ → List Span
slots_from size zero i = []
slots_from size (suc n) i = record { from = i * size; to = (i + 1) * size } ∷ slots_from size n (i + 1)

-- The slots of an activity in a mode of this period.
unfoldable pub spans : {A : Type 0} → ℕ → Act A → List Span
spans period act = slots_from (period / act.frequency) act.frequency 0

-- whether one of the slots passes
abbrev pub any_of : (Span → Bool) → List Span → Bool
any_of test [] = false
any_of test (span ∷ rest) = test span || any_of test rest

-- At time t a slot ends; begins; is in force from t on; began before t and ends after it.
abbrev pub span_ends : ℕ → Span → Bool
span_ends t span = eqb t span.to

-- whether a slot begins at a time
abbrev pub span_begins : ℕ → Span → Bool
span_begins t span = eqb t span.from

-- whether a time lies in a slot, its beginning included
abbrev pub span_live : ℕ → Span → Bool
span_live t span = leb span.from t && ltb t span.to

-- whether a time lies inside a slot, its ends excluded
abbrev pub span_amid : ℕ → Span → Bool
span_amid t span = ltb span.from t && ltb t span.to

-- So of an activity, at time t of a mode of this period.
abbrev pub ends_at : {A : Type 0} → ℕ → ℕ → Act A → Bool
ends_at period t act = any_of (span_ends t) (spans period act)

-- whether a slot of the activity begins at a time
abbrev pub begins_at : {A : Type 0} → ℕ → ℕ → Act A → Bool
begins_at period t act = any_of (span_begins t) (spans period act)

-- whether a slot of the activity is live at a time
abbrev pub live_at : {A : Type 0} → ℕ → ℕ → Act A → Bool
live_at period t act = any_of (span_live t) (spans period act)

-- whether a time is amid a slot of the activity
abbrev pub amid_at : {A : Type 0} → ℕ → ℕ → Act A → Bool
amid_at period t act = any_of (span_amid t) (spans period act)

-- The first slot end after t of a list of slots, of an activity, of activities; n where that is sooner.
abbrev pub sooner : ℕ → ℕ → ℕ → ℕ
sooner t instant n = cond (ltb t instant) (min n instant) n

-- the first end after a time, or another
abbrev pub next_on : ℕ → List Span → ℕ → ℕ
next_on t [] n = n
next_on t (span ∷ rest) n = next_on t rest (sooner t span.to n)

-- the first end after a time of all activities, or another
abbrev pub soonest : {A : Type 0} → ℕ → ℕ → List (Act A) → ℕ → ℕ
soonest period t [] n = n
soonest period t (act ∷ acts) n = soonest period t acts (next_on t (spans period act) n)

-- those that pass
abbrev pub keep : {A : Type 0} → (A → Bool) → List A → List A
keep test [] = []
keep test (a ∷ rest) =
    let others = keep test rest in
    cond (test a) (a ∷ others) others

-- The activities of which a slot ends, or begins, at time t.
abbrev pub closing : {A : Type 0} → ℕ → ℕ → List (Act A) → List (Act A)
closing period t acts = keep (ends_at period t) acts

-- the activities whose slot begins at a time
abbrev pub opening : {A : Type 0} → ℕ → ℕ → List (Act A) → List (Act A)
opening period t acts = keep (begins_at period t) acts
