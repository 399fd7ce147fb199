-- The lines of an input: the lines begun, and the next of them by the bytes that are read for it.
use Rattle.std.specs.Prelude.{ℕ, ◌<◌, ◌≡◌, ◌⊎◌, refl, List, [], ◌∷◌, ◌++◌, Bool, true, false, length, Option, Some, None}
use Rattle.std.specs.Borrow.{GName}
use Rattle.std.proofs.Common.{sym, ap, ◌∙◌, arith, inl, inr, subst, append-nil}
use denote.RattleType.{RattleType}
use denote.Param.Laws.{Laws}
use mir.Syntax.{Dict}
use contract.Lifetimes.{Lfts}
use contract.Monad.{Fun, fact}
use borrow.Fn.Kinds.{Dens, res_t, ended_of}
use denote.Triple.Clauses.{Lasts, AtExit, at_exit}
use denote.Triple.Entry.{Args, Res}
use seplogic.Ra.Ura.{Ura}
use types.Logic.{Logic, sem}
use base.Logic.{SProp, sep}
use prog.Memory.{Memory}
use prog.Routine.{Routine}
use Rattle.std.specs.declared.io.traits.Read.{Ghosts}
use Rattle.std.specs.Io.KnownBytes.{Consumes}
use Rattle.std.proofs.lemmas.List.{append_cancel_right}
use Rattle.settled.specs.Settled.{SettledAs}
use Rattle.lines.specs.declared.input.Lines.{Lines}
use Rattle.lines.specs.declared.input.Found.{Found}
use Rattle.lines.specs.declared.input.Found.TheVariants.{Line, Long, End}
use Rattle.lines.specs.Inputs.{held, Unbroken, Ends, Passed, Tells, Gives, IsLine, Answers, GivesOnce}
use Rattle.lines.specs.InputsLaws.{broken, first-end}
use Rattle.lines.specs.contracts.input.Lines.next as promise
use Rattle.lines.proofs.input.Lines.new.Kinds as new
use Rattle.lines.proofs.input.Lines.new.Reads as new-reads
use Rattle.lines.proofs.input.Lines.next.Kinds as next
use Rattle.lines.proofs.input.Lines.next.Reads as next-reads

-- the buffer, what it holds, where what is held of the input stands, and whether it is passed over
pub record State : Type 0 where
  pub buffer : GName
  pub bytes : List ℕ
  pub from : ℕ
  pub to : ℕ
  pub over : Bool

abbrev pub state_of : Lines → State
state_of lines = record { buffer = lines.buffer.ghost_name; bytes = lines.buffer.now; from = lines.from; to = lines.to; over = lines.over }

pub lines-new-settled : SettledAs {T = State} new.ps new.r (λ κs lines. state_of lines) new-reads.Post
lines-new-settled κs arguments one other ended last p q =
    let name = p.0 ∙ sym q.0 in
    let bytes = p.1.0 ∙ sym q.1.0 in
    let to = p.1.1.1.0 ∙ sym q.1.1.1.0 in
    let from : one.from ≡ other.from = omega (arith, one.ordered, other.ordered, p.1.1.1.0, q.1.1.1.0) in
    let over = p.1.1.1.1 ∙ sym q.1.1.1.1 in
    (λ i. record { buffer = name i; bytes = bytes i; from = from i; to = to i; over = over i }, refl)

-- ---- the next line

-- an answer, by the bytes of its line
abbrev pub told : Found → Option (Option (List ℕ))
told (Line line) = Some (Some line.now)
told Long = Some None
told End = None

-- bytes that are passed over leave the same behind them; nothing is left where the next bytes are passed over too
passed-once : (over one other : Bool) (all rest more : List ℕ) → Passed over one all rest → Passed over other all more → (one ≡ true → rest ≡ []) → (other ≡ true → more ≡ []) → (one ≡ other) × (rest ≡ more)
passed-once false false false all rest more p q none nothing = (refl, sym p ∙ q)
passed-once false false true all rest more p q none nothing = absurd q
passed-once false true other all rest more p q none nothing = absurd p
passed-once true false false all rest more (line, u, e) (next, v, f) none nothing = (refl, (first-end line rest next more u v (sym e ∙ f)).1)
passed-once true false true all rest more (line, u, e) (next, v, f) none nothing =
    let unbroken : next ≡ line ++ 10 ∷ rest = sym (append-nil next) ∙ ap (λ l. next ++ l) (sym (nothing refl)) ∙ sym f ∙ e in
    absurd (broken line rest (subst Unbroken unbroken v))
passed-once true true false all rest more (line, u, e) (next, v, f) none nothing =
    let unbroken : line ≡ next ++ 10 ∷ more = sym (append-nil line) ∙ ap (λ l. line ++ l) (sym (none refl)) ∙ sym e ∙ f in
    absurd (broken next more (subst Unbroken unbroken u))
passed-once true true true all rest more p q none nothing = (refl, none refl ∙ sym (nothing refl))

ends-once : (all line rest next more : List ℕ) → Ends all line rest → Ends all next more → (line ≡ next) × (rest ≡ more)
ends-once all line rest next more (u, inl e) (v, inl f) = first-end line rest next more u v (sym e ∙ f)
ends-once all line rest next more (u, inl e) (v, inr (f, none, some)) = absurd (broken line rest (subst Unbroken (sym f ∙ e) v))
ends-once all line rest next more (u, inr (e, none, some)) (v, inl f) = absurd (broken next more (subst Unbroken (sym e ∙ f) u))
ends-once all line rest next more (u, inr (e, none, some)) (v, inr (f, nothing, more-than-none)) = (sym e ∙ f, none ∙ sym nothing)

-- bytes with no LF that begin with a line are that line
unbroken-line : (all line rest : List ℕ) → Unbroken all → Ends all line rest → (all ≡ line) × (0 < length line)
unbroken-line all line rest u (v, inl e) = absurd (broken line rest (subst Unbroken e u))
unbroken-line all line rest u (v, inr (e, none, some)) = (e, some)

none-unbroken : Unbroken []
none-unbroken k d h = absurd (omega (arith, h))

true-false : true ≡ false → ⊥
true-false e = cc

nothing-left : (old new : Lines) (over : Bool) (rest : List ℕ) (found : Found) → Tells old over rest new found → over ≡ true → rest ≡ []
nothing-left old new over rest (Line line) (o, _, _, _) e = absurd (true-false (sym e ∙ o))
nothing-left old new over rest Long (o, _, _, _, _) e = absurd (true-false (sym e ∙ o))
nothing-left old new over rest End (_, none, _, _) e = none

-- where a line is answered, neither a line too long nor the end can be
line-alone : (old new : Lines) (over : Bool) (rest line : List ℕ) → length line < length old.buffer.now → Ends rest line (held new) → (last : Lines) (found : Found) → (told found ≡ Some None) ⊎ (told found ≡ None) → Tells old over rest last found → ⊥
line-alone old new over rest line short ends last (Line next) (inl e) tells = cc
line-alone old new over rest line short ends last (Line next) (inr e) tells = cc
line-alone old new over rest line short ends last Long e (_, _, u, size, _) =
    let same = (unbroken-line rest line (held new) u ends).0 in
    absurd (omega (arith, short, size, ap length same))
line-alone old new over rest line short ends last End e (_, none, _, _) =
    let same = unbroken-line rest line (held new) (subst Unbroken (sym none) none-unbroken) ends in
    absurd (omega (arith, same.1, ap length same.0, ap length none))

tells-once : (old new last : Lines) (over : Bool) (rest : List ℕ) (one other : Found) → Tells old over rest new one → Tells old over rest last other → (told one ≡ told other) × (held new ≡ held last) × (new.over ≡ last.over)
tells-once old new last over rest (Line line) (Line next) (_, o, _, ends) (_, o', _, ends') =
    let same = ends-once rest line.now (held new) next.now (held last) ends ends' in
    (ap (λ l. Some (Some l)) same.0, same.1, o ∙ sym o')
tells-once old new last over rest (Line line) Long (_, _, short, ends) q = absurd (line-alone old new over rest line.now short ends last Long (inl refl) q)
tells-once old new last over rest (Line line) End (_, _, short, ends) q = absurd (line-alone old new over rest line.now short ends last End (inr refl) q)
tells-once old new last over rest Long (Line line) p (_, _, short, ends) = absurd (line-alone old last over rest line.now short ends new Long (inl refl) p)
tells-once old new last over rest End (Line line) p (_, _, short, ends) = absurd (line-alone old last over rest line.now short ends new End (inr refl) p)
tells-once old new last over rest Long Long (_, o, _, _, none) (_, o', _, _, none') = (refl, none ∙ sym none', o ∙ sym o')
tells-once old new last over rest Long End (o, _, _, size, _) (_, none, _, some) = absurd (omega (arith, size, ap length none, some o))
tells-once old new last over rest End Long (_, none, _, some) (o, _, _, size, _) = absurd (omega (arith, size, ap length none, some o))
tells-once old new last over rest End End (o, _, none, _) (o', _, none', _) = (refl, none ∙ sym none', o ∙ sym o')

-- the same is held of the input, the same is passed over, and the buffer is the same
pub record Same (one other : Lines) : Type 0 where
  pub bytes : held one ≡ held other
  pub over : one.over ≡ other.over
  pub room : length one.buffer.now ≡ length other.buffer.now
  pub buffer : one.buffer.ghost_name ≡ other.buffer.ghost_name

-- the same bytes are read: the same is answered, and the same lines are left
pub gives-once : (was now then : Option (List ℕ)) (old new last : Lines) (one other : Found) (p : Gives was now old new one) (q : Gives was then old last other) → p.read ≡ q.read → (told one ≡ told other) × Same new last
gives-once was now then old new last one other p q e =
    let all : held old ++ p.read ≡ held old ++ q.read = ap (λ l. held old ++ l) e in
    let passed = subst (λ l. Passed old.over p.over l p.rest) all p.passed in
    let same = passed-once old.over p.over q.over (held old ++ q.read) p.rest q.rest passed q.passed (nothing-left old new p.over p.rest one p.told) (nothing-left old last q.over q.rest other q.told) in
    let tells : Tells old q.over q.rest new one = subst (λ l. Tells old q.over l new one) same.1 (subst (λ t. Tells old t p.rest new one) same.0 p.told) in
    let answer = tells-once old new last q.over q.rest one other tells q.told in
    (answer.0, record { bytes = answer.1; over = answer.2; room = p.room ∙ sym q.room; buffer = p.same_reference ∙ sym q.same_reference })

-- where all that a reader has left is known, the bytes that it lost are those that were read
pub read-once : (was left one other : List ℕ) → Consumes (Some was) (Some left) one → Consumes (Some was) (Some left) other → one ≡ other
read-once was left one other p q = append_cancel_right one other left (sym p ∙ q)

-- what the contract says: a line, what is answered, and what lines are left once the line is no longer borrowed
pub lines-next-promise : (R : RattleType) (G : Ghosts R.Denot) (D : Dict) (M : Type 1) (𝓤 : Ura M) (𝓛 : Logic 𝓤) (memory : Memory → SProp 𝓤) (returns : Routine → Fun 𝓤) (κs : Lfts 4) (arguments : Args (promise.signature R) κs) (answer : Res (promise.signature R) κs) (exit : AtExit (promise.ended R G D) κs)
    → (let was : Option (List ℕ) = G.remaining arguments.1.0.now in
    let now : Option (List ℕ) = G.remaining exit.1.0.now in
    ◌≡◌ {A = SProp 𝓤} ((promise.clauses R G D 𝓛 memory returns κs arguments).ensures tt answer exit)
    (sep 𝓤 (fact 𝓤 (IsLine (length arguments.0.now.buffer.now) answer)) (sep 𝓤 (fact 𝓤 (Answers was now arguments.0.now answer)) (sem 𝓛 (GivesOnce was now arguments.0 answer)))))
lines-next-promise R G D M 𝓤 𝓛 memory returns κs arguments answer exit = refl

-- two answers that meet the contract, with the same bytes read, are the same; and so are the lines left by two calls that give them, with the same bytes read
pub lines-next-settled : (T : RattleType) (L : Laws T) (G : Ghosts T.Denot) (D : Dict) (κs : Lfts 4) (arguments : Dens κs (next.ps T L)) (one other : (res_t (next.r T L) κs).Denot) (ended last : Lasts (ended_of 4 (next.ps T L) (next.r T L)) κs arguments)
    → (p : next-reads.Post T L G D κs arguments one (at_exit (ended_of 4 (next.ps T L) (next.r T L)) κs arguments ended))
    → (q : next-reads.Post T L G D κs arguments other (at_exit (ended_of 4 (next.ps T L) (next.r T L)) κs arguments last))
    → p.1.1.read ≡ q.1.1.read
    → (told one ≡ told other) × ((was now then : Option (List ℕ)) (left rest : Lines) (gives : Gives was now arguments.0.now left one) (given : Gives was then arguments.0.now rest other) → gives.read ≡ given.read → Same left rest)
lines-next-settled T L G D κs arguments one other ended last p q e =
    ((gives-once _ _ _ arguments.0.now p.1.0 q.1.0 one other p.1.1 q.1.1 e).0, λ was now then left rest gives given same. (gives-once was now then arguments.0.now left rest one other gives given same).1)
