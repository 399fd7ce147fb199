-- Causality: what is shown up to a call does not depend on later calls; a reading enters only at a due tick; a result only where a slot of its task ends.
use Prim.Native.Nat.{ℕ, zero, suc, ◌-◌}
use Rattle.std.proofs.Common.{arith, sym, ◌∙◌, ap, ap₂, subst, ne_eqb, eqb-true}
use Rattle.std.specs.Prelude.{◌≡◌, refl, ◌≢◌, Bool, true, false, cond, List, [], ◌∷◌, ◌++◌, length, get_or, take, set, eqb, ltb}
use Rattle.std.proofs.Math.Option.{Option, none, some}
use Rattle.model.specs.Clock.{elapsed, early, due, missed, judged, fits}
use Rattle.model.specs.Modules.{Module, place}
use Rattle.timing.specs.Rules.{Standing, idle, ready, running, done, Store, Outcome, well, late, Place, outputs_of, ended}
use Rattle.timing.specs.Calls.{Ask, tick, next, finish, Reply, refused, fell, given, View, Said, lowest, reading_types, result_types, remains, stay, came_to, ticked, handed, finished, answer, ask, comes}
use Rattle.timing.specs.Ticks.{next_time, at_next}
use Rattle.timing.specs.Related.{Rel, Same, OnBoth, put, instant-rel}
-- ---- earlier answers do not depend on later calls

use Rattle.timing.specs.Causes.{Calm, CalmAt, Like, NoTrace, Vary, VaryAt, shown, stage}

module _ (M : Module) where
  -- Two histories that begin alike show the same as long as they are alike: later readings and results enter only later.
  pub causal : (first later other : List Ask) (v : View) → take (length first) ((shown M) (first ++ later) v) ≡ take (length first) ((shown M) (first ++ other) v)
  causal [] later other v = refl
  causal (a ∷ first) later other v = ap (λ (l : List Said). ask M a v ∷ l) (causal first later other (ask M a v).view)

  pub comes-on : (first later : List Ask) (v : View) → comes M (first ++ later) v ≡ comes M later (comes M first v)
  comes-on [] later v = refl
  comes-on (a ∷ first) later v = comes-on first later (ask M a v).view

  -- ---- the reading of a tick that is not due enters nowhere
  pub deaf : (count : ℕ) (types words types1 words1 : List ℕ) (v : View) → fits (reading_types M) types words ≡ fits (reading_types M) types1 words1 → (elapsed v.clock count ≢ remains M v.place)
      → ask M (tick count types words) v ≡ ask M (tick count types1 words1) v
  unfolding ask
  deaf count types words types1 words1 v f n = go v.stopped
    where
      gone : ℕ
      gone = elapsed v.clock count

      left : ℕ
      left = remains M v.place

      same : (y z : Bool) → z ≡ false → ticked M v count words (cond y (early (left - gone)) (cond z due missed)) ≡ ticked M v count words1 (cond y (early (left - gone)) (cond z due missed))
      same true z e = refl
      same false false e = refl
      same false true e = let q : ◌≡◌ {A = ℕ} 0 1 = cc in absurd (omega arith)

      either : (y z : Bool) → y ≡ z → cond y (ticked M v count words (judged gone left)) (stay M v (refused 32)) ≡ cond z (ticked M v count words1 (judged gone left)) (stay M v (refused 32))
      either true true e = same (ltb gone left) (eqb gone left) (ne_eqb gone left n)
      either false false e = refl
      either true false e = let q : ◌≡◌ {A = ℕ} 0 1 = cc in absurd (omega arith)
      either false true e = let q : ◌≡◌ {A = ℕ} 0 1 = cc in absurd (omega arith)

      go : (o : Option ℕ) → answer M (tick count types words) v o ≡ answer M (tick count types1 words1) v o
      go (some task) = refl
      go none = either (fits (reading_types M) types words) (fits (reading_types M) types1 words1) f

like : (d : Bool) (x : Standing) → Like d x x
like d x = record { as-far = refl; same = λ _. refl }

lowest-cons : (n : ℕ) (x : Standing) (l : List Standing) → lowest n (x ∷ l) ≡ cond (eqb (stage x) 1) (some n) (lowest (suc n) l)
lowest-cons n idle l = refl
lowest-cons n ready l = refl
lowest-cons n running l = refl
lowest-cons n (done x) l = refl

lowest-like : (d : ℕ → Bool) (n : ℕ) (l m : List Standing) → length l ≡ length m → ((j : ℕ) → Like (d j) (get_or l j idle) (get_or m j idle)) → lowest n l ≡ lowest n m
lowest-like d n [] [] e h = refl
lowest-like d n [] (b ∷ m) e h = absurd (omega arith)
lowest-like d n (a ∷ l) [] e h = absurd (omega arith)
lowest-like d n (a ∷ l) (b ∷ m) e h =
    let k : stage a ≡ stage b = (h zero).as-far in
    let i = lowest-like (λ j. d (suc j)) (suc n) l m (omega arith) (λ j. h (suc j)) in
    lowest-cons n a l ∙ ap₂ (λ (x : ℕ) (y : Option ℕ). cond (eqb x 1) (some n) y) k i ∙ sym (lowest-cons n b m)

module _ (M : Module) (D : ℕ → Bool) where
  abbrev Sim : Store → Store → Type 0
  Sim s q = Rel (λ j. Like (D j)) s q

  abbrev Alike : {A : Type 0} → (A → A → Type 0) → Outcome A → Outcome A → Type 0
  Alike F a b = OnBoth ⊥ (λ x y. x ≡ y) F a b

  ended-sim : (t : ℕ) → D t ≡ false → (x y : Standing) → Like (D t) x y → (s q : Store) → Sim s q → Alike Sim (ended M t s x) (ended M t q y)
  ended-sim t d x y w s q S = subst (λ (z : Standing). Alike Sim (ended M t s x) (ended M t q z)) (w.same d) (on x)
    where
      on : (z : Standing) → Alike Sim (ended M t s z) (ended M t q z)
      on idle = S
      on ready = refl
      on running = refl
      on (done r) = put (λ j. Like (D j)) t idle idle _ _ s q (ap (place (outputs_of M t) r) S.same-ports) (like (D t) idle) S

  -- the same view with another store
  abbrev besides : View → Store → View
  besides v q = record { place = record { mode = v.place.mode; time = v.place.time; store = q; released = v.place.released }; clock = v.clock; stopped = v.stopped }

  record Both (a b : Said) : Type 0 where
    other : Store
    says : b.reply ≡ a.reply
    shows : b.view ≡ besides a.view other
    sim : Sim a.view.place.store other

  either : (y z : Bool) → y ≡ z → (a b c d : Said) → Both a c → Both b d → Both (cond y a b) (cond z c d)
  either true true e a b c d h k = h
  either false false e a b c d h k = k
  either true false e a b c d h k = let q : ◌≡◌ {A = ℕ} 0 1 = cc in absurd (omega arith)
  either false true e a b c d h k = let q : ◌≡◌ {A = ℕ} 0 1 = cc in absurd (omega arith)

  module _ (v : View) (q : Store) (S : Sim v.place.store q) where
    abbrev u : View
    u = besides v q

    stays : (r : Reply) → Both (stay M v r) (stay M u r)
    stays r = record { other = q; says = refl; shows = refl; sim = S }

    react-both : (count : ℕ) (a b : Outcome Place) → Alike (Same (λ j. Like (D j))) a b → Both (came_to M v count a) (came_to M u count b)
    react-both count (well w) (well y) h =
        record {
          other = y.store;
          says = refl;
          shows = let h1 = sym h.same-mode in let h2 = sym h.same-time in let h3 = sym h.same-released in
              λ i. record { place = record { mode = h1 i; time = h2 i; store = y.store; released = h3 i }; clock = count; stopped = none };
          sim = h.rel;
        }
    react-both count (well w) (late y) h = absurd h
    react-both count (late x) (well y) h = absurd h
    react-both count (late x) (late y) h = record { other = q; says = ap fell (sym h); shows = λ i. record { place = u.place; clock = v.clock; stopped = some (sym h i) }; sim = S }

    tick-both : (count : ℕ) (types words : List ℕ) → (CalmAt M D) (tick count types words) v → Both (answer M (tick count types words) v none) (answer M (tick count types words) u none)
    tick-both count types words d = either y y refl _ _ _ _ (go (ltb gone left) (eqb gone left) refl) (stays (refused 32))
      where
        y : Bool
        y = fits (reading_types M) types words

        gone : ℕ
        gone = elapsed v.clock count

        left : ℕ
        left = remains M v.place

        go : (y z : Bool) → eqb gone left ≡ z → Both (ticked M v count words (cond y (early (left - gone)) (cond z due missed))) (ticked M u count words (cond y (early (left - gone)) (cond z due missed)))
        go true z e = record { other = q; says = refl; shows = refl; sim = S }
        go false false e = stays (refused 33)
        go false true e =
            react-both count (at_next M v words) (at_next M u words)
            (instant-rel M (λ j. Like (D j)) (λ t. like (D t) ready) ⊥ (λ x y. x ≡ y) (λ o x y. absurd o) (λ t. D t ≡ false) ended-sim v.place.mode (next_time M v) words v.place.store q (d (eqb-true gone left e)) S)

    hand-both : (o : Option ℕ) → Both (handed M v o) (handed M u o)
    hand-both none = stays (given none)
    hand-both (some t) =
        record {
          other = record { ports = q.ports; tasks = set q.tasks t running };
          says = refl;
          shows = refl;
          sim = put (λ j. Like (D j)) t running running _ _ v.place.store q S.same-ports (like (D t) running) S;
        }

    finish-both : (t : ℕ) (types words types1 words1 : List ℕ) → fits (result_types M t) types words ≡ fits (result_types M t) types1 words1 → (D t ≡ false → words ≡ words1)
        → (a b : Standing) → stage a ≡ stage b → Both (finished M v t types words a) (finished M u t types1 words1 b)
    finish-both t types words types1 words1 f d idle idle e = stays (refused 34)
    finish-both t types words types1 words1 f d ready ready e = stays (refused 34)
    finish-both t types words types1 words1 f d (done k) (done n) e = stays (refused 34)
    finish-both t types words types1 words1 f d idle ready e = absurd (omega arith)
    finish-both t types words types1 words1 f d idle running e = absurd (omega arith)
    finish-both t types words types1 words1 f d idle (done n) e = absurd (omega arith)
    finish-both t types words types1 words1 f d ready idle e = absurd (omega arith)
    finish-both t types words types1 words1 f d ready running e = absurd (omega arith)
    finish-both t types words types1 words1 f d ready (done n) e = absurd (omega arith)
    finish-both t types words types1 words1 f d (done k) idle e = absurd (omega arith)
    finish-both t types words types1 words1 f d (done k) ready e = absurd (omega arith)
    finish-both t types words types1 words1 f d (done k) running e = absurd (omega arith)
    finish-both t types words types1 words1 f d running idle e = absurd (omega arith)
    finish-both t types words types1 words1 f d running ready e = absurd (omega arith)
    finish-both t types words types1 words1 f d running (done n) e = absurd (omega arith)
    finish-both t types words types1 words1 f d running running e =
        either (fits (result_types M t) types words) (fits (result_types M t) types1 words1) f _ _ _ _
        (record {
          other = record { ports = q.ports; tasks = set q.tasks t (done words1) };
          says = refl;
          shows = refl;
          sim = put (λ j. Like (D j)) t (done words) (done words1) _ _ v.place.store q S.same-ports (record { as-far = refl; same = λ h. ap done (d h) }) S;
        })
        (stays (refused 35))

    one : (a b : Ask) (o : Option ℕ) → (VaryAt M D) a b → (CalmAt M D) a v → Both (answer M a v o) (answer M b u o)
    one a b (some x) w d = stays (refused 31)
    one (tick count types words) (tick count1 types1 words1) none w d =
        subst (λ (b : Ask). Both (answer M (tick count types words) v none) (answer M b u none)) (λ i. tick (w.0 i) (w.1 i) (w.2 i)) (tick-both count types words d)
    one next next none w d =
        subst (λ (o : Option ℕ). Both (handed M v (lowest 0 v.place.store.tasks)) (handed M u o)) (lowest-like D 0 v.place.store.tasks q.tasks S.same_size S.each) (hand-both (lowest 0 v.place.store.tasks))
    one (finish task types words) (finish task1 types1 words1) none w d =
        subst (λ (j : ℕ). Both (answer M (finish task types words) v none) (answer M (finish j types1 words1) u none)) w.0
        (finish-both task types words types1 words1 w.1 w.2 (get_or v.place.store.tasks task idle) (get_or q.tasks task idle) (S.each task).as-far)
    one (tick count types words) next none w d = absurd w
    one (tick count types words) (finish task1 types1 words1) none w d = absurd w
    one next (tick count1 types1 words1) none w d = absurd w
    one next (finish task1 types1 words1) none w d = absurd w
    one (finish task types words) next none w d = absurd w
    one (finish task types words) (tick count1 types1 words1) none w d = absurd w

    call-both : (a b : Ask) → (VaryAt M D) a b → (CalmAt M D) a v → Both (ask M a v) (ask M b u)
    unfolding ask
    call-both a b w d = one a b v.stopped w d

  from : (l n : List Ask) (v : View) (q : Store) → Sim v.place.store q → (Vary M D) l n → (Calm M D) l v → (NoTrace M D) l n v (besides v q)
  from [] [] v q S w d = record { same-replies = refl; same-mode = refl; same-time = refl; same-ports = sym S.same-ports; same-released = refl }
  from [] (b ∷ n) v q S w d = absurd w
  from (a ∷ l) [] v q S w d = absurd w
  from (a ∷ l) (b ∷ n) v q S w d =
      let B = call-both v q S a b w.0 d.0 in
      let ih = from l n (ask M a v).view B.other B.sim w.1 d.1 in
      let ih1 : (NoTrace M D) l n (ask M a v).view (ask M b (besides v q)).view = subst ((NoTrace M D) l n (ask M a v).view) (sym B.shows) ih in
      record { same-replies = ap₂ ◌∷◌ B.says ih1.same-replies; same-mode = ih1.same-mode; same-time = ih1.same-time; same-ports = ih1.same-ports; same-released = ih1.same-released }

  -- Results of tasks of which no slot ends leave no trace: not in an answer, a mode, a time, a release or a port.
  pub no-trace : (l n : List Ask) (v : View) → (Vary M D) l n → (Calm M D) l v → (NoTrace M D) l n v v
  no-trace l n v w d = from l n v v.place.store (record { same-ports = refl; same_size = refl; each = λ j. like (D j) (get_or v.place.store.tasks j idle) }) w d
