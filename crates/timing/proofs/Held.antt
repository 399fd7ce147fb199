-- What holds of an accepted module between calls, by the rules alone: a known mode, a time within its period, and no task out but those with a slot in force.
-- So whatever is released is not out: fault 43 has no cause in the rules.
use Rattle.std.specs.Prelude.{◌^◌, ◌≤◌, ℕ, ◌+◌, ◌<◌, ◌≡◌, Bool, true, false, cond, List, [], ◌∷◌, length, get_or, set, eqb}
use Rattle.std.proofs.Common.{arith, ◌∙◌, ap, get_or-set_other, eqb-true}
use Rattle.std.proofs.Math.Decide.{ℕ_discrete}
use Rattle.std.proofs.Math.Path.{refl, sym, subst}
use Rattle.std.proofs.Math.Option.{Option, none, some}
use Rattle.std.proofs.lemmas.Bool.{eqb-false}
use Rattle.model.specs.Modules.{Module}
use Rattle.model.specs.Rooms.{period_room}
use Rattle.model.specs.Clock.{elapsed}
use Rattle.timing.specs.Slots.{closing, live_at}
use Rattle.timing.specs.Rules as R
use Rattle.timing.specs.Rules.{Standing, idle, ready, running, done, Store, Outcome, well, Place, mode_at, next_instant, chosen, terminations, sensed, entered, turned, after_ends, instant}
use Rattle.timing.specs.InstantLaws.{next-after, next_le, till-next}
use Rattle.timing.specs.Accepted.{Accepted}
use Rattle.timing.specs.Calls.{remains, Ask, Reply, waits, reacted, refused, fell, given, taken, View, start_mode, beginning, started, ask, comes}
use Rattle.timing.specs.Standings.{beginning-idle}
use Rattle.timing.specs.Ticks.{Means, each-means, Taken, Due, due_count, due-count}
use Rattle.timing.specs.Released.{beginning_there, updated_at, instant-came}
use Rattle.timing.specs.Tasks.{Idle, Free, absent-if}
use Rattle.timing.specs.Outs.{quiet-after, free-begin, nobody-switch, nobody-wrap, free-inside, quiet-inside}
use Rattle.timing.specs.Held.{Held, Next, k, t}

-- A standing that is not idle may change: what is idle stays.
pub change : (j t : ℕ) (l : List Standing) (x y : Standing) → get_or l t idle ≡ x → (x ≡ idle → ⊥) → get_or l j idle ≡ idle → get_or (set l t y) j idle ≡ idle
change j t l x y e n i = go (ℕ_discrete j t)
  where
    go : Dec (j ≡ t) → get_or (set l t y) j idle ≡ idle
    go (yes h) = absurd (n (sym e ∙ (rw h at i)))
    go (no h) = get_or-set_other l t j y idle h ∙ i

module _ (M : Module) (W : Accepted M) where
  -- a place entered from a store: its releases are of tasks that are not out
  record Enters (from : Store) (at : Place) : Type 0 where
    free : Free (beginning_there M at) from
    held : Held M at

  enters-begin : (j : ℕ) → j < length M.modes → (s : Store) → ((i : ℕ) → Idle s i) → Enters s (entered M j 0 s)
  unfolding entered
  enters-begin j h s q = record { free = free-begin M W j h s q; held = record { known = h; before = (W.modes j h).lasting.lasts; quiet = quiet-after M W j 0 h s (λ i _. q i) } }

  module _ (at : Place) (H : Held M at) where
    abbrev p : ℕ
    p = (mode_at M at.mode).period

    module _ (readings : List ℕ) (s1 : Store) (q1 : terminations M (closing p (t M W at H) (mode_at M (k M W at H)).calls) (sensed M readings at.store) ≡ well s1) where
      abbrev s2 : Store
      s2 = updated_at M (k M W at H) (t M W at H) s1

      enters-inside : (t M W at H) < p → Enters s2 (entered M (k M W at H) (t M W at H) s2)
      unfolding entered
      enters-inside lt =
          record {
            free = free-inside M W (k M W at H) at.time (t M W at H) H.known H.before refl (sensed M readings at.store) s1 s2 H.quiet q1 refl;
            held = record {
              known = H.known;
              before = lt;
              quiet = quiet-after M W (k M W at H) (t M W at H) H.known s2 (quiet-inside M W (k M W at H) at.time (t M W at H) H.known H.before refl (sensed M readings at.store) s1 s2 H.quiet q1 refl);
            };
          }

      enters-turned : (o : Option ℕ) → chosen M (closing p (t M W at H) (mode_at M (k M W at H)).switches) s2.ports ≡ o → Enters s2 (turned M (k M W at H) (t M W at H) o s2)
      enters-turned (some j) c =
          let (lt, nobody) = nobody-switch M W (k M W at H) at.time (t M W at H) H.known H.before refl (sensed M readings at.store) s1 s2 H.quiet q1 refl j c in
          enters-begin j lt s2 nobody
      enters-turned none c = go (eqb (t M W at H) p) refl
        where
          go : (y : Bool) → eqb (t M W at H) p ≡ y → Enters s2 (entered M (k M W at H) (cond y 0 (t M W at H)) s2)
          go true e = enters-begin (k M W at H) H.known s2 (nobody-wrap M W (k M W at H) at.time (t M W at H) H.known H.before refl (sensed M readings at.store) s1 s2 H.quiet q1 refl (eqb-true (t M W at H) p e))
          go false e = let l = next_le (mode_at M (k M W at H)) at.time in let n = eqb-false (t M W at H) p e in enters-inside (omega arith)

    pub next-held : (readings : List ℕ) (w : Place) → instant M (k M W at H) (t M W at H) readings at.store ≡ well w → (Next M W at H) readings w
    unfolding instant
    next-held readings w e =
        let c = instant-came M (k M W at H) (t M W at H) readings at.store w e in
        let n = enters-turned readings c.ended c.terms (chosen M (closing p (t M W at H) (mode_at M (k M W at H)).switches) (updated_at M (k M W at H) (t M W at H) c.ended).ports) refl in
        let x : well (after_ends M (k M W at H) (t M W at H) c.ended) ≡ well w = sym (ap (λ (o : Outcome Store). R.and_then o (λ v. well (after_ends M (k M W at H) (t M W at H) v))) c.terms) ∙ e in
        let y : after_ends M (k M W at H) (t M W at H) c.ended ≡ w = cc in
        let n1 : Enters (updated_at M (k M W at H) (t M W at H) c.ended) w = subst (Enters (updated_at M (k M W at H) (t M W at H) c.ended)) y n in
        record { came = c; free = n1.free; held = n1.held }

  -- ---- over every history

  held_start : (count : ℕ) (words : List ℕ) → Enters (sensed M words (beginning M)) (started M count words).place
  unfolding started
  held_start count words = enters-begin (start_mode M) W.start (sensed M words (beginning M)) (beginning-idle M)

  pub start-held : (count : ℕ) (words : List ℕ) → Free (beginning_there M (started M count words).place) (sensed M words (beginning M)) × Held M (started M count words).place
  start-held count words = let h = held_start count words in (h.free, h.held)

  held-set : (v : View) (t : ℕ) (x y : Standing) → get_or v.place.store.tasks t idle ≡ x → (x ≡ idle → ⊥) → Held M v.place
      → Held M (record { mode = v.place.mode; time = v.place.time; store = record { ports = v.place.store.ports; tasks = set v.place.store.tasks t y }; released = v.place.released })
  held-set v t x y e n H = record { known = H.known; before = H.before; quiet = λ j ab. change j t v.place.store.tasks x y e n (H.quiet j ab) }

  held-means : (a : Ask) (v : View) (r : Reply) (u : View) → Means M a v r u → Held M v.place → Held M u.place
  held-means a v waits u m H = rw m.shows passing
    where
      gone : ℕ
      gone = elapsed v.clock m.count

      passing : Held M (record { mode = v.place.mode; time = v.place.time + gone; store = v.place.store; released = v.place.released })
      passing =
          let lt = m.less in
          let md = mode_at M v.place.mode in
          let time = v.place.time in
          let l = next_le md time in
          record {
            known = H.known;
            before = omega arith;
            quiet = λ j ab. H.quiet j (absent-if (live_at md.period time) (live_at md.period (time + gone)) j md.calls (till-next md time (time + gone) (omega arith) (omega arith)) ab);
          }
  held-means a v reacted u m H = rw m.shows (next-held v.place H m.words m.at m.comes).held
  held-means a v (refused number) u m H = rw m H
  held-means a v (fell task) u m H = rw m.shows H
  held-means a v (given none) u m H = rw m H
  held-means a v (given (some task)) u m H = rw m.shows (held-set v task ready running m.was (λ q. let z : ◌≡◌ {A = ℕ} 0 1 = cc in omega arith) H)
  held-means a v taken u m H = rw m.shows (held-set v m.task running (done m.words) m.was (λ q. let z : ◌≡◌ {A = ℕ} 0 1 = cc in omega arith) H)

  pub held-call : (a : Ask) (v : View) → Held M v.place → Held M (ask M a v).view.place
  held-call a v H = held-means a v (ask M a v).reply (ask M a v).view (each-means M v a) H

  pub held-comes : (asks : List Ask) (v : View) → Held M v.place → Held M (comes M asks v).place
  held-comes [] v H = H
  held-comes (a ∷ rest) v H = held-comes rest (ask M a v).view (held-call a v H)

  -- ---- the next due count
  -- What remains is at least 1 and no more than the longest period.
  pub remains-within : (at : Place) → Held M at → (0 < remains M at) × (remains M at ≤ period_room)
  remains-within at H =
      let m = mode_at M at.mode in
      let a = next-after m at.time H.before in
      let b = next_le m at.time in
      let c = (W.modes at.mode H.known).period in
      (omega arith, omega arith)

  -- So there is a count of 32 bits that is due.
  pub always-due : (v : View) (types words : List ℕ) → Held M v.place → v.clock < 2 ^ 32 → Taken M v types words → Due M v (due_count M v) types words
  always-due v types words H c t = let r = remains-within v.place H in due-count M v types words c (omega arith) t
