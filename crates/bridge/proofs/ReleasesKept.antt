-- Which tasks the machine releases (document 01, 'What time does'): at the start those that wait then, at a reaction those that wait now and did not before.
use Rattle.std.specs.Prelude.{ℕ, ◌<◌, ◌≡◌, refl, ◌≢◌, Bool, true, false, ◌&&◌, ◌||◌, not, List, [], ◌∷◌, ◌++◌, length, get_or, set, eqb}
use Rattle.std.proofs.Common.{arith, sym, ◌∙◌, ap, subst, length-set, get_or-set_same, get_or-set_other, eqb-true}
use Rattle.std.proofs.Math.Decide.{ℕ_discrete}
use Rattle.std.proofs.Math.Option.{some}
use Rattle.std.proofs.lemmas.Bool.{eqb-false}
use Rattle.model.specs.Modules.{Module, Task, Act, Call}
use Rattle.timing.specs.SlotLaws.{Each}
use Rattle.timing.specs.Rules.{Standing, idle, ready, running, done, Store, well, sensed, terminations}
use Rattle.timing.specs.Calls.{Ask, reacted, View, beginning, ask, started, comes}
use Rattle.timing.specs.Accepted.{Accepted}
use Rattle.timing.specs.Orders.{among}
use Rattle.timing.specs.Standings.{split, terminated, beginning-idle}
use Rattle.timing.specs.Ticks.{meaning, next_time}
use Rattle.timing.specs.Lates.{ending_next}
use Rattle.timing.specs.Changes.{Ending, not-out, handed-over, ending}
use Rattle.timing.specs.Tasks.{Idle, AllIdle}
use Rattle.timing.specs.PortLaws.{mapped}
use Rattle.timing.specs.Released.{readied, beginning_there, updated_at, releases-ready, released-only, start-came}
use Rattle.timing.specs.Held.{Held}
use Rattle.timing.proofs.Held.{start-held, held-comes, next-held}
use Rattle.timing.proofs.Counts.{terms-count, begun-known, same-many, start-many}
use Rattle.timing.specs.Docks.{reply_to}
use Rattle.bridge.specs.Docked.{asks}
use Rattle.bridge.specs.Faithful.{Started}
use Rattle.bridge.proofs.Beside.{beside, one-call}
use Rattle.bridge.specs.Sources.{each_in}
use Rattle.bridge.specs.Promises.{standing_in, machine_at, view_at}
use Rattle.bridge.proofs.Promises.{tasks-same}
use Rattle.bridge.specs.ReleasesKept.{waits}

-- ---- tasks made ready
readied-out : (released : List ℕ) (l : List Standing) (j : ℕ) → among j released ≡ false → get_or (readied released l) j idle ≡ get_or l j idle
readied-out [] l j e = refl
readied-out (t ∷ released) l j e = go (eqb j t) refl (among j released) refl e (λ q. readied-out released (set l t ready) j q)
  where
    go : (y : Bool) → eqb j t ≡ y → (z : Bool) → among j released ≡ z → (y || z) ≡ false → (among j released ≡ false → get_or (readied released (set l t ready)) j idle ≡ get_or (set l t ready) j idle)
        → get_or (readied released (set l t ready)) j idle ≡ get_or l j idle
    go false p false q h f = f q ∙ get_or-set_other l t j ready idle (eqb-false j t p)
    go false p true q h f = let z : ◌≡◌ {A = ℕ} 0 1 = cc in absurd (omega arith)
    go true p z q h f = let w : ◌≡◌ {A = ℕ} 0 1 = cc in absurd (omega arith)

readied-in : (released : List ℕ) (l : List Standing) (j : ℕ) → among j released ≡ true → j < length l → get_or (readied released l) j idle ≡ ready
readied-in [] l j e h = let z : ◌≡◌ {A = ℕ} 0 1 = cc in absurd (omega arith)
readied-in (t ∷ released) l j e h = go (among j released) refl (eqb j t) refl e (λ q. readied-in released (set l t ready) j q (rw length-set h))
  where
    go : (z : Bool) → among j released ≡ z → (y : Bool) → eqb j t ≡ y → (y || z) ≡ true → (among j released ≡ true → get_or (readied released (set l t ready)) j idle ≡ ready) → get_or (readied released (set l t ready)) j idle ≡ ready
    go true q y p w f = f q
    go false q true p w f =
        let n : j ≡ t = eqb-true j t p in
        readied-out released (set l t ready) j q ∙ subst (λ (k : ℕ). get_or (set l k ready) j idle ≡ ready) n (get_or-set_same l j ready idle h)
    go false q false p w f = let z : ◌≡◌ {A = ℕ} 0 1 = cc in absurd (omega arith)

idle-in : (before after : List (Act Call)) (a : Act Call) (s : Store) → AllIdle (before ++ (a ∷ after)) s → Idle s a.what.task
idle-in [] after a s w = w.0
idle-in (b ∷ before) after a s w = idle-in before after a s w.1

-- ---- a sort of standing that begins at a release and is over before the slot's end: which tasks have it
module _ (p : Standing → Bool) (off : p idle ≡ false) (over : (r : List ℕ) → p (done r) ≡ false) (on : p ready ≡ true) where
  module _ (M : Module) where
    ends-keep : (acts : List (Act Call)) (s v : Store) → terminations M acts s ≡ well v → (j : ℕ) → p (get_or v.tasks j idle) ≡ p (get_or s.tasks j idle)
    ends-keep [] s v q j = let e : s ≡ v = cc in rw (← e) refl
    ends-keep (a ∷ acts) s v q j = let (w, e, r) = split M a acts s v q in ends-keep acts w v r j ∙ go w (ℕ_discrete j a.what.task) (ending M a.what.task s w e) (terminated M a.what.task s w e j)
      where
        was : (w : Store) → Ending M a.what.task s w → p (get_or s.tasks a.what.task idle) ≡ false
        was w (not-out e h) = ap p e ∙ off
        was w (handed-over results e h) = ap p e ∙ over results

        go : (w : Store) → Dec (j ≡ a.what.task) → Ending M a.what.task s w → (get_or w.tasks a.what.task idle ≡ idle) × ((j ≢ a.what.task) → get_or w.tasks j idle ≡ get_or s.tasks j idle)
            → p (get_or w.tasks j idle) ≡ p (get_or s.tasks j idle)
        go w (yes n) en t = rw n (ap p t.0 ∙ off ∙ sym (was w en))
        go w (no n) en t = ap p (t.1 n)

  by-release : (j : ℕ) (released : List ℕ) (l : List Standing) (b : Bool) → p (get_or l j idle) ≡ b → (among j released ≡ true → j < length l) → p (get_or (readied released l) j idle) ≡ (b || among j released)
  by-release j released l b k f = go (among j released) refl b k
    where
      or-true : (b : Bool) → true ≡ (b || true)
      or-true true = refl
      or-true false = refl

      or-none : (b : Bool) → b ≡ (b || false)
      or-none true = refl
      or-none false = refl

      go : (y : Bool) → among j released ≡ y → (b : Bool) → p (get_or l j idle) ≡ b → p (get_or (readied released l) j idle) ≡ (b || y)
      go true e b k = ap p (readied-in released l j e (f e)) ∙ on ∙ or-true b
      go false e b k = ap p (readied-out released l j e) ∙ k ∙ or-none b

  module _ (M : Module) (W : Accepted M) where
    -- At a reaction: those that had it before, and those released, who did not.
    pub grown : (v : View) (a : Ask) → Held M v.place → length v.place.store.tasks ≡ length M.tasks → (ask M a v).reply ≡ reacted → (j : ℕ)
        → (p (get_or (ask M a v).view.place.store.tasks j idle) ≡ (p (get_or v.place.store.tasks j idle) || among j (ask M a v).view.place.released))
        × (among j (ask M a v).view.place.released ≡ true → p (get_or v.place.store.tasks j idle) ≡ false)
    grown v a H long e j =
        let m = meaning M v a reacted e in
        let n = next-held M W v.place H m.words m.at m.comes in
        let c = n.came in
        let at = m.at in
        let from = updated_at M v.place.mode (next_time M v) c.ended in
        let tasks : at.store.tasks ≡ readied at.released c.ended.tasks =
        ap (λ (s : Store). s.tasks) c.store ∙ releases-ready M (beginning_there M at) from ∙ ap (λ (l : List ℕ). readied l c.ended.tasks) (sym c.released) in
        let kept : p (get_or c.ended.tasks j idle) ≡ p (get_or v.place.store.tasks j idle) = ends-keep M (ending_next M v) (sensed M m.words v.place.store) c.ended c.terms j in
        let many : length c.ended.tasks ≡ length M.tasks = (terms-count M (ending_next M v) (sensed M m.words v.place.store) c.ended c.terms).1 ∙ long in
        let known = begun-known M W at n.held.known in
        let inside : among j at.released ≡ true → j < length c.ended.tasks = λ k.
        let r = released-only M (beginning_there M at) from j (rw c.released at k) in
        rw many (subst (λ (t : ℕ). t < length M.tasks) r.names (each_in (λ x. x.what.task < length M.tasks) r.before r.after r.act (subst (Each (λ x. x.what.task < length M.tasks)) r.row known))) in
        let fresh : among j at.released ≡ true → p (get_or v.place.store.tasks j idle) ≡ false = λ k.
        let r = released-only M (beginning_there M at) from j (rw c.released at k) in
        sym kept ∙ ap p (subst (λ (t : ℕ). Idle from t) r.names (idle-in r.before r.after r.act from (subst (λ (l : List (Act Call)). AllIdle l from) r.row n.free.1))) ∙ off in
        subst
        (λ (u : View). (p (get_or u.place.store.tasks j idle) ≡ (p (get_or v.place.store.tasks j idle) || among j u.place.released)) × (among j u.place.released ≡ true → p (get_or v.place.store.tasks j idle) ≡ false))
        (sym m.shows) (ap (λ (l : List Standing). p (get_or l j idle)) tasks ∙ by-release j at.released c.ended.tasks (p (get_or v.place.store.tasks j idle)) kept inside, fresh)

    -- At the start: those released.
    pub begins : (count : ℕ) (words : List ℕ) (j : ℕ) → p (get_or (started M count words).place.store.tasks j idle) ≡ among j (started M count words).place.released
    begins count words j =
        let v = started M count words in
        let from = sensed M words (beginning M) in
        let (store, released) = start-came M count words in
        let (free, held) = start-held M W count words in
        let tasks : v.place.store.tasks ≡ readied v.place.released (beginning M).tasks =
        ap (λ (s : Store). s.tasks) store ∙ releases-ready M (beginning_there M v.place) from ∙ ap (λ (l : List ℕ). readied l (beginning M).tasks) (sym released) in
        let known = begun-known M W v.place held.known in
        let many : length (beginning M).tasks ≡ length M.tasks = mapped (λ (task : Task). idle) M.tasks in
        let inside : among j v.place.released ≡ true → j < length (beginning M).tasks = λ k.
        let r = released-only M (beginning_there M v.place) from j (rw released at k) in
        rw many (subst (λ (t : ℕ). t < length M.tasks) r.names (each_in (λ x. x.what.task < length M.tasks) r.before r.after r.act (subst (Each (λ x. x.what.task < length M.tasks)) r.row known))) in
        ap (λ (l : List Standing). p (get_or l j idle)) tasks ∙ by-release j v.place.released (beginning M).tasks false (ap p (beginning-idle M j) ∙ off) inside

-- ---- who waits

module _ (M : Module) (W : Accepted M) where
  -- by the rules
  pub newly : (v : View) (a : Ask) → Held M v.place → length v.place.store.tasks ≡ length M.tasks → (ask M a v).reply ≡ reacted → (j : ℕ)
      → among j (ask M a v).view.place.released ≡ (waits (get_or (ask M a v).view.place.store.tasks j idle) && not (waits (get_or v.place.store.tasks j idle)))
  newly v a H long e j =
      let (both, fresh) = grown waits refl (λ r. refl) refl M W v a H long e j in
      go (waits (get_or v.place.store.tasks j idle)) (waits (get_or (ask M a v).view.place.store.tasks j idle)) (among j (ask M a v).view.place.released) both fresh
    where
      go : (old new released : Bool) → new ≡ (old || released) → (released ≡ true → old ≡ false) → released ≡ (new && not old)
      go false new true b f = ap (λ (y : Bool). y && true) (sym b)
      go false new false b f = ap (λ (y : Bool). y && true) (sym b)
      go true new false b f = ap (λ (y : Bool). y && false) (sym b)
      go true new true b f = let z : true ≡ false = f refl in let w : ◌≡◌ {A = ℕ} 0 1 = cc in absurd (omega arith)

  many-comes : (calls : List Ask) (v : View) → Held M v.place → length v.place.store.tasks ≡ length M.tasks → length (comes M calls v).place.store.tasks ≡ length M.tasks
  many-comes [] v H l = l
  many-comes (a ∷ calls) v H l = many-comes calls (ask M a v).view (held-comes M W (a ∷ []) v H) (same-many M W a v H l)

  -- for the machine, behind any calls
  pub machine-newly : (count : ℕ) (types words : List ℕ) (S : Started M W count types words) (before : List Ask) (a : Ask) → reply_to (asks M a (machine_at M W count types words S before)).answer ≡ some reacted → (j : ℕ)
      → among j (ask M a (view_at M W count types words S before)).view.place.released
      ≡ (waits (standing_in M (asks M a (machine_at M W count types words S before)).state j) && not (waits (standing_in M (machine_at M W count types words S before) j)))
  machine-newly count types words S before a e j =
      let m = machine_at M W count types words S before in
      let v = view_at M W count types words S before in
      let b = beside M W count types words S before in
      let c = one-call M W a m v b in
      let q : some (ask M a v).reply ≡ some reacted = sym c.says ∙ e in
      let r : (ask M a v).reply ≡ reacted = cc in
      let start = (start-held M W count words).1 in
      let n = newly v a (held-comes M W before (started M count words) start) (many-comes before (started M count words) start (start-many M W count words)) r j in
      rw (tasks-same M W m v b, tasks-same M W (asks M a m).state (ask M a v).view c.then) n
