-- Laws: the count law by the rules: releases so far equal terminations of tasks that were out plus tasks out.
use Rattle.std.specs.Prelude.{ℕ, zero, suc, ◌+◌, ◌<◌, ◌≡◌, Bool, true, false, cond, get_or, set}
use native.Mathlib.Omega.{arith}
use Rattle.std.proofs.Math.Path.{refl, ap}
use Rattle.std.proofs.Common.{sym, ◌∙◌}
use Rattle.std.proofs.Math.Option.{none, some}
use mathlib.Core.List.{List, [], ◌∷◌}
use Rattle.std.proofs.Math.ListN.{length, length-set}
use Rattle.std.proofs.lemmas.List.{set-get_or}
use Rattle.model.specs.Modules.{Module, Act, Call, Task}
use Rattle.timing.specs.Slots.{begins_at}
use Rattle.timing.specs.SlotLaws.{Each, each_keep}
use Rattle.timing.specs.Rules.{Standing, idle, ready, running, done, Store, well, Place, mode_at, passes, sensed, terminations, begun, releases, released_by}
use Rattle.timing.specs.Accepted.{Accepted, CallFits}
use Rattle.timing.specs.Calls.{Ask, Reply, waits, reacted, refused, fell, given, taken, View, beginning, started, ask, comes}
use Rattle.timing.specs.Standings.{is_out, how_many_out, split, beginning-idle}
use Rattle.timing.specs.Ticks.{next_time, Means, each-means}
use Rattle.timing.specs.Lates.{ending_next}
use Rattle.timing.specs.Released.{beginning_there, updated_at, start-came}
use Rattle.timing.specs.PortLaws.{mapped}
use Rattle.timing.specs.Changes.{Ending, not-out, handed-over, ending}
use Rattle.timing.specs.Tasks.{Free, set_free}
use Rattle.timing.specs.Held.{Held}
use Rattle.timing.proofs.Held.{next-held, start-held, held-call}
-- ---- what is counted

use Rattle.timing.specs.Counts.{ended_out, endings_in, if_reacted, releases_in, tasks}

-- ---- one standing changes

one-changes : (l : List Standing) (t : ℕ) (x y : Standing) → get_or l t idle ≡ x → is_out x ≡ 1 → how_many_out (set l t y) + 1 ≡ how_many_out l + is_out y
one-changes [] t x y e o = let h : 0 ≡ is_out x = ap is_out e in absurd (omega arith)
one-changes (a ∷ l) zero x y e o = let h : is_out a ≡ is_out x = ap is_out e in omega arith
one-changes (a ∷ l) (suc t) x y e o = let h = one-changes l t x y e o in omega arith

one-begins : (l : List Standing) (t : ℕ) → t < length l → get_or l t idle ≡ idle → how_many_out (set l t ready) ≡ how_many_out l + 1
one-begins [] t lt e = absurd (omega arith)
one-begins (a ∷ l) zero lt e = let h : is_out a ≡ 0 = ap is_out e in omega arith
one-begins (a ∷ l) (suc t) lt e = let h = one-begins l t (omega arith) e in omega arith

module _ (M : Module) where
  -- ---- terminations, and releases

  pub terms-count : (acts : List (Act Call)) (s v : Store) → terminations M acts s ≡ well v → (how_many_out v.tasks + ended_out acts s.tasks ≡ how_many_out s.tasks) × (length v.tasks ≡ length s.tasks)
  terms-count [] s v q = let e : s ≡ v = cc in rw (← e) (omega arith, refl)
  terms-count (a ∷ acts) s v q = let (w, e, r) = split M a acts s v q in go w (ending M a.what.task s w e) (terms-count acts w v r)
    where
      go : (w : Store) → Ending M a.what.task s w → (how_many_out v.tasks + ended_out acts w.tasks ≡ how_many_out w.tasks) × (length v.tasks ≡ length w.tasks)
          → (how_many_out v.tasks + ended_out (a ∷ acts) s.tasks ≡ how_many_out s.tasks) × (length v.tasks ≡ length s.tasks)
      go w (not-out e h) ih =
          let same : set s.tasks a.what.task idle ≡ s.tasks = ap (λ (x : Standing). set s.tasks a.what.task x) (sym e) ∙ set-get_or s.tasks a.what.task idle in
          let ih1 : (how_many_out v.tasks + ended_out acts s.tasks ≡ how_many_out s.tasks) × (length v.tasks ≡ length s.tasks) = rw (← h) at ih in
          rw (e, same) (let x = ih1.0 in omega arith, ih1.1)
      go w (handed-over results e h) ih =
          let t = a.what.task in
          let ih1 : (how_many_out v.tasks + ended_out acts (set s.tasks a.what.task idle) ≡ how_many_out (set s.tasks a.what.task idle)) × (length v.tasks ≡ length (set s.tasks a.what.task idle)) = rw (← h) at ih in
          let c = one-changes s.tasks t (done results) idle e refl in
          let o : is_out (get_or s.tasks a.what.task idle) ≡ 1 = ap is_out e in
          let x = ih1.0 in
          (omega arith, ih1.1 ∙ length-set s.tasks t idle)

  releases-many : (acts : List (Act Call)) (s : Store) → length (releases M acts s).tasks ≡ length s.tasks
  releases-many [] s = refl
  releases-many (a ∷ acts) s = releases-many acts (cond (passes M a.guard s.ports) (begun M a.what s) s) ∙ go (passes M a.guard s.ports)
    where
      go : (y : Bool) → length (cond y (begun M a.what s) s).tasks ≡ length s.tasks
      go true = length-set s.tasks a.what.task ready
      go false = refl

  -- each release of a task that is not out counts one
  releases-each : (acts : List (Act Call)) (s : Store) → Free acts s → Each (λ a. a.what.task < length s.tasks) acts → how_many_out (releases M acts s).tasks ≡ how_many_out s.tasks + length (released_by M acts s)
  releases-each [] s g w = omega arith
  releases-each (a ∷ acts) s g w =
      let on = releases-each acts (begun M a.what s) (g.0.1, set_free acts s _ a.what.task ready g.0.0 g.1.1) (longer acts w.1) in
      let off = releases-each acts s (g.0.1, g.1.1) w.1 in
      go (passes M a.guard s.ports) on off
    where
      longer : (l : List (Act Call)) → Each (λ b. b.what.task < length s.tasks) l → Each (λ b. b.what.task < length (begun M a.what s).tasks) l
      longer [] x = tt
      longer (b ∷ l) x = (rw length-set x.0, longer l x.1)

      go : (y : Bool) → how_many_out (releases M acts (begun M a.what s)).tasks ≡ how_many_out (begun M a.what s).tasks + length (released_by M acts (begun M a.what s))
          → how_many_out (releases M acts s).tasks ≡ how_many_out s.tasks + length (released_by M acts s)
          → how_many_out (releases M acts (cond y (begun M a.what s) s)).tasks
          ≡ how_many_out s.tasks + length (cond y (a.what.task ∷ released_by M acts (cond y (begun M a.what s) s)) (released_by M acts (cond y (begun M a.what s) s)))
      go true on off = let b = one-begins s.tasks a.what.task w.0 g.1.0 in omega arith
      go false on off = off

  releases-count : (acts : List (Act Call)) (s : Store) → Free acts s → Each (λ a. a.what.task < length s.tasks) acts
      → (how_many_out (releases M acts s).tasks ≡ how_many_out s.tasks + length (released_by M acts s)) × (length (releases M acts s).tasks ≡ length s.tasks)
  releases-count acts s g w = (releases-each acts s g w, releases-many acts s)

module _ (M : Module) (W : Accepted M) where
  -- the tasks that a mode invokes are the module's
  pub begun-known : (at : Place) → at.mode < length M.modes → Each (λ a. a.what.task < length M.tasks) (beginning_there M at)
  begun-known at h = each_keep (λ a. a.what.task < length M.tasks) (begins_at (mode_at M at.mode).period at.time) (mode_at M at.mode).calls (go (mode_at M at.mode).calls (W.modes at.mode h).calls)
    where
      go : (acts : List (Act Call)) → Each (CallFits M) acts → Each (λ a. a.what.task < length M.tasks) acts
      go [] w = tt
      go (a ∷ acts) w = (w.0.task, go acts w.1)

  -- One call: what it released and ended, and who was and is out.
  Fair : Reply → ℕ → ℕ → View → View → Type 0
  Fair r released ended v u = (if_reacted r released + how_many_out ((tasks M W) v) ≡ if_reacted r ended + how_many_out ((tasks M W) u)) × (length ((tasks M W) u) ≡ length ((tasks M W) v))

  fair-means : (a : Ask) (v : View) (r : Reply) (u : View) → Means M a v r u → Held M v.place → length ((tasks M W) v) ≡ length M.tasks
      → Fair r (length u.place.released) (ended_out (ending_next M v) ((tasks M W) v)) v u
  unfolding Fair
  fair-means a v waits u m H l = rw m.shows (refl, refl)
  fair-means a v reacted u m H l =
      let w = m.at in
      let n = next-held M W v.place H m.words w m.comes in
      let c = n.came in
      let ended = c.ended in
      let t = terms-count M (ending_next M v) (sensed M m.words v.place.store) c.ended c.terms in
      let known : Each (λ a. a.what.task < length (updated_at M v.place.mode (next_time M v) c.ended).tasks) (beginning_there M w) = let e = t.1 in rw e (rw l (begun-known w n.held.known)) in
      let r = releases-count M (beginning_there M w) (updated_at M v.place.mode (next_time M v) c.ended) n.free known in
      let x = t.0 in
      let y = r.0 in
      let outs = ap (λ (v : Store). how_many_out v.tasks) c.store in
      let many = ap (λ (l : List ℕ). length l) c.released in
      rw m.shows (omega arith, ap (λ (v : Store). length v.tasks) c.store ∙ r.1 ∙ t.1)
  fair-means a v (refused number) u m H l = rw m (refl, refl)
  fair-means a v (fell task) u m H l = rw m.shows (refl, refl)
  fair-means a v (given none) u m H l = rw m (refl, refl)
  fair-means a v (given (some task)) u m H l = rw m.shows (let c = one-changes ((tasks M W) v) task ready running m.was refl in omega arith, length-set ((tasks M W) v) task running)
  fair-means a v taken u m H l = rw m.shows (let c = one-changes ((tasks M W) v) m.task running (done m.words) m.was refl in omega arith, length-set ((tasks M W) v) m.task (done m.words))

  along : (asks : List Ask) (v : View) → Held M v.place → length ((tasks M W) v) ≡ length M.tasks → releases_in M asks v + how_many_out ((tasks M W) v) ≡ endings_in M asks v + how_many_out ((tasks M W) (comes M asks v))
  unfolding Fair
  along [] v H l = refl
  along (a ∷ rest) v H l =
      let f = fair-means a v (ask M a v).reply (ask M a v).view (each-means M v a) H l in
      let ih = along rest (ask M a v).view (held-call M W a v H) (f.1 ∙ l) in
      let x = f.0 in
      omega arith

  pub same-many : (a : Ask) (v : View) → Held M v.place → length ((tasks M W) v) ≡ length M.tasks → length ((tasks M W) (ask M a v).view) ≡ length M.tasks
  unfolding Fair
  same-many a v H l = (fair-means a v (ask M a v).reply (ask M a v).view (each-means M v a) H l).1 ∙ l

  pub start-many : (count : ℕ) (words : List ℕ) → length ((tasks M W) (started M count words)) ≡ length M.tasks
  start-many count words =
      let v = started M count words in
      let (free, held) = start-held M W count words in
      let (store, released) = start-came M count words in
      let all : length (beginning M).tasks ≡ length M.tasks = mapped (λ (task : Task). idle) M.tasks in
      let (outs, long) = releases-count M (beginning_there M v.place) (sensed M words (beginning M)) free (rw all (begun-known v.place held.known)) in
      (rw store long) ∙ all

  none_out : (l : List Standing) → ((j : ℕ) → get_or l j idle ≡ idle) → how_many_out l ≡ 0
  none_out [] h = refl
  none_out (a ∷ l) h = let e : is_out a ≡ 0 = ap is_out (h zero) in let k = none_out l (λ j. h (suc j)) in omega arith

  -- The count law: from a start, over every history of calls. The start's releases count too.
  pub count_law : (count : ℕ) (words : List ℕ) (asks : List Ask)
      → length (started M count words).place.released + releases_in M asks (started M count words) ≡ endings_in M asks (started M count words) + how_many_out (comes M asks (started M count words)).place.store.tasks
  count_law count words asks =
      let v = started M count words in
      let s = sensed M words (beginning M) in
      let (free, held) = start-held M W count words in
      let (store, released) = start-came M count words in
      let all : length (beginning M).tasks ≡ length M.tasks = mapped (λ (task : Task). idle) M.tasks in
      let (outs, long) = releases-count M (beginning_there M v.place) s free (rw all (begun-known v.place held.known)) in
      let e : how_many_out ((tasks M W) v) ≡ how_many_out (beginning M).tasks + length v.place.released = rw (store, released) outs in
      let l = start-many count words in
      let z = none_out (beginning M).tasks (beginning-idle M) in
      let a = along asks v held l in
      omega arith
