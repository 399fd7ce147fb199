-- Laws: the order of finishing does not matter: histories that keep to the same readings and results, in time, come to the same.
use Rattle.std.specs.Prelude.{ℕ, zero, suc, ◌+◌, ◌≡◌, refl, Bool, true, false, cond, List, [], ◌∷◌, get_or, set}
use Rattle.std.proofs.Common.{arith, sym, ◌∙◌, ap, length-set}
use Rattle.std.proofs.Math.Path.{subst}
use Rattle.std.proofs.Math.Option.{Option, none, some}
use Rattle.model.specs.Clock.{elapsed}
use Rattle.model.specs.Modules.{Module, Act, Call}
use Rattle.timing.specs.Slots.{closing}
use Rattle.timing.specs.SlotLaws.{Each}
use Rattle.timing.specs.Rules.{Standing, idle, ready, running, done, Outcome, well, late, Place, mode_at, next_instant, sensed, entered, instant}
use Rattle.timing.specs.InstantLaws.{next-same}
use Rattle.timing.specs.Calls.{Ask, Reply, waits, reacted, refused, fell, given, taken, View, stands, start_mode, beginning, started, ask, comes}
use Rattle.timing.specs.Standings.{which_out, beginning-idle}
use Rattle.timing.specs.Ticks.{next_time, at_next, Means, each-means}
use Rattle.timing.specs.Lates.{unfinished, none-late, Rightly, instant-rightly}
use Rattle.timing.specs.Related.{entered-rel}
use Rattle.timing.specs.Orders.{among, stamped, stamped_by, served, Shown, showing, logged, dues, due_log, KeepsAt, Keeps, SameRun}
use Rattle.timing.specs.Twins.{Twin, Twins, instant-twins, twins-out, set-one}
use Rattle.timing.specs.Ideals.{settle, KeptOne, Kept, kept_fine, twin-handed, twin-done, settle-twins, part-entered, part-instant, settle-kept}

module _ (M : Module) (readings : ℕ → List ℕ) (results : ℕ → ℕ → List ℕ) where
  -- ---- the ideal run

  -- all that was released at instant n is finished
  abbrev settled : ℕ → Place → Place
  settled n w = record { mode = w.mode; time = w.time; store = record { ports = w.store.ports; tasks = settle (results n) 0 w.store.tasks }; released = w.released }

  abbrev settled_or : ℕ → Outcome Place → Place → Place
  settled_or n (well w) q = settled n w
  settled_or n (late task) q = q

  abbrev ideal_next : ℕ → Place → Outcome Place
  ideal_next last q = instant M q.mode (next_instant (mode_at M q.mode) q.time) (readings (suc last)) q.store

  -- the instant behind instant `last`, and `many` of them
  abbrev ideal : ℕ → Place → Place
  ideal last q = settled_or (suc last) (ideal_next last q) q

  abbrev ideals : ℕ → ℕ → Place → Place
  ideals zero last q = q
  ideals (suc many) last q = ideals many (suc last) (ideal last q)

  abbrev ideal_log : ℕ → ℕ → Place → List Shown
  ideal_log zero last q = []
  ideal_log (suc many) last q = showing (ideal last q) ∷ ideal_log many (suc last) (ideal last q)

  abbrev move : Reply → ℕ → Place → Place
  move waits last q = q
  move reacted last q = ideal last q
  move (refused number) last q = q
  move (fell task) last q = q
  move (given task) last q = q
  move taken last q = q

  -- ---- a run near it; since says when each task was released
  record Near (v : View) (since : ℕ → ℕ) (q : Place) : Type 0 where
    same-mode : v.place.mode ≡ q.mode
    same_next : next_instant (mode_at M q.mode) v.place.time ≡ next_instant (mode_at M q.mode) q.time
    twins : Twins v.place.store q.store
    kept : Kept (λ j. results (since j) j) q.store.tasks

  record Step (v : View) (r : Reply) (u : View) (last : ℕ) (since : ℕ → ℕ) (q : Place) : Type 0 where
    near : Near u (stamped_by r last u.place.released since) (move r last q)
    logs : (log : List Shown) → logged r (showing u.place) log ≡ logged r (showing (move r last q)) log

  all-fine : (q : Place) (since : ℕ → ℕ) → Kept (λ j. results (since j) j) q.store.tasks → (acts : List (Act Call)) → Each (λ a. unfinished (get_or q.store.tasks a.what.task idle) ≡ false) acts
  all-fine q since k [] = tt
  all-fine q since k (a ∷ acts) = (kept_fine _ (get_or q.store.tasks a.what.task idle) (k a.what.task), all-fine q since k acts)

  module _ (v : View) (last : ℕ) (since : ℕ → ℕ) (q : Place) (N : Near v since q) where
    -- the ideal run is never late
    never-late : (e : Outcome Place) → ideal_next last q ≡ e → (y : Place) × (ideal_next last q ≡ well y)
    never-late (well y) h = (y, h)
    never-late (late x) h =
        let t = next_instant (mode_at M q.mode) q.time in
        let ending = closing (mode_at M q.mode).period t (mode_at M q.mode).calls in
        let n = none-late ending q.store.tasks (all-fine q since N.kept ending) in
        let r : Rightly none (ideal_next last q) = subst (λ (o : Option ℕ). Rightly o (ideal_next last q)) n (instant-rightly M q.mode t (readings (suc last)) q.store) in
        absurd (subst (λ (o : Outcome Place). Rightly none o) h r)

    react-step : (count : ℕ) (words : List ℕ) (w : Place) → words ≡ readings (suc last) → at_next M v words ≡ well w → Step v reacted (record { place = w; clock = count; stopped = none }) last since q
    react-step count words w g e =
        let (y, f) = never-late (ideal_next last q) refl in
        let t = next_instant (mode_at M q.mode) q.time in
        let same : next_time M v ≡ t = ap (λ (k : ℕ). next_instant (mode_at M k) v.place.time) N.same-mode ∙ N.same_next in
        let e1 : instant M q.mode t (readings (suc last)) v.place.store ≡ well w =
        subst (λ (l : List ℕ). instant M q.mode t l v.place.store ≡ well w) g
        (subst (λ (x : ℕ). instant M q.mode x words v.place.store ≡ well w) same (subst (λ (k : ℕ). instant M k (next_time M v) words v.place.store ≡ well w) N.same-mode e)) in
        let S = instant-twins M q.mode t (readings (suc last)) v.place.store q.store w y N.twins e1 f in
        let P = part-instant M (λ j. results (since j) j) q.mode t (readings (suc last)) q.store y f N.kept in
        let K : Kept (λ j. results (stamped (suc last) y.released since j) j) (settle (results (suc last)) 0 y.store.tasks) = settle-kept results (suc last) since y.released y.store.tasks P in
        let K1 : Kept (λ j. results (stamped (suc last) w.released since j) j) (settle (results (suc last)) 0 y.store.tasks) =
        subst (λ (ts : List ℕ). Kept (λ j. results (stamped (suc last) ts since j) j) (settle (results (suc last)) 0 y.store.tasks)) (sym S.same-released) K in
        let n : Near (record { place = w; clock = count; stopped = none }) (stamped (suc last) w.released since) (settled (suc last) y) =
        record { same-mode = S.same-mode; same_next = ap (next_instant (mode_at M y.mode)) S.same-time; twins = settle-twins (results (suc last)) w.store y.store S.rel; kept = K1 } in
        let out : which_out w.store.tasks ≡ which_out (settled (suc last) y).store.tasks = twins-out w.store.tasks (settled (suc last) y).store.tasks n.twins.same_size n.twins.each in
        let h1 = S.same-mode in
        let h2 = S.rel.same-ports in
        let h3 = S.same-released in
        let shows : showing w ≡ showing (settled (suc last) y) = λ i. record { mode = h1 i; ports = h2 i; out = out i; released = h3 i } in
        record {
          near = subst (λ (x : Outcome Place). Near (record { place = w; clock = count; stopped = none }) (stamped (suc last) w.released since) (settled_or (suc last) x q)) (sym f) n;
          logs = λ log. ap (λ (l : Shown). l ∷ log) (shows ∙ ap (λ (x : Outcome Place). showing (settled_or (suc last) x q)) (sym f));
        }

    changed : (t : ℕ) (y : Standing) → Twin y (get_or q.store.tasks t idle) → Near (stands M v (set v.place.store.tasks t y)) since q
    changed t y w =
        record {
          same-mode = N.same-mode;
          same_next = N.same_next;
          twins = record { same-ports = N.twins.same-ports; same_size = simp length-set N.twins.same_size; each = set-one v.place.store.tasks t y (λ j. get_or q.store.tasks j idle) w N.twins.each };
          kept = N.kept;
        }

    near-at : (u : View) → u ≡ v → Near u since q
    near-at u e = rw e N

    step : (a : Ask) (r : Reply) (u : View) → Means M a v r u → KeepsAt M readings results a r last since → Step v r u last since q
    step a waits u m k = record { near = rw m.shows passing; logs = λ log. refl }
      where
        gone : ℕ
        gone = elapsed v.clock m.count

        passing : Near (record { place = record { mode = v.place.mode; time = v.place.time + gone; store = v.place.store; released = v.place.released }; clock = m.count; stopped = none }) since q
        passing =
            let lt = m.less in
            let t = v.place.time in
            let e : next_instant (mode_at M v.place.mode) (t + gone) ≡ next_instant (mode_at M v.place.mode) t = next-same (mode_at M v.place.mode) t (t + gone) (omega arith) (omega arith) in
            let e1 : next_instant (mode_at M q.mode) (t + gone) ≡ next_instant (mode_at M q.mode) t = subst (λ (k : ℕ). next_instant (mode_at M k) (t + gone) ≡ next_instant (mode_at M k) t) N.same-mode e in
            record { same-mode = N.same-mode; same_next = e1 ∙ N.same_next; twins = N.twins; kept = N.kept }
    step a reacted u m k =
        let g : m.words ≡ readings (suc last) = subst (λ (b : Ask). KeepsAt M readings results b reacted last since) m.called k in
        rw m.shows (react-step m.count m.words m.at g m.comes)
    step a (refused number) u m k = record { near = near-at u m; logs = λ log. refl }
    step a (fell task) u m k = absurd k
    step a (given none) u m k = record { near = near-at u m; logs = λ log. refl }
    step a (given (some t)) u m k =
        let tw : Twin ready (get_or q.store.tasks t idle) = subst (λ (x : Standing). Twin x (get_or q.store.tasks t idle)) m.was (N.twins.each t) in
        record { near = rw m.shows (changed t running (twin-handed (results (since t) t) (get_or q.store.tasks t idle) tw (N.kept t))); logs = λ log. refl }
    step a taken u m k =
        let t = m.task in
        let g : m.words ≡ results (since t) t = subst (λ (b : Ask). KeepsAt M readings results b taken last since) m.called k in
        let tw : Twin running (get_or q.store.tasks t idle) = subst (λ (x : Standing). Twin x (get_or q.store.tasks t idle)) m.was (N.twins.each t) in
        record { near = rw m.shows (changed t (done m.words) (twin-done m.words (results (since t) t) (get_or q.store.tasks t idle) tw (N.kept t) g)); logs = λ log. refl }

  -- ---- a history

  by-dues : (r : Reply) (n last : ℕ) (q : Place) → ideals n (served r last) (move r last q) ≡ ideals (served r n) last q
  by-dues waits n last q = refl
  by-dues reacted n last q = refl
  by-dues (refused x) n last q = refl
  by-dues (fell x) n last q = refl
  by-dues (given x) n last q = refl
  by-dues taken n last q = refl

  by-logs : (r : Reply) (n last : ℕ) (q : Place) → logged r (showing (move r last q)) (ideal_log n (served r last) (move r last q)) ≡ ideal_log (served r n) last q
  by-logs waits n last q = refl
  by-logs reacted n last q = refl
  by-logs (refused x) n last q = refl
  by-logs (fell x) n last q = refl
  by-logs (given x) n last q = refl
  by-logs taken n last q = refl

  record Stands (l : List Ask) (v : View) (last : ℕ) (q : Place) : Type 0 where
    same-mode : (comes M l v).place.mode ≡ (ideals (dues M l v) last q).mode
    same-ports : (comes M l v).place.store.ports ≡ (ideals (dues M l v) last q).store.ports
    same_out : which_out (comes M l v).place.store.tasks ≡ which_out (ideals (dues M l v) last q).store.tasks
    same_log : due_log M l v ≡ ideal_log (dues M l v) last q

  along : (l : List Ask) (v : View) (last : ℕ) (since : ℕ → ℕ) (q : Place) → Near v since q → Keeps M readings results l v last since → Stands l v last q
  along [] v last since q N k =
      record { same-mode = N.same-mode; same-ports = N.twins.same-ports; same_out = twins-out v.place.store.tasks q.store.tasks N.twins.same_size N.twins.each; same_log = refl }
  along (a ∷ l) v last since q N k =
      let r = (ask M a v).reply in
      let u = (ask M a v).view in
      let S = step v last since q N a r u (each-means M v a) k.0 in
      let ih = along l u (served r last) (stamped_by r last u.place.released since) (move r last q) S.near k.1 in
      let e : ideals (dues M l u) (served r last) (move r last q) ≡ ideals (dues M (a ∷ l) v) last q = by-dues r (dues M l u) last q in
      record {
        same-mode = ih.same-mode ∙ ap (λ (x : Place). x.mode) e;
        same-ports = ih.same-ports ∙ ap (λ (x : Place). x.store.ports) e;
        same_out = ih.same_out ∙ ap (λ (x : Place). which_out x.store.tasks) e;
        same_log = ap (logged r (showing u.place)) ih.same_log ∙ S.logs (ideal_log (dues M l u) (served r last) (move r last q)) ∙ by-logs r (dues M l u) last q;
      }

  -- The start is near: what it releases is of instant 0.
  start-near : (count : ℕ) (words : List ℕ) → Near (started M count words) (λ j. 0) (settled 0 (started M count words).place)
  unfolding started
  start-near count words =
      record {
        same-mode = refl;
        same_next = refl;
        twins = settle-twins (results 0) at.store at.store self;
        kept = λ j. subst (λ (n : ℕ). KeptOne (results n j) (get_or (settle (results 0) 0 at.store.tasks) j idle)) (never-mind at.released j) (K j);
      }
    where
      at : Place
      at = entered M (start_mode M) 0 (sensed M words (beginning M))

      self : Twins at.store at.store
      self = (entered-rel M (λ j. Twin) (λ j. tt) (start_mode M) 0 (sensed M words (beginning M)) (sensed M words (beginning M)) (record { same-ports = refl; same_size = refl; each = λ j. rw (beginning-idle M j) tt })).rel

      K : Kept (λ j. results (stamped 0 at.released (λ i. 0) j) j) (settle (results 0) 0 at.store.tasks)
      K = settle-kept results 0 (λ j. 0) at.released at.store.tasks (part-entered M (λ j. results 0 j) (start_mode M) 0 (sensed M words (beginning M)) (λ j. rw (beginning-idle M j) tt))

      never-mind : (ts : List ℕ) (j : ℕ) → stamped 0 ts (λ i. 0) j ≡ 0
      never-mind ts j = go (among j ts)
        where
          go : (new : Bool) → cond {A = ℕ} new 0 0 ≡ 0
          go true = refl
          go false = refl

  -- Two histories from one start that keep to the readings and results, in time, and have served as many due ticks:
  -- after each due tick they show the same mode, ports and tasks out, and released the same tasks.
  pub order-free : (count : ℕ) (words : List ℕ) (first other : List Ask)
      → Keeps M readings results first (started M count words) 0 (λ task. 0) → Keeps M readings results other (started M count words) 0 (λ task. 0)
      → dues M first (started M count words) ≡ dues M other (started M count words) → SameRun M (started M count words) first other
  order-free count words first other keeps also as_many =
      let v = started M count words in
      let q = settled 0 v.place in
      let a = along first v 0 (λ task. 0) q (start-near count words) keeps in
      let b = along other v 0 (λ task. 0) q (start-near count words) also in
      let e : ideals (dues M first v) 0 q ≡ ideals (dues M other v) 0 q = ap (λ (many : ℕ). ideals many 0 q) as_many in
      record {
        same-mode = a.same-mode ∙ ap (λ (x : Place). x.mode) e ∙ sym b.same-mode;
        same-ports = a.same-ports ∙ ap (λ (x : Place). x.store.ports) e ∙ sym b.same-ports;
        same_out = a.same_out ∙ ap (λ (x : Place). which_out x.store.tasks) e ∙ sym b.same_out;
        same-dues = a.same_log ∙ ap (λ (many : ℕ). ideal_log many 0 q) as_many ∙ sym b.same_log;
      }
