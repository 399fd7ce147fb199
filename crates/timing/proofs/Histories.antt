-- Whatever is called, in any order: a dock on the module's code answers and stands as the rules say.
use Rattle.std.specs.Prelude.{ℕ, ◌+◌, ◌-◌, ◌<◌, ◌≡◌, refl, Bool, true, false, cond, List, [], ◌∷◌, map, get_or, set, ltb, eqb, Ok}
use Rattle.std.proofs.Common.{arith, sym, ◌∙◌, ap₂, subst, ltb-true}
use Rattle.std.proofs.Math.Option.{Option, none, some}
use Rattle.model.specs.Clock.{elapsed, early, due, missed, judged, fits}
use Rattle.model.specs.Modules.{Module}
use Rattle.timing.specs.Slots.{live_at}
use Rattle.timing.specs.SlotLaws.{Each}
use Rattle.timing.specs.Rules.{Standing, idle, ready, running, done, Store, Outcome, well, late, Place, mode_at, next_instant, sensed, entered, instant}
use Rattle.timing.specs.InstantLaws.{next_le, next-same, till-next}
use Rattle.timing.specs.Accepted.{Accepted}
use Rattle.timing.specs.Standings.{handed-ready, beginning-idle}
use Rattle.timing.specs.Calls as C
use Rattle.timing.specs.Calls.{Ask, tick, next, finish, Reply, View, Said, lowest, remains, reading_types, result_types, answer, ask, ticked, handed, finished, start_mode, beginning, started, replies, comes}
use Rattle.machine.specs.declared.Reaction.TheVariants.{Fault}
use Rattle.machine.specs.Instructions as E
use Rattle.machine.specs.Instructions.{Res, ok, bad, Halt, Tally}
use Rattle.timing.specs.Tasks.{absent-if}
use Rattle.timing.proofs.Held.{change}
use Rattle.timing.specs.Syncs.{at, Sync}
use Rattle.timing.specs.Reacts.{reacting, Agrees}
use Rattle.timing.proofs.Reacts.{reaction, beginning-run}
use Rattle.timing.specs.Docks.{Answer, ticking, finishing, reply_to, Told, came_to, with_tasks, by_instant, handed_out, finished_by, answered, asked, new_dock, started_dock, answers}
use Rattle.timing.specs.Histories.{Alike, Both, Waiting, shadow, stop_of}

module _ (M : Module) where
  either : (y : Bool) (a x : Said) (b z : Told) → (Both M) a b → (Both M) x z → (Both M) (cond y a x) (cond y b z)
  either true a x b z h k = h
  either false a x b z h k = k

module _ (M : Module) (W : Accepted M) where
  waited : (k t d pc : ℕ) → Sync M k t pc → d < next_instant (mode_at M k) t - t → Sync M k (t + d) pc
  waited k t d pc S h =
      let l = next_le (mode_at M k) t in
      record {
        known = S.known;
        before = omega arith;
        left = S.left;
        since = S.since;
        most = S.most;
        enough = S.enough;
        listed = S.listed;
        inside = S.inside;
        soon = next-same (mode_at M k) t (t + d) (omega arith) (omega arith) ∙ S.soon;
        rest = S.rest;
        here = S.here;
        low = S.low;
        high = S.high;
      }

  module _ (v : View) (pc : ℕ) (G : Waiting M v pc) where
    same : (a : Ask) (number : ℕ) (x : Answer) → reply_to x ≡ some (C.refused number) → Both M (record { reply = C.refused number; view = v }) (record { answer = x; dock = shadow M v pc })
    same a number x e = record { pc = pc; says = e; shows = refl; waiting = G }

    react-both : (count : ℕ) (tally : Tally) (a : Outcome Place) (o : Res (Halt Store)) → Agrees M a o → Both M (C.came_to M v count a) (came_to (shadow M v pc) count tally o)
    react-both count tally (well w) (ok z) f =
        record {
          pc = z.future.pc;
          says = refl;
          shows = let h1 = f.same-mode in let h2 = f.same_store in let h3 = f.delay in λ i. record { clock = count; remaining = h3 i; mode = h1 i; pc = z.future.pc; store = h2 i; stopped = none };
          waiting = record { sync = f.sync; quiet = f.quiet };
        }
    react-both count tally (well w) (bad y) f = absurd f
    react-both count tally (late x) (ok z) f = absurd f
    react-both count tally (late x) (bad y) f =
        subst (λ (fault : E.Fault). Both M (C.came_to M v count (late x)) (came_to (shadow M v pc) count tally (bad fault))) (sym f)
        (record { pc = pc; says = refl; shows = refl; waiting = record { sync = G.sync; quiet = G.quiet } })

    early-both : (count : ℕ) (words : List ℕ) → elapsed v.clock count < remains M v.place
        → Both M (ticked M v count words (early (remains M v.place - elapsed v.clock count))) (by_instant M (shadow M v pc) count words (early (remains M v.place - elapsed v.clock count)))
    early-both count words lt =
        let m = mode_at M v.place.mode in
        let t = v.place.time in
        let gone = elapsed v.clock count in
        let q : next_instant m (t + gone) ≡ next_instant m t = next-same m t (t + gone) (omega arith) (omega arith) in
        let e : next_instant m t - t - gone ≡ next_instant m (t + gone) - (t + gone) = rw q (omega arith) in
        record {
          pc = pc;
          says = refl;
          shows = λ i. record { clock = count; remaining = e i; mode = v.place.mode; pc = pc; store = v.place.store; stopped = none };
          waiting = record {
            sync = waited v.place.mode t gone pc G.sync lt;
            quiet = λ j ab. G.quiet j (absent-if (live_at m.period t) (live_at m.period (t + gone)) j m.calls (till-next m t (t + gone) (omega arith) (omega arith)) ab);
          };
        }

    due-both : (count : ℕ) (words : List ℕ) → Both M (ticked M v count words due) (by_instant M (shadow M v pc) count words due)
    due-both count words =
        react-both count (reacting M v.place.mode pc (sensed M words v.place.store)).tally (instant M v.place.mode (next_instant (mode_at M v.place.mode) v.place.time) words v.place.store) (reacting M v.place.mode pc (sensed M words v.place.store)).res
        (reaction M W v.place.mode v.place.time pc G.sync words v.place.store G.quiet)

    instant-both : (count : ℕ) (words : List ℕ)
        → Both M (ticked M v count words (judged (elapsed v.clock count) (remains M v.place))) (by_instant M (shadow M v pc) count words (judged (elapsed v.clock count) (remains M v.place)))
    instant-both count words = go (ltb gone left) refl (eqb gone left)
      where
        gone : ℕ
        gone = elapsed v.clock count

        left : ℕ
        left = remains M v.place

        go : (y : Bool) → ltb gone left ≡ y → (z : Bool) → Both M (ticked M v count words (cond y (early (left - gone)) (cond z due missed))) (by_instant M (shadow M v pc) count words (cond y (early (left - gone)) (cond z due missed)))
        go true h z = early-both count words (ltb-true gone left h)
        go false h true = due-both count words
        go false h false = same (tick count [] words) 33 _ refl

    tick-both : (count : ℕ) (types words : List ℕ) → Both M (answer M (tick count types words) v none) (answered M (tick count types words) (shadow M v pc) none)
    tick-both count types words = either M (fits (reading_types M) types words) _ _ _ _ (instant-both count words) (same (tick count types words) 32 _ refl)

    hand-both : (o : Option ℕ) → lowest 0 v.place.store.tasks ≡ o → Both M (handed M v o) (handed_out M (shadow M v pc) o)
    hand-both none h = record { pc = pc; says = refl; shows = refl; waiting = G }
    hand-both (some t) h =
        record {
          pc = pc;
          says = refl;
          shows = refl;
          waiting = record { sync = G.sync; quiet = λ j ab. change j t v.place.store.tasks ready running (handed-ready t v.place.store.tasks h) (λ q. let w : ◌≡◌ {A = ℕ} 0 1 = cc in omega arith) (G.quiet j ab) };
        }

    finish-both : (t : ℕ) (types words : List ℕ) (o : Standing) → get_or v.place.store.tasks t idle ≡ o → Both M (finished M v t types words o) (finished_by M (shadow M v pc) t types words o)
    finish-both t types words idle h = same (finish t types words) 34 _ refl
    finish-both t types words ready h = same (finish t types words) 34 _ refl
    finish-both t types words (done y) h = same (finish t types words) 34 _ refl
    finish-both t types words running h = either M (fits (result_types M t) types words) _ _ _ _ taken (same (finish t types words) 35 _ refl)
      where
        taken : Both M (record { reply = C.taken; view = C.stands M v (set v.place.store.tasks t (done words)) }) (record { answer = finishing (Ok tt); dock = with_tasks (shadow M v pc) (set v.place.store.tasks t (done words)) })
        taken =
            record {
              pc = pc;
              says = refl;
              shows = refl;
              waiting = record { sync = G.sync; quiet = λ j ab. change j t v.place.store.tasks running (done words) h (λ q. let w : ◌≡◌ {A = ℕ} 0 1 = cc in omega arith) (G.quiet j ab) };
            }

    by-stop : (a : Ask) (o : Option ℕ) → Both M (answer M a v o) (answered M a (shadow M v pc) (stop_of o))
    by-stop (tick count types words) (some x) = same (tick count types words) 31 _ refl
    by-stop next (some x) = same next 31 _ refl
    by-stop (finish task types words) (some x) = same (finish task types words) 31 _ refl
    by-stop (tick count types words) none = tick-both count types words
    by-stop next none = hand-both (lowest 0 v.place.store.tasks) refl
    by-stop (finish task types words) none = finish-both task types words (get_or v.place.store.tasks task idle) refl

    -- One call.
    pub call-both : (a : Ask) → Both M (ask M a v) (asked M a (shadow M v pc))
    unfolding ask asked
    call-both a = by-stop a v.stopped

  pub along : (asks : List Ask) (v : View) (pc : ℕ) → Waiting M v pc → (Alike M W) asks v (shadow M v pc)
  along [] v pc G = record { same-answers = refl; pc = pc; same_view = refl; waiting = G }
  along (a ∷ rest) v pc G =
      let b = call-both v pc G a in
      let ih = along rest (ask M a v).view b.pc b.waiting in
      let ih1 : (Alike M W) rest (ask M a v).view (asked M a (shadow M v pc)).dock = subst ((Alike M W) rest (ask M a v).view) (sym b.shows) ih in
      record { same-answers = ap₂ ◌∷◌ b.says ih1.same-answers; pc = ih1.pc; same_view = ih1.same_view; waiting = ih1.waiting }

  -- The start: the begin block of the start mode, obeyed, is the rules' start.
  pub start-both : (count : ℕ) (words : List ℕ) → Both M (record { reply = C.reacted; view = started M count words }) (started_dock M count words)
  unfolding started started_dock
  start-both count words = go (reacting M (start_mode M) (at M (start_mode M)) (sensed M words (beginning M))).res (reacting M (start_mode M) (at M (start_mode M)) (sensed M words (beginning M))).tally (beginning-run M W (start_mode M) W.start (sensed M words (beginning M)) (beginning-idle M))
    where
      go : (o : Res (Halt Store)) (tally : Tally) → Agrees M (well (entered M (start_mode M) 0 (sensed M words (beginning M)))) o
          → Both M (record { reply = C.reacted; view = record { place = entered M (start_mode M) 0 (sensed M words (beginning M)); clock = count; stopped = none } }) (came_to (new_dock M count) count tally o)
      go (bad y) tally f = absurd f
      go (ok z) tally f =
          record {
            pc = z.future.pc;
            says = refl;
            shows = let h1 = f.same-mode in let h2 = f.same_store in let h3 = f.delay in λ i. record { clock = count; remaining = h3 i; mode = h1 i; pc = z.future.pc; store = h2 i; stopped = none };
            waiting = record { sync = f.sync; quiet = f.quiet };
          }

  -- THE THEOREM over standings. From a start, every history of calls.
  pub histories-agree : (count : ℕ) (words : List ℕ) (asks : List Ask) → (Alike M W) asks (started M count words) (started_dock M count words).dock
  histories-agree count words asks =
      let b = start-both count words in
      subst ((Alike M W) asks (started M count words)) (sym b.shows) (along asks (started M count words) b.pc b.waiting)

  -- Faults 41, 42 and 43 never come about.
  pub no-other-fault : (count : ℕ) (words : List ℕ) (asks : List Ask) → Each (λ x. (number : ℕ) → x ≡ ticking (Fault number) → ⊥) (answers M asks (started_dock M count words).dock)
  no-other-fault count words asks = go (answers M asks (started_dock M count words).dock) (replies M asks (started M count words)) (histories-agree count words asks).same-answers
    where
      go : (xs : List Answer) (rs : List Reply) → map reply_to xs ≡ map some rs → Each (λ x. (number : ℕ) → x ≡ ticking (Fault number) → ⊥) xs
      go [] rs e = tt
      go (x ∷ xs) [] e = let z : ◌≡◌ {A = ℕ} 0 1 = cc in absurd (omega arith)
      go (x ∷ xs) (r ∷ rs) e =
          let f : reply_to x ≡ some r = cc in
          let g : map reply_to xs ≡ map some rs = cc in
          ((λ number q. let h : none ≡ some r = subst (λ (y : Answer). reply_to y ≡ some r) q f in let z : ◌≡◌ {A = ℕ} 0 1 = cc in omega arith), go xs rs g)
