-- A task is owed, by calls and answers, exactly where the rules say that it is out and not finished: in time is `Prompt`.
use Rattle.std.specs.Prelude.{ℕ, zero, suc, ◌<◌, ◌≡◌, refl, ◌≢◌, Bool, true, false, cond, ◌&&◌, ◌||◌, not, List, [], ◌∷◌, map, length, get_or, set, eqb, Some, None, Ok, Err}
use Rattle.std.proofs.Common.{arith, sym, ◌∙◌, ap, ap₂, subst, get_or-set_same, get_or-set_other, eqb-true}
use Rattle.std.proofs.Math.Option.{Option, none, some}
use Rattle.std.proofs.lemmas.Bool.{eqb-false}
use Rattle.model.specs.Modules.{Module, Act, Call}
use Rattle.timing.specs.SlotLaws.{Each}
use Rattle.timing.specs.Rules.{Standing, idle, running, done}
use Rattle.timing.specs.Calls.{Reply, waits, reacted, refused, fell, given, taken, View, ask, started, replies, comes}
use Rattle.timing.specs.Accepted.{Accepted}
use Rattle.timing.specs.Orders.{among}
use Rattle.timing.specs.Ticks.{Due, Means, each-means}
use Rattle.timing.specs.Lates.{unfinished, first_late, ending_next, PromptAt, Prompt}
use Rattle.timing.specs.Held.{Held}
use Rattle.timing.proofs.Held.{held-call}
use Rattle.timing.proofs.Counts.{same-many}
use Rattle.timing.specs.Docks.{reply_to}
use Rattle.machine.specs.Asks.{Ask, tick, next, finish, Answer, ticking, turning, finishing}
use Rattle.machine.specs.declared.Reaction.TheVariants.{Obeyed, Idle, Refused, Late, Fault}
use Rattle.bridge.proofs.ReleasesKept.{grown, begins}
use Rattle.demands.specs.Terms.{finishes, owing, still_owed, first_owed}

inside : (l : List Standing) (t : ℕ) → (get_or l t idle ≢ idle) → t < length l
inside [] t n = absurd (n refl)
inside (x ∷ l) zero n = omega arith
inside (x ∷ l) (suc t) n = let h = inside l t n in omega arith

not-idle : (x : Standing) → unfinished x ≡ true → x ≢ idle
not-idle x e q = let z : true ≡ false = sym e ∙ ap unfinished q in let w : ◌≡◌ {A = ℕ} 0 1 = cc in omega arith

abbrev pub Owes : View → (ℕ → Bool) → Type 0
Owes v owed = (j : ℕ) → owed j ≡ unfinished (get_or v.place.store.tasks j idle)

-- one standing changed
changed : (l : List Standing) (t : ℕ) (x : Standing) (owed : ℕ → Bool) → get_or l t idle ≢ idle → ((j : ℕ) → owed j ≡ unfinished (get_or l j idle)) → (j : ℕ)
    → unfinished (get_or (set l t x) j idle) ≡ cond (eqb j t) (unfinished x) (owed j)
changed l t x owed n h j = go (eqb j t) refl
  where
    go : (b : Bool) → eqb j t ≡ b → unfinished (get_or (set l t x) j idle) ≡ cond b (unfinished x) (owed j)
    go true e = let q = eqb-true j t e in rw q (ap unfinished (get_or-set_same l t x idle (inside l t n)))
    go false e = ap unfinished (get_or-set_other l t j x idle (eqb-false j t e)) ∙ sym (h j)

module _ (M : Module) (W : Accepted M) where
  same-reply : {r y : Reply} → some y ≡ some r → r ≡ y
  same-reply e = cc

  owes_call : (a : Ask) (x : Answer) (v : View) (owed : ℕ → Bool) → Held M v.place → length v.place.store.tasks ≡ length M.tasks → reply_to x ≡ some (ask M a v).reply → Owes v owed
      → Owes (ask M a v).view (owing a x (ask M a v).view.place.released owed)
  owes_call a x v owed H long e h = go x (ask M a v).reply (ask M a v).view e (each-means M v a) (λ q j. (grown unfinished refl (λ r. refl) refl M W v a H long q j).0)
    where
      Grown : View → Type 0
      Grown u = (j : ℕ) → unfinished (get_or u.place.store.tasks j idle) ≡ (unfinished (get_or v.place.store.tasks j idle) || among j u.place.released)

      means : (r y : Reply) (u : View) → Means M a v r u → some y ≡ some r → Means M a v y u
      means r y u m e = subst (λ (z : Reply). Means M a v z u) (same-reply e) m

      stay : (u : View) → u ≡ v → Owes u owed
      stay u q j = subst (λ (w : View). owed j ≡ unfinished (get_or w.place.store.tasks j idle)) (sym q) (h j)

      go : (x : Answer) (r : Reply) (u : View) → reply_to x ≡ some r → Means M a v r u → (r ≡ reacted → Grown u) → Owes u (owing a x u.place.released owed)
      go (ticking (Obeyed n)) r u e m g j = ap (λ (b : Bool). b || among j u.place.released) (h j) ∙ sym (g (same-reply e) j)
      go (ticking Idle) r u e m g j =
          let k = means r waits u m e in
          subst (λ (w : View). owed j ≡ unfinished (get_or w.place.store.tasks j idle)) (sym k.shows) (h j)
      go (ticking (Refused number)) r u e m g j = stay u (means r (refused number) u m e) j
      go (ticking (Late task)) r u e m g j =
          let k = means r (fell task) u m e in
          subst (λ (w : View). owed j ≡ unfinished (get_or w.place.store.tasks j idle)) (sym k.shows) (h j)
      go (ticking (Fault number)) r u e m g j = let z : ◌≡◌ {A = ℕ} 0 1 = cc in absurd (omega arith)
      go (turning (Ok (Some task))) r u e m g j =
          let k = means r (given (some task)) u m e in
          let s : unfinished (get_or v.place.store.tasks task idle) ≡ true = ap unfinished k.was in
          let c = changed v.place.store.tasks task running owed (not-idle (get_or v.place.store.tasks task idle) s) h j in
          subst (λ (w : View). owed j ≡ unfinished (get_or w.place.store.tasks j idle)) (sym k.shows) (same (eqb j task) refl s ∙ sym c)
        where
          same : (b : Bool) → eqb j task ≡ b → unfinished (get_or v.place.store.tasks task idle) ≡ true → owed j ≡ cond b true (owed j)
          same true q s = h j ∙ ap (λ (i : ℕ). unfinished (get_or v.place.store.tasks i idle)) (eqb-true j task q) ∙ s
          same false q s = refl
      go (turning (Ok None)) r u e m g j = stay u (means r (given none) u m e) j
      go (turning (Err why)) r u e m g j = stay u (means r (refused why.number) u m e) j
      go (finishing (Ok _)) r u e m g j =
          let k = means r taken u m e in
          let s : unfinished (get_or v.place.store.tasks k.task idle) ≡ true = ap unfinished k.was in
          let c = changed v.place.store.tasks k.task (done k.words) owed (not-idle (get_or v.place.store.tasks k.task idle) s) h j in
          subst (λ (w : View). (owed j && not (finishes a j)) ≡ unfinished (get_or w.place.store.tasks j idle)) (sym k.shows)
          (ap (λ (b : Ask). owed j && not (finishes b j)) k.called ∙ less (owed j) (eqb j k.task) ∙ sym c)
        where
          less : (o b : Bool) → (o && not b) ≡ cond b false o
          less true true = refl
          less true false = refl
          less false true = refl
          less false false = refl
      go (finishing (Err why)) r u e m g j = stay u (means r (refused why.number) u m e) j

  -- ---- over a history

  -- No tick ends the slot of a task that is owed.
  abbrev pub Clear : Ask → View → (ℕ → Bool) → Type 0
  Clear (tick count types words) v owed = Due M v count types words → Each (λ i. owed i.what.task ≡ false) (ending_next M v)
  Clear next v owed = Unit {0}
  Clear (finish task types words) v owed = Unit {0}

  abbrev pub AllClear : List Ask → List Answer → View → (ℕ → Bool) → Type 0
  AllClear [] answers v owed = Unit {0}
  AllClear (a ∷ calls) [] v owed = Unit {0}
  AllClear (a ∷ calls) (x ∷ answers) v owed = Clear a v owed × AllClear calls answers (ask M a v).view (owing a x (ask M a v).view.place.released owed)

  abbrev pub Replied : List Ask → List Answer → View → Type 0
  Replied calls answers v = map reply_to answers ≡ map some (replies M calls v)

  heads : {A : Type 0} {x y : A} {l r : List A} → x ∷ l ≡ y ∷ r → (x ≡ y) × (l ≡ r)
  heads e = (cc, cc)

  each_same : (l : List (Act Call)) (f g : ℕ → Bool) → ((j : ℕ) → f j ≡ g j) → Each (λ i. f i.what.task ≡ false) l → Each (λ i. g i.what.task ≡ false) l
  each_same [] f g h w = tt
  each_same (i ∷ l) f g h w = (sym (h i.what.task) ∙ w.0, each_same l f g h w.1)

  clear-prompt : (a : Ask) (v : View) (owed : ℕ → Bool) → Owes v owed → Clear a v owed → PromptAt M a v
  clear-prompt (tick count types words) v owed h c = λ d. each_same (ending_next M v) owed (λ j. unfinished (get_or v.place.store.tasks j idle)) h (c d)
  clear-prompt next v owed h c = tt
  clear-prompt (finish task types words) v owed h c = tt

  prompt-clear : (a : Ask) (v : View) (owed : ℕ → Bool) → Owes v owed → PromptAt M a v → Clear a v owed
  prompt-clear (tick count types words) v owed h c = λ d. each_same (ending_next M v) (λ j. unfinished (get_or v.place.store.tasks j idle)) owed (λ j. sym (h j)) (c d)
  prompt-clear next v owed h c = tt
  prompt-clear (finish task types words) v owed h c = tt

  -- In time on calls and answers is `Prompt` on the rules' state.
  pub clear-is-prompt : (calls : List Ask) (answers : List Answer) (v : View) (owed : ℕ → Bool) → Held M v.place → length v.place.store.tasks ≡ length M.tasks → Owes v owed → Replied calls answers v
      → (AllClear calls answers v owed → Prompt M calls v) × (Prompt M calls v → AllClear calls answers v owed)
  clear-is-prompt [] answers v owed H l h e = ((λ c. tt), (λ c. tt))
  clear-is-prompt (a ∷ calls) [] v owed H l h e = let z : ◌≡◌ {A = ℕ} 0 1 = cc in absurd (omega arith)
  clear-is-prompt (a ∷ calls) (x ∷ answers) v owed H l h e =
      let (p, q) = heads e in
      let k = owes_call a x v owed H l p h in
      let ih = clear-is-prompt calls answers (ask M a v).view (owing a x (ask M a v).view.place.released owed) (held-call M W a v H) (same-many M W a v H l) k q in
      ((λ c. (clear-prompt a v owed h c.0, ih.0 c.1)), (λ c. (prompt-clear a v owed h c.0, ih.1 c.1)))

  pub owes-calls : (calls : List Ask) (answers : List Answer) (v : View) (owed : ℕ → Bool) → Held M v.place → length v.place.store.tasks ≡ length M.tasks → Owes v owed → Replied calls answers v
      → Owes (comes M calls v) (still_owed M calls answers v owed)
  owes-calls [] answers v owed H l h e = h
  owes-calls (a ∷ calls) [] v owed H l h e = let z : ◌≡◌ {A = ℕ} 0 1 = cc in absurd (omega arith)
  owes-calls (a ∷ calls) (x ∷ answers) v owed H l h e =
      let (p, q) = heads e in
      owes-calls calls answers (ask M a v).view (owing a x (ask M a v).view.place.released owed) (held-call M W a v H) (same-many M W a v H l) (owes_call a x v owed H l p h) q

  pub first-same : (acts : List (Act Call)) (tasks : List Standing) (owed : ℕ → Bool) → ((j : ℕ) → owed j ≡ unfinished (get_or tasks j idle)) → first_owed acts owed ≡ first_late acts tasks
  first-same [] tasks owed h = refl
  first-same (i ∷ acts) tasks owed h = ap₂ (λ (b : Bool) (o : Option ℕ). cond b (some i.what.task) o) (h i.what.task) (first-same acts tasks owed h)

  -- behind the start
  pub owes-first : (count : ℕ) (words : List ℕ) → Owes (started M count words) (λ j. among j (started M count words).place.released)
  owes-first count words j = sym (begins unfinished refl (λ r. refl) refl M W count words j)
