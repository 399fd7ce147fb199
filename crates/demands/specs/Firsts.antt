-- Each release finished before the tick that ends its slot: no tick ends the slot of a task that is owed.
use Rattle.std.specs.Prelude.{ℕ, ◌≡◌, refl, ◌⊎◌, Bool, true, false, ◌&&◌, not, List, [], ◌∷◌, eqb, Ok, Err}
use Rattle.std.proofs.Common.{arith, sym, ◌∙◌, ap, inl, inr, eq-eqb, eqb-true}
use Rattle.model.specs.Modules.{Module, Act, Call}
use Rattle.timing.specs.SlotLaws.{Each, or_left, or_right, or_elim}
use Rattle.timing.specs.Calls.{View, ask}
use Rattle.timing.specs.Accepted.{Accepted}
use Rattle.timing.specs.Orders.{among}
use Rattle.timing.specs.Ticks.{Due}
use Rattle.timing.specs.Lates.{ending_next}
use Rattle.timing.specs.Changes.{tasks_of}
use Rattle.machine.specs.Asks.{Ask, tick, next, finish, Answer, ticking, turning, finishing}
use Rattle.machine.specs.declared.Reaction.TheVariants.{Obeyed, Idle, Refused, Late, Fault}
use Rattle.demands.specs.Terms.{finishes, Releases, Finishes, Before, FinishedFirst, EachInTime, owing}
use Rattle.demands.specs.Owed.{Clear, AllClear}

clash : {C : Type 0} {b : Bool} → b ≡ true → b ≡ false → C
clash p q = let z : true ≡ false = sym p ∙ q in let w : ◌≡◌ {A = ℕ} 0 1 = cc in absurd (omega arith)

each-among : (l : List (Act Call)) (owed : ℕ → Bool) → ((j : ℕ) → among j (tasks_of l) ≡ true → owed j ≡ false) → Each (λ i. owed i.what.task ≡ false) l
each-among [] owed h = tt
each-among (i ∷ l) owed h = (
  h i.what.task (or_left (eqb i.what.task i.what.task) (among i.what.task (tasks_of l)) (eq-eqb i.what.task i.what.task refl)),
  each-among l owed (λ j e. h j (or_right (eqb j i.what.task) (among j (tasks_of l)) e)),
)

among-each : (l : List (Act Call)) (owed : ℕ → Bool) → Each (λ i. owed i.what.task ≡ false) l → (j : ℕ) → among j (tasks_of l) ≡ true → owed j ≡ false
among-each [] owed w j e = clash e refl
among-each (i ∷ l) owed w j e =
    or_elim (eqb j i.what.task) (among j (tasks_of l)) e
    (λ q. ap owed (eqb-true j i.what.task q) ∙ w.0)
    (λ q. among-each l owed w.1 j q)

module _ (M : Module) (W : Accepted M) where
  -- a finish turns it off, nothing else
  abbrev Later : Ask → Answer → View → List Ask → List Answer → ℕ → Type 0
  Later a x v calls answers j = FinishedFirst M j (a ∷ calls) (x ∷ answers) v

  on-with : (a : Ask) (x : Answer) (v : View) (calls : List Ask) (answers : List Answer) (owed : ℕ → Bool)
      → ((j : ℕ) → owed j ≡ true → Later a x v calls answers j)
      → ((j : ℕ) → Releases x (ask M a v).view.place.released j → FinishedFirst M j calls answers (ask M a v).view)
      → (j : ℕ) → owing a x (ask M a v).view.place.released owed j ≡ true → FinishedFirst M j calls answers (ask M a v).view
  on-with a x v calls answers owed h r j = go x h r
    where
      next-ones : Type 0
      next-ones = FinishedFirst M j calls answers (ask M a v).view

      rest : {A B : Type 0} → (A → ⊥) → A ⊎ (B × next-ones) → next-ones
      rest n (inl e) = absurd (n e)
      rest n (inr e) = e.1

      go : (x : Answer) → ((j : ℕ) → owed j ≡ true → Later a x v calls answers j) → ((j : ℕ) → Releases x (ask M a v).view.place.released j → FinishedFirst M j calls answers (ask M a v).view)
          → owing a x (ask M a v).view.place.released owed j ≡ true → next-ones
      go (ticking (Obeyed n)) h r e = or_elim (owed j) (among j (ask M a v).view.place.released) e (λ q. rest (λ z. z) (h j q)) (λ q. r j q)
      go (ticking Idle) h r e = rest (λ z. z) (h j e)
      go (ticking (Refused number)) h r e = rest (λ z. z) (h j e)
      go (ticking (Late task)) h r e = rest (λ z. z) (h j e)
      go (ticking (Fault number)) h r e = rest (λ z. z) (h j e)
      go (turning x) h r e = rest (λ z. z) (h j e)
      go (finishing (Ok _)) h r e = both (owed j) refl (finishes a j) refl e
        where
          both : (o : Bool) → owed j ≡ o → (f : Bool) → finishes a j ≡ f → (o && not f) ≡ true → next-ones
          both true p false q e = rest (λ z. clash z q) (h j p)
          both true p true q e = clash e refl
          both false p f q e = clash e refl
      go (finishing (Err why)) h r e = rest (λ z. z) (h j e)

  clear-here : (a : Ask) (x : Answer) (v : View) (calls : List Ask) (answers : List Answer) (owed : ℕ → Bool) → ((j : ℕ) → owed j ≡ true → Later a x v calls answers j)
      → ((j : ℕ) → Finishes a x j → Before M a v j) → Clear M W a v owed
  clear-here (tick count types words) x v calls answers owed h n = λ d. each-among (ending_next M v) owed (λ j e. go j e d (owed j) refl)
    where
      off : (j : ℕ) → Later (tick count types words) x v calls answers j → Before M (tick count types words) v j
      off j (inl e) = n j e
      off j (inr e) = e.0

      go : (j : ℕ) → among j (tasks_of (ending_next M v)) ≡ true → Due M v count types words → (o : Bool) → owed j ≡ o → o ≡ false
      go j e d true q = clash e (off j (h j q) d)
      go j e d false q = refl
  clear-here next x v calls answers owed h n = tt
  clear-here (finish task types words) x v calls answers owed h n = tt

  -- a call that finishes is no tick
  no-tick : (a : Ask) (x : Answer) (v : View) (j : ℕ) → Finishes a x j → Before M a v j
  no-tick (tick count types words) (ticking x) v j e = absurd e
  no-tick (tick count types words) (turning x) v j e = absurd e
  no-tick (tick count types words) (finishing (Ok _)) v j e = clash e refl
  no-tick (tick count types words) (finishing (Err why)) v j e = absurd e
  no-tick next x v j e = tt
  no-tick (finish task types words) x v j e = tt

  pub in-time-clear : (calls : List Ask) (answers : List Answer) (v : View) (owed : ℕ → Bool) → ((j : ℕ) → owed j ≡ true → FinishedFirst M j calls answers v) → EachInTime M calls answers v
      → AllClear M W calls answers v owed
  in-time-clear [] answers v owed h e = tt
  in-time-clear (a ∷ calls) [] v owed h e = tt
  in-time-clear (a ∷ calls) (x ∷ answers) v owed h e =
      (clear-here a x v calls answers owed h (no-tick a x v), in-time-clear calls answers (ask M a v).view (owing a x (ask M a v).view.place.released owed) (on-with a x v calls answers owed h e.0) e.1)

  -- ---- and back

  clear-before : (a : Ask) (v : View) (owed : ℕ → Bool) → Clear M W a v owed → (j : ℕ) → owed j ≡ true → Before M a v j
  clear-before (tick count types words) v owed c j e = λ d. go d (among j (tasks_of (ending_next M v))) refl
    where
      go : Due M v count types words → (b : Bool) → among j (tasks_of (ending_next M v)) ≡ b → b ≡ false
      go d true q = clash e (among-each (ending_next M v) owed (c d) j q)
      go d false q = refl
  clear-before next v owed c j e = tt
  clear-before (finish task types words) v owed c j e = tt

  pub clear_first : (calls : List Ask) (answers : List Answer) (v : View) (owed : ℕ → Bool) → AllClear M W calls answers v owed → (j : ℕ) → owed j ≡ true → FinishedFirst M j calls answers v
  clear_first [] answers v owed c j e = tt
  clear_first (a ∷ calls) [] v owed c j e = tt
  clear_first (a ∷ calls) (x ∷ answers) v owed c j e =
      go x (clear-before a v owed c.0 j e) (λ q. clear_first calls answers (ask M a v).view (owing a x (ask M a v).view.place.released owed) c.1 j q)
    where
      next-ones : Type 0
      next-ones = FinishedFirst M j calls answers (ask M a v).view

      go : (x : Answer) → Before M a v j → (owing a x (ask M a v).view.place.released owed j ≡ true → next-ones) → Finishes a x j ⊎ (Before M a v j × next-ones)
      go (ticking (Obeyed n)) b f = inr (b, f (or_left (owed j) (among j (ask M a v).view.place.released) e))
      go (ticking Idle) b f = inr (b, f e)
      go (ticking (Refused number)) b f = inr (b, f e)
      go (ticking (Late task)) b f = inr (b, f e)
      go (ticking (Fault number)) b f = inr (b, f e)
      go (turning x) b f = inr (b, f e)
      go (finishing (Ok _)) b f = by (finishes a j) refl f
        where
          by : (y : Bool) → finishes a j ≡ y → ((owed j && not y) ≡ true → next-ones) → (finishes a j ≡ true) ⊎ (Before M a v j × next-ones)
          by true q f = inl q
          by false q f = inr (b, f (ap (λ (o : Bool). o && true) e))
      go (finishing (Err why)) b f = inr (b, f e)

  pub clear-in-time : (calls : List Ask) (answers : List Answer) (v : View) (owed : ℕ → Bool) → AllClear M W calls answers v owed → EachInTime M calls answers v
  clear-in-time [] answers v owed c = tt
  clear-in-time (a ∷ calls) [] v owed c = tt
  clear-in-time (a ∷ calls) (x ∷ answers) v owed c =
      ((λ j r. clear_first calls answers (ask M a v).view (owing a x (ask M a v).view.place.released owed) c.1 j (fresh x j r)), clear-in-time calls answers (ask M a v).view (owing a x (ask M a v).view.place.released owed) c.1)
    where
      fresh : (x : Answer) (j : ℕ) → Releases x (ask M a v).view.place.released j → owing a x (ask M a v).view.place.released owed j ≡ true
      fresh (ticking (Obeyed n)) j r = or_right (owed j) (among j (ask M a v).view.place.released) r
      fresh (ticking Idle) j r = absurd r
      fresh (ticking (Refused number)) j r = absurd r
      fresh (ticking (Late task)) j r = absurd r
      fresh (ticking (Fault number)) j r = absurd r
      fresh (turning x) j r = absurd r
      fresh (finishing x) j r = absurd r
