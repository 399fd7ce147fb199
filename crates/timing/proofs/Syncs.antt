-- Where a machine waits that keeps up with the rules: which block is next.
use Rattle.std.specs.Prelude.{ℕ, suc, ◌+◌, ◌≤◌, ◌<◌, ◌≡◌, refl, Bool, true, false, ltb}
use native.Mathlib.Omega.{arith}
use Rattle.std.proofs.Math.Path.{sym}
use Rattle.std.proofs.Common.{◌∙◌, ap, subst, ltb-true, ltb-false}
use mathlib.Core.List.{List, [], ◌∷◌, ◌++◌, append_assoc, append-nil, map}
use Rattle.std.proofs.Math.ListN.{length, drop, length-append}
use Rattle.std.proofs.Math.Seq.{drop-append_seam}
use Rattle.model.specs.Modules.{Module, Task, Act, Call, Update, each}
use Rattle.model.specs.Instructions.{Instr, updates, releases}
use Rattle.timing.specs.SlotLaws.{Each, each-zip}
use Rattle.timing.specs.Rules.{mode_at, next_instant}
use Rattle.timing.specs.InstantLaws.{first-instant, instants-cons, next-after}
use Rattle.timing.specs.Accepted.{Accepted}
use Rattle.timing.specs.Code.{code_of, begins_of, mode_code, front, later_blocks, instants_of, first_or, mode_drivers, drivers_of, terminates_from}
use Rattle.timing.specs.Runs.{Terminates}
use Rattle.timing.specs.Placed.{past, placed, apart, below, drivers-at, numbered, terminates-at}
use Rattle.timing.specs.Blocks.{Driving}
use Rattle.timing.specs.Syncs.{Sync, at, back_block, base, begin_block, behind_front, code, last_blocks, size}

module _ (M : Module) where
  -- ---- placement
  pub begun : (k : ℕ) → k < length M.modes → (r : List Instr) × (drop ((at M) k) (code M) ≡ mode_code ((base M) k) (mode_at M k) ((at M) k) ++ r)
  unfolding code_of begins_of
  begun k h = placed (code M) (length M.tasks) M.modes 0 k [] h (sym (append-nil (code M)))

  pub within : (k : ℕ) → k < length M.modes → (at M) k + (size M) k ≤ length (code M)
  unfolding code_of begins_of
  within k h = let b = below (length M.tasks) M.modes 0 k h in omega arith

  ordered : (i j : ℕ) → i < j → j < length M.modes → (at M) i + (size M) i ≤ (at M) j
  unfolding begins_of
  ordered i j h lt = apart (length M.tasks) M.modes 0 i j h lt

  pub begin-size : (k : ℕ) → length ((begin_block M) k) ≤ (size M) k
  unfolding mode_code
  begin-size k = rw (length-append ((begin_block M) k) (later_blocks ((base M) k) (mode_at M k) ((at M) k) (instants_of (mode_at M k)) ((at M) k + length ((begin_block M) k)))) (omega arith)

  -- A stretch of mode k's code behind its begin block, and any mode's begin block, are together not more than the code.
  pub room : (k j pc n : ℕ) → k < length M.modes → j < length M.modes → (at M) k + length ((begin_block M) k) ≤ pc → pc + n ≤ (at M) k + (size M) k → n + length ((begin_block M) j) ≤ length (code M)
  room k j pc n hk hj lo hi = go (ltb j k) refl (ltb k j) refl
    where
      go : (y : Bool) → ltb j k ≡ y → (z : Bool) → ltb k j ≡ z → n + length ((begin_block M) j) ≤ length (code M)
      go true b z c = let p = ltb-true j k b in let a = ordered j k p hk in let o = begin-size j in let e = within k hk in omega arith
      go false b true c = let p = ltb-true k j c in let a = ordered k j p hj in let o = begin-size j in let e = within j hj in omega arith
      go false b false c = let p = ltb-false j k b in let q = ltb-false k j c in let e : j ≡ k = omega arith in let f = within k hk in rw e (omega arith)

  -- Past the block of instant t, in the same mode.
  module _ (k time pc : ℕ) (S : (Sync M) k time pc) (t : ℕ) (later : List ℕ) (e : S.left ≡ t ∷ later) where
    pub block_here : drop pc (code M) ≡ front ((base M) k) (mode_at M k) t pc ++ (((back_block M k time pc S t later e) ++ (last_blocks M k time pc S t later e)) ++ S.rest)
    unfolding later_blocks
    block_here = (rw e at S.here) ∙ append_assoc (front ((base M) k) (mode_at M k) t pc) ((back_block M k time pc S t later e) ++ (last_blocks M k time pc S t later e)) S.rest

    pub back-here : drop (behind_front M k time pc S t later e) (code M) ≡ (back_block M k time pc S t later e) ++ ((last_blocks M k time pc S t later e) ++ S.rest)
    back-here = past (code M) pc (front ((base M) k) (mode_at M k) t pc) (((back_block M k time pc S t later e) ++ (last_blocks M k time pc S t later e)) ++ S.rest) block_here ∙ append_assoc (back_block M k time pc S t later e) (last_blocks M k time pc S t later e) S.rest

    pub block-high : ((behind_front M k time pc S t later e) + length (back_block M k time pc S t later e)) + length (last_blocks M k time pc S t later e) ≤ (at M) k + (size M) k
    unfolding later_blocks
    block-high =
        let h : pc + length (front ((base M) k) (mode_at M k) t pc ++ ((back_block M k time pc S t later e) ++ (last_blocks M k time pc S t later e))) ≤ (at M) k + (size M) k = rw e at S.high in
        let l1 = length-append (front ((base M) k) (mode_at M k) t pc) ((back_block M k time pc S t later e) ++ (last_blocks M k time pc S t later e)) in
        let l2 = length-append (back_block M k time pc S t later e) (last_blocks M k time pc S t later e) in
        omega arith

    pub advance : (Sync M) k t ((behind_front M k time pc S t later e) + length (back_block M k time pc S t later e))
    advance =
        let (n, f1, f2, f3, f4) = instants-cons S.most (mode_at M k) S.since t later (sym e ∙ S.listed) in
        let a = next-after (mode_at M k) S.since S.inside in
        let en = S.enough in
        let lo = S.low in
        let g : 0 < n = omega arith in
        record {
          known = S.known;
          before = omega arith;
          left = later;
          since = t;
          most = n;
          enough = omega arith;
          listed = f4;
          inside = omega arith;
          soon = rw f4 (sym (first-instant n (mode_at M k) t g));
          rest = S.rest;
          here = past (code M) (behind_front M k time pc S t later e) (back_block M k time pc S t later e) ((last_blocks M k time pc S t later e) ++ S.rest) back-here;
          low = omega arith;
          high = block-high;
        }

    -- there the next instant is the first of those that are left
    pub advance-soon : next_instant (mode_at M k) t ≡ first_or (mode_at M k).period later
    unfolding advance
    advance-soon = advance.soon

module _ (M : Module) (W : Accepted M) where
  -- ---- drivers

  pub driving : (k : ℕ) → k < length M.modes → Driving M (begins_of M) (code_of M) (base M k) (mode_at M k)
  unfolding drivers_of
  driving k h =
      let m = mode_at M k in
      let (r, d) = drivers-at (drivers_of M) (length M.tasks) M.modes k [] h behind in
      let e : drop (base M k) (drivers_of M) ≡ map (λ a. updates a.what.source a.what.target) m.updates ++ (map (λ a. releases a.what.task a.what.sources) m.calls ++ r) =
      d ∙ append_assoc (map (λ a. updates a.what.source a.what.target) m.updates) (map (λ a. releases a.what.task a.what.sources) m.calls) r in
      let (us, f) = numbered (drivers_of M) (λ (u : Update). updates u.source u.target) m.updates (base M k) _ e in
      let (cs, g) = numbered (drivers_of M) (λ (c : Call). releases c.task c.sources) m.calls (base M k + length m.updates) r f in
      record { ends = ends m.calls (each-zip _ _ (λ a. a.what.task < length M.tasks) (λ a c _. c.task) m.calls (W.modes k h).calls (W.modes k h).calls); updates = us; releases = cs }
    where
      ends : (l : List (Act Call)) → Each (λ a. a.what.task < length M.tasks) l → Each (Terminates M (begins_of M) (code_of M)) l
      ends [] w = tt
      ends (a ∷ l) w = (terminates-at M a.what.task w.0, ends l w.1)

      long : (n : ℕ) (tasks : List Task) → length (terminates_from n tasks) ≡ length tasks
      long n [] = refl
      long n (t ∷ tasks) = ap suc (long (n + 1) tasks)

      behind : drop (length M.tasks) (drivers_of M) ≡ each mode_drivers M.modes ++ []
      behind = subst (λ (n : ℕ). drop n (drivers_of M) ≡ each mode_drivers M.modes ++ []) (long 0 M.tasks) (drop-append_seam (terminates_from 0 M.tasks) (each mode_drivers M.modes) ∙ sym (append-nil (each mode_drivers M.modes)))

  -- ---- the begin block, and the blocks behind it
  -- behind mode j's begin block
  pub fresh : (j : ℕ) → j < length M.modes → Sync M j 0 (at M j + length (begin_block M j))
  unfolding mode_code instants_of
  fresh j h =
      let m = mode_at M j in
      let o = begin_block M j in
      let blocks = later_blocks (base M j) m (at M j) (instants_of m) (at M j + length o) in
      let (r, q) = begun M j h in
      let lasts = (W.modes j h).lasting.lasts in
      record {
        known = h;
        before = lasts;
        left = instants_of m;
        since = 0;
        most = m.period;
        enough = omega arith;
        listed = refl;
        inside = lasts;
        soon = sym (first-instant m.period m 0 lasts);
        rest = r;
        here = past (code M) (at M j) o (blocks ++ r) (q ∙ append_assoc o blocks r);
        low = omega arith;
        high = rw length-append (omega arith);
      }
