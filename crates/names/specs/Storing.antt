-- One row more keeps the index right, and stands behind the rows before it.
use Rattle.std.specs.Prelude.{◌≡◌, ℕ, zero, suc, ◌+◌, ◌-◌, ◌*◌, ◌<◌, ◌≤◌, min, Bool, true, false, ◌⊎◌, List, [], ◌∷◌, ◌++◌, length, take, drop, ◌==◌, ◌≢◌, nat_lt, slice_index, slice_index_or, slice_set}
use Rattle.std.proofs.Common.{arith, add-zero, add-one, sym, ◌∙◌, inl, inr, ⊎_elim, ltb-true, ltb-false, eqb-true, eq-eqb, ne_eqb, lit<, length-append, length-set, length-take-le, get_or-take, get_or-append-add}
use Rattle.std.proofs.Math.Path.{refl, ap}
use Rattle.std.proofs.lemmas.Bool.{eqb-false}
use Rattle.std.proofs.Math.ListN.{get_or-append}
use Rattle.std.proofs.Math.Seq.{slice, length-sets, get_or-set_same, get_or-set_other}
use Rattle.std.proofs.lemmas.List.Edits.{sets, sets-eq}
use Rattle.refusals.specs.declared.Row.{Row}
use Rattle.names.specs.Tables.{row_at, rows_from, rows_in, room_in, has_room}
use Rattle.names.specs.TablesLaws.{rows_last}
use Rattle.names.specs.Chains.{last_of, next_of, last-le, last-class, last-above, last-same, last-own, last_else, next-none, next-zero, next-out, next-kept, next-new, next-still, next-same}
use Rattle.names.specs.Index.{key_by, chain_by, chain_at, indexed, head_in, tail_in, link_at, key_at, Linked, numbers, link_place, with_row}
use Rattle.names.specs.Hashing.{chain-small}

-- ---- a run of stores

module _ (cells new : List ℕ) (at : ℕ) (h : at + length new ≤ length cells) where
  long : length (take at cells) ≡ at
  long = length-take-le at cells (omega arith)

  run_at : (j : ℕ) → j < length new → slice_index (sets cells at new) (at + j) ≡ slice_index new j
  run_at j g =
      rw (sets-eq new cells at h, get_or-append (take at cells ++ new) (drop (at + length new) cells) 0 (at + j) (omega (arith, long, length-append (take at cells) new)))
      (ap (λ (i : ℕ). slice_index (take at cells ++ new) (i + j)) (sym long) ∙ get_or-append-add (take at cells) new j 0)

  run-before : (j : ℕ) → j < at → slice_index (sets cells at new) j ≡ slice_index cells j
  run-before j g =
      rw (sets-eq new cells at h, get_or-append (take at cells ++ new) (drop (at + length new) cells) 0 j (omega (arith, long, length-append (take at cells) new)), get_or-append (take at cells) new 0 j (omega (arith, long)))
      (get_or-take at cells j 0 g)

-- ---- what stands in the array behind a declaration

module _ (s cells : List ℕ) (n : ℕ) (row : Row) (h : has_room cells n ≡ true) where
  -- the chain of the new row, the last row of it before, where the link to the new one stands, and the array with its numbers
  abbrev own : ℕ
  own = chain_by s row

  abbrev last : ℕ
  last = min (tail_in cells own) n

  abbrev link : ℕ
  link = link_place own last

  abbrev new : List ℕ
  new = numbers row (key_by s row)

  abbrev run : List ℕ
  run = sets cells (n * 8 + 1280) new

  abbrev linked : List ℕ
  linked = slice_set run link (n + 1)

  abbrev after : List ℕ
  after = with_row s cells n row

  -- its length is as it was
  pub row-long : length after ≡ length cells
  unfolding with_row
  row-long = simp (length-set, length-sets)

  pub fits : n * 8 + 1280 + 8 ≤ length cells
  fits = omega (arith, ltb-true n (room_in cells) h)

  pub own-small : own < 512
  own-small = chain-small row.scope (slice row.start row.end s)

  run_fits : n * 8 + 1280 + length new ≤ length cells
  run_fits = omega (arith, fits)

  -- where the link stands
  link-head : last ≡ 0 → link ≡ own + 256
  link-head e = rw (eq-eqb last 0 e)

  link_row : (last ≢ 0) → link ≡ (last - 1) * 8 + 1280 + 6
  link_row e = rw (ne_eqb last 0 e)

  link-low : (256 ≤ link) × (link < n * 8 + 1280)
  link-low = by (last == 0) refl
    where
      by : (b : Bool) → (last == 0) ≡ b → (256 ≤ link) × (link < n * 8 + 1280)
      by true e = (omega (arith, link-head (eqb-true last 0 e)), omega (arith, link-head (eqb-true last 0 e), own-small))
      by false e = (omega (arith, link_row (eqb-false last 0 e)), omega (arith, link_row (eqb-false last 0 e), eqb-false last 0 e))

  -- it is at no other chain's head, at no chain's tail, and no other number of a row
  link-not : (place : ℕ) → (place ≢ own + 256) → ((k : ℕ) → place ≢ k * 8 + 1280 + 6) → place ≢ link
  link-not place p q e = by (last == 0) refl
    where
      by : (b : Bool) → (last == 0) ≢ b
      by true z = p (e ∙ link-head (eqb-true last 0 z))
      by false z = q (last - 1) (e ∙ link_row (eqb-false last 0 z))

  number-not : (k j : ℕ) → j < 8 → (j ≢ 6) → k * 8 + 1280 + j ≢ link
  number-not k j g z = link-not (k * 8 + 1280 + j) (λ e. omega (arith, e, own-small)) (λ i e. by i e (nat_lt i k) refl)
    where
      by : (i : ℕ) → k * 8 + 1280 + j ≡ i * 8 + 1280 + 6 → (b : Bool) → nat_lt i k ≢ b
      by i e true p = omega (arith, ltb-true i k p)
      by i e false p = z (near (ltb-false i k p) (k == i) refl)
        where
          near : k ≤ i → (c : Bool) → (k == i) ≡ c → j ≡ 6
          near l true q = omega (arith, eqb-true k i q)
          near l false q = absurd (omega (arith, eqb-false k i q))

  other : (place : ℕ) → (place ≢ 0) → (place ≢ own + 768) → (place ≢ link) → slice_index after place ≡ slice_index run place
  unfolding with_row
  other place z e l = get_or-set_other (slice_set linked (own + 768) (n + 1)) 0 place (n + 1) 0 z ∙ get_or-set_other linked (own + 768) place (n + 1) 0 e ∙ get_or-set_other run link place (n + 1) 0 l

  -- before the new row, beside the end of its chain and the number of rows, all is as it was
  before : (place : ℕ) → place < n * 8 + 1280 → (place ≢ 0) → (place ≢ own + 768) → (place ≢ link) → slice_index after place ≡ slice_index cells place
  before place g z e l = other place z e l ∙ run-before cells new (n * 8 + 1280) run_fits place g

  pub low : (place : ℕ) → 0 < place → place < 256 → slice_index after place ≡ slice_index cells place
  low place z g = before place (omega arith) (λ e. omega (arith, e)) (λ e. omega (arith, e)) (λ e. omega (arith, e, link-low.0))

  -- a number of the new row
  number_at : (j : ℕ) → j < 8 → slice_index after (n * 8 + 1280 + j) ≡ slice_index new j
  number_at j g = other (n * 8 + 1280 + j) (λ z. omega (arith, z)) (λ z. omega (arith, z, own-small)) (λ z. omega (arith, z, link-low.1)) ∙ run_at cells new (n * 8 + 1280) run_fits j g

  -- a number of a row before it, beside its link
  number-before : (k j : ℕ) → k < n → j < 8 → (j ≢ 6) → slice_index after (k * 8 + 1280 + j) ≡ slice_index cells (k * 8 + 1280 + j)
  number-before k j g i z = before (k * 8 + 1280 + j) (omega arith) (λ e. omega (arith, e)) (λ e. omega (arith, e, own-small)) (number-not k j i z)

  -- the number of rows, the end of the row's chain, and the link to it
  pub more_rows : indexed after ≡ n + 1
  unfolding with_row
  more_rows = get_or-set_same (slice_set linked (own + 768) (n + 1)) 0 (n + 1) 0 (simp (length-set, length-sets) (omega (arith, fits)))

  own-tail : tail_in after own ≡ n + 1
  unfolding with_row
  own-tail = get_or-set_other (slice_set linked (own + 768) (n + 1)) 0 (own + 768) (n + 1) 0 (λ z. omega (arith, z)) ∙ get_or-set_same linked (own + 768) (n + 1) 0 (simp (length-set, length-sets) (omega (arith, fits, own-small)))

  own-link : slice_index_or after link 0 ≡ n + 1
  unfolding with_row
  own-link =
      get_or-set_other (slice_set linked (own + 768) (n + 1)) 0 link (n + 1) 0 (λ z. omega (arith, z, link-low.0))
      ∙ get_or-set_other linked (own + 768) link (n + 1) 0 (λ z. tail-not (sym z))
      ∙ get_or-set_same run link (n + 1) 0 (simp length-sets (omega (arith, fits, link-low.1)))
    where
      tail-not : own + 768 ≡ link → ⊥
      tail-not = link-not (own + 768) (λ e. omega (arith, e)) (λ k e. omega (arith, e, own-small))

  pub row_same : row_at after n ≡ row
  unfolding row_at
  row_same =
      let first : slice_index_or after (n * 8 + 1280) 0 ≡ row.start = ap (λ (i : ℕ). slice_index after i) (sym (add-zero (n * 8 + 1280))) ∙ number_at 0 (lit< tt) in
      rw (first, number_at 1 (lit< tt), number_at 2 (lit< tt), number_at 3 (lit< tt), number_at 4 (lit< tt), number_at 5 (lit< tt))

  pub row_before : (k : ℕ) → k < n → row_at after k ≡ row_at cells k
  unfolding row_at
  row_before k g =
      let on : (j : ℕ) → j < 6 → slice_index after (k * 8 + 1280 + j) ≡ slice_index_or cells (k * 8 + 1280 + j) 0 = λ j i. number-before k j g (omega arith) (λ e. omega (arith, e)) in
      let first : slice_index_or after (k * 8 + 1280) 0 ≡ slice_index_or cells (k * 8 + 1280) 0 = rw (add-zero (k * 8 + 1280)) at (on 0 (lit< tt)) in
      rw (first, on 1 (lit< tt), on 2 (lit< tt), on 3 (lit< tt), on 4 (lit< tt), on 5 (lit< tt))

  rows_before : (m k : ℕ) → k + m ≤ n → rows_from m after k ≡ rows_from m cells k
  unfolding rows_from
  rows_before zero k g = refl
  rows_before (suc m) k g = rw (row_before k (omega arith), rows_before m (k + 1) (omega arith))

  pub rows_more : rows_in after (n + 1) ≡ rows_in cells n ++ (row ∷ [])
  rows_more = rw (add-one n, rows_last n after, row_same, rows_before n 0 (omega arith))

  -- ---- the index behind it

  module _ (ix : Linked s cells) (m : indexed cells ≡ n) where
    chains-same : (k : ℕ) → k < n → chain_at s after k ≡ chain_at s cells k
    chains-same k g = rw (row_before k g)

    chain-own : chain_at s after n ≡ own
    chain-own = rw row_same

    lasts-same : (chain k : ℕ) → k ≤ n → last_of (chain_at s after) chain k ≡ last_of (chain_at s cells) chain k
    lasts-same chain k g = last-same (chain_at s after) (chain_at s cells) chain k (λ j i. chains-same j (omega arith))

    nexts-same : (chain k d : ℕ) → k + d ≤ n → next_of (chain_at s after) chain k d ≡ next_of (chain_at s cells) chain k d
    nexts-same chain k d g = next-same (chain_at s after) (chain_at s cells) chain k d (λ j i. chains-same j (omega arith))

    -- the last row of the new row's chain before it
    last-is : last ≡ last_of (chain_at s cells) own n
    last-is =
        let was : tail_in cells own ≡ last_of (chain_at s cells) own n = ix.tails own own-small ∙ rw m in
        omega (arith, was, last-le (chain_at s cells) own n)

    last-own-chain : (last ≢ 0) → chain_at s cells (last - 1) ≡ own
    last-own-chain z = rw last-is (last-class (chain_at s cells) own n (omega (arith, last-is, z)))

    -- the first row of a chain from place k on, with the new row: as before where the row is of another chain or the chain has one, else the new row
    next-else : (chain k d : ℕ) → k + d ≡ n → (own ≢ chain) → next_of (chain_at s after) chain k (suc d) ≡ next_of (chain_at s cells) chain k d
    next-else chain k d e z = next-still (chain_at s after) chain k d (λ q. z (sym chain-own ∙ rw e at q)) ∙ nexts-same chain k d (omega arith)

    next-later : (k d : ℕ) → k + d ≡ n → (last ≢ 0) → k < last → next_of (chain_at s after) own k (suc d) ≡ next_of (chain_at s cells) own k d
    next-later k d e z g = next-kept (chain_at s after) own k d (rw (nexts-same own k d (omega arith)) some) ∙ nexts-same own k d (omega arith)
      where
        some : 0 < next_of (chain_at s cells) own k d
        some = by (nat_lt 0 (next_of (chain_at s cells) own k d)) refl
          where
            by : (b : Bool) → nat_lt 0 (next_of (chain_at s cells) own k d) ≡ b → 0 < next_of (chain_at s cells) own k d
            by true p = ltb-true 0 (next_of (chain_at s cells) own k d) p
            by false p = absurd (next-out (chain_at s cells) own k d (omega (arith, ltb-false 0 (next_of (chain_at s cells) own k d) p)) (last - 1) (omega arith) (omega (arith, z)) (last-own-chain z))

    next_last : (k d : ℕ) → k + d ≡ n → last ≤ k → next_of (chain_at s after) own k (suc d) ≡ n + 1
    next_last k d e g =
        let none : next_of (chain_at s cells) own k d ≡ 0 = next-zero (chain_at s cells) own k d (λ j i l. last-above (chain_at s cells) own n j (omega (arith, last-is)) (omega arith)) in
        next-new (chain_at s after) own k d (nexts-same own k d (omega arith) ∙ none) (rw e chain-own) ∙ omega (arith, e)

    heads-then : (chain : ℕ) → chain < 512 → head_in after chain ≡ next_of (chain_at s after) chain 0 (suc n)
    heads-then chain g = by (own == chain) refl (last == 0) refl
      where
        z : 0 + n ≡ n
        z = omega arith

        same_head : (chain + 256 ≢ own + 256) ⊎ (last ≢ 0) → head_in after chain ≡ next_of (chain_at s cells) chain 0 n
        same_head w = before (chain + 256) (omega arith) (λ e. omega (arith, e)) (λ e. omega (arith, e, own-small)) (λ e. not w e) ∙ ix.heads chain g ∙ rw m
          where
            not : (chain + 256 ≢ own + 256) ⊎ (last ≢ 0) → chain + 256 ≢ link
            not w e = ⊎_elim (λ p. link-not (chain + 256) p (λ k q. omega (arith, q)) e) (λ p. omega (arith, e, link_row p)) w

        by : (b : Bool) → (own == chain) ≡ b → (d : Bool) → (last == 0) ≡ d → head_in after chain ≡ next_of (chain_at s after) chain 0 (suc n)
        by false p d q =
            let not = eqb-false own chain p in
            same_head (inl (λ e. not (omega (arith, e)))) ∙ sym (next-else chain 0 n z not)
        by true p true q =
            let is = eqb-true own chain p in
            let none = eqb-true last 0 q in
            rw (← is) (rw (link-head none) at own-link ∙ sym (next_last 0 n z (omega arith)))
        by true p false q =
            let is = eqb-true own chain p in
            let some = eqb-false last 0 q in
            same_head (inr some) ∙ rw (← is) (sym (next-later 0 n z some (omega (arith, some))))

    tails-then : (chain : ℕ) → chain < 512 → tail_in after chain ≡ last_of (chain_at s after) chain (suc n)
    tails-then chain g = by (chain_at s after n == chain) refl
      where
        by : (b : Bool) → (chain_at s after n == chain) ≡ b → tail_in after chain ≡ last_of (chain_at s after) chain (suc n)
        by true e =
            let is : own ≡ chain = sym chain-own ∙ eqb-true (chain_at s after n) chain e in
            rw (last-own (chain_at s after) chain n e) (rw is at own-tail ∙ add-one n)
        by false e =
            let not : own ≡ chain → ⊥ = λ q. eqb-false (chain_at s after n) chain e (chain-own ∙ q) in
            let was : tail_in after chain ≡ tail_in cells chain = before (chain + 768) (omega arith) (λ z. omega (arith, z)) (λ z. not (omega (arith, z))) (link-not (chain + 768) (λ z. omega (arith, z, own-small)) (λ k z. omega (arith, z))) in
            was ∙ ix.tails chain g ∙ rw m (sym (last_else (chain_at s after) chain n e ∙ lasts-same chain n (omega arith)))

    -- a row before the new one
    module _ (k : ℕ) (below : k < n) where
      abbrev d : ℕ
      d = n - (k + 1)

      to : k + 1 + d ≡ n
      to = omega arith

      more : n + 1 - (k + 1) ≡ suc d
      more = omega arith

      kept : ((last - 1) * 8 + 1280 + 6 ≡ k * 8 + 1280 + 6 → (last ≢ 0) → ⊥) → link_at after k ≡ next_of (chain_at s cells) (chain_at s cells k) (k + 1) d
      kept z = before (k * 8 + 1280 + 6) (omega arith) (λ e. omega (arith, e)) (λ e. omega (arith, e, own-small)) (λ e. not e (last == 0) refl) ∙ ix.links k (omega (arith, m)) ∙ rw m
        where
          not : k * 8 + 1280 + 6 ≡ link → (b : Bool) → (last == 0) ≢ b
          not e true p = omega (arith, e, link-head (eqb-true last 0 p), own-small)
          not e false p = z (sym (link_row (eqb-false last 0 p)) ∙ sym e) (eqb-false last 0 p)

      then : (b : Bool) → (own == chain_at s cells k) ≡ b → (c : Bool) → (last == k + 1) ≡ c → link_at after k ≡ next_of (chain_at s after) (chain_at s cells k) (k + 1) (suc d)
      then false p c q =
          let not = eqb-false own (chain_at s cells k) p in
          kept (λ e z. not (sym (last-own-chain z) ∙ ap (chain_at s cells) (omega (arith, e, z)))) ∙ sym (next-else (chain_at s cells k) (k + 1) d to not)
      then true p true q =
          let is = eqb-true own (chain_at s cells k) p in
          let at : last ≡ k + 1 = eqb-true last (k + 1) q in
          let here : link ≡ k * 8 + 1280 + 6 = link_row (λ z. omega (arith, z, at)) ∙ omega (arith, at) in
          rw (← is) (rw here at own-link ∙ sym (next_last (k + 1) d to (omega (arith, at))))
      then true p false q =
          let is = eqb-true own (chain_at s cells k) p in
          let not = eqb-false last (k + 1) q in
          let some : k + 1 < last = later is not (nat_lt (k + 1) last) refl in
          kept (λ e z. not (omega (arith, e, z))) ∙ rw (← is) (sym (next-later (k + 1) d to (λ z. omega (arith, z, some)) some))
        where
          later : own ≡ chain_at s cells k → (last ≢ k + 1) → (b : Bool) → nat_lt (k + 1) last ≡ b → k + 1 < last
          later is not true r = ltb-true (k + 1) last r
          later is not false r = absurd (last-above (chain_at s cells) own n k (omega (arith, last-is, not, ltb-false (k + 1) last r)) below (sym is))

    links-then : (k : ℕ) → k < n + 1 → link_at after k ≡ next_of (chain_at s after) (chain_at s after k) (k + 1) (n + 1 - (k + 1))
    links-then k g = by (k == n) refl
      where
        by : (b : Bool) → (k == n) ≡ b → link_at after k ≡ next_of (chain_at s after) (chain_at s after k) (k + 1) (n + 1 - (k + 1))
        by true e =
            let is : k ≡ n = eqb-true k n e in
            let none : n + 1 - (n + 1) ≡ 0 = omega arith in
            rw (is, none, next-none (chain_at s after) (chain_at s after n) (n + 1)) (number_at 6 (lit< tt))
        by false e =
            let below : k < n = omega (arith, eqb-false k n e) in
            rw (more k below, chains-same k below) (then k below (own == chain_at s cells k) refl (last == k + 1) refl)

    keys-then : (k : ℕ) → k < n + 1 → key_at after k ≡ key_by s (row_at after k)
    keys-then k g = by (k == n) refl
      where
        by : (b : Bool) → (k == n) ≡ b → key_at after k ≡ key_by s (row_at after k)
        by true e = rw (eqb-true k n e, row_same) (number_at 7 (lit< tt))
        by false e =
            let below : k < n = omega (arith, eqb-false k n e) in
            let was : key_at after k ≡ key_at cells k = number-before k 7 below (lit< tt) (λ z. omega (arith, z)) in
            was ∙ ix.keys k (omega (arith, m)) ∙ rw (row_before k below)

    pub linked-more : Linked s after
    linked-more =
        record {
          heads = λ chain g. heads-then chain g ∙ rw (more_rows, add-one n);
          tails = λ chain g. tails-then chain g ∙ rw (more_rows, add-one n);
          links = λ k g. rw more_rows (links-then k (rw more_rows at g));
          keys = λ k g. keys-then k (rw more_rows at g);
        }
