-- A name is found by going through the rows of its chain, from the first on.
use Rattle.std.specs.Prelude.{◌≡◌, ℕ, zero, suc, ◌+◌, ◌-◌, ◌*◌, ◌<◌, ◌≤◌, Bool, true, false, cond, Option, Some, None, List, [], ◌∷◌, ◌++◌, ◌==◌, ◌≢◌, nat_eq, nat_lt, slice_index}
use Rattle.std.proofs.Common.{arith, sym, ◌∙◌, eqb-true, eq-eqb, ne_eqb, ltb-true, ltb-false}
use Rattle.std.proofs.Math.Path.{refl, ap}
use Rattle.std.proofs.lemmas.Bool.{eqb-false}
use Rattle.model.specs.Bytes.{same}
use Rattle.text.proofs.WordsLaws.{same→eq}
use Rattle.refusals.specs.declared.Row.{Row}
use Rattle.refusals.specs.Names.{unknown, is_row, find}
use Rattle.names.specs.declared.Lookup.{Lookup}
use Rattle.names.specs.declared.Lookup.TheVariants.{At, Nowhere, Untold}
use Rattle.names.specs.Tables.{row_at, rows_from, rows_in, room_in}
use Rattle.names.specs.TablesLaws.{rows_last}
use Rattle.names.specs.Chains.{next_of, lowest, next-some, next-out, lowest-hit, lowest-miss, lowest-none, lowest-same, lowest-holds, lowest-empty, lowest-first}
use Rattle.names.specs.Index.{key_of, chain_of, key_by, word_at, chain_at, indexed, head_in, link_at, key_at, marked_by, Indexed}
use Rattle.names.specs.Hashing.{chain-small, chain_same}

-- the row that was found, by one more than its place; with 0 none was
abbrev pub found_at : List ℕ → ℕ → Row
found_at cells zero = unknown
found_at cells (suc k) = row_at cells k

pub found_some : (cells : List ℕ) (found : ℕ) → (found ≢ 0) → row_at cells (found - 1) ≡ found_at cells found
found_some cells zero h = absurd (h refl)
found_some cells (suc k) h = let z : suc k - 1 ≡ k = omega arith in rw z

module _ (s : List ℕ) (scope : ℕ) (word : List ℕ) where
  -- the first of these rows that has the name; where none has it, this one
  unfoldable found_or : Row → List Row → Row
  found_or other [] = other
  found_or other (row ∷ rows) =
      let on = found_or other rows in
      cond (is_row s scope word row) row on

  found-find : (rows : List Row) → find s rows scope word ≡ found_or unknown rows
  unfolding find found_or
  found-find [] = refl
  found-find (row ∷ rows) = rw (found-find rows)

  found-snoc : (other row : Row) (rows : List Row) → found_or other (rows ++ (row ∷ [])) ≡ found_or (cond (is_row s scope word row) row other) rows
  unfolding found_or
  found-snoc other row [] = refl
  found-snoc other row (first ∷ rows) = rw (found-snoc other row rows)

  -- whether the row at a place has the name
  abbrev pub has_name : List ℕ → ℕ → Bool
  has_name cells k = is_row s scope word (row_at cells k)

  found-lowest : (cells : List ℕ) (n found : ℕ) → found_or (found_at cells found) (rows_in cells n) ≡ found_at cells (lowest (has_name cells) n found)
  unfolding found_or lowest rows_from
  found-lowest cells zero found = refl
  found-lowest cells (suc n) found = ap (found_or (found_at cells found)) (rows_last n cells) ∙ found-snoc (found_at cells found) (row_at cells n) (rows_in cells n) ∙ by (found-lowest cells n) (has_name cells n) refl
    where
      by : ((then : ℕ) → found_or (found_at cells then) (rows_in cells n) ≡ found_at cells (lowest (has_name cells) n then)) → (b : Bool) → has_name cells n ≡ b → found_or (cond b (row_at cells n) (found_at cells found)) (rows_in cells n) ≡ found_at cells (lowest (has_name cells) (suc n) found)
      by on true e = on (suc n) ∙ rw (lowest-hit (has_name cells) n found e)
      by on false e = on found ∙ rw (lowest-miss (has_name cells) n found e)

  -- the first of the first n rows that has the name, one more than its place; 0 where there is none
  abbrev pub named_first : List ℕ → ℕ → ℕ
  named_first cells n = lowest (has_name cells) n 0

  pub find-lowest : (cells : List ℕ) (n : ℕ) → find s (rows_in cells n) scope word ≡ found_at cells (lowest (has_name cells) n 0)
  find-lowest cells n = found-find (rows_in cells n) ∙ found-lowest cells n 0

  -- what the name means, by that row
  pub named_none : (cells : List ℕ) (n place : ℕ) → place ≡ 0 → place ≡ named_first cells n → unknown ≡ find s (rows_in cells n) scope word
  named_none cells n place z e = let none : named_first cells n ≡ 0 = sym e ∙ z in sym (find-lowest cells n ∙ rw none)

  pub named_some : (cells : List ℕ) (n place : ℕ) → (place ≢ 0) → place ≡ named_first cells n → row_at cells (place - 1) ≡ find s (rows_in cells n) scope word
  named_some cells n place z e = let is : named_first cells n ≡ place = sym e in found_some cells place z ∙ sym (find-lowest cells n ∙ rw is)

  -- no row is of a scope whose number does not fit
  pub scope-beyond : (cells : List ℕ) (n : ℕ) → ((i : ℕ) → slice_index cells i < 18446744073709551616) → 18446744073709551616 ≤ scope → unknown ≡ find s (rows_in cells n) scope word
  unfolding row_at
  scope-beyond cells n fit h = named_none cells n 0 refl (sym (lowest-empty (has_name cells) n 0 (λ j g. other j)))
    where
      other : (j : ℕ) → has_name cells j ≡ false
      other j = simp (ne_eqb (slice_index cells (j * 8 + 1280 + 2)) scope (λ z. omega (arith, z, h, fit (j * 8 + 1280 + 2))))

  -- whether the row at a place is of the name's scope and has its key
  abbrev pub marked : List ℕ → ℕ → Bool
  marked cells k = cond (key_by s (row_at cells k) == key_of word) ((row_at cells k).scope == scope) false

  -- the first of the first n rows that is of the name's scope and has its key, one more than its place; 0 where there is none
  abbrev pub marked_first : List ℕ → ℕ → ℕ
  marked_first cells n = lowest (marked cells) n 0

  -- such a row is of the name's chain
  own-chain : (cells : List ℕ) (k : ℕ) → marked cells k ≡ true → chain_at s cells k ≡ chain_of scope word
  own-chain cells k h = by (key_by s (row_at cells k) == key_of word) refl
    where
      by : (b : Bool) → (key_by s (row_at cells k) == key_of word) ≡ b → chain_at s cells k ≡ chain_of scope word
      by true e =
          let is : nat_eq (row_at cells k).scope scope ≡ true = simp e at h in
          rw (eqb-true (row_at cells k).scope scope is) (chain_same scope (word_at s cells k) word (eqb-true (key_by s (row_at cells k)) (key_of word) e))
      by false e = let z : ◌≡◌ {A = Bool} false true = simp e at h in let q : ◌≡◌ {A = ℕ} 0 1 = cc in absurd (omega arith)

  -- a row that has the name is one
  named-marked : (cells : List ℕ) (k : ℕ) → has_name cells k ≡ true → marked cells k ≡ true
  named-marked cells k h = by ((row_at cells k).scope == scope) refl
    where
      by : (b : Bool) → ((row_at cells k).scope == scope) ≡ b → marked cells k ≡ true
      by true e =
          let w : same (word_at s cells k) word ≡ true = simp e at h in
          let is : key_by s (row_at cells k) ≡ key_of word = ap key_of (same→eq (word_at s cells k) word (rw w tt)) in
          rw (eq-eqb (key_by s (row_at cells k)) (key_of word) is) e
      by false e = let z : ◌≡◌ {A = Bool} false true = simp e at h in let q : ◌≡◌ {A = ℕ} 0 1 = cc in absurd (omega arith)

  -- what the name means, by the first such row: nothing where there is none, that row where it has the name
  module _ (cells : List ℕ) (n found : ℕ) (e : found ≡ marked_first cells n) where
    pub marked-none : found ≡ 0 → 0 ≡ named_first cells n
    marked-none z = sym (lowest-none (has_name cells) (marked cells) (named-marked cells) n 0 (sym e ∙ z)).1

    marked-scope : (k : ℕ) → marked cells k ≡ true → ((row_at cells k).scope == scope) ≡ true
    marked-scope k h = by (key_by s (row_at cells k) == key_of word) refl
      where
        by : (b : Bool) → (key_by s (row_at cells k) == key_of word) ≡ b → ((row_at cells k).scope == scope) ≡ true
        by true p = simp p at h
        by false p = let z : ◌≡◌ {A = Bool} false true = simp p at h in let q : ◌≡◌ {A = ℕ} 0 1 = cc in absurd (omega arith)

    marked-key : (k : ℕ) → marked cells k ≡ true → key_by s (row_at cells k) ≡ key_of word
    marked-key k h = by (key_by s (row_at cells k) == key_of word) refl
      where
        by : (b : Bool) → (key_by s (row_at cells k) == key_of word) ≡ b → key_by s (row_at cells k) ≡ key_of word
        by true p = eqb-true (key_by s (row_at cells k)) (key_of word) p
        by false p = let z : ◌≡◌ {A = Bool} false true = simp p at h in let q : ◌≡◌ {A = ℕ} 0 1 = cc in absurd (omega arith)

    is-marked : (found ≢ 0) → marked cells (found - 1) ≡ true
    is-marked z = rw e (lowest-holds (marked cells) n 0 (λ q. absurd (q refl)) (λ q. z (e ∙ q)))

    pub found-key : (found ≢ 0) → key_of (word_at s cells (found - 1)) ≡ key_of word
    found-key z = marked-key (found - 1) (is-marked z)

    pub marked-some : (found ≢ 0) → same (word_at s cells (found - 1)) word ≡ true → found ≡ named_first cells n
    marked-some z w =
        let named : has_name cells (found - 1) ≡ true = rw (marked-scope (found - 1) (is-marked z)) w in
        sym (lowest-same (has_name cells) (marked cells) (named-marked cells) n 0 0 found (sym e) named (λ q. refl))

  -- a walk through the chain of a name: where it stands, one more than its place, with no such row before it
  pub record Walking (cells : List ℕ) (link : ℕ) : Type 0 where
    pub below : link ≤ indexed cells
    pub own : chain_at s cells (link - 1) ≡ chain_of scope word
    pub none : (j : ℕ) → j < link - 1 → marked cells j ≡ false

  -- a row of another chain is no such row
  apart : (cells : List ℕ) (k : ℕ) → (chain_at s cells k ≢ chain_of scope word) → (b : Bool) → marked cells k ≡ b → marked cells k ≡ false
  apart cells k h true e = absurd (h (own-chain cells k e))
  apart cells k h false e = e

  module _ {cells : List ℕ} (ix : Indexed s cells) where
    head-is : head_in cells (chain_of scope word) ≡ next_of (chain_at s cells) (chain_of scope word) 0 (indexed cells)
    head-is = ix.linked.heads (chain_of scope word) (chain-small scope word)

    -- with no row in the chain none is such a row
    pub walk_none : (n : ℕ) → n ≤ indexed cells → head_in cells (chain_of scope word) ≡ 0 → 0 ≡ marked_first cells n
    walk_none n h e = sym (lowest-empty (marked cells) n 0 (λ j g. apart cells j (next-out (chain_at s cells) (chain_of scope word) 0 (indexed cells) (sym head-is ∙ e) j (omega arith) (omega arith)) (marked cells j) refl))

    pub walk_begins : 0 < head_in cells (chain_of scope word) → Walking cells (head_in cells (chain_of scope word))
    walk_begins h =
        let w = next-some (chain_at s cells) (chain_of scope word) 0 (indexed cells) (rw head-is at h) in
        rw head-is (record { below = omega (arith, w.within); own = w.own; none = λ j g. apart cells j (w.first j (omega arith) g) (marked cells j) refl })

    module _ {link : ℕ} (w : Walking cells link) (h : 0 < link) where
      key-kept : key_at cells (link - 1) ≡ key_by s (row_at cells (link - 1))
      key-kept = ix.linked.keys (link - 1) (omega (arith, w.below))

      -- what is kept of the row tells whether it is such a row
      pub marked-kept : (key : ℕ) → key ≡ key_of word → marked_by cells (link - 1) scope key ≡ marked cells (link - 1)
      marked-kept key e = rw (e, key-kept)

      -- one among the first n
      pub walk-hits : (n : ℕ) → link ≤ n → marked cells (link - 1) ≡ true → link ≡ marked_first cells n
      walk-hits n g e =
          let z : suc (link - 1) ≡ link = omega arith in
          sym (lowest-first (marked cells) (link - 1) n 0 (omega arith) e w.none ∙ z)

      link-is : link_at cells (link - 1) ≡ next_of (chain_at s cells) (chain_of scope word) link (indexed cells - link)
      link-is =
          let z : link - 1 + 1 ≡ link = omega arith in
          ix.linked.links (link - 1) (omega (arith, w.below)) ∙ rw (z, w.own)

      to : link + (indexed cells - link) ≡ indexed cells
      to = omega (arith, w.below)

      -- before the row that the walk goes on to
      between : marked cells (link - 1) ≡ false → (last : ℕ) → ((j : ℕ) → link ≤ j → j < last → chain_at s cells j ≢ chain_of scope word) → (j : ℕ) → j < last → marked cells j ≡ false
      between e last f j g = by (nat_lt j link) refl (j == link - 1) refl
        where
          by : (b : Bool) → nat_lt j link ≡ b → (c : Bool) → (j == link - 1) ≡ c → marked cells j ≡ false
          by false p c q = apart cells j (f j (ltb-false j link p) g) (marked cells j) refl
          by true p true q = rw (eqb-true j (link - 1) q) e
          by true p false q = w.none j (omega (arith, ltb-true j link p, eqb-false j (link - 1) q))

      pub walk-on : marked cells (link - 1) ≡ false → link < link_at cells (link - 1) → Walking cells (link_at cells (link - 1))
      walk-on e g =
          let on = next-some (chain_at s cells) (chain_of scope word) link (indexed cells - link) (omega (arith, link-is, g)) in
          rw link-is (record { below = omega (arith, on.within, to); own = on.own; none = between e (next_of (chain_at s cells) (chain_of scope word) link (indexed cells - link) - 1) on.first })

      -- the last row of its chain
      pub walk_ends : (n : ℕ) → n ≤ indexed cells → marked cells (link - 1) ≡ false → link_at cells (link - 1) ≤ link → 0 ≡ marked_first cells n
      walk_ends n i e g = sym (lowest-empty (marked cells) n 0 (between e n (λ j l f. next-out (chain_at s cells) (chain_of scope word) link (indexed cells - link) over j l (omega (arith, to)))))
        where
          over : next_of (chain_at s cells) (chain_of scope word) link (indexed cells - link) ≡ 0
          over = by (nat_lt 0 (next_of (chain_at s cells) (chain_of scope word) link (indexed cells - link))) refl
            where
              by : (b : Bool) → nat_lt 0 (next_of (chain_at s cells) (chain_of scope word) link (indexed cells - link)) ≡ b → next_of (chain_at s cells) (chain_of scope word) link (indexed cells - link) ≡ 0
              by true p = absurd (omega (arith, link-is, (next-some (chain_at s cells) (chain_of scope word) link (indexed cells - link) (ltb-true 0 (next_of (chain_at s cells) (chain_of scope word) link (indexed cells - link)) p)).above))
              by false p = omega (arith, ltb-false 0 (next_of (chain_at s cells) (chain_of scope word) link (indexed cells - link)) p)

      -- a row that is not among the first n
      pub walk-passes : (n : ℕ) → n < link → 0 ≡ marked_first cells n
      walk-passes n g = sym (lowest-empty (marked cells) n 0 (λ j i. w.none j (omega arith)))

-- one more than the place of a row that was found; 0 where none was
abbrev pub past : Option ℕ → ℕ
past (Some k) = k + 1
past None = 0

-- where the index finds a name of a scope among the first n rows
abbrev pub Placed : List ℕ → List ℕ → ℕ → ℕ → List ℕ → Lookup → Type 0
Placed s cells n scope word (At k) = (k < room_in cells) × (Indexed s cells → k + 1 ≡ named_first s scope word cells n)
Placed s cells n scope word Nowhere = Indexed s cells → 0 ≡ named_first s scope word cells n
Placed s cells n scope word Untold = Unit {0}
