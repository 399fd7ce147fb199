-- A pass over the items from a place on, one row for each, in as many turns as are allowed.
use Rattle.std.specs.Prelude.{Ok, ℕ, suc, ◌+◌, ◌-◌, ◌*◌, ◌/◌, ◌≤◌, ◌<◌, min, ◌≡◌, Bool, true, List, ltb, take, drop}
use Rattle.std.proofs.Math.Path.{refl, sym, ap}
use Rattle.std.proofs.Common.{subst, ◌∙◌, ltb-true, ltb-false}
use Rattle.std.proofs.Math.Bool.{false}
use Rattle.std.proofs.Math.Option.{none}
use native.Mathlib.Omega.{arith}
use Rattle.std.proofs.Math.ListN.{length, get_or}
use Rattle.text.specs.declared.State.{State}
use Rattle.text.specs.declared.ReadItem.{ReadItem}
use Rattle.text.specs.Items.{item_at, goes, items_from, refused_or, refused_in}
use Rattle.text.proofs.ItemsLaws.{from_on, from-stop, turn_on, turn-ahead}
use Rattle.items.specs.Answers.{FirstPass, answered}
use Rattle.kept.specs.declared.Seen.{Seen}
use Rattle.kept.specs.Rows.{state_of, fields_in, item_of, read_of}
use Rattle.kept.specs.Seen.{seen_of, seen_in}
use Rattle.kept.specs.Kept.{Laid, Stand, RowAt, past, stand_from, Listed}
use Rattle.kept.specs.KeptLaws.{lent, lent_length, lent-here, lent-before, lent-read, lent_seen}
use Rattle.kept.specs.Kinds.{kind-goes, kind-stops}

-- the answer of a row that ends a pass
abbrev pub end_of : List ℕ → FirstPass
end_of row = answered (refused_or (item_of (fields_in row)) none)

-- what a pass has done: where its turns are enough it answers for the text and its rows are those of the items, and one turn lays one row
pub record Walked (s : List ℕ) (state at turns : ℕ) (rows : List ℕ) (answer : FirstPass) (many : ℕ) : Type 0 where
  pub told : at ≤ length s → length s < at + turns → answer ≡ answered (refused_in (items_from s (state_of state) at))
  pub listed : at ≤ length s → length s < at + turns → Listed s (record { state = state; at = at }) rows many
  pub single : turns ≡ 1 → read_of rows ≡ item_at s (state_of state) at
  pub seen : turns ≡ 1 → seen_in rows ≡ seen_of (item_at s (state_of state) at)

-- a turn less
pub turn-less : {left : ℕ} → 0 < left → left - 1 < left
turn-less h = omega arith

-- one row more, where there is room
count-on : (done room : ℕ) {many more : ℕ} → many ≡ min done room → more ≡ min (many + 1) room → more ≡ min (suc done) room
count-on done room h g = omega arith

-- one item, and those behind it
turn_more : (s : List ℕ) (state : State) (at : ℕ) (r : ReadItem) → at ≤ length s → r ≡ item_at s state at → goes r.item ≡ true → length (items_from s state at) ≡ suc (length (items_from s r.state r.next))
turn_more s state at r h p e = let g : goes (item_at s state at).item ≡ true = rw p at e in rw (from_on s state at h g, p)

module _ (s : List ℕ) (from place turns : ℕ) where
  -- where the pass begins
  abbrev begin : Stand
  begin = record { state = from; at = place }

  -- what is refused from the begin on is refused from here on, and so many items are left
  pub record Onward (state at left : ℕ) : Type 0 where
    pub within : at ≤ length s
    pub enough : length s < at + left
    pub same : refused_in (items_from s (state_of from) place) ≡ refused_in (items_from s (state_of state) at)
    pub more : length (items_from s (state_of from) place) ≡ turns - left + length (items_from s (state_of state) at)

  -- a pass under way, where so many turns are left
  pub record Walking (rows : List ℕ) (many state at left : ℕ) : Type 0 where
    pub room : many * 16 + 16 ≤ length rows
    pub count : many ≡ min (turns - left) ((length rows - 16) / 16)
    pub row : (k : ℕ) → k < many → RowAt s (stand_from s begin k) (take 16 (drop (k * 16) rows))
    pub stands : stand_from s begin (turns - left) ≡ record { state = state; at = at }
    pub on : place ≤ length s → length s < place + turns → Onward state at left
    pub few : left ≤ turns
    pub fresh : left ≡ turns → (many ≡ 0) × (state ≡ from) × (at ≡ place)
    pub single : left < turns → turns ≡ 1 → (read_of rows ≡ item_at s (state_of from) place) × (seen_in rows ≡ seen_of (item_at s (state_of from) place))

  pub walk_begins : (rows : List ℕ) → 16 ≤ length rows → Walking rows 0 from place turns
  unfolding stand_from
  walk_begins rows h =
      let none_done : turns - turns ≡ 0 = omega arith in
      record {
        room = omega arith;
        count = omega arith;
        row = λ k l. absurd (omega (arith, l));
        stands = rw none_done;
        on = λ p q. record { within = p; enough = q; same = refl; more = omega arith };
        few = omega arith;
        fresh = λ e. (refl, refl, refl);
        single = λ l e. absurd (omega (arith, l));
      }

  pub walk_ends : {rows : List ℕ} {many state at left : ℕ} → Walking rows many state at left → left ≡ 0 → Walked s from place turns rows (Ok tt) many
  walk_ends w z =
      record {
        told = λ p q. let o = w.on p q in absurd (omega (arith, o.within, o.enough, z));
        listed = λ p q. let o = w.on p q in absurd (omega (arith, o.within, o.enough, z));
        single = λ e. (w.single (omega (arith, e, z)) e).0;
        seen = λ e. (w.single (omega (arith, e, z)) e).1;
      }

  -- one turn of a pass: a row is laid
  module _ (rows row : List ℕ) (many state at left : ℕ) {sort beyond ahead : ℕ} (long : length row ≡ 16) (w : Walking rows many state at left) (some_left : 0 < left) (l : Laid s state at row sort beyond ahead) where
    -- the rows with the new one
    abbrev now : List ℕ
    now = lent rows row many long w.room

    now-single : turns ≡ 1 → (read_of now ≡ item_at s (state_of from) place) × (seen_in now ≡ seen_of (item_at s (state_of from) place))
    now-single e =
        let f = w.fresh (omega (arith, w.few, some_left, e)) in
        let same : item_at s (state_of state) at ≡ item_at s (state_of from) place = ap (λ (n : ℕ). item_at s (state_of n) at) f.1 ∙ ap (λ (n : ℕ). item_at s (state_of from) n) f.2 in
        (lent-read rows row many long w.room f.0 ∙ l.told ∙ same, lent_seen rows row many long w.room f.0 ∙ l.seen ∙ ap seen_of same)

    -- the new row is that of the item whose turn it is, and those before it stay
    now-here : RowAt s (stand_from s begin (turns - left)) (take 16 (drop (many * 16) now))
    now-here = rw (lent-here rows row many long w.room, w.stands) (record { told = l.told; seen = l.seen; number = l.number; place = l.place })

    now-before : (k : ℕ) → k < many → RowAt s (stand_from s begin k) (take 16 (drop (k * 16) now))
    now-before k h = rw (lent-before rows row many long w.room k h) (w.row k h)

    pub walk-stops : {answer : FirstPass} → 18 < sort → (18 < get_or row 0 0 → answer ≡ end_of row) → Walked s from place turns now answer (many + 1)
    unfolding refused_in
    walk-stops {answer} h e =
        let said : answer ≡ end_of row = e (omega (arith, l.kind, h)) in
        let stops : goes (item_at s (state_of state) at).item ≡ false = rw (← l.told) (kind-stops row (omega (arith, l.kind, h))) in
        let size = lent_length rows row many long w.room in
        record {
          told = λ p q.
              let o = w.on p q in
              let here : refused_in (items_from s (state_of state) at) ≡ refused_or (item_of (fields_in row)) none = rw (from-stop s (state_of state) at o.within stops, ← l.told) in
              said ∙ sym (ap answered (o.same ∙ here));
          listed = λ p q.
              let o = w.on p q in
              let one : length (items_from s (state_of state) at) ≡ 1 = rw (from-stop s (state_of state) at o.within stops) in
              let last : length (items_from s (state_of from) place) - 1 ≡ turns - left = omega (arith, o.more, one) in
              let own : many + 1 - 1 ≡ many = omega arith in
              record {
                count = omega (arith, o.more, one, w.count, w.room, size);
                row = λ k g. now-before k (omega (arith, g));
                last = rw (last, own) now-here;
              };
          single = λ e. (now-single e).0;
          seen = λ e. (now-single e).1;
        }

    turn-done : turns - (left - 1) ≡ suc (turns - left)
    turn-done = omega (arith, w.few, some_left)

    -- where the next item begins
    stands_on : stand_from s begin (turns - (left - 1)) ≡ record { state = beyond; at = ahead }
    unfolding stand_from
    stands_on =
        let behind : past s (record { state = state; at = at }) ≡ record { state = get_or row 3 0; at = get_or row 4 0 } = sym (ap (λ (x : Seen). record { state = x.behind; at = x.next }) l.seen) in
        ap (λ (n : ℕ). stand_from s begin n) turn-done ∙ ap (λ (b : Stand). past s b) w.stands ∙ behind ∙ rw (l.after, l.next)

    pub walk-goes-on : {many' : ℕ} → sort ≤ 18 → many' ≡ min (many + 1) ((length rows - 16) / 16) → Walking now many' beyond ahead (left - 1)
    walk-goes-on {many'} h e =
        let size = lent_length rows row many long w.room in
        record {
          room = omega (arith, size, e, w.room);
          count = rw (size, turn-done) (count-on (turns - left) ((length rows - 16) / 16) w.count e);
          row = λ k g. by k (ltb k many) refl g;
          stands = stands_on;
          on = λ p q.
              let o = w.on p q in
              let going = kind-goes row (omega (arith, l.kind, h)) in
              let further = turn-ahead s (state_of state) at (read_of row) o.within l.told going in
              let more : length (items_from s (state_of state) at) ≡ suc (length (items_from s (state_of beyond) ahead)) = rw (l.after, l.next) (turn_more s (state_of state) at (read_of row) o.within l.told going) in
              record {
                within = omega (arith, further, l.next);
                enough = omega (arith, further, l.next, o.enough, some_left);
                same = o.same ∙ rw (l.after, l.next) (turn_on s (state_of state) at (read_of row) o.within l.told going);
                more = rw turn-done (omega (arith, o.more, more));
              };
          few = omega (arith, w.few);
          fresh = λ e. absurd (omega (arith, w.few, some_left, e));
          single = λ less e. now-single e;
        }
      where
        by : (k : ℕ) (c : Bool) → ltb k many ≡ c → k < many' → RowAt s (stand_from s begin k) (take 16 (drop (k * 16) now))
        by k true c g = now-before k (ltb-true k many c)
        by k false c g =
            let same : k ≡ many = omega (arith, ltb-false k many c, g, e) in
            let done : many ≡ turns - left = omega (arith, ltb-false k many c, g, e, w.count) in
            rw same (subst (λ (j : ℕ). RowAt s (stand_from s begin j) (take 16 (drop (many * 16) now))) (sym done) now-here)
