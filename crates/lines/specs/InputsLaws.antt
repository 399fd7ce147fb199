-- Laws of the lines of an input.
use Rattle.std.specs.Prelude.{ℕ, suc, ◌+◌, ◌-◌, ◌≤◌, ◌<◌, ◌≡◌, ◌≢◌, refl, List, [], ◌∷◌, ◌++◌, Bool, true, false, cond, length, take, drop, eqb, nat_lt, get_or, slice_range, position, Option, Some, None, Contains, ◌⊎◌}
use Rattle.std.specs.List.{position_or_len}
use Rattle.std.proofs.Common.{sym, ap, ◌∙◌, arith, inl, inr, subst, append_assoc, append-nil, length-append, ltb-false, length-drop, add-one}
use Rattle.std.proofs.Math.Seq.{drop-cons, take-append-add}
use Rattle.std.proofs.lemmas.Bool.{eqb-true, eqb-false}
use Rattle.std.proofs.lemmas.List.{drop-drop, take-append-drop, take-append-le, drop-append-le, length-take-le, get_or-take, take-take, drop-take}
use Rattle.std.proofs.lemmas.List.Elements.{All-nil, All-append}
use Rattle.std.proofs.lemmas.List.Quantifiers.{position-Some}
use Rattle.std.proofs.lemmas.List.Sums.{fails_before_first}
use Rattle.std.proofs.lemmas.Slice.{between_is}
use Rattle.std.specs.Io.KnownBytes.{Consumes}
use Rattle.std.proofs.KnownBytes.{Consumes-nil, Consumes-trans}
use Rattle.lines.specs.declared.input.Lines.{Lines}
use Rattle.lines.specs.declared.input.Step.{Step}
use Rattle.lines.specs.declared.input.Step.TheVariants.{Line as LineAt, Long as LongAt, End as EndAt, More}
use Rattle.lines.specs.declared.input.Found.{Found}
use Rattle.lines.specs.declared.input.Found.TheVariants.{Line, Long, End}
use Rattle.lines.specs.Inputs.{held, Unbroken, Passed, Looks, Ends, IsWithin, IsLine, Shows, Tells, Gives, EndsPassed, IsFilled, unread_looks, Going, Advances}

true-false : true ≡ false → ⊥
true-false e = cc

-- ---- what is held

-- no LF was found
pub unbroken-none : (xs : List ℕ) → position (λ x. eqb x 10) xs ≡ None → Unbroken xs
unbroken-none xs e k d h = go (nat_lt (position_or_len (λ x. eqb x 10) xs) (length xs)) refl e
  where
    go : (t : Bool) → nat_lt (position_or_len (λ x. eqb x 10) xs) (length xs) ≡ t → cond t (Some (position_or_len (λ x. eqb x 10) xs)) None ≡ None → get_or xs k d ≢ 10
    go true s n = cc
    go false s n =
        let far : length xs ≤ position_or_len (λ x. eqb x 10) xs = ltb-false _ _ s in
        eqb-false _ _ (fails_before_first (λ x. eqb x 10) xs k d (omega arith))

-- a list is what stands before an LF of it, the LF and what stands behind it
split-at : (xs : List ℕ) (n : ℕ) → n < length xs → get_or xs n 0 ≡ 10 → xs ≡ take n xs ++ 10 ∷ drop (n + 1) xs
split-at xs n h e =
    let front : List ℕ = take n xs in
    sym (take-append-drop n xs) ∙ ap (λ l. front ++ l) (drop-cons xs n 0 h ∙ ap (λ v. v ∷ drop (suc n) xs) e ∙ ap (λ k. 10 ∷ drop k xs) (sym (add-one n)))

-- a part of a part, from its begin on, and to its end
part-front : (b : List ℕ) (from to n : ℕ) → from + n ≤ to → slice_range b from (from + n) ≡ take n (slice_range b from to)
part-front b from to n h =
    let size : from + n - from ≡ n = omega arith in
    ap (λ k. take k (drop from b)) size ∙ sym (take-take n (to - from) (drop from b) (omega arith))

part-rest : (b : List ℕ) (from to n : ℕ) → from + n ≤ to → slice_range b (from + n) to ≡ drop n (slice_range b from to)
part-rest b from to n h =
    let size : to - from ≡ n + (to - (from + n)) = omega arith in
    ap (take (to - (from + n))) (sym (drop-drop n from b)) ∙ sym (drop-take n (to - (from + n)) (drop from b)) ∙ ap (λ k. drop n (take k (drop from b))) (sym size)

-- the first LF was found: what is held is a line, and what is then held
pub line-at : (b : List ℕ) (from to n : ℕ) → from ≤ to → to ≤ length b → position (λ x. eqb x 10) (slice_range b from to) ≡ Some n → (from + n < to) × Unbroken (slice_range b from (from + n)) × (slice_range b from to ≡ slice_range b from (from + n) ++ 10 ∷ slice_range b (from + n + 1) to)
line-at b from to n h k e =
    let held : List ℕ = slice_range b from to in
    let found = position-Some (λ x. eqb x 10) held n 0 e in
    let long : length held ≡ to - from = length-take-le (to - from) (drop from b) (omega (arith, length-drop from b)) in
    let within : n < to - from = omega (arith, found.0) in
    let front : slice_range b from (from + n) ≡ take n held = part-front b from to n (omega arith) in
    let next : from + n + 1 ≡ from + (n + 1) = omega arith in
    let rest : slice_range b (from + n + 1) to ≡ drop (n + 1) held = ap (λ j. slice_range b j to) next ∙ part-rest b from to (n + 1) (omega arith) in
    let unbroken : Unbroken (take n held) = λ j d l.
    let below : j < n = omega (arith, length-take-le n held (omega (arith, found.0))) in
    let same : get_or (take n held) j d ≡ get_or held j d = get_or-take n held j d below in
    λ q. eqb-false _ _ ((position-Some (λ x. eqb x 10) held n d e).2 j below) (sym same ∙ q) in
    (omega arith, subst Unbroken (sym front) unbroken, split-at held n found.0 (eqb-true _ _ found.1) ∙ ap (λ l. l ++ 10 ∷ drop (n + 1) held) (sym front) ∙ ap (λ l. slice_range b from (from + n) ++ 10 ∷ l) (sym rest))

-- what was read stands behind what was held
pub filled : (b ys zs : List ℕ) (from to n : ℕ) → from ≤ to → to ≤ length b → n ≤ length ys → slice_range (take to b ++ (ys ++ zs)) from (to + n) ≡ slice_range b from to ++ take n ys
filled b ys zs from to n h k m =
    let front : length (take to b) ≡ to = length-take-le to b k in
    let before : List ℕ = drop from (take to b) in
    let long : length before ≡ to - from = length-drop from (take to b) ∙ ap (λ l. l - from) front in
    let size : to + n - from ≡ length before + n = omega arith in
    ap (take (to + n - from)) (drop-append-le from (take to b) (ys ++ zs) (omega arith)) ∙ ap (λ j. take j (before ++ (ys ++ zs))) size ∙ take-append-add before (ys ++ zs) n ∙ ap (λ l. before ++ l) (take-append-le n ys zs m) ∙ ap (λ l. l ++ take n ys) (sym (between_is b from to))

-- what is held stays so when bytes behind it change
pub held-still : (b ys zs : List ℕ) (from to : ℕ) → from ≤ to → to ≤ length b → slice_range (take to b ++ (ys ++ zs)) from to ≡ slice_range b from to
held-still b ys zs from to h k =
    let same : to + 0 ≡ to = omega arith in
    ap (λ j. slice_range (take to b ++ (ys ++ zs)) from j) (sym same) ∙ filled b ys zs from to 0 h k (omega arith) ∙ append-nil (slice_range b from to)

-- ---- what is passed over

pub passed-none : (over : Bool) (held : List ℕ) → Passed over over (held ++ []) held
passed-none false held = append-nil held
passed-none true held = ([], All-nil _, append-nil held)

pub passed-then : (a b c : Bool) (held read then more last : List ℕ) → Passed a b (held ++ read) then → Passed b c (then ++ more) last → Passed a c (held ++ (read ++ more)) last
passed-then false false false held read then more last p q = sym (append_assoc held read more) ∙ ap (λ l. l ++ more) p ∙ q
passed-then false false true held read then more last p q = absurd q
passed-then false true c held read then more last p q = absurd p
passed-then true false false held read then more last (line, u, p) q =
    (line, u, sym (append_assoc held read more) ∙ ap (λ l. l ++ more) p ∙ append_assoc line (10 ∷ then) more ∙ ap (λ l. line ++ 10 ∷ l) q)
passed-then true false true held read then more last p q = absurd q
passed-then true true false held read then more last (line, u, p) (next, v, q) =
    (line ++ next, All-append (λ byte. byte ≢ 10) line next u v, sym (append_assoc held read more) ∙ ap (λ l. l ++ more) p ∙ append_assoc line then more ∙ ap (λ l. line ++ l) q ∙ sym (append_assoc line next (10 ∷ last)))
passed-then true true true held read then more last (line, u, p) (next, v, q) =
    (line ++ next, All-append (λ byte. byte ≢ 10) line next u v, sym (append_assoc held read more) ∙ ap (λ l. l ++ more) p ∙ append_assoc line then more ∙ ap (λ l. line ++ l) q ∙ sym (append_assoc line next last))

-- ---- what a look finds

-- a line, unless it is passed over
pub looks-line : (was : Option (List ℕ)) (old new : Lines) (line : List ℕ) (from to : ℕ) (found : Step) → found ≡ cond old.over More (LineAt from to) → new.over ≡ false → from ≤ to → to < length new.buffer.now → slice_range new.buffer.now from to ≡ line → Unbroken line → held old ≡ line ++ 10 ∷ held new → Looks was was old new found
looks-line was old new line from to found f o h k same u e = go old.over refl f
  where
    go : (t : Bool) → old.over ≡ t → found ≡ cond t More (LineAt from to) → Looks was was old new found
    go true q r =
        subst (Looks was was old new) (sym r) ([], Consumes-nil was, inl (refl, q, o, (line, u, e)))
    go false q r = subst (Looks was was old new) (sym r) (Consumes-nil was, q, o, h, k, rw same (u, inl e))

pub none-held : (lines : Lines) → lines.to ≡ 0 → held lines ≡ []
none-held lines e =
    let size : lines.to - lines.from ≡ 0 = omega (arith, e) in
    ap (λ k. take k (drop lines.from lines.buffer.now)) size

-- nothing more comes, and nothing is held that is not passed over
pub looks-end : (was now : Option (List ℕ)) (old new : Lines) → Consumes was now [] → new.over ≡ old.over → Unbroken (held old) → cond old.over [] (held old) ≡ [] → held new ≡ [] → 0 < length old.buffer.now → Looks was now old new EndAt
looks-end was now old new c o u e none room = (c, o, go old.over refl e, none, λ _. room)
  where
    go : (t : Bool) → old.over ≡ t → cond t [] (held old) ≡ [] → Passed t t (held old) []
    go true q r = (held old, u, sym (append-nil (held old)))
    go false q r = r

-- ---- what a call answers

pub going-first : (was : Option (List ℕ)) (old : Lines) → Going was was old old 0
going-first was old = record {
  read = [];
  consumed = Consumes-nil was;
  at_once = λ _ _ _. refl;
  passed = passed-none old.over (held old);
  turns = omega arith;
  room = refl;
  same_reference = refl;
}

-- no LF stands in front of an LF
pub broken : (line rest : List ℕ) → Unbroken (line ++ 10 ∷ rest) → ⊥
broken [] rest u = u 0 0 (omega arith) refl
broken (x ∷ line) rest u = broken line rest (λ k d h. u (suc k) d (omega (arith, h)))

-- bytes have one first LF
pub first-end : (line rest other more : List ℕ) → Unbroken line → Unbroken other → line ++ 10 ∷ rest ≡ other ++ 10 ∷ more → (line ≡ other) × (rest ≡ more)
first-end [] rest [] more u v e = (refl, cc)
first-end [] rest (y ∷ other) more u v e = absurd (v 0 0 (omega arith) cc)
first-end (x ∷ line) rest [] more u v e = absurd (u 0 0 (omega arith) cc)
first-end (x ∷ line) rest (y ∷ other) more u v e =
    let same = first-end line rest other more (λ k d h. u (suc k) d (omega (arith, h))) (λ k d h. v (suc k) d (omega (arith, h))) cc in
    (cc (same.0, e), same.1)

-- the first LF stands behind bytes that have none
pub end-behind : (front new line rest : List ℕ) → Unbroken front → Unbroken line → front ++ new ≡ line ++ 10 ∷ rest → (more : List ℕ) × Unbroken more × (new ≡ more ++ 10 ∷ rest)
end-behind [] new line rest u v e = (line, v, e)
end-behind (x ∷ front) new [] rest u v e = absurd (u 0 0 (omega arith) cc)
end-behind (x ∷ front) new (y ∷ line) rest u v e = end-behind front new line rest (λ k d h. u (suc k) d (omega (arith, h))) (λ k d h. v (suc k) d (omega (arith, h))) cc

-- what is left behind those that are passed over ends them too
pub passed-behind : (a b : Bool) (all left rest : List ℕ) → Passed a b all left → Passed a false all rest → Passed b false left rest
passed-behind false false all left rest p q = sym p ∙ q
passed-behind false true all left rest p q = absurd p
passed-behind true false all left rest (line, u, e) (next, v, f) = (first-end line left next rest u v (sym e ∙ f)).1
passed-behind true true all left rest (line, u, e) (next, v, f) = end-behind line left next rest u v (sym e ∙ f)

-- no line ends behind bytes that have no LF
behind-unbroken : (over : Bool) (left rest : List ℕ) → Unbroken left → Passed over false left rest → Contains rest 10 → ⊥
behind-unbroken false left rest u p h = subst Unbroken p u h.0 10 h.1 h.2
behind-unbroken true left rest u (line, v, e) h = broken line rest (subst Unbroken e u)

-- where nothing is passed over at first, nothing is later
passed-nothing : (a b : Bool) (all rest : List ℕ) → a ≡ false → Passed a b all rest → (b ≡ false) × (all ≡ rest)
passed-nothing false false all rest e p = (refl, p)
passed-nothing false true all rest e p = absurd p
passed-nothing true b all rest e p = absurd (true-false e)

one-look : (a b c : Bool) (n m turn : ℕ) → b ≡ true → c ≡ false → (a ≡ false → b ≡ false) → turn ≤ n + unread_looks a b → n ≤ m → turn + 1 ≤ m + unread_looks a c
one-look true true false n m turn p q r h k = omega (arith, h, k)
one-look false b c n m turn p q r h k = absurd (true-false (sym p ∙ r refl))
one-look true false c n m turn p q r h k = absurd (true-false (sym p))
one-look true true true n m turn p q r h k = absurd (true-false q)

more-passed : (old new : Lines) (read : List ℕ) → EndsPassed old new read ⊎ IsFilled old new read → Passed old.over new.over (held old ++ read) (held new)
more-passed old new read (inl (none, o, o', passed)) = rw (o, o', none, append-nil (held old)) passed
more-passed old new read (inr (some, u, o, e)) = subst (λ over. Passed old.over over (held old ++ read) (held new)) (sym o) (go old.over e)
  where
    go : (t : Bool) → held new ≡ cond t [] (held old) ++ read → Passed t t (held old ++ read) (held new)
    go true e = (held old, u, ap (λ l. held old ++ l) (sym e))
    go false e = sym e

module _ {was now then : Option (List ℕ)} {old new next : Lines} {turn : ℕ} where
  pub going-more : Going was now old new turn → Looks now then new next More → length next.buffer.now ≡ length new.buffer.now → next.buffer.ghost_name ≡ new.buffer.ghost_name → Going was then old next (turn + 1)
  going-more p (more, consumed, found) room same =
      record {
        read = p.read ++ more;
        consumed = Consumes-trans was now then p.read more p.consumed consumed;
        at_once = λ behind passed h.
            let none = p.at_once behind passed h in
            let left : Passed old.over new.over (held old) (held new) = subst (λ l. Passed old.over new.over l (held new)) (ap (λ l. held old ++ l) none ∙ append-nil (held old)) p.passed in
            ap (λ l. l ++ more) none ∙ unread found behind (passed-behind _ _ _ _ _ left passed) h;
        passed = passed-then old.over new.over next.over (held old) p.read (held new) more (held next) p.passed (more-passed new next more found);
        turns = looks found;
        room = room ∙ p.room;
        same_reference = same ∙ p.same_reference;
      }
    where
      unread : EndsPassed new next more ⊎ IsFilled new next more → (behind : List ℕ) → Passed new.over false (held new) behind → Contains behind 10 → more ≡ []
      unread (inl (none, _, _, _)) behind passed h = none
      unread (inr (some, u, _, _)) behind passed h = absurd (behind-unbroken new.over (held new) behind u passed h)

      looks : EndsPassed new next more ⊎ IsFilled new next more → turn + 1 ≤ length (p.read ++ more) + unread_looks old.over next.over
      looks (inl (none, o, o', _)) = one-look old.over new.over next.over (length p.read) (length (p.read ++ more)) turn o o' (λ q. (passed-nothing old.over new.over _ _ q p.passed).0) p.turns (omega (arith, length-append p.read more))
      looks (inr (some, u, o, _)) =
          let ended : unread_looks old.over next.over ≡ unread_looks old.over new.over = ap (unread_looks old.over) o in
          omega (arith, p.turns, some, ended, length-append p.read more)

-- what a look finds is answered
module _ {was now : Option (List ℕ)} {old new : Lines} where
  pub look-gives : (step : Step) → step ≢ More → Looks was now old new step → length new.buffer.now ≡ length old.buffer.now → new.buffer.ghost_name ≡ old.buffer.ghost_name → (found : Found) → Shows new step found → Gives was now old new found
  look-gives (LineAt from to) _ (c, o, o', h, k, ends) room same (Line line) e =
      let size : length (slice_range new.buffer.now from to) ≡ to - from = length-take-le (to - from) (drop from new.buffer.now) (omega (arith, length-drop from new.buffer.now)) in
      record {
        read = [];
        over = false;
        rest = held old;
        consumed = c;
        at_once = λ _ _ _. refl;
        passed = subst (λ t. Passed t false (held old ++ []) (held old)) (sym o) (append-nil (held old));
        told = (refl, o', omega (arith, ap length e, size, k, room), subst (λ l. Ends (held old) l (held new)) (sym e) ends);
        room = room;
        same_reference = same;
      }
  look-gives LongAt _ (c, o, o', u, l, none) room same Long e =
      record {
        read = [];
        over = false;
        rest = held old;
        consumed = c;
        at_once = λ _ _ _. refl;
        passed = subst (λ t. Passed t false (held old ++ []) (held old)) (sym o) (append-nil (held old));
        told = (refl, o', u, l, none);
        room = room;
        same_reference = same;
      }
  look-gives EndAt _ (c, o, passed, none, some) room same End e =
      record {
        read = [];
        over = old.over;
        rest = [];
        consumed = c;
        at_once = λ _ _ _. refl;
        passed = subst (λ l. Passed old.over old.over l []) (sym (append-nil (held old))) passed;
        told = (o, refl, none, some);
        room = room;
        same_reference = same;
      }
  look-gives (LineAt from to) _ looks room same Long e = absurd e
  look-gives (LineAt from to) _ looks room same End e = absurd e
  look-gives LongAt _ looks room same (Line line) e = absurd e
  look-gives LongAt _ looks room same End e = absurd e
  look-gives EndAt _ looks room same (Line line) e = absurd e
  look-gives EndAt _ looks room same Long e = absurd e
  look-gives More last looks room same found e = absurd (last refl)

-- an answer behind what was read before
module _ {was now then : Option (List ℕ)} {old new next : Lines} {turn : ℕ} where
  pub going-gives : (found : Found) → Going was now old new turn → Gives now then new next found → Gives was then old next found
  going-gives found p q =
      record {
        read = p.read ++ q.read;
        over = q.over;
        rest = q.rest;
        consumed = Consumes-trans was now then p.read q.read p.consumed q.consumed;
        at_once = λ behind passed h.
            let none = p.at_once behind passed h in
            let left : Passed old.over new.over (held old) (held new) = subst (λ l. Passed old.over new.over l (held new)) (ap (λ l. held old ++ l) none ∙ append-nil (held old)) p.passed in
            ap (λ l. l ++ q.read) none ∙ q.at_once behind (passed-behind _ _ _ _ _ left passed) h;
        passed = passed-then old.over new.over q.over (held old) p.read (held new) q.read q.rest p.passed q.passed;
        told = tells found q.told;
        room = q.room ∙ p.room;
        same_reference = q.same_reference ∙ p.same_reference;
      }
    where
      tells : (found : Found) → Tells new q.over q.rest next found → Tells old q.over q.rest next found
      tells (Line line) (o, o', short, ends) = (o, o', omega (arith, short, p.room), ends)
      tells Long (o, o', u, l, none) = (o, o', u, l ∙ p.room, none)
      tells End (o, e, none, some) = (o, e, none, λ z. omega (arith, some z, p.room))

pub is-line : (was now : Option (List ℕ)) (old new : Lines) (found : Found) → Gives was now old new found → IsLine (length old.buffer.now) found
is-line was now old new (Line line) gives = go gives.told
  where
    go : Tells old gives.over gives.rest new (Line line) → IsLine (length old.buffer.now) (Line line)
    go (o, o', short, (u, rest)) = (u, short)
is-line was now old new Long gives = tt
is-line was now old new End gives = tt

pub within : (was now : Option (List ℕ)) (old new : Lines) (step : Step) → step ≢ More → Looks was now old new step → IsWithin new step
within was now old new (LineAt from to) _ (c, o, o', h, k, ends) = (h, omega (arith, k))
within was now old new LongAt _ looks = tt
within was now old new EndAt _ looks = tt
within was now old new More last looks = absurd (last refl)

pub advances : (was now : Option (List ℕ)) (old new : Lines) (step : Step) → step ≢ More → IsWithin new step → ((found : Found) → Shows new step found → Gives was now old new found) → Advances was now old new step
advances was now old new (LineAt from to) _ within gives = (within, gives)
advances was now old new LongAt _ within gives = (within, gives)
advances was now old new EndAt _ within gives = (within, gives)
advances was now old new More last within gives = absurd (last refl)

-- ---- a look with nothing more to read

empty-read : (read : List ℕ) → Consumes (Some []) (Some []) read → read ≡ []
empty-read read e = sym (append-nil read) ∙ sym e

-- what it finds, it finds at whatever is left of an input
pub found-unread : (old new : Lines) (step : Step) → step ≢ More → Looks (Some []) (Some []) old new step → (input : Option (List ℕ)) → Looks input input old new step
found-unread old new (LineAt from to) _ (c, o, o', h, k, ends) input = (Consumes-nil input, o, o', h, k, ends)
found-unread old new LongAt _ (c, o, o', u, l, none) input = (Consumes-nil input, o, o', u, l, none)
found-unread old new EndAt _ (c, o, passed, none, some) input = (Consumes-nil input, o, passed, none, some)
found-unread old new More last looks input = absurd (last refl)

-- more is wanted where a line too long ends alone
pub more-unread : (old new : Lines) → Looks (Some []) (Some []) old new More → (new.over ≡ false) × ((input : Option (List ℕ)) → Looks input input old new More)
more-unread old new (read, c, inl (none, o, o', passed)) = (o', λ input. ([], Consumes-nil input, inl (refl, o, o', passed)))
more-unread old new (read, c, inr (some, _, _, _)) = absurd (omega (arith, some, ap length (empty-read read c)))

pub never-more : (old new : Lines) (step : Step) → old.over ≡ false → Looks (Some []) (Some []) old new step → step ≢ More
never-more old new (LineAt from to) o looks = λ e. cc
never-more old new LongAt o looks = λ e. cc
never-more old new EndAt o looks = λ e. cc
never-more old new More o (read, c, inl (none, o', _, _)) = absurd (true-false (sym o' ∙ o))
never-more old new More o (read, c, inr (some, _, _, _)) = absurd (omega (arith, some, ap length (empty-read read c)))
