-- The rows' activities in the blocks of their mode, and its next instant.
use Prim.Native.Nat.{ℕ, zero, suc, ◌+◌}
use mathlib.Core.Path.{◌≡◌, refl, ◌∙◌, ap, subst}
use mathlib.Core.List.{List, [], ◌∷◌, map, map-map, map-id}
use lib.ListN.{length, length-map}
use Rattle.model.specs.Modules.{Act}
use Rattle.model.specs.Instructions.{nop, future, return, call, switch}
use Rattle.file.specs.Code.{no_argument}
use Rattle.timing.specs.Slots.{span_ends, span_begins, closing, opening, soonest}
use Rattle.timing.specs.Rules.{next_instant}
use Rattle.timing.specs.Code.{driven_from, Piece, fixed, pieces, terminating, updating, switching, releasing, await, front, back, mode_driver_count}
use Rattle.emit.specs.Rows.{acts_by, map_act, call_of, update_of, mode_of}
use Rattle.emit.specs.Alike.{Alike, alike-maps, alike_from, alike-driven, alike-numbered, alike-soonest, alike-pieces, unguarded, ending, terminations}
use Rattle.emit.specs.Emitted.{Out, Stored, Emitted}
use Rattle.emit.specs.Lines.{body_in, seen_as, lines}
use Rattle.emit.specs.Frames.{mode_in}
use Rattle.emit.specs.declared.frames.Frame.{Frame}
use Rattle.emit.specs.declared.activities.Kind.TheVariants.{Termination, Update, Switch, Release}
use Rattle.emit.proofs.Emission.{renamed, follows, single}

-- ---- the activities of a kind

module _ (period t driver : ℕ) (acts : List (Act ℕ)) where
  terminations-are : (pc : ℕ) → lines Termination period t driver acts pc ≡ terminating (closing period t (map (map_act call_of) acts))
  unfolding lines
  terminations-are pc =
      let alike : Alike (λ w c. w ≡ c.task) (map (seen_as Termination) acts) (map (λ a. unguarded (map_act call_of a)) acts) =
      alike-maps (seen_as Termination) (λ a. unguarded (map_act call_of a)) (λ a. (refl, refl, refl)) acts in
      let twice : Alike (λ w c. w ≡ c.task) (map (seen_as Termination) acts) (map unguarded (map (map_act call_of) acts)) = rw map-map alike in
      ap (λ (p : Piece). p pc) (alike-pieces period (body_in Termination) ending (λ x c e. ap (λ (k : ℕ). call k ∷ []) e) (span_ends t) (alike-numbered driver twice))
      ∙ terminations period (span_ends t) (map (map_act call_of) acts) pc

  updates-are : lines Update period t driver acts ≡ pieces updating (closing period t (driven_from driver (map (map_act update_of) acts)))
  unfolding lines
  updates-are =
      alike-pieces period (body_in Update) updating (λ x u e. ap (λ (k : ℕ). call k ∷ []) e.0) (span_ends t)
      (alike-driven driver (alike-maps {R = λ w u. Unit {0}} (seen_as Update) (map_act update_of) (λ a. (refl, refl, tt)) acts))

  switches-are : lines Switch period t driver acts ≡ pieces switching (closing period t acts)
  unfolding lines
  switches-are =
      let alike : Alike (λ w v. w ≡ v) (map (seen_as Switch) acts) (map (λ a. a) acts) = alike-maps (seen_as Switch) (λ a. a) (λ a. (refl, refl, refl)) acts in
      alike-pieces period (body_in Switch) switching (λ x v e. ap (λ (k : ℕ). switch k ∷ []) e) (span_ends t)
      (alike-numbered driver (subst (λ (l : List (Act ℕ)). Alike (λ w v. w ≡ v) (map (seen_as Switch) acts) l) (map-id acts) alike))

  releases-are : lines Release period t driver acts ≡ pieces releasing (opening period t (driven_from driver (map (map_act call_of) acts)))
  unfolding lines
  releases-are =
      alike-pieces period (body_in Release) releasing (λ x c e. rw (e.0, e.1) refl) (span_begins t)
      (alike-driven driver (alike-maps {R = λ w c. w ≡ c.task} (seen_as Release) (map_act call_of) (λ a. (refl, refl, refl)) acts))

-- ---- the mode of some rows

length-acts : (acts : List ℕ) (row count : ℕ) → length (acts_by acts row count) ≡ count
unfolding acts_by
length-acts acts row zero = refl
length-acts acts row (suc count) = ap suc (length-acts acts (row + 1) count)

module _ (acts : List ℕ) (m : Frame) where
  abbrev calls : List (Act ℕ)
  calls = acts_by acts m.row m.calls

  abbrev updates : List (Act ℕ)
  updates = acts_by acts (m.row + m.calls) m.updates

  abbrev switches : List (Act ℕ)
  switches = acts_by acts (m.row + m.calls + m.updates) m.switches

  pub period-is : (mode_in acts m).period ≡ m.period
  unfolding mode_of
  period-is = refl

  count-updates : length (mode_in acts m).updates ≡ m.updates
  unfolding mode_of
  count-updates = length-map updates (map_act update_of) ∙ length-acts acts (m.row + m.calls) m.updates

  pub drivers-are : mode_driver_count (mode_in acts m) ≡ m.updates + m.calls
  unfolding mode_of
  drivers-are = rw (count-updates, length-map calls (map_act call_of), length-acts acts m.row m.calls) refl

  module _ (t : ℕ) where
    pub instant-is : (a b c : ℕ) → a ≡ soonest m.period t calls m.period → b ≡ soonest m.period t updates a → c ≡ soonest m.period t switches b → c ≡ next_instant (mode_in acts m) t
    unfolding next_instant mode_of
    instant-is a b c ea eb ec =
        let c1 = alike-soonest {R = λ x y. Unit {0}} m.period t (alike_from call_of (λ w. tt) calls) m.period in
        let c2 = alike-soonest {R = λ x y. Unit {0}} m.period t (alike_from update_of (λ w. tt) updates) a in
        ec ∙ rw (c1, ← ea, c2, ← eb) refl

    pub fronted : {s z1 z2 z3 z4 z5 : Out} {k1 k2 k3 : ℕ} → Emitted s z1 (lines Termination m.period t 0 calls) k1 → Stored z1 z2 0 1 no_argument
        → Emitted z2 z3 (lines Update m.period t m.driver updates) k2 → Stored z3 z4 0 2 no_argument
        → Emitted z4 z5 (lines Switch m.period t 0 switches) k3 → Emitted s z5 (front m.driver (mode_in acts m) t) (k1 + (1 + (k2 + (1 + k3))))
    unfolding front mode_of
    fronted {s} {z1} {z2} {z3} {z4} {z5} e1 e2 e3 e4 e5 =
        let P = fixed (terminating (closing m.period t (map (map_act call_of) calls))) in
        let Q = pieces updating (closing m.period t (driven_from m.driver (map (map_act update_of) updates))) in
        let R = pieces switching (closing m.period t switches) in
        follows {P = P} (renamed P (terminations-are m.period t 0 calls s.pc) e1)
        (follows {P = fixed (nop 1 ∷ [])} (single (nop 1) e2)
        (follows {P = Q} (renamed Q (ap (λ (p : Piece). p z2.pc) (updates-are m.period t m.driver updates)) e3)
        (follows {P = fixed (nop 2 ∷ [])} (single (nop 2) e4)
        (renamed R (ap (λ (p : Piece). p z4.pc) (switches-are m.period t 0 switches)) e5))))

    pub backed : {s z1 z2 z3 : Out} {k1 : ℕ} (distance : ℕ) → Emitted s z1 (lines Release m.period t (m.driver + m.updates) calls) k1 → Stored z1 z2 1 (z1.pc + 2) distance
        → Stored z2 z3 6 no_argument no_argument → Emitted s z3 (back m.driver (mode_in acts m) t distance) (k1 + 2)
    unfolding back mode_of
    backed {s} {z1} {z2} {z3} distance e1 e2 e3 =
        let P = pieces releasing (opening m.period t (driven_from (m.driver + m.updates) (map (map_act call_of) calls))) in
        rw count-updates
        (follows {P = P} {Q = await distance} (renamed P (ap (λ (p : Piece). p s.pc) (releases-are m.period t (m.driver + m.updates) calls)) e1)
        (renamed (await distance) refl (follows (single (future (z1.pc + 2) distance) e2) (single return e3))))
