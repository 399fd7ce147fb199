-- What a task's outputs fill: a name's row, a type and a beginning value each, behind those that are there.
use Rattle.std.specs.Prelude.{ℕ, ◌+◌, ◌*◌, ◌≤◌, ◌<◌, ◌≡◌, true, leb}
use Rattle.std.proofs.Common.{arith, sym, ◌∙◌, leb-true}
use Rattle.std.proofs.Math.Path.{ap, subst}
use mathlib.Core.List.{List, [], ◌∷◌, ◌++◌, map, append-nil}
use Rattle.std.proofs.Math.ListN.{length, set, length-map, length-append}
use Rattle.codec.specs.Codecs.{Codec}
use Rattle.codec.proofs.Codecs.{and_right}
use Rattle.codec.proofs.Sequences.{dep-ok}
use Rattle.codec.proofs.Views.{shape-ok, check-ok}
use Rattle.codec.specs.Lists.{list, many_ok}
use Rattle.codec.proofs.Lists.{list-ok}
use Rattle.model.specs.Modules.{Output, Task}
use Rattle.file.specs.Parts.{type}
use Rattle.file.specs.Records.{output, port_count, Used, task}
use Rattle.layout.specs.Rows.{padded, name_cells}
use Rattle.layout.specs.Filling.{stored, fill, Rowed, rowed-more, filled}
use Rattle.declarations.specs.Stores.{Ported, store_output}
use Rattle.reading.specs.Rowing.{name-short, map_more}
use Rattle.reading.specs.PortRows.{padded-map-more}

-- ---- what a task that can stand in a file has

pub record TaskFits (u : Used) (t : Task) : Type 0 where
  pub named : length t.name ≤ 32
  pub computes : length t.function ≤ 32
  pub inputs : u.inputs + length t.inputs ≤ 128
  pub outputs : u.outputs + length t.outputs ≤ 128
  pub fine : many_ok output t.outputs ≡ true

shared : {A : Type 0} (c : Codec A) (used : ℕ) (xs : List A) → (list (port_count used) c).ok xs ≡ true → (used + length xs ≤ 128) × (many_ok c xs ≡ true)
unfolding port_count
shared c used xs h =
    let (n, m) = list-ok _ c xs h in
    (leb-true _ _ (and_right (leb (length xs) 8) _ (check-ok _ _ _ _ n).0), m)

pub task-fits : (u : Used) (t : Task) → (task u).ok t ≡ true → TaskFits u t
unfolding task
task-fits u t h =
    let (n, r) = dep-ok _ _ _ t.name (t.function, (t.inputs, t.outputs)) (shape-ok _ _ _ t h) in
    let (f, s) = dep-ok _ _ _ t.function (t.inputs, t.outputs) r in
    let (i, o) = dep-ok _ _ _ t.inputs t.outputs s in
    let (p, q) = shared output u.outputs t.outputs o in
    record { named = name-short t.name n; computes = name-short t.function f; inputs = (shared type u.inputs t.inputs i).0; outputs = p; fine = q }

-- ---- outputs

output-named : (o : Output) → output.ok o ≡ true → length o.name ≤ 32
unfolding output
output-named o h = name-short o.name (dep-ok _ _ _ o.name (o.type, o.start) (shape-ok _ _ _ o h)).0

pub record OutputsIn (titles : List (List ℕ)) (front begins : List ℕ) (done : List Output) (l : Ported) : Type 0 where
  pub names : Rowed 33 4224 name_cells (titles ++ map (λ o. o.name) done) l.names
  pub types : l.types ≡ padded 320 (front ++ map (λ o. o.type) done)
  pub starts : l.starts ≡ padded 320 (begins ++ map (λ o. o.start) done)

module _ (row port : ℕ) (titles : List (List ℕ)) (types starts : List ℕ) (titled : length titles ≡ row) (typed : length types ≡ port) (begun : length starts ≡ port) (room : ℕ)
    (rowed : row + room ≤ 128) (ported : port + room ≤ 320) where
  outputs-more : (done : List Output) (o : Output) (l : Ported) → OutputsIn titles types starts done l → output.ok o ≡ true → length done < room
      → OutputsIn titles types starts (done ++ (o ∷ [])) (store_output row port (length done) o l)
  unfolding store_output
  outputs-more done o l i h g =
      let n = length-map {B = List ℕ} done (λ x. x.name) in
      let m = length-append titles (map (λ x. x.name) done) in
      let short = output-named o h in
      record {
        names =
            subst (λ (z : List (List ℕ)). Rowed 33 4224 name_cells z (stored l.names ((row + length done) * 33) (name_cells o.name))) (map_more (λ (x : Output). x.name) titles done o)
            (rowed-more 33 4224 name_cells ((row + length done) * 33) o.name (omega arith) (omega arith) (omega arith) i.names);
        types =
            ap (λ (z : List ℕ). set z (port + length done) o.type) i.types
            ∙ padded-map-more (λ (x : Output). x.type) 320 (port + length done) types done o (omega arith) (omega arith);
        starts =
            ap (λ (z : List ℕ). set z (port + length done) o.start) i.starts
            ∙ padded-map-more (λ (x : Output). x.start) 320 (port + length done) starts done o (omega arith) (omega arith);
      }

  pub outputs-filled : (xs : List Output) (l : Ported) → many_ok output xs ≡ true → length xs ≤ room → Rowed 33 4224 name_cells titles l.names → l.types ≡ padded 320 types
      → l.starts ≡ padded 320 starts → OutputsIn titles types starts xs (fill (store_output row port) 0 xs l)
  outputs-filled xs l h g n t s =
      (filled {U = Unit {0}} (λ u. output) (λ u a. u) (store_output row port) (λ u done l. OutputsIn titles types starts done l) room (λ u. outputs-more) tt [] xs l
      (record { names = subst (λ (z : List (List ℕ)). Rowed 33 4224 name_cells z l.names) (sym (append-nil titles)) n; types = t ∙ ap (padded 320) (sym (append-nil types)); starts = s ∙ ap (padded 320) (sym (append-nil starts)) })
      h (omega arith)).holds
