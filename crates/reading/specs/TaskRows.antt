-- The arrays that tasks fill, behind the ports of sensors and actuators.
use Prim.Native.Nat.{ℕ, ◌+◌, ◌*◌, ◌≤◌, ◌<◌}
use native.Mathlib.Omega.{arith}
use Rattle.std.specs.Prelude.{◌≡◌, refl, true}
use Rattle.std.proofs.Math.Path.{sym, ap, subst}
use Rattle.std.proofs.Common.{◌∙◌}
use mathlib.Core.List.{List, [], ◌∷◌, ◌++◌, map, append_assoc, append-nil}
use Rattle.std.proofs.Math.Dec.{lit≤}
use Rattle.std.proofs.Math.ListN.{length, length-map, length-append}
use borrow.Author.Tests.{leb-true}
use Rattle.codec.proofs.Views.{check-ok}
use Rattle.codec.proofs.Lists.{running-ok}
use Rattle.model.specs.Modules.{Task, each, task_ports, task_types, task_starts}
use Rattle.file.specs.Parts.{count}
use Rattle.file.specs.Records.{Used, none_used, used_with, task, tasks}
use Rattle.file.specs.References.{task_roles}
use Rattle.layout.specs.Rows.{zeros, padded, rows, name_cells, names}
use Rattle.layout.specs.Plain.{task_names, output_names, task_cells, task_rows}
use Rattle.layout.specs.Filling.{stored, fill, padded-more, padded-zeros, each_both, Rowed, rowed-none, rowed-more, Some, filled}
use Rattle.layout.specs.Cells.{length-task-rows}
use Rattle.declarations.specs.Stores.{TaskState, store_task}
use Rattle.declarations.specs.StoreLaws.{fill-inputs, map_same}
use Rattle.reading.specs.Rowing.{both-more}
use Rattle.reading.specs.OutputRows.{task-fits, outputs-filled}

-- ---- ports of tasks one behind the other

-- the number of ports of some tasks
abbrev pub ports_in : List Task → ℕ
ports_in [] = 0
ports_in (t ∷ ts) = task_ports t + ports_in ts

ports-more : (done : List Task) (t : Task) → ports_in (done ++ (t ∷ [])) ≡ ports_in done + task_ports t
ports-more [] t = omega arith
ports-more (x ∷ done) t = omega (arith, ports-more done t)

each-ports : (f : Task → List ℕ) → ((t : Task) → length (f t) ≡ task_ports t) → (ts : List Task) → length (each f ts) ≡ ports_in ts
each-ports f h [] = refl
each-ports f h (t ∷ ts) = omega (arith, length-append (f t) (each f ts), h t, each-ports f h ts)

each_more : {A B : Type 0} (f : A → List B) (front : List B) (done : List A) (x : A) → (front ++ each f done) ++ f x ≡ front ++ each f (done ++ (x ∷ []))
each_more f front done x =
    append_assoc front (each f done) (f x) ∙ ap (λ l. front ++ (each f done ++ l)) (sym (append-nil (f x))) ∙ ap (λ l. front ++ l) (sym (each_both f done (x ∷ [])))

each-parts : {A B : Type 0} (f : A → List B) (front : List B) (done : List A) (x : A) (a b : List B) → f x ≡ a ++ b → ((front ++ each f done) ++ a) ++ b ≡ front ++ each f (done ++ (x ∷ []))
each-parts f front done x a b e = append_assoc (front ++ each f done) a b ∙ ap (λ l. (front ++ each f done) ++ l) (sym e) ∙ each_more f front done x

rows_more : (at : ℕ) (done : List Task) (t : Task) → task_rows at done ++ (task_cells (at + ports_in done) t ∷ []) ≡ task_rows at (done ++ (t ∷ []))
unfolding task_rows
rows_more at [] t = ap (λ (n : ℕ). task_cells n t ∷ []) (omega arith)
rows_more at (x ∷ done) t =
    let e : at + (task_ports x + ports_in done) ≡ at + task_ports x + ports_in done = omega arith in
    ap (λ (l : List (List ℕ)). task_cells at x ∷ l) (ap (λ (n : ℕ). task_rows (at + task_ports x) done ++ (task_cells n t ∷ [])) e ∙ rows_more (at + task_ports x) done t)

types-length : (t : Task) → length (task_types t) ≡ task_ports t
types-length t = omega (arith, length-append t.inputs (map (λ o. o.type) t.outputs), length-map {B = ℕ} t.outputs (λ o. o.type))

starts-length : (t : Task) → length (task_starts t) ≡ task_ports t
starts-length t =
    omega
    (arith, length-append {A = ℕ} (map (λ i. 0) t.inputs) (map (λ o. o.start) t.outputs), length-map {B = ℕ} t.inputs (λ i. 0), length-map {B = ℕ} t.outputs (λ o. o.start))

roles-length : (t : Task) → length (task_roles t) ≡ task_ports t
roles-length t =
    omega (arith, length-append {A = ℕ} (map (λ i. 3) t.inputs) (map (λ o. 4) t.outputs), length-map {B = ℕ} t.inputs (λ i. 3), length-map {B = ℕ} t.outputs (λ o. 4))

-- what begins as 0
pub nothing_yet : {A : Type 0} (xs : List A) → map (λ x. 0) xs ≡ zeros (length xs)
unfolding zeros
nothing_yet xs = map_same 0 xs

-- ---- what stands after some tasks

pub record TasksIn (from : ℕ) (front begins kinds : List ℕ) (u : Used) (done : List Task) (l : TaskState) : Type 0 where
  pub inputs : l.inputs ≡ u.inputs
  pub outputs : l.outputs ≡ u.outputs
  pub few-inputs : u.inputs ≤ 128
  pub few-outputs : u.outputs ≤ 128
  pub counted : l.inputs + l.outputs ≡ ports_in done
  pub titled : length (each output_names done) ≡ l.outputs
  pub names : Rowed 33 2112 name_cells (each task_names done) l.names
  pub titles : Rowed 33 4224 name_cells (each output_names done) l.ports.names
  pub types : l.ports.types ≡ padded 320 (front ++ each task_types done)
  pub starts : l.ports.starts ≡ padded 320 (begins ++ each task_starts done)
  pub roles : l.roles ≡ padded 320 (kinds ++ each task_roles done)
  pub rows : Rowed 4 128 (λ cells. cells) (task_rows from done) l.rows

module _ (from : ℕ) (types starts roles : List ℕ) (typed : length types ≡ from) (begun : length starts ≡ from) (known : length roles ≡ from) (near : from ≤ 64) where
  tasks-more : (u : Used) (done : List Task) (t : Task) (l : TaskState) → TasksIn from types starts roles u done l → (task u).ok t ≡ true → length done < 32
      → TasksIn from types starts roles (used_with u t) (done ++ (t ∷ [])) (store_task from (length done) t l)
  unfolding store_task
  tasks-more u done t l i h g =
      let fits = task-fits u t h in
      let port = from + l.inputs + l.outputs in
      let c = i.counted in
      let ins = i.inputs in
      let outs = i.outputs in
      let fin = fits.inputs in
      let fout = fits.outputs in
      let at : port ≡ from + ports_in done = omega arith in
      let a = types ++ each task_types done in
      let b = starts ++ each task_starts done in
      let d = roles ++ each task_roles done in
      let n : length a ≡ port = omega (arith, length-append types (each task_types done), each-ports task_types types-length done) in
      let m : length b ≡ port = omega (arith, length-append starts (each task_starts done), each-ports task_starts starts-length done) in
      let k : length d ≡ port = omega (arith, length-append roles (each task_roles done), each-ports task_roles roles-length done) in
      let zero : List ℕ = map (λ i. 0) t.inputs in
      let z : length zero ≡ length t.inputs = length-map {B = ℕ} t.inputs (λ i. 0) in
      let o =
      outputs-filled l.outputs (port + length t.inputs) (each output_names done) (a ++ t.inputs) (b ++ zero) i.titled (omega (arith, length-append a t.inputs))
      (omega (arith, length-append b zero)) (length t.outputs) (omega arith) (omega arith) t.outputs _ fits.fine (omega arith) i.titles
      (fill-inputs port t.inputs l.ports.types ∙ ap (λ (x : List ℕ). stored x port t.inputs) i.types ∙ padded-more 320 port a t.inputs (sym n) (omega arith))
      (i.starts ∙ sym (ap (λ (x : List ℕ). padded 320 (b ++ x)) (nothing_yet t.inputs) ∙ padded-zeros 320 b (length t.inputs) (omega arith))) in
      let e = each_more output_names [] done t in
      record {
        inputs = ap (λ (x : ℕ). x + length t.inputs) ins;
        outputs = ap (λ (x : ℕ). x + length t.outputs) outs;
        few-inputs = fin;
        few-outputs = fout;
        counted = omega (arith, ports-more done t);
        titled = ap length (sym e) ∙ omega (arith, length-append (each output_names done) (output_names t), length-map {B = List ℕ} t.outputs (λ o. o.name), i.titled);
        names = both-more (λ (x : Task). x.name) (λ x. x.function) 2112 done t l.names fits.named fits.computes (omega arith) i.names;
        titles = subst (λ (x : List (List ℕ)). Rowed 33 4224 name_cells x (store_task from (length done) t l).ports.names) e o.names;
        types = o.types ∙ ap (padded 320) (each-parts task_types types done t t.inputs (map (λ o. o.type) t.outputs) refl);
        starts = o.starts ∙ ap (padded 320) (each-parts task_starts starts done t zero (map (λ o. o.start) t.outputs) refl);
        roles =
            ap (λ (x : List ℕ). stored x port (task_roles t)) i.roles ∙ padded-more 320 port d (task_roles t) (sym k) (omega (arith, roles-length t))
            ∙ ap (padded 320) (each_more task_roles roles done t);
        rows =
            subst (λ (x : List (List ℕ)). Rowed 4 128 (λ cells. cells) x (stored l.rows (length done * 4) (task_cells port t)))
            (ap (λ (x : ℕ). task_rows from done ++ (task_cells x t ∷ [])) at ∙ rows_more from done t)
            (rowed-more 4 128 (λ cells. cells) (length done * 4) (task_cells port t) (omega (arith, length-task-rows from done)) (lit≤ tt) (omega arith) i.rows);
      }

  -- the arrays before the first task
  abbrev pub begun_tasks : TaskState
  begun_tasks =
      record {
        names = zeros 2112;
        ports = record { names = zeros 4224; types = padded 320 types; starts = padded 320 starts };
        roles = padded 320 roles;
        rows = zeros 128;
        inputs = 0;
        outputs = 0;
      }

  pub tasks-filled : (xs : List Task) → tasks.ok xs ≡ true → Some (λ u. TasksIn from types starts roles u xs (fill (store_task from) 0 xs begun_tasks))
  unfolding tasks count task_rows
  tasks-filled xs h =
      let (n, m) = running-ok _ _ _ _ xs h in
      let g : length xs ≤ 32 = leb-true _ _ (check-ok _ _ _ _ n).0 in
      filled task used_with (store_task from) (TasksIn from types starts roles) 32 tasks-more none_used [] xs begun_tasks
      (record {
        inputs = refl;
        outputs = refl;
        few-inputs = lit≤ tt;
        few-outputs = lit≤ tt;
        counted = refl;
        titled = refl;
        names = rowed-none 33 2112 name_cells;
        titles = rowed-none 33 4224 name_cells;
        types = ap (padded 320) (sym (append-nil types));
        starts = ap (padded 320) (sym (append-nil starts));
        roles = ap (padded 320) (sym (append-nil roles));
        rows = rowed-none 4 128 (λ cells. cells);
      }) m (omega arith)
