-- What a text with everything once means, written out; and what signs mean.
use Rattle.std.specs.Prelude.{ℕ, ◌≡◌, refl, List, [], ◌∷◌, map, true, false, T}
use Rattle.std.proofs.Math.Option.{none, some}
use Rattle.std.specs.Int.{w32}
use Rattle.std.proofs.Common.{to_z}
use Rattle.model.specs.Bytes.{bytes}
use Rattle.model.specs.declared.Value.TheVariants.{Int, Flag}
use Rattle.model.specs.declared.Operand.TheVariants.{Port, Fixed}
use Rattle.model.specs.declared.Function.TheVariants.{IsFalse, Less, Equal}
use Rattle.model.specs.Values.{int, boolean, no_operand}
use Rattle.model.specs.Modules.{Module}
use Rattle.refusals.specs.Reading.{read_items, answer_by, module_by}
use Rattle.refusals.specs.Cases.{passes_by}

pub dock_text : List ℕ
dock_text =
    bytes
    "module Dock { const limit = 10; low = -2; on = true; sensor int bikes uses getBikes; boolean door uses getDoor; actuator int sign := limit uses setSign; boolean lamp := on uses setLamp; task count { input int n; boolean d; output int o := low; boolean full := false; uses countBikes; } task clear { uses clearAll; } start mode day [period=10ms] { task [freq=2] if less(bikes, limit) then count(bikes, door); [freq=4] clear(); actuator [freq=5] sign := count.o; [freq=1] if isFalse(door) then lamp := count.full; mode [freq=2] if equal(count.full, on) then night; [freq=1] day; } mode night [period=3us] { } }"

pub dock : Module
dock =
    record {
      name = bytes "Dock";
      sensors =
          record { name = bytes "bikes"; type = int; getter = bytes "getBikes" }
          ∷ record { name = bytes "door"; type = boolean; getter = bytes "getDoor" }
          ∷ [];
      actuators =
          record { name = bytes "sign"; type = int; start = 10; setter = bytes "setSign" }
          ∷ record { name = bytes "lamp"; type = boolean; start = 1; setter = bytes "setLamp" }
          ∷ [];
      tasks =
          record {
            name = bytes "count";
            function = bytes "countBikes";
            inputs = int ∷ boolean ∷ [];
            outputs =
                record { name = bytes "o"; type = int; start = 4294967294 }
                ∷ record { name = bytes "full"; type = boolean; start = 0 }
                ∷ [];
          }
          ∷ record { name = bytes "clear"; function = bytes "clearAll"; inputs = []; outputs = [] }
          ∷ [];
      guards =
          record { function = Less; first = Port 0; second = Fixed (Int (to_z w32 10)) }
          ∷ record { function = IsFalse; first = Port 1; second = no_operand }
          ∷ record { function = Equal; first = Port 7; second = Fixed (Flag true) }
          ∷ [];
      modes =
          record {
            name = bytes "day";
            start = true;
            period = 10000;
            calls =
                record { frequency = 2; guard = some 0; what = record { task = 0; sources = 0 ∷ 1 ∷ [] } }
                ∷ record { frequency = 4; guard = none; what = record { task = 1; sources = [] } }
                ∷ [];
            updates =
                record { frequency = 5; guard = none; what = record { source = 6; target = 2 } }
                ∷ record { frequency = 1; guard = some 1; what = record { source = 7; target = 3 } }
                ∷ [];
            switches =
                record { frequency = 2; guard = some 2; what = 1 }
                ∷ record { frequency = 1; guard = none; what = 0 }
                ∷ [];
          }
          ∷ record { name = bytes "night"; start = false; period = 3; calls = []; updates = []; switches = [] }
          ∷ [];
    }

pub dock-passes : T (passes_by dock_text (read_items dock_text))
unfolding dock_text read_items answer_by Rattle.text.specs.Items.refused_in
dock-passes = tt

pub dock-means : module_by dock_text (read_items dock_text) ≡ dock
unfolding dock_text dock read_items module_by
dock-means = refl

-- -0 is 0, the least int is 2 ^ 31, and the last of two constants is not the first
pub signs : List ℕ
signs = bytes "module S { const a = 1; b = -2147483648; actuator int p := -0 uses f; int q := b uses f; start mode m [period=1us] { } }"

pub signs-mean : map (λ actuator. actuator.start) (module_by signs (read_items signs)).actuators ≡ 0 ∷ 2147483648 ∷ []
unfolding signs read_items module_by
signs-mean = refl
