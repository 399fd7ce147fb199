-- Every accepted text can be launched, with all readings that fit, and every list of calls can be made.
use Rattle.std.specs.Prelude.{ℕ, ◌≡◌, true, List, [], ◌∷◌, ◌++◌, length, take}
use Rattle.std.proofs.Common.{arith, sym, ◌∙◌, ap}
use Rattle.std.proofs.Math.Path.{refl}
use Rattle.std.proofs.Math.Option.{some}
use Rattle.model.specs.Clock.{fits}
use Rattle.refusals.specs.Texts.{module_of}
use Rattle.file.specs.Files.{decode}
use Rattle.timing.specs.Calls as R
use Rattle.timing.specs.Calls.{reacted}
use Rattle.timing.specs.Docks.{reply_to}
use Rattle.machine.specs.Asks.{Ask, Answer, ticking}
use Rattle.machine.specs.Starts.{start_on}
use Rattle.reading.specs.declared.Reading.{Reading}
use Rattle.reading.specs.Readings.{reading_of}
use Rattle.ecode.specs.Sound.{sound_in}
use Rattle.emachine.specs.declared.Machine.{Machine}
use Rattle.emachine.specs.declared.Ticked.{Ticked}
use Rattle.emachine.specs.Machines.{board_in, ticked_on}
use Rattle.starting.specs.Starting as S
use Rattle.starting.specs.Starting.{Started}
use Rattle.prescribed.specs.Tables.{table_of}
use Rattle.prescribed.specs.Compiled.{Written}
use Rattle.accepted.specs.Compiled.{compiled-accepted, compiled-sound}
use Rattle.bridge.proofs.Faithful as Fa
use Rattle.demands.specs.Uses.{Compiles, Runs, Midway, Launch, Launched}
use Rattle.demands.specs.Joins as J
use Rattle.demands.specs.Calling.{call-one}
use Rattle.demands.specs.Filing.{reads-back}

module _ (text before : List ℕ) (size : ℕ) (after : List ℕ) (c : Compiles text before (Written size) after) (count : ℕ) (types words : List ℕ) (fit : fits (R.reading_types (module_of text)) types words ≡ true) where
  made : J.Wrote text before size after
  made = J.wrote text before size after c.answers c.buffer

  abbrev reading : Reading
  reading = reading_of (decode (take size after))

  abbrev begun : Ticked
  begun = ticked_on reading.table (start_on (sound_in reading.table) (board_in reading.table) count types words)

  starts : Started reading.table count types words begun
  starts = S.started reading.table count types words begun refl

  reacts : reply_to (ticking begun.answer) ≡ some reacted
  reacts =
      let good = compiled-sound text (length before) made.content made.is in
      let table = ap (λ (r : Reading). r.table) (reads-back text before size after reading c refl) in
      ap (λ (r : Ticked). reply_to (ticking r.answer)) (starts.begun (table_of (module_of text)) good (sym table))
      ∙ Fa.start-reacts (module_of text) (compiled-accepted text (length before) made.content made.is) count types words (record { readable = good; readings = fit })

  pub launched : Launch
  launched =
      record {
        text = text;
        before = before;
        count = count;
        types = types;
        words = words;
        size = size;
        after = after;
        reading = reading;
        begun = begun;
        compiles = c;
        reads = refl;
        starts = starts;
        accepted = λ r. let h = r.0 in let z = J.obeyed-number (ticking begun.answer) reacts in omega arith;
      }

  pub can-launch : (l : Launch) × Launched text count types words l
  unfolding launched
  can-launch = (launched, record { same_text = refl; same_count = refl; same-types = refl; same-words = refl })

pub can-run : (calls : List Ask) (m : Machine) → (answers : List Answer) × ((n : Machine) × Runs m calls answers n)
can-run [] m = ([], (m, refl))
can-run (a ∷ calls) m =
    let o = call-one m a in
    let (answers, (n, r)) = can-run calls o.it.1 in
    (o.it.0 ∷ answers, (n, (o.it.1, (o.meets, r))))

pub midway : (calls later : List Ask) (m : Machine) (answers : List Answer) (n : Machine) → Runs m (calls ++ later) answers n → Midway m calls later answers n
midway [] later m answers n r = record { so_far = []; to-come = answers; machine = m; parts = refl; reached = refl; onward = r }
midway (a ∷ calls) later m [] n r = absurd r
midway (a ∷ calls) later m (x ∷ answers) n (k, (c, r)) =
    let w = midway calls later k answers n r in
    record { so_far = x ∷ w.so_far; to-come = w.to-come; machine = w.machine; parts = ap (λ (l : List Answer). x ∷ l) w.parts; reached = (k, (c, w.reached)); onward = w.onward }
