-- The parts of an item stand in text order: from `lo` on, one behind the other, up to `hi`.
use Rattle.std.specs.Prelude.{ℕ, ◌≤◌, ◌<◌, ◌≡◌, true}
use Rattle.text.specs.declared.Name.{Name}
use Rattle.text.specs.declared.Port.{Port}
use Rattle.text.specs.declared.Literal.{Literal}
use Rattle.text.specs.declared.Literal.TheVariants.{Truth, Number, Named}
use Rattle.text.specs.declared.Item.{Item}
use Rattle.text.specs.declared.Item.TheVariants as I

-- a name lies between two places of the text
pub record NameLaid (lo hi : ℕ) (name : Name) : Type 0 where
  pub low : lo ≤ name.start
  pub some : name.start < name.end
  pub high : name.end ≤ hi

-- a port: its first name, and where it is dotted its second behind it
pub record PortLaid (lo hi : ℕ) (port : Port) : Type 0 where
  pub first : NameLaid lo hi port.first
  pub second : port.dotted ≡ true → NameLaid port.first.end hi port.second

-- a literal lies between two places
abbrev pub LiteralLaid : ℕ → ℕ → Literal → Type 0
LiteralLaid lo hi (Truth at truth) = (lo ≤ at) × (at < hi)
LiteralLaid lo hi (Number at digits minus) = (lo ≤ at) × NameLaid at hi digits
LiteralLaid lo hi (Named name) = NameLaid lo hi name

-- an item's places lie between where it begins and where it ends
abbrev pub Laid : ℕ → ℕ → Item → Type 0
Laid lo hi (I.Module name) = NameLaid lo hi name
Laid lo hi I.Section = lo < hi
Laid lo hi (I.Constant name value) = NameLaid lo hi name × LiteralLaid name.end hi value
Laid lo hi (I.Sensor typ name getter) = NameLaid lo name.start typ × NameLaid lo getter.start name × NameLaid lo hi getter
Laid lo hi (I.Actuator typ name value setter) = NameLaid lo name.start typ × NameLaid lo hi name × LiteralLaid name.end setter.start value × NameLaid lo hi setter
Laid lo hi (I.TaskBegin name) = NameLaid lo hi name
Laid lo hi (I.Input typ name) = NameLaid lo name.start typ × NameLaid lo hi name
Laid lo hi (I.Output typ name value) = NameLaid lo name.start typ × NameLaid lo hi name × LiteralLaid name.end hi value
Laid lo hi (I.TaskEnd name) = NameLaid lo hi name
Laid lo hi (I.ModeBegin start at name digits milli) = (lo ≤ at) × NameLaid at digits.start name × NameLaid lo hi digits
Laid lo hi (I.Activity kind at digits) = (lo ≤ at) × NameLaid at hi digits
Laid lo hi (I.Guard name count) = NameLaid lo hi name
Laid lo hi (I.GuardArg port) = PortLaid lo hi port
Laid lo hi (I.Invoke task count) = NameLaid lo hi task
Laid lo hi (I.Arg port) = PortLaid lo hi port
Laid lo hi (I.Update actuator source) = NameLaid lo hi actuator × PortLaid actuator.end hi source
Laid lo hi (I.Switch name) = NameLaid lo hi name
Laid lo hi I.ModeEnd = lo < hi
Laid lo hi I.ModuleEnd = lo < hi
Laid lo hi I.End = lo ≤ hi
Laid lo hi (I.No number at) = lo ≤ at
