-- Every definition of a file's parts by one name, for cases that are computed: a proof that says `unfolding opened` computes with them all.
use Rattle.codec.specs.Numbers.{byte_get, byte, be}
use Rattle.codec.specs.Sequences.{dep, dep_put, dep_get, dep_ok}
use Rattle.codec.specs.Views.{view, view_put, view_get, view_ok, check, shape}
use Rattle.codec.specs.Tags.{enum}
use Rattle.codec.specs.Lists.{run, running, many, list}
use Rattle.model.specs.Bytes.{same, place_in}
use Rattle.model.specs.Modules.{port_types}
use Rattle.text.specs.Words.{keywords}
use Rattle.file.specs.Parts.{all_in, count, type, value}
use Rattle.file.specs.Names.{name_bytes, is_keyword, good_name, name}
use Rattle.file.specs.Records.{sensor, sensors, actuator, actuators, output, port_count, task, tasks}
use Rattle.file.specs.Code.{driver_rest, driver, drivers, argument_rest, argument, guard, guards, mode, modes, word, triple, instruction, code}
use Rattle.file.specs.References.{port_roles, takes, good_driver, function_takes, good_guard, good_instruction, good_references}
use Rattle.file.specs.Files.{table, version_of, known_version, table_by, body, encode, decode, sound}

-- the codecs opened, for computed cases
unfoldable pub opened : Unit {0}
unfolding byte_get byte be dep dep_put dep_get dep_ok view view_put view_get view_ok check shape enum run running many list same place_in port_types all_in count type value keywords name_bytes is_keyword good_name name sensor sensors actuator actuators output port_count task tasks driver_rest driver drivers argument_rest argument guard guards mode modes word triple instruction code port_roles takes good_driver function_takes good_guard good_instruction good_references table version_of known_version table_by body encode decode sound
opened = tt
