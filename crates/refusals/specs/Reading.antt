-- The definitions that a case computes with, each group under one name.
use Rattle.std.specs.Prelude.{ℕ, List}
use Rattle.model.specs.Bytes.{same, place_in}
use Rattle.model.specs.Modules.{Module}
use Rattle.text.specs.Spaces.{spaces}
use Rattle.text.specs.Words.{munch, keywords}
use Rattle.text.specs.Tokens.{key_tokens, sign_token, token_from, token_at}
use Rattle.text.specs.Expect.{refusal, want, want_any, want_word, closed}
use Rattle.text.specs.Productions.{truth_at, minus_at, number_at, named_at, literal_at, port_at, module_at, constant_at, sensor_at, actuator_at, task_at, input_at, output_at, task_end_at, mode_of, mode_at, activity_at, commas_in, count_at, guard_at, guard_arg_at, invoke_at, arg_at, update_at, switch_at}
use Rattle.text.specs.Items.{refused_at, section_of, portion_of, part_of, declaration_at, section_at, module_body_at, task_port_at, portion_at, task_body_at, head_at, part_at, mode_body_at, target_at, act_at, finish_at, item_at, items_in, items_of}
use Rattle.text.specs.declared.Item.{Item}
use Rattle.text.specs.Words.{value_from}
use Rattle.refusals.specs.Verdicts.{Verdict}
use Rattle.refusals.specs.Checks.{first}
use Rattle.refusals.specs.Names.{find, named, count, types}
use Rattle.refusals.specs.Refusals.{divides_all, among}
use Rattle.refusals.specs.Values.{type_rules, use_rules, value_rules}
use Rattle.refusals.specs.Declarations.{rows_after, new_rules, new_port_rules}
use Rattle.refusals.specs.Ports.{output_of, port_named, argument_named, dotted_rules, place_rules}
use Rattle.refusals.specs.Activities.{start_rules, period_rules, head_rules, guard_rules, invoke_rules, actuator_rules, target_rules, end_rules}
use Rattle.refusals.specs.Draft.{last_sourced}
use Rattle.refusals.specs.Rules.{rules_from, env_after}
use Rattle.refusals.specs.Texts.{rules_by, env_by}

-- the items of a text
unfoldable pub read_items : List ℕ → List Item
unfolding spaces munch keywords same place_in key_tokens sign_token token_from token_at refusal want want_any want_word closed truth_at minus_at number_at named_at literal_at port_at module_at constant_at sensor_at actuator_at task_at input_at output_at task_end_at mode_of mode_at activity_at commas_in count_at guard_at guard_arg_at invoke_at arg_at update_at switch_at refused_at section_of portion_of part_of declaration_at section_at module_body_at task_port_at portion_at task_body_at head_at part_at mode_body_at target_at act_at finish_at item_at items_in
read_items s = items_of s

-- their answer, and their module
unfoldable pub answer_by : List ℕ → List Item → Verdict
unfolding value_from first find named count types divides_all among type_rules use_rules value_rules rows_after new_rules new_port_rules output_of port_named argument_named dotted_rules place_rules start_rules period_rules head_rules guard_rules invoke_rules actuator_rules target_rules end_rules last_sourced rules_from
answer_by s items = first (rules_by s items)

unfoldable pub module_by : List ℕ → List Item → Module
unfolding value_from find named count types rows_after output_of port_named argument_named last_sourced env_after
module_by s items = (env_by s items).draft.built
