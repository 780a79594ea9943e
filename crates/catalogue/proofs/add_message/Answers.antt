-- `catalogue::add_message` meets its contract: the text that holds all messages is the catalogue, by computation.
use mathlib.Core.Path.{◌≡◌, refl, ap, ◌∙◌}
use mathlib.Core.Bool.{true}
use mathlib.Core.List.{List}
use Prim.Native.Nat.{ℕ}
use Rattle.fields.specs.Fields.{all_unmarked}
use Rattle.fields.proofs.Listed.{listed_at}
use Rattle.messages.specs.Message.{filled}
use Rattle.messages.proofs.Adding.{adds-as}
use Rattle.catalogue.specs.Catalogue.{refused_line, rule_number, line_and_word, missing, separator, whole, carriage_return, tab, order_mark, wide_space, bracket, capital, named, watched_only, enforced_only, unknown, misplaced, rule_begins, watched_comes, enforced_comes, formula_comes, number_comes, nothing_comes, wrong_length, wrong_counts, wrong_areas, unknown_kind, wrong_field, wrong_type, long_bound, node_values, node_rows, watched_sheet, named_word, wrong_action, doubled_action, action_form, name_form, no_actions, many_actions, many_rules, watched_joined, watched_asked, long_rule, long_file, many_nodes, many_values, many_rows, joined_values, joined_rows, in_file, wrong_listed, listed_numbers, listed_names, long_list, none_denied, denied_at, action_number, action_name, denied_word, denier, denier_end, of_rule, at_word, part, line_end, denies_nothing, denies_all, never_reported, reported_at_once, no_action_has, no_such_word, no_such_file, other_actions, joined_sheet, one_file, some_files, some_file, help, catalogue, message_of}
use Rattle.catalogue.proofs.add_message.Goals as goal

none-marked : all_unmarked 124 catalogue ≡ true
unfolding refused_line rule_number line_and_word missing separator whole carriage_return tab order_mark wide_space bracket capital named watched_only enforced_only unknown misplaced rule_begins watched_comes enforced_comes formula_comes number_comes nothing_comes wrong_length wrong_counts wrong_areas unknown_kind wrong_field wrong_type long_bound node_values node_rows watched_sheet named_word wrong_action doubled_action action_form name_form no_actions many_actions many_rules watched_joined watched_asked long_rule long_file many_nodes many_values many_rows joined_values joined_rows in_file wrong_listed listed_numbers listed_names long_list none_denied denied_at action_number action_name denied_word denier denier_end of_rule at_word part line_end denies_nothing denies_all never_reported reported_at_once no_action_has no_such_word no_such_file other_actions joined_sheet one_file some_files some_file help
none-marked = refl

pub returns : goal.returns
unfolding refused_line rule_number line_and_word missing separator whole carriage_return tab order_mark wide_space bracket capital named watched_only enforced_only unknown misplaced rule_begins watched_comes enforced_comes formula_comes number_comes nothing_comes wrong_length wrong_counts wrong_areas unknown_kind wrong_field wrong_type long_bound node_values node_rows watched_sheet named_word wrong_action doubled_action action_form name_form no_actions many_actions many_rules watched_joined watched_asked long_rule long_file many_nodes many_values many_rows joined_values joined_rows in_file wrong_listed listed_numbers listed_names long_list none_denied denied_at action_number action_name denied_word denier denier_end of_rule at_word part line_end denies_nothing denies_all never_reported reported_at_once no_action_has no_such_word no_such_file other_actions joined_sheet one_file some_files some_file help
returns g c =
    let a = c.args in
    adds-as (ap (λ (m : List ℕ). filled m a.first a.second a.word.now) (listed_at 124 catalogue c.number.result none-marked ∙ ap message_of c.number.ensures)) c.fill_listed.ensures
