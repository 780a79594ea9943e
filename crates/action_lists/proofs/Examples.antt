-- Words that are actions, names and numbers, and words that are none, by computation.
-- Assumes nothing.
use mathlib.Core.Path.{◌≡◌, refl}
use mathlib.Core.Bool.{true, false}
use mathlib.Core.List.{[]}
use Rattle.fields.specs.Fields.{split_by}
use Rattle.grammar.specs.Words.{words_of}
use Rattle.grammar.specs.Spelling.{word, token_of, whether}
use Rattle.std.proofs.Common.{Some, None}
use Rattle.action_lists.specs.ActionLists.{proposition_of, with_all, set_of, all_plain, is_name, name_of, action_of, action_named}
use Rattle.action_lists.specs.AskedLists.{unpadded, number_from, named_of, asked_of}

two-propositions : set_of (word "p0+p2") ≡ Some 5
unfolding set_of with_all proposition_of split_by token_of whether
two-propositions = refl

no-proposition : set_of (word "-") ≡ Some 0
unfolding set_of
no-proposition = refl

no-set : set_of (word "p0+") ≡ None
unfolding set_of with_all proposition_of split_by token_of whether
no-set = refl

named-action : action_of (word "gas=p4") ≡ Some 16
unfolding action_of name_of is_name all_plain set_of with_all proposition_of split_by token_of whether
named-action = refl

name : is_name (word "gas") ≡ true
unfolding is_name all_plain
name = refl

letter-name : is_name (word "p") ≡ true
unfolding is_name all_plain
letter-name = refl

proposition-no-name : is_name (word "p4") ≡ false
unfolding is_name all_plain
proposition-no-name = refl

longer-no-name : is_name (word "p4x") ≡ false
unfolding is_name all_plain
longer-no-name = refl

-- The second of two names, and numbers.
second-name : asked_of (words_of (word "gas=p4 brake=p1")) (word "brake") ≡ 1
unfolding asked_of named_of action_named name_of split_by is_name all_plain
second-name = refl

unknown-name : asked_of (words_of (word "gas=p4 brake=p1")) (word "horn") ≡ 255
unfolding asked_of named_of action_named name_of split_by is_name all_plain
unknown-name = refl

number : asked_of [] (word "12") ≡ 12
unfolding asked_of is_name all_plain unpadded number_from
number = refl

large-number : asked_of [] (word "255") ≡ 255
unfolding asked_of is_name all_plain unpadded number_from
large-number = refl

padded-number : asked_of [] (word "012") ≡ 255
unfolding asked_of is_name all_plain unpadded number_from
padded-number = refl
