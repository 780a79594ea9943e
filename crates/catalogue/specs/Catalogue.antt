-- The messages of the program, by their numbers. `#` and `%` stand for a number each, `@` for a word in quotes, `~` for the word as it is.
-- Assumes nothing.
use Rattle.std.specs.Prelude.{List, [], ◌∷◌, ℕ, get_or}
use Rattle.messages.specs.Message.{bytes}

-- places
unfoldable pub refused_line : List ℕ
refused_line = bytes "refused # %\n"

unfoldable pub rule_number : List ℕ
rule_number = bytes "rule #, "

unfoldable pub line_and_word : List ℕ
line_and_word = bytes "line #, word %: "

-- why a word does not fit
unfoldable pub missing : List ℕ
missing = bytes "the rule ends too soon\n"

unfoldable pub separator : List ℕ
separator = bytes "@ separates two rules, and stands on a line of its own\n"

unfoldable pub whole : List ℕ
whole = bytes "the rule is whole before @: a word that joins two parts, such as and, stands before both of them; two rules are separated by a line ---\n"

unfoldable pub carriage_return : List ℕ
carriage_return = bytes "@ has a carriage return (\\x0d) in it, as lines end on Windows: save the file with newlines alone\n"

unfoldable pub tab : List ℕ
tab = bytes "@ has a tab (\\x09) in it: words are separated by spaces and newlines\n"

unfoldable pub order_mark : List ℕ
order_mark = bytes "@ has a byte order mark (\\xef\\xbb\\xbf) in it: save the file without one\n"

unfoldable pub wide_space : List ℕ
wide_space = bytes "@ has a non-breaking space (\\xc2\\xa0) in it: words are separated by spaces and newlines\n"

unfoldable pub bracket : List ℕ
bracket = bytes "@ has a bracket in it: the rule language has none, since each word stands before its parts\n"

unfoldable pub capital : List ℕ
capital = bytes "@ has a capital letter in it: words are written in small letters\n"

unfoldable pub named : List ℕ
named = bytes "@ is the name of an action: a rule is written with the action's propositions\n"

unfoldable pub watched_only : List ℕ
watched_only = bytes "@ can be watched, and not enforced: begin the rule with watch, or give it a limit (fulfilling 10 ..)\n"

unfoldable pub enforced_only : List ℕ
enforced_only = bytes "@ can be enforced, and not watched: begin the rule with enforce\n"

unfoldable pub unknown : List ℕ
unknown = bytes "@ is not a word of the rule language\n"

unfoldable pub misplaced : List ℕ
misplaced = bytes "@ does not fit here\n"

-- what comes at a place of a rule
unfoldable pub rule_begins : List ℕ
rule_begins = bytes "a rule begins here: watch, enforce\n"

unfoldable pub watched_comes : List ℕ
watched_comes = bytes "a watched policy comes here: now, count, not, and, or, eventually, before, after, ignoring\n"

unfoldable pub enforced_comes : List ℕ
enforced_comes = bytes "an enforced policy comes here: holds, not, and, or, always, before, after, fulfilling, ignoring\n"

unfoldable pub formula_comes : List ℕ
formula_comes = bytes "a formula comes here: true, false, p0 to p15, not, and, or\n"

unfoldable pub number_comes : List ℕ
number_comes = bytes "a number comes here: 1 to 60, without a leading zero\n"

unfoldable pub nothing_comes : List ℕ
nothing_comes = bytes ""

-- what is refused of a sheet, in the order of the refusals 1 to 9
unfoldable pub wrong_length : List ℕ
wrong_length = bytes "the sheet has fewer than 10 bytes, or its header says another length: give the whole sheet\n"

unfoldable pub wrong_counts : List ℕ
wrong_counts = bytes "the sheet has not 1 to 16 actions, or not 1 to 64 nodes: correct the counts\n"

unfoldable pub wrong_areas : List ℕ
wrong_areas = bytes "a list of the sheet is in the header, over the end or over the other: correct the offsets\n"

unfoldable pub unknown_kind : List ℕ
unknown_kind = bytes "node # is of no known kind: correct it\n"

unfoldable pub wrong_field : List ℕ
wrong_field = bytes "node # has a part that is no earlier node, an argument outside its range, or an unused field that is not 0: correct it\n"

unfoldable pub wrong_type : List ℕ
wrong_type = bytes "node # has a part of the wrong type, or is the last one and a formula: rewrite the rule\n"

unfoldable pub long_bound : List ℕ
long_bound = bytes "node # has a finite bound above 65534: shorten the rule\n"

unfoldable pub node_values : List ℕ
node_values = bytes "node # remembers more than 1024 values: simplify it\n"

unfoldable pub node_rows : List ℕ
node_rows = bytes "node # needs more than 64 rows: simplify it\n"

unfoldable pub watched_sheet : List ℕ
watched_sheet = bytes "a watched sheet denies nothing: ask of an enforced one\n"

-- the action list
unfoldable pub named_word : List ℕ
named_word = bytes "the action list has ~: write its proposition in the rule; for two, p0+p2, write: and p0 p2\n"

unfoldable pub wrong_action : List ℕ
wrong_action = bytes "line 1, word #: @ is not an action\n"

unfoldable pub doubled_action : List ℕ
doubled_action = bytes "line 1, word #: @ has the name of an action before it: each action has its own name\n"

unfoldable pub action_form : List ℕ
action_form = bytes "an action is the propositions that hold of it, p0 to p15, joined by + (p0+p2), or - where none holds; its name may stand before them (gas=p4)\n"

unfoldable pub name_form : List ℕ
name_form = bytes "a name is of small letters and digits, begins with a letter, and is not p and a digit\n"

unfoldable pub no_actions : List ℕ
no_actions = bytes "line 1 lists no action: write the actions there, separated by spaces, and the rule from line 2 on\n"

unfoldable pub many_actions : List ℕ
many_actions = bytes "line 1 lists more than 16 actions, and 16 are the most: remove some\n"

-- the rules of a file
unfoldable pub many_rules : List ℕ
many_rules = bytes "there are more than 8 rules, and 8 are the most: put the others into a second file, and on a second place\n"

unfoldable pub watched_joined : List ℕ
watched_joined = bytes "line #: a watched rule denies nothing, and is not joined: put it into a file and on a place of its own\n"

unfoldable pub watched_asked : List ℕ
watched_asked = bytes "line #: a watched rule denies nothing: ask of rules that begin with enforce\n"

unfoldable pub long_rule : List ℕ
long_rule = bytes "line #: the rule has % bytes, and 1024 are the most: shorten it, or split it into rules on several places\n"

unfoldable pub long_file : List ℕ
long_file = bytes "the file has more than 65535 bytes, and a rule 1024 at the most: shorten it\n"

unfoldable pub many_nodes : List ℕ
many_nodes = bytes "line #: the rule has more than 64 nodes, which are its words except the first and the numbers: shorten it, or split it into rules on several places\n"

unfoldable pub many_values : List ℕ
many_values = bytes "@ remembers more than 1024 values\nsimplify what begins there, or split it into rules on several places\n"

unfoldable pub many_rows : List ℕ
many_rows = bytes "@ needs more than 64 rows\nsimplify what begins there, or split it into rules on several places\n"

unfoldable pub joined_values : List ℕ
joined_values = bytes "joined, the # rules remember more than 1024 values: join fewer of them, and put the others on a second place\n"

unfoldable pub joined_rows : List ℕ
joined_rows = bytes "joined, the # rules need more than 64 rows: join fewer of them, and put the others on a second place\n"

unfoldable pub in_file : List ℕ
in_file = bytes "this is in the file ~\n"

-- a list of actions, and what is denied of it
unfoldable pub wrong_listed : List ℕ
wrong_listed = bytes "the list, word #: @ is not an action\n"

unfoldable pub listed_numbers : List ℕ
listed_numbers = bytes "an action is its number, from 0 and below #, without leading zero\n"

unfoldable pub listed_names : List ℕ
listed_names = bytes "an action is its number in the action list, from 0 and below #, without leading zero, or its name there; the list is: ~\n"

unfoldable pub long_list : List ℕ
long_list = bytes "the list has more than 65535 bytes: ask of fewer actions\n"

unfoldable pub none_denied : List ℕ
none_denied = bytes "permitted\nno action of the list is denied; it has #\n"

unfoldable pub denied_at : List ℕ
denied_at = bytes "denied # %\n"

unfoldable pub action_number : List ℕ
action_number = bytes "action #"

unfoldable pub action_name : List ℕ
action_name = bytes " (~)"

unfoldable pub denied_word : List ℕ
denied_word = bytes " is denied: word # of the list, place % counted from 0\n"

unfoldable pub denier : List ℕ
denier = bytes "node # ("

unfoldable pub denier_end : List ℕ
denier_end = bytes ") denies it"

unfoldable pub of_rule : List ℕ
of_rule = bytes ", rule #"

unfoldable pub at_word : List ℕ
at_word = bytes ", line #, word %"

unfoldable pub part : List ℕ
part = bytes ":"

unfoldable pub line_end : List ℕ
line_end = bytes "\n"

-- a table that says less than its rule seems to
unfoldable pub denies_nothing : List ℕ
denies_nothing = bytes "note: this rule denies nothing\n"

unfoldable pub denies_all : List ℕ
denies_all = bytes "note: this rule denies every action from the start\n"

unfoldable pub never_reported : List ℕ
never_reported = bytes "note: this rule is never reported\n"

unfoldable pub reported_at_once : List ℕ
reported_at_once = bytes "note: this rule is reported at the first action, whatever it is\n"

unfoldable pub no_action_has : List ℕ
no_action_has = bytes "note: no action has p#\n"

-- what is wrong with a command
unfoldable pub no_such_word : List ℕ
no_such_word = bytes "lemon: there is no word ~\n"

unfoldable pub no_such_file : List ℕ
no_such_file = bytes "lemon: cannot read the file ~\n"

unfoldable pub other_actions : List ℕ
other_actions = bytes "lemon: the action list of ~ is another than that of the first file: rules that are joined have one action list\n"

unfoldable pub joined_sheet : List ℕ
joined_sheet = bytes "lemon: ~ is a rule sheet: join takes rule files\n"

unfoldable pub one_file : List ℕ
one_file = bytes "lemon: compile takes one file: join takes several\n"

unfoldable pub some_files : List ℕ
some_files = bytes "lemon: join takes the names of rule files\n"

unfoldable pub some_file : List ℕ
some_file = bytes "lemon: explain takes the name of a file, and then the actions\n"

-- what there is
unfoldable pub help : List ℕ
help = bytes "lemon compile FILE           print the table of a rule file or a rule sheet\n    lemon compile examples/house/report_the_drop.rule\n    lemon compile examples/never_charge.sheet\nlemon join FILE FILE ..      print one table for the rules of several rule files with one action list\n    lemon join examples/house/no_charge_before_the_tray.rule examples/house/at_most_three_charges.rule\nlemon explain FILE ACTION .. print which of the actions, done in this order, is denied first, and by which part of the rule\n    lemon explain examples/house/no_charge_before_the_tray.rule 1 0\nlemon explain FILE           the same, with the actions on standard input\n    lemon explain examples/denials/a_whole_roast.rule < examples/denials/a_whole_roast.list\nlemon help                   print this\n\nFor FILE, - is standard input, and so is no FILE after compile. A rule file has the actions on its first line and the rule below it\n(examples/README.md). Actions are given by number, from 0, or by the names of the action list.\n"

-- all of them
abbrev pub catalogue : List (List ℕ)
catalogue =
    refused_line
    ∷ rule_number
    ∷ line_and_word
    ∷ missing
    ∷ separator
    ∷ whole
    ∷ carriage_return
    ∷ tab
    ∷ order_mark
    ∷ wide_space
    ∷ bracket
    ∷ capital
    ∷ named
    ∷ watched_only
    ∷ enforced_only
    ∷ unknown
    ∷ misplaced
    ∷ rule_begins
    ∷ watched_comes
    ∷ enforced_comes
    ∷ formula_comes
    ∷ number_comes
    ∷ nothing_comes
    ∷ wrong_length
    ∷ wrong_counts
    ∷ wrong_areas
    ∷ unknown_kind
    ∷ wrong_field
    ∷ wrong_type
    ∷ long_bound
    ∷ node_values
    ∷ node_rows
    ∷ watched_sheet
    ∷ named_word
    ∷ wrong_action
    ∷ doubled_action
    ∷ action_form
    ∷ name_form
    ∷ no_actions
    ∷ many_actions
    ∷ many_rules
    ∷ watched_joined
    ∷ watched_asked
    ∷ long_rule
    ∷ long_file
    ∷ many_nodes
    ∷ many_values
    ∷ many_rows
    ∷ joined_values
    ∷ joined_rows
    ∷ in_file
    ∷ wrong_listed
    ∷ listed_numbers
    ∷ listed_names
    ∷ long_list
    ∷ none_denied
    ∷ denied_at
    ∷ action_number
    ∷ action_name
    ∷ denied_word
    ∷ denier
    ∷ denier_end
    ∷ of_rule
    ∷ at_word
    ∷ part
    ∷ line_end
    ∷ denies_nothing
    ∷ denies_all
    ∷ never_reported
    ∷ reported_at_once
    ∷ no_action_has
    ∷ no_such_word
    ∷ no_such_file
    ∷ other_actions
    ∷ joined_sheet
    ∷ one_file
    ∷ some_files
    ∷ some_file
    ∷ help
    ∷ []

abbrev pub message_of : ℕ → List ℕ
message_of number = get_or catalogue number []
