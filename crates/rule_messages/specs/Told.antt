-- What an operator is told of a refusal and of a word that does not fit, in words.
-- Assumes nothing.
use Rattle.std.specs.Prelude.{List, [], ◌++◌, ℕ, zero, suc}
use Rattle.grammar.specs.declared.Category.{Category}
use Rattle.grammar.specs.declared.Category.TheVariants.{Text, Watched, Enforced, Formula, Number, End}
use Rattle.messages.specs.Message.{bytes, filled}
use Rattle.rule_messages.specs.declared.Misfit.{Misfit}
use Rattle.rule_messages.specs.declared.Misfit.TheVariants.{Missing, Separator, Whole, Return, Tab, Mark, WideSpace, Bracket, Capital, Named, WatchedOnly, EnforcedOnly, Unknown, Misplaced}

-- the line of a refusal: its number and its spot
abbrev pub refused_text : (number spot : ℕ) → List ℕ
refused_text number spot = filled (bytes "refused # %\n") number spot []

-- a rule by its number, where there are several
unfoldable pub rule_text : ℕ → List ℕ
rule_text zero = []
rule_text (suc rule) = filled (bytes "rule #, ") (suc rule) 0 []

-- where a word stands: its line and its number in the rule, each from 1
abbrev pub place_text : (rule line number : ℕ) → List ℕ
place_text rule line number = rule_text rule ++ filled (bytes "line #, word %: ") line number []

-- why a word does not fit
abbrev pub misfit_message : Misfit → List ℕ
misfit_message Missing = bytes "the rule ends too soon\n"
misfit_message Separator = bytes "@ separates two rules, and stands on a line of its own\n"
misfit_message Whole = bytes "the rule is whole before @: a word that joins two parts, such as and, stands before both of them; two rules are separated by a line ---\n"
misfit_message Return = bytes "@ has a carriage return (\\x0d) in it, as lines end on Windows: save the file with newlines alone\n"
misfit_message Tab = bytes "@ has a tab (\\x09) in it: words are separated by spaces and newlines\n"
misfit_message Mark = bytes "@ has a byte order mark (\\xef\\xbb\\xbf) in it: save the file without one\n"
misfit_message WideSpace = bytes "@ has a non-breaking space (\\xc2\\xa0) in it: words are separated by spaces and newlines\n"
misfit_message Bracket = bytes "@ has a bracket in it: the rule language has none, since each word stands before its parts\n"
misfit_message Capital = bytes "@ has a capital letter in it: words are written in small letters\n"
misfit_message Named = bytes "@ is the name of an action: a rule is written with the action's propositions\n"
misfit_message WatchedOnly = bytes "@ can be watched, and not enforced: begin the rule with watch, or give it a limit (fulfilling 10 ..)\n"
misfit_message EnforcedOnly = bytes "@ can be enforced, and not watched: begin the rule with enforce\n"
misfit_message Unknown = bytes "@ is not a word of the rule language\n"
misfit_message Misplaced = bytes "@ does not fit here\n"

abbrev pub misfit_text : Misfit → List ℕ → List ℕ
misfit_text misfit word = filled (misfit_message misfit) 0 0 word

-- what comes at a place
abbrev pub expected_text : Category → List ℕ
expected_text Text = bytes "a rule begins here: watch, enforce\n"
expected_text Watched = bytes "a watched policy comes here: now, count, not, and, or, eventually, before, after, ignoring\n"
expected_text Enforced = bytes "an enforced policy comes here: holds, not, and, or, always, before, after, fulfilling, ignoring\n"
expected_text Formula = bytes "a formula comes here: true, false, p0 to p15, not, and, or\n"
expected_text Number = bytes "a number comes here: 1 to 60, without a leading zero\n"
expected_text End = []
