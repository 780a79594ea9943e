-- The messages of the reasons that a word does not fit; which reason holds is said in crate rule_messages.
-- Assumes nothing.
use Rattle.std.specs.Prelude.{Bool, List, ℕ, Option, Some, None}
use Rattle.grammar.specs.declared.Category.{Category}
use Rattle.rule_messages.specs.declared.Misfit.{Misfit}
use Rattle.rule_messages.specs.declared.Misfit.TheVariants.{Missing, Separator, Whole, Return, Tab, Mark, WideSpace, Bracket, Capital, Named, WatchedOnly, EnforcedOnly, Unknown, Misplaced}
use Rattle.rule_messages.specs.Misfits.{misfit_of, strange_of}
use Rattle.catalogue.specs.Catalogue.{missing, separator, whole, carriage_return, tab, order_mark, wide_space, bracket, capital, named, watched_only, enforced_only, unknown, misplaced, nothing_comes}

abbrev pub reason_text : Misfit → List ℕ
reason_text Missing = missing
reason_text Separator = separator
reason_text Whole = whole
reason_text Return = carriage_return
reason_text Tab = tab
reason_text Mark = order_mark
reason_text WideSpace = wide_space
reason_text Bracket = bracket
reason_text Capital = capital
reason_text Named = named
reason_text WatchedOnly = watched_only
reason_text EnforcedOnly = enforced_only
reason_text Unknown = unknown
reason_text Misplaced = misplaced

-- The word that is there, nothing where the text ends; it may be the name of an action.
abbrev pub misfit_text : List ℕ → Category → (is_named : Bool) → List ℕ
misfit_text w expected is_named = reason_text (misfit_of w expected is_named)

-- What a word has in it that no word has; nothing where it has no such thing.
abbrev pub reason_or_nothing : Option Misfit → List ℕ
reason_or_nothing (Some misfit) = reason_text misfit
reason_or_nothing None = nothing_comes

abbrev pub strange_text : List ℕ → List ℕ
strange_text w = reason_or_nothing (strange_of w)
