-- Why a word does not fit where something of a category is to come: the first reason that holds.
-- Assumes nothing.
use Rattle.std.specs.Prelude.{Bool, true, false, cond, ◌&&◌, ◌||◌, List, [], ◌∷◌, ℕ, leb, Option, Some, None, unwrap_or}
use Rattle.grammar.specs.Spelling.{same, token_of}
use Rattle.grammar.specs.declared.Token.{Token}
use Rattle.grammar.specs.declared.Token.TheVariants.{Watch, Enforce, Now, Holds, Count, Not, And, Or, Eventually, Always, Before, After, Fulfilling, Ignoring, True, False, Proposition, Number, Other}
use Rattle.grammar.specs.declared.Category.{Category}
use Rattle.grammar.specs.declared.Category.TheVariants.{Text, Watched, Enforced, Formula, End}
use Rattle.grammar.specs.declared.Category.TheVariants.{Number as NumberHere}
use Rattle.messages.specs.Message.{bytes}
use Rattle.rule_messages.specs.declared.Misfit.{Misfit}
use Rattle.rule_messages.specs.declared.Misfit.TheVariants.{Missing, Separator, Whole, Return, Tab, Mark, WideSpace, Bracket, Capital, Named, WatchedOnly, EnforcedOnly, Unknown, Misplaced}

-- some byte of a word lies in a range
unfoldable pub any_between : (low high : ℕ) → List ℕ → Bool
any_between low high [] = false
any_between low high (byte ∷ rest) = (leb low byte && leb byte high) || any_between low high rest

abbrev pub has_bracket : List ℕ → Bool
has_bracket w = any_between 40 41 w || (any_between 91 91 w || (any_between 93 93 w || (any_between 123 123 w || any_between 125 125 w)))

-- words that begin a watched policy only, an enforced one only
abbrev pub is_watched_only : List ℕ → Bool
is_watched_only w = same w (bytes "now") || (same w (bytes "count") || same w (bytes "eventually"))

abbrev pub is_enforced_only : List ℕ → Bool
is_enforced_only w = same w (bytes "holds") || (same w (bytes "always") || same w (bytes "fulfilling"))

unfoldable pub is_end : Category → Bool
is_end End = true
is_end Text = false
is_end Watched = false
is_end Enforced = false
is_end Formula = false
is_end NumberHere = false

unfoldable pub is_enforced : Category → Bool
is_enforced Enforced = true
is_enforced Text = false
is_enforced Watched = false
is_enforced Formula = false
is_enforced NumberHere = false
is_enforced End = false

unfoldable pub is_watched : Category → Bool
is_watched Watched = true
is_watched Text = false
is_watched Enforced = false
is_watched Formula = false
is_watched NumberHere = false
is_watched End = false

-- The language does not have the word.
unfoldable pub is_other : Token → Bool
is_other Other = true
is_other Watch = false
is_other Enforce = false
is_other Now = false
is_other Holds = false
is_other Count = false
is_other Not = false
is_other And = false
is_other Or = false
is_other Eventually = false
is_other Always = false
is_other Before = false
is_other After = false
is_other Fulfilling = false
is_other Ignoring = false
is_other True = false
is_other False = false
is_other (Proposition p) = false
is_other (Number n) = false

-- by the word itself, and what is to come
unfoldable pub by_word : List ℕ → Category → (named : Bool) → Misfit
by_word w expected named =
    cond named Named
    (cond (is_enforced expected && is_watched_only w) WatchedOnly
    (cond (is_watched expected && is_enforced_only w) EnforcedOnly
    (cond (is_other (token_of w)) Unknown Misplaced)))

-- what it has in it that no word has: a carriage return, a tab, a byte order mark, a non-breaking space, a bracket, a capital letter
unfoldable pub strange_of : List ℕ → Option Misfit
strange_of w =
    cond (any_between 13 13 w) (Some Return)
    (cond (any_between 9 9 w) (Some Tab)
    (cond (any_between 239 239 w) (Some Mark)
    (cond (any_between 160 160 w) (Some WideSpace)
    (cond (has_bracket w) (Some Bracket)
    (cond (any_between 65 90 w) (Some Capital) None)))))

unfoldable pub misfit_of : List ℕ → Category → (named : Bool) → Misfit
misfit_of [] expected named = Missing
misfit_of (byte ∷ rest) expected named =
    cond (same (byte ∷ rest) (bytes "---")) Separator (cond (is_end expected) Whole (unwrap_or (strange_of (byte ∷ rest)) (by_word (byte ∷ rest) expected named)))
