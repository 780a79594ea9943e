-- A board whose rules are compiled from texts.
-- Assumes nothing.
use Rattle.std.specs.Prelude.{◌≡◌, true, false, List, [], ◌∷◌, ◌++◌, ℕ, take}
use Rattle.limits.specs.Limits.{largest}
use Rattle.policy.specs.Policy.{Policy}
use Rattle.table.specs.Table.{type_of}
use Rattle.table.specs.Answer.{accepted}
use Rattle.compiler.specs.Compiles.{Compiles}
use Rattle.runs.specs.Events.{Event, on_place, rule}
use Rattle.grammar.specs.Words.{words_of}
use Rattle.grammar.specs.Grammar.{TextRule, Reads}
use Rattle.grammar.specs.declared.Category.TheVariants.{Text}
use Rattle.parser.specs.Calling.{written, ReadsInto}
use Rattle.parser_laws.specs.Passing.{satisfies_over}

-- A table is compiled from a text: the text is written as a sheet with lent actions, and the sheet gets the table. Its words are read as the rule.
pub record FromText (table : List ℕ) : Type 0 where
  pub text : List ℕ
  pub actions : List ℕ
  pub reading : TextRule
  pub reads : Reads Text (words_of text) reading
  pub out : List ℕ
  pub out'' : List ℕ
  pub bytes : ℕ
  pub count : ℕ
  pub nodes : ℕ
  pub writes : ReadsInto text actions out (written bytes count nodes) out''
  pub type : ℕ
  pub n : ℕ
  pub rows : ℕ
  pub compiles : Compiles (take bytes out'') largest (accepted type n rows) table

-- A text for each enforced rule on the board.
abbrev pub EnforcedTexts : List Event → Type 0
EnforcedTexts events = (i : ℕ) (table since : List ℕ) → on_place events i ≡ rule table since → type_of table ≡ 1 → FromText table

-- The sequence satisfies the policy of the text.
abbrev pub SatisfiesText : {table : List ℕ} → FromText table → List ℕ → Type 0
SatisfiesText from w = satisfies_over from.actions from.reading.policy w ≡ true

-- No enforced text's policy is violated by the actions permitted since its rule was put on, followed by this one.
abbrev pub NoneTextViolated : (events : List Event) → EnforcedTexts events → ℕ → Type 0
NoneTextViolated events texts action =
    (i : ℕ) (table since : List ℕ) (on : on_place events i ≡ rule table since) (enforced : type_of table ≡ 1)
    → SatisfiesText (texts i table since on enforced) (since ++ (action ∷ []))

-- A policy is first satisfied by this action, over the lent actions: the sequence followed by it satisfies the policy, and no shorter front of
-- that does.
pub record FirstSatisfiedOver (actions : List ℕ) (p : Policy) (since : List ℕ) (action : ℕ) : Type 0 where
  pub satisfied : satisfies_over actions p (since ++ (action ∷ [])) ≡ true
  pub shortest : (earlier later : List ℕ) → since ≡ earlier ++ later → satisfies_over actions p earlier ≡ false
