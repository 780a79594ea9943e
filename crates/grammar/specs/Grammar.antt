-- The language of rule texts (docs/FORMATS.md, "Rule texts"): which lists of words can be read, and what each reading is. No length and no number of
-- nodes limits it. One list of words has at most one reading (`one-reading`, proofs/OneReading.antt).
-- Assumes nothing.
use Rattle.std.specs.Prelude.{List, [], ◌∷◌, ◌++◌, ℕ, ◌≤◌}
use Rattle.trace.specs.declared.Mode.{Mode}
use Rattle.trace.specs.declared.Mode.TheVariants.{Watched as watched, Enforced as enforced}
use Rattle.policy.specs.Formula.{Formula as ActionFormula, always-true, always-false, proposition, negation, conjunction, disjunction}
use Rattle.policy.specs.Policy.{Policy, now, holds-first, count, not-p, and-p, or-p, eventually, always, before-, before+, after-, after+, fulfilling, ignoring}
use Rattle.grammar.specs.Words.{Word}
use Rattle.grammar.specs.Spelling.{word, number_word, proposition_word}
use Rattle.grammar.specs.declared.Category.{Category}
use Rattle.grammar.specs.declared.Category.TheVariants.{Text, Watched, Enforced, Formula, Number, End}

-- A rule: a policy, and whether it is watched or enforced.
pub record TextRule : Type 0 where
  pub mode : Mode
  pub policy : Policy

-- What words of each category are read as.
abbrev pub Reading : Category → Type 0
Reading Text = TextRule
Reading Watched = Policy
Reading Enforced = Policy
Reading Formula = ActionFormula
Reading Number = ℕ
Reading End = Unit {0}

pub data Reads : (category : Category) → List Word → Reading category → Type 0 where
  -- A text is `watch` W or `enforce` E.
  watch : {ws : List Word} {p : Policy} → Reads Watched ws p → Reads Text (word "watch" ∷ ws) (record { mode = watched; policy = p })
  enforce : {ws : List Word} {p : Policy} → Reads Enforced ws p → Reads Text (word "enforce" ∷ ws) (record { mode = enforced; policy = p })
  -- W is: now A, count K, not E, and W W, or W W, eventually W, before W W, after W W, ignoring A W.
  now-w : {ws : List Word} {f : ActionFormula} → Reads Formula ws f → Reads Watched (word "now" ∷ ws) (now f)
  count-w : {ws : List Word} {k : ℕ} → Reads Number ws k → Reads Watched (word "count" ∷ ws) (count k)
  not-w : {ws : List Word} {a : Policy} → Reads Enforced ws a → Reads Watched (word "not" ∷ ws) (not-p a)
  and-w : {us vs : List Word} {a b : Policy} → Reads Watched us a → Reads Watched vs b → Reads Watched (word "and" ∷ us ++ vs) (and-p a b)
  or-w : {us vs : List Word} {a b : Policy} → Reads Watched us a → Reads Watched vs b → Reads Watched (word "or" ∷ us ++ vs) (or-p a b)
  eventually-w : {ws : List Word} {a : Policy} → Reads Watched ws a → Reads Watched (word "eventually" ∷ ws) (eventually a)
  before-w : {us vs : List Word} {a b : Policy} → Reads Watched us a → Reads Watched vs b → Reads Watched (word "before" ∷ us ++ vs) (before- a b)
  after-w : {us vs : List Word} {a b : Policy} → Reads Watched us a → Reads Watched vs b → Reads Watched (word "after" ∷ us ++ vs) (after- a b)
  ignoring-w : {us vs : List Word} {f : ActionFormula} {b : Policy} → Reads Formula us f → Reads Watched vs b
      → Reads Watched (word "ignoring" ∷ us ++ vs) (ignoring f b)
  -- E is: holds A, not W, and E E, or E E, always E, before W E, after W E, fulfilling K W E E, ignoring A E.
  holds-e : {ws : List Word} {f : ActionFormula} → Reads Formula ws f → Reads Enforced (word "holds" ∷ ws) (holds-first f)
  not-e : {ws : List Word} {a : Policy} → Reads Watched ws a → Reads Enforced (word "not" ∷ ws) (not-p a)
  and-e : {us vs : List Word} {a b : Policy} → Reads Enforced us a → Reads Enforced vs b → Reads Enforced (word "and" ∷ us ++ vs) (and-p a b)
  or-e : {us vs : List Word} {a b : Policy} → Reads Enforced us a → Reads Enforced vs b → Reads Enforced (word "or" ∷ us ++ vs) (or-p a b)
  always-e : {ws : List Word} {a : Policy} → Reads Enforced ws a → Reads Enforced (word "always" ∷ ws) (always a)
  before-e : {us vs : List Word} {a b : Policy} → Reads Watched us a → Reads Enforced vs b → Reads Enforced (word "before" ∷ us ++ vs) (before+ a b)
  after-e : {us vs : List Word} {a b : Policy} → Reads Watched us a → Reads Enforced vs b → Reads Enforced (word "after" ∷ us ++ vs) (after+ a b)
  fulfilling-e : {ts us vs ws : List Word} {k : ℕ} {a b c : Policy} → Reads Number ts k → Reads Watched us a → Reads Enforced vs b → Reads Enforced ws c
      → Reads Enforced (word "fulfilling" ∷ ts ++ (us ++ (vs ++ ws))) (fulfilling k a b c)
  ignoring-e : {us vs : List Word} {f : ActionFormula} {b : Policy} → Reads Formula us f → Reads Enforced vs b
      → Reads Enforced (word "ignoring" ∷ us ++ vs) (ignoring f b)
  -- A is: true, false, p0 to p15, not A, and A A, or A A.
  true-a : Reads Formula (word "true" ∷ []) always-true
  false-a : Reads Formula (word "false" ∷ []) always-false
  proposition-a : {p : ℕ} → p ≤ 15 → Reads Formula (proposition_word p ∷ []) (proposition p)
  not_a : {ws : List Word} {f : ActionFormula} → Reads Formula ws f → Reads Formula (word "not" ∷ ws) (negation f)
  and-a : {us vs : List Word} {f g : ActionFormula} → Reads Formula us f → Reads Formula vs g → Reads Formula (word "and" ∷ us ++ vs) (conjunction f g)
  or-a : {us vs : List Word} {f g : ActionFormula} → Reads Formula us f → Reads Formula vs g → Reads Formula (word "or" ∷ us ++ vs) (disjunction f g)
  -- K is 1 to 60 without leading zero.
  number : {k : ℕ} → 1 ≤ k → k ≤ 60 → Reads Number (number_word k ∷ []) k
