-- The propositions of a word, field by field.
-- Assumes nothing.
use mathlib.Core.Path.{◌≡◌, refl, ◌∙◌}
use mathlib.Core.List.{List, [], ◌∷◌}
use Prim.Native.Nat.{ℕ, ◌+◌, ◌*◌, ◌%◌, ◌^◌, ◌≤◌, ◌<◌}
use native.Mathlib.Decide.{ℕ_discrete}
use native.Mathlib.Omega.{arith}
use lib.Bits.{bit_or}
use lib.Pow.{shl_exact}
use lib.ListN.{length}
use borrow.Author.Tests.{le-leb, lt-leb}
use Rattle.fields.specs.Fields.{fields_from, between, EndsField}
use Rattle.grammar.specs.Words.{Word}
use Rattle.grammar.specs.Spelling.{token_of, whether}
use Rattle.grammar.specs.declared.Token.{Token}
use Rattle.grammar.specs.declared.Token.TheVariants.{Watch, Enforce, Now, Holds, Count, Not, And, Or, Eventually, Always, Before, After, Fulfilling, Ignoring, True, False, Proposition, Number, Other}
use Rattle.std.proofs.Common.{Some, None}
use Rattle.action_lists.specs.ActionLists.{proposition_of, with_all}

-- No proposition is empty.
empty-none : (word : Word) → length word ≡ 0 → proposition_of (token_of word) ≡ 100
unfolding proposition_of token_of whether
empty-none [] h = refl
empty-none (byte ∷ rest) h = absurd (omega arith)

-- A token that is no proposition is read as none.
pub not_proposition : (token : Token) → ((p : ℕ) → token ≡ Proposition p → ⊥) → proposition_of token ≡ 100
unfolding proposition_of
not_proposition (Proposition p) o = absurd (o p refl)
not_proposition Watch o = refl
not_proposition Enforce o = refl
not_proposition Now o = refl
not_proposition Holds o = refl
not_proposition Count o = refl
not_proposition Not o = refl
not_proposition And o = refl
not_proposition Or o = refl
not_proposition Eventually o = refl
not_proposition Always o = refl
not_proposition Before o = refl
not_proposition After o = refl
not_proposition Fulfilling o = refl
not_proposition Ignoring o = refl
not_proposition True o = refl
not_proposition False o = refl
not_proposition Other o = refl
not_proposition (Number k) o = refl

none_more : (set : ℕ) → with_all set [] ≡ Some set
unfolding with_all
none_more set = refl

-- the set of one proposition
pub one_bit : (number : ℕ) → number < 16 → 1 * 2 ^ number % 65536 ≡ 2 ^ number
one_bit number h = shl_exact 1 number 16 (omega arith) (omega arith) ∙ omega arith

-- A field more.
module _ {word : Word} {from to : ℕ} (e : EndsField 43 word from to) (set : ℕ) {number : ℕ} (n : number ≡ proposition_of (token_of (between word from to))) where
  begins : (words : List Word) → number ≤ 15 → with_all set (between word from to ∷ words) ≡ with_all (bit_or set (2 ^ number)) words
  unfolding with_all
  begins words h = rw (← n, le-leb number 15 h)

  stops : (words : List Word) → 15 < number → with_all set (between word from to ∷ words) ≡ None
  unfolding with_all
  stops words h = rw (← n, lt-leb number 15 h)

  pub field-joins : number ≤ 15 → to < length word → with_all set (fields_from 43 word from) ≡ with_all (bit_or set (2 ^ number)) (fields_from 43 word (to + 1))
  field-joins h l = rw (e.more l) (begins (fields_from 43 word (to + 1)) h)

  pub field-ends : number ≤ 15 → to ≡ length word → with_all set (fields_from 43 word from) ≡ Some (bit_or set (2 ^ number))
  field-ends h l = rw (e.last l) (begins [] h ∙ none_more (bit_or set (2 ^ number)))

  pub field-wrong : 15 < number → with_all set (fields_from 43 word from) ≡ None
  field-wrong h = elim (ℕ_discrete to (length word)) [ yes p ↦ rw (e.last p) (stops [] h) | no q ↦ rw (e.more (omega (arith, e.within))) (stops (fields_from 43 word (to + 1)) h) ]
