-- Laws of what is told: with a word or without, of a rule that has a number or none, by the number of a category or of a refusal.
-- Assumes nothing.
use mathlib.Core.Path.{◌≡◌, refl, sym}
use mathlib.Core.Bool.{not}
use mathlib.Core.List.{List, [], ◌∷◌, ◌++◌}
use Prim.Native.Nat.{ℕ, zero, suc, ◌<◌}
use native.Mathlib.Omega.{arith}
use borrow.Author.Tests.{ne_eqb}
use lib.Dec.{eqb}
use mathlib.Core.Logic.{◌⊎◌, inl, inr}
use lib.ListN.{length, get_or, get_or-eq_default}
use Rattle.messages.specs.Message.{filled}
use Rattle.catalogue.specs.Catalogue.{rule_number, nothing_comes}
use Rattle.catalogue.specs.Numbers.{number_of, text_of}
use Rattle.catalogue.specs.declared.message.Message.{Message}
use Rattle.told_messages.specs.Told.{rule_text, of_rule_text, place_text, of_word_text, with_word, is_there, sheet_messages}

pub no-rule : (rule : ℕ) → rule ≡ 0 → [] ≡ rule_text rule
unfolding rule_text
no-rule zero e = refl
no-rule (suc rule) e = absurd (omega arith)

pub some-rule : (rule : ℕ) → (rule ≡ 0 → ⊥) → filled rule_number rule 0 [] ≡ rule_text rule
unfolding rule_text
some-rule zero n = absurd (n refl)
some-rule (suc rule) n = refl

module _ (message : List ℕ) where
  pub no_word : (word : List ℕ) → length word ≡ 0 → [] ≡ with_word message word
  unfolding with_word
  no_word [] e = refl
  no_word (byte ∷ rest) e = absurd (omega arith)

  pub some_word : (word : List ℕ) → (length word ≡ 0 → ⊥) → filled message 0 0 word ≡ with_word message word
  unfolding with_word
  some_word [] n = absurd (n refl)
  some_word (byte ∷ rest) n = refl

pub there : (word : List ℕ) → not (eqb (length word) 0) ≡ is_there word
unfolding is_there
there [] = refl
there (byte ∷ rest) = rw (ne_eqb (length (byte ∷ rest)) 0 (λ e. omega arith))

-- a number that is none of the refusals 1 to 9 has no message
pub no_sheet : (number : ℕ) → (number ≡ 0) ⊎ (9 < number) → nothing_comes ≡ get_or sheet_messages number []
unfolding nothing_comes
no_sheet number (inl e) = rw e
no_sheet number (inr h) = sym (get_or-eq_default sheet_messages [] h)

-- what is told of a message by its name is what is told of its number
module _ (rule : ℕ) (message : Message) where
  pub of-message : (first second : ℕ) → of_rule_text rule (number_of message) first second ≡ rule_text rule ++ filled (text_of message) first second []
  of-message first second = refl

  pub word-message : (line number : ℕ) (word : List ℕ) → of_word_text rule line number (number_of message) word ≡ place_text rule line number ++ filled (text_of message) 0 0 word
  word-message line number word = refl
