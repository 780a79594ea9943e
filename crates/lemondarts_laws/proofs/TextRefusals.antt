-- Each answer to a text, as C reads it: the returned number, and for 32 its value, exactly when.
-- Assumes nothing.
use mathlib.Core.Path.{◌≡◌, refl, sym, subst}
use mathlib.Core.List.{List}
use mathlib.Core.Logic.{◌↔◌}
use Prim.Native.Nat.{ℕ, ◌≤◌, ◌<◌}
use native.Mathlib.Omega.{arith}
use lib.ListN.{length}
use Rattle.grammar.specs.Words.{words_of}
use Rattle.grammar.specs.Language.{InLanguage, Spot}
use Rattle.sheet_writer.specs.Bytes.{largest_sheet}
use Rattle.sheet_writer.specs.Sheets.{SomeActions}
use Rattle.parser.specs.Calling.{TextAnswer, written, refused, unreadable, too_many, ReadsInto, short, no-actions, long, judged}
use Rattle.parser_laws.specs.Outcomes.{IsSheet, MayRead, FewNodes, ManyNodes}
use Rattle.parser_laws.proofs.Exactly.{refused-14-exactly, refused-2-exactly, refused-31-exactly, refused-32-exactly, refused-33-exactly, sheet-exactly}
use Rattle.lemondarts_laws.specs.Session.{number_in, value_in}
use Rattle.lemondarts.specs.Texts.{TextReturns}
use Rattle.lemondarts_laws.proofs.TextNumbers.{SaysText, text_says, refused-low}

both : {A B C : Type 0} → A ↔ B → B ↔ C → A ↔ C
both f g = (λ a. g.0 (f.0 a), λ c. f.1 (g.1 c))

-- the spot of a refusal other than 32 is 0
no-spot : {text actions sheet sheet' : List ℕ} {number spot : ℕ} → ReadsInto text actions sheet (refused number spot) sheet' → (number ≡ 32 → ⊥) → spot ≡ 0
no-spot (short h) n = refl
no-spot (no-actions h m) n = refl
no-spot (long h s l) n = refl
no-spot (judged h s l _ _ (unreadable k m t)) n = absurd (n refl)
no-spot (judged h s l _ _ (too_many r a m)) n = refl

module _ {text actions sheet sheet' : List ℕ} {returned : ℕ} (r : TextReturns text actions sheet returned sheet') where
  says : SaysText r.answer returned
  says = subst (SaysText r.answer) (sym r.number) (text_says r.reads)

  refused_says : {number spot : ℕ} → r.answer ≡ refused number spot → (number_in returned ≡ number) × (value_in returned ≡ spot)
  refused_says e = subst (λ (x : TextAnswer). SaysText x returned) e says

  -- a number other than 0 is a refusal's, with its spot
  says-refused : (number : ℕ) → 1 ≤ number → number_in returned ≡ number → r.answer ≡ refused number (value_in returned)
  says-refused number some e = by r.answer says
    where
      by : (x : TextAnswer) → SaysText x returned → x ≡ refused number (value_in returned)
      by (written bytes count nodes) s = absurd (omega (arith, s.is-done))
      by (refused given spot) s = rw (← s.0, ← s.1, e)

  by_number : (number : ℕ) → 1 ≤ number → (number ≡ 32 → ⊥) → (number_in returned ≡ number) ↔ (r.answer ≡ refused number 0)
  by_number number some other = (λ e. there (says-refused number some e), λ e. (refused_says e).0)
    where
      there : r.answer ≡ refused number (value_in returned) → r.answer ≡ refused number 0
      there e =
          let zero : value_in returned ≡ 0 = no-spot (subst (λ (x : TextAnswer). ReadsInto text actions sheet x sheet') e r.reads) other in
          subst (λ (n : ℕ). r.answer ≡ refused number n) zero e

  by-spot : (spot : ℕ) → ((number_in returned ≡ 32) × (value_in returned ≡ spot)) ↔ (r.answer ≡ refused 32 spot)
  by-spot spot = (λ p. subst (λ (n : ℕ). r.answer ≡ refused 32 n) p.1 (says-refused 32 (omega arith) p.0), λ e. refused_says e)

  by_zero : (number_in returned ≡ 0) ↔ IsSheet r.answer
  by_zero = by r.answer r.reads says
    where
      by : (x : TextAnswer) → ReadsInto text actions sheet x sheet' → SaysText x returned → (number_in returned ≡ 0) ↔ IsSheet x
      by (written bytes count nodes) c s = (λ e. tt, λ i. s.is-done)
      by (refused number spot) c s = (λ e. absurd (omega (arith, (refused-low c).0, s.0)), λ i. absurd i)

  -- 14 is returned exactly when the output is too short.
  pub text-14-exactly : (number_in returned ≡ 14) ↔ (length sheet < largest_sheet)
  text-14-exactly = both (by_number 14 (omega arith) (λ e. omega arith)) (refused-14-exactly r.reads)

  -- 2 is returned exactly when 14 does not apply and the actions are not 1 to 16.
  pub text-2-exactly : (number_in returned ≡ 2) ↔ ((largest_sheet ≤ length sheet) × (SomeActions actions → ⊥))
  text-2-exactly = both (by_number 2 (omega arith) (λ e. omega arith)) (refused-2-exactly r.reads)

  -- 31 is returned exactly when neither applies and the text is too long.
  pub text-31-exactly : (number_in returned ≡ 31) ↔ ((largest_sheet ≤ length sheet) × SomeActions actions × (1024 < length text))
  text-31-exactly = both (by_number 31 (omega arith) (λ e. omega arith)) (refused-31-exactly r.reads)

  -- 32 is returned, with this spot as its value, exactly when none of those applies, the words are not in the language, and this is the spot where
  -- they leave it.
  pub text-32-exactly : {spot : ℕ}
      → ((number_in returned ≡ 32) × (value_in returned ≡ spot)) ↔ (MayRead text actions sheet × (InLanguage (words_of text) → ⊥) × Spot (words_of text) spot)
  text-32-exactly {spot} = both (by-spot spot) (refused-32-exactly r.reads)

  -- 33 is returned exactly when none of those applies and the reading has more than 64 nodes.
  pub text-33-exactly : (number_in returned ≡ 33) ↔ (MayRead text actions sheet × ManyNodes (words_of text))
  text-33-exactly = both (by_number 33 (omega arith) (λ e. omega arith)) (refused-33-exactly r.reads)

  -- 0 is returned, and a sheet written, exactly when none of the five applies.
  pub text-0-exactly : (number_in returned ≡ 0) ↔ (MayRead text actions sheet × FewNodes (words_of text))
  text-0-exactly = both by_zero (sheet-exactly r.reads)
