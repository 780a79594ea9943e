-- The number that reading a text returns says the whole answer: a sheet's length, actions and nodes, or a refusal's number and spot.
-- Assumes nothing.
use mathlib.Core.Path.{◌≡◌, sym, subst}
use mathlib.Core.List.{List, [], ◌∷◌}
use Prim.Native.Nat.{ℕ, ◌≤◌}
use native.Mathlib.Omega.{arith}
use Rattle.parser.specs.Calling.{TextAnswer, written, refused, unreadable, too_many, ReadsInto, short, no-actions, long, judged}
use Rattle.parser_laws.proofs.Exactly.{sheet-exactly}
use Rattle.sheet_writer.specs.Bytes.{largest_sheet}
use Rattle.parser_laws.proofs.Written.{sheet-counts}
use Rattle.parser_laws.proofs.FewWords.{spot-low}
use Rattle.base.specs.Fields.{field_in}
use Rattle.lemondarts_laws.specs.Session.{number_in, value_in}
use Rattle.answers.specs.Texts.{packed_text}
use Rattle.lemondarts.specs.Texts.{TextReturns}
use Rattle.base.proofs.Fields.{field_back}
use Rattle.lemondarts_laws.proofs.Answers.{number_of, value_of}

-- The number of a written sheet: 0, and its length in bytes, its actions and its nodes.
pub record SheetNumber (bytes actions nodes returned : ℕ) : Type 0 where
  pub is-done : number_in returned ≡ 0
  pub is-length : value_in returned ≡ bytes
  pub is-actions : field_in 2 returned ≡ actions
  pub is-nodes : field_in 3 returned ≡ nodes

-- What a returned number says of the reader's answer.
abbrev pub SaysText : TextAnswer → ℕ → Type 0
SaysText (written bytes actions nodes) returned = SheetNumber bytes actions nodes returned
SaysText (refused number spot) returned = (number_in returned ≡ number) × (value_in returned ≡ spot)

-- what an answer can be: each of its numbers is small
written_low : {text actions sheet sheet' : List ℕ} {bytes count nodes : ℕ} → ReadsInto text actions sheet (written bytes count nodes) sheet'
    → (bytes ≤ largest_sheet) × (count ≤ 16) × (nodes ≤ 64)
written_low call =
    let (may, few) = (sheet-exactly call).0 tt in
    let (size, listed, held) = sheet-counts call few.within.reads in
    let most = few.few in
    let some = may.some-actions.few in
    (omega arith, omega arith, omega arith)

-- A refusal's number is 1 to 33, and its spot 512 at most.
pub refused-low : {text actions sheet sheet' : List ℕ} {number spot : ℕ} → ReadsInto text actions sheet (refused number spot) sheet'
    → (1 ≤ number) × (number ≤ 33) × (spot ≤ 512)
refused-low (short h) = (omega arith, omega arith, omega arith)
refused-low (no-actions h n) = (omega arith, omega arith, omega arith)
refused-low (long h s l) = (omega arith, omega arith, omega arith)
refused-low {text} {sheet = sheet} (judged h s l _ _ (unreadable k n t)) =
    (omega arith, omega arith, spot-low {text = text} {out = sheet} (judged h s l _ _ (unreadable k n t)))
refused-low (judged h s l _ _ (too_many r a m)) = (omega arith, omega arith, omega arith)

sheet-says : (bytes actions nodes : ℕ) → bytes ≤ largest_sheet → actions ≤ 16 → nodes ≤ 64
    → SheetNumber bytes actions nodes (packed_text (written bytes actions nodes))
sheet-says bytes actions nodes b a n =
    let fields : List ℕ = 0 ∷ bytes ∷ actions ∷ nodes ∷ [] in
    record {
      is-done = field_back 0 fields (omega arith) (omega arith);
      is-length = field_back 1 fields (omega arith) (omega arith);
      is-actions = field_back 2 fields (omega arith) (omega arith);
      is-nodes = field_back 3 fields (omega arith) (omega arith);
    }

pub text_says : {text actions sheet sheet' : List ℕ} {answer : TextAnswer} → ReadsInto text actions sheet answer sheet'
    → SaysText answer (packed_text answer)
text_says {answer = written bytes count nodes} call = let (b, c, n) = written_low call in sheet-says bytes count nodes b c n
text_says {answer = refused number spot} call =
    let (some, n, s) = refused-low call in (number_of number spot (omega arith), value_of number spot (omega arith))

-- Where 0 is returned a sheet is written: its length in bytes, its actions and its nodes are the other fields.
pub text-zero : {text actions sheet sheet' : List ℕ} {returned : ℕ} → TextReturns text actions sheet returned sheet' → number_in returned ≡ 0
    → ReadsInto text actions sheet (written (value_in returned) (field_in 2 returned) (field_in 3 returned)) sheet'
text-zero {text} {actions} {sheet} {sheet'} {returned} r zero =
    by r.answer r.reads (subst (SaysText r.answer) (sym r.number) (text_says r.reads))
  where
    by : (answer : TextAnswer) → ReadsInto text actions sheet answer sheet' → SaysText answer returned
        → ReadsInto text actions sheet (written (value_in returned) (field_in 2 returned) (field_in 3 returned)) sheet'
    by (written bytes count nodes) reads s = rw (s.is-length, s.is-actions, s.is-nodes) reads
    by (refused number spot) reads s = absurd (omega (arith, (refused-low reads).0, s.0))
