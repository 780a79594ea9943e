-- A text has at most one word to two of its bytes, rounded up: so the spot of refusal 32 is at most 512.
-- Assumes nothing.
use mathlib.Core.Path.{◌≡◌, refl}
use mathlib.Core.List.{List, ◌∷◌}
use Prim.Native.Nat.{ℕ, ◌+◌, ◌*◌, ◌≤◌}
use native.Mathlib.Omega.{arith}
use lib.ListN.{length, length-append}
use Rattle.grammar.specs.Words.{Word, words_of, Ended, Parted, done, blank, word}
use Rattle.grammar.proofs.Parted.{parted}
use Rattle.parser.specs.Calling.{refused, ReadsInto}
use Rattle.parser_laws.proofs.Exactly.{refused-32-exactly}

-- Words of a text: a text that does not begin with a word has one byte more, for a blank stands before each of its words.
record Few (text : List ℕ) (words : List Word) : Type 0 where
  at_most : 2 * length words ≤ length text + 1
  behind-blank : Ended text → 2 * length words ≤ length text

few : {text : List ℕ} {words : List Word} → Parted text words → Few text words
few done = record { at_most = omega arith; behind-blank = λ d. omega arith }
few (blank e p) = let f = few p in record { at_most = omega arith; behind-blank = λ d. omega arith }
few (word {byte} {more} {rest} s d p) =
    let f = (few p).behind-blank d in
    record {
      at_most = omega (arith, length-append (byte ∷ more) rest);
      behind-blank = λ b. let z : ◌≡◌ {A = ℕ} 0 1 = cc s.0 in omega arith;
    }

pub few_words : (text : List ℕ) → 2 * length (words_of text) ≤ length text + 1
few_words text = (few (parted text)).at_most

-- The spot of refusal 32 is at most 512: the text has at most 1,024 bytes.
pub spot-low : {text actions out out'' : List ℕ} {k : ℕ} → ReadsInto text actions out (refused 32 k) out'' → k ≤ 512
spot-low {text} call = let p = (refused-32-exactly call).0 refl in omega (arith, p.0.short, p.2.within, few_words text)
