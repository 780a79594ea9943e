-- What a scan of a text from the left knows: of the blanks that it passed over, and of the word that it goes along.
-- Assumes nothing.
use mathlib.Core.Path.{◌≡◌, ap, sym, ◌∙◌}
use mathlib.Core.Bool.{true, false}
use mathlib.Core.List.{List, [], ◌∷◌, ◌++◌}
use Prim.Native.Nat.{ℕ, zero, suc, ◌+◌, ◌-◌, ◌≤◌, ◌<◌}
use native.Mathlib.Numerals.{add-one}
use native.Mathlib.Omega.{arith}
use lib.ListN.{length, get_or, take, drop, length-take, length-drop, take-append-drop, drop_of_length-le}
use lib.Seq.{drop-cons, get_or-drop, drop-drop}
use Rattle.grammar.specs.Words.{is_blank, words_of, Solid, Ended}
use Rattle.grammar.proofs.Parted.{blank-ahead, word-ahead}
use Rattle.lexer.specs.Next.{words_from, EndsWord}

-- There are no words behind the text.
pub no_words : (text : List ℕ) (k : ℕ) → length text ≤ k → words_from text k ≡ []
no_words text k h = rw (drop_of_length-le text h)

-- a byte more of a run of bytes that are no blanks
solid-more : (l : List ℕ) (n : ℕ) → n < length l → Solid (take n l) → is_blank (get_or l n 0) ≡ false → Solid (take (suc n) l)
solid-more [] n h s f = absurd (omega arith)
solid-more (byte ∷ l) zero h s f = (f, tt)
solid-more (byte ∷ l) (suc n) h s f = (s.0, solid-more l n (omega arith) s.1 f)

word-front : (run rest : List ℕ) → 0 < length run → Solid run → Ended rest → words_of (run ++ rest) ≡ run ∷ words_of rest
word-front [] rest h s d = absurd (omega arith)
word-front (byte ∷ more) rest h s d = word-ahead byte more rest s d

-- The bytes from one position up to another are one or more, and no blanks.
pub record Run (text : List ℕ) (from to : ℕ) : Type 0 where
  pub onward : from < to
  pub within : to ≤ length text
  pub solid : Solid (take (to - from) (drop from text))

pub run-begins : (text : List ℕ) (from : ℕ) → from < length text → is_blank (get_or text from 0) ≡ false → Run text from (from + 1)
run-begins text from h f =
    let one : (from + 1) - from ≡ suc 0 = omega arith in
    record { onward = omega arith; within = omega arith; solid = rw (one, drop-cons text from 0) (f, tt) }

module _ {text : List ℕ} {from k : ℕ} (r : Run text from k) where
  pub run_more : k < length text → is_blank (get_or text k 0) ≡ false → Run text from (k + 1)
  run_more h f =
      let next : (k + 1) - from ≡ suc (k - from) = omega arith in
      let there : from + (k - from) ≡ k = omega arith in
      let inside : k - from < length (drop from text) = rw length-drop (omega arith) in
      record { onward = omega arith; within = omega arith; solid = rw next (solid-more (drop from text) (k - from) inside r.solid (rw (get_or-drop, there) f)) }

  run_ends : Ended (drop k text) → EndsWord text from k
  run_ends d =
      let run = take (k - from) (drop from text) in
      let there : from + (k - from) ≡ k = omega arith in
      let some : 0 < length run = simp (length-take, length-drop) (omega arith) in
      let whole : run ++ drop k text ≡ drop from text = cc (take-append-drop (k - from) (drop from text), drop-drop (k - from) from text) in
      record { within = r.within; onward = r.onward; first_word = ap words_of (sym whole) ∙ word-front run (drop k text) some r.solid d }

  -- A word ends at a blank, or with the text.
  pub ends-at-blank : k < length text → is_blank (get_or text k 0) ≡ true → EndsWord text from k
  ends-at-blank h e = run_ends (rw (drop-cons text k 0) e)

  pub ends-with-text : length text ≤ k → EndsWord text from (length text)
  ends-with-text h = let e : k ≡ length text = omega arith in rw (← e) (run_ends (rw (drop_of_length-le text h) tt))
