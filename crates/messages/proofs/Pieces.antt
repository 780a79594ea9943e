-- Pieces by their cases, and by one byte more.
-- Assumes nothing.
use mathlib.Core.Path.{◌≡◌, refl, sym, ap, ◌∙◌}
use mathlib.Core.List.{List, [], ◌∷◌, ◌++◌, append_assoc, append-nil}
use Prim.Native.Nat.{ℕ, ◌+◌, ◌/◌, ◌≤◌, ◌<◌}
use native.Mathlib.Numerals.{add-one}
use native.Mathlib.Omega.{arith}
use borrow.Author.Tests.{lt-ltb, le-ltb}
use lib.ListN.{length, take, get_or}
use lib.Seq.{take-suc, take-length}
use Rattle.messages.specs.Message.{digit, short, three, decimal, shown, all_shown, quoted, hole, filled}

-- numbers by their size
pub short-one : (n : ℕ) → n < 10 → digit n ≡ short n
short-one n h = simp (lt-ltb n 10 h)

pub short-two : (n : ℕ) → 10 ≤ n → n < 100 → digit (n / 10) ++ digit n ≡ short n
short-two n l h = simp (le-ltb n 10 l, lt-ltb n 100 h)

pub short-three : (n : ℕ) → 100 ≤ n → three n ≡ short n
short-three n l = let m : 10 ≤ n = omega arith in simp (le-ltb n 10 m, le-ltb n 100 l)

pub decimal-low : (n : ℕ) → n < 1000 → short n ≡ decimal n
unfolding decimal
decimal-low n h = rw (lt-ltb n 1000 h)

pub decimal-high : (n : ℕ) → 1000 ≤ n → short (n / 1000) ++ three n ≡ decimal n
unfolding decimal
decimal-high n h = rw (le-ltb n 1000 h)

pub quoted-long : (w : List ℕ) → 40 < length w → 34 ∷ (all_shown (take 40 w) ++ (46 ∷ 46 ∷ 34 ∷ [])) ≡ quoted w
unfolding quoted
quoted-long w h = rw (lt-ltb 40 (length w) h)

pub quoted-short : (w : List ℕ) → length w ≤ 40 → 34 ∷ (all_shown (take 40 w) ++ (34 ∷ [])) ≡ quoted w
unfolding quoted
quoted-short w h = rw (le-ltb 40 (length w) h)

-- one byte more
pub bytes-more : (w : List ℕ) (k : ℕ) → k < length w → take k w ++ (get_or w k 0 ∷ []) ≡ take (k + 1) w
bytes-more w k h = rw (add-one k) (sym (take-suc w k 0 h))

pub shown-all : (w : List ℕ) → all_shown (take (length w) w) ≡ all_shown w
shown-all w = ap all_shown (take-length w)

shown-append : (a b : List ℕ) → all_shown (a ++ b) ≡ all_shown a ++ all_shown b
shown-append [] b = refl
shown-append (x ∷ a) b = ap (λ (l : List ℕ). shown x ++ l) (shown-append a b) ∙ sym (append_assoc (shown x) (all_shown a) (all_shown b))

pub shown-more : (w : List ℕ) (k : ℕ) → k < length w → all_shown (take k w) ++ shown (get_or w k 0) ≡ all_shown (take (k + 1) w)
shown-more w k h =
    rw (add-one k, take-suc w k 0) (sym (shown-append (take k w) (get_or w k 0 ∷ []) ∙ ap (λ (l : List ℕ). all_shown (take k w) ++ l) (append-nil (shown (get_or w k 0)))))

module _ (first second : ℕ) (word : List ℕ) where
  filled-append : (a b : List ℕ) → filled (a ++ b) first second word ≡ filled a first second word ++ filled b first second word
  unfolding filled
  filled-append [] b = refl
  filled-append (x ∷ a) b =
      ap (λ (l : List ℕ). hole x first second word ++ l) (filled-append a b)
      ∙ sym (append_assoc (hole x first second word) (filled a first second word) (filled b first second word))

  pub filled_none : filled [] first second word ≡ []
  unfolding filled
  filled_none = refl

  filled-one : (byte : ℕ) → filled (byte ∷ []) first second word ≡ hole byte first second word
  unfolding filled
  filled-one byte = append-nil (hole byte first second word)

  pub filled-all : (m : List ℕ) → filled (take (length m) m) first second word ≡ filled m first second word
  filled-all m = ap (λ (l : List ℕ). filled l first second word) (take-length m)

  pub filled_more : (m : List ℕ) (k : ℕ) → k < length m
      → filled (take k m) first second word ++ hole (get_or m k 0) first second word ≡ filled (take (k + 1) m) first second word
  filled_more m k h =
      rw (add-one k, take-suc m k 0) (sym (filled-append (take k m) (get_or m k 0 ∷ []) ∙ ap (λ (l : List ℕ). filled (take k m) first second word ++ l) (filled-one (get_or m k 0))))
