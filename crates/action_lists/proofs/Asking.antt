-- Numbers in decimal, and the actions read so far.
-- Assumes nothing.
use mathlib.Core.Path.{◌≡◌, refl, sym, ap, ◌∙◌}
use mathlib.Core.Bool.{Bool, true, false, cond, not, ◌&&◌}
use mathlib.Core.List.{List, [], ◌∷◌, map, map-append}
use Prim.Native.Nat.{ℕ, zero, suc, ◌+◌, ◌*◌, ◌-◌, ◌≤◌, ◌<◌}
use native.Mathlib.Numerals.{add-one}
use native.Mathlib.Omega.{arith}
use lib.Dec.{eqb}
use lib.ListN.{length, get_or, take, drop, set, length-set, length-drop, drop_of_length-le}
use lib.Seq.{drop-cons, take-suc, take-suc-set}
use borrow.Author.Tests.{lt-ltb, le-ltb}
use Rattle.grammar.specs.Words.{Word}
use Rattle.grammar.specs.Spelling.{is_digit}
use Rattle.action_lists.specs.AskedLists.{all_digits, digits_value, unpadded, number_from, asked_of, ReadsList}

-- Zeros before the last byte.
pub short_unpadded : (word : Word) → length word < 2 → unpadded word ≡ eqb (length word) 1
unfolding unpadded
short_unpadded [] h = refl
short_unpadded (digit ∷ []) h = refl
short_unpadded (digit ∷ next ∷ rest) h = absurd (omega arith)

pub long_unpadded : (word : Word) → 2 ≤ length word → unpadded word ≡ not (eqb (get_or word 0 0) 48)
unfolding unpadded
long_unpadded [] h = absurd (omega arith)
long_unpadded (digit ∷ []) h = absurd (omega arith)
long_unpadded (digit ∷ next ∷ rest) h = refl

-- A value only grows by the digits after it.
decimal-grows : (value : ℕ) (word : Word) → value ≤ digits_value value word
decimal-grows value [] = omega arith
decimal-grows value (digit ∷ rest) = omega (arith, decimal-grows (10 * value + (digit - 48)) rest)

pub number-large : (value : ℕ) (word : Word) → 255 ≤ value → number_from value word ≡ 255
unfolding number_from
number-large value word h = rw (le-ltb (digits_value value word) 255 (omega (arith, decimal-grows value word))) (either (all_digits word))
  where
    either : (b : Bool) → cond (b && false) (digits_value value word) 255 ≡ 255
    either true = refl
    either false = refl

pub number-ends : (value : ℕ) (word : Word) (k : ℕ) → value ≤ 254 → length word ≤ k → number_from value (drop k word) ≡ value
unfolding number_from
number-ends value word k h l = rw (drop_of_length-le word l, lt-ltb value 255 (omega arith))

module _ (value : ℕ) (word : Word) (k : ℕ) (h : k < length word) where
  pub digit-more : is_digit (get_or word k 0) ≡ true → number_from value (drop k word) ≡ number_from (10 * value + (get_or word k 0 - 48)) (drop (k + 1) word)
  unfolding number_from
  digit-more e = rw (add-one, drop-cons word k 0, e)

  pub number-wrong : is_digit (get_or word k 0) ≡ false → number_from value (drop k word) ≡ 255
  unfolding number_from
  number-wrong e = rw (drop-cons word k 0, e)

-- A list that is read in part: what is left, and what was read.
pub record Asked (names words left : List Word) (size : ℕ) (list : List ℕ) (count : ℕ) : Type 0 where
  pub sized : length list ≡ size
  pub room : count ≤ size
  pub there : count ≤ length words
  pub behind : left ≡ drop count words
  pub so_far : take count list ≡ map (asked_of names) (take count words)

pub none-asked : (names words : List Word) (list : List ℕ) → Asked names words words (length list) list 0
none-asked names words list = record { sized = refl; room = omega arith; there = omega arith; behind = refl; so_far = refl }

left-some : (words rest : List Word) (first : Word) (count : ℕ) → first ∷ rest ≡ drop count words → (count < length words) × (get_or words count [] ≡ first) × (rest ≡ drop (suc count) words)
left-some [] rest first zero e = absurd (let z : ◌≡◌ {A = ℕ} 0 1 = cc in omega arith)
left-some [] rest first (suc count) e = absurd (let z : ◌≡◌ {A = ℕ} 0 1 = cc in omega arith)
left-some (word ∷ words) rest first zero e = (omega arith, cc, cc)
left-some (word ∷ words) rest first (suc count) e = let s = left-some words rest first count e in (omega (arith, s.0), s.1, s.2)

module _ {names words left : List Word} {size : ℕ} {list : List ℕ} {count : ℕ} (a : Asked names words left size list count) where
  pub one-asked : {first : Word} {rest : List Word} {value : ℕ} → count < size → left ≡ first ∷ rest → value ≡ asked_of names first
      → Asked names words rest size (set list count value) (count + 1)
  one-asked {first} {rest} {value} h e v =
      let s = left-some words rest first count (sym e ∙ a.behind) in
      let r : count < length list = omega (arith, a.sized) in
      record {
        sized = simp length-set a.sized;
        room = omega arith;
        there = omega (arith, s.0);
        behind = rw add-one s.2;
        so_far = rw (add-one, take-suc-set list count value r, take-suc words count [] s.0, map-append, s.1, a.so_far, v);
      }

-- The whole list is read: no words are left, or no room is.
module _ {names words left : List Word} (old : List ℕ) {list : List ℕ} {count : ℕ} (a : Asked names words left (length old) list count) where
  pub words-end : left ≡ [] → ReadsList names words old list count
  words-end e =
      let z : length words - count ≡ 0 = simp length-drop at (ap length (sym a.behind ∙ e)) in
      record { sized = a.sized; counted = omega (arith, a.there, a.room); read = a.so_far }

  pub room-ends : length list ≤ count → ReadsList names words old list count
  room-ends h = record { sized = a.sized; counted = omega (arith, a.there, a.room, a.sized); read = a.so_far }
