-- Laws of the kinds: their words have no holes, and none has more than three parts.
-- Assumes nothing.
use mathlib.Core.Path.{◌≡◌, refl}
use mathlib.Core.Bool.{Bool, true, not, ◌&&◌}
use mathlib.Core.List.{List, [], ◌∷◌}
use Prim.Native.Nat.{ℕ, zero, suc, ◌≤◌}
use native.Mathlib.Omega.{arith}
use lib.Dec.{eqb, leb}
use lib.ListN.{get_or}
use borrow.Author.Tests.{not-true, leb-true}
use Rattle.base.proofs.Truths.{and-true}
use Rattle.messages.specs.Message.{hole, filled}
use Rattle.part_words.specs.Kinds.{kind_words, kind_word, part_counts, part_count}

-- no byte of a message is a hole
abbrev unholed : List ℕ → Bool
unholed [] = true
unholed (byte ∷ rest) = not (eqb byte 35) && (not (eqb byte 37) && (not (eqb byte 64) && (not (eqb byte 126) && unholed rest)))

unfilled : (message : List ℕ) → unholed message ≡ true → filled message 0 0 [] ≡ message
unfolding filled hole
unfilled [] e = refl
unfilled (byte ∷ rest) e =
    let p = and-true (not (eqb byte 35)) _ e in
    let q = and-true (not (eqb byte 37)) _ p.1 in
    let r = and-true (not (eqb byte 64)) _ q.1 in
    let s = and-true (not (eqb byte 126)) _ r.1 in
    rw (not-true (eqb byte 35) p.0, not-true (eqb byte 37) q.0, not-true (eqb byte 64) r.0, not-true (eqb byte 126) s.0, unfilled rest s.1)

abbrev all_unholed : List (List ℕ) → Bool
all_unholed [] = true
all_unholed (message ∷ rest) = unholed message && all_unholed rest

unholed-at : (messages : List (List ℕ)) → all_unholed messages ≡ true → (i : ℕ) → unholed (get_or messages i []) ≡ true
unholed-at [] e i = refl
unholed-at (message ∷ rest) e zero = (and-true (unholed message) (all_unholed rest) e).0
unholed-at (message ∷ rest) e (suc i) = unholed-at rest (and-true (unholed message) (all_unholed rest) e).1 i

pub word-unfilled : (kind : ℕ) → filled (get_or kind_words kind []) 0 0 [] ≡ kind_word kind
unfolding kind_word
word-unfilled kind = unfilled (get_or kind_words kind []) (unholed-at kind_words refl kind)

-- at most three
abbrev all_few : List ℕ → Bool
all_few [] = true
all_few (n ∷ rest) = leb n 3 && all_few rest

few-at : (counts : List ℕ) → all_few counts ≡ true → (i : ℕ) → get_or counts i 0 ≤ 3
few-at [] e i = omega arith
few-at (n ∷ rest) e zero = leb-true n 3 (and-true (leb n 3) (all_few rest) e).0
few-at (n ∷ rest) e (suc i) = few-at rest (and-true (leb n 3) (all_few rest) e).1 i

pub few-parts : (kind : ℕ) → part_count kind ≤ 3
unfolding part_count
few-parts kind = few-at part_counts refl kind
