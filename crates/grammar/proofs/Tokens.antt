-- Which of the language's words a word is: it is spelled so, and each of them is found by its spelling.
-- Assumes nothing.
use mathlib.Core.Path.{◌≡◌, refl, sym, subst, ◌∙◌, ap}
use mathlib.Core.Bool.{Bool, true, false}
use mathlib.Core.List.{List, [], ◌∷◌}
use Prim.Native.Nat.{ℕ, ◌≤◌}
use native.Mathlib.Omega.{arith}
use lib.Dec.{T, eqb, leb, leb→le}
use lib.ListN.{get_or, drop}
use borrow.Author.Tests.{eqb-true, leb-true, le-leb, ne_eqb}
use Rattle.grammar.specs.Words.{Word}
use Rattle.grammar.specs.Spelling.{word, number_word, proposition_word, same, value_of, is_number, is_proposition, whether, Keyword, keywords, token_in, token_of}
use Rattle.grammar.specs.declared.Token.{Token}
use Rattle.grammar.specs.declared.Token.TheVariants.{Watch, Enforce, Now, Holds, Count, Not, And, Or, Eventually, Always, Before, After, Fulfilling, Ignoring, True, False, Proposition, Number, Other}
use Rattle.base.proofs.Truths.{not-true, and-true}
use Rattle.grammar.proofs.Digits.{first-digit, value-digits, digits-value}

-- How a token is spelled.
abbrev pub Spelled : Token → Word → Type 0
Spelled Watch w = w ≡ word "watch"
Spelled Enforce w = w ≡ word "enforce"
Spelled Now w = w ≡ word "now"
Spelled Holds w = w ≡ word "holds"
Spelled Count w = w ≡ word "count"
Spelled Not w = w ≡ word "not"
Spelled And w = w ≡ word "and"
Spelled Or w = w ≡ word "or"
Spelled Eventually w = w ≡ word "eventually"
Spelled Always w = w ≡ word "always"
Spelled Before w = w ≡ word "before"
Spelled After w = w ≡ word "after"
Spelled Fulfilling w = w ≡ word "fulfilling"
Spelled Ignoring w = w ≡ word "ignoring"
Spelled True w = w ≡ word "true"
Spelled False w = w ≡ word "false"
Spelled (Proposition p) w = (p ≤ 15) × (w ≡ proposition_word p)
Spelled (Number k) w = (1 ≤ k) × (k ≤ 60) × (w ≡ number_word k)
Spelled Other w = Unit {0}

abbrev AllSpelled : List Keyword → Type 0
AllSpelled [] = Unit {0}
AllSpelled (k ∷ rest) = Spelled k.token k.letters × AllSpelled rest

record SpelledAs (t : Token) (w : Word) : Type 0 where
  spelled : Spelled t w

same_true : (v w : Word) → same v w ≡ true → v ≡ w
same_true [] [] e = refl
same_true [] (b ∷ w) e = not-true e
same_true (a ∷ v) [] e = not-true e
same_true (a ∷ v) (b ∷ w) e =
    let h = and-true (eqb a b) (same v w) e in
    cc (eqb-true a b h.0, same_true v w h.1)

proposition-spelled : (w : Word) → is_proposition w ≡ true → Spelled (Proposition (value_of (drop 1 w))) w
proposition-spelled [] e = not-true e
proposition-spelled (a ∷ v) e =
    let h = and-true (eqb a 112) (leb (value_of v) 15) e in
    let few = leb-true (value_of v) 15 h.1 in
    (few, cc (eqb-true a 112 h.0, value-digits v (omega arith)))

module _ (w : Word) where
  pick : (b : Bool) (t : Token) {others : Token} → (b ≡ true → Spelled t w) → SpelledAs others w → SpelledAs (whether b t others) w
  unfolding whether
  pick true t f g = record { spelled = f refl }
  pick false t f g = g

  -- a table of words, each spelled as its token
  in_table : (table : List Keyword) → AllSpelled table → {others : Token} → SpelledAs others w → SpelledAs (token_in table w others) w
  in_table [] h g = g
  in_table (k ∷ rest) h g =
      pick (same w k.letters) k.token (λ e. subst (Spelled k.token) (sym (same_true w k.letters e)) h.0) (in_table rest h.1 g)

  number_spelled : is_number w ≡ true → Spelled (Number (value_of w)) w
  number_spelled e =
      let h = and-true (leb 1 (value_of w)) (leb (value_of w) 60) e in
      let few = leb-true (value_of w) 60 h.1 in
      (leb-true 1 (value_of w) h.0, few, value-digits w (omega arith))

  spelled_as : SpelledAs (token_of w) w
  unfolding token_of
  spelled_as =
      in_table keywords (refl, (refl, (refl, (refl, (refl, (refl, (refl, (refl, (refl, (refl, (refl, (refl, (refl, (refl, (refl, (refl, tt))))))))))))))))
      (pick (is_proposition w) (Proposition (value_of (drop 1 w))) (proposition-spelled w)
      (pick (is_number w) (Number (value_of w)) number_spelled (record { spelled = tt })))

pub token-spelled : (w : Word) → Spelled (token_of w) w
token-spelled w = (spelled_as w).spelled

-- A word that begins with a digit is no keyword and no proposition: these begin with letters.
number-found : (w : Word) → get_or w 0 0 ≤ 57 → is_number w ≡ true → token_of w ≡ Number (value_of w)
unfolding token_of whether
number-found [] h e = not-true e
number-found (a ∷ v) h e =
    rw (no 119 tt, no 101 tt, no 110 tt, no 104 tt, no 99 tt, no 97 tt, no 111 tt, no 98 tt, no 102 tt, no 105 tt, no 116 tt, no 112 tt, e)
  where
    no : (b : ℕ) → T (leb 97 b) → eqb a b ≡ false
    no b t = let l = leb→le 97 b t in ne_eqb a b (λ z. omega arith)

pub number-token : (k : ℕ) → 1 ≤ k → k ≤ 60 → token_of (number_word k) ≡ Number k
number-token k l h = number-found (number_word k) (first-digit k (omega arith)) (rw (e, le-leb 1 k, le-leb k 60)) ∙ ap Number e
  where
    e : value_of (number_word k) ≡ k
    e = digits-value k (omega arith)

pub proposition-token : (p : ℕ) → p ≤ 15 → token_of (proposition_word p) ≡ Proposition p
unfolding token_of whether
proposition-token p h = rw (digits-value p (omega arith), le-leb p 15)
