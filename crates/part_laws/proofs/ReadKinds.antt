-- A node that is read from five fields: the text of its kind is its own words, its parts are the shape's, and its words are counted right.
-- Assumes nothing.
use Rattle.sheet_reading.specs.declared.NodeError.TheVariants.{WrongField, UnknownKind}
use Rattle.std.proofs.Common.{Err, Ok}
use mathlib.Core.Path.{◌≡◌, refl, sym, subst}
use mathlib.Core.Bool.{Bool, true, false, cond, ◌&&◌}
use mathlib.Core.List.{[], ◌∷◌, append-nil}
use Prim.Native.Nat.{ℕ, ◌+◌, ◌/◌, ◌%◌, ◌<◌}
use native.Mathlib.Omega.{arith}
use lib.Dec.{eqb, leb, ltb}
use lib.ListN.{length}
use borrow.Author.Tests.{eqb-true, leb-true, ltb-true, lt-ltb}
use Rattle.base.proofs.Truths.{and-true}
use Rattle.syntax.specs.Shape.{shape_of}
use Rattle.syntax.specs.declared.Node.{Node}
use Rattle.syntax.specs.declared.Node.TheVariants.{True, False, Proposition, Negation, Conjunction, Disjunction, Now, Holds, Count, Not, And, Or, Eventually, Always, BeforeMinus, BeforePlus, AfterMinus, AfterPlus, Fulfilling, Ignoring}
use Rattle.sheet_layout.specs.Layout.{in_range}
use Rattle.sheet_reading.specs.Reading.{NodeRead, given, read_fields}
use Rattle.grammar.specs.Spelling.{number_word}
use Rattle.messages.specs.Message.{decimal}
use Rattle.part_words.specs.Kinds.{kind_word, part_count}
use Rattle.part_words.specs.Parts.{argument_text, own_text, parts_among}
use Rattle.part_words.specs.Places.{word_count}
use Rattle.part_laws.specs.Spelled.{spaced_words}
use Rattle.part_laws.proofs.Shapes.{head_words, part_list}

-- a number below 100 in decimal, and as a word
pub same_number : (n : ℕ) → n < 100 → decimal n ≡ number_word n
unfolding decimal
same_number n h = rw (lt-ltb n 1000 (omega arith), lt-ltb n 100 h) (by (ltb n 10) refl)
  where
    by : (t : Bool) → ltb n 10 ≡ t
        → cond t ((48 + n % 10) ∷ []) ((48 + n / 10 % 10) ∷ (48 + n % 10) ∷ []) ≡ cond t ((48 + n) ∷ []) ((48 + n / 10) ∷ (48 + n % 10) ∷ [])
    by true e = let l = ltb-true n 10 e in let z : n % 10 ≡ n = omega arith in rw z
    by false e = let z : n / 10 % 10 ≡ n / 10 = omega arith in rw z

module _ (kind argument a b c : ℕ) where
  -- the fields say the node
  abbrev SaysBy : ℕ → Node → Type 0
  SaysBy kind node = (own_text kind argument ≡ spaced_words (head_words (shape_of node))) × (parts_among kind a b c ≡ part_list (shape_of node)) × (word_count kind ≡ length (head_words (shape_of node)))

  abbrev Says : Node → Type 0
  Says node = SaysBy kind node

  abbrev SaysRead : NodeRead → Type 0
  SaysRead (Ok node) = Says node
  SaysRead (Err WrongField) = Unit {0}
  SaysRead (Err UnknownKind) = Unit {0}

  record Said (r : NodeRead) : Type 0 where
    said : SaysRead r

  -- the kind is k, or one of the others
  said-cond : (k : ℕ) (x y : NodeRead) → (kind ≡ k → Said x) → Said y → Said (cond (eqb kind k) x y)
  said-cond k x y p q = by (eqb kind k) refl
    where
      by : (t : Bool) → eqb kind k ≡ t → Said (cond t x y)
      by true e = p (eqb-true kind k e)
      by false e = q

  said-given : (t : Bool) (node : Node) → (t ≡ true → Says node) → Said ((given t node))
  said-given true node f = record { said = f refl }
  said-given false node f = record { said = tt }

  as-kind : (k : ℕ) (node : Node) → SaysBy k node → kind ≡ k → Says node
  as-kind k node s e = subst (λ (x : ℕ). SaysBy x node) (sym e) s

  -- a kind whose word is all
  plain : (k : ℕ) (t : Bool) (node : Node) → SaysBy k node → kind ≡ k → Said ((given t node))
  plain k t node s e = said-given t node (λ r. as-kind k node s e)

  -- a kind with a number in a range
  ranged : (k low high : ℕ) (t : Bool) (node : Node) → high < 100 → (decimal argument ≡ number_word argument → SaysBy k node) → kind ≡ k
      → Said ((given (in_range low high argument && t) node))
  ranged k low high t node h s e =
      said-given (in_range low high argument && t) node
      (λ r.
      let g = and-true (leb low argument) (leb argument high) (and-true (in_range low high argument) t r).0 in
      let l = leb-true argument high g.1 in
      as-kind k node (s (same_number argument (omega arith))) e)

  -- the number behind the letter, and as a word of its own
  lettered : decimal argument ≡ number_word argument → own_text 3 argument ≡ spaced_words (head_words (shape_of (Proposition argument)))
  unfolding kind_word argument_text
  lettered e = rw (e, append-nil)

  counted : decimal argument ≡ number_word argument → own_text 12 argument ≡ spaced_words (head_words (shape_of (Count argument)))
  unfolding kind_word argument_text
  counted e = rw (e, append-nil)

  limited : decimal argument ≡ number_word argument → own_text 22 argument ≡ spaced_words (head_words (shape_of (Fulfilling argument a b c)))
  unfolding kind_word argument_text
  limited e = rw (e, append-nil)

  -- what check 5 tests of each number of parts
  abbrev no-part-left : Bool
  no-part-left = eqb a 0 && (eqb b 0 && eqb c 0)

  abbrev no_part : Bool
  no_part = eqb argument 0 && no-part-left

  abbrev one-part : ℕ → Bool
  one-part n = eqb argument 0 && (ltb a n && (eqb b 0 && eqb c 0))

  abbrev two-parts : ℕ → Bool
  two-parts n = eqb argument 0 && (ltb a n && (ltb b n && eqb c 0))

  abbrev three-parts : ℕ → Bool
  three-parts n = ltb a n && (ltb b n && ltb c n)

  read-said : (n : ℕ) → Said (read_fields n kind argument a b c)
  unfolding kind_word part_count argument_text word_count
  read-said n =
      said-cond 1 _ _ (plain 1 no_part True (refl, refl, refl))
      (said-cond 2 _ _ (plain 2 no_part False (refl, refl, refl))
      (said-cond 3 _ _ (ranged 3 0 15 no-part-left (Proposition argument) (omega arith) (λ e. (lettered e, refl, refl)))
      (said-cond 4 _ _ (plain 4 (one-part n) (Negation a) (refl, refl, refl))
      (said-cond 5 _ _ (plain 5 (two-parts n) (Conjunction a b) (refl, refl, refl))
      (said-cond 6 _ _ (plain 6 (two-parts n) (Disjunction a b) (refl, refl, refl))
      (said-cond 10 _ _ (plain 10 (one-part n) (Now a) (refl, refl, refl))
      (said-cond 11 _ _ (plain 11 (one-part n) (Holds a) (refl, refl, refl))
      (said-cond 12 _ _ (ranged 12 1 60 no-part-left (Count argument) (omega arith) (λ e. (counted e, refl, refl)))
      (said-cond 13 _ _ (plain 13 (one-part n) (Not a) (refl, refl, refl))
      (said-cond 14 _ _ (plain 14 (two-parts n) (And a b) (refl, refl, refl))
      (said-cond 15 _ _ (plain 15 (two-parts n) (Or a b) (refl, refl, refl))
      (said-cond 16 _ _ (plain 16 (one-part n) (Eventually a) (refl, refl, refl))
      (said-cond 17 _ _ (plain 17 (one-part n) (Always a) (refl, refl, refl))
      (said-cond 18 _ _ (plain 18 (two-parts n) (BeforeMinus a b) (refl, refl, refl))
      (said-cond 19 _ _ (plain 19 (two-parts n) (BeforePlus a b) (refl, refl, refl))
      (said-cond 20 _ _ (plain 20 (two-parts n) (AfterMinus a b) (refl, refl, refl))
      (said-cond 21 _ _ (plain 21 (two-parts n) (AfterPlus a b) (refl, refl, refl))
      (said-cond 22 _ _ (ranged 22 1 60 (three-parts n) (Fulfilling argument a b c) (omega arith) (λ e. (limited e, refl, refl)))
      (said-cond 23 _ (Err UnknownKind) (plain 23 (two-parts n) (Ignoring a b) (refl, refl, refl)) (record { said = tt }))))))))))))))))))))

  pub says-node : (n : ℕ) (node : Node) → read_fields n kind argument a b c ≡ Ok node
      → (own_text kind argument ≡ spaced_words (head_words (shape_of node))) × (parts_among kind a b c ≡ part_list (shape_of node)) × (word_count kind ≡ length (head_words (shape_of node)))
  says-node n node e = subst SaysRead e (read-said n).said
