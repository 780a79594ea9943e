-- The operators in which the meanings are said: first action, suffixes, first fulfilment, up to it, what follows it, without some actions.
-- P is a property of sequences, as 'satisfies a'. proofs/Operators.antt says each in plain quantifiers.
-- Assumes nothing.
use Rattle.std.specs.Prelude.{Bool, cond, ◌&&◌, ◌||◌, List, [], ◌∷◌, ℕ, suc, take, drop}
use Rattle.std.proofs.Math.Option.{Option, none, some}

-- a property of sequences
abbrev pub Property : Type 0
Property = List ℕ → Bool

-- the first action is one of `hit`; `empty` is the answer where there is none
abbrev pub first_action : Bool → (ℕ → Bool) → Property
first_action empty hit [] = empty
first_action empty hit (a ∷ w) = hit a

-- some suffix satisfies P, the whole and the empty one among them
abbrev pub some_suffix : Property → Property
some_suffix P [] = P []
some_suffix P (a ∷ w) = P (a ∷ w) || some_suffix P w

-- every suffix satisfies P
abbrev pub every_suffix : Property → Property
every_suffix P [] = P []
every_suffix P (a ∷ w) = P (a ∷ w) && every_suffix P w

abbrev pub one_more : Option ℕ → Option ℕ
one_more none = none
one_more (some n) = some (suc n)

-- the first fulfilment: the length of the shortest prefix that satisfies P, if any does
abbrev pub first : Property → List ℕ → Option ℕ
first P [] = cond (P []) (some 0) none
first P (a ∷ w) = cond (P []) (some 0) (one_more (first (λ u. P (a ∷ u)) w))

-- the prefix up to and with a first fulfilment, or the whole if there is none
abbrev pub up_to : Option ℕ → List ℕ → List ℕ
up_to none w = w
up_to (some n) w = take n w

-- what follows a first fulfilment satisfies Q; `never` is the answer where there is no fulfilment
abbrev pub following : Bool → Option ℕ → Property → Property
following never none Q w = never
following never (some n) Q w = Q (drop n w)

-- the sequence without the actions of `hit`
abbrev pub without : (ℕ → Bool) → List ℕ → List ℕ
without hit [] = []
without hit (a ∷ w) = cond (hit a) (without hit w) (a ∷ without hit w)
