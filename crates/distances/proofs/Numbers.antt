-- The states below s split by a number of each, with the class of each number so far.
-- Assumes nothing.
use mathlib.Core.Path.{◌≡◌, refl, sym, ap, ◌∙◌}
use mathlib.Core.List.{List}
use Prim.Native.Nat.{ℕ, ◌+◌, ◌<◌}
use native.Mathlib.Decide.{ℕ_discrete, dec_lt}
use native.Mathlib.Omega.{arith}
use Rattle.std.proofs.Common.{Option, Some, None}
use lib.ListN.{length, get_or, set, replicate, length-set, get_or-replicate, get_or-eq_default}
use lib.Seq.{get_or-set_same, get_or-set_other}
use Rattle.distances.specs.Distances.{SameNumber}
use Rattle.automaton.specs.Partition.{first_of}
use Rattle.automaton.proofs.Classes.{Equivalence}

pub number-equivalence : (numbers : List ℕ) → Equivalence (SameNumber numbers)
number-equivalence numbers = record { reflexive = λ s. refl; symmetric = λ s t e. sym e; transitive = λ s t u d e. d ∙ e }

some_is : {a b : ℕ} → Some a ≡ Some b → a ≡ b
some_is e = cc

-- The class of each number that a first member has; none for any other.
pub record Known (numbers firsts : List ℕ) (count : ℕ) (known : List (Option ℕ)) : Type 0 where
  pub long : length known ≡ 256
  pub class : (v d : ℕ) → get_or known v None ≡ Some d → (d < count) × (get_or numbers (first_of firsts d) 0 ≡ v)
  pub none : (v : ℕ) → v < 256 → get_or known v None ≡ None → (c : ℕ) → c < count → get_or numbers (first_of firsts c) 0 ≡ v → ⊥

pub none-known : (numbers firsts : List ℕ) → Known numbers firsts 0 (replicate 256 None)
none-known numbers firsts = record { long = refl; class = λ v d e. absurd (unknown v d e); none = λ v h e c g. absurd (omega arith) }
  where
    nowhere : (v : ℕ) → get_or {A = Option ℕ} (replicate 256 None) v None ≡ None
    nowhere v = elim (dec_lt v 256) [ yes h ↦ get_or-replicate 256 v None None h | no h ↦ get_or-eq_default (replicate 256 None) None {n = v} (omega arith) ]

    unknown : (v d : ℕ) → get_or {A = Option ℕ} (replicate 256 None) v None ≡ Some d → ⊥
    unknown v d e = let z : None ≡ Some d = sym (nowhere v) ∙ e in cc

-- the number of state s has no class yet, and begins one
module _ (numbers firsts : List ℕ) (count number s : ℕ) (known : List (Option ℕ)) (k : Known numbers firsts count known) (small : number < 256)
    (room : count < length firsts) (mine : get_or numbers s 0 ≡ number) where
  abbrev now : List (Option ℕ)
  now = set known number (Some count)

  own : get_or now number None ≡ Some count
  own = get_or-set_same known number (Some count) None (omega (arith, k.long))

  kept : (v : ℕ) → (v ≡ number → ⊥) → get_or now v None ≡ get_or known v None
  kept v q = get_or-set_other known number v (Some count) None q

  abbrev then : List ℕ
  then = set firsts count s

  first-kept : (d : ℕ) → d < count → first_of then d ≡ first_of firsts d
  first-kept d h = get_or-set_other firsts count d s 0 (omega arith)

  first-new : first_of then count ≡ s
  first-new = get_or-set_same firsts count s 0 room

  class : (v d : ℕ) → get_or now v None ≡ Some d → (d < count + 1) × (get_or numbers (first_of then d) 0 ≡ v)
  class v d e =
      elim (ℕ_discrete v number) [
        | yes p ↦ let q : count ≡ d = some_is (sym own ∙ ap (λ (x : ℕ). get_or now x None) (sym p) ∙ e) in
            rw (← q, first-new) (omega arith, mine ∙ sym p)
        | no p ↦ let o = k.class v d (sym (kept v p) ∙ e) in rw (first-kept d o.0) (omega (arith, o.0), o.1)
      ]

  none : (v : ℕ) → v < 256 → get_or now v None ≡ None → (c : ℕ) → c < count + 1 → get_or numbers (first_of then c) 0 ≡ v → ⊥
  none v h e c g p =
      elim (ℕ_discrete v number) [
        | yes q ↦ let z : Some count ≡ None = sym own ∙ ap (λ (x : ℕ). get_or now x None) (sym q) ∙ e in cc
        | no q ↦ elim (ℕ_discrete c count) [
          | yes r ↦ q (sym p ∙ ap (λ (x : ℕ). get_or numbers x 0) (ap (first_of then) r ∙ first-new) ∙ mine)
          | no r ↦ k.none v h (sym (kept v q) ∙ e) c (omega arith) (rw (first-kept c (omega arith)) at p)
        ]
      ]

  pub known-begins : Known numbers (set firsts count s) (count + 1) (set known number (Some count))
  known-begins = record { long = length-set known number (Some count) ∙ k.long; class = class; none = none }
