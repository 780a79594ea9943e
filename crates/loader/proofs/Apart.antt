-- No two rows are alike exactly when a refinement gives each a class of its own.
-- Assumes nothing.
use mathlib.Core.Path.{◌≡◌, sym, ◌∙◌, ap, subst}
use mathlib.Core.List.{List}
use Rattle.std.proofs.Common.{Option, Some, None, nat_eq}
use Rattle.std.specs.Option.{option_eq}
use borrow.Author.Tests.{eq-eqb, ne_eqb}
use native.Mathlib.Decide.{ℕ_discrete}
use Rattle.base.specs.Build.{Decides}
use Prim.Native.Nat.{ℕ, zero, suc, ◌+◌, ◌-◌, ◌≤◌, ◌<◌}
use native.Mathlib.Nat.{add-zero}
use native.Mathlib.Omega.{arith}
use Rattle.automaton.specs.Machine.{AlikeStates, Distinct}
use Rattle.automaton.specs.Partition.{class_of, first_of, Partition, SplitsTo}
use Rattle.automaton.proofs.Classes.{Equivalence, alike-equivalence, related-class}
use Rattle.automaton.proofs.Splits.{over-not-all, over-not-partition}

-- a strictly increasing function keeps its distance
steps : (f : ℕ → ℕ) (n : ℕ) → ((c d : ℕ) → c < d → d < n → f c < f d) → (c j : ℕ) → c + j < n → f c + j ≤ f (c + j)
steps f n up c zero h = rw (add-zero c, add-zero (f c)) (omega arith)
steps f n up c (suc j) h =
    let one = up (c + j) (c + suc j) (omega arith) h in
    let more = steps f n up c j (omega arith) in
    omega arith

-- so it is the identity where it stays below n
identity : (f : ℕ → ℕ) (n : ℕ) → ((c d : ℕ) → c < d → d < n → f c < f d) → ((c : ℕ) → c < n → f c < n) → (c : ℕ) → c < n → f c ≡ c
identity f n up in-range c h =
    let low : f 0 + c ≤ f (0 + c) = steps f n up 0 c (omega arith) in
    let same : f (0 + c) ≡ f c = ap f (omega arith) in
    let high = steps f n up c (n - suc c) (omega arith) in
    let last = in-range (c + (n - suc c)) (omega arith) in
    omega arith

module _ (rows actions : ℕ) (entries : List ℕ) where
  abbrev like : Equivalence (AlikeStates 255 actions entries)
  like = alike-equivalence 255 actions entries

  module _ (count : ℕ) (classes firsts : List ℕ) (p : Partition (AlikeStates 255 actions entries) rows count classes firsts) where
    pub all_apart : count ≡ rows → Distinct 255 rows actions entries
    all_apart e = record { apart = equal }
      where
        own : (s : ℕ) → s < rows → class_of classes s ≡ s
        own s h =
            let g : s < count = omega arith in
            let i = identity (first_of firsts) count p.ordered (λ c l. subst (λ (n : ℕ). first_of firsts c < n) (sym e) (p.inside c l)) s g in
            ap (class_of classes) (sym i) ∙ p.own s g

        equal : (s t : ℕ) → s < rows → t < rows → AlikeStates 255 actions entries s t → s ≡ t
        equal s t h g r =
            sym (own s h) ∙ related-class p like s t h g r ∙ own t g

    pub not-all-apart : count ≤ rows → (count ≡ rows → ⊥) → Distinct 255 rows actions entries → ⊥
    not-all-apart l n d = over-not-partition p like count (record { pick = λ s. s; inside = λ s h. omega arith; apart = unrelated }) (omega arith)
      where
        unrelated : (s t : ℕ) → s < t → t ≤ count → AlikeStates 255 actions entries s t → ⊥
        unrelated s t g h r = let e = d.apart s t (omega arith) (omega arith) r in omega arith

  -- told by the number of classes found
  pub distinct_exactly : (found : Option ℕ) (classes firsts : List ℕ) → SplitsTo (AlikeStates 255 actions entries) rows rows found classes firsts
      → Decides (Distinct 255 rows actions entries) (option_eq nat_eq found (Some rows))
  distinct_exactly None classes firsts o = λ d. over-not-all like o
  distinct_exactly (Some count) classes firsts s =
      elim (ℕ_discrete count rows) [
        | yes e ↦ rw (eq-eqb count rows e) (all_apart count classes firsts s.1 e)
        | no n ↦ rw (ne_eqb count rows n) (not-all-apart count classes firsts s.1 s.0 n)
      ]
