-- The first denied action of a list that goes on: what stands behind it does not matter.
-- Assumes nothing.
use mathlib.Core.Path.{◌≡◌, sym, subst}
use mathlib.Core.Bool.{true, false}
use mathlib.Core.List.{List, [], ◌∷◌, ◌++◌}
use Prim.Native.Nat.{ℕ, suc, ◌+◌, ◌≤◌}
use native.Mathlib.Decide.{dec_le}
use native.Mathlib.Omega.{arith}
use lib.ListN.{length, take, length-append}
use lib.Seq.{take_all, take-append-le}
use Rattle.trace.specs.Trace.{Sequence}
use Rattle.syntax.specs.declared.Sheet.{Sheet}
use Rattle.explaining.specs.Denials.{policy_node, satisfies_node, NoneDenied, FirstDenied}

-- The parts of a sequence are sequences.
pub sequence-parts : (actions : ℕ) (v w : List ℕ) → Sequence actions (v ++ w) → Sequence actions v × Sequence actions w
sequence-parts actions [] w s = (tt, s)
sequence-parts actions (a ∷ v) w s = let (p, q) = sequence-parts actions v w s.1 in ((s.0, p), q)

module _ (sheet : Sheet) (w : List ℕ) where
  abbrev Satisfied : List ℕ → Type 0
  Satisfied u = satisfies_node sheet (policy_node sheet) u ≡ true

  -- Actions behind the first denied one do not change its place.
  pub first-denied-more : (u : List ℕ) {place : ℕ} → FirstDenied sheet w place → FirstDenied sheet (w ++ u) place
  first-denied-more u {place} d =
      record {
        inside = omega (arith, d.inside, length-append w u);
        permitted = λ k h. subst Satisfied (sym (take-append-le k w u (omega (arith, d.inside)))) (d.permitted k h);
        denied = subst (λ (l : List ℕ). satisfies_node sheet (policy_node sheet) l ≡ false) (sym (take-append-le (suc place) w u d.inside)) d.denied;
      }

  module _ (action : ℕ) (none : NoneDenied sheet w) where
    front : (k : ℕ) → k ≤ length w → Satisfied (take k (w ++ (action ∷ [])))
    front k h = subst Satisfied (sym (take-append-le k w (action ∷ []) h)) (none k h)

    whole : (k : ℕ) → length w + 1 ≤ k → take k (w ++ (action ∷ [])) ≡ w ++ (action ∷ [])
    whole k h = take_all k (w ++ (action ∷ [])) (omega (arith, length-append w (action ∷ [])))

    -- One more action that is not denied.
    pub none-denied-more : Satisfied (w ++ (action ∷ [])) → NoneDenied sheet (w ++ (action ∷ []))
    none-denied-more e k h = elim (dec_le k (length w)) [ yes g ↦ front k g | no g ↦ subst Satisfied (sym (whole k (omega arith))) e ]

    -- One more action that is the first denied one.
    pub first-denied-here : satisfies_node sheet (policy_node sheet) (w ++ (action ∷ [])) ≡ false → FirstDenied sheet (w ++ (action ∷ [])) (length w)
    first-denied-here e =
        record {
          inside = omega (arith, length-append w (action ∷ []));
          permitted = front;
          denied = subst (λ (l : List ℕ). satisfies_node sheet (policy_node sheet) l ≡ false) (sym (whole (suc (length w)) (omega arith))) e;
        }
