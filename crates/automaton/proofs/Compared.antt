-- Laws of signatures: having one signature is an equivalence, and a state's entries lie within the list.
-- Assumes nothing.
use mathlib.Core.Path.{◌≡◌, refl, sym, ◌∙◌}
use mathlib.Core.List.{List}
use Prim.Native.Nat.{ℕ, ◌+◌, ◌*◌, ◌≤◌, ◌<◌}
use native.Mathlib.Nat.{suc-mul, mul-le-mul_right}
use native.Mathlib.Omega.{arith}
use lib.ListN.{get_or}
use Rattle.automaton.specs.Partition.{class_of, SameSignature}
use Rattle.automaton.proofs.Classes.{Equivalence}

-- the class behind an action
abbrev pub behind_of : (actions : ℕ) (next classes : List ℕ) (s a : ℕ) → ℕ
behind_of actions next classes s a = class_of classes (get_or next (s * actions + a) 0)

-- a state's entries lie within the list
pub entries-within : (states actions n s : ℕ) → n ≡ states * actions → s < states → s * actions + actions ≤ n
entries-within states actions n s e h = omega (arith, suc-mul s actions, mul-le-mul_right actions h)

module _ (actions : ℕ) (next classes : List ℕ) where
  pub signature-equivalence : Equivalence (SameSignature actions next classes)
  signature-equivalence =
      record {
        reflexive = λ s. record { class = refl; behind = λ a h. refl };
        symmetric = λ s t e. record { class = sym e.class; behind = λ a h. sym (e.behind a h) };
        transitive = λ s t u d e. record { class = d.class ∙ e.class; behind = λ a h. d.behind a h ∙ e.behind a h };
      }
