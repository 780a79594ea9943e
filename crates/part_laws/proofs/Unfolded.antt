-- Nodes on a stack, unfolded: how many they are with their parts, and their text. Where that is no more than is said, it is what is said.
-- Assumes nothing.
use mathlib.Core.Path.{◌≡◌, refl, sym, ap, subst}
use mathlib.Core.List.{List, [], ◌∷◌, ◌++◌, append_assoc}
use Prim.Native.Nat.{ℕ, zero, suc, ◌+◌, ◌≤◌}
use native.Mathlib.Nat.{zero-add}
use native.Mathlib.Omega.{arith}
use Rattle.part_words.specs.Parts.{node_text, node_parts, stack_text}

pub data Unfolded (sheet : List ℕ) : (stack : List ℕ) (size : ℕ) (text : List ℕ) → Type 0 where
  none : Unfolded sheet [] 0 []
  more : {node size : ℕ} {stack text : List ℕ} → Unfolded sheet (node_parts sheet node ++ stack) size text → Unfolded sheet (node ∷ stack) (suc size) (node_text sheet node ++ text)

module _ {sheet : List ℕ} where
  pub unfolded-as : {stack text other : List ℕ} {size count : ℕ} → size ≡ count → text ≡ other → Unfolded sheet stack size text → Unfolded sheet stack count other
  unfolded-as {stack} {text} {count} p q u = subst (Unfolded sheet stack count) q (subst (λ (n : ℕ). Unfolded sheet stack n text) p u)

  -- one stack on another
  pub unfolded-then : {a b s t : List ℕ} {m n : ℕ} → Unfolded sheet a m s → Unfolded sheet b n t → Unfolded sheet (a ++ b) (m + n) (s ++ t)
  unfolded-then {n} none v = unfolded-as (sym (zero-add n)) refl v
  unfolded-then {b} {t} {n} (more {node} {size} {stack} {text} u) v =
      unfolded-as (omega arith) (sym (append_assoc (node_text sheet node) text t))
      (more (subst (λ (l : List ℕ). Unfolded sheet l (size + n) (text ++ t)) (append_assoc (node_parts sheet node) stack b) (unfolded-then u v)))

  pub unfolded-text : {stack text : List ℕ} {size : ℕ} → Unfolded sheet stack size text → (n : ℕ) → size ≤ n → stack_text sheet n stack ≡ text
  unfolding stack_text
  unfolded-text none zero h = refl
  unfolded-text none (suc n) h = refl
  unfolded-text (more u) zero h = absurd (omega arith)
  unfolded-text (more {node} u) (suc n) h = ap (λ (l : List ℕ). node_text sheet node ++ l) (unfolded-text u n (omega arith))
