-- Laws of the parts of a node, of the stack that they are put on, and of the text of a stack.
-- Assumes nothing.
use mathlib.Core.Path.{◌≡◌, refl, ◌∙◌}
use mathlib.Core.List.{List, [], ◌∷◌, ◌++◌}
use Prim.Native.Nat.{ℕ, zero, suc, ◌+◌, ◌-◌, ◌≤◌, ◌<◌}
use native.Mathlib.Numerals.{add-one}
use native.Mathlib.Omega.{arith}
use lib.ListN.{length, get_or, set, drop, drop_of_length-le}
use lib.Seq.{drop-cons, get_or-take, get_or-set_same, drop-set-lt, lt-length-set, length-take-le}
use Rattle.sheet_layout.specs.Layout.{field}
use Rattle.part_words.specs.Kinds.{part_count}
use Rattle.part_words.specs.Parts.{node_text, node_parts, Pushed, cut_text, stack_text}
use Rattle.part_words.proofs.KindLaws.{few-parts}

-- an element that is set is the first from its place on
pub set_first : (l : List ℕ) (i v : ℕ) → i < length l → drop i (set l i v) ≡ v ∷ drop (suc i) l
set_first l i v h =
    drop-cons (set l i v) i 0 (lt-length-set l i v h) ∙ rw (get_or-set_same l i v 0 h, drop-set-lt (suc i) l i v (omega arith))

module _ (sheet : List ℕ) (node : ℕ) where
  abbrev count : ℕ
  count = part_count (field sheet node 0)

  pub parts-sized : length (node_parts sheet node) ≡ part_count (field sheet node 0)
  parts-sized = length-take-le count _ (few-parts (field sheet node 0))

  -- part k stands in field 1 + k
  part_at : (k : ℕ) → 0 < k → k ≤ part_count (field sheet node 0) → get_or (node_parts sheet node) (k - 1) 0 ≡ field sheet node (1 + k)
  part_at zero h l = absurd (omega arith)
  part_at (suc zero) h l = get_or-take count _ 0 0 (omega arith)
  part_at (suc (suc zero)) h l = get_or-take count _ 1 0 (omega arith)
  part_at (suc (suc (suc zero))) h l = get_or-take count _ 2 0 (omega arith)
  part_at (suc (suc (suc (suc k)))) h l = absurd (omega (arith, few-parts (field sheet node 0)))

  -- one part more
  pub part-ahead : (k : ℕ) → 0 < k → k ≤ part_count (field sheet node 0)
      → drop (k - 1) (node_parts sheet node) ≡ field sheet node (1 + k) ∷ drop k (node_parts sheet node)
  part-ahead k h l =
      let next : suc (k - 1) ≡ k = omega arith in
      drop-cons (node_parts sheet node) (k - 1) 0 (omega (arith, parts-sized)) ∙ rw (next, part_at k h l)

  pub none-pushed : (rest : List ℕ) (n : ℕ) → n ≡ part_count (field sheet node 0) → rest ≡ drop n (node_parts sheet node) ++ rest
  none-pushed rest n e = rw (e, none_left)
    where
      none_left : drop (part_count (field sheet node 0)) (node_parts sheet node) ≡ []
      none_left = drop_of_length-le (node_parts sheet node) {i = part_count (field sheet node 0)} (omega (arith, parts-sized))

  -- one part is put on the stack
  pub push-one : (old new : List ℕ) (from top k : ℕ) → 0 < top → top ≤ length new → 0 < k → k ≤ part_count (field sheet node 0)
      → drop top new ≡ drop k (node_parts sheet node) ++ drop from old
      → drop (top - 1) (set new (top - 1) (field sheet node (1 + k))) ≡ drop (k - 1) (node_parts sheet node) ++ drop from old
  push-one old new from top k s f h l e =
      let next : suc (top - 1) ≡ top = omega arith in
      set_first new (top - 1) (field sheet node (1 + k)) (omega arith) ∙ rw (next, e, part-ahead k h l)

-- the text of a stack that stands in an area
module _ (sheet area : List ℕ) (from : ℕ) where
  pub stack-done : (n : ℕ) → length area ≤ from → stack_text sheet n (drop from area) ≡ []
  unfolding stack_text
  stack-done zero h = rw (drop_of_length-le area h)
  stack-done (suc n) h = rw (drop_of_length-le area h)

  pub stack-cut : (n : ℕ) → n ≡ 0 → from < length area → cut_text ≡ stack_text sheet n (drop from area)
  unfolding stack_text
  stack-cut n e h = rw (e, drop-cons area from 0 h)

  pub stack-more : (n : ℕ) {after : List ℕ} {top : ℕ} → (n ≡ 0 → ⊥) → from < length area
      → Pushed (node_parts sheet (get_or area from 0)) area (from + 1) after top
      → node_text sheet (get_or area from 0) ++ stack_text sheet (n - 1) (drop top after) ≡ stack_text sheet n (drop from area)
  unfolding stack_text
  stack-more zero z h p = absurd (z refl)
  stack-more (suc n) z h p =
      let less : suc n - 1 ≡ n = omega arith in
      rw (less, p.on-top, drop-cons area from 0 h, add-one from)
