-- Checks 1 to 3: their tests in plain statements, and the places that they give.
-- Assumes nothing.
use Rattle.std.proofs.Common.{Result, Ok, Err}
use mathlib.Core.Path.{◌≡◌, refl, sym}
use mathlib.Core.Bool.{Bool, true, false, ◌&&◌}
use mathlib.Core.Logic.{⊎_map}
use mathlib.Core.List.{List}
use Prim.Native.Nat.{ℕ, ◌<◌}
use native.Mathlib.Omega.{arith}
use lib.Dec.{leb, eqb}
use lib.ListN.{length}
use borrow.Author.Tests.{leb-true, le-leb, eqb-true, eq-eqb}
use Rattle.base.proofs.Truths.{and-true, both_true, or-true, either_true}
use Rattle.sheet_layout.specs.declared.Layout.{Layout}
use Rattle.sheet_layout.specs.Layout.{layout_in, action_count, node_count, actions_at, nodes_at, actions_end, nodes_end, total, length_right, counts_right, areas_right, behind_header, inside_total, apart, in_range, layout_of, WellLaid, Inside}
use Rattle.syntax.specs.declared.Fault.{Fault}

misplaced : {A : Type 0} {f : Fault} {l : Layout} → Err f ≡ Ok l → A
misplaced e = cc

module _ (bytes : List ℕ) where
  well-laid : length_right bytes ≡ true → counts_right bytes ≡ true → areas_right bytes ≡ true → WellLaid bytes
  well-laid l c a =
      let l' = and-true (leb 10 (length bytes)) (eqb (total bytes) (length bytes)) l in
      let c' = and-true (in_range 1 16 (action_count bytes)) (in_range 1 64 (node_count bytes)) c in
      let c₀ = and-true (leb 1 (action_count bytes)) (leb (action_count bytes) 16) c'.0 in
      let c₁ = and-true (leb 1 (node_count bytes)) (leb (node_count bytes) 64) c'.1 in
      let a' = and-true (behind_header bytes && inside_total bytes) (apart bytes) a in
      let a'' = and-true (behind_header bytes) (inside_total bytes) a'.0 in
      let a₀ = and-true (leb 10 (actions_at bytes)) (leb 10 (nodes_at bytes)) a''.0 in
      let a₁ = and-true (leb (actions_end bytes) (total bytes)) (leb (nodes_end bytes) (total bytes)) a''.1 in
      record {
        long = leb-true _ _ l'.0;
        whole = eqb-true _ _ l'.1;
        some-action = leb-true _ _ c₀.0;
        few-actions = leb-true _ _ c₀.1;
        some-node = leb-true _ _ c₁.0;
        few-nodes = leb-true _ _ c₁.1;
        actions-behind = leb-true _ _ a₀.0;
        nodes-behind = leb-true _ _ a₀.1;
        actions-inside = leb-true _ _ a₁.0;
        nodes-inside = leb-true _ _ a₁.1;
        apart = ⊎_map (leb-true (actions_end bytes) (nodes_at bytes)) (leb-true (nodes_end bytes) (actions_at bytes)) (or-true (leb (actions_end bytes) (nodes_at bytes)) (leb (nodes_end bytes) (actions_at bytes)) a'.1);
      }

  length-right : WellLaid bytes → length_right bytes ≡ true
  length-right w = both_true (le-leb 10 (length bytes) w.long) (eq-eqb (total bytes) (length bytes) w.whole)

  counts-right : WellLaid bytes → counts_right bytes ≡ true
  counts-right w =
      both_true (both_true (le-leb 1 (action_count bytes) w.some-action) (le-leb (action_count bytes) 16 w.few-actions))
      (both_true (le-leb 1 (node_count bytes) w.some-node) (le-leb (node_count bytes) 64 w.few-nodes))

  areas-right : WellLaid bytes → areas_right bytes ≡ true
  areas-right w =
      both_true
      (both_true (both_true (le-leb 10 (actions_at bytes) w.actions-behind) (le-leb 10 (nodes_at bytes) w.nodes-behind))
      (both_true (le-leb (actions_end bytes) (total bytes) w.actions-inside) (le-leb (nodes_end bytes) (total bytes) w.nodes-inside)))
      (either_true (leb (actions_end bytes) (nodes_at bytes)) (leb (nodes_end bytes) (actions_at bytes))
      (⊎_map (le-leb (actions_end bytes) (nodes_at bytes)) (le-leb (nodes_end bytes) (actions_at bytes)) w.apart))

  -- Checks 1 to 3 pass exactly where the areas are found.
  pub laid : WellLaid bytes → layout_of bytes ≡ Ok (layout_in bytes)
  laid w = rw (length-right w, counts-right w, areas-right w)

  module _ {l : Layout} (e : layout_of bytes ≡ Ok l) where
    all_right : (x y z : Bool) → length_right bytes ≡ x → counts_right bytes ≡ y → areas_right bytes ≡ z
        → WellLaid bytes × (layout_in bytes ≡ l)
    all_right true true true x y z = (well-laid x y z, let same : ◌≡◌ {A = Result Layout Fault} (Ok (layout_in bytes)) (Ok l) = simp (x, y, z) at e in cc)
    all_right true true false x y z = misplaced (simp (x, y, z) at e)
    all_right true false true x y z = misplaced (simp (x, y, z) at e)
    all_right true false false x y z = misplaced (simp (x, y, z) at e)
    all_right false v w x y z = misplaced (simp x at e)

    pub from-laid : WellLaid bytes × (l ≡ layout_in bytes)
    from-laid = let h = all_right (length_right bytes) (counts_right bytes) (areas_right bytes) refl refl refl in (h.0, sym h.1)
