-- Bytes that hold a sheet: the sheet is formed, and reading gives it back; and what is read where every node is right stands in the bytes.
-- Assumes nothing.
use Rattle.std.proofs.Common.{Ok}
use mathlib.Core.Path.{◌≡◌, refl, sym, ap, ◌∙◌}
use mathlib.Core.List.{List}
use Prim.Native.Nat.{ℕ, zero, suc, ◌≤◌}
use native.Mathlib.Omega.{arith}
use Rattle.base.proofs.Filled.{Filled, filled_none, filled_more, filled-same}
use Rattle.syntax.specs.Nodes.{node_of, sheet_of}
use Rattle.syntax.specs.Formed.{PartsBelow, ArgumentFits, Formed}
use Rattle.syntax.specs.declared.Node.{Node}
use Rattle.syntax.specs.declared.Sheet.{Sheet}
use Rattle.sheet_layout.specs.declared.Layout.{Layout}
use Rattle.sheet_layout.specs.Layout.{action_count, entry_of, field, layout_of}
use Rattle.sheet_layout.proofs.Header.{from-laid}
use Rattle.sheet_reading.specs.Reading.{NodeRead, node_read, all_read, read_nodes, read_actions}
use Rattle.sheet_reading.specs.ReadFrom.{ReadFrom}
use Rattle.sheet_reading.specs.declared.NodesRead.{NodesRead}
use Rattle.sheet_reading.proofs.Fields.{parts_below}
use Rattle.sheet_reading.proofs.ReadNodes.{IsRead, NodesListed, ReadTo, all_right, no_kind, no_field, read-to}

module _ (bytes : List ℕ) where
  -- what is read of a node is one node
  one-node : (n : ℕ) (x y : Node) → IsRead bytes n x → IsRead bytes n y → x ≡ y
  one-node n x y p q = let same : ◌≡◌ {A = NodeRead} (Ok x) (Ok y) = sym p ∙ q in cc

  abbrev Entry : ℕ → ℕ → Type 0
  Entry a x = x ≡ entry_of bytes a

  actions-listed : (a : ℕ) → a ≤ 16 → Filled 0 Entry 16 a (read_actions bytes a)
  actions-listed zero h = filled_none
  actions-listed (suc a) h = filled_more (actions-listed a (omega arith)) h refl

  -- a node that is read has its parts below it, and its argument in its range
  pub formed-node : (n : ℕ) (node : Node) → node_read bytes n ≡ Ok node → PartsBelow n node × ArgumentFits node
  formed-node n = parts_below n (field bytes n 0) (field bytes n 1) (field bytes n 2) (field bytes n 3) (field bytes n 4)

  -- bytes that hold a sheet
  module _ {sheet : Sheet} (r : ReadFrom bytes sheet) where
    pub formed-from : Formed sheet
    formed-from =
        record {
          some-action = omega (arith, r.actions, r.laid.some-action);
          few-actions = omega (arith, r.actions, r.laid.few-actions);
          some-node = omega (arith, r.count, r.laid.some-node);
          few-nodes = omega (arith, r.count, r.laid.few-nodes);
          parts = λ n h. (formed-node n (node_of sheet n) (r.nodes n h)).0;
          arguments = λ n h. (formed-node n (node_of sheet n) (r.nodes n h)).1;
        }

    pub actions-from : read_actions bytes sheet.actions ≡ sheet.propositions
    actions-from =
        filled-same (λ a x y p q. p ∙ sym q) (actions-listed sheet.actions formed-from.few-actions)
        (record { long = r.behind.sixteen; each = r.propositions; behind = r.behind.no-action })

    pub nodes-from : read_nodes bytes sheet.count ≡ all_read sheet.nodes
    nodes-from = from (read-to bytes sheet.count formed-from.few-nodes)
      where
        stands : NodesListed bytes sheet.count sheet.nodes
        stands = record { long = r.behind.sixty-four; each = r.nodes; behind = r.behind.no_node }

        from : {read : NodesRead} → ReadTo bytes sheet.count read → read ≡ all_read sheet.nodes
        from (all_right l) = ap all_read (filled-same one-node l stands)
        from (no_kind i h l e) = let q = r.nodes i h in cc
        from (no_field i h l e) = let q = r.nodes i h in cc

  -- the areas are found, and every node is right
  pub read_all : {layout : Layout} {nodes : List Node} → layout_of bytes ≡ Ok layout → NodesListed bytes layout.nodes nodes
      → ReadFrom bytes (sheet_of layout.actions (read_actions bytes layout.actions) layout.nodes nodes)
  read_all {layout} e l =
      let h = from-laid bytes e in
      let same-actions : layout.actions ≡ action_count bytes = ap (λ (x : Layout). x.actions) h.1 in
      let listed-actions = actions-listed layout.actions (omega (arith, same-actions, h.0.few-actions)) in
      record {
        laid = h.0;
        actions = same-actions;
        count = ap (λ (x : Layout). x.nodes) h.1;
        propositions = listed-actions.each;
        nodes = l.each;
        behind = record {
          sixteen = listed-actions.long;
          no-action = listed-actions.behind;
          sixty-four = l.long;
          no_node = l.behind;
        };
      }
