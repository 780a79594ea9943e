-- The law of judging: the nodes that are read of a sheet whose areas are found are as judging asks.
-- Assumes nothing.
use Rattle.std.proofs.Common.{Ok}
use mathlib.Core.Path.{◌≡◌}
use mathlib.Core.List.{List}
use Prim.Native.Nat.{ℕ, ◌-◌}
use native.Mathlib.Omega.{arith}
use Rattle.reached.specs.Parts.{PartsEarlier}
use Rattle.sheet_layout.specs.Layout.{node_count, layout_in, layout_of, WellLaid}
use Rattle.sheet_layout.specs.declared.Layout.{Layout}
use Rattle.sheet_layout.proofs.Header.{from-laid}
use Rattle.sheet_reading.specs.Reading.{read_nodes}
use Rattle.sheet_reading.specs.declared.NodesRead.{NodesRead}
use Rattle.sheet_reading.proofs.ReadNodes.{ReadTo, all_right, no_kind, no_field, read-to}
use Rattle.sheet_reading.proofs.ReadFrom.{formed-node}
use Rattle.sheet_judge.specs.Judge.{ReadWithin}

-- what is read of a sheet whose areas are found
pub read-within : (bytes : List ℕ) {layout : Layout} → layout_of bytes ≡ Ok layout → ReadWithin layout.nodes (read_nodes bytes layout.nodes)
read-within bytes {layout} e = rw w.1 (record { some = w.0.some-node; few = w.0.few-nodes; parts = parts (read-to bytes (node_count bytes) w.0.few-nodes) })
  where
    w : WellLaid bytes × (layout ≡ layout_in bytes)
    w = from-laid bytes e

    parts : {read : NodesRead} → ReadTo bytes (node_count bytes) read → read.judged ≡ Ok tt → PartsEarlier read.nodes (node_count bytes - 1)
    parts (all_right l) s i g = (formed-node bytes i _ (l.each i (omega (arith, w.0.some-node)))).0
    parts (no_kind j h l x) s i g = cc
    parts (no_field j h l x) s i g = cc
