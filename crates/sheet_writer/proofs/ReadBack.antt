-- What is written is read back: the bytes of a sheet hold it, and are judged as it is.
-- Assumes nothing.
use Rattle.std.proofs.Common.{Ok}
use mathlib.Core.Path.{◌≡◌, refl, sym, ◌∙◌}
use mathlib.Core.Logic.{inl}
use mathlib.Core.List.{List, ◌++◌}
use Prim.Native.Nat.{ℕ, ◌+◌, ◌*◌, ◌<◌}
use native.Mathlib.Omega.{arith}
use lib.ListN.{length, get_or, get_or-append}
use lib.Seq.{get_or-append-add}
use Rattle.base.specs.Word.{word_bytes}
use Rattle.base.proofs.Joined.{get_or-joined}
use Rattle.base.proofs.Words.{word_back}
use Rattle.syntax.specs.Nodes.{node_of, propositions_of}
use Rattle.typing.specs.Typed.{judge_sheet}
use Rattle.syntax.specs.declared.Sheet.{Sheet}
use Rattle.sheet_layout.specs.Layout.{action_count, node_count, nodes_at, total, entry_of, field, WellLaid}
use Rattle.sheet_reading.specs.Reading.{node_read, all_read, read_nodes, read_actions}
use Rattle.sheet_reading.specs.ReadFrom.{ReadFrom}
use Rattle.sheet_judge.specs.Judge.{judge}
use Rattle.sheet_writer.specs.Bytes.{node_bytes, header_bytes, action_bytes, nodes_bytes, sheet_bytes, Writable}
use Rattle.sheet_reading.proofs.ReadFrom.{actions-from, nodes-from}
use Rattle.sheet_judge.proofs.JudgedFrom.{judge-from}
use Rattle.sheet_writer.proofs.Written.{length_front, length-sheet}
use Rattle.sheet_writer.proofs.NodeBack.{node-back}

module _ (sheet : Sheet) (w : Writable sheet) where
  abbrev bytes : List ℕ
  bytes = sheet_bytes sheet

  abbrev header : List ℕ
  header = header_bytes sheet.actions sheet.count

  abbrev listed : List ℕ
  listed = action_bytes sheet.propositions sheet.actions

  action-count : action_count bytes ≡ sheet.actions
  action-count = word_back sheet.actions (omega (arith, w.formed.few-actions))

  node-count : node_count bytes ≡ sheet.count
  node-count = word_back sheet.count (omega (arith, w.formed.few-nodes))

  nodes-at : nodes_at bytes ≡ 10 + 2 * sheet.actions
  nodes-at = word_back (10 + 2 * sheet.actions) (omega (arith, w.formed.few-actions))

  in_all : total bytes ≡ 10 + 2 * sheet.actions + 5 * sheet.count
  in_all = word_back (10 + 2 * sheet.actions + 5 * sheet.count) (omega (arith, w.formed.few-actions, w.formed.few-nodes))

  well-laid : WellLaid bytes
  well-laid =
      let f = w.formed in
      let a = action-count in
      let n = node-count in
      let p = nodes-at in
      let t = in_all in
      let l = length-sheet sheet in
      record {
        long = omega arith;
        whole = omega arith;
        some-action = omega arith;
        few-actions = omega arith;
        some-node = omega arith;
        few-nodes = omega arith;
        actions-behind = omega arith;
        nodes-behind = omega arith;
        actions-inside = omega arith;
        nodes-inside = omega arith;
        apart = inl (omega arith);
      }

  -- byte j of entry a, and of node n
  entry-byte : (a j i : ℕ) → a < sheet.actions → j < 2 → i ≡ 10 + (2 * a + j) → get_or bytes i 0 ≡ get_or (word_bytes (propositions_of sheet a)) j 0
  entry-byte a j i h g e =
      rw e
      (get_or-append (header ++ listed) (nodes_bytes sheet.nodes sheet.count) 0 (10 + (2 * a + j)) (omega (arith, length_front sheet))
      ∙ get_or-append-add header listed (2 * a + j) 0
      ∙ get_or-joined 2 (λ k. word_bytes (propositions_of sheet k)) (λ k. refl) sheet.actions a j h g)

  node-byte : (n j i : ℕ) → n < sheet.count → j < 5 → i ≡ nodes_at bytes + 5 * n + j → get_or bytes i 0 ≡ get_or (node_bytes (node_of sheet n)) j 0
  node-byte n j i h g e =
      let k : i ≡ length (header ++ listed) + (5 * n + j) = omega (arith, nodes-at, length_front sheet) in
      rw k
      (get_or-append-add (header ++ listed) (nodes_bytes sheet.nodes sheet.count) (5 * n + j) 0
      ∙ get_or-joined 5 (λ k. node_bytes (node_of sheet k)) (λ k. refl) sheet.count n j h g)

  entry-back : (a : ℕ) → a < sheet.actions → propositions_of sheet a ≡ entry_of bytes a
  entry-back a h =
      sym (rw (entry-byte a 0 (10 + 2 * a) h (omega arith) (omega arith), entry-byte a 1 (10 + 2 * a + 1) h (omega arith) (omega arith)) (word_back (propositions_of sheet a) (w.narrow a h)))

  node-read : (n : ℕ) → n < sheet.count → node_read bytes n ≡ Ok (node_of sheet n)
  node-read n h =
      let at : (j : ℕ) → j < 5 → field bytes n j ≡ get_or (node_bytes (node_of sheet n)) j 0 = λ j g. node-byte n j (nodes_at bytes + 5 * n + j) h g refl in
      rw (at 0 (omega arith), at 1 (omega arith), at 2 (omega arith), at 3 (omega arith), at 4 (omega arith))
      (node-back n (omega (arith, w.formed.few-nodes)) (node_of sheet n) (w.formed.parts n h) (w.formed.arguments n h))

  -- The bytes of a sheet hold it.
  pub held : ReadFrom bytes sheet
  held = record { laid = well-laid; actions = sym action-count; count = sym node-count; propositions = entry-back; nodes = node-read; behind = w.behind }

  -- Its parts: the action list, the nodes.
  pub actions-back : read_actions bytes sheet.actions ≡ sheet.propositions
  actions-back = actions-from bytes held

  pub nodes-back : read_nodes bytes sheet.count ≡ all_read sheet.nodes
  nodes-back = nodes-from bytes held

  -- Reading back what was written gives the same sheet, and so the same judgement.
  pub read-back : judge bytes ≡ judge_sheet sheet
  read-back = judge-from bytes held
