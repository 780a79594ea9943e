-- Bytes outside the header and the two areas are not read: sheets that agree there are judged alike.
-- Assumes nothing.
use Rattle.std.proofs.Common.{Result, Ok, Err}
use mathlib.Core.Path.{◌≡◌, refl, ap, ◌∙◌}
use mathlib.Core.List.{List}
use Prim.Native.Nat.{ℕ, zero, suc, ◌+◌, ◌*◌, ◌≤◌, ◌<◌}
use native.Mathlib.Omega.{arith}
use Rattle.base.specs.Word.{word_at}
use Rattle.sheet_layout.specs.Layout.{action_count, node_count, actions_at, nodes_at, entry_of, field, layout_of, WellLaid, AgreeInAreas}
use Rattle.sheet_reading.specs.Reading.{node_read, read_nodes, read_actions}
use Rattle.sheet_judge.specs.Judge.{judge_laid, judge}
use Rattle.syntax.specs.declared.Fault.{Fault}
use Rattle.sheet_layout.specs.declared.Layout.{Layout}
use Rattle.sheet_layout.proofs.Header.{from-laid}

module _ (bytes other : List ℕ) (agree : AgreeInAreas bytes other) where
  same_word : (at : ℕ) → at + 1 < 10 → word_at bytes at ≡ word_at other at
  same_word at h = rw (agree.header at (omega arith), agree.header (at + 1) h)

  same_layout : layout_of bytes ≡ layout_of other
  same_layout =
      rw (same_word 0 (omega arith), same_word 2 (omega arith), same_word 4 (omega arith), same_word 6 (omega arith), same_word 8 (omega arith), agree.same_length)

  -- checks 1 to 3 pass
  module _ (w : WellLaid bytes) where
    same-entry : (a : ℕ) → a < action_count bytes → entry_of bytes a ≡ entry_of other a
    same-entry a h =
        let at = actions_at bytes + 2 * a in
        rw (agree.actions w at (omega arith) (omega arith), agree.actions w (at + 1) (omega arith) (omega arith), same_word 4 (omega arith))

    same-field : (n f : ℕ) → n < node_count bytes → f < 5 → field bytes n f ≡ field other n f
    same-field n f h g = rw (agree.nodes w (nodes_at bytes + 5 * n + f) (omega arith) (omega arith), same_word 6 (omega arith))

    same-node : (n : ℕ) → n < node_count bytes → node_read bytes n ≡ node_read other n
    same-node n h =
        rw (same-field n 0 h (omega arith), same-field n 1 h (omega arith), same-field n 2 h (omega arith), same-field n 3 h (omega arith), same-field n 4 h (omega arith))

    same-actions : (a : ℕ) → a ≤ action_count bytes → read_actions bytes a ≡ read_actions other a
    same-actions zero h = refl
    same-actions (suc a) h = rw (same-actions a (omega arith), same-entry a h)

    same_nodes : (n : ℕ) → n ≤ node_count bytes → read_nodes bytes n ≡ read_nodes other n
    same_nodes zero h = refl
    same_nodes (suc n) h = rw (same_nodes n (omega arith), same-node n h)

  judged-alike : (l : Result Layout Fault) → layout_of bytes ≡ l → judge_laid bytes l ≡ judge_laid other l
  judged-alike (Err f) e = refl
  judged-alike (Ok layout) e =
      let h = from-laid bytes e in
      rw (h.1, same-actions h.0 (action_count bytes) (omega arith), same_nodes h.0 (node_count bytes) (omega arith))

  pub unread : judge bytes ≡ judge other
  unread = judged-alike (layout_of bytes) refl ∙ ap (judge_laid other) same_layout
