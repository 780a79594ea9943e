-- Bytes that hold a sheet are judged as it is; and bytes that are judged sound hold their sheet, which is formed.
-- Assumes nothing.
use mathlib.Core.Path.{◌≡◌, sym, ap, subst, ◌∙◌}
use mathlib.Core.List.{List}
use Prim.Native.Nat.{ℕ, ◌-◌}
use Rattle.trace.specs.declared.Mode.{Mode}
use Rattle.syntax.specs.Types.{type_at}
use Rattle.syntax.specs.declared.NodeType.{NodeType}
use Rattle.syntax.specs.declared.NodeType.TheVariants.{Unused, Formula, Policy}
use Rattle.syntax.specs.declared.Sheet.{Sheet}
use Rattle.reached.specs.Parts.{used_set}
use Rattle.typing.specs.Typed.{Typings, mistyped, typed, type_nodes, Judgement, sound, judge_last, judge_typed, judge_sheet}
use Rattle.sheet_layout.proofs.Header.{laid}
use Rattle.sheet_reading.specs.ReadFrom.{ReadFrom}
use Rattle.sheet_reading.proofs.ReadFrom.{formed-from, actions-from, nodes-from}
use Rattle.sheet_judge.specs.Judge.{judge_laid, judge}
use Rattle.sheet_judge.specs.JudgedFrom.{JudgedFrom}
use Rattle.sheet_judge.specs.Malformed.{MalformedOrRead, malformed, read}
use Rattle.sheet_judge.proofs.Malformed.{malformed-or-read}

module _ {m : Mode} {sheet : Sheet} {types : List NodeType} where
  -- a sound outcome has the sheet that is judged
  same-last : (s : Sheet) (t : List NodeType) (last : NodeType) → judge_last s t last ≡ sound m sheet types → s ≡ sheet
  same-last s t Unused e = cc
  same-last s t Formula e = cc
  same-last s t (Policy m k) e = cc

  same-sheet : (s : Sheet) (t : Typings) → judge_typed s t ≡ sound m sheet types → s ≡ sheet
  same-sheet s (mistyped f t) e = cc
  same-sheet s (typed t) e = same-last s t (type_at t (s.count - 1)) e

module _ (bytes : List ℕ) where
  pub judge-from : {sheet : Sheet} → ReadFrom bytes sheet → judge bytes ≡ judge_sheet sheet
  judge-from r = ap (judge_laid bytes) (laid bytes r.laid) ∙ rw (← r.actions, ← r.count, actions-from bytes r, nodes-from bytes r)

  module _ {m : Mode} {sheet : Sheet} {types : List NodeType} where
    read-from : {j : Judgement} → MalformedOrRead bytes j → j ≡ sound m sheet types → ReadFrom bytes sheet
    read-from (malformed f x) e = cc
    read-from (read s r) e = subst (ReadFrom bytes) (same-sheet s (type_nodes (used_set s) s.nodes s.count) e) r

    -- The theorem that ties sheets to bytes: what is judged sound is a formed sheet that stands in the bytes, and checks 6 and 7 of it.
    pub judged-formed : judge bytes ≡ sound m sheet types → JudgedFrom bytes m sheet types
    judged-formed e =
        let r = read-from (malformed-or-read bytes) e in
        record { read = r; formed = formed-from bytes r; judged = sym (judge-from r) ∙ e }
