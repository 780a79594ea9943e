-- Spare nodes change nothing: two sheets that pass checks 1 to 5, with one action list and the same used nodes in the same order, apart from
-- their numbering, get the same table, byte for byte, or one refusal number, at the same node.
-- Assumes nothing.
use mathlib.Core.Path.{◌≡◌, sym, ap₂, subst, ◌∙◌}
use mathlib.Core.List.{List, [], ◌++◌}
use Prim.Native.Nat.{ℕ}
use lib.ListN.{length, drop}
use lib.Seq.{take_at}
use Rattle.trace.specs.declared.Mode.{Mode}
use Rattle.limits.specs.declared.Limits.{Limits}
use Rattle.limits.specs.Limits.{largest}
use Rattle.table.specs.Answer.{Answer, refused}
use Rattle.making.specs.Making.{Areas, short, makes}
use Rattle.syntax.specs.Faults.{number_of, spot_of}
use Rattle.syntax.specs.Types.{type_at}
use Rattle.syntax.specs.declared.Fault.{Fault}
use Rattle.syntax.specs.declared.Sheet.{Sheet}
use Rattle.syntax.specs.declared.NodeType.{NodeType}
use Rattle.reached.specs.Parts.{Used}
use Rattle.typing.specs.Typed.{Judgement, faulty, sound}
use Rattle.renumbering.specs.SameUsed.{SameUsed, SameJudgement, both-faulty, both-sound}
use Rattle.renumbering.proofs.Alike.{judged-alike}
use Rattle.sheet_judge.specs.Judge.{judge}
use Rattle.sheet_reading.specs.ReadFrom.{ReadFrom}
use Rattle.sheet_reading.proofs.ReadFrom.{formed-from}
use Rattle.sheet_judge.proofs.JudgedFrom.{judge-from}
use Rattle.compiler.specs.Compiles.{Builds, Compiles, faulted, passes}
use Rattle.compiler.specs.Calling.{CompilesInto}
use Rattle.compiler_laws.specs.Demands.{OneActionList}
use Rattle.compiler_laws.specs.SpareNodes.{SameButSpot, same-table, same_number, SameCall, same-front, both_left}
use Rattle.compiler_laws.proofs.Outcome.{not-faulty, compiles-determined}
use Rattle.compiler_laws.proofs.Calls.{table-size}
use Rattle.compiler_laws.proofs.NodesAlong.{one_list}
use Rattle.compiler_laws.proofs.BuiltAlong.{GivenAlong, builds-along}

module _ {bytes other : List ℕ} {sheet sheet' : Sheet} (read : ReadFrom bytes sheet) (read' : ReadFrom other sheet')
    (one : OneActionList sheet sheet') (same : SameUsed sheet sheet') where
  module _ (limits : Limits) where
    abbrev Given : Answer → List ℕ → Type 0
    Given = GivenAlong same (Compiles bytes limits)

    -- where the other sheet is faulty, so is the first
    fault-given : (f g : Fault) → number_of g ≡ number_of f → spot_of g ≡ same.to (spot_of f) → judge bytes ≡ faulty f
        → Given (refused (number_of g) (spot_of g)) []
    fault-given f g number spot e =
        subst (λ (x : Answer). Given x []) (sym (ap₂ refused number spot))
        (record { answer = refused (number_of f) (spot_of f); written = []; gives = faulted f e; alike = same_number (number_of f) (spot_of f) })

    -- where it is sound, so is the first, and what it builds is built
    sound-given : (mode : Mode) (types types' : List NodeType) → ((n : ℕ) → Used sheet n → type_at types n ≡ type_at types' (same.to n))
        → judge bytes ≡ sound mode sheet types → {answer : Answer} {written : List ℕ} → Builds mode sheet' types' limits answer written
        → Given answer written
    sound-given mode types types' agree e b =
        let list = one_list read.behind read'.behind one in
        let g = builds-along (formed-from bytes read) (formed-from other read') same one.count list types types' agree limits b in
        record { answer = g.answer; written = g.written; gives = passes mode sheet types e g.answer g.written g.gives; alike = g.alike }

    given : {j k : Judgement} → SameJudgement same j k → judge bytes ≡ j → judge other ≡ k → {answer : Answer} {written : List ℕ}
        → Compiles other limits answer written → Given answer written
    given (both-faulty f g number spot) p q (faulted h e) =
        let alike : g ≡ h = cc in
        subst (λ (x : Fault). Given (refused (number_of x) (spot_of x)) []) alike (fault-given f g number spot p)
    given (both-faulty f g number spot) p q (passes mode s types j answer written b) = not-faulty other j g q
    given (both-sound mode types types' agree) p q (faulted h e) = not-faulty other q h e
    given (both-sound mode types types' agree) p q (passes mode' s all j answer written b) =
        sound-given mode types types' agree p
        (subst (λ (m : Mode). Builds m sheet' types' limits answer written) same-mode
        (subst (λ (x : Sheet). Builds mode' x types' limits answer written) same-sheet
        (subst (λ (l : List NodeType). Builds mode' s l limits answer written) same-types b)))
      where
        same-mode : mode' ≡ mode
        same-mode = cc

        same-sheet : s ≡ sheet'
        same-sheet = cc

        same-types : all ≡ types'
        same-types = cc

    -- The two sheets give the same table or one refusal number, for any limits.
    pub spare-nodes : {a b : Answer} {t u : List ℕ} → Compiles bytes limits a t → Compiles other limits b u
        → SameButSpot same.to a t b u
    spare-nodes {a} {b} {t} {u} c d =
        let alike = judged-alike (formed-from bytes read) (formed-from other read') same in
        let g = given alike (judge-from bytes read) (judge-from other read') d in
        let e = compiles-determined bytes limits g.gives c in
        subst (λ (x : Answer). SameButSpot same.to x t b u) e.0
        (subst (λ (l : List ℕ). SameButSpot same.to g.answer l b u) e.1 g.alike)

  -- Two calls, with areas that are long enough, of any contents: the same table at the front of both outputs, or one refusal number and outputs
  -- that are left as they were.
  pub call-spare-nodes : {out work values out' work' values' lent area list lent' area' list' : List ℕ} → Areas out work values → Areas lent area list
      → {a b : Answer} → CompilesInto bytes out work values a out' work' values' → CompilesInto other lent area list b lent' area' list'
      → SameCall same.to out lent a out' b lent'
  call-spare-nodes areas areas' (short h) d = absurd (h areas)
  call-spare-nodes areas areas' (makes l a t c) (short h) = absurd (h areas')
  call-spare-nodes {out = out} {lent = lent} areas areas' (makes l a t c) (makes l' b u d) = by (spare-nodes largest c d) c
    where
      by : {a b : Answer} {t u : List ℕ} → SameButSpot same.to a t b u → Compiles bytes largest a t
          → SameCall same.to out lent a (t ++ drop (length t) out) b (u ++ drop (length u) lent)
      by (same-table type actions rows table) c =
          let long = table-size bytes table c in
          same-front type actions rows (table ++ drop (length table) out) (table ++ drop (length table) lent)
          (take_at table (drop (length table) out) _ long ∙ sym (take_at table (drop (length table) lent) _ long))
      by (same_number number spot) c = both_left number spot
