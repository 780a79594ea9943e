-- Spare nodes change no explanation: two sheets that pass checks 1 to 5, with one action list and the same used nodes in the same order, apart from
-- their numbering, get for one list of actions no denial, or one place and one node, or one refusal number.
-- Assumes nothing.
use mathlib.Core.Path.{◌≡◌, refl, sym, subst, ◌∙◌}
use mathlib.Core.List.{List, [], ◌++◌}
use Prim.Native.Nat.{ℕ, ◌<◌}
use native.Mathlib.Omega.{arith}
use lib.ListN.{length, drop}
use Rattle.trace.specs.Trace.{Sequence}
use Rattle.trace.specs.declared.Mode.{Mode}
use Rattle.trace.specs.declared.Mode.TheVariants.{Enforced}
use Rattle.limits.specs.declared.Limits.{Limits}
use Rattle.limits.specs.Limits.{largest}
use Rattle.table.specs.Answer.{Answer, accepted}
use Rattle.table.specs.Answer.{refused as compiler-refused}
use Rattle.making.specs.Making.{AreasFor, short, makes}
use Rattle.syntax.specs.declared.Sheet.{Sheet}
use Rattle.syntax.specs.declared.NodeType.{NodeType}
use Rattle.typing.specs.Typed.{Judgement, sound, SoundSheet}
use Rattle.renumbering.specs.SameUsed.{SameUsed}
use Rattle.renumbering.proofs.Judged.{Told, at-fault, no-faults, told}
use Rattle.sheet_judge.specs.Judge.{judge}
use Rattle.sheet_reading.specs.ReadFrom.{ReadFrom}
use Rattle.sheet_reading.proofs.ReadFrom.{formed-from}
use Rattle.sheet_judge.proofs.JudgedFrom.{judge-from}
use Rattle.compiler.specs.Compiles.{Compiles}
use Rattle.compiler.proofs.Passed.{passed}
use Rattle.compiler_laws.specs.Demands.{OneActionList}
use Rattle.compiler_laws.specs.SpareNodes.{SameButSpot, same-table}
use Rattle.compiler_laws.specs.SpareNodes.{same_number as same-refusal}
use Rattle.compiler_laws.proofs.NodesAlong.{one_list}
use Rattle.compiler_laws.proofs.Spots.{refused-low}
use Rattle.compiler_laws.proofs.SpareNodes.{spare-nodes}
use Rattle.explaining.specs.Denials.{NotAnAction}
use Rattle.explaining.specs.Explains.{Explanation, refused, Finds, no-action, none-denied, first-denied, Explains, not-compiled, watched, finds}
use Rattle.explaining.specs.Calling.{ExplainsInto}
use Rattle.explaining_laws.specs.SpareNodes.{SameExplanation, both-none, both-denied, same_number, both-watched, both-outside, SameExplained, none_left, place-first, number-left, watched-left, outside-left}
use Rattle.explaining_laws.proofs.Outcome.{compiled-gets, finds-determined}
use Rattle.explaining_laws.proofs.Meanings.{same_none, same_first}
use Rattle.explaining_laws.proofs.DenialsAlong.{policies-along, lowest-along}

-- what is judged sound is the sheet that is read
one-read : {bytes : List ℕ} {sheet : Sheet} → ReadFrom bytes sheet → {mode : Mode} {other : Sheet} {types : List NodeType}
    → judge bytes ≡ sound mode other types → other ≡ sheet
one-read {bytes} {sheet} read {mode} {other} {types} e = by (told sheet (formed-from bytes read)) (sym (judge-from bytes read) ∙ e)
  where
    by : {j : Judgement} → Told sheet j → j ≡ sound mode other types → other ≡ sheet
    by (at-fault f p) q = absurd (let z : ◌≡◌ {A = ℕ} 0 1 = cc in omega arith)
    by (no-faults m all w) q = cc

-- the type of a table, 1 or 2; 0 where there is none
abbrev table_type : Answer → ℕ
table_type (accepted type actions rows) = type
table_type (compiler-refused number spot) = 0

same-type : {to : ℕ → ℕ} {a b : Answer} {t u : List ℕ} → SameButSpot to a t b u → table_type a ≡ table_type b
same-type (same-table type actions rows table) = refl
same-type (same-refusal number spot) = refl

refused-alike : {to : ℕ → ℕ} {number spot number' spot' : ℕ} {t u : List ℕ} → number < 10
    → SameButSpot to (compiler-refused number spot) t (compiler-refused number' spot') u
    → SameExplanation to (refused number spot) [] (refused number' spot') []
refused-alike low (same-refusal number spot) = same_number number spot low

module _ {bytes other : List ℕ} {sheet sheet' : Sheet} (read : ReadFrom bytes sheet) (read' : ReadFrom other sheet')
    (one : OneActionList sheet sheet') (same : SameUsed sheet sheet') where
  module _ (list : List ℕ) {types types' : List NodeType} (s : SoundSheet Enforced sheet types) (s' : SoundSheet Enforced sheet' types') where
    -- what the other sheet gives is one answer
    settled : {x y z : Explanation} {t u v : List ℕ} → SameExplanation same.to x t y u → Finds sheet' list y u → Finds sheet' list z v
        → SameExplanation same.to x t z v
    settled {x} {y} {t = t} {v = v} alike f g =
        let e = finds-determined f g in
        subst (λ (a : Explanation). SameExplanation same.to x t a v) e.0 (subst (SameExplanation same.to x t y) e.1 alike)

    there : Sequence sheet.actions list → Sequence sheet'.actions list
    there q = subst (λ (count : ℕ). Sequence count list) one.count q

    -- Two enforced sheets find the same.
    found-along : {x y : Explanation} {t u : List ℕ} → Finds sheet list x t → Finds sheet' list y u → SameExplanation same.to x t y u
    found-along (no-action n) g = settled both-outside (no-action (subst (λ (count : ℕ). NotAnAction count list) one.count n)) g
    found-along (none-denied q none) g =
        let alike = policies-along s s' same (one_list read.behind read'.behind one) in
        settled both-none (none-denied (there q) (same_none alike list q none)) g
    found-along (first-denied q place node f l) g =
        let entries = one_list read.behind read'.behind one in
        settled (both-denied place node)
        (first-denied (there q) place (same.to node) (same_first (policies-along s s' same entries) list q f) (lowest-along s s' same entries l)) g

  module _ (limits : Limits) where
    -- compiling gives tables of one type, or none
    one_type : {a b : Answer} {t u : List ℕ} → Compiles bytes limits a t → Compiles other limits b u
        → table_type a ≡ table_type b
    one_type c d = same-type (spare-nodes read read' one same limits c d)

    -- The two sheets get the same explanation of a list, for any limits.
    pub explain-spare-nodes : {list : List ℕ} {x y : Explanation} {t u : List ℕ} → Explains bytes list limits x t
        → Explains other list limits y u → SameExplanation same.to x t y u
    explain-spare-nodes (not-compiled number spot c) (not-compiled number' spot' d) =
        refused-alike (refused-low bytes c).0 (spare-nodes read read' one same limits c d)
    explain-spare-nodes (not-compiled number spot c) (watched k d) = absurd (let z = one_type c (compiled-gets d) in omega arith)
    explain-spare-nodes (not-compiled number spot c) (finds k d y u g) = absurd (let z = one_type c (compiled-gets d) in omega arith)
    explain-spare-nodes (watched k c) (not-compiled number spot d) = absurd (let z = one_type (compiled-gets c) d in omega arith)
    explain-spare-nodes (watched k c) (watched l d) = both-watched
    explain-spare-nodes (watched k c) (finds l d y u g) = absurd (let z = one_type (compiled-gets c) (compiled-gets d) in omega arith)
    explain-spare-nodes (finds k c x t f) (not-compiled number spot d) = absurd (let z = one_type (compiled-gets c) d in omega arith)
    explain-spare-nodes (finds k c x t f) (watched l d) = absurd (let z = one_type (compiled-gets c) (compiled-gets d) in omega arith)
    explain-spare-nodes {list} (finds k c x t f) (finds l d y u g) =
        let e = one-read read c.judged in
        let e' = one-read read' d.judged in
        found-along list (subst (λ (h : Sheet). SoundSheet Enforced h c.types) e (passed bytes c.judged))
        (subst (λ (h : Sheet). SoundSheet Enforced h d.types) e' (passed other d.judged))
        (subst (λ (h : Sheet). Finds h list x t) e f) (subst (λ (h : Sheet). Finds h list y u) e' g)

  -- Two calls, with areas that are long enough, of any contents: the same place at the front of both outputs, or outputs that are left as they were.
  pub explain-call-spare-nodes : {list out work values out' work' values' lent area numbers lent' area' numbers' : List ℕ}
      → AreasFor 1 out work values → AreasFor 1 lent area numbers → {x y : Explanation}
      → ExplainsInto bytes list out work values x out' work' values' → ExplainsInto other list lent area numbers y lent' area' numbers'
      → SameExplained same.to out lent x out' y lent'
  explain-call-spare-nodes areas areas' (short h) d = absurd (h areas)
  explain-call-spare-nodes areas areas' (makes l x t c) (short h) = absurd (h areas')
  explain-call-spare-nodes {out = out} {lent = lent} areas areas' (makes l x t c) (makes l' y u d) = by (explain-spare-nodes largest c d)
    where
      by : {x y : Explanation} {t u : List ℕ} → SameExplanation same.to x t y u
          → SameExplained same.to out lent x (t ++ drop (length t) out) y (u ++ drop (length u) lent)
      by both-none = none_left
      by (both-denied place node) = place-first place node
      by (same_number number spot low) = number-left number spot low
      by both-watched = watched-left
      by both-outside = outside-left
