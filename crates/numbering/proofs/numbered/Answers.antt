-- The goals of `numbering::numbered` that the check leaves.
use Rattle.std.proofs.Common.{◌≡◌, length, get_or, sym, ◌∙◌, arith}
use Rattle.base.proofs.Lists.{get_or-within}
use Rattle.numbering.proofs.Scan.{scan-none, scan-known, scan-trip, scan-new, scan-skips, scan-late, numbered_exactly}
use Rattle.numbering.proofs.numbered.Goals as goal
use Rattle.numbering.proofs.numbered.Goals.{After-from-e, else-e-ne255, then-e-ne255+else-met-e+else-e-met, then-e-ne255+else-met-e+then-e-met+else-met-actions}

pub loop-k-init : goal.loop-k-init
loop-k-init c = scan-none _ _ _ c.requires

-- the entry as the machine has it
read : (c : After-from-e) → c.from-e.result ≡ get_or c.args.entries.now c.loop-k.k 255
read c = c.from-e.ensures ∙ get_or-within c.args.entries.now c.loop-k.k 0 255 c.loop-k-test.true

pub returns-then-met-e : goal.returns-then-met-e
returns-then-met-e c =
    let e = read (goal.at.returns-then-met-e c).After-from-e in
    scan-skips _ _ _ c.requires _ _ c.loop-k.invariant c.loop-k-test.true (λ p. c.if-e-ne255.true (e ∙ p)) (omega (arith, e))

pub returns-then-met-actions : goal.returns-then-met-actions
returns-then-met-actions c =
    let e = read (goal.at.returns-then-met-actions c).After-from-e in
    scan-late _ _ _ c.requires _ _ c.loop-k.invariant c.loop-k-test.true (λ p. c.if-e-ne255.true (e ∙ p)) (sym e ∙ c.if-e-met.true) c.if-met-actions.true

pub loop-k-preserved : goal.loop-k-preserved
loop-k-preserved c =
    let e = read (goal.at.loop-k-preserved c).After-from-e in
    let sc = c.loop-k.invariant in
    let here = c.loop-k-test.true in
    elim c.if-e-ne255.branch [
      | then-e-ne255+else-met-e+then-e-met+else-met-actions w ↦
          rw w.met-is
          (scan-new _ _ _ c.requires _ _ sc here (λ p. w.if-e-ne255.true (e ∙ p)) (sym e ∙ w.if-e-met.true) (omega (arith, w.if-met-actions.false)))
      | then-e-ne255+else-met-e+else-e-met w ↦
          rw w.met-is
          (scan-known _ _ _ c.requires _ _ sc (λ p. w.if-e-ne255.true (e ∙ p)) (omega (arith, w.if-met-e.false, w.if-e-met.false, e)))
      | else-e-ne255 w ↦ rw w.met-is (scan-trip _ _ _ c.requires _ _ sc (sym e ∙ w.if-e-ne255.false))
    ]

pub returns : goal.returns
returns c =
    let end : c.loop-k.k ≡ length c.args.entries.now = omega arith in
    numbered_exactly _ _ _ c.requires _ (rw end at c.loop-k.invariant)
