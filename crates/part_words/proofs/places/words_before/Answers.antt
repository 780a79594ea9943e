-- The goals of `part_words::places::words_before` that the check leaves.
use mathlib.Core.Path.{◌≡◌, ap, ◌∙◌}
use Prim.Native.Nat.{◌+◌}
use native.Mathlib.Omega.{arith}
use Rattle.part_words.specs.Places.{words_among}
use Rattle.part_words.proofs.PlaceLaws.{none_yet, one_more}
use Rattle.part_words.proofs.places.words_before.Goals as goal

pub loop-k-init : goal.loop-k-init
loop-k-init c = let a = c.args in (omega arith, omega (arith, none_yet a.sheet.now a.node), omega arith)

pub loop-k-preserved : goal.loop-k-preserved
loop-k-preserved c =
    let a = c.args in
    let l = c.loop-k in
    let e = c.words_if_before-words.ensures in
    (omega arith, omega (arith, one_more a.sheet.now a.node l.k, e.0, l.invariant.1), omega (arith, e.1, l.invariant.2))

pub returns : goal.returns
returns c =
    let a = c.args in
    let l = c.loop-k in
    let all = c.node_count-count.ensures.0 in
    let done : l.k ≡ c.node_count-count.result = omega arith in
    l.invariant.1 ∙ ap (λ k. 1 + words_among a.sheet.now a.node k) (done ∙ all)

pub overflow_add-words : goal.overflow_add-words
overflow_add-words c = omega (arith, c.words_if_before-words.ensures.1)
