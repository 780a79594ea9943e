-- Tests of a rule's parts and of its count, and laws of rules over their parts.
-- Assumes nothing.
use mathlib.Core.Path.{◌≡◌}
use mathlib.Core.Bool.{Bool, true, ◌&&◌}
use Prim.Native.Nat.{ℕ, ◌≤◌}
use lib.Dec.{leb}
use borrow.Author.Tests.{leb-true}
use Rattle.base.proofs.Truths.{and-true}
use Rattle.policy.specs.Rule.{Rule, opening-r, count-r, same-r, both_r, either_r, copied-r, before-r, after-r, fulfilling-r, ignoring-r}
use Rattle.policy.specs.Parts.{AllParts}
use Rattle.rules.specs.Codes.{CountInRange}

-- A test that every part passes, and one of the rule's count.
abbrev pub parts_pass : {P : Type 0} → (P → Bool) → Rule P → Bool
parts_pass test (opening-r hit) = true
parts_pass test (count-r k) = true
parts_pass test (same-r a) = test a
parts_pass test (both_r a b) = test a && test b
parts_pass test (either_r a b) = test a && test b
parts_pass test (copied-r a) = test a
parts_pass test (before-r a b) = test a && test b
parts_pass test (after-r a b) = test a && test b
parts_pass test (fulfilling-r k a b c) = test a && (test b && test c)
parts_pass test (ignoring-r hit a) = test a

abbrev pub count_fits : {P : Type 0} → Rule P → Bool
count_fits (opening-r hit) = true
count_fits (count-r k) = leb 1 k && leb k 60
count_fits (same-r a) = true
count_fits (both_r a b) = true
count_fits (either_r a b) = true
count_fits (copied-r a) = true
count_fits (before-r a b) = true
count_fits (after-r a b) = true
count_fits (fulfilling-r k a b c) = leb 1 k && leb k 60
count_fits (ignoring-r hit a) = true

module _ {P : Type 0} (test : P → Bool) where
  two-pass : (a b : P) → (test a && test b) ≡ true → (test a ≡ true) × (test b ≡ true)
  two-pass a b e = and-true (test a) (test b) e

  pub parts-pass : (rule : Rule P) → parts_pass test rule ≡ true → AllParts (λ a. test a ≡ true) rule
  parts-pass (opening-r hit) e = tt
  parts-pass (count-r k) e = tt
  parts-pass (same-r a) e = e
  parts-pass (both_r a b) e = two-pass a b e
  parts-pass (either_r a b) e = two-pass a b e
  parts-pass (copied-r a) e = e
  parts-pass (before-r a b) e = two-pass a b e
  parts-pass (after-r a b) e = two-pass a b e
  parts-pass (fulfilling-r k a b c) e =
      let h = and-true (test a) (test b && test c) e in
      let i = two-pass b c h.1 in
      (h.0, i.0, i.1)
  parts-pass (ignoring-r hit a) e = e

count-fits : (k : ℕ) → (leb 1 k && leb k 60) ≡ true → (1 ≤ k) × (k ≤ 60)
count-fits k e = let h = and-true (leb 1 k) (leb k 60) e in (leb-true 1 k h.0, leb-true k 60 h.1)

pub counted : {P : Type 0} (rule : Rule P) → count_fits rule ≡ true → CountInRange rule
counted (opening-r hit) e = tt
counted (count-r k) e = count-fits k e
counted (same-r a) e = tt
counted (both_r a b) e = tt
counted (either_r a b) e = tt
counted (copied-r a) e = tt
counted (before-r a b) e = tt
counted (after-r a b) e = tt
counted (fulfilling-r k a b c) e = count-fits k e
counted (ignoring-r hit a) e = tt

-- what follows of each part from two facts
module _ {P : Type 0} (Q R S : P → Type 0) (each : (a : P) → Q a → R a → S a) where
  pub all_both : (rule : Rule P) → AllParts Q rule → AllParts R rule → AllParts S rule
  all_both (opening-r hit) q r = tt
  all_both (count-r k) q r = tt
  all_both (same-r a) q r = each a q r
  all_both (both_r a b) q r = (each a q.0 r.0, each b q.1 r.1)
  all_both (either_r a b) q r = (each a q.0 r.0, each b q.1 r.1)
  all_both (copied-r a) q r = each a q r
  all_both (before-r a b) q r = (each a q.0 r.0, each b q.1 r.1)
  all_both (after-r a b) q r = (each a q.0 r.0, each b q.1 r.1)
  all_both (fulfilling-r k a b c) q r = (each a q.0 r.0, each b q.1 r.1, each c q.2 r.2)
  all_both (ignoring-r hit a) q r = each a q r
