-- The goals of `lexer::tokens::same` that the check leaves.
use mathlib.Core.Path.{◌≡◌, refl, sym, ◌∙◌}
use mathlib.Core.Bool.{false, ◌&&◌}
use Prim.Native.Nat.{ℕ, ◌+◌, ◌<◌}
use native.Mathlib.Numerals.{add-one}
use native.Mathlib.Omega.{arith}
use lib.Dec.{eqb}
use lib.ListN.{length, get_or, drop, drop_of_length-le}
use lib.Seq.{drop-cons}
use borrow.Author.Rules.{rules}
use borrow.Author.Tests.{eq-eqb, ne_eqb}
use Rattle.grammar.specs.Words.{Word}
use Rattle.grammar.specs.Spelling.{same}
use Rattle.lexer.proofs.ByLength.{lengths_differ}
use Rattle.lexer.proofs.tokens.same.Goals as goal

module _ (v w : Word) (k : ℕ) (e : length v ≡ length w) (h : k < length v) where
  byte-first : same (drop k v) (drop k w) ≡ eqb (get_or v k 0) (get_or w k 0) && same (drop (k + 1) v) (drop (k + 1) w)
  byte-first = let i : k < length w = omega arith in rw (add-one, drop-cons v k 0, drop-cons w k 0)

  bytes-differ : (get_or v k 0 ≡ get_or w k 0 → ⊥) → same (drop k v) (drop k w) ≡ false
  bytes-differ n = byte-first ∙ rw (ne_eqb (get_or v k 0) (get_or w k 0) n)

  bytes-equal : get_or v k 0 ≡ get_or w k 0 → same (drop k v) (drop k w) ≡ same (drop (k + 1) v) (drop (k + 1) w)
  bytes-equal q = byte-first ∙ rw (eq-eqb (get_or v k 0) (get_or w k 0) q)

pub returns-then-word-other : goal.returns-then-word-other
returns-then-word-other c = sym (lengths_differ c.args.word.now c.args.other.now c.if-word-other.true)

pub returns-then-word-k : goal.returns-then-word-k
returns-then-word-k c =
    let l = c.loop-k in
    let a = c.args in
    sym (l.invariant.2 ∙ bytes-differ a.word.now a.other.now l.k l.invariant.1 (omega arith) c.if-word-k.true)

pub loop-k-preserved : goal.loop-k-preserved
loop-k-preserved c =
    let l = c.loop-k in
    let a = c.args in
    (search rules, search rules, l.invariant.2 ∙ bytes-equal a.word.now a.other.now l.k l.invariant.1 (omega arith) c.if-word-k.false)

pub returns : goal.returns
returns c =
    let l = c.loop-k in
    let a = c.args in
    sym (l.invariant.2 ∙ rw (drop_of_length-le a.word.now {i = l.k} (omega arith), drop_of_length-le a.other.now {i = l.k} (omega arith)))

pub loop-k-init : goal.loop-k-init
loop-k-init c = (search rules, search rules, refl)
