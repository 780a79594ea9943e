-- Laws of where words stand: from first part to first part, and the words of one node more.
-- Assumes nothing.
use mathlib.Core.Path.{◌≡◌, refl, sym}
use mathlib.Core.Bool.{Bool, true, false, ◌&&◌}
use mathlib.Core.List.{List}
use Prim.Native.Nat.{ℕ, zero, suc, ◌+◌, ◌≤◌, ◌<◌}
use native.Mathlib.Numerals.{add-one}
use native.Mathlib.Omega.{arith}
use lib.Dec.{leb, ltb}
use borrow.Author.Tests.{eq-eqb, ne_eqb, lt-ltb, le-ltb, ltb-true}
use Rattle.sheet_layout.specs.Layout.{field}
use Rattle.part_words.specs.Kinds.{part_count}
use Rattle.part_words.specs.Places.{first_part, first_within, first_under, stands_before, own_words, words_if_before, words_among}

module _ (sheet : List ℕ) where
  pub no-first-part : (node : ℕ) → part_count (field sheet node 0) ≡ 0 → node ≡ first_part sheet node
  no-first-part node e = rw (eq-eqb (part_count (field sheet node 0)) 0 e)

  pub some-first-part : (node : ℕ) → (part_count (field sheet node 0) ≡ 0 → ⊥) → field sheet node 2 ≡ first_part sheet node
  some-first-part node n = rw (ne_eqb (part_count (field sheet node 0)) 0 n)

  -- turns that are enough give the same
  of_none : (turns : ℕ) → first_within sheet turns 0 ≡ 0
  unfolding first_within
  of_none zero = refl
  of_none (suc turns) = rw (le-ltb (first_part sheet 0) 0 (omega arith))

  enough : (turns more node : ℕ) → node ≤ turns → node ≤ more → first_within sheet turns node ≡ first_within sheet more node
  unfolding first_within
  enough zero more node h g = let z : node ≡ 0 = omega arith in rw z (sym (of_none more))
  enough (suc turns) zero node h g = let z : node ≡ 0 = omega arith in rw z (of_none (suc turns))
  enough (suc turns) (suc more) node h g = by (enough turns more (first_part sheet node)) (ltb (first_part sheet node) node) refl
    where
      by : (first_part sheet node ≤ turns → first_part sheet node ≤ more → first_within sheet turns (first_part sheet node) ≡ first_within sheet more (first_part sheet node))
          → (t : Bool) → ltb (first_part sheet node) node ≡ t → first_within sheet (suc turns) node ≡ first_within sheet (suc more) node
      by ih true e = let l = ltb-true (first_part sheet node) node e in rw e (ih (omega arith) (omega arith))
      by ih false e = rw e

  -- the first part stands before, or not
  pub goes_on : (node : ℕ) → first_part sheet node < node → first_under sheet (first_part sheet node) ≡ first_under sheet node
  unfolding first_within
  goes_on zero h = absurd (omega arith)
  goes_on (suc node) h = rw (lt-ltb (first_part sheet (suc node)) (suc node) h) (enough (first_part sheet (suc node)) node (first_part sheet (suc node)) (omega arith) (omega arith))

  pub stops : (node : ℕ) → node ≤ first_part sheet node → first_under sheet node ≡ node
  unfolding first_within
  stops zero h = refl
  stops (suc node) h = rw (le-ltb (first_part sheet (suc node)) (suc node) h)

  module _ (node other : ℕ) where
    pub earlier : node < other → ltb node (first_under sheet other) ≡ stands_before sheet node other
    unfolding stands_before
    earlier h = rw (lt-ltb node other h)

    pub later : other ≤ node → ltb other node && leb (first_under sheet node) other ≡ stands_before sheet node other
    unfolding stands_before
    later h = rw (le-ltb node other h)

    pub counted : stands_before sheet node other ≡ true → own_words sheet node ≡ words_if_before sheet node other
    unfolding words_if_before
    counted e = rw e

    pub not-counted : stands_before sheet node other ≡ false → 0 ≡ words_if_before sheet node other
    unfolding words_if_before
    not-counted e = rw e

  -- the words of one node more
  pub none_yet : (other : ℕ) → words_among sheet other 0 ≡ 0
  unfolding words_among
  none_yet other = refl

  pub one_more : (other n : ℕ) → words_among sheet other (n + 1) ≡ words_among sheet other n + words_if_before sheet n other
  unfolding words_among
  one_more other n = rw (add-one n)
