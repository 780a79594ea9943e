-- A formed node is read back from its five bytes.
-- Assumes nothing.
use Rattle.std.proofs.Common.{Ok}
use mathlib.Core.Path.{◌≡◌, refl}
use Prim.Native.Nat.{ℕ, ◌%◌, ◌≤◌, ◌<◌}
use native.Mathlib.Nat.{mod-eq_of_lt}
use native.Mathlib.Omega.{arith}
use borrow.Author.Tests.{lt-ltb, le-leb}
use Rattle.syntax.specs.Formed.{PartsBelow, ArgumentFits}
use Rattle.syntax.specs.declared.Node.{Node}
use Rattle.syntax.specs.declared.Node.TheVariants.{True, False, Proposition, Negation, Conjunction, Disjunction, Now, Holds, Count, Not, And, Or, Eventually, Always, BeforeMinus, BeforePlus, AfterMinus, AfterPlus, Fulfilling, Ignoring}
use Rattle.sheet_reading.specs.Reading.{NodeRead, one_part, two_parts, read_fields}
use Rattle.sheet_writer.specs.Bytes.{FiveFields, fields_of}

-- what is read of the bytes of five fields
abbrev pub read_back : ℕ → FiveFields → NodeRead
read_back n fields = read_fields n (fields.0 % 256) (fields.1 % 256) (fields.2 % 256) (fields.3 % 256) (fields.4 % 256)

module _ (n : ℕ) (few : n ≤ 64) where
  low : {a : ℕ} → a < n → a % 256 ≡ a
  low h = mod-eq_of_lt (omega arith)

  one : (node : Node) {a : ℕ} → a < n → one_part n 0 a 0 0 node ≡ Ok node
  one node {a} h = rw (lt-ltb a n h)

  two : (node : Node) {a b : ℕ} → a < n → b < n → two_parts n 0 a b 0 node ≡ Ok node
  two node {a} {b} h g = rw (lt-ltb a n h, lt-ltb b n g)

  pub node-back : (node : Node) → PartsBelow n node → ArgumentFits node → read_back n (fields_of node) ≡ Ok node
  node-back True p q = refl
  node-back False p q = refl
  node-back (Proposition k) p q = let e : k % 256 ≡ k = mod-eq_of_lt (omega arith) in rw (e, le-leb 0 k (omega arith), le-leb k 15 q)
  node-back (Negation a) p q = rw (low p, one (Negation a) p)
  node-back (Conjunction a b) p q = rw (low p.0, low p.1, two (Conjunction a b) p.0 p.1)
  node-back (Disjunction a b) p q = rw (low p.0, low p.1, two (Disjunction a b) p.0 p.1)
  node-back (Now a) p q = rw (low p, one (Now a) p)
  node-back (Holds a) p q = rw (low p, one (Holds a) p)
  node-back (Count k) p q = let e : k % 256 ≡ k = mod-eq_of_lt (omega (arith, q.1)) in rw (e, le-leb 1 k q.0, le-leb k 60 q.1)
  node-back (Not a) p q = rw (low p, one (Not a) p)
  node-back (And a b) p q = rw (low p.0, low p.1, two (And a b) p.0 p.1)
  node-back (Or a b) p q = rw (low p.0, low p.1, two (Or a b) p.0 p.1)
  node-back (Eventually a) p q = rw (low p, one (Eventually a) p)
  node-back (Always a) p q = rw (low p, one (Always a) p)
  node-back (BeforeMinus a b) p q = rw (low p.0, low p.1, two (BeforeMinus a b) p.0 p.1)
  node-back (BeforePlus a b) p q = rw (low p.0, low p.1, two (BeforePlus a b) p.0 p.1)
  node-back (AfterMinus a b) p q = rw (low p.0, low p.1, two (AfterMinus a b) p.0 p.1)
  node-back (AfterPlus a b) p q = rw (low p.0, low p.1, two (AfterPlus a b) p.0 p.1)
  node-back (Fulfilling k a b c) p q =
      let e : k % 256 ≡ k = mod-eq_of_lt (omega (arith, q.1)) in
      rw (e, low p.0, low p.1, low p.2, le-leb 1 k q.0, le-leb k 60 q.1, lt-ltb a n p.0, lt-ltb b n p.1, lt-ltb c n p.2)
  node-back (Ignoring a b) p q = rw (low p.0, low p.1, two (Ignoring a b) p.0 p.1)
