-- The numbers reached from one by going to parts, again and again, and the set of them as bits, found in one pass from that number down.
-- proofs/ReachedSets.antt: the set is right for any parts that stand before their whole.
-- Assumes nothing.
use Rattle.std.specs.Prelude.{◌≡◌, true, cond, ℕ, zero, suc, ◌^◌, ◌≤◌, ◌<◌}
use Rattle.std.specs.Int.Bits.{bit_or}
use Rattle.base.specs.Sets.{bit}

-- `Part n m`: m is a part of n.
pub data Reached (Part : ℕ → ℕ → Type 0) (from : ℕ) : ℕ → Type 0 where
  itself : Reached Part from from
  onward : {n m : ℕ} → Reached Part from n → Part n m → Reached Part from m

-- A set spread to the parts of its members below n, from n down. `parts n` is the set of the parts of n.
abbrev pub spread : (parts : ℕ → ℕ) → (set n : ℕ) → ℕ
spread parts set zero = set
spread parts set (suc n) = spread parts (cond (bit set n) (bit_or set (parts n)) set) n

-- What is reached from one number.
abbrev pub reached_set : (parts : ℕ → ℕ) → (from : ℕ) → ℕ
reached_set parts from = spread parts (2 ^ from) (suc from)

-- Parts stand before their whole.
abbrev pub Earlier : (parts : ℕ → ℕ) → (from : ℕ) → Type 0
Earlier parts from = (n m : ℕ) → n ≤ from → bit (parts n) m ≡ true → m < n
