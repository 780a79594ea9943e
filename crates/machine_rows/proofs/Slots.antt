-- A slot of the work area exchanged for another list of 1,024 bytes: that slot is the list, and every other slot is as it was.
-- Assumes nothing.
use mathlib.Core.Path.{◌≡◌, sym, ◌∙◌, ap}
use mathlib.Core.List.{List, ◌++◌}
use Prim.Native.Nat.{ℕ, ◌+◌, ◌*◌, ◌-◌, ◌≤◌, ◌<◌}
use native.Mathlib.Decide.{dec_lt}
use native.Mathlib.Omega.{arith}
use lib.ListN.{length, take, drop, take-append-drop}
use lib.Seq.{length-take-le, take_at, take-take, drop_at, take-append-le, drop-append-le, drop-drop}
use borrow.Rule.Slice.PartMut.{mid_of, put_mid, post_of, drop_put}
use Rattle.rules.specs.Rules.{slot_at}

-- a slot that ends before place a is that of the first a bytes
slot-of-front : (i a : ℕ) (front rest : List ℕ) → length front ≡ a → i * 1024 + 1024 ≤ a → slot_at (front ++ rest) i ≡ slot_at front i
slot-of-front i a front rest e h =
    ap (take 1024) (drop-append-le (i * 1024) front rest (omega arith))
    ∙ take-append-le 1024 (drop (i * 1024) front) rest (simp (lib.ListN.length-drop) (omega arith))

-- the first k bytes of a slot, as a part of the work area
pub slot-front : (n k : ℕ) (work : List ℕ) → k ≤ 1024 → mid_of (n * 1024) (n * 1024 + k - n * 1024) work ≡ take k (slot_at work n)
slot-front n k work h =
    ap (λ (m : ℕ). take m (drop (n * 1024) work)) (let e : n * 1024 + k - n * 1024 ≡ k = omega arith in e)
    ∙ sym (take-take k 1024 (drop (n * 1024) work) h)

module _ (n : ℕ) (work slot : List ℕ) (room : n * 1024 + 1024 ≤ length work) (long : length slot ≡ n * 1024 + 1024 - n * 1024) where
  abbrev from : ℕ
  from = n * 1024

  abbrev to : ℕ
  to = n * 1024 + 1024

  abbrev behind : List ℕ
  behind = put_mid from (to - from) work slot

  front : length (take from work) ≡ from
  front = length-take-le from work (omega arith)

  pub slot-put : slot_at (put_mid (n * 1024) (n * 1024 + 1024 - n * 1024) work slot) n ≡ slot
  slot-put =
      ap (take 1024) (drop_at (take from work) (slot ++ post_of from (to - from) work) from front)
      ∙ take_at slot (post_of from (to - from) work) 1024 (omega arith)

  before : (i : ℕ) → i < n → slot_at behind i ≡ slot_at work i
  before i h =
      slot-of-front i from (take from work) (slot ++ post_of from (to - from) work) front (omega arith)
      ∙ sym (slot-of-front i from (take from work) (drop from work) front (omega arith))
      ∙ ap (λ (l : List ℕ). slot_at l i) (take-append-drop from work)

  past : (j : ℕ) → drop (to + j) behind ≡ drop (to + j) work
  past j =
      sym (drop-drop j to behind) ∙ ap (drop j) (drop_put from to work slot (omega arith) room long) ∙ drop-drop j to work

  after : (i : ℕ) → n < i → slot_at behind i ≡ slot_at work i
  after i h =
      let e : to + (i * 1024 - to) ≡ i * 1024 = omega arith in
      ap (take 1024) (rw e at (past (i * 1024 - to)))

  pub slot_kept : (i : ℕ) → (i ≡ n → ⊥) → slot_at (put_mid (n * 1024) (n * 1024 + 1024 - n * 1024) work slot) i ≡ slot_at work i
  slot_kept i q = elim (dec_lt i n) [ yes l ↦ before i l | no l ↦ after i (omega arith) ]
