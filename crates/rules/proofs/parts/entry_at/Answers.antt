-- `rules::parts::entry_at` meets its contract: an entry of a node's rows stands i * 1024 bytes into the work area, and past its 1,024 bytes there is none.
use mathlib.Core.Path.{◌≡◌, sym, ◌∙◌}
use mathlib.Core.List.{List}
use Prim.Native.Nat.{ℕ, ◌+◌, ◌*◌, ◌≤◌, ◌<◌}
use native.Mathlib.Omega.{arith}
use lib.ListN.{length, get_or, length-take, drop, get_or-eq_default}
use lib.Seq.{get_or-take, get_or-drop}
use borrow.Author.Rules.{rules}
use Rattle.base.proofs.Lists.{get_or-within}
use Rattle.rules.specs.Rules.{slot_at}
use Rattle.rules.proofs.parts.entry_at.Goals as goal

-- an entry within a node's rows
slot-within : (work : List ℕ) (i k : ℕ) → k < 1024 → i * 1024 + k < length work → get_or work (i * 1024 + k) 0 ≡ get_or (slot_at work i) k 255
slot-within work i k h g =
    get_or-within work (i * 1024 + k) 0 255 g
    ∙ sym (get_or-drop (i * 1024) work k 255)
    ∙ sym (get_or-take 1024 (drop (i * 1024) work) k 255 h)

-- no entry past them
slot-past : (work : List ℕ) (i k : ℕ) → 1024 ≤ k → 255 ≡ get_or (slot_at work i) k 255
slot-past work i k h = sym (get_or-eq_default (slot_at work i) 255 (omega (arith, length-take 1024 (drop (i * 1024) work))))

pub returns-then-k-lt-SLOT_LENGTH : goal.returns-then-k-lt-SLOT_LENGTH
returns-then-k-lt-SLOT_LENGTH c =
    let a = c.args in
    rw c.from.ensures (slot-within a.work.now a.i a.k (search rules) (search rules))

pub returns-else-k-lt-SLOT_LENGTH : goal.returns-else-k-lt-SLOT_LENGTH
returns-else-k-lt-SLOT_LENGTH c = slot-past c.args.work.now c.args.i c.args.k (search rules)
