-- The step of copied: the set of rows of the copies, one begun before each action so far and one beginning now, moved by an action.
-- Assumes nothing.
use mathlib.Core.Path.{◌≡◌, refl, sym, ◌∙◌, ap, subst}
use mathlib.Core.Bool.{Bool, true, false, cond, ◌||◌}
use mathlib.Core.List.{List, [], ◌∷◌, ◌++◌, append-nil}
use Prim.Native.Nat.{ℕ, zero, suc, ◌^◌, ◌≤◌, ◌<◌}
use native.Mathlib.Decide.{ℕ_discrete}
use native.Mathlib.Omega.{arith}
use lib.Seq.{append_snoc}
use borrow.Author.Tests.{eq-eqb, ne_eqb}
use Rattle.base.specs.Sets.{bit}
use Rattle.base.proofs.Bits.{bit-empty, bits_below}
use Rattle.trace.specs.Trace.{Move, trip, go, Step, after, run, tripped}
use Rattle.trace.proofs.Laws.{not-both, run-append}
use Rattle.policy.specs.Operators.{some_suffix}
use Rattle.policy.specs.Rule.{copied-r}
use Rattle.policy.specs.Value.{Part, part_trips, part_after, row_of, insert, copies_of, with_copy, move_below}
use Rattle.policy.specs.Closed.{Below, Closed, answer}
use Rattle.policy.specs.Right.{RightStep}
use Rattle.policy.proofs.Lasting.{part-lasting, rule-lasting}
use Rattle.policy.proofs.Sets.{bit-insert, insert-self, insert_comm}

-- a copy joined to the others' answer: every row is kept
join-answer : (m : Move ℕ) (b : Bool) (set : ℕ) → with_copy m (answer b set) ≡ answer (tripped m || b) (insert (row_of m) set)
join-answer trip b set = refl
join-answer (go r) true set = refl
join-answer (go r) false set = refl

-- joining a copy twice is joining it once, and the order is free
join-self : (m n : Move ℕ) → with_copy m (with_copy m n) ≡ with_copy m n
join-self trip n = refl
join-self (go r) trip = refl
join-self (go r) (go set) = ap go (insert-self r set)

join-comm : (l m n : Move ℕ) → with_copy l (with_copy m n) ≡ with_copy m (with_copy l n)
join-comm trip trip n = refl
join-comm trip (go r) n = refl
join-comm (go q) trip n = refl
join-comm (go q) (go r) trip = refl
join-comm (go q) (go r) (go set) = ap go (insert_comm q r set)

-- the copies of a set with one row more: that row's copy moved, joined to the others
module _ (f : Part) (a : ℕ) where
  pub move-empty : (n : ℕ) → move_below f 0 a n ≡ go (insert 0 0)
  move-empty zero = refl
  move-empty (suc n) = rw (bit-empty n) (move-empty n)

  move-above : (r set n : ℕ) → n ≤ r → move_below f (insert r set) a n ≡ move_below f set a n
  move-above r set zero h = refl
  move-above r set (suc n) h =
      rw (bit-insert r set n, ne_eqb n r (omega arith), move-above r set n (omega arith)) refl

  pub move-insert : (r set n : ℕ) → r < n → move_below f (insert r set) a n ≡ with_copy (f r a) (move_below f set a n)
  move-insert r set zero h = absurd (omega arith)
  move-insert r set (suc n) h = elim (ℕ_discrete n r) [ yes p ↦ here p | no q ↦ below q (move-insert r set n) ]
    where
      twice : (b : Bool) (m n : Move ℕ) → with_copy m n ≡ with_copy m (cond b (with_copy m n) n)
      twice true m n = sym (join-self m n)
      twice false m n = refl

      swap : (b : Bool) (l m n : Move ℕ) → cond b (with_copy l (with_copy m n)) (with_copy m n) ≡ with_copy m (cond b (with_copy l n) n)
      swap true l m n = join-comm l m n
      swap false l m n = refl

      here : n ≡ r → move_below f (insert r set) a (suc n) ≡ with_copy (f r a) (move_below f set a (suc n))
      here p =
          rw (bit-insert r set n, eq-eqb n r p, move-above r set n (omega arith))
          (rw p (twice (bit set r) (f r a) (move_below f set a r)))

      below : (n ≡ r → ⊥) → (r < n → move_below f (insert r set) a n ≡ with_copy (f r a) (move_below f set a n))
          → move_below f (insert r set) a (suc n) ≡ with_copy (f r a) (move_below f set a (suc n))
      below q ih =
          rw (bit-insert r set n, ne_eqb n r q, ih (omega arith)) (swap (bit set n) (f n a) (f r a) (move_below f set a n))

-- the moves of the copies, each joined to those begun later
abbrev joined : Part → ℕ → List ℕ → Move ℕ
joined f a [] = with_copy (f 0 a) (go (insert 0 0))
joined f a (x ∷ w) = with_copy (f (row_of (part_after f (x ∷ w))) a) (joined f a w)

-- a part that has not tripped moves from its row
moved : (f : Part) (a : ℕ) (m : Move ℕ) → tripped m ≡ false → after m (λ r. f r a) ≡ f (row_of m) a
moved f a trip e = not-both e
moved f a (go r) e = refl

or-false-left : (b c : Bool) → (b || c) ≡ false → b ≡ false
or-false-left true c e = e
or-false-left false c e = refl

or-false-right : (b c : Bool) → (b || c) ≡ false → c ≡ false
or-false-right true c e = not-both e
or-false-right false c e = e

joined-answer : (f : Part) (a : ℕ) (w : List ℕ) → some_suffix (part_trips f) w ≡ false
    → joined f a w ≡ answer (some_suffix (part_trips f) (w ++ (a ∷ []))) (copies_of f (w ++ (a ∷ [])))
joined-answer f a [] e = join-answer (f 0 a) false (insert 0 0)
joined-answer f a (x ∷ w) e =
    rw (joined-answer f a w (or-false-right (part_trips f (x ∷ w)) (some_suffix (part_trips f) w) e), next)
    (join-answer (f (row_of (part_after f (x ∷ w))) a) (some_suffix (part_trips f) (w ++ (a ∷ []))) (copies_of f (w ++ (a ∷ []))))
  where
    next : run f (f 0 x) (w ++ (a ∷ [])) ≡ f (row_of (run f (f 0 x) w)) a
    next =
        run-append f (f 0 x) w (a ∷ [])
        ∙ moved f a (run f (f 0 x) w) (or-false-left (part_trips f (x ∷ w)) (some_suffix (part_trips f) w) e)

-- induction from the right
snoc-ind : (Q : List ℕ → Type 0) → Q [] → ((w : List ℕ) (a : ℕ) → Q w → Q (w ++ (a ∷ []))) → (w : List ℕ) → Q w
snoc-ind Q base step w = grow w [] base
  where
    grow : (w u : List ℕ) → Q u → Q (u ++ w)
    grow [] u h = subst Q (sym (append-nil u)) h
    grow (a ∷ w) u h = subst Q (append_snoc u a w) (grow w (u ++ (a ∷ [])) (step u a h))

module _ (n : ℕ) (f : Part) (closed : Closed n f) where
  -- a part's row is one of its rows
  after-below : (m : Move ℕ) (a : ℕ) → Below n m → Below n (after m (λ r. f r a))
  after-below trip a h = tt
  after-below (go r) a h = closed.stay r a h

  run-below : (w : List ℕ) (m : Move ℕ) → Below n m → Below n (run f m w)
  run-below [] m h = h
  run-below (a ∷ w) m h = run-below w (after m (λ r. f r a)) (after-below m a h)

  row-of-below : (m : Move ℕ) → Below n m → row_of m < n
  row-of-below trip h = closed.pos
  row-of-below (go r) h = h

  pub row_below : (w : List ℕ) → row_of (part_after f w) < n
  row_below w = row-of-below (part_after f w) (run-below w (go 0) closed.pos)

  -- the set of the copies has rows of the part alone
  pub copies-below : (w : List ℕ) (q : ℕ) → n ≤ q → bit (copies_of f w) q ≡ false
  copies-below [] q h = let g = closed.pos in rw (bit-insert 0 0 q, ne_eqb q 0 (omega arith)) (bit-empty q)
  copies-below (a ∷ w) q h =
      let g = row_below (a ∷ w) in
      rw (bit-insert (row_of (part_after f (a ∷ w))) (copies_of f w) q, ne_eqb q (row_of (part_after f (a ∷ w))) (omega arith)) (copies-below w q h)

  pub copies-width : (w : List ℕ) → copies_of f w < 2 ^ 64
  copies-width w = let g = closed.few in bits_below 64 (copies_of f w) (λ q h. copies-below w q (omega arith))

  -- with room for every row, the copies move as the part does
  module _ (room : ℕ) (fits : n ≤ room) where
    move-copies : (a : ℕ) (w : List ℕ) → move_below f (copies_of f w) a room ≡ joined f a w
    move-copies a [] =
        let g = closed.pos in
        move-insert f a 0 0 room (omega arith) ∙ ap (with_copy (f 0 a)) (move-empty f a room)
    move-copies a (x ∷ w) =
        let g = row_below (x ∷ w) in
        move-insert f a (row_of (part_after f (x ∷ w))) (copies_of f w) room (omega arith)
        ∙ ap (with_copy (f (row_of (part_after f (x ∷ w))) a)) (move-copies a w)

    abbrev move : Step ℕ
    move set a = move_below f set a room

    copies-run : (w : List ℕ) → run move (go (insert 0 0)) w ≡ answer (some_suffix (part_trips f) w) (copies_of f w)
    copies-run = snoc-ind (λ w. run move (go (insert 0 0)) w ≡ answer (some_suffix (part_trips f) w) (copies_of f w)) refl next
      where
        judged : (w : List ℕ) (a : ℕ) (b : Bool) → some_suffix (part_trips f) w ≡ b
            → after (answer b (copies_of f w)) (λ v. move v a)
            ≡ answer (some_suffix (part_trips f) (w ++ (a ∷ []))) (copies_of f (w ++ (a ∷ [])))
        judged w a true e = rw ((rule-lasting (copied-r (part_trips f)) tt (part-lasting f)).stays w (a ∷ []) e) refl
        judged w a false e = move-copies a w ∙ joined-answer f a w e

        next : (w : List ℕ) (a : ℕ) → run move (go (insert 0 0)) w ≡ answer (some_suffix (part_trips f) w) (copies_of f w)
            → run move (go (insert 0 0)) (w ++ (a ∷ [])) ≡ answer (some_suffix (part_trips f) (w ++ (a ∷ []))) (copies_of f (w ++ (a ∷ [])))
        next w a ih =
            run-append move (go (insert 0 0)) w (a ∷ [])
            ∙ ap (λ (m : Move ℕ). after m (λ v. move v a)) ih
            ∙ judged w a (some_suffix (part_trips f) w) refl

  pub copied-right : RightStep (copied-r f)
  copied-right = record { right = copies-run 64 closed.few }
