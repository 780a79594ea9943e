-- What is remembered of a sequence while it has not tripped (docs/FORMATS.md, "Policies", last column), and the step from one value to the next.
-- A part is a machine with states 0, 1, .. (the rows of its table) that starts at 0. A remembered value is a state of the product or
-- subset construction before minimisation.
-- Assumes nothing.
use Rattle.std.specs.Prelude.{Bool, cond, List, [], ◌∷◌, ℕ, zero, suc, ◌+◌, ◌^◌, leb, length, drop}
use Rattle.std.proofs.Math.Option.{Option, none, some}
use Rattle.std.specs.Int.Bits.{bit_or}
use Rattle.base.specs.Sets.{bit}
use Rattle.trace.specs.Trace.{Move, trip, go, Step, after, run, trips}
use Rattle.policy.specs.Operators.{Property, first, without}
use Rattle.policy.specs.Rule.{Rule, opening-r, count-r, same-r, both_r, either_r, copied-r, before-r, after-r, fulfilling-r, ignoring-r}

-- A part's machine, which starts at row 0.
abbrev pub Part : Type 0
Part = Step ℕ

-- Which sequences trip a part, where it stands after a sequence, and its row where it has not tripped.
abbrev pub part_trips : Part → Property
part_trips f w = trips f 0 w

abbrev pub part_after : Part → List ℕ → Move ℕ
part_after f w = run f (go 0) w

abbrev pub row_of : Move ℕ → ℕ
row_of trip = 0
row_of (go r) = r

-- The values that a rule remembers.
-- Now, Holds: fresh or spent
pub data Opening : Type 0 where
  fresh spent : Opening

-- And, Or: for each part its row, or tripped
pub record Pair : Type 0 where
  pub left : Move ℕ
  pub right : Move ℕ

-- Before: both rows; after a is fulfilled, one value
pub data Before : Type 0 where
  rows : (a b : ℕ) → Before
  released : Before

-- After: the row of a; once a is fulfilled, a mark and the row of b
pub data After : Type 0 where
  row : (a : ℕ) → After
  marked : (b : ℕ) → After

-- Fulfilling: the row of a and the actions so far; then b and its row, or c and its row
pub data Fulfilling : Type 0 where
  waiting : (a sofar : ℕ) → Fulfilling
  kept : (b : ℕ) → Fulfilling
  missed : (c : ℕ) → Fulfilling

-- Count remembers the actions so far, Not and Ignoring the row of their part, Eventually and Always the set of rows of the copies: bit r
-- of the number is set when a copy is in row r.
abbrev pub Value : Rule Part → Type 0
Value (opening-r hit) = Opening
Value (count-r k) = ℕ
Value (same-r f) = ℕ
Value (both_r f g) = Pair
Value (either_r f g) = Pair
Value (copied-r f) = ℕ
Value (before-r f g) = Before
Value (after-r f g) = After
Value (fulfilling-r k f g h) = Fulfilling
Value (ignoring-r hit f) = ℕ

-- a set of rows with one row more
abbrev pub insert : ℕ → ℕ → ℕ
insert r set = bit_or set (2 ^ r)

-- the rows of the copies of a part, one begun before each action so far and one beginning now
abbrev pub copies_of : Part → List ℕ → ℕ
copies_of f [] = insert 0 0
copies_of f (a ∷ w) = insert (row_of (part_after f (a ∷ w))) (copies_of f w)

abbrev pub remembered_opening : List ℕ → Opening
remembered_opening [] = fresh
remembered_opening (a ∷ w) = spent

abbrev pub remembered_after : Option ℕ → Part → Part → List ℕ → After
remembered_after none f g w = row (row_of (part_after f w))
remembered_after (some n) f g w = marked (row_of (part_after g (drop n w)))

abbrev pub remembered_late : ℕ → Part → Part → List ℕ → Fulfilling
remembered_late k f h w = cond (leb k (length w)) (missed (row_of (part_after h (drop k w)))) (waiting (row_of (part_after f w)) (length w))

abbrev pub remembered_fulfilling : Option ℕ → ℕ → Part → Part → Part → List ℕ → Fulfilling
remembered_fulfilling none k f g h w = remembered_late k f h w
remembered_fulfilling (some n) k f g h w = cond (leb n k) (kept (row_of (part_after g (drop n w)))) (remembered_late k f h w)

-- What a rule remembers of a sequence that has not tripped it.
abbrev pub remembered : (rule : Rule Part) → List ℕ → Value rule
remembered (opening-r hit) w = remembered_opening w
remembered (count-r k) w = length w
remembered (same-r f) w = row_of (part_after f w)
remembered (both_r f g) w = record { left = part_after f w; right = part_after g w }
remembered (either_r f g) w = record { left = part_after f w; right = part_after g w }
remembered (copied-r f) w = copies_of f w
remembered (before-r f g) w = cond (part_trips f w) released (rows (row_of (part_after f w)) (row_of (part_after g w)))
remembered (after-r f g) w = remembered_after (first (part_trips f) w) f g w
remembered (fulfilling-r k f g h) w = remembered_fulfilling (first (part_trips f) w) k f g h w
remembered (ignoring-r hit f) w = row_of (part_after f (without hit w))

-- The value before any action.
abbrev pub start : (rule : Rule Part) → Value rule
start rule = remembered rule []

abbrev pub step_opening : (ℕ → Bool) → Opening → ℕ → Move Opening
step_opening hit fresh a = cond (hit a) trip (go spent)
step_opening hit spent a = go spent

-- the actions so far with this one are k or more
abbrev pub step_count : ℕ → ℕ → Move ℕ
step_count k n = cond (leb k (n + 1)) trip (go (n + 1))

-- the parts' moves, a part that has tripped staying so: both have tripped, or one has
abbrev pub both_move : Move ℕ → Move ℕ → Move Pair
both_move trip trip = trip
both_move trip (go r) = go (record { left = trip; right = go r })
both_move (go q) n = go (record { left = go q; right = n })

abbrev pub either_move : Move ℕ → Move ℕ → Move Pair
either_move trip n = trip
either_move (go q) trip = trip
either_move (go q) (go r) = go (record { left = go q; right = go r })

-- one copy's move joined to those of the others: a copy that trips trips the whole
abbrev pub with_copy : Move ℕ → Move ℕ → Move ℕ
with_copy trip m = trip
with_copy (go r) trip = trip
with_copy (go r) (go set) = go (insert r set)

-- the copies in rows below n, moved by an action, and a copy beginning now
abbrev pub move_below : Part → ℕ → ℕ → ℕ → Move ℕ
move_below f set a zero = go (insert 0 0)
move_below f set a (suc n) = cond (bit set n) (with_copy (f n a) (move_below f set a n)) (move_below f set a n)

-- every copy is kept; tables have at most 64 rows
abbrev pub move_all : Part → ℕ → ℕ → Move ℕ
move_all f set a = move_below f set a 64

-- b is judged on the very action that fulfils a, and only then released
abbrev pub before_move : Move ℕ → Move ℕ → Move Before
before_move m trip = trip
before_move trip (go r) = go released
before_move (go q) (go r) = go (rows q r)

abbrev pub step_before : Part → Part → Before → ℕ → Move Before
step_before f g (rows q r) a = before_move (f q a) (g r a)
step_before f g released a = go released

-- a part's move, wrapped
abbrev pub go_with : {X : Type 0} → (ℕ → X) → Move ℕ → Move X
go_with wrap trip = trip
go_with wrap (go r) = go (wrap r)

-- a's move, and where b stands once a is fulfilled
abbrev pub after_move : Move ℕ → Move ℕ → Move After
after_move trip b = go_with marked b
after_move (go q) b = go (row q)

-- b starts on the action after the one that fulfils a: it has read nothing yet
abbrev pub step_after : Part → Part → After → ℕ → Move After
step_after f g (row q) a = after_move (f q a) (part_after g [])
step_after f g (marked r) a = go_with marked (g r a)

-- the actions so far, this one among them, are n
abbrev pub fulfilling_move : ℕ → ℕ → Move ℕ → Move Fulfilling
fulfilling_move k n trip = go (kept 0)
fulfilling_move k n (go q) = cond (leb k n) (go (missed 0)) (go (waiting q n))

abbrev pub step_fulfilling : ℕ → Part → Part → Part → Fulfilling → ℕ → Move Fulfilling
step_fulfilling k f g h (waiting q n) a = fulfilling_move k (n + 1) (f q a)
step_fulfilling k f g h (kept r) a = go_with kept (g r a)
step_fulfilling k f g h (missed r) a = go_with missed (h r a)

-- The step of each rule.
abbrev pub step_of : (rule : Rule Part) → Step (Value rule)
step_of (opening-r hit) v a = step_opening hit v a
step_of (count-r k) v a = step_count k v
step_of (same-r f) v a = f v a
step_of (both_r f g) v a = both_move (after v.left (λ q. f q a)) (after v.right (λ r. g r a))
step_of (either_r f g) v a = either_move (after v.left (λ q. f q a)) (after v.right (λ r. g r a))
step_of (copied-r f) v a = move_all f v a
step_of (before-r f g) v a = step_before f g v a
step_of (after-r f g) v a = step_after f g v a
step_of (fulfilling-r k f g h) v a = step_fulfilling k f g h v a
step_of (ignoring-r hit f) v a = cond (hit a) (go v) (f v a)
