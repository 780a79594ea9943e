-- A remembered value as one number of 64 bits.
-- Assumes nothing.
use Rattle.std.specs.Prelude.{cond, ℕ, ◌+◌, ◌*◌, ◌/◌, ◌%◌, ◌^◌, ◌≤◌, ◌<◌, eqb}
use Rattle.trace.specs.Trace.{Move, trip, go}
use Rattle.automaton.specs.Machine.{entry_move}
use Rattle.policy.specs.Rule.{Rule, opening-r, count-r, same-r, both_r, either_r, copied-r, before-r, after-r, fulfilling-r, ignoring-r}
use Rattle.policy.specs.Parts.{AllParts}
use Rattle.policy.specs.Closed.{Closed}
use Rattle.policy.specs.Value.{Part, Opening, fresh, spent, Pair, Before, rows, released, After, row, marked, Fulfilling, waiting, kept, missed, Value}

-- A value is put together from bytes: one further up counts 256 times as much. 255 is a part that has tripped.
abbrev pub byte_up : ℕ
byte_up = 256

abbrev pub trip_byte : ℕ
trip_byte = 255

-- Before: a is fulfilled. It is no pair of rows.
abbrev pub released_code : ℕ
released_code = 65535

-- After: the mark above the row of b. Fulfilling: the marks above the row of b and of c.
abbrev pub marked_from : ℕ
marked_from = 256

abbrev pub kept_from : ℕ
kept_from = 65536

abbrev pub missed_from : ℕ
missed_from = 131072

-- a part's row or trip in a byte
abbrev pub move_byte : Move ℕ → ℕ
move_byte trip = trip_byte
move_byte (go r) = r

abbrev pub byte_move : ℕ → Move ℕ
byte_move c = entry_move trip_byte c

abbrev pub opening_code : Opening → ℕ
opening_code fresh = 0
opening_code spent = 1

abbrev pub code_opening : ℕ → Opening
code_opening c = cond (eqb c 0) fresh spent

abbrev pub pair_code : Pair → ℕ
pair_code p = move_byte p.left * byte_up + move_byte p.right

abbrev pub code_pair : ℕ → Pair
code_pair c = record { left = byte_move (c / byte_up % byte_up); right = byte_move (c % byte_up) }

abbrev pub before_code : Before → ℕ
before_code (rows q r) = q * byte_up + r
before_code released = released_code

abbrev pub code_before : ℕ → Before
code_before c = cond (eqb c released_code) released (rows (c / byte_up % byte_up) (c % byte_up))

abbrev pub after_code : After → ℕ
after_code (row q) = q
after_code (marked r) = marked_from + r

abbrev pub code_after : ℕ → After
code_after c = cond (eqb (c / marked_from % byte_up) 0) (row (c % byte_up)) (marked (c % byte_up))

abbrev pub fulfilling_code : Fulfilling → ℕ
fulfilling_code (waiting q n) = q * byte_up + n
fulfilling_code (kept r) = kept_from + r
fulfilling_code (missed r) = missed_from + r

abbrev pub code_fulfilling : ℕ → Fulfilling
code_fulfilling c = cond (eqb (c / kept_from % byte_up) 0) (waiting (c / byte_up % byte_up) (c % byte_up)) (cond (eqb (c / kept_from % byte_up) 1) (kept (c % byte_up)) (missed (c % byte_up)))

abbrev pub encode : (rule : Rule Part) → Value rule → ℕ
encode (opening-r hit) v = opening_code v
encode (count-r k) v = v
encode (same-r f) v = v
encode (both_r f g) v = pair_code v
encode (either_r f g) v = pair_code v
encode (copied-r f) v = v
encode (before-r f g) v = before_code v
encode (after-r f g) v = after_code v
encode (fulfilling-r k f g h) v = fulfilling_code v
encode (ignoring-r hit f) v = v

abbrev pub decode : (rule : Rule Part) → ℕ → Value rule
decode (opening-r hit) c = code_opening c
decode (count-r k) c = c % byte_up
decode (same-r f) c = c % byte_up
decode (both_r f g) c = code_pair c
decode (either_r f g) c = code_pair c
decode (copied-r f) c = c
decode (before-r f g) c = code_before c
decode (after-r f g) c = code_after c
decode (fulfilling-r k f g h) c = code_fulfilling c
decode (ignoring-r hit f) c = c % byte_up

-- Values that a rule over tables of at most 64 rows remembers: rows below 64, counts of at most 60 actions, sets of rows below 64.
abbrev pub PartFits : Move ℕ → Type 0
PartFits trip = Unit {0}
PartFits (go r) = r < 64

abbrev pub BeforeFits : Before → Type 0
BeforeFits (rows q r) = (q < 64) × (r < 64)
BeforeFits released = Unit {0}

abbrev pub AfterFits : After → Type 0
AfterFits (row q) = q < 64
AfterFits (marked r) = r < 64

abbrev pub FulfillingFits : Fulfilling → Type 0
FulfillingFits (waiting q n) = (q < 64) × (n < 60)
FulfillingFits (kept r) = r < 64
FulfillingFits (missed r) = r < 64

abbrev pub ValueFits : (rule : Rule Part) → Value rule → Type 0
ValueFits (opening-r hit) v = Unit {0}
ValueFits (count-r k) v = v < 60
ValueFits (same-r f) v = v < 64
ValueFits (both_r f g) v = PartFits v.left × PartFits v.right
ValueFits (either_r f g) v = PartFits v.left × PartFits v.right
ValueFits (copied-r f) v = v < 2 ^ 64
ValueFits (before-r f g) v = BeforeFits v
ValueFits (after-r f g) v = AfterFits v
ValueFits (fulfilling-r k f g h) v = FulfillingFits v
ValueFits (ignoring-r hit f) v = v < 64

-- The counts that sheets have: 1 to 60.
abbrev pub CountInRange : {P : Type 0} → Rule P → Type 0
CountInRange (opening-r hit) = Unit {0}
CountInRange (count-r k) = (1 ≤ k) × (k ≤ 60)
CountInRange (same-r a) = Unit {0}
CountInRange (both_r a b) = Unit {0}
CountInRange (either_r a b) = Unit {0}
CountInRange (copied-r a) = Unit {0}
CountInRange (before-r a b) = Unit {0}
CountInRange (after-r a b) = Unit {0}
CountInRange (fulfilling-r k a b c) = (1 ≤ k) × (k ≤ 60)
CountInRange (ignoring-r hit a) = Unit {0}

-- A rule whose remembered values fit: its count is in range, and each part has 1 to 64 rows and stays among them.
pub record FitRule (rule : Rule Part) : Type 0 where
  pub counted : CountInRange rule
  pub closed : AllParts (λ f. (n : ℕ) × Closed n f) rule
