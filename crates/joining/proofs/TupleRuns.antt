-- Tables read together through one number: it goes through the numbers of the tuples of their rows, and trips where one of them does.
-- Assumes nothing.
use mathlib.Core.Path.{◌≡◌, refl, sym, ◌∙◌, ap, ap₂, subst}
use mathlib.Core.Bool.{Bool, true, false, ◌||◌}
use mathlib.Core.List.{List, [], ◌∷◌}
use Prim.Native.Nat.{ℕ, zero, suc, ◌+◌, ◌*◌, ◌/◌, ◌%◌, ◌≤◌, ◌<◌}
use native.Mathlib.Omega.{arith}
use Rattle.trace.specs.Trace.{Sequence, Move, trip, go, after, run, tripped, trips}
use Rattle.base.proofs.Truths.{or-false}
use Rattle.automaton.proofs.MinimalRows.{leads}
use Rattle.policy.specs.Closed.{Below, answer}
use Rattle.policy.specs.Value.{Part}
use Rattle.rules.specs.Codes.{move_byte}
use Rattle.rules.specs.Rules.{part_at}
use Rattle.table.specs.Table.{actions_of, rows_of, row_step}
use Rattle.table.proofs.Formed.{machine}
use Rattle.steppers.specs.Tuples.{join_moves, tuple_step, parts_from}
use Rattle.machine_rows.proofs.PartRows.{rows_stay}
use Rattle.joining.specs.Tables.{listed, Fit}
use Rattle.joining.specs.Meaning.{some_trips, rows_after}

join-trip : (m : Move ℕ) → join_moves m trip ≡ trip
join-trip trip = refl
join-trip (go r) = refl

-- a row that a byte holds
abbrev pub InByte : Move ℕ → Type 0
InByte trip = Unit {0}
InByte (go r) = r < 256

-- A machine that is being read, and where it stands.
record Runner : Type 0 where
  part : Part
  at : Move ℕ
  small : (r a : ℕ) → InByte (part r a)
  held : InByte at

abbrev parts : List Runner → List Part
parts [] = []
parts (r ∷ rs) = r.part ∷ parts rs

-- where they stand together
abbrev together : List Runner → Move ℕ
together [] = go 0
together (r ∷ rs) = join_moves r.at (together rs)

after_small : (part : Part) → ((r a : ℕ) → InByte (part r a)) → (a : ℕ) (m : Move ℕ) → InByte (after m (λ r. part r a))
after_small part small a trip = tt
after_small part small a (go r) = small r a

-- each moved by an action
abbrev moved : ℕ → Runner → Runner
moved a r = record { part = r.part; at = after r.at (λ q. r.part q a); small = r.small; held = after_small r.part r.small a r.at }

abbrev all_moved : ℕ → List Runner → List Runner
all_moved a [] = []
all_moved a (r ∷ rs) = moved a r ∷ all_moved a rs

moved-together : (a : ℕ) (rs : List Runner) → after (together rs) (λ v. tuple_step (parts rs) v a) ≡ together (all_moved a rs)
moved-together a [] = refl
moved-together a (r ∷ rs) = by r.at r.held (together rs) (together (all_moved a rs)) (moved-together a rs)
  where
    digits : (row rest : ℕ) → row < 256 → tuple_step (parts (r ∷ rs)) (row + 256 * rest) a ≡ join_moves (r.part row a) (tuple_step (parts rs) rest a)
    digits row rest h =
        ap₂ (λ (x y : ℕ). join_moves (r.part x a) (tuple_step (parts rs) y a)) (let e : (row + 256 * rest) % 256 ≡ row = omega arith in e)
        (let e : (row + 256 * rest) / 256 ≡ rest = omega arith in e)

    by : (m : Move ℕ) → InByte m → (others next : Move ℕ) → after others (λ v. tuple_step (parts rs) v a) ≡ next
        → after (join_moves m others) (λ v. tuple_step (parts (r ∷ rs)) v a) ≡ join_moves (after m (λ q. r.part q a)) next
    by trip h others next e = refl
    by (go row) h trip next e = sym (join-trip (r.part row a)) ∙ ap (join_moves (r.part row a)) e
    by (go row) h (go rest) next e = digits row rest h ∙ ap (join_moves (r.part row a)) e

-- each has read a sequence
abbrev all_read : List ℕ → List Runner → List Runner
all_read [] rs = rs
all_read (a ∷ w) rs = all_read w (all_moved a rs)

parts-kept : (a : ℕ) (rs : List Runner) → parts (all_moved a rs) ≡ parts rs
parts-kept a [] = refl
parts-kept a (r ∷ rs) = ap (λ (l : List Part). r.part ∷ l) (parts-kept a rs)

read-together : (w : List ℕ) (rs : List Runner) → run (tuple_step (parts rs)) (together rs) w ≡ together (all_read w rs)
read-together [] rs = refl
read-together (a ∷ w) rs =
    ap (λ (m : Move ℕ). run (tuple_step (parts rs)) m w) (moved-together a rs)
    ∙ ap (λ (l : List Part). run (tuple_step l) (together (all_moved a rs)) w) (sym (parts-kept a rs))
    ∙ read-together w (all_moved a rs)

-- where each stands
abbrev places : List Runner → List (Move ℕ)
places [] = []
places (r ∷ rs) = r.at ∷ places rs

abbrev places_after : List ℕ → List Runner → List (Move ℕ)
places_after w [] = []
places_after w (r ∷ rs) = run r.part r.at w ∷ places_after w rs

read-places : (w : List ℕ) (rs : List Runner) → places (all_read w rs) ≡ places_after w rs
read-places [] rs = none rs
  where
    none : (rs : List Runner) → places rs ≡ places_after [] rs
    none [] = refl
    none (r ∷ rs) = ap (λ (l : List (Move ℕ)). r.at ∷ l) (none rs)
read-places (a ∷ w) rs = read-places w (all_moved a rs) ∙ one rs
  where
    one : (rs : List Runner) → places_after w (all_moved a rs) ≡ places_after (a ∷ w) rs
    one [] = refl
    one (r ∷ rs) = ap (λ (l : List (Move ℕ)). run r.part (after r.at (λ q. r.part q a)) w ∷ l) (one rs)

-- a tuple of rows as one number, the first row lowest
abbrev pub tuple_code : List (Move ℕ) → ℕ
tuple_code [] = 0
tuple_code (m ∷ ms) = move_byte m + 256 * tuple_code ms

abbrev some_tripped : List (Move ℕ) → Bool
some_tripped [] = false
some_tripped (m ∷ ms) = tripped m || some_tripped ms

together-code : (rs : List Runner) → together rs ≡ answer (some_tripped (places rs)) (tuple_code (places rs))
together-code [] = refl
together-code (r ∷ rs) = by r.at (together rs) (some_tripped (places rs)) (tuple_code (places rs)) (together-code rs)
  where
    by : (m others : Move ℕ) (b : Bool) (c : ℕ) → others ≡ answer b c → join_moves m others ≡ answer (tripped m || b) (move_byte m + 256 * c)
    by trip others b c e = refl
    by (go row) others true c e = ap (join_moves (go row)) e
    by (go row) others false c e = ap (join_moves (go row)) e

-- A fit table over so many actions.
pub record Over (actions : ℕ) (table : List ℕ) : Type 0 where
  pub fit : Fit table
  pub acts : actions_of table ≡ actions

abbrev pub EachOver : (actions : ℕ) → List (List ℕ) → Type 0
EachOver actions [] = Unit {0}
EachOver actions (table ∷ tables) = Over actions table × EachOver actions tables

abbrev pub parts_of : List (List ℕ) → List Part
parts_of [] = []
parts_of (table ∷ tables) = row_step table ∷ parts_of tables

below-byte : (n : ℕ) → n ≤ 64 → (m : Move ℕ) → Below n m → InByte m
below-byte n h trip b = tt
below-byte n h (go r) b = omega arith

module _ (actions : ℕ) where
  -- every table before any action
  runners : (tables : List (List ℕ)) → EachOver actions tables → List Runner
  runners [] o = []
  runners (table ∷ tables) o =
      let f = o.0.fit.accepted.formed in
      record {
        part = row_step table;
        at = go 0;
        small = λ r a. below-byte (rows_of table) f.header.rows-high (row_step table r a) (rows_stay (machine table f) r a);
        held = omega arith;
      } ∷ runners tables o.1

  parts_are : (tables : List (List ℕ)) (o : EachOver actions tables) → parts (runners tables o) ≡ parts_of tables
  unfolding runners
  parts_are [] o = refl
  parts_are (table ∷ tables) o = ap (λ (l : List Part). row_step table ∷ l) (parts_are tables o.1)

  starts : (tables : List (List ℕ)) (o : EachOver actions tables) → together (runners tables o) ≡ go 0
  unfolding runners
  starts [] o = refl
  starts (table ∷ tables) o = ap (join_moves (go 0)) (starts tables o.1)

  rows_are : (w : List ℕ) (tables : List (List ℕ)) (o : EachOver actions tables) → places_after w (runners tables o) ≡ rows_after tables w
  unfolding runners
  rows_are w [] o = refl
  rows_are w (table ∷ tables) o = ap (λ (l : List (Move ℕ)). run (row_step table) (go 0) w ∷ l) (rows_are w tables o.1)

  trips-are : (w : List ℕ) (tables : List (List ℕ)) → some_tripped (rows_after tables w) ≡ some_trips tables w
  trips-are w [] = refl
  trips-are w (table ∷ tables) = ap (λ (b : Bool). tripped (run (row_step table) (go 0) w) || b) (trips-are w tables)

  -- Read from the tables' first rows, the number is that of the tuple of their rows, until one of them trips.
  pub tuple-codes : (tables : List (List ℕ)) → EachOver actions tables → (w : List ℕ)
      → run (tuple_step (parts_of tables)) (go 0) w ≡ answer (some_trips tables w) (tuple_code (rows_after tables w))
  tuple-codes tables o w =
      let rs = runners tables o in
      ap₂ (λ (l : List Part) (m : Move ℕ). run (tuple_step l) m w) (sym (parts_are tables o)) (sym (starts tables o))
      ∙ read-together w rs ∙ together-code (all_read w rs)
      ∙ ap (λ (ms : List (Move ℕ)). answer (some_tripped ms) (tuple_code ms)) (read-places w rs ∙ rows_are w tables o)
      ∙ ap (λ (b : Bool). answer b (tuple_code (rows_after tables w))) (trips-are w tables)

  -- Tuples of rows of sequences that no table has tripped are told apart by their numbers.
  pub codes-apart : (tables : List (List ℕ)) → EachOver actions tables → (u w : List ℕ) → Sequence actions u → Sequence actions w
      → some_trips tables u ≡ false → some_trips tables w ≡ false → tuple_code (rows_after tables u) ≡ tuple_code (rows_after tables w)
      → rows_after tables u ≡ rows_after tables w
  codes-apart [] o u w su sw nu nw e = refl
  codes-apart (table ∷ tables) o u w su sw nu nw e =
      ap₂ (λ (m : Move ℕ) (ms : List (Move ℕ)). m ∷ ms) (to-u.2 ∙ ap go digits.0 ∙ sym to-w.2)
      (codes-apart tables o.1 u w su sw off-u.1 off-w.1 digits.1)
    where
      off-u : (trips (row_step table) 0 u ≡ false) × (some_trips tables u ≡ false)
      off-u = or-false (trips (row_step table) 0 u) (some_trips tables u) nu

      off-w : (trips (row_step table) 0 w ≡ false) × (some_trips tables w ≡ false)
      off-w = or-false (trips (row_step table) 0 w) (some_trips tables w) nw

      row : (v : List ℕ) → Sequence actions v → trips (row_step table) 0 v ≡ false → (r : ℕ) × (r < rows_of table) × (run (row_step table) (go 0) v ≡ go r)
      row v s n =
          let f = o.0.fit.accepted.formed in
          leads (machine table f) v 0 f.header.rows-low (subst (λ (k : ℕ). Sequence k v) (sym o.0.acts) s) n

      to-u : (r : ℕ) × (r < rows_of table) × (run (row_step table) (go 0) u ≡ go r)
      to-u = row u su off-u.0

      to-w : (r : ℕ) × (r < rows_of table) × (run (row_step table) (go 0) w ≡ go r)
      to-w = row w sw off-w.0

      digits : (to-u.0 ≡ to-w.0) × (tuple_code (rows_after tables u) ≡ tuple_code (rows_after tables w))
      digits =
          let h = o.0.fit.accepted.formed.header.rows-high in
          let p : move_byte (run (row_step table) (go 0) u) ≡ to-u.0 = ap move_byte to-u.2 in
          let q : move_byte (run (row_step table) (go 0) w) ≡ to-w.0 = ap move_byte to-w.2 in
          let l = to-u.1 in
          let m = to-w.1 in
          (omega arith, omega arith)

-- The slots of the work area, as the machines of the tables that they hold.
module _ (actions : ℕ) (work : List ℕ) where
  pub parts-from : (first n : ℕ) (f : ℕ → List ℕ) → ((i : ℕ) → i < n → part_at actions work (first + i) ≡ row_step (f i)) → parts_from actions work first n ≡ parts_of (listed n f)
  parts-from first zero f e = refl
  parts-from first (suc n) f e =
      ap₂ (λ (p : Part) (l : List Part). p ∷ l) (ap (part_at actions work) (let z : first ≡ first + 0 = omega arith in z) ∙ e 0 (omega arith))
      (parts-from (suc first) n (λ i. f (suc i)) (λ i h. ap (part_at actions work) (let z : suc first + i ≡ first + suc i = omega arith in z) ∙ e (suc i) (omega arith)))

pub each_over : (actions n : ℕ) (f : ℕ → List ℕ) → ((i : ℕ) → i < n → Over actions (f i)) → EachOver actions (listed n f)
each_over actions zero f e = tt
each_over actions (suc n) f e = (e 0 (omega arith), each_over actions n (λ i. f (suc i)) (λ i h. e (suc i) (omega arith)))
