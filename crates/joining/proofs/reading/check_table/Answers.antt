-- `joining::reading::check_table` meets its contract: check 10, then 11, then the type.
use mathlib.Core.Path.{◌≡◌, refl, subst}
use mathlib.Core.Bool.{true}
use mathlib.Core.List.{List}
use Prim.Native.Nat.{ℕ, ◌+◌, ◌*◌, ◌-◌}
use native.Mathlib.Omega.{arith}
use borrow.Author.Rules.{rules}
use lib.ListN.{take, drop}
use Rattle.std.proofs.Common.{Option, Some, None, Result, Err, ok_or}
use Rattle.table.specs.Table.{front_table, CanonicalRows}
use Rattle.table.specs.declared.Header.{Header}
use Rattle.table.specs.Answer.{mode_number, accepted, malformed, Loads, FormedAs, Checked}
use Rattle.table.proofs.Formed.{front-entries, rows_fit, loads-accepted, loads-refused}
use Rattle.joining.specs.Reading.{RefusedBy}
use Rattle.joining.specs.declared.JoinError.{JoinError}
use Rattle.joining.specs.declared.JoinError.TheVariants.{Malformed}
use Rattle.joining.proofs.Walking.{refused-10, refused-11, refused-34, fit-front}
use Rattle.joining.proofs.reading.check_table.Goals as goal
use Rattle.joining.proofs.reading.check_table.Goals.{In_ok-header}

-- check 10 fails
fails : (bytes : List ℕ) (found : Option Header) → Checked (front_table bytes) found → (error : JoinError) → ◌≡◌ {A = Result Header JoinError} (Err error) (ok_or found Malformed)
    → RefusedBy (front_table bytes) error
fails bytes None f error e = let is : error ≡ Malformed = cc in rw is (refused-10 bytes (malformed f))
fails bytes (Some header) f error e = absurd (let z : ◌≡◌ {A = ℕ} 0 1 = cc in omega arith)

pub returns-in_err-header : goal.returns-in_err-header
returns-in_err-header c =
    let is : c.from_residual.result ≡ Err c.in_err-header.field-0.0 = search rules in
    rw is (fails c.args.bytes.now c.check_front.result c.check_front.ensures _ c.in_err-header.ensures.value)

-- check 10 passes
module _ (c : In_ok-header) where
  abbrev bytes : List ℕ
  bytes = c.args.bytes.now

  abbrev header : Header
  header = c.in_ok-header.header

  front : FormedAs (front_table bytes) header
  front = rw c.in_ok-header.ensures.ok_part at c.check_front.ensures

  entries : take (8 + header.rows * header.actions - 8) (drop 8 bytes) ≡ drop 8 (front_table bytes)
  entries = front-entries bytes header (8 + header.rows * header.actions) front.fields refl

pub canonical-requires : goal.canonical-requires
canonical-requires c = let at = (goal.at.canonical-requires c).In_ok-header in rw (entries at) (rows_fit _ _ (front at))

pub returns-then-not-canonical : goal.returns-then-not-canonical
returns-then-not-canonical c =
    let at = (goal.at.returns-then-not-canonical c).In_ok-header in
    refused-11 (bytes at) (loads-refused _ _ (front at) (rw (c.if-not-canonical.true, entries at) at c.canonical.ensures))

-- check 11 passes
module _ (c : In_ok-header) (canonical : CanonicalRows (header c).rows (header c).actions (drop 8 (front_table (bytes c)))) where
  of-type : (n : ℕ) → mode_number (header c).mode ≡ n → Loads (front_table (bytes c)) (accepted n (header c).actions (header c).rows)
  of-type n e = subst (λ (k : ℕ). Loads (front_table (bytes c)) (accepted k (header c).actions (header c).rows)) e (loads-accepted _ _ (front c) canonical)

pub returns-in-Watched : goal.returns-in-Watched
returns-in-Watched c =
    let at = (goal.at.returns-in-Watched c).In_ok-header in
    let passed : c.canonical.result ≡ true = search rules in
    refused-34 (bytes at) (of-type at (rw (passed, entries at) at c.canonical.ensures) 2 (rw c.in-Watched.is))

pub returns-in-Enforced : goal.returns-in-Enforced
returns-in-Enforced c =
    let at = (goal.at.returns-in-Enforced c).In_ok-header in
    let passed : c.canonical.result ≡ true = search rules in
    fit-front (bytes at) (of-type at (rw (passed, entries at) at c.canonical.ensures) 1 (rw c.in-Enforced.is))
