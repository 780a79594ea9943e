-- What two sheets with the same used nodes return through the compiler's call for C.
-- Assumes nothing.
use Rattle.std.specs.Prelude.{◌≡◌, List, ℕ}
use Rattle.lemondarts_laws.specs.Session.{number_in}
use Rattle.lemondarts_laws.specs.TextTables.{table_in}

-- Two numbers that were returned, with the outputs of both calls, before and after.
pub data SameReturned (out lent : List ℕ) (returned returned' : ℕ) (out' lent' : List ℕ) : Type 0 where
  -- a table: the same number, and the same bytes at the front of both outputs
  same-table : number_in returned ≡ 0 → returned ≡ returned' → table_in returned out' ≡ table_in returned' lent'
      → SameReturned out lent returned returned' out' lent'
  -- a refusal by one number; both outputs are as they were
  same-refusal : number_in returned ≡ number_in returned' → out' ≡ out → lent' ≡ lent → SameReturned out lent returned returned' out' lent'
