-- Sequences told apart: by what continuations do, and by what is remembered. Refusals 8 and 9 count them, for any property `tripped` of
-- sequences: that of a policy, of a table's rows, of several tables together.
-- Assumes nothing.
use Rattle.std.specs.Prelude.{◌≡◌, Bool, false, List, ◌++◌, ℕ, ◌≤◌, ◌<◌}
use Rattle.trace.specs.Trace.{Sequence}

-- Two sequences share a row (have one residual): every continuation trips after both or after neither.
pub record SameRow (actions : ℕ) (tripped : List ℕ → Bool) (u w : List ℕ) : Type 0 where
  pub same : (v : List ℕ) → Sequence actions v → tripped (u ++ v) ≡ tripped (w ++ v)

-- More than `limit` sequences that have not tripped, no two of them related.
pub record Many (actions : ℕ) (tripped : List ℕ → Bool) (limit : ℕ) (R : List ℕ → List ℕ → Type 0) : Type 0 where
  pub pick : ℕ → List ℕ
  pub sequence : (c : ℕ) → c ≤ limit → Sequence actions (pick c)
  pub untripped : (c : ℕ) → c ≤ limit → tripped (pick c) ≡ false
  pub apart : (c d : ℕ) → c < d → d ≤ limit → R (pick c) (pick d) → ⊥

-- 8: more than `limit` different remembered values, counted over all sequences that have not tripped.
abbrev pub ManyValues : {X : Type 0} (actions : ℕ) (tripped : List ℕ → Bool) → (List ℕ → X) → ℕ → Type 0
ManyValues actions tripped remembered limit = Many actions tripped limit (λ u w. remembered u ≡ remembered w)

-- 9: more than `limit` rows are needed.
abbrev pub ManyRows : (actions : ℕ) (tripped : List ℕ → Bool) → ℕ → Type 0
ManyRows actions tripped limit = Many actions tripped limit (SameRow actions tripped)
