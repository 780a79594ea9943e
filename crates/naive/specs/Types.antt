-- What a node is found to be.
-- Assumes nothing.
use Rattle.std.specs.Prelude.{ℕ, ◌+◌, ◌≤◌, min, max, Option, Some, None, IfSome, ⊤}
use Rattle.naive.specs.declared.types.«Type».{«Type»}
use Rattle.naive.specs.declared.types.«Type».TheVariants.{Formula, Policy}

-- The bound of a policy, where it has one, is at most 65534.
abbrev pub Bounded : «Type» → Type 0
Bounded Formula = ⊤
Bounded (Policy _ bound) = IfSome bound (λ k. k ≤ 65534)

-- A bound, where there is one, is counted to 1000000.
abbrev pub Counted : Option ℕ → Type 0
Counted bound = IfSome bound (λ k. k ≤ 1000000)

-- The bound of a policy is.
abbrev pub CountedType : «Type» → Type 0
CountedType Formula = ⊤
CountedType (Policy _ bound) = Counted bound

-- The larger of two bounds, where there are two.
abbrev pub larger_of : Option ℕ → Option ℕ → Option ℕ
larger_of (Some k) (Some l) = Some (max k l)
larger_of (Some k) None = None
larger_of None l = None

-- The sum of two bounds, where there are two, counted to 1000000.
abbrev pub sum_of : Option ℕ → Option ℕ → Option ℕ
sum_of (Some k) (Some l) = Some (min (k + l) 1000000)
sum_of (Some k) None = None
sum_of None l = None
