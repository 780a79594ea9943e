-- Types and bounds of policies (docs/FORMATS.md, "Policies", columns 'type' and 'bound'; Xu and Fong, figure 4).
-- Assumes nothing.
use Rattle.std.specs.Prelude.{Bool, cond, not, Option, Some, None, ℕ, ◌+◌, max, leb}
-- watched (Xu and Fong's mon): trips when it becomes satisfied; enforced (enf): trips when it becomes violated
pub use Rattle.trace.specs.declared.Mode.{Mode}
pub use Rattle.trace.specs.declared.Mode.TheVariants.{Watched as watched, Enforced as enforced}
pub use Rattle.policy.specs.declared.Bound.{Bound}
pub use Rattle.policy.specs.declared.Bound.TheVariants.{Finite as finite, Unbounded as unbounded}
use Rattle.policy.specs.Policy.{Policy, now, holds-first, count, not-p, and-p, or-p, eventually, always, before-, before+, after-, after+, fulfilling, ignoring}

-- the type of a policy, or none: figure 4 has no rule for it
abbrev pub Typing : Type 0
Typing = Option (Mode × Bound)

pattern abbrev pub typed : Mode → Bound → Typing
typed m k = Some (m, k)

-- a largest or sum with an unbounded one is unbounded
abbrev pub larger : Bound → Bound → Bound
larger (finite j) (finite k) = finite (max j k)
larger (finite j) unbounded = unbounded
larger unbounded k = unbounded

abbrev pub plus : Bound → Bound → Bound
plus (finite j) (finite k) = finite (j + k)
plus (finite j) unbounded = unbounded
plus unbounded k = unbounded

abbrev pub other : Mode → Mode
other watched = enforced
other enforced = watched

-- the typing of a whole whose part has a type; `if_watched` and `if_enforced` ask for that type
abbrev pub if_typed : Typing → (Mode → Bound → Typing) → Typing
if_typed (typed m k) f = f m k
if_typed None f = None

abbrev pub on_mode : Mode → Typing → Typing → Typing
on_mode watched s t = s
on_mode enforced s t = t

abbrev pub if_watched : Typing → (Bound → Typing) → Typing
if_watched t f = if_typed t (λ m k. on_mode m (f k) None)

abbrev pub if_enforced : Typing → (Bound → Typing) → Typing
if_enforced t f = if_typed t (λ m k. on_mode m None (f k))

-- both parts of one type, which the whole keeps, with the larger bound
abbrev pub alike_typed : Typing → Typing → Typing
alike_typed s t = if_typed s (λ m j. on_mode m (if_watched t (λ k. typed watched (larger j k))) (if_enforced t (λ k. typed enforced (larger j k))))

-- the typing of each kind by those of its parts
abbrev pub type_now : Typing
type_now = typed watched (finite 1)

abbrev pub type_holds : Typing
type_holds = typed enforced (finite 1)

-- a count of none would be satisfied at the empty sequence
abbrev pub type_count : ℕ → Typing
type_count k = cond (leb 1 k) (typed watched (finite k)) None

abbrev pub type_not : Typing → Typing
type_not s = if_typed s (λ m k. typed (other m) k)

abbrev pub type_eventually : Typing → Typing
type_eventually s = if_watched s (λ k. typed watched unbounded)

abbrev pub type_always : Typing → Typing
type_always s = if_enforced s (λ k. typed enforced unbounded)

abbrev pub type_before- : Typing → Typing → Typing
type_before- s t = if_watched s (λ j. if_watched t (λ k. typed watched k))

abbrev pub type_before+ : Typing → Typing → Typing
type_before+ s t = if_watched s (λ j. if_enforced t (λ k. typed enforced k))

abbrev pub type_after- : Typing → Typing → Typing
type_after- s t = if_watched s (λ j. if_watched t (λ k. typed watched (plus j k)))

abbrev pub type_after+ : Typing → Typing → Typing
type_after+ s t = if_watched s (λ j. if_enforced t (λ k. typed enforced (plus j k)))

-- a waits for n actions at most, whatever its own bound
abbrev pub type_fulfilling : ℕ → Typing → Typing → Typing → Typing
type_fulfilling n s t u = if_watched s (λ i. if_enforced t (λ j. if_enforced u (λ k. typed enforced (plus (finite n) (larger j k)))))

abbrev pub type_ignoring : Typing → Typing
type_ignoring t = if_typed t (λ m k. typed m unbounded)

abbrev pub policy_type : Policy → Typing
policy_type (now f) = type_now
policy_type (holds-first f) = type_holds
policy_type (count k) = type_count k
policy_type (not-p a) = type_not (policy_type a)
policy_type (and-p a b) = alike_typed (policy_type a) (policy_type b)
policy_type (or-p a b) = alike_typed (policy_type a) (policy_type b)
policy_type (eventually a) = type_eventually (policy_type a)
policy_type (always a) = type_always (policy_type a)
policy_type (before- a b) = type_before- (policy_type a) (policy_type b)
policy_type (before+ a b) = type_before+ (policy_type a) (policy_type b)
policy_type (after- a b) = type_after- (policy_type a) (policy_type b)
policy_type (after+ a b) = type_after+ (policy_type a) (policy_type b)
policy_type (fulfilling n a b c) = type_fulfilling n (policy_type a) (policy_type b) (policy_type c)
policy_type (ignoring f b) = type_ignoring (policy_type b)

-- A watched policy has tripped when it is satisfied, an enforced one when it is violated.
abbrev pub tripped_at : Mode → Bool → Bool
tripped_at watched sat = sat
tripped_at enforced sat = not sat
