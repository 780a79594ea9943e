-- Actions that are all permitted, and actions of which one is denied: not both, and one place.
-- Assumes nothing.
use mathlib.Core.Path.{◌≡◌, sym, ◌∙◌, ap}
use mathlib.Core.List.{List, [], ◌∷◌, ◌++◌}
use Prim.Native.Nat.{ℕ}
use native.Mathlib.Omega.{arith}
use lib.ListN.{length}
use Rattle.view.specs.Steps.{denied, act}
use Rattle.runs.specs.Events.{Event, event}
use Rattle.explaining_laws.specs.Boards.{AllPermitted, none, more, DeniedAfter}

-- a denial among the events
denied-among : {X : Type 0} (later before : List Event) (action place : ℕ) (events : List Event) → AllPermitted events
    → events ≡ later ++ (event (act action) (denied place) ∷ before) → X
denied-among [] before action place events none e = absurd (let z : ◌≡◌ {A = ℕ} 0 1 = cc in omega arith)
denied-among [] before action place events (more a set p) e = absurd (let z : ◌≡◌ {A = ℕ} 0 1 = cc in omega arith)
denied-among (x ∷ later) before action place events none e = absurd (let z : ◌≡◌ {A = ℕ} 0 1 = cc in omega arith)
denied-among (x ∷ later) before action place events (more {events = rest} a set p) e =
    let q : rest ≡ later ++ (event (act action) (denied place) ∷ before) = cc in denied-among later before action place rest p q

-- Actions that are all permitted have none that is denied.
pub permitted-not-denied : {X : Type 0} {table : List ℕ} {later events : List Event} {count : ℕ} → AllPermitted later → DeniedAfter table later events count → X
permitted-not-denied {later = later} p d = denied-among d.afterwards d.before d.action d.place later p d.all

-- two denials with nothing but permitted actions before each
same-before : (later later' before before' : List Event) (a p a' p' : ℕ) → AllPermitted before → AllPermitted before'
    → later ++ (event (act a) (denied p) ∷ before) ≡ later' ++ (event (act a') (denied p') ∷ before') → before ≡ before'
same-before [] [] before before' a p a' p' m m' e = cc
same-before [] (y ∷ later') before before' a p a' p' m m' e =
    let q : before ≡ later' ++ (event (act a') (denied p') ∷ before') = cc in denied-among later' before' a' p' before m q
same-before (x ∷ later) [] before before' a p a' p' m m' e =
    let q : before' ≡ later ++ (event (act a) (denied p) ∷ before) = cc in denied-among later before a p before' m' q
same-before (x ∷ later) (y ∷ later') before before' a p a' p' m m' e =
    let q : later ++ (event (act a) (denied p) ∷ before) ≡ later' ++ (event (act a') (denied p') ∷ before') = cc in
    same-before later later' before before' a p a' p' m m' q

-- The first denial comes after one number of permitted actions.
pub one-count : {table : List ℕ} {later events : List Event} {m n : ℕ} → DeniedAfter table later events m → DeniedAfter table later events n → m ≡ n
one-count d e =
    let q = same-before d.afterwards e.afterwards d.before e.before d.action d.place e.action e.place d.permitted-each e.permitted-each (sym d.all ∙ e.all) in
    sym d.counted ∙ ap length q ∙ e.counted
