-- Which types the parts of a policy have where the whole has one: figure 4's rules, read from the bottom up.
-- Assumes nothing.
use mathlib.Core.Path.{◌≡◌, refl, sym, ap}
use mathlib.Core.Logic.{◌↔◌}
use mathlib.Core.Bool.{Bool, true, false, cond}
use Prim.Native.Nat.{ℕ}
use Rattle.policy.specs.Policy.{Policy, fulfilling}
use Rattle.std.proofs.Common.{None}
use Rattle.policy.specs.Typing.{Mode, watched, enforced, Bound, Typing, typed, if_typed, if_watched, if_enforced, on_mode, policy_type}
use Rattle.policy.specs.Waits.{FulfillingTyped}
use Rattle.policy.specs.Trips.{Typed}

-- equal types have one mode and one bound
pub same-type : {m n : Mode} {j k : Bound} → typed m j ≡ typed n k → (m ≡ n) × (j ≡ k)
same-type {m} {n} {j} {k} e =
    let pair : ◌≡◌ {A = Mode × Bound} (m, j) (n, k) = cc in
    (ap (λ (t : Mode × Bound). t.0) pair, ap (λ (t : Mode × Bound). t.1) pair)

pub from-typed : (s : Typing) (f : Mode → Bound → Typing) {m : Mode} {k : Bound} → if_typed s f ≡ typed m k
    → (n : Mode) × (j : Bound) × (s ≡ typed n j) × (f n j ≡ typed m k)
from-typed (typed n j) f e = (n, j, refl, e)
from-typed None f e = cc

pub from-watched : (s : Typing) (f : Bound → Typing) {m : Mode} {k : Bound} → if_watched s f ≡ typed m k
    → (j : Bound) × (s ≡ typed watched j) × (f j ≡ typed m k)
from-watched (typed watched j) f e = (j, refl, e)
from-watched (typed enforced j) f e = cc
from-watched None f e = cc

pub from-enforced : (s : Typing) (f : Bound → Typing) {m : Mode} {k : Bound} → if_enforced s f ≡ typed m k
    → (j : Bound) × (s ≡ typed enforced j) × (f j ≡ typed m k)
from-enforced (typed watched j) f e = cc
from-enforced (typed enforced j) f e = (j, refl, e)
from-enforced None f e = cc

pub from-mode : (n : Mode) (s : Typing) (f g : Bound → Typing) {m : Mode} {k : Bound} → on_mode n (if_watched s f) (if_enforced s g) ≡ typed m k
    → (j : Bound) × (s ≡ typed n j)
from-mode watched s f g e = let h = from-watched s f e in (h.0, h.1)
from-mode enforced s f g e = let h = from-enforced s g e in (h.0, h.1)

pub from-cond : (b : Bool) (s : Typing) {m : Mode} {k : Bound} → cond b s None ≡ typed m k → (b ≡ true) × (s ≡ typed m k)
from-cond true s e = (refl, e)
from-cond false s e = cc

pub typed-as : {p : Policy} {m : Mode} {k : Bound} → policy_type p ≡ typed m k → Typed p
typed-as {m} {k} e = record { mode = m; bound = k; has = e }

-- Fulfilling has a type exactly where its parts have the types that it asks for.
module _ (k : ℕ) (a b c : Policy) {m : Mode} {bound : Bound} where
  fulfilling-parts : policy_type (fulfilling k a b c) ≡ typed m bound → FulfillingTyped k a b c m bound
  fulfilling-parts e =
      let f = from-watched (policy_type a) _ e in
      let g = from-enforced (policy_type b) _ f.2 in
      let h = from-enforced (policy_type c) _ g.2 in
      let d = same-type h.2 in
      record {
        enforced-whole = sym d.0;
        ka = f.0;
        kb = g.0;
        kc = h.0;
        watched-a = f.1;
        enforced-b = g.1;
        enforced-c = h.1;
        bound-is = sym d.1;
      }

  pub fulfilling-typed : (policy_type (fulfilling k a b c) ≡ typed m bound) ↔ FulfillingTyped k a b c m bound
  fulfilling-typed = (fulfilling-parts, λ t. rw (t.watched-a, t.enforced-b, t.enforced-c, t.enforced-whole, t.bound-is))
