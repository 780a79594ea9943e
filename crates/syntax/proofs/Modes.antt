-- Laws of parts that have to be of a mode.
-- Assumes nothing.
use Rattle.std.proofs.Common.{None}
use mathlib.Core.Path.{◌≡◌, refl, sym, ap, ◌∙◌}
use Prim.Native.Nat.{ℕ}
use native.Mathlib.Omega.{arith}
use Rattle.trace.specs.declared.Mode.{Mode}
use Rattle.trace.specs.declared.Mode.TheVariants.{Watched, Enforced}
use Rattle.policy.specs.declared.Bound.{Bound}
use Rattle.policy.specs.declared.Bound.TheVariants.{Finite, Unbounded}
use Rattle.policy.specs.Typing.{typed as Typed, Typing, larger, plus, on_mode, if_watched, if_enforced, alike_typed, type_after-, type_after+, type_fulfilling}
use Rattle.syntax.specs.Types.{only_as}

not-typed : {A : Type 0} {m : Mode} {k : Bound} → None ≡ Typed m k → A
not-typed e = absurd (let z : ◌≡◌ {A = ℕ} 0 1 = cc in omega arith)

-- the bound of a type
abbrev bound_of : Typing → Bound
bound_of (Typed m k) = k
bound_of None = Unbounded

same-bound : {m n : Mode} {j k : Bound} → Typed m j ≡ Typed n k → j ≡ k
same-bound e = ap bound_of e

pub either-mode : (m : Mode) (t : Typing) → t ≡ on_mode m t t
either-mode Watched t = refl
either-mode Enforced t = refl

-- a part that is of the mode that is asked for, and one that is not
pub watched-as : (t : Typing) (f : Bound → Typing) {m : Mode} {k : Bound} → only_as Watched t ≡ Typed m k → if_watched t f ≡ f k
watched-as (Typed Watched j) f e = ap f (same-bound e)
watched-as (Typed Enforced j) f e = not-typed e
watched-as None f e = not-typed e

pub enforced-as : (t : Typing) (f : Bound → Typing) {m : Mode} {k : Bound} → only_as Enforced t ≡ Typed m k → if_enforced t f ≡ f k
enforced-as (Typed Watched j) f e = not-typed e
enforced-as (Typed Enforced j) f e = ap f (same-bound e)
enforced-as None f e = not-typed e

pub not-watched : (t : Typing) (f : Bound → Typing) → only_as Watched t ≡ None → if_watched t f ≡ None
not-watched (Typed Watched j) f e = not-typed (sym e)
not-watched (Typed Enforced j) f e = refl
not-watched None f e = refl

pub not-enforced : (t : Typing) (f : Bound → Typing) → only_as Enforced t ≡ None → if_enforced t f ≡ None
not-enforced (Typed Watched j) f e = refl
not-enforced (Typed Enforced j) f e = not-typed (sym e)
not-enforced None f e = refl

-- two parts of one mode
pub alike : (m : Mode) (j : Bound) (t : Typing) {n : Mode} {k : Bound} → only_as m t ≡ Typed n k → alike_typed (Typed m j) t ≡ Typed m (larger j k)
alike Watched j t e = watched-as t (λ k. Typed Watched (larger j k)) e
alike Enforced j t e = enforced-as t (λ k. Typed Enforced (larger j k)) e

pub not_alike : (m : Mode) (j : Bound) (t : Typing) → only_as m t ≡ None → alike_typed (Typed m j) t ≡ None
not_alike Watched j t e = not-watched t (λ k. Typed Watched (larger j k)) e
not_alike Enforced j t e = not-enforced t (λ k. Typed Enforced (larger j k)) e

-- kinds 20 and 21, their parts one after the other: b and the whole are of mode m
module _ (m : Mode) (s t : Typing) where
  abbrev pub after_typed : Typing
  after_typed = on_mode m (type_after- s t) (type_after+ s t)

  pub not-after-a : only_as Watched s ≡ None → after_typed ≡ None
  not-after-a e = by m
    where
      by : (m : Mode) → on_mode m (type_after- s t) (type_after+ s t) ≡ None
      by Watched = not-watched s (λ j. if_watched t (λ k. Typed Watched (plus j k))) e
      by Enforced = not-watched s (λ j. if_enforced t (λ k. Typed Enforced (plus j k))) e

  module _ {l : Mode} {j : Bound} (a : only_as Watched s ≡ Typed l j) where
    pub not-after-b : only_as m t ≡ None → after_typed ≡ None
    not-after-b e = by m e
      where
        by : (m : Mode) → only_as m t ≡ None → on_mode m (type_after- s t) (type_after+ s t) ≡ None
        by Watched e = watched-as s (λ j. if_watched t (λ k. Typed Watched (plus j k))) a ∙ not-watched t (λ k. Typed Watched (plus j k)) e
        by Enforced e = watched-as s (λ j. if_enforced t (λ k. Typed Enforced (plus j k))) a ∙ not-enforced t (λ k. Typed Enforced (plus j k)) e

    pub after-ab : {n : Mode} {k : Bound} → only_as m t ≡ Typed n k → after_typed ≡ Typed m (plus j k)
    after-ab {k = k} e = by m e
      where
        by : (m : Mode) {n : Mode} → only_as m t ≡ Typed n k → on_mode m (type_after- s t) (type_after+ s t) ≡ Typed m (plus j k)
        by Watched e = watched-as s (λ j. if_watched t (λ k. Typed Watched (plus j k))) a ∙ watched-as t (λ k. Typed Watched (plus j k)) e
        by Enforced e = watched-as s (λ j. if_enforced t (λ k. Typed Enforced (plus j k))) a ∙ enforced-as t (λ k. Typed Enforced (plus j k)) e

-- kind 22, its parts one after the other; the bound of a is not asked for
module _ (n : ℕ) (s t u : Typing) where
  abbrev timed : Bound → Bound → Typing
  timed j k = Typed Enforced (plus (Finite n) (larger j k))

  pub not-fulfilling-a : only_as Watched s ≡ None → type_fulfilling n s t u ≡ None
  not-fulfilling-a e = not-watched s (λ i. if_enforced t (λ j. if_enforced u (λ k. timed j k))) e

  module _ {m : Mode} {i : Bound} (a : only_as Watched s ≡ Typed m i) where
    pub not-fulfilling-b : only_as Enforced t ≡ None → type_fulfilling n s t u ≡ None
    not-fulfilling-b e = watched-as s (λ i. if_enforced t (λ j. if_enforced u (λ k. timed j k))) a ∙ not-enforced t (λ j. if_enforced u (λ k. timed j k)) e

    module _ {l : Mode} {j : Bound} (b : only_as Enforced t ≡ Typed l j) where
      fulfilling-ab : type_fulfilling n s t u ≡ if_enforced u (λ k. timed j k)
      fulfilling-ab = watched-as s (λ i. if_enforced t (λ j. if_enforced u (λ k. timed j k))) a ∙ enforced-as t (λ j. if_enforced u (λ k. timed j k)) b

      pub not-fulfilling-c : only_as Enforced u ≡ None → type_fulfilling n s t u ≡ None
      not-fulfilling-c e = fulfilling-ab ∙ not-enforced u (λ k. timed j k) e

      pub fulfilling-abc : {o : Mode} {k : Bound} → only_as Enforced u ≡ Typed o k → type_fulfilling n s t u ≡ Typed Enforced (plus (Finite n) (larger j k))
      fulfilling-abc c = fulfilling-ab ∙ enforced-as u (λ k. timed j k) c
