-- Each answer of explaining is given exactly when its checks say so, in its place of the order.
-- Assumes nothing.
use mathlib.Core.Path.{◌≡◌, refl, subst}
use mathlib.Core.List.{List, []}
use mathlib.Core.Logic.{◌↔◌}
use Prim.Native.Nat.{ℕ, ◌<◌}
use native.Mathlib.Omega.{arith}
use Rattle.trace.specs.declared.Mode.TheVariants.{Enforced, Watched}
use Rattle.limits.specs.declared.Limits.{Limits}
use Rattle.table.specs.Answer.{refused as compiler-refused}
use Rattle.syntax.specs.declared.Sheet.{Sheet}
use Rattle.compiler.specs.Compiles.{Compiles}
use Rattle.compiler_laws.proofs.Spots.{refused-low}
use Rattle.explaining.specs.Denials.{NoneDenied}
use Rattle.explaining.specs.Explains.{Explanation, no-denial, denied, refused, CompiledSheet, Finds, no-action, none-denied, first-denied, Explains, not-compiled, watched, finds}
use Rattle.explaining_laws.specs.Answers.{CompilesAs, SomeNoAction, Explainable, DeniedBy, Outcome, permits, denies, PermitsAll, Denies}
use Rattle.explaining_laws.proofs.Places.{not-outside}
use Rattle.explaining_laws.proofs.Outcome.{not-refused, one-sheet, not-watched, explains-determined}

module _ (bytes list : List ℕ) (limits : Limits) where
  -- why explaining is refused: by the compiler, by 34 or by 12
  data Reason : (number spot : ℕ) → Type 0 where
    by-compiler : {number spot : ℕ} → Compiles bytes limits (compiler-refused number spot) [] → Reason number spot
    by-34 : CompilesAs bytes limits Watched → Reason 34 0
    by-12 : SomeNoAction bytes list limits → Reason 12 0

  abbrev ReasonOf : Explanation → Type 0
  ReasonOf no-denial = PermitsAll bytes list limits
  ReasonOf (denied place node) = Denies bytes list limits place node
  ReasonOf (refused number spot) = Reason number spot

  found-reason : (sheet : Sheet) → CompiledSheet bytes limits Enforced sheet → {x : Explanation} {t : List ℕ} → Finds sheet list x t → ReasonOf x
  found-reason sheet c (no-action n) = by-12 (record { sheet = sheet; compiled = c; outside = n })
  found-reason sheet c (none-denied s none) = record { sheet = sheet; explainable = record { compiled = c; actions = s }; none = none }
  found-reason sheet c (first-denied s place node f l) =
      record { sheet = sheet; explainable = record { compiled = c; actions = s }; by = record { first = f; lowest = l } }

  reason : {x : Explanation} {t : List ℕ} → Explains bytes list limits x t → ReasonOf x
  reason (not-compiled number spot c) = by-compiler c
  reason (watched sheet c) = by-34 (record { sheet = sheet; compiled = c })
  reason (finds sheet c x t f) = found-reason sheet c f

  -- a reason by its number
  low-reason : {number spot : ℕ} → number < 10 → Reason number spot → Compiles bytes limits (compiler-refused number spot) []
  low-reason h (by-compiler c) = c
  low-reason h (by-34 w) = absurd (omega arith)
  low-reason h (by-12 n) = absurd (omega arith)

  watched-reason : {number spot : ℕ} → number ≡ 34 → Reason number spot → CompilesAs bytes limits Watched
  watched-reason h (by-compiler c) = absurd (omega (arith, (refused-low bytes c).0))
  watched-reason h (by-34 w) = w
  watched-reason h (by-12 n) = absurd (omega arith)

  outside-reason : {number spot : ℕ} → number ≡ 12 → Reason number spot → SomeNoAction bytes list limits
  outside-reason h (by-compiler c) = absurd (omega (arith, (refused-low bytes c).0))
  outside-reason h (by-34 w) = absurd (omega arith)
  outside-reason h (by-12 n) = n

  no-reason : {number spot : ℕ} → number ≡ 14 → Reason number spot → ⊥
  no-reason h (by-compiler c) = omega (arith, (refused-low bytes c).0)
  no-reason h (by-34 w) = omega arith
  no-reason h (by-12 n) = omega arith

module _ {bytes list : List ℕ} {limits : Limits} {x : Explanation} {written : List ℕ} (e : Explains bytes list limits x written) where
  says : (y : Explanation) → x ≡ y → ReasonOf bytes list limits y
  says y q = subst (ReasonOf bytes list limits) q (reason bytes list limits e)

  same : {y : Explanation} {t : List ℕ} → Explains bytes list limits y t → x ≡ y
  same f = (explains-determined e f).0

  -- 1 to 9: a refusal of the compiler is this call's, and the other way round, with its spot.
  pub explain-refused-exactly : (number spot : ℕ) → number < 10
      → (x ≡ refused number spot) ↔ Compiles bytes limits (compiler-refused number spot) []
  explain-refused-exactly number spot h = (λ q. low-reason bytes list limits h (says (refused number spot) q), λ c. same (not-compiled number spot c))

  -- 34 is answered exactly when the bytes compile to a watched sheet.
  pub explain-34-exactly : (x ≡ refused 34 0) ↔ CompilesAs bytes limits Watched
  explain-34-exactly = (λ q. watched-reason bytes list limits refl (says (refused 34 0) q), λ w. same (watched w.sheet w.compiled))

  -- 12 is answered exactly when they compile to an enforced sheet, and a number of the list is no action.
  pub explain-12-exactly : (x ≡ refused 12 0) ↔ SomeNoAction bytes list limits
  explain-12-exactly =
      (λ q. outside-reason bytes list limits refl (says (refused 12 0) q), λ n. same (finds n.sheet n.compiled _ _ (no-action n.outside)))

  -- No denial is answered exactly when they compile to an enforced sheet, every number of the list is an action, and every front of the list
  -- satisfies the policy.
  pub explain-none-exactly : (x ≡ no-denial) ↔ PermitsAll bytes list limits
  explain-none-exactly = (says no-denial, λ p. same (finds p.sheet p.explainable.compiled _ _ (none-denied p.explainable.actions p.none)))

  -- A denial is answered exactly when they compile to an enforced sheet, every number of the list is an action, and the place and the node are those
  -- of the first denied action.
  pub explain-denied-exactly : (place node : ℕ) → (x ≡ denied place node) ↔ Denies bytes list limits place node
  explain-denied-exactly place node = (
    says (denied place node),
    λ d. same (finds d.sheet d.explainable.compiled _ _ (first-denied d.explainable.actions place node d.by.first d.by.lowest)),
  )

  -- Explaining itself never answers 14.
  pub explain-never-14 : x ≡ refused 14 0 → ⊥
  explain-never-14 q = no-reason bytes list limits refl (says (refused 14 0) q)

  -- for an enforced sheet that compiles and a list of its actions
  module _ {sheet : Sheet} (can : Explainable bytes list limits sheet) where
    -- No denial is answered exactly when every front of the list satisfies the policy.
    pub none-exactly : (x ≡ no-denial) ↔ NoneDenied sheet list
    none-exactly = (λ q. of (explain-none-exactly.0 q), λ n. explain-none-exactly.1 (record { sheet = sheet; explainable = can; none = n }))
      where
        of : PermitsAll bytes list limits → NoneDenied sheet list
        of p = subst (λ (s : Sheet). NoneDenied s list) (one-sheet p.explainable.compiled can.compiled) p.none

    -- A denial is answered exactly when the place and the node are those of the first denied action.
    pub denied-exactly : (place node : ℕ) → (x ≡ denied place node) ↔ DeniedBy sheet list place node
    denied-exactly place node =
        (λ q. of ((explain-denied-exactly place node).0 q), λ d. (explain-denied-exactly place node).1 (record { sheet = sheet; explainable = can; by = d }))
      where
        of : Denies bytes list limits place node → DeniedBy sheet list place node
        of d = subst (λ (s : Sheet). DeniedBy s list place node) (one-sheet d.explainable.compiled can.compiled) d.by

module _ {bytes list : List ℕ} {limits : Limits} {sheet : Sheet} (can : Explainable bytes list limits sheet) where
  found-outcome : {x : Explanation} {t : List ℕ} → Finds sheet list x t → Outcome sheet list x
  found-outcome (no-action n) = not-outside can.actions n
  found-outcome (none-denied s none) = permits none
  found-outcome (first-denied s place node f l) = denies place node (record { first = f; lowest = l })

  -- For an enforced sheet that compiles and a list of its actions the answer is no denial or a denial.
  pub explained-outcome : {x : Explanation} {t : List ℕ} → Explains bytes list limits x t → Outcome sheet list x
  explained-outcome (not-compiled number spot c) = not-refused can.compiled c
  explained-outcome (watched other c) = not-watched can.compiled c
  explained-outcome (finds other c x t f) = found-outcome (subst (λ (s : Sheet). Finds s list x t) (one-sheet c can.compiled) f)
