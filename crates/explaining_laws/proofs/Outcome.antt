-- Explaining has one answer for each sheet and list.
-- Assumes nothing.
use mathlib.Core.Path.{◌≡◌, refl, sym, ap, ap₂, subst}
use mathlib.Core.List.{List, [], ◌∷◌}
use Prim.Native.Nat.{ℕ, suc}
use native.Mathlib.Omega.{arith}
use lib.ListN.{take}
use Rattle.trace.specs.declared.Mode.{Mode}
use Rattle.trace.specs.declared.Mode.TheVariants.{Enforced, Watched}
use Rattle.limits.specs.declared.Limits.{Limits}
use Rattle.limits.specs.Limits.{largest}
use Rattle.table.specs.Answer.{accepted, mode_number}
use Rattle.table.specs.Answer.{refused as compiler-refused}
use Rattle.making.proofs.Calls.{made-determined}
use Rattle.syntax.specs.declared.Sheet.{Sheet}
use Rattle.compiler.specs.Compiles.{Compiles, passes}
use Rattle.compiler_laws.proofs.Outcome.{compiles-determined}
use Rattle.explaining.specs.Denials.{LowestViolated}
use Rattle.explaining.specs.Explains.{Explanation, denied, refused, CompiledSheet, Finds, no-action, none-denied, first-denied, Explains, not-compiled, watched, finds}
use Rattle.explaining.specs.Calling.{ExplainsInto}
use Rattle.explaining_laws.proofs.Places.{not-outside, none-or-denied, one_place, one-node}

module _ {bytes : List ℕ} {limits : Limits} where
  -- What is compiled gets a table.
  pub compiled-gets : {mode : Mode} {sheet : Sheet} (c : CompiledSheet bytes limits mode sheet)
      → Compiles bytes limits (accepted (mode_number mode) sheet.actions c.rows) c.table
  compiled-gets {mode} {sheet} c = passes mode sheet c.types c.judged _ _ c.builds

  -- What is compiled is not refused.
  pub not-refused : {X : Type 0} {mode : Mode} {sheet : Sheet} → CompiledSheet bytes limits mode sheet → {number spot : ℕ}
      → Compiles bytes limits (compiler-refused number spot) [] → X
  not-refused c r =
      let e = (compiles-determined bytes limits (compiled-gets c) r).0 in
      absurd (let z : ◌≡◌ {A = ℕ} 0 1 = cc in omega arith)

  -- One sheet is compiled.
  pub one-sheet : {mode other : Mode} {sheet sheet' : Sheet} → CompiledSheet bytes limits mode sheet
      → CompiledSheet bytes limits other sheet' → sheet ≡ sheet'
  one-sheet c d = cc (c.judged, d.judged)

  -- It has one mode.
  pub not-watched : {X : Type 0} {sheet sheet' : Sheet} → CompiledSheet bytes limits Enforced sheet
      → CompiledSheet bytes limits Watched sheet' → X
  not-watched c d = absurd (let z : ◌≡◌ {A = ℕ} 0 1 = cc (c.judged, d.judged) in omega arith)

-- What an enforced sheet gives is one answer.
pub finds-determined : {sheet : Sheet} {list : List ℕ} {x y : Explanation} {t u : List ℕ} → Finds sheet list x t → Finds sheet list y u → (x ≡ y) × (t ≡ u)
finds-determined (no-action n) (no-action m) = (refl, refl)
finds-determined (no-action n) (none-denied s none) = not-outside s n
finds-determined (no-action n) (first-denied s place node f l) = not-outside s n
finds-determined (none-denied s none) (no-action n) = not-outside s n
finds-determined (none-denied s none) (none-denied r none') = (refl, refl)
finds-determined (none-denied s none) (first-denied r place node f l) = none-or-denied none f
finds-determined (first-denied s place node f l) (no-action n) = not-outside s n
finds-determined (first-denied s place node f l) (none-denied r none) = none-or-denied none f
finds-determined {sheet} {list} (first-denied s place node f l) (first-denied r place' node' g m) =
    let e = one_place f g in
    let d = one-node l (subst (λ (p : ℕ). LowestViolated sheet (take (suc p) list) node') (sym e) m) in
    (ap₂ denied e d, ap (λ (p : ℕ). p ∷ []) e)

module _ {bytes list : List ℕ} {limits : Limits} where
  -- One answer, and one thing written, for each sheet, list and limits.
  pub explains-determined : {x y : Explanation} {t u : List ℕ} → Explains bytes list limits x t → Explains bytes list limits y u
      → (x ≡ y) × (t ≡ u)
  explains-determined (not-compiled number spot c) (not-compiled number' spot' d) =
      let e = (compiles-determined bytes limits c d).0 in
      let n : number ≡ number' = cc in
      let s : spot ≡ spot' = cc in
      (ap₂ refused n s, refl)
  explains-determined (not-compiled number spot c) (watched sheet d) = not-refused d c
  explains-determined (not-compiled number spot c) (finds sheet d y u f) = not-refused d c
  explains-determined (watched sheet c) (not-compiled number spot d) = not-refused c d
  explains-determined (watched sheet c) (watched other d) = (refl, refl)
  explains-determined (watched sheet c) (finds other d y u f) = not-watched d c
  explains-determined (finds sheet c x t f) (not-compiled number spot d) = not-refused c d
  explains-determined (finds sheet c x t f) (watched other d) = not-watched c d
  explains-determined (finds sheet c x t f) (finds other d y u g) = finds-determined f (subst (λ (s : Sheet). Finds s list y u) (one-sheet d c) g)

-- The contract of the call determines the answer and every byte of the lent areas.
pub explain-call-determined : {bytes list out work values : List ℕ} {x y : Explanation} {o p w q v r : List ℕ}
    → ExplainsInto bytes list out work values x o w v → ExplainsInto bytes list out work values y p q r → (x ≡ y) × (o ≡ p) × (w ≡ q) × (v ≡ r)
explain-call-determined {bytes} {list} = made-determined (Explains bytes list largest) (λ x y t u c d. explains-determined c d)
