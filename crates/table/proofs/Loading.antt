-- The loader's answer: any bytes have one answer at most, and each answer is given exactly when its checks say so.
-- Assumes nothing.
use mathlib.Core.Path.{◌≡◌, refl}
use mathlib.Core.List.{List}
use mathlib.Core.Logic.{◌↔◌}
use Prim.Native.Nat.{ℕ}
use native.Mathlib.Omega.{arith}
use Rattle.table.specs.Table.{type_of, actions_of, rows_of, WellFormed, Canonical, Accepted}
use Rattle.table.specs.Answer.{Answer, accepted, refused, Loads, accepts, malformed, not-canonical}

module _ (bytes : List ℕ) where
  -- Two answers to the same bytes are one.
  pub load-determined : (x y : Answer) → Loads bytes x → Loads bytes y → x ≡ y
  load-determined _ _ (accepts a) (accepts b) = refl
  load-determined _ _ (accepts a) (malformed n) = absurd (n a.formed)
  load-determined _ _ (accepts a) (not-canonical w n) = absurd (n a.canonical)
  load-determined _ _ (malformed n) (accepts b) = absurd (n b.formed)
  load-determined _ _ (malformed n) (malformed m) = refl
  load-determined _ _ (malformed n) (not-canonical w m) = absurd (n w)
  load-determined _ _ (not-canonical w n) (accepts b) = absurd (n b.canonical)
  load-determined _ _ (not-canonical w n) (malformed m) = absurd (m w)
  load-determined _ _ (not-canonical w n) (not-canonical u m) = refl

  -- what each answer says of the bytes
  says-10 : (x : Answer) → Loads bytes x → x ≡ refused 10 0 → WellFormed bytes → ⊥
  says-10 _ (accepts a) e w = let z : ◌≡◌ {A = ℕ} 0 1 = cc in omega arith
  says-10 _ (malformed n) e w = n w
  says-10 _ (not-canonical u n) e w = let z : ◌≡◌ {A = ℕ} 10 11 = cc in omega arith

  says-11 : (x : Answer) → Loads bytes x → x ≡ refused 11 0 → WellFormed bytes × (Canonical bytes → ⊥)
  says-11 _ (accepts a) e = absurd (let z : ◌≡◌ {A = ℕ} 0 1 = cc in omega arith)
  says-11 _ (malformed n) e = absurd (let z : ◌≡◌ {A = ℕ} 10 11 = cc in omega arith)
  says-11 _ (not-canonical w n) e = (w, n)

  says-accepted : (x : Answer) (type actions rows : ℕ) → Loads bytes x → x ≡ accepted type actions rows → Accepted bytes
  says-accepted _ type actions rows (accepts a) e = a
  says-accepted _ type actions rows (malformed n) e = absurd (let z : ◌≡◌ {A = ℕ} 0 1 = cc in omega arith)
  says-accepted _ type actions rows (not-canonical w n) e = absurd (let z : ◌≡◌ {A = ℕ} 0 1 = cc in omega arith)

  module _ (x : Answer) (loaded : Loads bytes x) where
    -- Refusal 10 is given exactly when check 10 fails.
    pub refused-10-exactly : (x ≡ refused 10 0) ↔ (WellFormed bytes → ⊥)
    refused-10-exactly = (says-10 x loaded, λ n. load-determined x (refused 10 0) loaded (malformed n))

    -- Refusal 11 is given exactly when 10 passes and 11 fails.
    pub refused-11-exactly : (x ≡ refused 11 0) ↔ (WellFormed bytes × (Canonical bytes → ⊥))
    refused-11-exactly = (says-11 x loaded, λ p. load-determined x (refused 11 0) loaded (not-canonical p.0 p.1))

    -- A table is accepted, with what its header says, exactly when it passes 10 and 11.
    pub accepted-exactly : (x ≡ accepted (type_of bytes) (actions_of bytes) (rows_of bytes)) ↔ Accepted bytes
    accepted-exactly = (says-accepted x _ _ _ loaded, λ a. load-determined x _ loaded (accepts a))
