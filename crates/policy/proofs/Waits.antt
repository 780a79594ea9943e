-- Fulfilling in plain quantifiers. An a fulfilled by the k-th action begins b after the action that fulfils it; else c begins after the k-th, and
-- what a does from there on no longer matters. The same of what is remembered.
-- Assumes nothing.
use mathlib.Core.Path.{◌≡◌, refl, sym, ◌∙◌}
use mathlib.Core.Bool.{Bool, true, cond}
use mathlib.Core.List.{List}
use mathlib.Core.Option.{Option, none, some}
use Prim.Native.Nat.{ℕ, ◌≤◌, ◌<◌}
use native.Mathlib.Decide.{dec_lt}
use native.Mathlib.Omega.{arith}
use lib.Dec.{leb}
use lib.ListN.{length, take, drop, length-take}
use borrow.Author.Tests.{le-leb, lt-leb}
use Rattle.trace.proofs.Laws.{not-both}
use Rattle.policy.specs.Operators.{Property, first}
use Rattle.policy.specs.Policy.{Policy, fulfilling, within, satisfies}
use Rattle.policy.specs.Rule.{fulfilling-r}
use Rattle.policy.specs.Value.{Part, part_trips, part_after, row_of, Fulfilling, waiting, kept, missed, remembered_fulfilling, remembered}
use Rattle.policy.specs.Waits.{Shortest, NotWithin}
use Rattle.policy.proofs.Operators.{first_some, first-none}

-- What a wait of k actions comes to after l of them, with r the first fulfilment: in time, over, or still on.
abbrev wait_case : {X : Type 0} → (k : ℕ) → Option ℕ → (l : ℕ) → (in-time : ℕ → X) → (over on : X) → X
wait_case k none l in-time over on = cond (leb k l) over on
wait_case k (some n) l in-time over on = cond (leb n k) (in-time n) (cond (leb k l) over on)

module _ {X : Type 0} (k : ℕ) (w : List ℕ) (in-time : ℕ → X) (over on : X) where
  abbrev outcome : Property → X
  outcome P = wait_case k (first P w) (length w) in-time over on

  case-in-time : (P : Property) (n : ℕ) → Shortest P w n → n ≤ k → outcome P ≡ in-time n
  case-in-time P n s h = rw ((first_some P w n).1 s, le-leb n k h)

  case-late : (P : Property) → NotWithin k P w → outcome P ≡ cond (leb k (length w)) over on
  case-late P late = by (first P w) refl
    where
      by : (r : Option ℕ) → first P w ≡ r → wait_case k r (length w) in-time over on ≡ cond (leb k (length w)) over on
      by none e = refl
      by (some n) e =
          let s = (first_some P w n).0 e in
          elim (dec_lt k n) [
            | yes h ↦ rw (lt-leb n k h)
            | no h ↦ not-both (sym s.1 ∙ late n s.0 (omega arith))
          ]

  case-over : (P : Property) → k ≤ length w → NotWithin k P w → outcome P ≡ over
  case-over P h late = case-late P late ∙ rw (le-leb k (length w) h)

  case-on : (P : Property) → length w < k → NotWithin k P w → outcome P ≡ on
  case-on P h late = case-late P late ∙ rw (lt-leb k (length w) h)

  -- it depends on what P says of the prefixes of at most k actions alone
  case-agrees : (P Q : Property) → ((u : List ℕ) → length u ≤ k → P u ≡ Q u) → outcome P ≡ outcome Q
  case-agrees P Q agree = by (first P w) refl
    where
      at : (n : ℕ) → n ≤ k → Q (take n w) ≡ P (take n w)
      at n h = sym (agree (take n w) (simp length-take (omega arith)))

      late : NotWithin k P w → outcome P ≡ outcome Q
      late l = case-late P l ∙ sym (case-late Q (λ n g h. at n h ∙ l n g h))

      by : (r : Option ℕ) → first P w ≡ r → outcome P ≡ outcome Q
      by none e = late (λ n g h. (first-none P w).0 e n g)
      by (some n) e =
          let s = (first_some P w n).0 e in
          elim (dec_lt k n) [
            | yes h ↦ late (λ m g l. s.2 m (omega arith))
            | no h ↦
                case-in-time P n s (omega arith)
                ∙ sym (case-in-time Q n (s.0, at n (omega arith) ∙ s.1, λ m g. at m (omega arith) ∙ s.2 m g) (omega arith))
          ]

module _ (propositions : ℕ → ℕ) (k : ℕ) (a b c : Policy) (w : List ℕ) where
  abbrev behind : ℕ → Bool
  behind n = satisfies propositions b (drop n w)

  abbrev late : Bool
  late = satisfies propositions c (drop k w)

  as-case : (r : Option ℕ) → within k r (satisfies propositions b) (satisfies propositions c) w ≡ wait_case k r (length w) behind late true
  as-case none = refl
  as-case (some n) = refl

  -- a is first fulfilled by the first n actions, at most k: b is judged on what follows them
  pub fulfilled-in-time : (n : ℕ) → Shortest (satisfies propositions a) w n → n ≤ k
      → satisfies propositions (fulfilling k a b c) w ≡ satisfies propositions b (drop n w)
  fulfilled-in-time n s h = as-case (first (satisfies propositions a) w) ∙ case-in-time k w behind late true (satisfies propositions a) n s h

  -- k actions have passed, and none of their prefixes fulfils a: c is judged on what follows them, whatever a does there
  pub wait-over : k ≤ length w → NotWithin k (satisfies propositions a) w
      → satisfies propositions (fulfilling k a b c) w ≡ satisfies propositions c (drop k w)
  wait-over h not_yet = as-case (first (satisfies propositions a) w) ∙ case-over k w behind late true (satisfies propositions a) h not_yet

  -- fewer than k have passed, and no prefix fulfils a: nothing is violated yet
  pub wait-on : length w < k → NotWithin k (satisfies propositions a) w → satisfies propositions (fulfilling k a b c) w ≡ true
  wait-on h not_yet = as-case (first (satisfies propositions a) w) ∙ case-on k w behind late true (satisfies propositions a) h not_yet

-- An a fulfilled after k actions no longer matters: two parts that agree on the sequences of at most k actions may stand for each other.
pub wait-agrees : (propositions : ℕ → ℕ) (k : ℕ) (a d b c : Policy)
    → ((u : List ℕ) → length u ≤ k → satisfies propositions a u ≡ satisfies propositions d u)
    → (w : List ℕ) → satisfies propositions (fulfilling k a b c) w ≡ satisfies propositions (fulfilling k d b c) w
wait-agrees propositions k a d b c agree w =
    as-case propositions k a b c w (first (satisfies propositions a) w)
    ∙ case-agrees k w (behind propositions k a b c w) (late propositions k a b c w) true (satisfies propositions a) (satisfies propositions d) agree
    ∙ sym (as-case propositions k d b c w (first (satisfies propositions d) w))

-- What is remembered: b's row after the action that trips a in time; c's row once the wait is over, and nothing of a; else a's row and the actions.
module _ (k : ℕ) (f g h : Part) (w : List ℕ) where
  abbrev kept_behind : ℕ → Fulfilling
  kept_behind n = kept (row_of (part_after g (drop n w)))

  abbrev missed_now : Fulfilling
  missed_now = missed (row_of (part_after h (drop k w)))

  abbrev waiting_now : Fulfilling
  waiting_now = waiting (row_of (part_after f w)) (length w)

  value-case : (r : Option ℕ) → remembered_fulfilling r k f g h w ≡ wait_case k r (length w) kept_behind missed_now waiting_now
  value-case none = refl
  value-case (some n) = refl

  pub value-in-time : (n : ℕ) → Shortest (part_trips f) w n → n ≤ k → remembered (fulfilling-r k f g h) w ≡ kept (row_of (part_after g (drop n w)))
  value-in-time n s l = value-case (first (part_trips f) w) ∙ case-in-time k w kept_behind missed_now waiting_now (part_trips f) n s l

  pub value-over : k ≤ length w → NotWithin k (part_trips f) w → remembered (fulfilling-r k f g h) w ≡ missed (row_of (part_after h (drop k w)))
  value-over l not_yet = value-case (first (part_trips f) w) ∙ case-over k w kept_behind missed_now waiting_now (part_trips f) l not_yet

  pub value_on : length w < k → NotWithin k (part_trips f) w → remembered (fulfilling-r k f g h) w ≡ waiting (row_of (part_after f w)) (length w)
  value_on l not_yet = value-case (first (part_trips f) w) ∙ case-on k w kept_behind missed_now waiting_now (part_trips f) l not_yet
