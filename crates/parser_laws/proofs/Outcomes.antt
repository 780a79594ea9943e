-- The call that reads a text: its answer and every byte of the output are determined, and a refusal leaves the output as it was.
-- Assumes nothing.
use mathlib.Core.Path.{◌≡◌, refl, ap}
use mathlib.Core.List.{List, ◌++◌}
use Prim.Native.Nat.{ℕ, ◌≤◌, ◌<◌}
use native.Mathlib.Omega.{arith}
use lib.ListN.{length, drop}
use Rattle.sheet_writer.specs.Bytes.{sheet_bytes}
use Rattle.grammar.specs.Words.{Word}
use Rattle.grammar.specs.Grammar.{TextRule, Reads}
use Rattle.grammar.specs.Language.{Spot}
use Rattle.grammar.specs.Nodes.{policy_nodes}
use Rattle.parsed_sheets.specs.Sheets.{sheet_for}
use Rattle.grammar.specs.declared.Category.TheVariants.{Text}
use Rattle.grammar.proofs.OneReading.{one-reading}
use Rattle.parser.specs.Calling.{TextAnswer, written, refused, ReadsAs, unreadable, too_many, reads, ReadsInto, short, no-actions, long, judged}

-- Words leave the language at one spot.
pub one_spot : {ws : List Word} {j k : ℕ} → Spot ws j → Spot ws k → j ≡ k
one_spot {j = j} {k} s t = omega (arith, s.longest k t.within t.completable, t.longest j s.within s.completable)

-- the sheet of a rule, its answer and the output
abbrev answer_for : List ℕ → TextRule → TextAnswer
answer_for actions rule = written (length (sheet_bytes (sheet_for actions rule.policy))) (length actions) (length (policy_nodes 0 rule.policy))

abbrev output_for : List ℕ → List ℕ → TextRule → List ℕ
output_for actions out rule = sheet_bytes (sheet_for actions rule.policy) ++ drop (length (sheet_bytes (sheet_for actions rule.policy))) out

-- a reading has few nodes or many
pub not-both : {ws : List Word} {r q : TextRule} → Reads Text ws r → Reads Text ws q → length (policy_nodes 0 r.policy) ≤ 64
    → 64 < length (policy_nodes 0 q.policy) → ⊥
not-both a b few many = omega (arith, ap (λ (rule : TextRule). length (policy_nodes 0 rule.policy)) (one-reading a b))

module _ {text actions out : List ℕ} where
  read-determined : {x y : TextAnswer} {o p : List ℕ} → ReadsAs text actions out x o → ReadsAs text actions out y p → (x ≡ y) × (o ≡ p)
  read-determined (unreadable j n s) (unreadable k m t) = (ap (refused 32) (one_spot s t), refl)
  read-determined (unreadable j n s) (too_many q b many) = absurd (n (record { rule = q; reads = b }))
  read-determined (unreadable j n s) (reads q b few _) = absurd (n (record { rule = q; reads = b }))
  read-determined (too_many r a many) (unreadable k m t) = absurd (m (record { rule = r; reads = a }))
  read-determined (too_many r a many) (too_many q b more) = (refl, refl)
  read-determined (too_many r a many) (reads q b few _) = absurd (not-both b a few many)
  read-determined (reads r a few _) (unreadable k m t) = absurd (m (record { rule = r; reads = a }))
  read-determined (reads r a few _) (too_many q b many) = absurd (not-both a b few many)
  read-determined (reads r a few _) (reads q b less _) = let e = one-reading a b in (ap (answer_for actions) e, ap (output_for actions out) e)

  -- The contract of the call determines the answer and every byte of the output.
  pub text-determined : {x y : TextAnswer} {o p : List ℕ} → ReadsInto text actions out x o → ReadsInto text actions out y p → (x ≡ y) × (o ≡ p)
  text-determined (short h) (short g) = (refl, refl)
  text-determined (short h) (no-actions g n) = absurd (omega arith)
  text-determined (short h) (long g s l) = absurd (omega arith)
  text-determined (short h) (judged g s l y p b) = absurd (omega arith)
  text-determined (no-actions h n) (short g) = absurd (omega arith)
  text-determined (no-actions h n) (no-actions g m) = (refl, refl)
  text-determined (no-actions h n) (long g s l) = absurd (n s)
  text-determined (no-actions h n) (judged g s l y p b) = absurd (n s)
  text-determined (long h s l) (short g) = absurd (omega arith)
  text-determined (long h s l) (no-actions g n) = absurd (n s)
  text-determined (long h s l) (long g t k) = (refl, refl)
  text-determined (long h s l) (judged g t k y p b) = absurd (omega arith)
  text-determined (judged h s l x o a) (short g) = absurd (omega arith)
  text-determined (judged h s l x o a) (no-actions g n) = absurd (n s)
  text-determined (judged h s l x o a) (long g t k) = absurd (omega arith)
  text-determined (judged h s l x o a) (judged g t k y p b) = read-determined a b

-- A refusal leaves the output as it was.
pub refusal-leaves-sheet : {text actions out out'' : List ℕ} {number spot : ℕ} → ReadsInto text actions out (refused number spot) out'' → out'' ≡ out
refusal-leaves-sheet (short h) = refl
refusal-leaves-sheet (no-actions h n) = refl
refusal-leaves-sheet (long h s l) = refl
refusal-leaves-sheet (judged h s l _ _ (unreadable k n t)) = refl
refusal-leaves-sheet (judged h s l _ _ (too_many r a m)) = refl
