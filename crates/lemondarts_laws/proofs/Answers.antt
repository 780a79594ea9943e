-- The answer read from a returned number is the one that the wrapped call gave: different answers of a call have different numbers.
-- Assumes nothing.
use mathlib.Core.Path.{◌≡◌, refl, sym, ◌∙◌, ap, ap₂, subst}
use mathlib.Core.Bool.{false}
use mathlib.Core.Logic.{◌↔◌, inl, inr}
use mathlib.Core.List.{List, [], ◌∷◌}
use Prim.Native.Nat.{ℕ, ◌≤◌, ◌<◌}
use native.Mathlib.Omega.{arith}
use lib.ListN.{get_or}
use Rattle.table.specs.Answer.{Answer, accepted, refused, Loads, accepts, malformed, not-canonical}
use Rattle.base.specs.Sets.{set_below}
use Rattle.base.proofs.Sets.{set-width}
use Rattle.trace.proofs.Laws.{not-both}
use Rattle.places.specs.Layout.{place_count, LongEnough}
use Rattle.places.specs.declared.Board.{Board}
use Rattle.view.specs.View.{View, view_of, Change}
use Rattle.view.specs.Moves.{fulfils_at}
use Rattle.view.specs.Steps.{Call, put_on, take-off, act, Reply, done, permitted, denied, is_refusal, Check, short-area, no_place, impossible, place-taken, place-empty}
use Rattle.view.specs.Steps.{malformed as bad-table, misnumbered, other-actions, board-empty, no-action, refusal, checks_of, Passes, Carries, puts, takes, is-denied, is-permitted}
use Rattle.view.specs.Calls.{CanBe, Calls, Makes, made, make-14}
use Rattle.view.proofs.StepLaws.{Ends, is-refused, is_carried, ends, refusal-refuses, step-exactly}
use Rattle.base.specs.Fields.{field_size, field_in}
use Rattle.board_answers.specs.Numbers.{packed_reply}
use Rattle.answers.specs.Numbers.{pack, packed_answer}
use Rattle.lemondarts_laws.specs.Session.{number_in, value_in, reply_by, reply_in, Succeeds}
use Rattle.base.proofs.Fields.{field_back}

-- A number and a value within their fields.
module _ (number value : ℕ) where
  pub number_of : number < field_size → number_in (pack number value 0 0) ≡ number
  number_of h = field_back 0 (number ∷ value ∷ 0 ∷ 0 ∷ []) (omega arith) h

  pub value_of : value < field_size → value_in (pack number value 0 0) ≡ value
  value_of h = field_back 1 (number ∷ value ∷ 0 ∷ 0 ∷ []) (omega arith) h

-- The number of an accepted table: 0, and its type, actions and rows.
pub record TableNumber (type actions rows returned : ℕ) : Type 0 where
  pub is-done : number_in returned ≡ 0
  pub is-type : value_in returned ≡ type
  pub is-actions : field_in 2 returned ≡ actions
  pub is-rows : field_in 3 returned ≡ rows

-- What a returned number says of the loader's or the compiler's answer.
abbrev pub Says : Answer → ℕ → Type 0
Says (accepted type actions rows) returned = TableNumber type actions rows returned
Says (refused number spot) returned = (number_in returned ≡ number) × (value_in returned ≡ spot)

pub table-says : (type actions rows : ℕ) → type ≤ 2 → actions ≤ 16 → rows ≤ 64 → Says (accepted type actions rows) (packed_answer (accepted type actions rows))
table-says type actions rows t a r =
    record { is-done = at 0 (omega arith) (omega arith); is-type = at 1 (omega arith) (omega arith); is-actions = at 2 (omega arith) (omega arith); is-rows = at 3 (omega arith) (omega arith) }
  where
    at : (i : ℕ) → i < 4 → get_or (0 ∷ type ∷ actions ∷ rows ∷ []) i 0 < field_size → field_in i (packed_answer (accepted type actions rows)) ≡ get_or (0 ∷ type ∷ actions ∷ rows ∷ []) i 0
    at i l h = field_back i (0 ∷ type ∷ actions ∷ rows ∷ []) l h

pub refused_says : (number spot : ℕ) → number < field_size → spot < field_size → Says (refused number spot) (packed_answer (refused number spot))
refused_says number spot n s = (number_of number spot n, value_of number spot s)

pub load-answer : {table : List ℕ} {answer : Answer} → Loads table answer → Says answer (packed_answer answer)
load-answer (accepts a) =
    let f = a.formed.header in
    table-says _ _ _ f.type-high f.actions-high f.rows-high
load-answer (malformed f) = refused_says 10 0 (omega arith) (omega arith)
load-answer (not-canonical f c) = refused_says 11 0 (omega arith) (omega arith)

pub make-answer : {area left : List ℕ} {reply : Reply} {next : Board} → Makes area reply next left → reply_by done (number_in (packed_reply reply)) (value_in (packed_reply reply)) ≡ reply
make-answer (made w) = refl
make-answer (make-14 n) = refl

-- the answers to an action that carry a value
permitted-back : (set : ℕ) → set < field_size → reply_by (permitted (value_in (packed_reply (permitted set)))) (number_in (packed_reply (permitted set))) (value_in (packed_reply (permitted set))) ≡ permitted set
permitted-back set h = ap₂ (λ (n v : ℕ). reply_by (permitted v) n v) (number_of 0 set (omega arith)) (value_of 0 set h)

denied-back : (place : ℕ) → place < field_size → reply_by (permitted (value_in (packed_reply (denied place)))) (number_in (packed_reply (denied place))) (value_in (packed_reply (denied place))) ≡ denied place
denied-back place h = ap₂ (λ (n v : ℕ). reply_by (permitted v) n v) (number_of 255 place (omega arith)) (value_of 255 place h)

refusal-back : (call : Call) (check : Check) → reply_in call (packed_reply (refusal check)) ≡ refusal check
refusal-back call short-area = refl
refusal-back call (no_place place) = refl
refusal-back call impossible = refl
refusal-back call (place-taken place) = refl
refusal-back call (place-empty place) = refl
refusal-back call (bad-table table) = refl
refusal-back call (misnumbered table) = refl
refusal-back call (other-actions table) = refl
refusal-back call board-empty = refl
refusal-back call (no-action action) = refl

carried-back : {view : View} {call : Call} {reply : Reply} {change : Change} → Carries place_count view call reply change → reply_in call (packed_reply reply) ≡ reply
carried-back puts = refl
carried-back takes = refl
carried-back (is-denied place h d n) = denied-back place (omega arith)
carried-back {view} (is-permitted {action = action} n) =
    permitted-back (set_below (fulfils_at view action) place_count) (omega (arith, set-width (fulfils_at view action) place_count))

-- The number of a refusal is neither 0 nor 255.
refusal-number : (check : Check) → (number_in (packed_reply (refusal check)) ≡ 0 → ⊥) × (number_in (packed_reply (refusal check)) ≡ 255 → ⊥)
refusal-number short-area = omega arith
refusal-number (no_place place) = omega arith
refusal-number impossible = omega arith
refusal-number (place-taken place) = omega arith
refusal-number (place-empty place) = omega arith
refusal-number (bad-table table) = omega arith
refusal-number (misnumbered table) = omega arith
refusal-number (other-actions table) = omega arith
refusal-number board-empty = omega arith
refusal-number (no-action action) = omega arith

refused-fails : (call : Call) (check : Check) → Succeeds call (packed_reply (refusal check)) → ⊥
refused-fails (put_on place table) check e = (refusal-number check).0 e
refused-fails (take-off place) check e = (refusal-number check).0 e
refused-fails (act action) check (inl e) = (refusal-number check).0 e
refused-fails (act action) check (inr e) = (refusal-number check).1 e

carried-succeeds : {view : View} {call : Call} {reply : Reply} {change : Change} → Carries place_count view call reply change → Succeeds call (packed_reply reply)
carried-succeeds puts = refl
carried-succeeds takes = refl
carried-succeeds (is-denied place h d n) = inr (number_of 255 place (omega arith))
carried-succeeds (is-permitted n) = inl (number_of 0 _ (omega arith))

module _ {board : Board} {area : List ℕ} {call : Call} {reply : Reply} {next : Board} {left : List ℕ} (p : Calls board area call reply next left) where
  abbrev Ended : Type 0
  Ended = Ends (Passes (LongEnough area) (CanBe place_count board area) place_count (view_of board area)) (Carries place_count (view_of board area) call) (checks_of call) reply p.change

  -- Reading back the number of what a call answers gives the answer: different answers of a call have different numbers.
  pub answer_back : reply_in call (packed_reply reply) ≡ reply
  answer_back = by (ends p.step)
    where
      by : Ended → reply_in call (packed_reply reply) ≡ reply
      by (is-refused check n r c) = ap (λ (x : Reply). reply_in call (packed_reply x)) r ∙ refusal-back call check ∙ sym r
      by (is_carried all d) = carried-back d

  -- The number says that the call was carried out exactly when the answer is no refusal.
  pub succeeds-exactly : Succeeds call (packed_reply reply) ↔ (is_refusal reply ≡ false)
  succeeds-exactly = by (ends p.step)
    where
      by : Ended → Succeeds call (packed_reply reply) ↔ (is_refusal reply ≡ false)
      by (is-refused check n r c) = (
        λ s. absurd (refused-fails call check (subst (λ (x : Reply). Succeeds call (packed_reply x)) r s)),
        λ e. not-both (sym (refusal-refuses check) ∙ sym (ap is_refusal r) ∙ e),
      )
      by (is_carried all d) = (λ s. (step-exactly p.step).1 all, λ e. carried-succeeds d)
