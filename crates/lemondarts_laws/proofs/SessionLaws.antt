-- Demand 2 of what C sees: the theorems over histories, for a record and an area used only through the exported calls, in the numbers returned.
-- Assumes nothing.
use mathlib.Core.Path.{◌≡◌, refl, sym, ◌∙◌, ap, subst}
use mathlib.Core.List.{List}
use mathlib.Core.Logic.{◌↔◌}
use Prim.Native.Nat.{ℕ, ◌<◌}
use native.Mathlib.Omega.{arith}
use Rattle.base.specs.Sets.{Member}
use Rattle.places.specs.Layout.{place_count}
use Rattle.places.specs.declared.Board.{Board}
use Rattle.view.specs.Steps.{Call, act, Reply, permitted, denied}
use Rattle.view.specs.Calls.{Calls}
use Rattle.runs.specs.Events.{Event}
use Rattle.runs.specs.Verdicts.{ActionListed, May, Violated, NoneViolated, FirstFulfilled, IsPermitted}
use Rattle.board_laws.proofs.History.{carried-exactly, permit-exactly, deny-otherwise, fulfilled-exactly}
use Rattle.records.specs.Record.{board_of}
use Rattle.board_answers.specs.Numbers.{packed_reply}
use Rattle.lemondarts.specs.Exports.{short-record, called, CallReturns}
use Rattle.lemondarts_laws.specs.Session.{number_in, value_in, reply_by, reply_in, Succeeds, Session}
use Rattle.lemondarts_laws.proofs.Answers.{number_of, answer_back, succeeds-exactly}
use Rattle.lemondarts_laws.proofs.Sessions.{session-history}

-- The answer that a call gave on the board of its record.
pub record Answered (board : Board) (area : List ℕ) (call : Call) (returned : ℕ) : Type 0 where
  pub reply : Reply
  pub next : Board
  pub left : List ℕ
  pub gave : Calls board area call reply next left
  pub packed : returned ≡ packed_reply reply

module _ {events : List Event} {bytes area : List ℕ} (s : Session events bytes area) where
  -- a record used through the calls is long enough
  pub answered : {call : Call} {returned : ℕ} {bytes' area' : List ℕ} → CallReturns bytes area call returned bytes' area' → Answered (board_of bytes) area call returned
  answered (short-record n) = absurd (n (session-history s).long)
  answered (called long reply next left p) = record { reply = reply; next = next; left = left; gave = p; packed = refl }

  -- A call succeeds, by the number that it returns, exactly when no refusal stated for it applies: a table is put on, 0 returned; a place is taken off,
  -- 0 returned; an action is permitted or denied, 0 or 255 returned.
  pub session-exactly : {call : Call} {returned : ℕ} {bytes' area' : List ℕ} → CallReturns bytes area call returned bytes' area'
      → Succeeds call returned ↔ May place_count events call
  session-exactly {call} r =
      let a = answered r in
      let (to, from) = succeeds-exactly a.gave in
      let (there, back) = carried-exactly (session-history s).history a.gave in (
        λ z. there (to (subst (Succeeds call) a.packed z)),
        λ m. subst (Succeeds call) (sym a.packed) (from (back m)),
      )

  module _ {action returned : ℕ} {bytes' area' : List ℕ} (r : CallReturns bytes area (act action) returned bytes' area') where
    -- what was answered, by the number
    back : reply_in (act action) returned ≡ (answered r).reply
    back = ap (reply_in (act action)) (answered r).packed ∙ answer_back (answered r).gave

    zero-permitted : number_in returned ≡ 0 → (answered r).reply ≡ permitted (value_in returned)
    zero-permitted n = sym back ∙ ap (λ (k : ℕ). reply_by (permitted (value_in returned)) k (value_in returned)) n

    permitted-zero : IsPermitted (answered r).reply → number_in returned ≡ 0
    permitted-zero p = ap number_in ((answered r).packed ∙ ap packed_reply p.1) ∙ number_of 0 p.0 (omega arith)

    -- 0 is returned exactly when the action is permitted, and its value is the set of the places that it fulfils
    pub zero-exactly : {M : Type 0} → IsPermitted (answered r).reply ↔ M → (number_in returned ≡ 0) ↔ M
    zero-exactly e = (λ n. e.0 (value_in returned, zero-permitted n), λ m. permitted-zero (e.1 m))

    pub zero-acts : number_in returned ≡ 0 → Calls (board_of bytes) area (act action) (permitted (value_in returned)) (answered r).next (answered r).left
    zero-acts n = subst (λ (x : Reply). Calls (board_of bytes) area (act action) x (answered r).next (answered r).left) (zero-permitted n) (answered r).gave

    -- An action of the list is permitted, 0 returned, exactly when no enforced rule is violated by the actions permitted since that rule was put
    -- on, followed by this one.
    pub session-permit-exactly : ActionListed events action → (number_in returned ≡ 0) ↔ NoneViolated events action
    session-permit-exactly l = zero-exactly (permit-exactly (session-history s).history l (answered r).gave)

    -- Otherwise it is denied, 255 returned, with the lowest place whose enforced rule is violated as the value.
    pub session-deny-otherwise : ActionListed events action → (NoneViolated events action → ⊥)
        → (number_in returned ≡ 255) × Violated events action (value_in returned) × ((i : ℕ) → i < value_in returned → Violated events action i → ⊥)
    session-deny-otherwise l n =
        let (place, e, v, lowest) = deny-otherwise (session-history s).history l (answered r).gave n in
        let number : number_in returned ≡ 255 = ap number_in ((answered r).packed ∙ ap packed_reply e) ∙ number_of 255 place (omega arith) in
        let same : value_in returned ≡ place = same_place (sym (ap (λ (k : ℕ). reply_by (permitted (value_in returned)) k (value_in returned)) number) ∙ back ∙ e) in
        (number, subst (Violated events action) (sym same) v, subst (λ (k : ℕ). (i : ℕ) → i < k → Violated events action i → ⊥) (sym same) lowest)
      where
        same_place : {a b : ℕ} → denied a ≡ denied b → a ≡ b
        same_place e = cc

    -- A watched rule is reported, its place in the value of a 0 returned, at exactly the permitted action that first fulfils it.
    pub session-fulfilled-exactly : number_in returned ≡ 0 → (i : ℕ) → Member (value_in returned) i ↔ FirstFulfilled events action i
    session-fulfilled-exactly n = fulfilled-exactly (session-history s).history (zero-acts n)
