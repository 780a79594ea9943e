-- Each call of the board, on every board and area, whatever led to them and whatever check 25 asks: it is determined, it is carried out exactly when no
-- refusal stated for it applies, and it leaves what it does not change.
-- Assumes nothing.
use mathlib.Core.Path.{◌≡◌, refl, sym, ◌∙◌, ap}
use mathlib.Core.Bool.{false}
use mathlib.Core.List.{List}
use mathlib.Core.Logic.{◌↔◌}
use Prim.Native.Nat.{ℕ, ◌≤◌}
use lib.ListN.{get_or}
use Rattle.places.specs.Layout.{place_count, area_length, LongEnough}
use Rattle.places.specs.declared.Board.{Board}
use Rattle.view.specs.View.{View, view_of, Change, board_after, area_after}
use Rattle.view.specs.Steps.{Call, act, Reply, changes, is_refusal, checks_of, Passes, AllPass, Carries, is-denied, is-permitted}
use Rattle.view.specs.Calls.{CallsWith, Makes, made, make-14}
use Rattle.view.proofs.StepLaws.{Ends, is-refused, is_carried, ends, step-determined, step-exactly, step-unchanged}
use Rattle.board_laws.proofs.Changes.{step-proper, beyond-after}

-- A new board is determined.
pub makes-determined : {area : List ℕ} {r r' : Reply} {b b' : Board} {l l' : List ℕ} → Makes area r b l → Makes area r' b' l' → (r ≡ r') × (b ≡ b') × (l ≡ l')
makes-determined (made w) (made v) = (refl, refl, refl)
makes-determined (made w) (make-14 n) = absurd (n w)
makes-determined (make-14 n) (made w) = absurd (n w)
makes-determined (make-14 n) (make-14 m) = (refl, refl, refl)

module _ {places : ℕ} {Can : Type 0} {board : Board} {area : List ℕ} {call : Call} where
  -- From one board and area, with the same inputs, there is one answer, one board and one area.
  pub calls-determined : {r r' : Reply} {b b' : Board} {l l' : List ℕ} → CallsWith places Can board area call r b l → CallsWith places Can board area call r' b' l'
      → (r ≡ r') × (b ≡ b') × (l ≡ l')
  calls-determined p q =
      let (e, f) = step-determined p.step q.step in
      (e, p.board-is ∙ ap (λ (x : Change). board_after x board) f ∙ sym q.board-is, p.area-is ∙ ap (λ (x : Change). area_after x area) f ∙ sym q.area-is)

  module _ {reply : Reply} {next : Board} {rest : List ℕ} (p : CallsWith places Can board area call reply next rest) where
    -- A call is carried out exactly when no refusal stated for it applies.
    pub calls-exactly : (is_refusal reply ≡ false) ↔ AllPass (Passes (LongEnough area) Can places (view_of board area)) (checks_of call)
    calls-exactly = step-exactly p.step

    -- A refusal and a denial change neither the board nor the area.
    pub calls-unchanged : changes reply ≡ false → (next ≡ board) × (rest ≡ area)
    calls-unchanged e =
        let s = step-unchanged p.step e in
        (p.board-is ∙ ap (λ (x : Change). board_after x board) s, p.area-is ∙ ap (λ (x : Change). area_after x area) s)

    -- Bytes beyond the places are not touched.
    pub calls-beyond : places ≤ place_count → LongEnough area → (k : ℕ) → area_length ≤ k → get_or rest k 0 ≡ get_or area k 0
    calls-beyond few whole k h = ap (λ (l : List ℕ). get_or l k 0) p.area-is ∙ beyond-after board area whole p.change (step-proper few p.step) k h

-- An action leaves the area as it was.
pub act-leaves-area : {places : ℕ} {Can : Type 0} {board : Board} {area : List ℕ} {action : ℕ} {reply : Reply} {next : Board} {rest : List ℕ}
    → CallsWith places Can board area (act action) reply next rest → rest ≡ area
act-leaves-area {places} {Can} {board} {area} {action} p = p.area-is ∙ by (ends p.step)
  where
    read_only : (view : View) {reply : Reply} {change : Change} → Carries places view (act action) reply change → area_after change area ≡ area
    read_only view (is-denied place h d n) = refl
    read_only view (is-permitted n) = refl

    by : {reply : Reply} {change : Change}
        → Ends (Passes (LongEnough area) Can places (view_of board area)) (Carries places (view_of board area) (act action)) (checks_of (act action)) reply change
        → area_after change area ≡ area
    by (is-refused check n r c) = ap (λ (x : Change). area_after x area) c
    by (is_carried all d) = read_only (view_of board area) d
