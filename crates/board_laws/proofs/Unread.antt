-- What no call reads: the bytes of an empty place, and what stands after a table. Areas that differ only there get the same answers and boards.
-- Assumes nothing.
use mathlib.Core.Path.{◌≡◌, refl, sym, ◌∙◌, ap, subst}
use mathlib.Core.Bool.{Bool, true, false, cond}
use mathlib.Core.List.{List, []}
use mathlib.Core.Logic.{◌↔◌}
use Prim.Native.Nat.{ℕ}
use Rattle.places.specs.Layout.{place_count, stored_at, LongEnough}
use Rattle.places.specs.Places.{case_at, taken}
use Rattle.places.specs.declared.Board.{Board}
use Rattle.view.specs.View.{View, view_of, Change, board_after}
use Rattle.view.specs.Possible.{Possible}
use Rattle.view.specs.Steps.{Call, Reply, CallStep}
use Rattle.view.specs.Calls.{CallsWith, Calls}
use Rattle.view.proofs.ViewLaws.{same_view}
use Rattle.view.proofs.StepLaws.{step-determined, step-guards}
use Rattle.board_laws.specs.Unread.{SameHeldTables}

module _ {board : Board} {area other : List ℕ} (s : SameHeldTables board area other) where
  -- such areas hold the same
  pub same-held : view_of board area ≡ view_of board other
  same-held = same_view (view_of board area) (view_of board other) (λ i. refl) (λ i. at i (taken (case_at board i)) refl)
    where
      at : (i : ℕ) (b : Bool) → taken (case_at board i) ≡ b → cond b (stored_at area i) [] ≡ cond b (stored_at other i) []
      at i true e = s.same i e
      at i false e = refl

  -- Where check 25 passes for both or for neither, they get one answer and one board.
  pub calls-unread : {places : ℕ} {Can Can' : Type 0} → Can ↔ Can' → {call : Call} {r r' : Reply} {b b' : Board} {l l' : List ℕ}
      → CallsWith places Can board area call r b l → CallsWith places Can' board other call r' b' l' → (r ≡ r') × (b ≡ b')
  calls-unread {places} {Can} {Can'} alike {call} {r} p q =
      let (e, f) = step-determined moved q.step in
      (e, p.board-is ∙ ap (λ (x : Change). board_after x board) f ∙ sym q.board-is)
    where
      moved : CallStep (LongEnough other) Can' places (view_of board other) call r p.change
      moved =
          subst (λ (v : View). CallStep (LongEnough other) Can' places v call r p.change) same-held
          (step-guards (λ w. s.other-whole, λ w. s.whole) alike p.step)

  -- So for the calls.
  pub unread : {call : Call} {r r' : Reply} {b b' : Board} {l l' : List ℕ} → Calls board area call r b l → Calls board other call r' b' l' → (r ≡ r') × (b ≡ b')
  unread = calls-unread (λ p. subst (Possible place_count) same-held p, λ p. subst (Possible place_count) (sym same-held) p)
