-- The rows of a property of sequences: they are unique, no fewer would do, and two sequences lead to one row exactly when they share it.
-- Assumes nothing.
use mathlib.Core.Path.{◌≡◌, refl, sym, ◌∙◌, ap}
use mathlib.Core.Bool.{Bool, false}
use mathlib.Core.List.{List, [], ◌∷◌, ◌++◌}
use mathlib.Core.Logic.{◌↔◌}
use Prim.Native.Nat.{ℕ, suc, ◌+◌, ◌*◌, ◌≤◌, ◌<◌}
use native.Mathlib.Decide.{ℕ_discrete}
use native.Mathlib.Omega.{arith}
use lib.Arith.{digits_lt}
use lib.ListN.{get_or}
use Rattle.base.proofs.Pigeon.{pigeon}
use Rattle.trace.specs.Trace.{Sequence, Move, go, run, tripped, trips, Alike}
use Rattle.trace.specs.Limits.{SameRow, ManyRows}
use Rattle.trace.proofs.Laws.{not-both, run-trip, run-append, sequence-append}
use Rattle.automaton.specs.Machine.{entry_move, transition, AlikeStates, Machine}
use Rattle.automaton.specs.Minimal.{RowsOf}
use Rattle.automaton.proofs.Canonical.{canonical, canonical-entries}
use Rattle.automaton.proofs.Entries.{mark-trips, other_goes}

module _ {actions : ℕ} {tripped-by : List ℕ → Bool} {rows rows' : ℕ} {entries entries' : List ℕ} (acts : 0 < actions)
    (one : RowsOf actions tripped-by rows entries) (other : RowsOf actions tripped-by rows' entries') where
  starts : Alike actions (transition 255 actions entries) 0 (transition 255 actions entries') 0
  starts = record { same = λ w s. one.reads w s ∙ sym (other.reads w s) }

  -- The rows of a property are unique: their count, and every entry.
  pub rows-unique : (rows ≡ rows') × (entries ≡ entries')
  rows-unique = (
    (canonical acts one.machine one.numbered one.distinct other.machine other.numbered other.distinct one.low other.low starts).0,
    canonical-entries acts one.machine one.numbered one.distinct other.machine other.numbered other.distinct one.low other.low starts,
  )

-- A sequence that does not trip leads from a state to a state.
module _ {mark states actions : ℕ} {next : List ℕ} (mc : Machine mark states actions next) where
  abbrev Leads : ℕ → List ℕ → Type 0
  Leads s w = (t : ℕ) × (t < states) × (run (transition mark actions next) (go s) w ≡ go t)

  pub leads : (w : List ℕ) (s : ℕ) → s < states → Sequence actions w → trips (transition mark actions next) s w ≡ false → Leads s w
  leads [] s h p t = (s, h, refl)
  leads (a ∷ w) s h p t =
      by (get_or next (s * actions + a) mark) (mc.closed (s * actions + a) (digits_lt h p.0)) (λ x l. leads w x l p.1) t
    where
      by : (e : ℕ) → ((e ≡ mark → ⊥) → e < states) → ((x : ℕ) → x < states → trips (transition mark actions next) x w ≡ false → Leads x w)
          → tripped (run (transition mark actions next) (entry_move mark e) w) ≡ false
          → (t : ℕ) × (t < states) × (run (transition mark actions next) (entry_move mark e) w ≡ go t)
      by e inside rest =
          elim (ℕ_discrete e mark) [
            | yes p ↦ rw (mark-trips mark e p, run-trip (transition mark actions next) w) (λ x. not-both x)
            | no q ↦ rw (other_goes mark e q) (rest e (inside q))
          ]

module _ {actions : ℕ} {tripped-by : List ℕ → Bool} {rows : ℕ} {entries : List ℕ} (fits : RowsOf actions tripped-by rows entries) where
  abbrev read : Move ℕ → List ℕ → Move ℕ
  read = run (transition 255 actions entries)

  row_of : (w : List ℕ) → Sequence actions w → tripped-by w ≡ false → (r : ℕ) × (r < rows) × (read (go 0) w ≡ go r)
  row_of w s e = leads fits.machine w 0 fits.low s (fits.reads w s ∙ e)

  -- what trips behind a sequence trips from where it leads
  behind : (w v : List ℕ) → Sequence actions w → Sequence actions v → tripped-by (w ++ v) ≡ tripped (read (read (go 0) w) v)
  behind w v s t =
      sym (fits.reads (w ++ v) (sequence-append actions w v s t)) ∙ ap tripped (run-append (transition 255 actions entries) (go 0) w v)

  module _ (u w : List ℕ) (su : Sequence actions u) (sw : Sequence actions w) where
    one-row-shared : read (go 0) u ≡ read (go 0) w → SameRow actions tripped-by u w
    one-row-shared e = record { same = λ v q. behind u v su q ∙ ap (λ (m : Move ℕ). tripped (read m v)) e ∙ sym (behind w v sw q) }

    shared-one-row : tripped-by u ≡ false → tripped-by w ≡ false → SameRow actions tripped-by u w → read (go 0) u ≡ read (go 0) w
    shared-one-row nu nw shared = to-u.2 ∙ ap go (fits.distinct.apart to-u.0 to-w.0 to-u.1 to-w.1 alike) ∙ sym to-w.2
      where
        to-u : (r : ℕ) × (r < rows) × (read (go 0) u ≡ go r)
        to-u = row_of u su nu

        to-w : (r : ℕ) × (r < rows) × (read (go 0) w ≡ go r)
        to-w = row_of w sw nw

        alike : AlikeStates 255 actions entries to-u.0 to-w.0
        alike =
            record {
              same = λ v q.
                  ap (λ (m : Move ℕ). tripped (read m v)) (sym to-u.2) ∙ sym (behind u v su q) ∙ shared.same v q
                  ∙ behind w v sw q ∙ ap (λ (m : Move ℕ). tripped (read m v)) to-w.2;
            }

    -- Two sequences that have not tripped lead to one row exactly when every continuation trips after both or after neither.
    pub share-row-exactly : tripped-by u ≡ false → tripped-by w ≡ false
        → (run (transition 255 actions entries) (go 0) u ≡ run (transition 255 actions entries) (go 0) w) ↔ SameRow actions tripped-by u w
    share-row-exactly nu nw = (one-row-shared, shared-one-row nu nw)

  -- Rows within the limit exclude that more are needed.
  pub few-rows-suffice : (limit : ℕ) → rows ≤ limit → ManyRows actions tripped-by limit → ⊥
  few-rows-suffice limit small many = let g = pigeon (suc limit) rows (λ c r. read (go 0) (many.pick c) ≡ go r) hit apart in omega arith
    where
      hit : (c : ℕ) → c < suc limit → (r : ℕ) × (r < rows) × (read (go 0) (many.pick c) ≡ go r)
      hit c h = row_of (many.pick c) (many.sequence c (omega arith)) (many.untripped c (omega arith))

      apart : (c d r : ℕ) → c < d → d < suc limit → r < rows → read (go 0) (many.pick c) ≡ go r → read (go 0) (many.pick d) ≡ go r → ⊥
      apart c d r l h g x y =
          many.apart c d l (omega arith)
          (one-row-shared (many.pick c) (many.pick d) (many.sequence c (omega arith)) (many.sequence d (omega arith)) (x ∙ sym y))
