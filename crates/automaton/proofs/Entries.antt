-- Laws of a machine's entries: the mark trips and any other entry goes, alike states have alike entries, and an entry's state and action.
-- Assumes nothing.
use mathlib.Core.Path.{◌≡◌, refl, subst}
use mathlib.Core.Bool.{Bool, true, false}
use mathlib.Core.List.{List}
use Prim.Native.Nat.{ℕ, ◌+◌, ◌*◌, ◌/◌, ◌%◌, ◌<◌}
use native.Mathlib.Nat.{div-lt_iff_lt-mul, div-add-mod', mod-lt}
use lib.Dec.{eqb}
use lib.ListN.{get_or}
use borrow.Author.Tests.{eqb-true, eqb-false, eq-eqb, ne_eqb}
use Rattle.trace.specs.Trace.{trip, go, Alike}
use Rattle.trace.proofs.Laws.{Related, alike_next}
use Rattle.automaton.specs.Machine.{move_by, entry_move, transition, Machine, FirstMet}
use Rattle.automaton.proofs.Numbering.{met-not-mark}

-- the mark trips
pub mark-trips : (mark e : ℕ) → e ≡ mark → entry_move mark e ≡ trip
mark-trips mark e p = rw (eq-eqb e mark p)

-- any other entry goes
pub other_goes : (mark e : ℕ) → (e ≡ mark → ⊥) → entry_move mark e ≡ go e
other_goes mark e q = rw (ne_eqb e mark q)

-- Two entries are matched by R when both are marks, or neither is and R relates them.
pub data Matched (R : ℕ → ℕ → Type 0) (mark e mark' e' : ℕ) : Type 0 where
  both-trip : e ≡ mark → e' ≡ mark' → Matched R mark e mark' e'
  both_go : (e ≡ mark → ⊥) → (e' ≡ mark' → ⊥) → R e e' → Matched R mark e mark' e'

module _ {R : ℕ → ℕ → Type 0} (mark e mark' e' : ℕ) where
  -- matched entries have related moves
  pub matched-related : Matched R mark e mark' e' → Related R (entry_move mark e) (entry_move mark' e')
  matched-related (both-trip p p') = rw (mark-trips mark e p, mark-trips mark' e' p') tt
  matched-related (both_go q q' r) = rw (other_goes mark e q, other_goes mark' e' q') r

  related-by : (b b' : Bool) → eqb e mark ≡ b → eqb e' mark' ≡ b' → Related R (move_by b e) (move_by b' e') → Matched R mark e mark' e'
  related-by true true p p' r = both-trip (eqb-true e mark p) (eqb-true e' mark' p')
  related-by true false p p' r = absurd r
  related-by false true p p' r = absurd r
  related-by false false p p' r = both_go (eqb-false e mark p) (eqb-false e' mark' p') r

  -- related moves are those of matched entries
  pub related-matched : Related R (entry_move mark e) (entry_move mark' e') → Matched R mark e mark' e'
  related-matched r = related-by (eqb e mark) (eqb e' mark') refl refl r

  -- what is matched with no mark is none, and related to it
  pub matched-goes : Matched R mark e mark' e' → (e ≡ mark → ⊥) → (e' ≡ mark' → ⊥) × R e e'
  matched-goes (both-trip p p') q = absurd (q p)
  matched-goes (both_go q q' r) h = (q', r)

-- A flat index k stands in state k / actions, at action k % actions.
pub split-index : (k actions : ℕ) → (k / actions) * actions + k % actions ≡ k
split-index k actions = div-add-mod' k actions

pub action-below : (k : ℕ) {actions : ℕ} → 0 < actions → k % actions < actions
action-below k h = mod-lt k h

pub state-below : {k states actions : ℕ} → 0 < actions → k < states * actions → k / actions < states
state-below h g = (div-lt_iff_lt-mul h).1 g

pub index_below : {k states actions : ℕ} → 0 < actions → k / actions < states → k < states * actions
index_below h g = (div-lt_iff_lt-mul h).0 g

-- Two machines with the same actions, whose marks may differ.
module _ (actions mark : ℕ) (next : List ℕ) (mark' : ℕ) (next' : List ℕ) where
  abbrev pub AlikeIn : ℕ → ℕ → Type 0
  AlikeIn s t = Alike actions (transition mark actions next) s (transition mark' actions next') t

  -- the entries of alike states are matched, by alike states again
  pub alike-matched : {s t : ℕ} → AlikeIn s t → (a : ℕ) → a < actions
      → Matched AlikeIn mark (get_or next (s * actions + a) mark) mark' (get_or next' (t * actions + a) mark')
  alike-matched {s} {t} e a h =
      related-matched mark (get_or next (s * actions + a) mark) mark' (get_or next' (t * actions + a) mark')
      (alike_next actions (transition mark actions next) (transition mark' actions next') e a h)

  -- the same, the first entry by its flat index
  pub alike-matched-from : 0 < actions → (k : ℕ) {t : ℕ} → AlikeIn (k / actions) t
      → Matched AlikeIn mark (get_or next k mark) mark' (get_or next' (t * actions + k % actions) mark')
  alike-matched-from h k {t} e =
      subst (λ (i : ℕ). Matched AlikeIn mark (get_or next i mark) mark' (get_or next' (t * actions + k % actions) mark'))
      (split-index k actions)
      (alike-matched e (k % actions) (action-below k h))

  -- the same, both by one flat index
  pub alike-matched-at : 0 < actions → (k : ℕ) → AlikeIn (k / actions) (k / actions) → Matched AlikeIn mark (get_or next k mark) mark' (get_or next' k mark')
  alike-matched-at h k e =
      subst (λ (i : ℕ). Matched AlikeIn mark (get_or next k mark) mark' (get_or next' i mark')) (split-index k actions) (alike-matched-from h k e)

-- The entry where s is first met is no mark, so an entry matched with it is none either, and is related to s.
pub met-goes : {R : ℕ → ℕ → Type 0} {mark states actions : ℕ} {next : List ℕ} (mark' e' : ℕ)
    → Machine mark states actions next → {s : ℕ} → s < states → (fm : FirstMet mark actions next s)
    → Matched R mark (get_or next fm.at mark) mark' e'
    → (e' ≡ mark' → ⊥) × R s e'
met-goes {R} {mark} {next = next} mark' e' mc h fm g = rw fm.here at (matched-goes mark (get_or next fm.at mark) mark' e' g (met-not-mark mc h fm))
