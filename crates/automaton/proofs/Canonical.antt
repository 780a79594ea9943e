-- A machine whose states are numbered as first met and are pairwise not alike is the only one that reads as it does, and no other has fewer states.
-- Assumes nothing.
use mathlib.Core.Path.{◌≡◌, sym, subst, ap, ◌∙◌}
use mathlib.Core.List.{List}
use Prim.Native.Nat.{ℕ, ◌+◌, ◌*◌, ◌/◌, ◌%◌, ◌≤◌, ◌<◌}
use native.Mathlib.Nat.{le_antisymm, lt_irrefl}
use native.Mathlib.Decide.{dec_lt, dec_le}
use native.Mathlib.Omega.{arith}
use lib.Arith.{digits_lt}
use lib.ListN.{get_or}
use lib.Seq.{ext_get_or}
use Rattle.trace.specs.Trace.{Alike}
use Rattle.trace.proofs.Laws.{alike-sym, alike-trans}
use Rattle.automaton.specs.Machine.{transition, Machine, FirstMet, Numbered, Distinct}
use Rattle.automaton.proofs.Entries.{Matched, both-trip, both_go, met-goes, AlikeIn, alike-matched-from, alike-matched-at, state-below, index_below, action-below}
use Rattle.automaton.proofs.Numbering.{met-induction}
use Rattle.base.proofs.Pigeon.{pigeon}

-- Two machines with the same actions. Both are numbered as first met, and neither has two alike states.
module _ {actions mark states mark' states' : ℕ} {next next' : List ℕ} (acts : 0 < actions)
    (mc : Machine mark states actions next) (nu : Numbered mark states actions next) (di : Distinct mark states actions next)
    (mc' : Machine mark' states' actions next') (nu' : Numbered mark' states' actions next') (di' : Distinct mark' states' actions next') where
  abbrev Both : ℕ → ℕ → Type 0
  Both = AlikeIn actions mark next mark' next'

  abbrev Same : ℕ → Type 0
  Same s = (s < states') × Both s s

  -- The second machine does not meet s before the first does: what the first meets there has a lower number, and is alike s.
  not-before : (s : ℕ) → s < states' → ((p : ℕ) → p < s → Same p) → (fm : FirstMet mark actions next s) (fm' : FirstMet mark' actions next' s)
      → fm'.at < fm.at → ⊥
  not-before s h ih fm fm' l =
      let e = di'.apart s u h (ih u u-below).0 (alike-trans actions step.1 (ih u u-below).1) in
      omega (arith, u-below)
    where
      row : Same (fm'.at / actions)
      row = ih (fm'.at / actions) (state-below acts fm'.early)

      u : ℕ
      u = get_or next fm'.at mark

      step : (u ≡ mark → ⊥) × AlikeIn actions mark' next' mark next s u
      step = met-goes mark u mc' h fm' (alike-matched-at actions mark' next' mark next acts fm'.at (alike-sym actions row.1))

      u-below : u < s
      u-below = fm.new fm'.at l step.0

  -- The second machine meets s where the first does: it goes there to a state t alike s, and t has the number s.
  same_met : (s : ℕ) → 0 < s → s < states → ((p : ℕ) → p < s → Same p) → FirstMet mark actions next s → Same s
  same_met s pos h ih fm = (s-below, subst (λ (x : ℕ). Both s x) (t-is-s (nu'.met s pos s-below)) step.1)
    where
      row : Same (fm.at / actions)
      row = ih (fm.at / actions) (state-below acts fm.early)

      t : ℕ
      t = get_or next' fm.at mark'

      step : (t ≡ mark' → ⊥) × Both s t
      step = met-goes mark' t mc h fm (alike-matched-at actions mark next mark' next' acts fm.at row.1)

      t-below : t < states'
      t-below = mc'.closed fm.at (index_below acts row.0) step.0

      not-less : t < s → ⊥
      not-less g = let e = di.apart s t h (omega arith) (alike-trans actions step.1 (alike-sym actions (ih t g).1)) in omega arith

      s-below : s < states'
      s-below = elim (dec_lt t s) [ yes g ↦ absurd (not-less g) | no g ↦ omega (arith, t-below) ]

      t-is-s : FirstMet mark' actions next' s → t ≡ s
      t-is-s fm' =
          elim (dec_lt fm.at fm'.at) [ yes l ↦ absurd (not-later l) | no p ↦ elim (dec_lt fm'.at fm.at) [ yes l ↦ absurd (not_earlier l) | no q ↦ at_once (omega arith) ] ]
        where
          not-later : fm.at < fm'.at → ⊥
          not-later l = not-less (fm'.new fm.at l step.0)

          not_earlier : fm'.at < fm.at → ⊥
          not_earlier l = not-before s s-below ih fm fm' l

          at_once : fm.at ≡ fm'.at → t ≡ s
          at_once e = rw e fm'.here

  -- each state of the first is one of the second, and the two are alike
  all_same : 0 < states' → Both 0 0 → (s : ℕ) → s < states → Same s
  all_same some start = met-induction nu Same (some, start) same_met

  no_more : 0 < states' → Both 0 0 → states ≤ states'
  no_more some start = elim (dec_le states states') [ yes h ↦ h | no h ↦ absurd (lt_irrefl states' (all_same some start states' (omega arith)).0) ]

-- Two machines that are numbered as first met and have no two alike states: where they read alike from state 0, they have as many states, and
-- each state is alike the one with its number.
pub canonical : {actions mark states mark' states' : ℕ} {next next' : List ℕ} → 0 < actions
    → Machine mark states actions next → Numbered mark states actions next → Distinct mark states actions next
    → Machine mark' states' actions next' → Numbered mark' states' actions next' → Distinct mark' states' actions next'
    → 0 < states → 0 < states'
    → Alike actions (transition mark actions next) 0 (transition mark' actions next') 0
    → (states ≡ states') × ((s : ℕ) → s < states → Alike actions (transition mark actions next) s (transition mark' actions next') s)
canonical acts mc nu di mc' nu' di' some some' start = (
  le_antisymm (no_more acts mc nu di mc' nu' di' some' start) (no_more acts mc' nu' di' mc nu di some (alike-sym _ start)),
  λ s h. (all_same acts mc nu di mc' nu' di' some' start s h).1,
)

-- With one mark they are the same machine.
pub canonical-entries : {actions mark states states' : ℕ} {next next' : List ℕ} → 0 < actions
    → Machine mark states actions next → Numbered mark states actions next → Distinct mark states actions next
    → Machine mark states' actions next' → Numbered mark states' actions next' → Distinct mark states' actions next'
    → 0 < states → 0 < states'
    → Alike actions (transition mark actions next) 0 (transition mark actions next') 0
    → next ≡ next'
canonical-entries {actions} {mark} {states} {states'} {next} {next'} acts mc nu di mc' nu' di' some some' start =
    ext_get_or mark next next' (mc.sized ∙ ap (λ (x : ℕ). x * actions) both.0 ∙ sym mc'.sized) (λ k h. entry k (subst (λ (x : ℕ). k < x) mc.sized h))
  where
    both : (states ≡ states') × ((s : ℕ) → s < states → Alike actions (transition mark actions next) s (transition mark actions next') s)
    both = canonical acts mc nu di mc' nu' di' some some' start

    equal : (k : ℕ) → k < states * actions → Matched (AlikeIn actions mark next mark next') mark (get_or next k mark) mark (get_or next' k mark)
        → get_or next k mark ≡ get_or next' k mark
    equal k h (both-trip p p') = p ∙ sym p'
    equal k h (both_go q q' r) =
        di.apart (get_or next k mark) (get_or next' k mark) (mc.closed k h q) e'-below (alike-trans actions r (alike-sym actions (both.1 (get_or next' k mark) e'-below)))
      where
        e'-below : get_or next' k mark < states
        e'-below = rw both.0 (mc'.closed k (rw (← both.0) h) q')

    entry : (k : ℕ) → k < states * actions → get_or next k mark ≡ get_or next' k mark
    entry k h = equal k h (alike-matched-at actions mark next mark next' acts k (both.1 (k / actions) (state-below acts h)))

-- No machine that reads alike from state 0 has fewer states: each state s has an alike one there, and no two the same.
pub fewest : {actions mark states mark' states' : ℕ} {next next' : List ℕ} → 0 < actions
    → Machine mark states actions next → Numbered mark states actions next → Distinct mark states actions next
    → Machine mark' states' actions next' → 0 < states'
    → Alike actions (transition mark actions next) 0 (transition mark' actions next') 0
    → states ≤ states'
fewest {actions} {mark} {states} {mark'} {states'} {next} {next'} acts mc nu di mc' some' start = pigeon states states' Both image apart
  where
    Both : ℕ → ℕ → Type 0
    Both = AlikeIn actions mark next mark' next'

    Image : ℕ → Type 0
    Image s = (t : ℕ) × (t < states') × Both s t

    behind : (s : ℕ) → s < states → (fm : FirstMet mark actions next s) → Image (fm.at / actions) → Image s
    behind s h fm row = (e', mc'.closed (row.0 * actions + fm.at % actions) (digits_lt row.1 (action-below fm.at acts)) step.0, step.1)
      where
        e' : ℕ
        e' = get_or next' (row.0 * actions + fm.at % actions) mark'

        step : (e' ≡ mark' → ⊥) × Both s e'
        step = met-goes mark' e' mc h fm (alike-matched-from actions mark next mark' next' acts fm.at row.2)

    image : (s : ℕ) → s < states → Image s
    image = met-induction nu Image (0, some', start) (λ s pos h ih fm. behind s h fm (ih (fm.at / actions) (state-below acts fm.early)))

    apart : (i k j : ℕ) → i < k → k < states → j < states' → Both i j → Both k j → ⊥
    apart i k j l h g e e' = let q = di.apart i k (omega arith) h (alike-trans actions e (alike-sym actions e')) in omega arith
