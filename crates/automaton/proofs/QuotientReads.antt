-- The quotient of a machine by its classes of alike states: it is a machine, reads alike, and no two of its states are alike.
-- Assumes nothing.
use mathlib.Core.Path.{◌≡◌, refl, sym, subst, ap, ap₂, ◌∙◌}
use mathlib.Core.List.{List}
use Prim.Native.Nat.{ℕ, ◌+◌, ◌*◌, ◌/◌, ◌%◌, ◌≤◌, ◌<◌}
use native.Mathlib.Omega.{arith}
use lib.Arith.{digits_lt, digits_div, digits_mod}
use lib.ListN.{length, get_or}
use Rattle.trace.specs.Trace.{Alike}
use Rattle.trace.proofs.Laws.{Related, alike-sym, alike-trans, bisimilar}
use Rattle.automaton.specs.Machine.{transition, AlikeStates, Machine, Distinct}
use Rattle.automaton.specs.Partition.{class_of, first_of, Partition}
use Rattle.automaton.specs.Quotient.{quotient_entry, quotient_rows}
use Rattle.base.proofs.Lists.{length-build, get_or-build}
use Rattle.automaton.proofs.Classes.{class-zero, related-class, alike-equivalence, mark-class}
use Rattle.automaton.proofs.Entries.{Matched, both-trip, both_go, matched-related, AlikeIn, alike-matched, state-below, action-below}
use Rattle.base.proofs.Lists.{get_or-within}

module _ {mark states actions count : ℕ} {next classes firsts : List ℕ} (acts : 0 < actions) (mc : Machine mark states actions next)
    (pa : Partition (AlikeStates mark actions next) states count classes firsts) (sized : length classes ≡ states) (few : count ≤ 64) where
  abbrev rows : List ℕ
  rows = quotient_rows actions count next classes firsts

  -- alike states have one class
  pub alike-class : (s t : ℕ) → s < states → t < states → AlikeStates mark actions next s t → class_of classes s ≡ class_of classes t
  alike-class = related-class pa (alike-equivalence mark actions next)

  -- a trip has the class 255
  pub trip-class : class_of classes mark ≡ 255
  trip-class = mark-class classes sized mc.marked

  -- a class's entry is the class of its first member's
  pub row_at : (k : ℕ) → k < count * actions → get_or rows k 255 ≡ class_of classes (get_or next (first_of firsts (k / actions) * actions + k % actions) mark)
  row_at k h =
      get_or-build (count * actions) (quotient_entry actions next classes firsts) k 255 h ∙ ap (class_of classes) (get_or-within next i 0 mark i-inside)
    where
      i : ℕ
      i = first_of firsts (k / actions) * actions + k % actions

      i-inside : i < length next
      i-inside = rw mc.sized (digits_lt (pa.inside (k / actions) (state-below acts h)) (action-below k acts))

  pub row-entry : (c a : ℕ) → c < count → a < actions → get_or rows (c * actions + a) 255 ≡ class_of classes (get_or next (first_of firsts c * actions + a) mark)
  row-entry c a h g =
      row_at (c * actions + a) (digits_lt h g)
      ∙ ap₂ (λ (x y : ℕ). class_of classes (get_or next (first_of firsts x * actions + y) mark)) (digits_div c g) (digits_mod c g)

  pub quotient-machine : Machine 255 count actions (quotient_rows actions count next classes firsts)
  quotient-machine = record { sized = length-build (count * actions) (quotient_entry actions next classes firsts); marked = omega arith; closed = closed }
    where
      closed : (k : ℕ) → k < count * actions → (get_or rows k 255 ≡ 255 → ⊥) → get_or rows k 255 < count
      closed k h q = rw (row_at k h) (pa.below (get_or next i mark) (mc.closed i i-inside no-mark))
        where
          i : ℕ
          i = first_of firsts (k / actions) * actions + k % actions

          i-inside : i < states * actions
          i-inside = digits_lt (pa.inside (k / actions) (state-below acts h)) (action-below k acts)

          no-mark : get_or next i mark ≡ mark → ⊥
          no-mark p = q (row_at k h ∙ ap (class_of classes) p ∙ trip-class)

  -- a state stands in its class
  abbrev In : ℕ → ℕ → Type 0
  In s c = (s < states) × (class_of classes s ≡ c)

  -- the entries of a state and of its class are matched
  reads-matched : (s a : ℕ) → s < states → a < actions
      → Matched In mark (get_or next (s * actions + a) mark) 255 (get_or rows (class_of classes s * actions + a) 255)
  reads-matched s a h g = by (alike-matched actions mark next mark next (pa.member s h) a g)
    where
      c : ℕ
      c = class_of classes s

      f : ℕ
      f = first_of firsts c

      entry : get_or rows (c * actions + a) 255 ≡ class_of classes (get_or next (f * actions + a) mark)
      entry = row-entry c a (pa.below s h) g

      by : Matched (AlikeStates mark actions next) mark (get_or next (f * actions + a) mark) mark (get_or next (s * actions + a) mark)
          → Matched In mark (get_or next (s * actions + a) mark) 255 (get_or rows (c * actions + a) 255)
      by (both-trip p p') = both-trip p' (entry ∙ ap (class_of classes) p ∙ trip-class)
      by (both_go q q' r) = both_go q' no-trip (s-below, same ∙ sym entry)
        where
          f-below : get_or next (f * actions + a) mark < states
          f-below = mc.closed (f * actions + a) (digits_lt (pa.inside c (pa.below s h)) g) q

          s-below : get_or next (s * actions + a) mark < states
          s-below = mc.closed (s * actions + a) (digits_lt h g) q'

          same : class_of classes (get_or next (s * actions + a) mark) ≡ class_of classes (get_or next (f * actions + a) mark)
          same = sym (alike-class (get_or next (f * actions + a) mark) (get_or next (s * actions + a) mark) f-below s-below r)

          no-trip : get_or rows (c * actions + a) 255 ≡ 255 → ⊥
          no-trip e = omega (arith, entry, few, pa.below (get_or next (f * actions + a) mark) f-below)

  -- each state reads alike its class
  pub quotient-reads : (s : ℕ) → s < states
      → Alike actions (transition mark actions next) s (transition 255 actions (quotient_rows actions count next classes firsts)) (class_of classes s)
  quotient-reads s h = bisimilar actions (transition mark actions next) (transition 255 actions rows) In closed s (class_of classes s) (h, refl)
    where
      closed : (u v : ℕ) → In u v → (a : ℕ) → a < actions → Related In (transition mark actions next u a) (transition 255 actions rows v a)
      closed u v r a g =
          matched-related mark (get_or next (u * actions + a) mark) 255 (get_or rows (v * actions + a) 255)
          (subst (λ (x : ℕ). Matched In mark (get_or next (u * actions + a) mark) 255 (get_or rows (x * actions + a) 255)) r.1 (reads-matched u a r.0 g))

  -- the quotient reads as the machine does
  pub quotient-start : 0 < states → Alike actions (transition mark actions next) 0 (transition 255 actions (quotient_rows actions count next classes firsts)) 0
  quotient-start some = rw (class-zero pa some) at (quotient-reads 0 some)

  -- no two classes are alike
  pub quotient-distinct : Distinct 255 count actions (quotient_rows actions count next classes firsts)
  quotient-distinct = record { apart = apart }
    where
      first_reads : (c : ℕ) → c < count → AlikeIn actions mark next 255 rows (first_of firsts c) c
      first_reads c h = rw (pa.own c h) at (quotient-reads (first_of firsts c) (pa.inside c h))

      apart : (c d : ℕ) → c < count → d < count → AlikeStates 255 actions rows c d → c ≡ d
      apart c d h g e =
          sym (pa.own c h) ∙ alike-class (first_of firsts c) (first_of firsts d) (pa.inside c h) (pa.inside d g) between ∙ pa.own d g
        where
          between : AlikeStates mark actions next (first_of firsts c) (first_of firsts d)
          between = alike-trans actions (first_reads c h) (alike-trans actions e (alike-sym actions (first_reads d g)))
