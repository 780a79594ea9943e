-- The quotient of a machine by its classes of alike states keeps the stated numbering.
-- Assumes nothing.
use mathlib.Core.Path.{◌≡◌, sym, ap, ◌∙◌}
use mathlib.Core.List.{List}
use Prim.Native.Nat.{ℕ, suc, ◌+◌, ◌*◌, ◌/◌, ◌%◌, ◌≤◌, ◌<◌}
use native.Mathlib.Nat.{lt_trans, lt_of_le_of_lt, suc-mul}
use native.Mathlib.Decide.{ℕ_discrete, dec_lt}
use native.Mathlib.Omega.{arith}
use lib.Arith.{digits_lt}
use lib.ListN.{length, get_or}
use Rattle.trace.proofs.Laws.{alike-sym}
use Rattle.automaton.specs.Machine.{AlikeStates, Machine, FirstMet, Numbered}
use Rattle.automaton.specs.Partition.{class_of, first_of, Partition}
use Rattle.automaton.specs.Quotient.{quotient_rows}
use Rattle.automaton.proofs.Classes.{first-order}
use Rattle.automaton.proofs.Entries.{alike-matched-from, met-goes, state-below, index_below, action-below, split-index}
use Rattle.automaton.proofs.QuotientReads.{alike-class, trip-class, row_at, row-entry}

module _ {mark states actions count : ℕ} {next classes firsts : List ℕ} (acts : 0 < actions) (mc : Machine mark states actions next)
    (pa : Partition (AlikeStates mark actions next) states count classes firsts) (sized : length classes ≡ states) (few : count ≤ 64) where
  abbrev rows : List ℕ
  rows = quotient_rows actions count next classes firsts

  -- The first member of a class is met in a state p, at an action a.
  module _ (c : ℕ) (h : c < count) (fm : FirstMet mark actions next (first_of firsts c)) where
    abbrev f : ℕ
    f = first_of firsts c

    abbrev p : ℕ
    p = fm.at / actions

    abbrev a : ℕ
    a = fm.at % actions

    p-before : p < f
    p-before = state-below acts fm.early

    p-below : p < states
    p-below = lt_trans p-before (pa.inside c h)

    a-below : a < actions
    a-below = action-below fm.at acts

    -- It is the first member of its own class: an earlier member of that one goes by the same action to a state alike f, which is f or later,
    -- but stands before f is met.
    p-first : first_of firsts (class_of classes p) ≡ p
    p-first = elim (dec_lt p' p) [ yes l ↦ absurd (earlier l) | no l ↦ omega (arith, pa.first p p-below) ]
      where
        p' : ℕ
        p' = first_of firsts (class_of classes p)

        g : ℕ
        g = get_or next (p' * actions + a) mark

        step : (g ≡ mark → ⊥) × AlikeStates mark actions next f g
        step = met-goes mark g mc (pa.inside c h) fm (alike-matched-from actions mark next mark next acts fm.at (alike-sym actions (pa.member p p-below)))

        g-below : g < states
        g-below = mc.closed (p' * actions + a) (digits_lt (pa.inside (class_of classes p) (pa.below p p-below)) a-below) step.0

        class : class_of classes g ≡ c
        class = sym (alike-class acts mc pa sized few f g (pa.inside c h) g-below step.1) ∙ pa.own c h

        not-less : f ≤ g
        not-less = rw class at (pa.first g g-below)

        before : p' < p → p' * actions + a < fm.at
        before l = omega (arith, digits_lt l a-below, split-index fm.at actions)

        earlier : p' < p → ⊥
        earlier l = omega (arith, not-less, fm.new (p' * actions + a) (before l) step.0)

    -- So the class is first met in the row of p's class, at the same action.
    class-met : FirstMet 255 actions rows c
    class-met = record { at = cp * actions + a; here = here; early = digits_lt cp-below a-below; new = new }
      where
        cp : ℕ
        cp = class_of classes p

        cp-inside : cp < count
        cp-inside = pa.below p p-below

        cp-below : cp < c
        cp-below = first-order pa cp c cp-inside (rw p-first p-before)

        here : get_or rows (cp * actions + a) 255 ≡ c
        here =
            row-entry acts mc pa sized few cp a cp-inside a-below
            ∙ ap (λ (x : ℕ). class_of classes (get_or next (x * actions + a) mark)) p-first
            ∙ ap (λ (x : ℕ). class_of classes (get_or next x mark)) (split-index fm.at actions)
            ∙ ap (class_of classes) fm.here
            ∙ pa.own c h

        new : (j : ℕ) → j < cp * actions + a → (get_or rows j 255 ≡ 255 → ⊥) → get_or rows j 255 < c
        new j l q = rw entry (first-order pa (class_of classes x) c (pa.below x x-inside) (lt_of_le_of_lt (pa.first x x-inside) x_below))
          where
            e : ℕ
            e = j / actions

            i : ℕ
            i = first_of firsts e * actions + j % actions

            e-upto : e < suc cp
            e-upto = state-below acts (rw (suc-mul cp actions) (omega (arith, a-below)))

            e-inside : e < count
            e-inside = omega (arith, e-upto, cp-inside)

            entry : get_or rows j 255 ≡ class_of classes (get_or next i mark)
            entry = row_at acts mc pa sized few j (index_below acts e-inside)

            i-lower : e < cp → i < fm.at
            i-lower g = omega (arith, digits_lt (rw p-first at (pa.ordered e cp g cp-inside)) (action-below j acts), split-index fm.at actions)

            i-equal : e ≡ cp → i < fm.at
            i-equal g =
                let je = ap (λ (y : ℕ). y * actions) g in
                let fe = ap (λ (y : ℕ). first_of firsts y * actions) g ∙ ap (λ (y : ℕ). y * actions) p-first in
                omega (arith, split-index j actions, split-index fm.at actions)

            i-before : i < fm.at
            i-before = elim (ℕ_discrete e cp) [ yes g ↦ i-equal g | no g ↦ i-lower (omega (arith, e-upto)) ]

            x : ℕ
            x = get_or next i mark

            x_below : x < f
            x_below = fm.new i i-before (λ g. q (entry ∙ ap (class_of classes) g ∙ trip-class acts mc pa sized few))

            x-inside : x < states
            x-inside = lt_trans x_below (pa.inside c h)

  -- the quotient keeps the stated numbering
  pub quotient-numbered : Numbered mark states actions next → Numbered 255 count actions (quotient_rows actions count next classes firsts)
  quotient-numbered nu = record { met = λ c pos h. class-met c h (nu.met (first_of firsts c) (omega (arith, pa.ordered 0 c pos h)) (pa.inside c h)) }
