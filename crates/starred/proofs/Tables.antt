-- A computed test that a table is accepted.
-- Assumes nothing.
use mathlib.Core.Path.{◌≡◌}
use mathlib.Core.Bool.{Bool, true, ◌&&◌, ◌||◌}
use mathlib.Core.List.{List}
use mathlib.Core.Logic.{◌⊎◌, inl, inr}
use Prim.Native.Nat.{ℕ, ◌+◌, ◌*◌, ◌≤◌, ◌<◌}
use native.Mathlib.Omega.{arith}
use lib.Dec.{eqb, leb, ltb}
use lib.ListN.{length, get_or}
use borrow.Author.Tests.{eqb-true, leb-true, ltb-true}
use Rattle.base.proofs.Truths.{and-true, or-true}
use Rattle.automaton.specs.Machine.{AlikeStates, FirstMet, Numbered, Distinct}
use Rattle.table.specs.Table.{type_of, actions_of, rows_of, offset_of, entries_of, row_step, HeaderFits, WellFormed, Accepted}
use Rattle.starred.proofs.Tests.{all_below, some_below, all-below, some-below}
use Rattle.starred.proofs.Bisimulation.{differ_test, differ-sound}

abbrev in_range : ℕ → ℕ → ℕ → Bool
in_range low high n = leb low n && leb n high

in-range : (low high n : ℕ) → in_range low high n ≡ true → (low ≤ n) × (n ≤ high)
in-range low high n e = let h = and-true (leb low n) (leb n high) e in (leb-true low n h.0, leb-true n high h.1)

-- an entry is below a bound, or the mark
abbrev pub entry_fits : ℕ → ℕ → Bool
entry_fits n e = eqb e 255 || ltb e n

pub entry-fits : (n e : ℕ) → entry_fits n e ≡ true → (e ≡ 255 → ⊥) → e < n
entry-fits n e t h = by (or-true (eqb e 255) (ltb e n) t)
  where
    by : (eqb e 255 ≡ true) ⊎ (ltb e n ≡ true) → e < n
    by (inl p) = absurd (h (eqb-true e 255 p))
    by (inr q) = ltb-true e n q

module _ (bytes : List ℕ) where
  abbrev header_test : Bool
  header_test =
      leb 8 (length bytes)
      && (in_range 1 2 (type_of bytes) && (in_range 1 16 (actions_of bytes) && (in_range 1 64 (rows_of bytes) && eqb (offset_of bytes) 8)))

  header-fits : header_test ≡ true → HeaderFits bytes
  header-fits e =
      let a = and-true _ _ e in
      let b = and-true _ _ a.1 in
      let c = and-true _ _ b.1 in
      let d = and-true _ _ c.1 in
      record {
        long = leb-true 8 (length bytes) a.0;
        type-low = (in-range 1 2 (type_of bytes) b.0).0;
        type-high = (in-range 1 2 (type_of bytes) b.0).1;
        actions-low = (in-range 1 16 (actions_of bytes) c.0).0;
        actions-high = (in-range 1 16 (actions_of bytes) c.0).1;
        rows-low = (in-range 1 64 (rows_of bytes) d.0).0;
        rows-high = (in-range 1 64 (rows_of bytes) d.0).1;
        offset = eqb-true (offset_of bytes) 8 d.1;
      }

  abbrev entry : ℕ → ℕ
  entry k = get_or (entries_of bytes) k 255

  abbrev entries_test : Bool
  entries_test = all_below (rows_of bytes * actions_of bytes) (λ k. entry_fits (rows_of bytes) (entry k))

  abbrev formed_test : Bool
  formed_test = header_test && (eqb (length bytes) (8 + rows_of bytes * actions_of bytes) && entries_test)

  well-formed : formed_test ≡ true → WellFormed bytes
  well-formed e =
      let a = and-true _ _ e in
      let b = and-true _ _ a.1 in
      record {
        header = header-fits a.0;
        whole = eqb-true (length bytes) (8 + rows_of bytes * actions_of bytes) b.0;
        entries =
            λ k h. entry-fits (rows_of bytes) (entry k)
            (all-below (rows_of bytes * actions_of bytes) (λ k. entry_fits (rows_of bytes) (entry k)) b.1 k h);
      }

  -- row s is met at entry `at`, and every row met earlier has a lower number
  abbrev met_at : ℕ → ℕ → Bool
  met_at s at = eqb (entry at) s && all_below at (λ j. entry_fits s (entry j))

  abbrev numbered_test : Bool
  numbered_test = all_below (rows_of bytes) (λ s. eqb s 0 || some_below (s * actions_of bytes) (met_at s))

  first-met : (s : ℕ) → (at : ℕ) × (at < s * actions_of bytes) × (met_at s at ≡ true) → FirstMet 255 (actions_of bytes) (entries_of bytes) s
  first-met s h =
      let m = and-true (eqb (entry h.0) s) (all_below h.0 (λ j. entry_fits s (entry j))) h.2 in
      record {
        at = h.0;
        here = eqb-true (entry h.0) s m.0;
        early = h.1;
        new = λ j b. entry-fits s (entry j) (all-below h.0 (λ j. entry_fits s (entry j)) m.1 j b);
      }

  numbered : numbered_test ≡ true → Numbered 255 (rows_of bytes) (actions_of bytes) (entries_of bytes)
  numbered e = record { met = λ s p h. by s p (or-true _ _ (all-below (rows_of bytes) (λ s. eqb s 0 || some_below (s * actions_of bytes) (met_at s)) e s h)) }
    where
      by : (s : ℕ) → 0 < s → (eqb s 0 ≡ true) ⊎ (some_below (s * actions_of bytes) (met_at s) ≡ true)
          → FirstMet 255 (actions_of bytes) (entries_of bytes) s
      by s p (inl z) = let e = eqb-true s 0 z in absurd (omega arith)
      by s p (inr m) = first-met s (some-below (s * actions_of bytes) (met_at s) m)

  -- two rows are one, or some sequence that is no longer than there are rows trips in one of them only
  abbrev apart_test : ℕ → ℕ → Bool
  apart_test s t =
      eqb s t
      || differ_test (actions_of bytes) (row_step bytes) (row_step bytes) (rows_of bytes) s t

  abbrev distinct_test : Bool
  distinct_test = all_below (rows_of bytes) (λ s. all_below (rows_of bytes) (apart_test s))

  distinct : distinct_test ≡ true → Distinct 255 (rows_of bytes) (actions_of bytes) (entries_of bytes)
  distinct e =
      record {
        apart =
            λ s t g h alike. by s t alike
            (or-true _ _ (all-below (rows_of bytes) (apart_test s) (all-below (rows_of bytes) (λ s. all_below (rows_of bytes) (apart_test s)) e s g) t h));
      }
    where
      by : (s t : ℕ) → AlikeStates 255 (actions_of bytes) (entries_of bytes) s t
          → (eqb s t ≡ true) ⊎ (differ_test (actions_of bytes) (row_step bytes) (row_step bytes) (rows_of bytes) s t ≡ true)
          → s ≡ t
      by s t alike (inl p) = eqb-true s t p
      by s t alike (inr d) =
          absurd (differ-sound (actions_of bytes) (row_step bytes) (row_step bytes) (rows_of bytes) s t d alike)

  abbrev pub accepted_test : Bool
  accepted_test = formed_test && (numbered_test && distinct_test)

  pub accepted-sound : accepted_test ≡ true → Accepted bytes
  accepted-sound e =
      let a = and-true _ _ e in
      let b = and-true _ _ a.1 in
      record { formed = well-formed a.0; canonical = record { numbered = numbered b.0; distinct = distinct b.1 } }
