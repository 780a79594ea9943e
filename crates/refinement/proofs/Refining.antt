-- What each pass of a refinement makes of its classes.
-- Assumes nothing.
use mathlib.Core.Path.{◌≡◌, subst}
use mathlib.Core.List.{List}
use Prim.Native.Nat.{ℕ, ◌≤◌, ◌<◌}
use native.Mathlib.Omega.{arith}
use lib.ListN.{length, replicate, get_or-replicate, length-replicate}
use Rattle.automaton.specs.Machine.{Machine, AlikeStates}
use Rattle.automaton.specs.Partition.{class_of, SameSignature, Partition, Over}
use Rattle.automaton.proofs.Compared.{signature-equivalence}
use Rattle.refinement.specs.Refining.{Refining}
use Rattle.refinement.proofs.Counted.{one-classified, partition-classified, no-fewer}
use Rattle.automaton.proofs.Rising.{zeros-grow, partition-grows}
use Rattle.refinement.proofs.Stable.{over-alike, pass-sound, stable-partition}

-- one class is coarser than everything
pub one-refining : (states actions limit : ℕ) (next classes : List ℕ) → 0 < limit → 0 < states → classes ≡ replicate states 0 → Refining states actions limit 1 next classes
one-refining states actions limit next classes h some e =
    record {
      few = h;
      paired = sized;
      classified = one-classified states classes some zeros;
      growth = zeros-grow classes (λ s g. zeros s (rw (← sized) g));
      sound = λ mark m. record { same = λ s t hs ht a. omega (arith, zeros s hs, zeros t ht) };
    }
  where
    sized : length classes ≡ states
    sized = rw e (length-replicate states 0)

    zeros : (s : ℕ) → s < states → class_of classes s ≡ 0
    zeros s g = rw e (get_or-replicate states s 0 255 g)

module _ (states actions limit count : ℕ) (next classes : List ℕ) (r : Refining states actions limit count next classes) where
  -- a pass that finds too many classes
  pub too_many : Over (SameSignature actions next classes) (length classes) limit → (mark : ℕ) → Machine mark states actions next
      → Over (AlikeStates mark actions next) states limit
  too_many o mark m = over-alike mark states actions next classes m r.paired (r.sound mark m) limit (rw r.paired at o)

  module _ (finer : ℕ) (split firsts : List ℕ) (p : (finer ≤ limit) × Partition (SameSignature actions next classes) (length classes) finer split firsts) where
    split-by : Partition (SameSignature actions next classes) states finer split firsts
    split-by = rw r.paired at p.1

    pub no-fewer-found : count ≤ finer
    no-fewer-found = no-fewer (signature-equivalence actions next classes) (λ s t d. d.class) r.classified split-by

    -- a pass that finds more classes
    pub refines : length split ≡ states → Refining states actions limit finer next split
    refines h =
        record {
          few = p.0;
          paired = h;
          classified = partition-classified split-by;
          growth = partition-grows (rw (← h) at split-by);
          sound = λ mark m. pass-sound mark states actions next classes m r.paired (r.sound mark m) finer split firsts split-by;
        }

    -- a pass that finds no more
    pub stable : limit ≤ 255 → finer ≡ count → (mark : ℕ) → Machine mark states actions next → (count ≤ limit) × Partition (AlikeStates mark actions next) states count split firsts
    stable small same mark m = (
      r.few,
      subst (λ (n : ℕ). Partition (AlikeStates mark actions next) states n split firsts) same
          (stable-partition mark states actions next classes m r.paired (r.sound mark m) finer split firsts split-by count
          (omega (arith, r.few))
          r.classified
          (omega arith)),
    )
