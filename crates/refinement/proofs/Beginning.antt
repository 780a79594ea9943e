-- Classes of one distance are classes to begin a refinement with.
-- Assumes nothing.
use mathlib.Core.Path.{◌≡◌, refl}
use mathlib.Core.List.{List}
use Prim.Native.Nat.{ℕ}
use lib.ListN.{length}
use Rattle.automaton.specs.Machine.{AlikeStates}
use Rattle.automaton.specs.Partition.{SplitsTo}
use Rattle.distances.specs.Distances.{Distances, SameNumber}
use Rattle.refinement.specs.Refining.{BeginsWith}
use Rattle.std.proofs.Common.{Option, Some, None}
use Rattle.automaton.proofs.Classes.{related-class}
use Rattle.refinement.proofs.Counted.{partition-classified}
use Rattle.distances.proofs.Measured.{alike-distance}
use Rattle.distances.proofs.Numbers.{number-equivalence}
use Rattle.automaton.proofs.Rising.{partition-grows}
use Rattle.automaton.proofs.Splits.{over-map}

pub begins-with : (actions limit : ℕ) (next far classes firsts : List ℕ) → Distances actions next far → length classes ≡ length far → (r : Option ℕ)
    → SplitsTo (SameNumber far) (length far) limit r classes firsts → BeginsWith (length far) actions limit next r classes
begins-with actions limit next far classes firsts d paired (Some count) p =
    record {
      few = p.0;
      paired = paired;
      classified = partition-classified p.1;
      growth = partition-grows (rw (← paired) at p.1);
      sound = λ mark m. record {
        same = λ s t hs ht e. related-class p.1 (number-equivalence far) s t hs ht (alike-distance mark (length far) actions next far m refl d s t hs ht e);
      };
    }
begins-with actions limit next far classes firsts d paired None o =
    λ mark m. over-map (AlikeStates mark actions next) (SameNumber far) (length far) (alike-distance mark (length far) actions next far m refl d) limit o
