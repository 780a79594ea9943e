-- Laws of adding one piece after the other.
-- Assumes nothing.
use mathlib.Core.Path.{◌≡◌, refl, sym, ap, subst, ◌∙◌}
use mathlib.Core.List.{List, [], ◌∷◌, ◌++◌, append_assoc, append-nil}
use Prim.Native.Nat.{ℕ, zero, suc, ◌+◌, ◌≤◌, ◌<◌}
use native.Mathlib.Numerals.{add-one}
use native.Mathlib.Omega.{arith}
use lib.ListN.{length, take, set, length-append, length-set, length-take}
use lib.Seq.{length-take-le, take_all, take-suc-set, take_at}
use Rattle.messages.specs.Adding.{Adds}

-- what is added to a cut list is cut as if it were added to the whole
pub cut-then : (n : ℕ) (a b : List ℕ) → take n (take n a ++ b) ≡ take n (a ++ b)
cut-then zero a b = refl
cut-then (suc n) [] b = refl
cut-then (suc n) (x ∷ a) b = ap (λ (t : List ℕ). x ∷ t) (cut-then n a b)

pub adds_none : (old : List ℕ) (at : ℕ) → Adds old at [] old at
adds_none old at = record { sized = refl; so_far = rw (append-nil) (sym (take_all (length old) (take at old) (omega (arith, length-take at old)))) }

-- a byte that has room, and one that has none
pub adds-byte : (old : List ℕ) (at byte : ℕ) → at < length old → Adds old at (byte ∷ []) (set old at byte) (at + 1)
adds-byte old at byte h =
    record {
      sized = length-set old at byte;
      so_far = rw (add-one at) (take-suc-set old at byte h ∙ sym (take_all (length old) (take at old ++ (byte ∷ [])) (omega (arith, length-append (take at old) (byte ∷ []), length-take-le at old (omega arith)))));
    }

pub adds-no-room : (old piece : List ℕ) (at : ℕ) → length old ≤ at → Adds old at piece old at
adds-no-room old piece at h =
    record { sized = refl; so_far = rw (take_all at old h) (sym (take_at old piece (length old) refl)) }

pub adds_then : {old mid new p q : List ℕ} {at next end : ℕ} → Adds old at p mid next → Adds mid next q new end → Adds old at (p ++ q) new end
adds_then {old} {mid} {new} {p} {q} {at} {next} a b =
    record {
      sized = b.sized ∙ a.sized;
      so_far =
          b.so_far
          ∙ ap (λ (n : ℕ). take n (take next mid ++ q)) a.sized
          ∙ ap (λ (l : List ℕ). take (length old) (l ++ q)) a.so_far
          ∙ cut-then (length old) (take at old ++ p) q
          ∙ ap (take (length old)) (append_assoc (take at old) p q);
    }

pub adds-as : {old new p q : List ℕ} {at end : ℕ} → p ≡ q → Adds old at p new end → Adds old at q new end
adds-as {old} {new} {p} {q} {at} {end} e a = subst (λ (l : List ℕ). Adds old at l new end) e a
