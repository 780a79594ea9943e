-- `reached::set_of_parts` meets its contract.
use mathlib.Core.Path.{◌≡◌, refl, sym, subst}
use mathlib.Core.Logic.{inl, inr}
use Prim.Native.Nat.{ℕ, ◌<◌}
use borrow.Author.Rules.{rules}
use Rattle.reached.specs.Parts.{InParts}
use Rattle.reached.specs.declared.Parts.{Parts}
use Rattle.reached.specs.declared.Parts.TheVariants.{TwoParts, ThreeParts}
use Rattle.reached.proofs.set_of_parts.Goals as goal

-- each of the parts at hand is low
low : (parts : Parts) {known : Parts} → parts ≡ known → ((m : ℕ) → InParts parts m → m < 64) → (m : ℕ) → InParts known m → m < 64
low parts e h m p = h m (subst (λ (x : Parts). InParts x m) (sym e) p)

two-low : (parts : Parts) {a b : ℕ} → parts ≡ TwoParts a b → ((m : ℕ) → InParts parts m → m < 64) → (a < 64) × (b < 64)
two-low parts {a} {b} e h = (low parts e h a (inl refl), low parts e h b (inr refl))

three-low : (parts : Parts) {a b c : ℕ} → parts ≡ ThreeParts a b c → ((m : ℕ) → InParts parts m → m < 64) → (a < 64) × (b < 64) × (c < 64)
three-low parts {a} {b} {c} e h = (low parts e h a (inl refl), low parts e h b (inr (inl refl)), low parts e h c (inr (inr refl)))

pub only-requires : goal.only-requires
only-requires c = low _ c.in-OnePart.is c.requires _ refl

pub only-requires-in-TwoParts : goal.only-requires-in-TwoParts
only-requires-in-TwoParts c = let (a, b) = two-low _ c.in-TwoParts.is c.requires in search rules

pub only-requires-in-TwoParts-2 : goal.only-requires-in-TwoParts-2
only-requires-in-TwoParts-2 c = let (a, b) = two-low _ c.in-TwoParts.is c.requires in search rules

pub only-requires-in-ThreeParts : goal.only-requires-in-ThreeParts
only-requires-in-ThreeParts c = let (x, y, z) = three-low _ c.in-ThreeParts.is c.requires in search rules

pub only-requires-in-ThreeParts-2 : goal.only-requires-in-ThreeParts-2
only-requires-in-ThreeParts-2 c = let (x, y, z) = three-low _ c.in-ThreeParts.is c.requires in search rules

pub only-requires-in-ThreeParts-3 : goal.only-requires-in-ThreeParts-3
only-requires-in-ThreeParts-3 c =
    let (x, y, z) = three-low _ c.in-ThreeParts.is c.requires in search rules
