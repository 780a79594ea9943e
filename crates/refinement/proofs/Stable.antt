-- Classes that are coarser than alikeness stay so under a pass, and where a pass finds no class more, they are the classes of alike states.
-- Assumes nothing.
use mathlib.Core.Path.{◌≡◌, sym, ap, ◌∙◌}
use mathlib.Core.List.{List}
use Prim.Native.Nat.{ℕ, ◌+◌, ◌*◌, ◌≤◌, ◌<◌}
use native.Mathlib.Decide.{ℕ_discrete}
use native.Mathlib.Omega.{arith}
use lib.Arith.{digits_lt}
use lib.ListN.{length, get_or}
use Rattle.trace.proofs.Laws.{Related, bisimilar}
use Rattle.automaton.specs.Machine.{transition, AlikeStates, Machine}
use Rattle.automaton.specs.Partition.{class_of, SameSignature, Partition, Over}
use Rattle.base.proofs.Lists.{get_or-within}
use Rattle.automaton.proofs.Classes.{related-class, mark-class}
use Rattle.automaton.proofs.Compared.{behind_of, signature-equivalence}
use Rattle.refinement.specs.Refining.{Classified, Coarser}
use Rattle.refinement.proofs.Counted.{unchanged}
use Rattle.automaton.proofs.Entries.{Matched, both-trip, both_go, matched-related, alike-matched}
use Rattle.automaton.proofs.Splits.{over-map, partition-map}

module _ (mark states actions : ℕ) (next classes : List ℕ) (m : Machine mark states actions next) (paired : length classes ≡ states) where
  abbrev entry : ℕ → ℕ → ℕ
  entry s a = get_or next (s * actions + a) mark

  entry_closed : (s a : ℕ) → s < states → a < actions → (get_or next (s * actions + a) mark ≡ mark → ⊥) → get_or next (s * actions + a) mark < states
  entry_closed s a h g = m.closed (s * actions + a) (digits_lt h g)

  behind-entry : (s a : ℕ) → s < states → a < actions → behind_of actions next classes s a ≡ class_of classes (get_or next (s * actions + a) mark)
  behind-entry s a h g = ap (class_of classes) (get_or-within next (s * actions + a) 0 mark (omega (arith, digits_lt h g, m.sized)))

  -- alike states have one signature
  pub alike-signature : Coarser mark states actions next classes
      → (s t : ℕ) → s < states → t < states → AlikeStates mark actions next s t → SameSignature actions next classes s t
  alike-signature k s t hs ht e = record { class = k.same s t hs ht e; behind = behind }
    where
      behind : (a : ℕ) → a < actions → behind_of actions next classes s a ≡ behind_of actions next classes t a
      behind a h = behind-entry s a hs h ∙ same (alike-matched actions mark next mark next e a h) ∙ sym (behind-entry t a ht h)
        where
          same : Matched (AlikeStates mark actions next) mark (entry s a) mark (entry t a) → class_of classes (entry s a) ≡ class_of classes (entry t a)
          same (both-trip p q) = ap (class_of classes) (p ∙ sym q)
          same (both_go p q r) = k.same (entry s a) (entry t a) (entry_closed s a hs h p) (entry_closed t a ht h q) r

  -- where states of one class have one signature, they are alike
  module _ (count : ℕ) (few : count ≤ 255) (below : (s : ℕ) → s < states → class_of classes s < count)
      (signature : (s t : ℕ) → s < states → t < states → class_of classes s ≡ class_of classes t → SameSignature actions next classes s t) where
    abbrev OneClass : ℕ → ℕ → Type 0
    OneClass s t = (s < states) × (t < states) × (class_of classes s ≡ class_of classes t)

    -- the mark has a class that no state has
    not-marked : (x y : ℕ) → x ≡ mark → y < states → class_of classes x ≡ class_of classes y → ⊥
    not-marked x y p h q = omega (arith, ap (class_of classes) p ∙ mark-class classes paired m.marked, below y h)

    -- entries of one class are matched
    one-class-matched : (x y : ℕ) → ((x ≡ mark → ⊥) → x < states) → ((y ≡ mark → ⊥) → y < states) → class_of classes x ≡ class_of classes y → Matched OneClass mark x mark y
    one-class-matched x y hx hy q =
        elim (ℕ_discrete x mark) [
          | yes i ↦ elim (ℕ_discrete y mark) [ yes j ↦ both-trip i j | no j ↦ absurd (not-marked x y i (hy j) q) ]
          | no i ↦ elim (ℕ_discrete y mark) [ yes j ↦ absurd (not-marked y x j (hx i) (sym q)) | no j ↦ both_go i j (hx i, hy j, q) ]
        ]

    pub class-alike : (s t : ℕ) → s < states → t < states → class_of classes s ≡ class_of classes t → AlikeStates mark actions next s t
    class-alike s t hs ht e = bisimilar actions (transition mark actions next) (transition mark actions next) OneClass closed s t (hs, ht, e)
      where
        closed : (u v : ℕ) → OneClass u v → (a : ℕ) → a < actions → Related OneClass (transition mark actions next u a) (transition mark actions next v a)
        closed u v r a h =
            matched-related mark (entry u a) mark (entry v a)
            (one-class-matched (entry u a) (entry v a) (entry_closed u a r.0 h) (entry_closed v a r.1 h)
            (sym (behind-entry u a r.0 h) ∙ (signature u v r.0 r.1 r.2).behind a h ∙ behind-entry v a r.1 h))

  module _ (k : Coarser mark states actions next classes) where
    -- a pass that finds too many signatures has found too many states that are not alike
    pub over-alike : (limit : ℕ) → Over (SameSignature actions next classes) states limit → Over (AlikeStates mark actions next) states limit
    over-alike = over-map (AlikeStates mark actions next) (SameSignature actions next classes) states (alike-signature k)

    module _ (finer : ℕ) (split firsts : List ℕ) (p : Partition (SameSignature actions next classes) states finer split firsts) where
      -- a pass keeps classes coarser than alikeness
      pub pass-sound : Coarser mark states actions next split
      pass-sound =
          record {
            same = λ s t hs ht e. related-class p (signature-equivalence actions next classes) s t hs ht (alike-signature k s t hs ht e);
          }

      -- a pass that finds no class more has found the classes of alike states
      pub stable-partition : (count : ℕ) → count ≤ 255 → Classified states count classes → finer ≤ count → Partition (AlikeStates mark actions next) states finer split firsts
      stable-partition count few c h =
          partition-map (SameSignature actions next classes) (AlikeStates mark actions next) states
          (λ s t hs ht e. class-alike count few c.below stays s t hs ht e.class)
          (alike-signature k)
          finer split firsts p
        where
          stays : (s t : ℕ) → s < states → t < states → class_of classes s ≡ class_of classes t → SameSignature actions next classes s t
          stays = unchanged (signature-equivalence actions next classes) (λ s t e. e.class) c p h
