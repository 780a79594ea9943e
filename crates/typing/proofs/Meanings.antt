-- The meanings of the nodes of a sound sheet: later nodes change none, and a used one's agrees with its type.
-- Assumes nothing.
use Rattle.syntax.specs.declared.NodeType.{NodeType}
use mathlib.Core.Path.{◌≡◌, refl, sym, ap, subst, ◌∙◌}
use mathlib.Core.List.{List, [], ◌∷◌}
use Prim.Native.Nat.{ℕ, zero, suc, ◌<◌}
use native.Mathlib.Decide.{ℕ_discrete}
use native.Mathlib.Nat.{lt-suc_self}
use native.Mathlib.Omega.{arith}
use lib.ListN.{length, get_or, length-append, get_or-append}
use lib.Seq.{get_or_at}
use Rattle.trace.specs.declared.Mode.{Mode}
use Rattle.policy.specs.declared.Bound.{Bound}
use Rattle.policy.specs.Formula.{always-false}
use Rattle.policy.specs.Typing.{typed as Typed, policy_type}
use Rattle.syntax.specs.Nodes.{node_of}
use Rattle.syntax.specs.Types.{type_at, typing_of}
use Rattle.syntax.specs.Meaning.{Meaning, formula, meaning_of, meanings, node_policy, policy_at}
use Rattle.typing.specs.Typed.{SoundSheet, Agrees}
use Rattle.syntax.specs.declared.NodeType.TheVariants.{Unused, Policy}
use Rattle.syntax.specs.declared.Sheet.{Sheet}
use Rattle.typing.proofs.Agreement.{agrees-typed, agree-node}
use Rattle.typing.proofs.Sound.{typed-fits, typed-policy}
use Rattle.syntax.proofs.NodeTypes.{EachPart, FormulaBefore, PolicyBefore, parts-fit}

-- What node n of a sheet means.
abbrev pub node_meaning : Sheet → ℕ → Meaning
node_meaning sheet n = get_or (meanings sheet.nodes (suc n)) n (formula always-false)

module _ (sheet : Sheet) where
  abbrev up_to : ℕ → List Meaning
  up_to n = meanings sheet.nodes n

  length-meanings : (n : ℕ) → length (up_to n) ≡ n
  length-meanings zero = refl
  length-meanings (suc n) = length-append (up_to n) (meaning_of (up_to n) (node_of sheet n) ∷ []) ∙ omega (arith, length-meanings n)

  -- the meaning of a node is made of those before it
  pub meaning-of : (n : ℕ) → node_meaning sheet n ≡ meaning_of (meanings sheet.nodes n) (node_of sheet n)
  meaning-of n = get_or_at (up_to n) (meaning_of (up_to n) (node_of sheet n)) [] (formula always-false) n (length-meanings n)

  -- later nodes change no meaning
  pub meaning-stays : (j n : ℕ) → n < j → get_or (meanings sheet.nodes j) n (formula always-false) ≡ node_meaning sheet n
  meaning-stays zero n h = absurd (omega arith)
  meaning-stays (suc j) n h = go (meaning-stays j n) (ℕ_discrete n j)
    where
      go : (n < j → get_or (up_to j) n (formula always-false) ≡ node_meaning sheet n) → Dec (n ≡ j) → get_or (up_to (suc j)) n (formula always-false) ≡ node_meaning sheet n
      go ih (yes p) = rw p
      go ih (no q) =
          get_or-append (up_to j) (meaning_of (up_to j) (node_of sheet j) ∷ []) (formula always-false) n (omega (arith, length-meanings j)) ∙ ih (omega arith)

module _ {mode : Mode} (sheet : Sheet) (types : List NodeType) (sound : SoundSheet mode sheet types) where
  -- each part of a node that has a type stands before it, and is a formula or a policy as the kind asks
  pub node-parts : (n : ℕ) → n < sheet.count → (type_at types n ≡ Unused → ⊥)
      → EachPart (FormulaBefore (type_at types) n) (PolicyBefore (type_at types) n) (node_of sheet n)
  node-parts n h t = parts-fit (type_at types) n (node_of sheet n) (sound.formed.parts n h) (typed-fits sound n h t)

  agrees-below : (m n : ℕ) → n < m → n < sheet.count → (type_at types n ≡ Unused → ⊥) → Agrees (type_at types n) (node_meaning sheet n)
  agrees-below zero n h g t = absurd (omega arith)
  agrees-below (suc m) n h g t = go (λ i p. agrees-below m i (omega arith) (omega arith))
    where
      go : ((i : ℕ) → i < n → (type_at types i ≡ Unused → ⊥) → Agrees (type_at types i) (node_meaning sheet i)) → Agrees (type_at types n) (node_meaning sheet n)
      go ih =
          subst (Agrees (type_at types n)) (sym (meaning-of sheet n))
          (agree-node (type_at types) (meanings sheet.nodes n) n means (node_of sheet n) (node-parts n g t) (type_at types n) (typed-fits sound n g t))
        where
          means : (i : ℕ) → PolicyBefore (type_at types) n i → policy_type (policy_at (meanings sheet.nodes n) i) ≡ typing_of (type_at types i)
          means i p =
              rw (meaning-stays sheet n i p.before) (agrees-typed (type_at types i) (node_meaning sheet i) (ih i p.before (typed-policy p.is)) p.is)

  module _ (n : ℕ) (below : n < sheet.count) where
    -- a node that is typed as a formula means one, and one that is typed as a policy a policy of that type
    pub agrees : (type_at types n ≡ Unused → ⊥) → Agrees (type_at types n) (node_meaning sheet n)
    agrees t = agrees-below (suc n) n (lt-suc_self n) below t

    pub policy-of : {m : Mode} {k : Bound} → type_at types n ≡ Policy m k → policy_type (node_policy sheet n) ≡ Typed m k
    policy-of e = agrees-typed (type_at types n) (node_meaning sheet n) (agrees (typed-policy e)) e ∙ ap typing_of e
