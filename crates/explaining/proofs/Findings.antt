-- The rows of an enforced sheet's nodes, and what is found by them: a node reached through And alone trips exactly where it is violated, so the
-- first trip of the policy's rows is the first denied action, and the lowest node whose rows trip is the one that is named.
-- Assumes nothing.
use mathlib.Core.Path.{◌≡◌, refl, sym, ◌∙◌, ap, subst}
use mathlib.Core.Bool.{Bool, true, false, not}
use mathlib.Core.List.{List}
use Prim.Native.Nat.{ℕ, suc, ◌≤◌, ◌<◌}
use native.Mathlib.Decide.{dec_lt}
use native.Mathlib.Omega.{arith}
use lib.ListN.{length, take}
use lib.Seq.{take_all}
use Rattle.base.specs.Sets.{bit}
use Rattle.trace.specs.Trace.{Sequence, Step, trips}
use Rattle.trace.specs.declared.Mode.TheVariants.{Enforced}
use Rattle.policy.specs.declared.Bound.{Bound}
use Rattle.policy.proofs.Rules.{enforced-satisfied}
use Rattle.policy.proofs.Congruent.{sequence-take}
use Rattle.syntax.specs.Nodes.{propositions_of}
use Rattle.syntax.specs.Types.{type_at}
use Rattle.syntax.specs.Meaning.{node_policy}
use Rattle.reached.specs.Reached.{itself}
use Rattle.reached.specs.Parts.{ReachedByAnd, and_set}
use Rattle.syntax.specs.declared.NodeType.TheVariants.{Policy}
use Rattle.syntax.specs.declared.Sheet.{Sheet}
use Rattle.typing.proofs.Meanings.{policy-of}
use Rattle.reached.proofs.NodeSets.{reached-by-and, all-earlier}
use Rattle.rules.specs.Rules.{part_at, Readable}
use Rattle.compiler.specs.Compiles.{PolicyNode}
use Rattle.explaining.specs.Denials.{policy_node, satisfies_node, NoneDenied, FirstDenied, LowestViolated}
use Rattle.explaining.specs.Reading.{Walkable, TripsAt, Namable, LowestTrips, Standing}
use Rattle.explaining.proofs.Walks.{front-untripped}
use Rattle.explaining.proofs.ReachedNodes.{policy-inside, reached-inside, reached-used, reached-mode}

module _ {sheet : Sheet} {work : List ℕ} (s : Standing Enforced sheet work) where
  abbrev A : ℕ
  A = sheet.actions

  abbrev last : ℕ
  last = policy_node sheet

  -- a node reached through And alone
  module _ (n : ℕ) (reached : ReachedByAnd sheet last n) where
    below : n < sheet.count
    below = reached-inside s.right.formed (policy-inside s.right.formed) reached

    mode : (bound : Bound) × (type_at s.types n ≡ Policy Enforced bound)
    mode = reached-mode s.right reached

    policy : PolicyNode sheet s.types n
    policy = record { used = reached-used s.right reached; mode = Enforced; bound = mode.0; is = mode.1 }

    pub reached-readable : Readable work n
    reached-readable = (s.nodes.stand n below policy).readable

    -- its rows trip exactly where it is violated
    pub trips-exactly : (w : List ℕ) → Sequence A w → trips (part_at A work n) 0 w ≡ not (satisfies_node sheet n w)
    trips-exactly w q =
        ap (λ (f : Step ℕ). trips f 0 w) (s.nodes.stand n below policy).machine
        ∙ (s.nodes.built n below policy).fits.reads w q
        ∙ sym (doubled _)
        ∙ ap not (sym (enforced-satisfied (propositions_of sheet) (node_policy sheet n) mode.0 (policy-of sheet s.types s.right n below mode.1) w))
      where
        doubled : (b : Bool) → not (not b) ≡ b
        doubled true = refl
        doubled false = refl

    violated : (w : List ℕ) → Sequence A w → trips (part_at A work n) 0 w ≡ true → satisfies_node sheet n w ≡ false
    violated w q e = by (satisfies_node sheet n w) (sym (trips-exactly w q) ∙ e)
      where
        by : (b : Bool) → not b ≡ true → b ≡ false
        by true h = sym h
        by false h = refl

    satisfied : (w : List ℕ) → Sequence A w → trips (part_at A work n) 0 w ≡ false → satisfies_node sheet n w ≡ true
    satisfied w q e = by (satisfies_node sheet n w) (sym (trips-exactly w q) ∙ e)
      where
        by : (b : Bool) → not b ≡ false → b ≡ true
        by true h = refl
        by false h = sym h

  -- the set of the nodes reached through And alone
  abbrev set : ℕ
  set = and_set sheet.nodes last

  pub set-reached : (n : ℕ) → bit set n ≡ true → ReachedByAnd sheet last n
  set-reached n e = (reached-by-and sheet last (all-earlier sheet s.right.formed) n).0 e

  reached-set : (n : ℕ) → ReachedByAnd sheet last n → bit set n ≡ true
  reached-set n r = (reached-by-and sheet last (all-earlier sheet s.right.formed) n).1 r

  module _ (list : List ℕ) (q : Sequence A list) where
    front : (k : ℕ) → Sequence A (take k list)
    front k = sequence-take A k list q

    pub walkable : Walkable work last A list
    walkable = record { readable = reached-readable last itself; sequence = q }

    pub namable : Namable work set last A list
    namable =
        record {
          listed = omega (arith, s.right.formed.few-nodes, s.right.formed.some-node);
          readable = λ n h e. reached-readable n (set-reached n e);
          sequence = q;
        }

    -- before a place up to which nothing trips, all is permitted
    permitted : (place : ℕ) → trips (part_at A work last) 0 (take place list) ≡ false → (k : ℕ) → k ≤ place
        → satisfies_node sheet last (take k list) ≡ true
    permitted place e k h = satisfied last itself (take k list) (front k) (front-untripped _ list k place h e)

    pub none-denied-by : trips (part_at A work last) 0 list ≡ false → NoneDenied sheet list
    none-denied-by e = permitted (length list) (rw (take_all (length list) list (omega arith)) e)

    pub first-denied-by : {place : ℕ} → TripsAt (part_at A work last) list place → FirstDenied sheet list place
    first-denied-by {place} t =
        record {
          inside = t.inside;
          permitted = permitted place t.before;
          denied = violated last itself (take (suc place) list) (front (suc place)) t.at;
        }

    -- the lowest node whose rows the list trips, where it violates the policy
    module _ (denied : satisfies_node sheet last list ≡ false) {node : ℕ} (l : LowestTrips work set last A list node) where
      chosen : Dec (node < last) → ReachedByAnd sheet last node × (satisfies_node sheet node list ≡ false)
      chosen (yes h) = let c = l.chosen h in let r = set-reached node c.0 in (r, violated node r list q c.1)
      chosen (no h) =
          let e : last ≡ node = omega (arith, l.within) in
          subst (λ (n : ℕ). ReachedByAnd sheet last n × (satisfies_node sheet n list ≡ false)) e (itself, denied)

      pub lowest-violated : LowestViolated sheet list node
      lowest-violated =
          let c = chosen (dec_lt node last) in
          record { reached = c.0; violated = c.1; lowest = λ m h r. satisfied m r list q (l.passed m h (reached-set m r)) }
