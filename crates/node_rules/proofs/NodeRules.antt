-- What the used policy nodes of a sound sheet are lowered to: each to its own rule, which is the policy's over its parts.
-- Assumes nothing.
use mathlib.Core.Path.{◌≡◌, refl, sym, ap, ◌∙◌}
use mathlib.Core.Bool.{Bool, true, false, not}
use mathlib.Core.List.{List}
use Prim.Native.Nat.{ℕ, ◌≤◌, ◌<◌}
use native.Mathlib.Omega.{arith}
use lib.ListN.{get_or}
use Rattle.std.specs.Prelude.{Option, Some, None, Err, Ok}
use Rattle.base.specs.Sets.{bit, others_below}
use Rattle.base.proofs.Filled.{filled_at}
use Rattle.base.proofs.Sets.{in-set, set-others}
use Rattle.trace.specs.declared.Mode.{Mode}
use Rattle.trace.specs.declared.Mode.TheVariants.{Watched, Enforced}
use Rattle.policy.specs.declared.Bound.{Bound}
use Rattle.policy.specs.Formula.{always-false}
use Rattle.policy.specs.Parts.{AllParts}
use Rattle.policy.specs.Policy.{Policy as APolicy}
use Rattle.policy.specs.Rule.{Rule, opening-r, on_parts, on_watched, rule_of}
use Rattle.policy.specs.Typing.{typed as Typed, Typing, policy_type, alike_typed}
use Rattle.policy.proofs.Typings.{same-type}
use Rattle.syntax.specs.Nodes.{node_of, propositions_of}
use Rattle.syntax.specs.Formed.{ArgumentFits}
use Rattle.syntax.specs.Types.{type_at, typing_of, bound_fits, found, type_node}
use Rattle.syntax.specs.Meaning.{Meaning, formula, policy, as_policy, meaning_of, meanings, node_policy}
use Rattle.typing.specs.Typed.{SoundSheet, Agrees}
use Rattle.syntax.specs.declared.Node.{Node}
use Rattle.syntax.specs.declared.Node.TheVariants.{True, False, Proposition, Negation, Conjunction, Disjunction, Now, Holds, Count, Not, And, Or, Eventually, Always, BeforeMinus, BeforePlus, AfterMinus, AfterPlus, Fulfilling, Ignoring}
use Rattle.syntax.specs.declared.NodeType.{NodeType}
use Rattle.syntax.specs.declared.NodeType.TheVariants.{Policy}
use Rattle.syntax.specs.declared.Sheet.{Sheet}
use Rattle.syntax.specs.declared.TypeError.TheVariants.{TooLong}
use Rattle.typing.proofs.Meanings.{node_meaning, meaning-of, meaning-stays, node-parts, agrees, policy-of}
use Rattle.typing.proofs.Sound.{typed-policy, typed-fits}
use Rattle.syntax.proofs.NodeTypes.{EachPart, FormulaBefore, PolicyBefore, unfit}
use Rattle.rules.specs.Codes.{CountInRange}
use Rattle.rules.specs.Rules.{rule_over, rule_at}
use Rattle.rules.specs.declared.NodeRule.{NodeRule}
use Rattle.rules.specs.declared.NodeRule.TheVariants as coded
use Rattle.node_rules.specs.Nodes.{satisfied_by, rule_by, node_rule}
use Rattle.node_rules.specs.FormulaSets.{satisfying, sets_of}
use Rattle.node_rules.specs.Lowering.{SameRule, opens, filters, equal, by_mode, lowered, of_policy, set_at}
use Rattle.node_rules.specs.SheetRules.{sheet_rules}
use Rattle.node_rules.proofs.FormulaSets.{satisfying-bit, set-listed}

-- what node n is lowered to goes by its type
module _ (sheet : Sheet) (types : List NodeType) (few : sheet.count ≤ 64) (n : ℕ) (below : n < sheet.count) where
  pub rule-typed : {t : NodeType} → type_at types n ≡ t
      → rule_at (sheet_rules sheet types) n ≡ of_policy t (λ m. lowered m sheet.actions (set_at (sets_of sheet types)) (node_of sheet n))
  rule-typed e =
      filled_at 64 None
      (λ i rules. of_policy (type_at types i) (λ m. lowered m sheet.actions (set_at (sets_of sheet types)) (node_of sheet i))) sheet.count n below few
      ∙ ap (λ (t : NodeType). of_policy t (λ m. lowered m sheet.actions (set_at (sets_of sheet types)) (node_of sheet n))) e

-- And and Or have the mode of their parts
found-mode : (t : Typing) {m : Mode} {k : Bound} → found t ≡ Ok (Policy m k) → (j : Bound) × (t ≡ Typed m j)
found-mode (Typed l j) {m} {k} e = by (bound_fits j) refl
  where
    by : (b : Bool) → bound_fits j ≡ b → (i : Bound) × (Typed l j ≡ Typed m i)
    by true p = let d : Ok (Policy l j) ≡ Ok (Policy m k) = rw p at e in (k, cc)
    by false p = absurd (let d : Err TooLong ≡ Ok (Policy m k) = rw p at e in let z : ◌≡◌ {A = ℕ} 0 1 = cc in omega arith)
found-mode None e = unfit e

alike-mode : (l r m : Mode) (i j k : Bound) → alike_typed (Typed l i) (Typed r j) ≡ Typed m k → l ≡ m
alike-mode Watched Watched m i j k e = (same-type e).0
alike-mode Watched Enforced m i j k e = absurd (let z : ◌≡◌ {A = ℕ} 0 1 = cc in omega arith)
alike-mode Enforced Watched m i j k e = absurd (let z : ◌≡◌ {A = ℕ} 0 1 = cc in omega arith)
alike-mode Enforced Enforced m i j k e = (same-type e).0

module _ (sheet : Sheet) (Q : ℕ → Type 0) where
  -- A rule over node numbers is that of a policy over its parts, and the code has one that says the same. Q holds of its parts, and its count
  -- is in range.
  pub record RightRule (rule : Rule ℕ) (means : Rule APolicy) (to : Option NodeRule) : Type 0 where
    pub code : NodeRule
    pub is : to ≡ Some code
    pub over : on_parts (node_policy sheet) rule ≡ means
    pub same : SameRule sheet.actions rule (rule_over code)
    pub parts : AllParts Q (rule_over code)
    pub count : CountInRange (rule_over code)

  -- what a node of this meaning is lowered to
  abbrev LoweredFor : Meaning → Rule ℕ → Option NodeRule → Type 0
  LoweredFor (formula f) rule to = to ≡ None
  LoweredFor (policy p) rule to = RightRule rule (rule_of (propositions_of sheet) p) to

  policy-for : (x : Meaning) (rule : Rule ℕ) (to : Option NodeRule) (m : Mode) (k : Bound) → Agrees (Policy m k) x → LoweredFor x rule to
      → RightRule rule (rule_of (propositions_of sheet) (as_policy x)) to
  policy-for (formula f) rule to m k a r = absurd a
  policy-for (policy p) rule to m k a r = r

  -- the code's rule is the rule itself, over the policies of the nodes
  abbrev Plain : NodeRule → Type 0
  Plain code = RightRule (rule_over code) (on_parts (node_policy sheet) (rule_over code)) (Some code)

  plain : (code : NodeRule) → AllParts Q (rule_over code) → CountInRange (rule_over code) → Plain code
  plain code parts count = record { code = code; is = refl; over = refl; same = equal (rule_over code); parts = parts; count = count }

  -- And and Or go by the mode of their parts
  by-mode : (m : Mode) (k : Bound) (r s : NodeRule) → Plain r → Plain s
      → RightRule (on_watched (Typed m k) (rule_over r) (rule_over s)) (on_watched (Typed m k) (on_parts (node_policy sheet) (rule_over r)) (on_parts (node_policy sheet) (rule_over s)))
      (Some (by_mode m r s))
  by-mode Watched k r s p q = p
  by-mode Enforced k r s p q = q

  opened : (hit : ℕ → Bool) (s : ℕ) → ((x : ℕ) → x < sheet.actions → bit s x ≡ hit x) → RightRule (opening-r hit) (opening-r hit) (Some (coded.Opening s))
  opened hit s r = record { code = coded.Opening s; is = refl; over = refl; same = opens _ _ (λ x h. sym (r x h)); parts = tt; count = tt }

  module _ {mode : Mode} (types : List NodeType) (sound : SoundSheet mode sheet types) (n : ℕ) (below : n < sheet.count)
      (part : (i : ℕ) → PolicyBefore (type_at types) n i → Q i) where
    abbrev before : List Meaning
    before = meanings sheet.nodes n

    abbrev set : ℕ → ℕ
    set i = set_at (sets_of sheet types) i

    means : (i : ℕ) → i < n → get_or before i (formula always-false) ≡ node_meaning sheet i
    means i h = meaning-stays sheet n i h

    -- the set of a formula part says which actions satisfy it
    right : (i : ℕ) → FormulaBefore (type_at types) n i → set i ≡ satisfying sheet i
    right i p = set-listed sheet types sheet.count i (omega (arith, p.before)) sound.formed.few-nodes p.is

    hits : (i : ℕ) → FormulaBefore (type_at types) n i → (x : ℕ) → x < sheet.actions → bit (set i) x ≡ satisfied_by sheet i x
    hits i p x h = ap (λ (s : ℕ). bit s x) (right i p) ∙ satisfying-bit sheet i x h

    misses : (i : ℕ) → FormulaBefore (type_at types) n i → (x : ℕ) → x < sheet.actions → bit (others_below sheet.actions (set i)) x ≡ not (satisfied_by sheet i x)
    misses i p x h =
        ap (λ (s : ℕ). bit s x) (ap (others_below sheet.actions) (right i p) ∙ set-others (satisfied_by sheet i) sheet.actions sound.formed.few-actions)
        ∙ in-set (λ y. not (satisfied_by sheet i y)) sheet.actions x h

    typed : (i : ℕ) (p : PolicyBefore (type_at types) n i) → policy_type (node_policy sheet i) ≡ Typed p.mode p.bound
    typed i p = policy-of sheet types sound i (omega (arith, p.before)) p.is

    -- And and Or of mode m: so is their first part
    part-mode : (m : Mode) (k : Bound) (a b : ℕ) (p : PolicyBefore (type_at types) n a) (q : PolicyBefore (type_at types) n b)
        → found (alike_typed (typing_of (type_at types a)) (typing_of (type_at types b))) ≡ Ok (Policy m k) → p.mode ≡ m
    part-mode m k a b p q e =
        let t = found-mode (alike_typed (Typed p.mode p.bound) (Typed q.mode q.bound)) (rw (p.is, q.is) at e) in
        alike-mode p.mode q.mode m p.bound q.bound t.0 t.1

    lowered-right : (m : Mode) (k : Bound) (node : Node) → EachPart (FormulaBefore (type_at types) n) (PolicyBefore (type_at types) n) node → ArgumentFits node
        → type_node node (type_at types) ≡ Ok (Policy m k) → LoweredFor (meaning_of before node) (rule_by sheet node) (lowered m sheet.actions set node)
    lowered-right m k True h g e = refl
    lowered-right m k False h g e = refl
    lowered-right m k (Proposition p) h g e = refl
    lowered-right m k (Negation a) h g e = refl
    lowered-right m k (Conjunction a b) h g e = refl
    lowered-right m k (Disjunction a b) h g e = refl
    lowered-right m k (Now a) h g e = rw (means a h.before) (opened (satisfied_by sheet a) (set a) (hits a h))
    lowered-right m k (Holds a) h g e =
        rw (means a h.before) (opened (λ x. not (satisfied_by sheet a x)) (others_below sheet.actions (set a)) (misses a h))
    lowered-right m l (Count k) h g e = plain (coded.Count k) tt g
    lowered-right m k (Not a) h g e = rw (means a h.before) (plain (coded.Same a) (part a h) tt)
    lowered-right m k (And a b) h g e =
        let q : Q a × Q b = (part a h.0, part b h.1) in
        rw (means a h.0.before, means b h.1.before, typed a h.0, ← part-mode m k a b h.0 h.1 e)
        (by-mode h.0.mode h.0.bound (coded.Both a b) (coded.Either a b) (plain (coded.Both a b) q tt) (plain (coded.Either a b) q tt))
    lowered-right m k (Or a b) h g e =
        let q : Q a × Q b = (part a h.0, part b h.1) in
        rw (means a h.0.before, means b h.1.before, typed a h.0, ← part-mode m k a b h.0 h.1 e)
        (by-mode h.0.mode h.0.bound (coded.Either a b) (coded.Both a b) (plain (coded.Either a b) q tt) (plain (coded.Both a b) q tt))
    lowered-right m k (Eventually a) h g e = rw (means a h.before) (plain (coded.Copied a) (part a h) tt)
    lowered-right m k (Always a) h g e = rw (means a h.before) (plain (coded.Copied a) (part a h) tt)
    lowered-right m k (BeforeMinus a b) h g e = rw (means a h.0.before, means b h.1.before) (plain (coded.Before a b) (part a h.0, part b h.1) tt)
    lowered-right m k (BeforePlus a b) h g e = rw (means a h.0.before, means b h.1.before) (plain (coded.Before a b) (part a h.0, part b h.1) tt)
    lowered-right m k (AfterMinus a b) h g e = rw (means a h.0.before, means b h.1.before) (plain (coded.After a b) (part a h.0, part b h.1) tt)
    lowered-right m k (AfterPlus a b) h g e = rw (means a h.0.before, means b h.1.before) (plain (coded.After a b) (part a h.0, part b h.1) tt)
    lowered-right m l (Fulfilling k a b c) h g e =
        rw (means a h.0.before, means b h.1.before, means c h.2.before) (plain (coded.Fulfilling k a b c) (part a h.0, part b h.1, part c h.2) g)
    lowered-right m k (Ignoring a b) h g e =
        rw (means a h.0.before, means b h.1.before)
        (record { code = coded.Ignoring (set a) b; is = refl; over = refl; same = filters _ _ (λ x l. sym (hits a h.0 x l)) b; parts = part b h.1; count = tt })

    node-right : {m : Mode} {k : Bound} → type_at types n ≡ Policy m k → LoweredFor (node_meaning sheet n) (node_rule sheet n) (rule_at (sheet_rules sheet types) n)
    node-right e =
        rw (meaning-of sheet n, rule-typed sheet types sound.formed.few-nodes n below e)
        (lowered-right _ _ (node_of sheet n) (node-parts sheet types sound n below (typed-policy e)) (sound.formed.arguments n below)
        (typed-fits sound n below (typed-policy e) ∙ ap Ok e))

    pub policy-right : {m : Mode} {k : Bound} → type_at types n ≡ Policy m k
        → RightRule (node_rule sheet n) (rule_of (propositions_of sheet) (node_policy sheet n)) (rule_at (sheet_rules sheet types) n)
    policy-right {m} {k} e = policy-for (node_meaning sheet n) (node_rule sheet n) (rule_at (sheet_rules sheet types) n) m k (rw e at (agrees sheet types sound n below (typed-policy e))) (node-right e)
