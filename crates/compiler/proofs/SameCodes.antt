-- A node's machine of remembered values, held as numbers: read from its start it goes through the numbers of what the node remembers.
-- Assumes nothing.
use mathlib.Core.Path.{◌≡◌, refl, sym, ◌∙◌, ap}
use mathlib.Core.Bool.{Bool, cond}
use mathlib.Core.List.{List, [], ◌∷◌}
use Prim.Native.Nat.{ℕ, ◌<◌}
use Rattle.trace.specs.Trace.{Sequence, Move, trip, go, Step, after, run}
use Rattle.policy.specs.Rule.{Rule, opening-r, ignoring-r, on_parts}
use Rattle.policy.specs.Value.{Part, Opening, fresh, spent, start, step_of, step_opening}
use Rattle.rules.specs.Steps.{encode_move}
use Rattle.node_rules.specs.Lowering.{SameRule, opens, filters, equal}

-- two machines that move alike under every action of the list read alike
pub run_agree : {X : Type 0} (actions : ℕ) (f g : Step X) → ((v : X) (a : ℕ) → a < actions → f v a ≡ g v a)
    → (w : List ℕ) → Sequence actions w → (m : Move X) → run f m w ≡ run g m w
run_agree actions f g e [] p m = refl
run_agree actions f g e (a ∷ w) p m = run_agree actions f g e w p.1 (after m (λ v. f v a)) ∙ ap (λ x. run g x w) (moved m)
  where
    moved : (n : Move _) → after n (λ v. f v a) ≡ after n (λ v. g v a)
    moved trip = refl
    moved (go v) = e v a p.0

opening-agree : (h g : ℕ → Bool) (v : Opening) (a : ℕ) → h a ≡ g a → step_opening h v a ≡ step_opening g v a
opening-agree h g fresh a e = ap (λ (b : Bool). cond b trip (go spent)) e
opening-agree h g spent a e = refl

-- rules that say the same of the actions go through the same numbers
pub same_codes : (actions : ℕ) (f : ℕ → Part) (r s : Rule ℕ) → SameRule actions r s → (w : List ℕ) → Sequence actions w
    → encode_move (on_parts f s) (run (step_of (on_parts f s)) (go (start (on_parts f s))) w)
    ≡ encode_move (on_parts f r) (run (step_of (on_parts f r)) (go (start (on_parts f r))) w)
same_codes actions f r s (opens h g e) w p =
    ap (encode_move (opening-r g)) (run_agree actions (step_of (opening-r g)) (step_of (opening-r h)) (λ v a l. opening-agree g h v a (sym (e a l))) w p (go fresh)) ∙ recode (run (step_of (opening-r h)) (go fresh) w)
  where
    recode : (m : Move Opening) → encode_move (opening-r g) m ≡ encode_move (opening-r h) m
    recode trip = refl
    recode (go v) = refl
same_codes actions f r s (filters h g e q) w p =
    ap (encode_move (ignoring-r g (f q))) (run_agree actions (step_of (ignoring-r g (f q))) (step_of (ignoring-r h (f q))) (λ v a l. ap (λ (b : Bool). cond b (go v) (f q v a)) (sym (e a l))) w p (go 0)) ∙ recode (run (step_of (ignoring-r h (f q))) (go 0) w)
  where
    recode : (m : Move ℕ) → encode_move (ignoring-r g (f q)) m ≡ encode_move (ignoring-r h (f q)) m
    recode trip = refl
    recode (go v) = refl
same_codes actions f r s (equal x) w p = refl
