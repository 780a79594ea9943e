-- Typing the nodes of a sheet part by part: a run of nodes fits, and the last one has its type.
-- Assumes nothing.
use Rattle.std.proofs.Common.{Ok}
use mathlib.Core.Path.{◌≡◌, ap, sym, subst, ◌∙◌}
use mathlib.Core.Bool.{true}
use mathlib.Core.List.{List, [], ◌∷◌, ◌++◌}
use Prim.Native.Nat.{ℕ, ◌+◌, ◌-◌, ◌≤◌, ◌<◌}
use native.Mathlib.Numerals.{add-one}
use native.Mathlib.Omega.{arith}
use lib.ListN.{length, set, length-append, length-set}
use lib.Seq.{get_or-set_same, get_or-set_other}
use Rattle.base.specs.Sets.{bit}
use Rattle.syntax.specs.Nodes.{node_of}
use Rattle.syntax.specs.Types.{type_at, type_node}
use Rattle.typing.specs.Typed.{typed, type_nodes}
use Rattle.syntax.specs.declared.Node.{Node}
use Rattle.syntax.specs.declared.NodeType.{NodeType}
use Rattle.syntax.specs.declared.NodeType.TheVariants.{Unused}
use Rattle.syntax.specs.declared.Sheet.{Sheet}
use Rattle.reached.specs.Parts.{used_set}
use Rattle.typing.proofs.Typings.{type-more}
use Rattle.parsed_sheets.proofs.Bounds.{Found}

-- No node of the sheet is spare: each is in the set of the used ones. There are at most 64.
pub record NoSpare (sheet : Sheet) : Type 0 where
  pub few : sheet.count ≤ 64
  pub in_use : (n : ℕ) → n < sheet.count → bit (used_set sheet) n ≡ true

module _ (sheet : Sheet) where
  -- The first n nodes have these types.
  pub record Typed (n : ℕ) (types : List NodeType) : Type 0 where
    pub all : type_nodes (used_set sheet) sheet.nodes n ≡ typed types
    pub sized : length types ≡ 64

  -- Nodes l from n on fit behind nodes of some types: the types before stay, and Has holds of the last one's.
  pub record Fit (n : ℕ) (l : List Node) (Has : NodeType → Type 0) (types : List NodeType) : Type 0 where
    pub after : List NodeType
    pub typed : Typed (n + length l) after
    pub kept : (i : ℕ) → i < n → type_at after i ≡ type_at types i
    pub has : Has (type_at after (n + length l - 1))

  abbrev pub Runs : ℕ → List Node → (NodeType → Type 0) → Type 0
  Runs n l Has = (types : List NodeType) → Typed n types → Fit n l Has types

  -- one node that fits
  pub last : NoSpare sheet → (n : ℕ) (w : Node) {Has : NodeType → Type 0} {types : List NodeType} → n < sheet.count → node_of sheet n ≡ w
      → Typed n types → Found Has (type_node w (type_at types)) → Fit n (w ∷ []) Has types
  last all n w {Has = Has} {types = types} small is t f =
      record {
        after = after;
        typed =
            record {
              all =
                  rw (add-one n)
                  (type-more (used_set sheet) sheet.nodes n types t.all (all.in_use n small) (Ok f.type)
                  (sym (ap (λ (x : Node). type_node x (type_at types)) is ∙ f.fits)));
              sized = length-set types n f.type ∙ t.sized;
            };
        kept = λ i h. (get_or-set_other types n i f.type Unused (omega arith));
        has = let z : n + 1 - 1 ≡ n = omega arith in rw z (subst Has (sym newest) f.has);
      }
    where
      after : List NodeType
      after = set types n f.type

      newest : type_at after n ≡ f.type
      newest = (get_or-set_same types n f.type Unused (omega (arith, t.sized, all.few)))

  -- a part, and then the rest, typed behind it
  pub behind : (n : ℕ) (a rest : List Node) {HasPart Has : NodeType → Type 0} {types : List NodeType} → Fit n a HasPart types
      → ((f : Fit n a HasPart types) → Fit (n + length a) rest Has f.after) → Fit n (a ++ rest) Has types
  behind n a rest {HasPart} {Has} {types} f next = whole f (next f)
    where
      count : n + length a + length rest ≡ n + length (a ++ rest)
      count = omega (arith, length-append a rest)

      whole : (f : Fit n a HasPart types) → Fit (n + length a) rest Has f.after → Fit n (a ++ rest) Has types
      whole f g = record { after = g.after; typed = rw count at g.typed; kept = λ i h. g.kept i (omega arith) ∙ f.kept i h; has = rw count at g.has }
