-- What a sheet gives is given by another with the same used nodes and one action list, with its own numbers of nodes.
-- Assumes nothing.
use mathlib.Core.Path.{◌≡◌, sym, subst, ◌∙◌}
use mathlib.Core.List.{List, []}
use Prim.Native.Nat.{ℕ, ◌-◌, ◌<◌}
use Rattle.trace.specs.declared.Mode.{Mode}
use Rattle.trace.specs.Limits.{ManyValues, ManyRows}
use Rattle.limits.specs.declared.Limits.{Limits}
use Rattle.automaton.specs.Minimal.{RowsOf}
use Rattle.policy.specs.Value.{remembered}
use Rattle.table.specs.Answer.{Answer, accepted, refused, mode_number}
use Rattle.making.specs.Making.{table_bytes}
use Rattle.syntax.specs.Formed.{Formed}
use Rattle.syntax.specs.Nodes.{propositions_of}
use Rattle.syntax.specs.Types.{type_at}
use Rattle.syntax.specs.declared.Sheet.{Sheet}
use Rattle.syntax.specs.declared.NodeType.{NodeType}
use Rattle.reached.specs.Reached.{itself}
use Rattle.reached.specs.Parts.{Used}
use Rattle.reached.proofs.NodeSets.{used-below}
use Rattle.renumbering.specs.SameUsed.{SameUsed}
use Rattle.renumbering.proofs.Numbering.{last-to-last}
use Rattle.node_rules.specs.Nodes.{Tables, trips_node}
use Rattle.compiler.specs.Limits.{OverValues, OverRows, Built}
use Rattle.compiler.specs.Compiles.{PolicyNode, BuiltBefore, StopsAt, values, rows, Builds, stops, builds}
use Rattle.compiler_laws.specs.SpareNodes.{SameButSpot, same-table, same_number}
use Rattle.compiler_laws.proofs.NodesAlong.{trips-along, along, rule-along}

-- What is given of a sheet, by the numbers of another: the same but for the spot.
pub record GivenAlong {sheet other : Sheet} (same : SameUsed sheet other) (Gives : Answer → List ℕ → Type 0) (answer' : Answer) (written' : List ℕ)
    : Type 0 where
  pub answer : Answer
  pub written : List ℕ
  pub gives : Gives answer written
  pub alike : SameButSpot same.to answer written answer' written'

module _ {sheet other : Sheet} (formed : Formed sheet) (formed' : Formed other) (same : SameUsed sheet other)
    (actions : sheet.actions ≡ other.actions) (list : propositions_of sheet ≡ propositions_of other) where
  -- 8, 9 and the rows of a used node are the same in both sheets
  module _ (n : ℕ) (u : Used sheet n) where
    abbrev trips : trips_node sheet n ≡ trips_node other (same.to n)
    trips = trips-along formed formed' same actions list n u

    values-along : (tables : Tables) (limit : ℕ)
        → ◌≡◌ {A = Type 0} (OverValues sheet (along same tables) n limit) (OverValues other tables (same.to n) limit)
    values-along tables limit =
        λ i. ManyValues (actions i) (trips i) (remembered (rule-along formed formed' same actions list tables n u i)) limit

    rows-along : (limit : ℕ) → ◌≡◌ {A = Type 0} (OverRows sheet n limit) (OverRows other (same.to n) limit)
    rows-along limit = λ i. ManyRows (actions i) (trips i) limit

    fits_along : (count : ℕ) (entries : List ℕ)
        → ◌≡◌ {A = Type 0} (RowsOf sheet.actions (trips_node sheet n) count entries)
        (RowsOf other.actions (trips_node other (same.to n)) count entries)
    fits_along count entries = λ i. RowsOf (actions i) (trips i) count entries

  module _ (limits : Limits) (tables : Tables) where
    built-along : (n : ℕ) → Used sheet n → Built other tables limits (same.to n) → Built sheet (along same tables) limits n
    built-along n u b = record {
      few-values = λ over. b.few-values (subst (λ X. X) (values-along n u tables limits.values) over);
      rows = b.rows;
      few-rows = b.few-rows;
      fits = subst (λ X. X) (sym (fits_along n u b.rows (tables (same.to n)))) b.fits;
    }

    stops-along : (n : ℕ) → Used sheet n → {number : ℕ} → StopsAt other tables limits (same.to n) number
        → StopsAt sheet (along same tables) limits n number
    stops-along n u (values over) = values (subst (λ X. X) (sym (values-along n u tables limits.values)) over)
    stops-along n u (rows few over) =
        rows (λ h. few (subst (λ X. X) (values-along n u tables limits.values) h)) (subst (λ X. X) (sym (rows-along n u limits.rows)) over)

  -- types that agree along the numbers
  module _ (types types' : List NodeType) (agree : (n : ℕ) → Used sheet n → type_at types n ≡ type_at types' (same.to n))
      (limits : Limits) where
    policy-there : {n : ℕ} → PolicyNode sheet types n → PolicyNode other types' (same.to n)
    policy-there {n} p = record { used = same.used n p.used; mode = p.mode; bound = p.bound; is = sym (agree n p.used) ∙ p.is }

    policy-here : {n : ℕ} → Used sheet n → PolicyNode other types' (same.to n) → PolicyNode sheet types n
    policy-here {n} u p = record { used = u; mode = p.mode; bound = p.bound; is = agree n u ∙ p.is }

    before-along : (tables : Tables) (n m : ℕ) → ((i : ℕ) → i < n → Used sheet i → same.to i < m)
        → BuiltBefore other types' tables limits m → BuiltBefore sheet types (along same tables) limits n
    before-along tables n m below built i h p =
        built-along limits tables i p.used (built (same.to i) (below i h p.used) (policy-there p))

    -- What building the other sheet gives is given by building the first.
    pub builds-along : {mode : Mode} {answer' : Answer} {written' : List ℕ} → Builds mode other types' limits answer' written'
        → GivenAlong same (Builds mode sheet types limits) answer' written'
    unfolding built-along
    builds-along {mode} (stops tables m number h built p over) = stop (same.onto m p.used)
      where
        stop : (n : ℕ) × Used sheet n × (same.to n ≡ m) → GivenAlong same (Builds mode sheet types limits) (refused number m) []
        stop at = subst (λ (k : ℕ). GivenAlong same (Builds mode sheet types limits) (refused number k) []) at.2 (record {
          answer = refused number at.0;
          written = [];
          gives = stops (along same tables) at.0 number (used-below sheet formed at.1)
              (before-along tables at.0 m (λ i l v. subst (λ (k : ℕ). same.to i < k) at.2 (same.order i at.0 v at.1 l)) built)
              (policy-here at.1 (subst (PolicyNode other types') (sym at.2) p))
              (stops-along limits tables at.0 at.1
              (subst (λ (k : ℕ). StopsAt other tables limits k number) (sym at.2) over));
          alike = same_number number at.0;
        })
    builds-along {mode} (builds tables built last) =
        subst (Table (other.count - 1)) actions (subst (λ (m : ℕ). Table m sheet.actions) (last-to-last formed formed' same) table) last
      where
        -- the table of node m, of so many actions
        Table : ℕ → ℕ → Type 0
        Table m count = (b : Built other tables limits m)
            → GivenAlong same (Builds mode sheet types limits) (accepted (mode_number mode) count b.rows)
            (table_bytes (mode_number mode) count b.rows (tables m))

        table : Table (same.to (sheet.count - 1)) sheet.actions
        table b =
            let bytes = table_bytes (mode_number mode) sheet.actions b.rows (tables (same.to (sheet.count - 1))) in
            record {
              answer = accepted (mode_number mode) sheet.actions b.rows;
              written = bytes;
              gives = builds (along same tables)
                  (before-along tables sheet.count other.count (λ i h u. used-below other formed' (same.used i u)) built)
                  (built-along limits tables (sheet.count - 1) itself b);
              alike = same-table (mode_number mode) sheet.actions b.rows bytes;
            }
