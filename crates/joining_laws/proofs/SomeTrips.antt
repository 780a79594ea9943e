-- 'At least one of the tables trips' in plain words: of a list, and of tables by their numbers.
-- Assumes nothing.
use mathlib.Core.Path.{◌≡◌, refl, sym, ◌∙◌, ap, subst}
use mathlib.Core.Bool.{Bool, true, false, ◌||◌}
use mathlib.Core.List.Memᴰ
use mathlib.Core.List.{List, [], ◌∷◌, ◌++◌}
use mathlib.Core.Logic.{◌↔◌, ◌⊎◌, inl, inr, ⊎_elim}
use Prim.Native.Nat.{ℕ, zero, suc, ◌<◌}
use native.Mathlib.Omega.{arith}
use Rattle.base.proofs.Truths.{or-true, either_true, or-false, neither-true}
use Rattle.trace.specs.Trace.{trips}
use Rattle.trace.proofs.Laws.{not-both}
use Rattle.table.specs.Table.{row_step}
use Rattle.joining.specs.Tables.{listed}
use Rattle.joining.specs.Meaning.{some_trips}
use Rattle.joining_laws.specs.Sets.{AmongTables}

-- Two truths that hold together are equal.
pub same_truth : (a b : Bool) → (a ≡ true → b ≡ true) → (b ≡ true → a ≡ true) → a ≡ b
same_truth true true f g = refl
same_truth true false f g = sym (f refl)
same_truth false true f g = g refl
same_truth false false f g = refl

-- One of a truth and nothing more.
pub or-none : (a : Bool) → (a || false) ≡ a
or-none true = refl
or-none false = refl

module _ (w : List ℕ) where
  -- A table of a list that trips.
  pub record Tripping (tables : List (List ℕ)) : Type 0 where
    pub table : List ℕ
    pub member : AmongTables table tables
    pub trips-it : trips (row_step table) 0 w ≡ true

  -- Where a table of a list trips, at least one of the list does.
  pub member-trips : {table : List ℕ} {tables : List (List ℕ)} → AmongTables table tables → trips (row_step table) 0 w ≡ true → some_trips tables w ≡ true
  member-trips (Memᴰ.head {x = x} {xs} e) t =
      either_true (trips (row_step x) 0 w) (some_trips xs w) (inl (subst (λ (l : List ℕ). trips (row_step l) 0 w ≡ true) e t))
  member-trips (Memᴰ.tail {x = x} {xs} m) t = either_true (trips (row_step x) 0 w) (some_trips xs w) (inr (member-trips m t))

  some-member : (tables : List (List ℕ)) → some_trips tables w ≡ true → Tripping tables
  some-member [] e = not-both (sym e)
  some-member (table ∷ tables) e =
      ⊎_elim (λ t. record { table = table; member = Memᴰ.head refl; trips-it = t })
      (λ t. let s = some-member tables t in record { table = s.table; member = Memᴰ.tail s.member; trips-it = s.trips-it })
      (or-true (trips (row_step table) 0 w) (some_trips tables w) e)

  -- At least one of a list trips exactly when there is one.
  pub some-trips-member : (tables : List (List ℕ)) → (some_trips tables w ≡ true) ↔ Tripping tables
  some-trips-member tables = (some-member tables, λ s. member-trips s.member s.trips-it)

  -- two lists read one behind the other
  pub some-append : (tables others : List (List ℕ)) → some_trips (tables ++ others) w ≡ (some_trips tables w || some_trips others w)
  some-append [] others = refl
  some-append (table ∷ tables) others =
      ap (λ (b : Bool). trips (row_step table) 0 w || b) (some-append tables others) ∙ assoc (trips (row_step table) 0 w) (some_trips tables w) (some_trips others w)
    where
      assoc : (a b c : Bool) → (a || (b || c)) ≡ ((a || b) || c)
      assoc true b c = refl
      assoc false b c = refl

  found : (n : ℕ) (f : ℕ → List ℕ) → some_trips (listed n f) w ≡ true → (i : ℕ) × (i < n) × (trips (row_step (f i)) 0 w ≡ true)
  found zero f e = not-both (sym e)
  found (suc n) f e =
      ⊎_elim (λ t. (0, omega arith, t)) (λ t. let s = found n (λ i. f (suc i)) t in (suc s.0, omega (arith, s.1), s.2))
      (or-true (trips (row_step (f 0)) 0 w) (some_trips (listed n (λ i. f (suc i))) w) e)

  one-trips : (n : ℕ) (f : ℕ → List ℕ) (i : ℕ) → i < n → trips (row_step (f i)) 0 w ≡ true → some_trips (listed n f) w ≡ true
  one-trips zero f i h t = absurd (let z = h in omega arith)
  one-trips (suc n) f zero h t = either_true (trips (row_step (f 0)) 0 w) (some_trips (listed n (λ i. f (suc i))) w) (inl t)
  one-trips (suc n) f (suc i) h t =
      either_true (trips (row_step (f 0)) 0 w) (some_trips (listed n (λ i. f (suc i))) w) (inr (one-trips n (λ i. f (suc i)) i (omega arith) t))

  -- At least one of n tables trips exactly when there is a number below n whose table trips.
  pub some-trips-exactly : (n : ℕ) (f : ℕ → List ℕ) → (some_trips (listed n f) w ≡ true) ↔ ((i : ℕ) × (i < n) × (trips (row_step (f i)) 0 w ≡ true))
  some-trips-exactly n f = (found n f, λ s. one-trips n f s.0 s.1 s.2)

  each-not : (n : ℕ) (f : ℕ → List ℕ) → some_trips (listed n f) w ≡ false → (i : ℕ) → i < n → trips (row_step (f i)) 0 w ≡ false
  each-not zero f e i h = absurd (let z = h in omega arith)
  each-not (suc n) f e zero h = (or-false (trips (row_step (f 0)) 0 w) (some_trips (listed n (λ i. f (suc i))) w) e).0
  each-not (suc n) f e (suc i) h = each-not n (λ i. f (suc i)) (or-false (trips (row_step (f 0)) 0 w) (some_trips (listed n (λ i. f (suc i))) w) e).1 i (omega arith)

  none-trips : (n : ℕ) (f : ℕ → List ℕ) → ((i : ℕ) → i < n → trips (row_step (f i)) 0 w ≡ false) → some_trips (listed n f) w ≡ false
  none-trips zero f e = refl
  none-trips (suc n) f e =
      neither-true (e 0 (omega arith)) (none-trips n (λ i. f (suc i)) (λ i h. e (suc i) (omega arith)))

  -- None of n tables trips exactly when the table of every number below n does not.
  pub none-trips-exactly : (n : ℕ) (f : ℕ → List ℕ) → (some_trips (listed n f) w ≡ false) ↔ ((i : ℕ) → i < n → trips (row_step (f i)) 0 w ≡ false)
  none-trips-exactly n f = (each-not n f, none-trips n f)

-- The table of each number below n is one of the list.
pub listed-member : (n : ℕ) (f : ℕ → List ℕ) (i : ℕ) → i < n → AmongTables (f i) (listed n f)
listed-member zero f i h = absurd (let z = h in omega arith)
listed-member (suc n) f zero h = Memᴰ.head refl
listed-member (suc n) f (suc i) h = Memᴰ.tail (listed-member n (λ i. f (suc i)) i (omega arith))

-- Each of the list is the table of a number below n.
pub member-listed : (n : ℕ) (f : ℕ → List ℕ) {table : List ℕ} → AmongTables table (listed n f) → (i : ℕ) × (i < n) × (table ≡ f i)
member-listed zero f m = absurd (Memᴰ.not-nil m)
member-listed (suc n) f {table} m = by (λ r. member-listed n (λ i. f (suc i)) r) (Memᴰ.cases_cons m)
  where
    by : (AmongTables table (listed n (λ i. f (suc i))) → (i : ℕ) × (i < n) × (table ≡ f (suc i))) → (table ≡ f 0) ⊎ AmongTables table (listed n (λ i. f (suc i)))
        → (i : ℕ) × (i < suc n) × (table ≡ f i)
    by more (inl e) = (0, omega arith, e)
    by more (inr r) = let s = more r in (suc s.0, omega (arith, s.1), s.2)
