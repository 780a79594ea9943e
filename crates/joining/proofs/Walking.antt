-- A walk from table to table: what is known of those behind, and what one more adds.
-- Assumes nothing.
use mathlib.Core.Path.{◌≡◌, refl, sym, ◌∙◌, ap, subst}
use mathlib.Core.List.{List, []}
use Rattle.std.proofs.Common.{Err}
use Prim.Native.Nat.{ℕ, suc, ◌+◌, ◌*◌, ◌≤◌, ◌<◌}
use native.Mathlib.Nat.{mul-le-mul}
use native.Mathlib.Decide.{ℕ_discrete}
use native.Mathlib.Omega.{arith}
use lib.ListN.{length, drop, length-take, length-drop, drop_of_length-le}
use lib.Seq.{drop-drop}
use Rattle.limits.specs.declared.Limits.{Limits}
use Rattle.table.specs.Table.{type_of, actions_of, rows_of, table_length, front_table, Accepted}
use Rattle.table.specs.Answer.{Answer, accepted, refused, Loads, accepts}
use Rattle.table.proofs.Formed.{front-actions, front-rows}
use Rattle.table.proofs.Loading.{refused-10-exactly, refused-11-exactly}
use Rattle.joining.specs.Tables.{rest_at, table_at, Fit, malformed, not-canonical, watched, FitBefore, CountFits}
use Rattle.joining.specs.Joins.{Joins, unfit}
use Rattle.joining.specs.Calling.{answer_of}
use Rattle.joining.specs.Reading.{RefusedBy, FitFront, AllFit, FirstRefused}
use Rattle.joining.specs.declared.JoinError.{JoinError}
use Rattle.joining.specs.declared.JoinError.TheVariants.{Malformed, NotCanonical, WatchedTable}

-- an accepted table with what its header says
loaded-as : {t : List ℕ} {type actions rows : ℕ} → Loads t (accepted type actions rows)
    → Accepted t × (type_of t ≡ type) × (actions_of t ≡ actions) × (rows_of t ≡ rows)
loaded-as (accepts a) = (a, refl, refl, refl)

-- the length of a fit table at the front
pub front-size : (bytes : List ℕ) → Fit (front_table bytes) → (table_length bytes ≤ length bytes) × (rows_of bytes * actions_of bytes ≤ 1024)
front-size bytes f = (omega (arith, inside, length-take (table_length bytes) bytes), area)
  where
    inside : length (front_table bytes) ≡ table_length bytes
    inside = f.accepted.formed.whole ∙ rw (front-actions bytes, front-rows bytes)

    area : rows_of bytes * actions_of bytes ≤ 1024
    area =
        let h = f.accepted.formed.header in
        mul-le-mul {n₂ = 64} {m₂ = 16} (rw (front-rows bytes) at h.rows-high) (rw (front-actions bytes) at h.actions-high)

-- what the loader says of the table at the front
module _ (bytes : List ℕ) where
  pub refused-10 : Loads (front_table bytes) (refused 10 0) → RefusedBy (front_table bytes) Malformed
  refused-10 l = record { number = 10; unfit = malformed ((refused-10-exactly (front_table bytes) (refused 10 0) l).0 refl); says = refl }

  pub refused-11 : Loads (front_table bytes) (refused 11 0) → RefusedBy (front_table bytes) NotCanonical
  refused-11 l =
      let (w, n) = (refused-11-exactly (front_table bytes) (refused 11 0) l).0 refl in
      record { number = 11; unfit = not-canonical w n; says = refl }

  module _ {actions rows : ℕ} where
    pub refused-34 : Loads (front_table bytes) (accepted 2 actions rows) → RefusedBy (front_table bytes) WatchedTable
    refused-34 l = let a = loaded-as l in record { number = 34; unfit = watched a.0 a.1; says = refl }

    pub fit-front : Loads (front_table bytes) (accepted 1 actions rows) → FitFront bytes (8 + rows * actions)
    fit-front l =
        let a = loaded-as l in
        let f : Fit (front_table bytes) = record { accepted = a.0; enforced = a.1 } in
        let e : 8 + rows * actions ≡ table_length bytes = rw (← a.2, ← a.3, front-actions bytes, front-rows bytes) refl in
        record { fit = f; sized = e; inside = subst (λ (n : ℕ). n ≤ length bytes) (sym e) (front-size bytes f).0 }

module _ {i : ℕ} {input : List ℕ} {at : ℕ} (w : AllFit i input at) where
  -- the next table stands at the front of what is behind
  next-table : front_table (drop at input) ≡ table_at input i
  next-table = ap front_table w.behind

  pub next_fits : Fit (table_at input i) → Fit (front_table (drop at input))
  next_fits f = subst Fit (sym next-table) f

  -- one table more
  pub fit-more : (size : ℕ) → FitFront (drop at input) size → AllFit (i + 1) input (at + size)
  fit-more size f = record { fit = fit; inside = omega (arith, f.inside, length-drop at input, w.inside); behind = behind }
    where
      fit : FitBefore input (i + 1)
      fit j h =
          elim (ℕ_discrete j i) [
            | yes e ↦ subst (λ (k : ℕ). Fit (table_at input k)) (sym e) (subst Fit next-table f.fit)
            | no e ↦ w.fit j (omega arith)
          ]

      behind : drop (at + size) input ≡ rest_at input (i + 1)
      behind =
          sym (drop-drop size at input) ∙ ap (λ (n : ℕ). drop n (drop at input)) f.sized
          ∙ ap (λ (l : List ℕ). drop (table_length l) l) w.behind ∙ ap (rest_at input) (let e : suc i ≡ i + 1 = omega arith in e)

  -- or the first that is not fit
  pub refused-here : (count : ℕ) → i < count → (error : JoinError) → RefusedBy (front_table (drop at input)) error → FirstRefused count input error
  refused-here count h error r = record { at = i; below = h; earlier = w.fit; refuses = subst (λ (t : List ℕ). RefusedBy t error) next-table r }

-- what is answered then
pub refused-first : {count : ℕ} {input : List ℕ} {limits : Limits} {error : JoinError} → CountFits count → FirstRefused count input error
    → Joins count input limits (answer_of (Err error)) []
refused-first {count} {input} {limits} counts r =
    subst (λ (a : Answer). Joins count input limits a []) (sym r.refuses.says)
    (unfit counts r.at r.refuses.number r.below r.earlier r.refuses.unfit)

-- all tables are fit: whether bytes are left over
module _ {count : ℕ} {input : List ℕ} {end : ℕ} (w : AllFit count input end) where
  pub nothing_left : end ≡ length input → rest_at input count ≡ []
  nothing_left e = sym w.behind ∙ drop_of_length-le input {i = end} (omega arith)

  pub left_behind : (end ≡ length input → ⊥) → rest_at input count ≡ [] → ⊥
  left_behind n e =
      let l : length (drop end input) ≡ 0 = ap length (w.behind ∙ e) in
      n (omega (arith, length-drop end input, w.inside))
