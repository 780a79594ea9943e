-- A machine whose runs encode what is remembered of sequences: what it reaches and what is alike in it, said of the sequences.
-- Assumes nothing.
use mathlib.Core.Path.{◌≡◌, refl, sym, ◌∙◌, ap, subst}
use mathlib.Core.Bool.{Bool, true, false}
use mathlib.Core.List.{List, [], ◌++◌}
use Prim.Native.Nat.{ℕ, ◌≤◌, ◌<◌}
use native.Mathlib.Decide.{dec_le}
use native.Mathlib.Omega.{arith}
use Rattle.trace.specs.Trace.{Sequence, Move, go, Step, run, tripped as is_trip, trips}
use Rattle.trace.specs.Limits.{SameRow, Many, ManyValues, ManyRows}
use Rattle.trace.proofs.Laws.{run-append, sequence-append}
use Rattle.automaton.specs.Minimal.{RowsOf}
use Rattle.policy.specs.Closed.{answer}
use Rattle.explore.specs.Explored.{ReachedState, OverReached}
use Rattle.machine_rows.specs.Machines.{OverStates, RowsFor}

answered : (b : Bool) (v : ℕ) → is_trip (answer b v) ≡ b
answered true v = refl
answered false v = refl

go-inj : {c d : ℕ} → ◌≡◌ {A = Move ℕ} (go c) (go d) → c ≡ d
go-inj e = cc

module _ {X : Type 0} (actions : ℕ) (tripped : List ℕ → Bool) (remembered : List ℕ → X) (code : X → ℕ) (step : Step ℕ) (start : ℕ)
    (codes : (w : List ℕ) → Sequence actions w → run step (go start) w ≡ answer (tripped w) (code (remembered w))) where
  -- it trips where the property holds
  pub codes-trip : (w : List ℕ) → Sequence actions w → trips step start w ≡ tripped w
  codes-trip w p = ap is_trip (codes w p) ∙ answered (tripped w) (code (remembered w))

  codes-go : (w : List ℕ) → Sequence actions w → tripped w ≡ false → run step (go start) w ≡ go (code (remembered w))
  codes-go w p e = codes w p ∙ ap (λ (b : Bool). answer b (code (remembered w))) e

  -- a reached number is that of what is remembered of its word, which has not tripped
  reached-untripped : (c : ℕ) (r : ReachedState actions step start c) → tripped r.word ≡ false
  reached-untripped c r = sym (codes-trip r.word r.sequence) ∙ ap is_trip r.leads

  reached-value : (c : ℕ) (r : ReachedState actions step start c) → code (remembered r.word) ≡ c
  reached-value c r = go-inj (sym (codes-go r.word r.sequence (reached-untripped c r)) ∙ r.leads)

  -- words for numbers up to a limit
  module _ (limit : ℕ) (pick : ℕ → ℕ) (reached : (c : ℕ) → c ≤ limit → ReachedState actions step start (pick c)) where
    word_by : (c : ℕ) → Dec (c ≤ limit) → List ℕ
    word_by c (yes h) = (reached c h).word
    word_by c (no h) = []

    words : ℕ → List ℕ
    words c = word_by c (dec_le c limit)

    word_of : (c : ℕ) → c ≤ limit → (r : ReachedState actions step start (pick c)) × (words c ≡ r.word)
    unfolding word_by words
    word_of c h = by (dec_le c limit)
      where
        by : (d : Dec (c ≤ limit)) → (r : ReachedState actions step start (pick c)) × (word_by c d ≡ r.word)
        by (yes g) = (reached c g, refl)
        by (no g) = absurd (g h)

    many : (R : List ℕ → List ℕ → Type 0)
        → ((c d : ℕ) → c < d → d ≤ limit → (r : ReachedState actions step start (pick c)) (s : ReachedState actions step start (pick d)) → R r.word s.word → ⊥)
        → Many actions tripped limit R
    many R apart =
        record {
          pick = words;
          sequence = λ c h. let x = word_of c h in subst (Sequence actions) (sym x.1) x.0.sequence;
          untripped = λ c h. let x = word_of c h in ap tripped x.1 ∙ reached-untripped (pick c) x.0;
          apart = far;
        }
      where
        far : (c d : ℕ) → c < d → d ≤ limit → R (words c) (words d) → ⊥
        far c d l h r =
            let x = word_of c (omega arith) in
            let y = word_of d h in
            apart c d l h x.0 y.0 (subst (λ u. R u y.0.word) x.1 (subst (λ u. R (words c) u) y.1 r))

  -- 8: as many values occur as numbers are reached
  pub over-values : (limit : ℕ) → OverReached actions step start limit → ManyValues actions tripped remembered limit
  over-values limit o =
      many limit o.pick o.reached (λ u w. remembered u ≡ remembered w)
      (λ c d l h r s e. o.apart c d l h (sym (reached-value (o.pick c) r) ∙ ap code e ∙ reached-value (o.pick d) s))

  -- and where values that occur have different numbers, as many numbers are reached as values occur
  pub not-over-values : ((u w : List ℕ) → Sequence actions u → Sequence actions w → tripped u ≡ false → tripped w ≡ false
      → code (remembered u) ≡ code (remembered w) → remembered u ≡ remembered w)
      → (limit : ℕ) → (OverReached actions step start limit → ⊥) → ManyValues actions tripped remembered limit → ⊥
  not-over-values injective limit few m =
      few
      (record {
        pick = λ c. code (remembered (m.pick c));
        reached = λ c h. record { word = m.pick c; sequence = m.sequence c h; leads = codes-go (m.pick c) (m.sequence c h) (m.untripped c h) };
        apart = apart;
      })
    where
      apart : (c d : ℕ) → c < d → d ≤ limit → code (remembered (m.pick c)) ≡ code (remembered (m.pick d)) → ⊥
      apart c d l h e =
          let g : c ≤ limit = omega arith in
          m.apart c d l h (injective (m.pick c) (m.pick d) (m.sequence c g) (m.sequence d h) (m.untripped c g) (m.untripped d h) e)

  -- what trips behind a reached state
  behind : (c : ℕ) (r : ReachedState actions step start c) (v : List ℕ) → Sequence actions v → trips step c v ≡ tripped (r.word ++ v)
  behind c r v p =
      ap (λ (m : Move ℕ). is_trip (run step m v)) (sym r.leads) ∙ ap is_trip (sym (run-append step (go start) r.word v))
      ∙ codes-trip (r.word ++ v) (sequence-append actions r.word v r.sequence p)

  -- 9: states that are not alike are sequences that share no row
  pub over-rows : (limit : ℕ) → OverStates actions step start limit → ManyRows actions tripped limit
  over-rows limit o = many limit o.pick o.reached (SameRow actions tripped) far
    where
      far : (c d : ℕ) → c < d → d ≤ limit → (r : ReachedState actions step start (o.pick c)) (s : ReachedState actions step start (o.pick d))
          → SameRow actions tripped r.word s.word → ⊥
      far c d l h r s e =
          o.apart c d l h (record { same = λ v p. behind (o.pick c) r v p ∙ e.same v p ∙ sym (behind (o.pick d) s v p) })

  -- the machine's rows are those of the property
  pub rows_of : (limit rows : ℕ) (entries : List ℕ) → RowsFor actions step start limit rows entries → RowsOf actions tripped rows entries
  rows_of limit rows entries f =
      record {
        low = f.low;
        machine = f.machine;
        numbered = f.numbered;
        distinct = f.distinct;
        reads = λ w p. sym (f.reads.same w p) ∙ codes-trip w p;
      }
