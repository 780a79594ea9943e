-- Each refusal of compiling is given exactly when its checks say so, in its place of the order; bytes pass checks 1 to 5 exactly when a sheet is
-- read from them; and the refusals of the call.
-- Assumes nothing.
use mathlib.Core.Path.{◌≡◌, refl, sym, ap, ap₂, subst, ◌∙◌}
use mathlib.Core.Bool.{cond}
use mathlib.Core.List.{List}
use mathlib.Core.Logic.{◌↔◌}
use Prim.Native.Nat.{ℕ, ◌<◌}
use native.Mathlib.Omega.{arith}
use lib.Dec.{eqb}
use Rattle.trace.specs.declared.Mode.{Mode}
use Rattle.limits.specs.declared.Limits.{Limits}
use Rattle.limits.specs.Limits.{largest}
use Rattle.table.specs.Answer.{Answer, refused}
use Rattle.making.specs.Making.{Areas, short, makes}
use Rattle.syntax.specs.Faults.{number_of, spot_of}
use Rattle.syntax.specs.declared.Fault.{Fault}
use Rattle.syntax.specs.declared.Fault.TheVariants.{Length, Counts, Areas as WrongAreas, UnknownKindAt, WrongFieldAt, WrongTypeAt, BoundAt}
use Rattle.syntax.specs.declared.Sheet.{Sheet}
use Rattle.syntax.specs.declared.NodeType.{NodeType}
use Rattle.typing.specs.Typed.{Judgement, faulty, sound}
use Rattle.renumbering.specs.FirstFault.{FirstFault, unfit, too_long, no-policy}
use Rattle.renumbering.specs.SameUsed.{SameUsed}
use Rattle.renumbering.proofs.Judged.{faulty-exactly}
use Rattle.sheet_judge.specs.Judge.{judge, sheet_in}
use Rattle.sheet_reading.specs.ReadFrom.{ReadFrom}
use Rattle.sheet_judge.specs.Malformed.{MalformedOrRead, malformed as judged-malformed, read}
use Rattle.sheet_layout.proofs.Header.{laid}
use Rattle.sheet_reading.proofs.ReadFrom.{formed-from, actions-from, nodes-from}
use Rattle.sheet_judge.proofs.JudgedFrom.{judge-from}
use Rattle.sheet_judge.proofs.Malformed.{malformed-or-read, malformed-judged, malformed-number}
use Rattle.compiler.specs.Compiles.{StopsAt, values, rows, Builds, stops, Compiles, faulted, passes}
use Rattle.compiler.specs.Calling.{CompilesInto}
use Rattle.compiler_laws.specs.Demands.{OneActionList}
use Rattle.compiler_laws.specs.Answers.{sheet_read, PassesToFive, FirstFaultIn, malformed, mistyped, FirstOver}
use Rattle.compiler_laws.specs.SpareNodes.{SameButSpot}
use Rattle.compiler_laws.proofs.Outcome.{compiles-determined}
use Rattle.compiler_laws.proofs.SpareNodes.{spare-nodes}
use Rattle.compiler_laws.proofs.Spots.{refused-low}

-- a fault of a sheet that is read is one of 6 and 7
high : {sheet : Sheet} {f : Fault} → FirstFault sheet f → 5 < number_of f
high (unfit types n u before e) = omega arith
high (too_long types n u before e) = omega arith
high (no-policy types each e) = omega arith

module _ (bytes : List ℕ) where
  -- Bytes are judged faulty exactly at their first fault.
  pub judge-faulty-exactly : (f : Fault) → (judge bytes ≡ faulty f) ↔ FirstFaultIn bytes f
  judge-faulty-exactly f = (to (malformed-or-read bytes), from)
    where
      to : {j : Judgement} → MalformedOrRead bytes j → j ≡ faulty f → FirstFaultIn bytes f
      to (judged-malformed g m) e = let same : g ≡ f = cc in subst (FirstFaultIn bytes) same (malformed m)
      to (read sheet r) e = mistyped sheet r ((faulty-exactly sheet (formed-from bytes r) f).0 e)

      from : FirstFaultIn bytes f → judge bytes ≡ faulty f
      from (malformed m) = malformed-judged bytes m
      from (mistyped sheet r p) = judge-from bytes r ∙ (faulty-exactly sheet (formed-from bytes r) f).1 p

  -- the sheet that is read is the one that stands in the bytes
  read_is : {sheet : Sheet} → ReadFrom bytes sheet → sheet ≡ sheet_read bytes
  read_is r = sym (ap (sheet_in bytes) (laid bytes r.laid) ∙ rw (← r.actions, ← r.count, actions-from bytes r, nodes-from bytes r))

  -- Bytes pass checks 1 to 5 exactly when a sheet is read from them.
  pub passes-exactly : PassesToFive bytes ↔ ReadFrom bytes (sheet_read bytes)
  passes-exactly = (
    λ p. to p (malformed-or-read bytes) refl,
    λ r. record { none = λ f e. high ((faulty-exactly (sheet_read bytes) (formed-from bytes r) f).0 (sym (judge-from bytes r) ∙ e)) },
  )
    where
      to : PassesToFive bytes → {j : Judgement} → MalformedOrRead bytes j → judge bytes ≡ j → ReadFrom bytes (sheet_read bytes)
      to p (judged-malformed f m) e = absurd (omega (arith, p.none f e, malformed-number m))
      to p (read sheet r) e = subst (ReadFrom bytes) (read_is r) r

-- Spare nodes change nothing, over bytes: two that pass checks 1 to 5, whose sheets have one action list and the same used nodes in the same order,
-- apart from their numbering, give the same table or one refusal number, for any limits.
pub spare-nodes-in-bytes : {bytes other : List ℕ} → PassesToFive bytes → PassesToFive other → OneActionList (sheet_read bytes) (sheet_read other)
    → (same : SameUsed (sheet_read bytes) (sheet_read other)) (limits : Limits) {a b : Answer} {t u : List ℕ}
    → Compiles bytes limits a t → Compiles other limits b u → SameButSpot same.to a t b u
spare-nodes-in-bytes {bytes} {other} p q one same = spare-nodes ((passes-exactly bytes).0 p) ((passes-exactly other).0 q) one same

-- a fault is known by its number and its spot
fault_by : (number spot : ℕ) → Fault
fault_by number spot =
    cond (eqb number 1) Length
    (cond (eqb number 2) Counts
    (cond (eqb number 3) WrongAreas
    (cond (eqb number 4) (UnknownKindAt spot)
    (cond (eqb number 5) (WrongFieldAt spot)
    (cond (eqb number 6) (WrongTypeAt spot) (BoundAt spot))))))

fault-back : (f : Fault) → fault_by (number_of f) (spot_of f) ≡ f
unfolding fault_by
fault-back Length = refl
fault-back Counts = refl
fault-back WrongAreas = refl
fault-back (UnknownKindAt n) = refl
fault-back (WrongFieldAt n) = refl
fault-back (WrongTypeAt n) = refl
fault-back (BoundAt n) = refl

low : (f : Fault) → number_of f < 8
low Length = omega arith
low Counts = omega arith
low WrongAreas = omega arith
low (UnknownKindAt n) = omega arith
low (WrongFieldAt n) = omega arith
low (WrongTypeAt n) = omega arith
low (BoundAt n) = omega arith

stop-high : {sheet : Sheet} {tables : _} {limits : Limits} {n number : ℕ} → StopsAt sheet tables limits n number → 7 < number
stop-high (values over) = omega arith
stop-high (rows few over) = omega arith

module _ (bytes : List ℕ) (limits : Limits) where
  -- why compiling is refused: by a fault, or at a node that is over a limit
  data Reason : (number spot : ℕ) → Type 0 where
    by-fault : (f : Fault) → judge bytes ≡ faulty f → Reason (number_of f) (spot_of f)
    by-limit : {n number : ℕ} → FirstOver bytes limits n number → Reason number n

  built-reason : {mode : Mode} {sheet : Sheet} {types : List NodeType} → judge bytes ≡ sound mode sheet types → {number spot : ℕ} {t : List ℕ}
      → Builds mode sheet types limits (refused number spot) t → Reason number spot
  built-reason {mode} {sheet} {types} j (stops tables n number h built p over) =
      by-limit (record { sheet = sheet; read = record { mode = mode; types = types; judged = j }; tables = tables; inside = h; before = built; policy = p; over = over })

  reason : {number spot : ℕ} {t : List ℕ} → Compiles bytes limits (refused number spot) t → Reason number spot
  reason (faulted f e) = by-fault f e
  reason (passes mode sheet types j x t b) = built-reason j b

  fault-reason : (f : Fault) {number spot : ℕ} → Reason number spot → number ≡ number_of f → spot ≡ spot_of f → judge bytes ≡ faulty f
  fault-reason f (by-fault g e) p q = e ∙ ap faulty (sym (fault-back g) ∙ ap₂ fault_by p q ∙ fault-back f)
  fault-reason f (by-limit o) p q = absurd (omega (arith, low f, stop-high o.over))

  limit-reason : {number spot : ℕ} → 7 < number → Reason number spot → FirstOver bytes limits spot number
  limit-reason h (by-fault f e) = absurd (omega (arith, low f))
  limit-reason h (by-limit o) = o

module _ {bytes : List ℕ} {limits : Limits} where
  module _ {x : Answer} {written : List ℕ} (c : Compiles bytes limits x written) where
    says : (number spot : ℕ) → x ≡ refused number spot → Reason bytes limits number spot
    says number spot e = reason bytes limits (subst (λ (y : Answer). Compiles bytes limits y written) e c)

    limited : (n number : ℕ) → FirstOver bytes limits n number → x ≡ refused number n
    limited n number o =
        (compiles-determined bytes limits c
        (passes o.read.mode o.sheet o.read.types o.read.judged _ _ (stops o.tables n number o.inside o.before o.policy o.over))
        ).0

    -- 1 to 7 are answered, with their spots, exactly when the fault is the first one.
    pub compile-fault-exactly : (f : Fault) → (x ≡ refused (number_of f) (spot_of f)) ↔ FirstFaultIn bytes f
    compile-fault-exactly f = (
      λ e. (judge-faulty-exactly bytes f).0 (fault-reason bytes limits f (says (number_of f) (spot_of f) e) refl refl),
      λ p. (compiles-determined bytes limits c (faulted f ((judge-faulty-exactly bytes f).1 p))).0,
    )

    -- 8 is answered at a node exactly when it is the first over a limit, and over that of values.
    pub compile-8-exactly : (n : ℕ) → (x ≡ refused 8 n) ↔ FirstOver bytes limits n 8
    compile-8-exactly n = (λ e. limit-reason bytes limits (omega arith) (says 8 n e), limited n 8)

    -- 9 is answered at a node exactly when it is the first over a limit, and over that of rows alone.
    pub compile-9-exactly : (n : ℕ) → (x ≡ refused 9 n) ↔ FirstOver bytes limits n 9
    compile-9-exactly n = (λ e. limit-reason bytes limits (omega arith) (says 9 n e), limited n 9)

    -- Compiling itself never answers 14.
    pub compile-never-14 : x ≡ refused 14 0 → ⊥
    compile-never-14 e = omega (arith, (refused-low bytes (subst (λ (y : Answer). Compiles bytes limits y written) e c)).0)

module _ {bytes out work values : List ℕ} where
  -- With areas that are long enough, the answer of the call is one of compiling inside 1,024 values and 64 rows.
  pub compile-call-answers : Areas out work values → {answer : Answer} {out' work' values' : List ℕ} → CompilesInto bytes out work values answer out' work' values'
      → (written : List ℕ) × Compiles bytes largest answer written
  compile-call-answers areas (short h) = absurd (h areas)
  compile-call-answers areas (makes a answer written c) = (written, c)

  -- 14 is answered exactly when an area is too short.
  pub compile-14-exactly : {answer : Answer} {out' work' values' : List ℕ} → CompilesInto bytes out work values answer out' work' values'
      → (answer ≡ refused 14 0) ↔ (Areas out work values → ⊥)
  compile-14-exactly (short h) = (λ e. h, λ n. refl)
  compile-14-exactly (makes a answer written c) = (λ e. absurd (compile-never-14 c e), λ n. absurd (n a))
