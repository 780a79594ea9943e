-- From a list to what C reads: the number that explaining returns says the whole answer but for the place, which stands in the lent list; and a board
-- with the sheet's table alone permits the actions before that place, and denies the one there.
-- Assumes nothing.
use mathlib.Core.Path.{◌≡◌, refl, sym, ap, subst}
use mathlib.Core.List.{List, [], ◌∷◌, ◌++◌, reverse}
use mathlib.Core.Logic.{◌↔◌}
use Prim.Native.Nat.{ℕ}
use native.Mathlib.Omega.{arith}
use lib.ListN.{get_or}
use Rattle.limits.specs.Limits.{largest}
use Rattle.table.specs.Answer.{accepted}
use Rattle.making.specs.Making.{AreasFor, short, makes}
use Rattle.syntax.specs.declared.Sheet.{Sheet}
use Rattle.compiler.specs.Compiles.{Compiles}
use Rattle.runs.specs.Events.{Event}
use Rattle.runs.specs.Holding.{Holds, PutsOnly, ActsOnly}
use Rattle.runs.proofs.Holding.{run-puts-hold}
use Rattle.runs.proofs.Reports.{beginning}
use Rattle.board_laws.proofs.HistoryRun.{history-run}
use Rattle.explaining.specs.Explains.{Explanation, no-denial, denied, refused, Explains}
use Rattle.explaining.specs.Calling.{ExplainsInto}
use Rattle.explaining_laws.specs.Answers.{Explainable}
use Rattle.explaining_laws.specs.Boards.{AllPermitted, DeniedAfter}
use Rattle.explaining_laws.proofs.Spots.{RefusalFits, explain-refusal-fits, explain-denial-fits}
use Rattle.explaining_laws.proofs.Calls.{explain-call-answers, place-in-output}
use Rattle.explaining_laws.proofs.ExplainedBoard.{new-board-permits, new-board-denies, board-permits-exactly, board-denies-exactly}
use Rattle.answers.specs.Explanations.{packed_explanation}
use Rattle.lemondarts_laws.specs.Session.{number_in, value_in, Session}
use Rattle.lemondarts.specs.Explaining.{ExplainReturns}
use Rattle.lemondarts_laws.proofs.Answers.{number_of, value_of}
use Rattle.lemondarts_laws.proofs.Sessions.{session-history}

-- What a returned number says: 0, 255 with the node, or a refusal's number, which is neither, with its spot.
abbrev pub SaysOf : Explanation → ℕ → Type 0
SaysOf no-denial returned = number_in returned ≡ 0
SaysOf (denied place node) returned = (number_in returned ≡ 255) × (value_in returned ≡ node)
SaysOf (refused number spot) returned = (number_in returned ≡ number) × (value_in returned ≡ spot) × RefusalFits number spot

explains-says : (bytes : List ℕ) {list : List ℕ} (answer : Explanation) {written : List ℕ} → Explains bytes list largest answer written → SaysOf answer (packed_explanation answer)
explains-says bytes no-denial e = number_of 0 0 (omega arith)
explains-says bytes (denied place node) e = let f = explain-denial-fits bytes e in (number_of 255 node (omega arith), value_of 255 node (omega (arith, f.1)))
explains-says bytes (refused number spot) e =
    let f = explain-refusal-fits bytes e in (number_of number spot (omega (arith, f.high)), value_of number spot (omega (arith, f.spot-low)), f)

-- Reading the fields of the returned number back gives the answer.
pub explain-says : {bytes list place work values place' work' values' : List ℕ} {answer : Explanation} → ExplainsInto bytes list place work values answer place' work' values'
    → SaysOf answer (packed_explanation answer)
explain-says (short n) = (number_of 14 0 (omega arith), value_of 14 0 (omega arith), record { low = omega arith; high = omega arith; spot-low = omega arith })
explain-says {bytes} (makes a answer written e) = explains-says bytes answer e

-- an answer that is not 14 is one of explaining
gives : {bytes list place work values place' work' values' : List ℕ} {answer : Explanation} → ExplainsInto bytes list place work values answer place' work' values'
    → (answer ≡ refused 14 0 → ⊥) → (t : List ℕ) × Explains bytes list largest answer t
gives (short h) n = absurd (n refl)
gives (makes a answer t e) n = (t, e)

module _ {bytes list place work values place' work' values' : List ℕ} (returned : ℕ) where
  -- the answer by its number
  none-by : (answer : Explanation) → ExplainsInto bytes list place work values answer place' work' values' → SaysOf answer returned → number_in returned ≡ 0
      → (t : List ℕ) × Explains bytes list largest no-denial t
  none-by no-denial e s zero = gives e (λ q. let z : ◌≡◌ {A = ℕ} 0 1 = cc in omega arith)
  none-by (denied p n) e s zero = absurd (omega (arith, s.0))
  none-by (refused number spot) e s zero = absurd (omega (arith, s.0, s.2.low))

  denied-by : (answer : Explanation) → ExplainsInto bytes list place work values answer place' work' values' → SaysOf answer returned → number_in returned ≡ 255
      → (t : List ℕ) × Explains bytes list largest (denied (get_or place' 0 0) (value_in returned)) t
  denied-by no-denial e s is = absurd (omega arith)
  denied-by (denied p n) e s is =
      let (t, g) = gives e (λ q. let z : ◌≡◌ {A = ℕ} 0 1 = cc in omega arith) in
      (t, rw (ap (λ (l : List ℕ). get_or l 0 0) (place-in-output e), s.1) g)
  denied-by (refused number spot) e s is = absurd (omega (arith, s.0, s.2.high))

module _ {bytes list place work values : List ℕ} {returned : ℕ} {place' work' values' : List ℕ}
    (r : ExplainReturns bytes list place work values returned place' work' values') where
  says : SaysOf r.answer returned
  says = subst (SaysOf r.answer) (sym r.number) (explain-says r.explains)

  -- Where explaining returns 0, no action of the list is denied; where it returns 255, the place in the lent list is that of the first denied
  -- one, and the value the node that is named for it.
  pub explain-none : number_in returned ≡ 0 → (t : List ℕ) × Explains bytes list largest no-denial t
  explain-none = none-by returned r.answer r.explains says

  pub explain-denied : number_in returned ≡ 255 → (t : List ℕ) × Explains bytes list largest (denied (get_or place' 0 0) (value_in returned)) t
  explain-denied = denied-by returned r.answer r.explains says

  -- A new board on which C has put the sheet's table alone, given the list action by action, permits each of them where explaining returned 0; and
  -- where it returned 255 those before the place, and denies the one there.
  module _ {type actions rows : ℕ} {table : List ℕ} (c : Compiles bytes largest (accepted type actions rows) table) {puts later : List Event} (p : PutsOnly puts (table ∷ []))
      (acts : ActsOnly later (reverse list)) {record' area : List ℕ} (s : Session (later ++ puts) record' area) where
    pub session-permits : number_in returned ≡ 0 → AllPermitted later
    session-permits zero = new-board-permits (omega arith) c puts p acts (session-history s).history (explain-none zero).1

    pub session-denies : number_in returned ≡ 255 → DeniedAfter table later puts (get_or place' 0 0)
    session-denies is = new-board-denies (omega arith) c puts p acts (session-history s).history (explain-denied is).1

    -- For an enforced sheet and a list of its actions, and areas that are long enough: 0 is returned exactly when that board permits every action of
    -- the list, and 255 with a place in the lent list exactly when it permits those before the place and denies the one there.
    module _ (areas : AreasFor 1 place work values) {sheet : Sheet} (can : Explainable bytes list largest sheet) where
      given : (t : List ℕ) × Explains bytes list largest r.answer t
      given = explain-call-answers areas r.explains

      holds : Holds puts (table ∷ []) []
      holds = run-puts-hold p (beginning later puts (history-run (session-history s).history)).1

      pub session-permits-exactly : (number_in returned ≡ 0) ↔ AllPermitted later
      session-permits-exactly = (
        session-permits,
        λ all. subst (λ (x : Explanation). SaysOf x returned) ((board-permits-exactly (omega arith) c puts holds acts (session-history s).history can given.1).1 all) says,
      )

      pub session-denies-exactly : (at : ℕ) → ((number_in returned ≡ 255) × (get_or place' 0 0 ≡ at)) ↔ DeniedAfter table later puts at
      session-denies-exactly at = (
        λ q. subst (DeniedAfter table later puts) q.1 (session-denies q.0),
        λ d. back ((board-denies-exactly (omega arith) c puts holds acts (session-history s).history can given.1 at).1 d),
      )
        where
          back : (node : ℕ) × (r.answer ≡ denied at node) → (number_in returned ≡ 255) × (get_or place' 0 0 ≡ at)
          back (node, e) = (
            (subst (λ (x : Explanation). SaysOf x returned) e says).0,
            ap (λ (l : List ℕ). get_or l 0 0) (place-in-output (subst (λ (x : Explanation). ExplainsInto bytes list place work values x place' work' values') e r.explains)),
          )
