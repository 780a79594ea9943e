-- Each exported call is determined: from the same bytes, with the same inputs, it returns one number and leaves one content of every lent byte.
-- Assumes nothing.
use mathlib.Core.Path.{◌≡◌, refl, sym, ◌∙◌, ap, ap₂}
use mathlib.Core.List.{List}
use Prim.Native.Nat.{ℕ}
use Rattle.places.specs.declared.Board.{Board}
use Rattle.view.specs.Steps.{Call, Reply}
use Rattle.table.proofs.Loading.{load-determined}
use Rattle.compiler_laws.proofs.Calls.{call-determined}
use Rattle.board_laws.proofs.Calls.{makes-determined, calls-determined}
use Rattle.parser_laws.proofs.Outcomes.{text-determined}
use Rattle.joining_laws.proofs.Outcome.{join-call-determined}
use Rattle.explaining_laws.proofs.Outcome.{explain-call-determined}
use Rattle.board_answers.specs.Numbers.{packed_reply}
use Rattle.answers.specs.Numbers.{packed_answer}
use Rattle.lemondarts.specs.Exports.{LoadReturns, Returns, short-record, called, record_after, NewBoardReturns, CallReturns}
use Rattle.lemondarts.specs.Compiling.{CompileReturns}
use Rattle.lemondarts.specs.Joining.{JoinReturns}
use Rattle.answers.specs.Explanations.{packed_explanation}
use Rattle.lemondarts.specs.Explaining.{ExplainReturns}
use Rattle.answers.specs.Texts.{packed_text}
use Rattle.lemondarts.specs.Texts.{TextReturns}

pub load-returns-determined : {table : List ℕ} {returned other : ℕ} → LoadReturns table returned → LoadReturns table other → returned ≡ other
load-returns-determined {table} p q = p.number ∙ ap packed_answer (load-determined table p.answer q.answer p.loads q.loads) ∙ sym q.number

pub compile-returns-determined : {sheet out work values : List ℕ} {returned other : ℕ} {out' work' values' out'' work'' values'' : List ℕ}
    → CompileReturns sheet out work values returned out' work' values' → CompileReturns sheet out work values other out'' work'' values''
    → (returned ≡ other) × (out' ≡ out'') × (work' ≡ work'') × (values' ≡ values'')
compile-returns-determined p q =
    let (a, o, w, v) = call-determined p.compiles q.compiles in (p.number ∙ ap packed_answer a ∙ sym q.number, o, w, v)

pub join-returns-determined : {count : ℕ} {tables out work values : List ℕ} {returned other : ℕ} {out' work' values' out'' work'' values'' : List ℕ}
    → JoinReturns count tables out work values returned out' work' values' → JoinReturns count tables out work values other out'' work'' values''
    → (returned ≡ other) × (out' ≡ out'') × (work' ≡ work'') × (values' ≡ values'')
join-returns-determined p q =
    let (a, o, w, v) = join-call-determined p.joins q.joins in (p.number ∙ ap packed_answer a ∙ sym q.number, o, w, v)

pub explain-returns-determined : {sheet list place work values : List ℕ} {returned other : ℕ} {place' work' values' place'' work'' values'' : List ℕ}
    → ExplainReturns sheet list place work values returned place' work' values' → ExplainReturns sheet list place work values other place'' work'' values''
    → (returned ≡ other) × (place' ≡ place'') × (work' ≡ work'') × (values' ≡ values'')
explain-returns-determined p q =
    let (a, o, w, v) = explain-call-determined p.explains q.explains in (p.number ∙ ap packed_explanation a ∙ sym q.number, o, w, v)

pub text-returns-determined : {text actions sheet : List ℕ} {returned other : ℕ} {sheet' sheet'' : List ℕ} → TextReturns text actions sheet returned sheet'
    → TextReturns text actions sheet other sheet'' → (returned ≡ other) × (sheet' ≡ sheet'')
text-returns-determined p q = let (a, s) = text-determined p.reads q.reads in (p.number ∙ ap packed_text a ∙ sym q.number, s)

-- a call of the board that is determined
returns-determined : {call : Reply → Board → List ℕ → Type 0} {bytes area : List ℕ}
    → ((r r' : Reply) (b b' : Board) (l l' : List ℕ) → call r b l → call r' b' l' → (r ≡ r') × (b ≡ b') × (l ≡ l'))
    → {returned other : ℕ} {bytes' bytes'' area' area'' : List ℕ} → Returns call bytes area returned bytes' area' → Returns call bytes area other bytes'' area''
    → (returned ≡ other) × (bytes' ≡ bytes'') × (area' ≡ area'')
returns-determined d (short-record n) (short-record m) = (refl, refl, refl)
returns-determined d (short-record n) (called long reply next left p) = absurd (n long)
returns-determined d (called long reply next left p) (short-record n) = absurd (n long)
returns-determined {bytes = bytes} d (called long reply next left p) (called long' reply' next' left' q) =
    let (r, b, l) = d reply reply' next next' left left' p q in (ap packed_reply r, ap₂ (λ (x : Reply) (y : Board). record_after bytes x y) r b, l)

module _ {bytes area : List ℕ} {returned other : ℕ} {bytes' bytes'' area' area'' : List ℕ} where
  pub new-board-returns-determined : NewBoardReturns bytes area returned bytes' area' → NewBoardReturns bytes area other bytes'' area''
      → (returned ≡ other) × (bytes' ≡ bytes'') × (area' ≡ area'')
  new-board-returns-determined = returns-determined (λ r r' b b' l l' p q. makes-determined p q)

  pub call-returns-determined : {call : Call} → CallReturns bytes area call returned bytes' area' → CallReturns bytes area call other bytes'' area''
      → (returned ≡ other) × (bytes' ≡ bytes'') × (area' ≡ area'')
  call-returns-determined = returns-determined (λ r r' b b' l l' p q. calls-determined p q)
