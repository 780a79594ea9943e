-- From texts to what C reads: a text that is read and compiled, 0 returned by both, gives its table; and of a record and an area used only through
-- the exported calls, with such tables put on, an action is permitted exactly when no enforced text's policy is violated.
-- Assumes nothing.
use mathlib.Core.Path.{◌≡◌, refl}
use mathlib.Core.List.{List}
use mathlib.Core.Logic.{◌↔◌}
use Prim.Native.Nat.{ℕ}
use lib.ListN.{take}
use Rattle.table.specs.Table.{type_of}
use Rattle.runs.specs.Events.{Event, rule, on_place}
use Rattle.runs.specs.Verdicts.{ActionListed}
use Rattle.base.specs.Fields.{field_in}
use Rattle.base.specs.Sets.{Member}
use Rattle.view.specs.Steps.{act}
use Rattle.parser_laws.specs.Boards.{FromText, EnforcedTexts, NoneTextViolated, FirstSatisfiedOver}
use Rattle.parser_laws.proofs.Exactly.{sheet-exactly}
use Rattle.parser_laws.proofs.Boards.{text-on-board, text-reported-on-board}
use Rattle.lemondarts.specs.Exports.{CallReturns}
use Rattle.lemondarts_laws.specs.Session.{number_in, value_in, Session}
use Rattle.lemondarts.specs.Compiling.{CompileReturns}
use Rattle.lemondarts.specs.Texts.{TextReturns}
use Rattle.lemondarts_laws.specs.TextTables.{table_in, TableFrom}
use Rattle.lemondarts_laws.proofs.CompiledTables.{compile-makes-table}
use Rattle.lemondarts_laws.proofs.TextNumbers.{text-zero}
use Rattle.lemondarts_laws.proofs.Sessions.{session-history}
use Rattle.lemondarts_laws.proofs.SessionLaws.{answered, zero-exactly, zero-acts}

-- A text that is read, 0 returned, and whose sheet is compiled, 0 returned: the table in the output comes from the text.
pub text-makes-table : {text actions sheet sheet' out work values out' work' values' : List ℕ} {returned returned' : ℕ}
    → TextReturns text actions sheet returned sheet' → number_in returned ≡ 0
    → CompileReturns (take (value_in returned) sheet') out work values returned' out' work' values' → number_in returned' ≡ 0
    → TableFrom text actions (table_in returned' out')
text-makes-table {text} {actions} {sheet} {sheet'} {returned = returned} {returned'} r read c compiled =
    let call = text-zero r read in
    let few = ((sheet-exactly call).0 tt).1 in
    record {
      from =
          record {
            text = text;
            actions = actions;
            reading = few.within.rule;
            reads = few.within.reads;
            out = sheet;
            out'' = sheet';
            bytes = value_in returned;
            count = field_in 2 returned;
            nodes = field_in 3 returned;
            writes = call;
            type = value_in returned';
            n = field_in 2 returned';
            rows = field_in 3 returned';
            compiles = compile-makes-table c compiled;
          };
      same_text = refl;
      same-actions = refl;
    }

module _ {events : List Event} {bytes area : List ℕ} (s : Session events bytes area) {action returned : ℕ} {bytes' area' : List ℕ}
    (r : CallReturns bytes area (act action) returned bytes' area') where
  -- Where each enforced rule on is compiled from a text, an action of the list is permitted, 0 returned, exactly when no enforced text's policy is
  -- violated by the actions permitted since its rule was put on, followed by this one.
  pub session-text-permit : (texts : EnforcedTexts events) → ActionListed events action → (number_in returned ≡ 0) ↔ NoneTextViolated events texts action
  session-text-permit texts l = zero-exactly s r (text-on-board (session-history s).history texts l (answered s r).gave)

  -- A watched rule that is compiled from a text is reported, its place in the value of a 0 returned, at exactly the permitted action that first
  -- satisfies the text's policy.
  pub session-text-reported : number_in returned ≡ 0 → (i : ℕ) (table since : List ℕ) → on_place events i ≡ rule table since → type_of table ≡ 2
      → (from : FromText table) → Member (value_in returned) i ↔ FirstSatisfiedOver from.actions from.reading.policy since action
  session-text-reported zero = text-reported-on-board (session-history s).history (zero-acts s r zero)
