-- A board that holds the table compiled from a sheet alone, given a list action by action, and what explaining answers to that sheet and list: the same
-- actions are permitted, and the same one is the first that is denied. Compiling and explaining have limits of their own.
-- Assumes nothing.
use mathlib.Core.Path.{◌≡◌, refl, sym, ap, subst}
use mathlib.Core.List.{List, [], ◌∷◌, ◌++◌, reverse, reverse-reverse}
use mathlib.Core.Logic.{◌↔◌}
use Prim.Native.Nat.{ℕ, ◌≤◌}
use Rattle.trace.specs.Trace.{Sequence}
use Rattle.trace.specs.declared.Mode.TheVariants.{Enforced}
use Rattle.limits.specs.declared.Limits.{Limits}
use Rattle.table.specs.Answer.{accepted}
use Rattle.places.specs.declared.Board.{Board}
use Rattle.syntax.specs.declared.Sheet.{Sheet}
use Rattle.compiler.specs.Compiles.{Compiles}
use Rattle.compiler.proofs.Passed.{passed}
use Rattle.compiler_laws.specs.Demands.{ReadAs}
use Rattle.compiler_laws.proofs.CompiledTable.{TableOf, compiled-type, compiled-table}
use Rattle.runs.specs.Events.{Event}
use Rattle.board_laws.specs.History.{History}
use Rattle.board_laws.proofs.HistoryRun.{history-run}
use Rattle.runs.proofs.Reports.{beginning}
use Rattle.runs.specs.Holding.{Holds, PutsOnly, ActsOnly}
use Rattle.runs.proofs.Holding.{run-puts-hold}
use Rattle.explaining.specs.Denials.{NoneDenied, FirstDenied}
use Rattle.explaining.specs.Explains.{Explanation, no-denial, denied, Explains}
use Rattle.explaining_laws.specs.Answers.{Explainable, Outcome, permits, denies}
use Rattle.explaining_laws.specs.Boards.{AllPermitted, DeniedAfter}
use Rattle.explaining_laws.proofs.Places.{none-or-denied, one_place, begins-satisfied}
use Rattle.explaining_laws.proofs.Answers.{explain-none-exactly, explain-denied-exactly, explained-outcome}
use Rattle.explaining_laws.proofs.Replies.{permitted-not-denied, one-count}
use Rattle.explaining_laws.proofs.Boards.{Answered, all-permitted, one-denied, run-answered}

module _ {bytes list : List ℕ} {limits : Limits} (small : limits.rows ≤ 64) {type actions rows : ℕ} {table : List ℕ}
    (c : Compiles bytes limits (accepted type actions rows) table) where
  -- the table of the enforced sheet
  table_of : {limits' : Limits} {sheet : Sheet} → Explainable bytes list limits' sheet → TableOf sheet 1 actions rows table
  table_of {sheet = sheet} can = subst (λ (n : ℕ). TableOf sheet n actions rows table) one (compiled-table bytes limits small read c)
    where
      read : ReadAs bytes sheet
      read = record { mode = Enforced; types = can.compiled.types; judged = can.compiled.judged }

      one : type ≡ 1
      one = compiled-type can.compiled.judged c

  -- a board that holds the table alone, with no action permitted since
  module _ (events : List Event) (holds : Holds events (table ∷ []) []) {later : List Event} (acts : ActsOnly later (reverse list)) {board : Board} {area : List ℕ}
      (h : History (later ++ events) board area) where
    answered : {limits' : Limits} {sheet : Sheet} → Explainable bytes list limits' sheet → Answered sheet table later events list
    answered {sheet = sheet} can =
        subst (Answered sheet table later events) (reverse-reverse list)
        (run-answered (table_of can) (begins-satisfied (passed bytes can.compiled.judged)) holds acts (history-run h)
        (subst (Sequence sheet.actions) (sym (reverse-reverse list)) can.actions))

    none-permitted : {sheet : Sheet} → NoneDenied sheet list → Answered sheet table later events list → AllPermitted later
    none-permitted n (all-permitted p held ok) = p
    none-permitted n (one-denied place f d) = none-or-denied n f

    first-denied-there : {sheet : Sheet} {place : ℕ} → FirstDenied sheet list place → Answered sheet table later events list → DeniedAfter table later events place
    first-denied-there f (all-permitted p held ok) = none-or-denied ok f
    first-denied-there f (one-denied place g d) = subst (DeniedAfter table later events) (one_place g f) d

    -- Where explaining answers no denial, the board permits every action of the list.
    pub board-permits : {limits' : Limits} {written : List ℕ} → Explains bytes list limits' no-denial written → AllPermitted later
    board-permits e = let p = (explain-none-exactly e).0 refl in none-permitted p.none (answered p.explainable)

    -- Where it answers a denial, the board permits the actions before the place, each of them, and denies the one there.
    pub board-denies : {limits' : Limits} {place node : ℕ} {written : List ℕ} → Explains bytes list limits' (denied place node) written → DeniedAfter table later events place
    board-denies {place = place} {node} e = let d = (explain-denied-exactly e place node).0 refl in first-denied-there d.by.first (answered d.explainable)

    module _ {limits' : Limits} {sheet : Sheet} (can : Explainable bytes list limits' sheet) {x : Explanation} {written : List ℕ} (e : Explains bytes list limits' x written) where
      -- For an enforced sheet and a list of its actions: no denial is answered exactly when the board permits every action of the list.
      pub board-permits-exactly : (x ≡ no-denial) ↔ AllPermitted later
      board-permits-exactly =
          (λ q. board-permits (subst (λ (y : Explanation). Explains bytes list limits' y written) q e), λ p. back p (explained-outcome can e))
        where
          back : {y : Explanation} → AllPermitted later → Outcome sheet list y → y ≡ no-denial
          back p (permits n) = refl
          back p (denies place node d) = permitted-not-denied p (first-denied-there d.first (answered can))

      -- And a place is answered exactly when the board denies the action there, and permits each before it.
      pub board-denies-exactly : (place : ℕ) → ((node : ℕ) × (x ≡ denied place node)) ↔ DeniedAfter table later events place
      board-denies-exactly place =
          (λ q. board-denies (subst (λ (y : Explanation). Explains bytes list limits' y written) q.1 e), λ d. back d (explained-outcome can e))
        where
          back : {y : Explanation} → DeniedAfter table later events place → Outcome sheet list y → (node : ℕ) × (y ≡ denied place node)
          back d (permits n) = permitted-not-denied (none-permitted n (answered can)) d
          back d (denies other node b) = (node, ap (λ (p : ℕ). denied p node) (one-count (first-denied-there b.first (answered can)) d))

  -- a new board on which the table was put
  module _ (puts : List Event) (p : PutsOnly puts (table ∷ [])) {later : List Event} (acts : ActsOnly later (reverse list)) {board : Board} {area : List ℕ}
      (h : History (later ++ puts) board area) where
    -- A new board on which the table was put, by itself, permits every action of the list where explaining answers no denial.
    pub new-board-permits : {limits' : Limits} {written : List ℕ} → Explains bytes list limits' no-denial written → AllPermitted later
    new-board-permits = board-permits puts (run-puts-hold p (beginning later puts (history-run h)).1) acts h

    -- Where it answers a denial, that board permits the actions before the place and denies the one there.
    pub new-board-denies : {limits' : Limits} {place node : ℕ} {written : List ℕ} → Explains bytes list limits' (denied place node) written → DeniedAfter table later puts place
    new-board-denies = board-denies puts (run-puts-hold p (beginning later puts (history-run h)).1) acts h
