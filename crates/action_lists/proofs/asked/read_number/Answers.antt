-- `action_lists::asked::read_number` meets its contract.
use Rattle.std.proofs.Common.{rules, arith, ◌≡◌, sym, ◌∙◌, ap, ℕ, ◌+◌, ◌*◌, drop, get_or, true}
use Rattle.grammar.specs.Spelling.{is_digit}
use Rattle.action_lists.specs.AskedLists.{number_from}
use Rattle.action_lists.proofs.Asking.{digit-more, number-large, number-ends, number-wrong}
use Rattle.action_lists.proofs.asked.read_number.Goals as goal
use Rattle.action_lists.proofs.asked.read_number.Goals.{After-from}

pub returns-then-not-is_ascii_digit : goal.returns-then-not-is_ascii_digit
returns-then-not-is_ascii_digit c =
    let l = c.loop-byte in
    sym (number-wrong l.value _ l.byte-index (omega arith) (search rules)) ∙ l.invariant.1

module _ (c : After-from) where
  abbrev value : ℕ
  value = c.loop-byte.value

  more : number_from value (drop c.loop-byte.byte-index c.args.word.now) ≡ number_from (10 * value + c.from.result) (drop (c.loop-byte.byte-index + 1) c.args.word.now)
  more =
      let digit : is_digit (get_or c.args.word.now c.loop-byte.byte-index 0) ≡ true = search rules in
      digit-more value c.args.word.now c.loop-byte.byte-index (omega arith) digit ∙ ap (λ (n : ℕ). number_from (10 * value + n) (drop (c.loop-byte.byte-index + 1) c.args.word.now)) (sym c.from.ensures)

pub returns-then-value-gt254 : goal.returns-then-value-gt254
returns-then-value-gt254 c = sym (number-large _ _ c.if-value-gt254.true) ∙ sym (more (goal.at.returns-then-value-gt254 c).After-from) ∙ c.loop-byte.invariant.1

pub loop-byte-preserved : goal.loop-byte-preserved
loop-byte-preserved c = (omega arith, sym (more (goal.at.loop-byte-preserved c).After-from) ∙ c.loop-byte.invariant.1)

pub returns : goal.returns
returns c = sym (number-ends _ _ c.loop-byte.byte-index c.loop-byte.invariant.0 (omega arith)) ∙ c.loop-byte.invariant.1
