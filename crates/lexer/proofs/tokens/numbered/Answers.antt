-- `lexer::tokens::numbered` meets its contract.
use Rattle.std.proofs.Common.{◌∙◌, arith}
use borrow.Author.Tests.{ltb-true}
use Rattle.lexer.proofs.Spelled.{behind-p, without-p, no_p}
use Rattle.lexer.proofs.tokens.numbered.Goals as goal
use Rattle.lexer.proofs.tokens.numbered.Goals.{in_default-via-then-word-lt1, in_default-via-else-word-lt1+in_default-1}

pub returns-in-112 : goal.returns-in-112
returns-in-112 c = c.proposition.ensures ∙ behind-p c.args.word.now (omega arith) (omega arith)

pub returns-in_default : goal.returns-in_default
returns-in_default c =
    c.number.ensures ∙ without-p c.args.word.now (λ e. elim c.in_default.branch [
      | in_default-via-then-word-lt1 w ↦ no_p c.args.word.now (omega (arith, ltb-true)) e
      | in_default-via-else-word-lt1+in_default-1 w ↦ omega arith
    ])
