-- `part_words::kinds::add_word` meets its contract: the text that holds all words is the list of them, by computation.
use mathlib.Core.Path.{◌≡◌, refl, ap, ◌∙◌}
use mathlib.Core.Bool.{true}
use mathlib.Core.List.{List, []}
use Prim.Native.Nat.{ℕ}
use Rattle.fields.specs.Fields.{all_unmarked}
use Rattle.fields.proofs.Listed.{listed_at}
use Rattle.messages.specs.Message.{filled}
use Rattle.messages.proofs.Adding.{adds-as}
use Rattle.part_words.specs.Kinds.{kind_words}
use Rattle.part_words.proofs.KindLaws.{word-unfilled}
use Rattle.part_words.proofs.kinds.add_word.Goals as goal

none-marked : all_unmarked 124 kind_words ≡ true
none-marked = refl

pub returns : goal.returns
returns c =
    let kind = c.args.kind in
    adds-as (ap (λ (m : List ℕ). filled m 0 0 []) (listed_at 124 kind_words kind none-marked) ∙ word-unfilled kind) c.add_listed.ensures
