-- `loader::rows::distinct` meets its contract: the entries as next states, refined with as many classes as rows.
use Rattle.std.proofs.Common.{◌≡◌, List, ℕ, ◌++◌, length, take, ◌∙◌, ap, arith}
use lib.Seq.{length-take-le, take_at}
use Rattle.loader.proofs.Apart.{distinct_exactly}
use Rattle.loader.proofs.rows.distinct.Goals as goal

pub returns : goal.returns
returns c =
    let front : (rest : List ℕ) → take (length c.args.entries.now) (c.widen.new.next ++ rest) ≡ c.args.entries.now =
    λ rest. take_at c.widen.new.next rest _ (ap length c.widen.ensures) ∙ c.widen.ensures in
    let all_rows : length (take c.args.rows c.room-classes.result) ≡ c.args.rows = length-take-le _ _ (omega (arith, c.requires.rows-high)) in
    rw c.eq.ensures
    (distinct_exactly _ _ _ _ _ _ ((rw (front _, all_rows) at c.refine-found.ensures) 255 c.requires.machine))
