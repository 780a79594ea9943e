-- The answers of explaining as numbers.
-- Assumes nothing.
use Rattle.std.specs.Prelude.{ℕ}
use Rattle.explaining.specs.Explains.{Explanation, no-denial, denied, refused}
use Rattle.answers.specs.Numbers.{pack}

-- 0 where no action is denied; for a denial 255 and the node, its place being written to the lent list; for a refusal its number and spot.
abbrev pub packed_explanation : Explanation → ℕ
packed_explanation no-denial = pack 0 0 0 0
packed_explanation (denied place node) = pack 255 node 0 0
packed_explanation (refused number spot) = pack number spot 0 0
