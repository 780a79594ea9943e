-- The goal of `records::encoding::write_board` that the check leaves.
use native.Mathlib.Omega.{arith}
use lib.Seq.{sets}
use Rattle.std.proofs.Common.{◌≡◌, ◌∙◌, ap}
use Rattle.places.specs.Layout.{place_count}
use Rattle.records.proofs.ReadBack.{bytes-all}
use Rattle.records.proofs.Words.{bytes_of, record-of-words}
use Rattle.records.proofs.encoding.write_board.Goals as goal

pub returns : goal.returns
returns c =
    let args = c.args in
    let words = c.words_of-words in
    let end : c.loop-i.i ≡ place_count = omega arith in
    c.loop-i.invariant
    ∙ ap (sets args.bytes.now 0) (ap (bytes_of words.result) end ∙ record-of-words args.board words.result words.ensures)
    ∙ bytes-all args.board args.bytes.now c.requires
