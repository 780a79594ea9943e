-- The goals of `explaining::reading::first_trip` that the check leaves.
use mathlib.Core.Path.{sym, ◌∙◌, ap}
use native.Mathlib.Numerals.{add-one}
use native.Mathlib.Omega.{arith}
use Rattle.rules.specs.Rules.{part_at, move_of}
use Rattle.rules.proofs.Reading.{goes-below, index-fits}
use Rattle.explaining.proofs.Walks.{sequence-all, next-move, trips-here, trips-nowhere}
use Rattle.explaining.proofs.reading.first_trip.Goals as goal

pub part_move-requires : goal.part_move-requires
part_move-requires c =
    let w = c.requires in
    let a = sequence-all c.args.parts.actions c.args.list.now w.sequence c.loop-place.place 0 (omega arith) in
    (c.args.parts.room, w.readable.node, index-fits (omega (arith, c.loop-place.invariant.0)) c.args.parts.few (omega (arith, c.from.ensures)))

pub returns-in_default : goal.returns-in_default
returns-in_default c =
    let l = c.loop-place in
    trips-here (part_at c.args.parts.actions c.args.parts.work.now c.args.node) c.args.list.now l.place l.row c.from.result (omega arith) l.invariant.1 c.from.ensures
    (sym c.part_move.ensures ∙ ap move_of c.in_default.is)

pub loop-place-preserved : goal.loop-place-preserved
loop-place-preserved c =
    let l = c.loop-place in
    let e = sym c.part_move.ensures ∙ ap move_of c.in-Some.is in (
      goes-below c.requires.readable c.args.parts.actions l.row c.from.result c.in-Some.next e,
      rw (add-one l.place) (next-move (part_at c.args.parts.actions c.args.parts.work.now c.args.node) c.args.list.now l.place l.row c.from.result (omega arith) l.invariant.1 c.from.ensures ∙ e),
    )

pub returns : goal.returns
returns c = trips-nowhere _ c.args.list.now c.loop-place.place (omega arith) c.loop-place.invariant.1
