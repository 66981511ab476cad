use Rattle.std.proofs.Common.{◌<◌, Option, sym, ◌∙◌, subst, arith}
use Rattle.iso_frames.specs.declared.frames.Rest.{Rest}
use Rattle.iso_frames.specs.Frames.{depth_of}
use Rattle.iso_machine.proofs.FrameLemmas.{list_within, frame_falls, frame_goes}
use Rattle.iso_machine.proofs.RoomLemmas.{Counted, counted_all, counted_list, counted_more, counted_none, counted_passed}
use Rattle.iso_machine.proofs.room.members_from.Goals as goal
use Rattle.iso_machine.proofs.room.members_from.Goals.{then-is_some, else-is_some}

pub loop-place-init : goal.loop-place-init
loop-place-init g c = record {
  few = omega arith;
  counted = counted_none g.S.Cells.atom_word c.args.lists.now c.args.place;
}

pub returns-then-count-most-clause-few : goal.returns-then-count-most-clause-few
returns-then-count-most-clause-few g c = λ p ms list.
    counted_all g.S.Cells.atom_word c.args.lists.now c.loop-place.invariant.counted p ms list

pub index-frame-requires : goal.index-frame-requires
index-frame-requires g c =
    let a = g.S.Cells.atom_word in
    let l = c.args.lists.now in
    let within = list_within a l (counted_list a l c.in-Some.rest c.in-Some.is c.loop-place.invariant.counted
    c.requires.0 c.requires.1 c.requires.2).1 in
    omega (arith, within)

pub first_of-requires : goal.first_of-requires
first_of-requires g c =
    let a = g.S.Cells.atom_word in
    let l = c.args.lists.now in
    frame_goes a l (counted_list a l c.in-Some.rest c.in-Some.is c.loop-place.invariant.counted c.requires.0
    c.requires.1 c.requires.2).1 c.index-frame.result.now c.index-frame.ensures

pub loop-place-smaller : goal.loop-place-smaller
loop-place-smaller g c =
    let a = g.S.Cells.atom_word in
    let l = c.args.lists.now in
    let falls = frame_falls a l (counted_list a l c.in-Some.rest c.in-Some.is c.loop-place.invariant.counted
    c.requires.0 c.requires.1 c.requires.2).1 c.index-frame.result.now c.index-frame.ensures in
    subst (λ (place : Option Rest). depth_of c.index-frame.result.now.behind < depth_of place) (sym c.in-Some.is) falls

pub loop-place-preserved : goal.loop-place-preserved
loop-place-preserved g c =
    let a = g.S.Cells.atom_word in
    let l = c.args.lists.now in
    let h = c.loop-place.invariant in
    let few = h.few in
    let f = c.index-frame.result.now in
    elim c.if-is_some.branch [
      | then-is_some w ↦ record {
        few = (let more = w.count-is in let other = c.if-count-most.false in omega (arith, few, more, other));
        counted =
            subst (Counted a l c.args.place f.behind) (sym w.count-is)
            (counted_more a l c.in-Some.rest c.in-Some.is h.counted f c.index-frame.ensures c.first_of.result
            c.first_of.ensures (sym c.is_some.ensures ∙ w.if-is_some.true));
      }
      | else-is_some w ↦ record {
        few = (let same = w.count-is in omega (arith, few, same));
        counted =
            subst (Counted a l c.args.place f.behind) (sym w.count-is)
            (counted_passed a l c.in-Some.rest c.in-Some.is h.counted f c.index-frame.ensures c.first_of.result
            c.first_of.ensures (sym c.is_some.ensures ∙ w.if-is_some.false));
      }
    ]

pub returns-clause-few : goal.returns-clause-few
returns-clause-few g c = λ p ms list.
    counted_all g.S.Cells.atom_word c.args.lists.now c.loop-place.invariant.counted p ms list
