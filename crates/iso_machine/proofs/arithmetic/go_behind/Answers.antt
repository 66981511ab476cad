use Rattle.std.proofs.Common.{rules}
use Rattle.iso_frames.specs.declared.frames.Next.TheVariants as next
use Rattle.iso_machine.proofs.FrameLemmas.{frame_goes, frame_first, frame_cost, frame_pending}
use Rattle.iso_machine.proofs.Moves.Arithmetic.{stops_first}
use Rattle.iso_machine.proofs.arithmetic.go_behind.Goals as goal

pub stops_there-requires : goal.stops_there-requires
stops_there-requires g c =
    frame_goes g.S.Cells.atom_word c.args.search.now.lists c.requires.1 c.index.result.now c.index.ensures

pub returns-then-stops_there : goal.returns-then-stops_there
returns-then-stops_there g c =
    let a = g.S.Cells.atom_word in
    let lists = c.args.search.now.lists in
    let f = c.index.result.now in
    let n = next.Code c.args.place in
    let first = stops_first _ f c.args.place f.work (c.stops_there.ensures c.if-stops_there.true) in
    record {
      behind = λ ms list. (frame_first a lists list f c.index.ensures n first, frame_pending a lists list f c.index.ensures n first);
      cost = frame_cost a lists c.requires.1 f c.index.ensures n first;
      awake = search rules;
      same = search rules;
    }
