use Rattle.std.proofs.Common.{refl, arith}
use Rattle.iso_frames.specs.declared.frames.Frame.{Frame}
use Rattle.iso_frames.specs.declared.frames.Work.TheVariants.{Member as OneMember}
use Rattle.iso_machine.specs.declared.framed.Framed.{Framed}
use Rattle.iso_machine.proofs.FrameLemmas.{pushed_list, pushed_cost, pushed_pending}
use Rattle.iso_machine.proofs.framed.Framed.push_member.Goals as goal

pub returns-clause-placed : goal.returns-clause-placed
returns-clause-placed g c =
    λ p m ms member list.
    let new : Framed g.row.S.Denot g.row.S-Word.Denot g.row.S-Mark.Denot =
    record c.args.self.now { frames = c.push.new.self } in
    let f : Frame = record {
      work = OneMember c.args.todo;
      height = c.args.height;
      top = c.len.result;
      behind = c.args.behind;
    } in
    pushed_list g.S.Cells.atom_word c.args.self.now new f c.args.todo c.len-frame.result refl c.in_ok-push.ensures.items
    refl (omega arith) refl (omega arith) member list

pub returns-clause-cost : goal.returns-clause-cost
returns-clause-cost g c =
    let new : Framed g.row.S.Denot g.row.S-Word.Denot g.row.S-Mark.Denot =
    record c.args.self.now { frames = c.push.new.self } in
    let f : Frame = record {
      work = OneMember c.args.todo;
      height = c.args.height;
      top = c.len.result;
      behind = c.args.behind;
    } in
    pushed_cost c.args.self.now new f c.args.todo c.len-frame.result c.in_ok-push.ensures.items (omega arith) refl

pub returns-clause-pending : goal.returns-clause-pending
returns-clause-pending g c =
    let new : Framed g.row.S.Denot g.row.S-Word.Denot g.row.S-Mark.Denot =
    record c.args.self.now { frames = c.push.new.self } in
    let f : Frame = record {
      work = OneMember c.args.todo;
      height = c.args.height;
      top = c.len.result;
      behind = c.args.behind;
    } in
    pushed_pending c.args.self.now new f c.args.todo c.len-frame.result c.in_ok-push.ensures.items (omega arith) refl
