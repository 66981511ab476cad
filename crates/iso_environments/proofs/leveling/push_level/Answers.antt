use Rattle.std.proofs.Common.{refl, arith}
use Rattle.iso_environments.proofs.LeveledLemmas.{has_leveled, frame_read, leveled_frames}
use Rattle.iso_environments.proofs.leveling.push_level.Goals as goal

pub returns-clause-level : goal.returns-clause-level
returns-clause-level c = λ f code level at.
    let old = c.args.frames.now.items in
    let read = c.index-frame.result.now in
    let same = frame_read old c.args.rest.frame f read at.at c.index-frame.ensures in
    let came = leveled_frames old c.push.new.self.items c.args.rest c.args.slot c.args.height f read code
    c.in-Clause.code c.in_ok-clone.field-0 level c.in-Clause.field-1 same at.work c.in-Clause.is
    c.in_ok-clone.ensures.cases c.in_ok-push.ensures.items in
    has_leveled old c.push.new.self.items c.args.rest _ c.args.slot c.args.height f code c.in_ok-clone.field-0 at.at
    came.0
    came.1 (omega arith) refl
