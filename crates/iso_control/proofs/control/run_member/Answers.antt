use Rattle.iso_search.proofs.MovedLemmas.{moved_over}
use Rattle.iso_control.proofs.FirstMoves.{Laws, cut_first, fail_first, leave_first}
use Rattle.iso_control.proofs.control.run_member.Given.{Over}
use Rattle.iso_control.proofs.control.run_member.Goals as goal

-- what the traits promise of the lists
laws : (g : Over) → Laws g.L.Lists g.L.Members
laws g =
    let t = g.met.L.Members in
    let u = g.met.L.Lists in
    record {
      led = t.led;
      leading = t.leading;
      led_cost = t.led_cost;
      led_pending = t.led_pending;
      spans = t.spans;
      all = u.all;
      top = u.top;
      more = u.more;
      words = u.words;
    }

pub cut-requires-clause-first : goal.cut-requires-clause-first
cut-requires-clause-first g c =
    cut_first g.S.Store g.L.Lists g.L.Members (laws g) c.args.search.now c.args.first c.requires.now c.in-CutTo.is

pub leave-requires-clause-first : goal.leave-requires-clause-first
leave-requires-clause-first g c =
    leave_first g.S.Store g.L.Lists g.L.Members (laws g) c.args.search.now c.args.first c.requires.now c.in-Leave.is

pub fail_first-requires-clause-first : goal.fail_first-requires-clause-first
fail_first-requires-clause-first g c =
    fail_first g.S.Store g.L.Lists g.L.Members (laws g) c.args.search.now c.args.first c.requires.now c.in-Fail.is

pub returns-in-CutTo : goal.returns-in-CutTo
returns-in-CutTo g c = moved_over g.S.Store g.L.Lists (λ s h. absurd h) c.cut.ensures

pub returns-in-Fail : goal.returns-in-Fail
returns-in-Fail g c = moved_over g.S.Store g.L.Lists (λ s h. absurd h) c.fail_first.ensures

pub returns-in-Leave : goal.returns-in-Leave
returns-in-Leave g c = moved_over g.S.Store g.L.Lists (λ s h. absurd h) c.leave.ensures

pub returns-in-Gather : goal.returns-in-Gather
returns-in-Gather g c = moved_over g.S.Store g.L.Lists (λ s h. absurd h) c.gather.ensures
