use Rattle.std.proofs.Common.{◌≡◌, rules, refl, ap, ◌∙◌}
use Rattle.iso_store_core.specs.Presents.{meaning}
use Rattle.iso_store.proofs.Gathering.{grows-none}
use Rattle.iso_store.proofs.HeapBuilt.{as_present}
use Rattle.iso_store.proofs.HeapInstructionLemmas.{same-unifies}
use Rattle.iso_store.proofs.MeetingLemmas.{places-kept, met-kept}
use Rattle.iso_store.proofs.heap_meetings.meet_bound.Goals as goal

pub returns-in-Some-clause-met : goal.returns-in-Some-clause-met
returns-in-Some-clause-met c =
    let left = rw c.in-Some.is at c.in_ok-bind_at_once.ensures.met in
    (left.0, (ap (meaning (as_present c.args.heap.now)) c.in-Var.is ∙ left.1, left.2))

pub returns-then-eq : goal.returns-then-eq
returns-then-eq c =
    let same : c.args.one ≡ c.args.other = search rules in
    let now = as_present c.args.heap.now in
    record {
      met = same-unifies now (meaning now c.args.one) (meaning now c.args.other) (ap (meaning now) same);
      places = places-kept _ _;
      cells = grows-none _;
      full = λ e. absurd (cc);
      names = refl;
      marks = λ m p h. h;
    }

pub returns : goal.returns
returns c =
    let shapes = c.meet_bodies.ensures in
    record {
      met = met-kept _ _ _ c.meet_bodies.result shapes.meeting shapes.one_term shapes.other_term;
      places = places-kept _ _;
      cells = grows-none _;
      full = λ e. absurd (cc);
      names = refl;
      marks = λ m p h. h;
    }
