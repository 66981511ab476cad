use Rattle.std.proofs.Common.{refl, sym}
use Rattle.std.proofs.lemmas.Option.{slice_get_within}
use Rattle.iso_search_core.proofs.StandingLemmas.{item_there}
use Rattle.iso_machine.proofs.goal_places.code_at.Goals as goal

pub returns-in-Clause : goal.returns-in-Clause
returns-in-Clause g c =
    let t = rw c.in-There.is at c.requires in
    let r = c.in-There.rest in
    let f = c.index-frames-rest.result in
    let there = item_there c.args.frames.now r.frame f
    (slice_get_within c.args.frames.now r.frame t.1.frame t.1.clause.at) c.index-frames-rest.is in
    rw c.in-There.is (
      refl,
      record {
        frame = f;
        copy = c.in-Clause.code;
        level = c.in-Clause.field-1;
        at = record { at = there; work = c.in-Clause.is };
        same = sym c.as_ref.ensures;
        top_is = refl;
        behind_is = refl;
      },
    )
