use Rattle.iso_store.proofs.heap_meetings.meet_variable.Goals as goal

pub returns-in-Some : goal.returns-in-Some
returns-in-Some c =
    let all = c.in_ok-bind_at_once.ensures in
    let left = rw c.in-Some.is at all.met in
    record {
      met = (left.0, (left.1, left.2));
      places = all.places;
      cells = all.cells;
      full = λ e. absurd (cc);
      names = all.names;
      marks = all.marks;
    }
