use Rattle.std.proofs.Common.{rules, ◌-◌, arith}
use Rattle.iso_plain_core.specs.declared.members.Todo.TheVariants as todo
use Rattle.iso_search.proofs.MovedLemmas.{frames_full, no_choice, no_lists, moved_on}
use Rattle.iso_control.proofs.FirstMoves.{Laws}
use Rattle.iso_control.proofs.ControlMoves.{Came, Leaves, either_falls, either_over, full_over, or_parts, takes_either}
use Rattle.iso_control.proofs.control.disjunction.Given.{Over}
use Rattle.iso_control.proofs.control.disjunction.Goals as goal

-- what the traits promise of the lists
laws : (g : Over) → Laws g.L.Lists g.L.Members
laws g =
    let t = g.met.L.Members in
    let u = g.met.L.Lists in
    record {
      led = t.led;
      leading = t.leading;
      led_cost = t.led_cost;
      led_pending = t.led_pending;
      spans = t.spans;
      all = u.all;
      top = u.top;
      more = u.more;
      words = u.words;
    }

pub overflow_sub-place : goal.overflow_sub-place
overflow_sub-place g c =
    let a = c.args in
    let r = c.requires in
    let parts = or_parts g.S.Store g.L.Lists g.L.Members (laws g) a.search.now r.stands.0 a.first a.place r.now
    r.stands.1 a.distance r.there in
    let some = parts.2 in
    omega (arith, some)

pub overflow_sub-place-2 : goal.overflow_sub-place-2
overflow_sub-place-2 g c =
    let a = c.args in
    let r = c.requires in
    (or_parts g.S.Store g.L.Lists g.L.Members (laws g) a.search.now r.stands.0 a.first a.place r.now r.stands.1
    a.distance r.there).0

pub returns-then-not-has_room : goal.returns-then-not-has_room
returns-then-not-has_room g c =
    let a = c.args in
    let e = a.search.now in
    let q = c.requires in
    rw (c.full_frames.ensures.is, c.full_frames.ensures.spent) (frames_full g.S.Store g.L.Lists e
    (λ s r. full_over g.S.Store g.L.Lists g.L.Members (laws g) e s r
    (either_over g.S.Store g.L.Lists g.L.Members (laws g) e s a.first a.place q.now r a.distance q.there)
    (c.has_room.ensures.full c.if-not-has_room.true)))

pub returns-in_err-second : goal.returns-in_err-second
returns-in_err-second g c =
    no_lists g.S.Store g.L.Lists c.args.search.now c.push_member.new.self c.in_err-second.ensures.keeps
    c.from_residual.result c.from_residual.ensures.0 (search rules)

pub returns-in_err-keep_choice : goal.returns-in_err-keep_choice
returns-in_err-keep_choice g c =
    let refused = c.in_err-keep_choice.ensures in
    no_choice g.S.Store g.L.Lists c.args.search.now c.push_member.new.self c.in_ok-second.ensures.keeps
    c.keep_choice.new.store refused.present refused.rest.marks refused.rest.names c.keep_choice.new.choices refused.kept
    c.from_residual-in_err-keep_choice.result c.from_residual-in_err-keep_choice.ensures.0 (search rules)

pub returns : goal.returns
returns g c =
    let a = c.args in
    let e = a.search.now in
    let q = c.requires in
    let more = c.push_member.new.self in
    let store = c.keep_choice.new.store in
    let choices = c.keep_choice.new.choices in
    let ok = c.in_ok-second.ensures in
    let second = c.in_ok-second.second in
    let made = c.in_ok-keep_choice.ensures in
    let came : Came g.L.Lists g.L.Members e.lists more (todo.Body (a.place - 1)) a.first.height a.first.behind second =
    record { placed = ok.placed; cost = ok.cost; pending = ok.pending; keeps = ok.keeps; nodes = ok.nodes } in
    let leaves : Leaves g.S.Store g.L.Lists e more second store choices = record {
      same = made.present;
      marks = made.rest.marks;
      texts = made.rest.names;
      gains = rw c.kept-kept.ensures at made.gains;
    } in
    let next = c.first_member-next.result in
    let led = c.first_member-next.ensures in
    let room = c.has_room.ensures.room c.if-not-has_room.false in
    moved_on g.S.Store g.L.Lists
    (λ s r. takes_either g.S.Store g.L.Lists g.L.Members (laws g) e s a.first a.place q.now r a.distance q.there more
    second next came store choices leaves led)
    (either_falls g.S.Store g.L.Lists g.L.Members (laws g) e q.stands.0 a.first a.place q.now q.stands.1 a.distance
    q.there more second next came store choices leaves led) (search rules)
