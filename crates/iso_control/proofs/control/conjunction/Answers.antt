use Rattle.std.proofs.Common.{rules, ◌-◌, arith}
use Rattle.iso_plain_core.specs.declared.members.Todo.TheVariants as todo
use Rattle.iso_search.proofs.MovedLemmas.{no_lists, moved_on}
use Rattle.iso_control.proofs.FirstMoves.{Laws}
use Rattle.iso_control.proofs.ControlMoves.{Came, and_parts, apart_falls, takes_apart}
use Rattle.iso_control.proofs.control.conjunction.Given.{Over}
use Rattle.iso_control.proofs.control.conjunction.Goals as goal

-- what the traits promise of the lists
laws : (g : Over) → Laws g.L.Lists g.L.Members
laws g =
    let t = g.met.L.Members in
    let u = g.met.L.Lists in
    record {
      led = t.led;
      leading = t.leading;
      led_cost = t.led_cost;
      led_pending = t.led_pending;
      spans = t.spans;
      all = u.all;
      top = u.top;
      more = u.more;
      words = u.words;
    }

pub overflow_sub-place : goal.overflow_sub-place
overflow_sub-place g c =
    let a = c.args in
    let r = c.requires in
    let parts = and_parts g.S.Store g.L.Lists g.L.Members (laws g) a.search.now r.stands.0 a.first a.place r.now
    r.stands.1 a.distance r.there in
    let some = parts.2 in
    omega (arith, some)

pub overflow_sub-place-2 : goal.overflow_sub-place-2
overflow_sub-place-2 g c =
    let a = c.args in
    let r = c.requires in
    (and_parts g.S.Store g.L.Lists g.L.Members (laws g) a.search.now r.stands.0 a.first a.place r.now r.stands.1
    a.distance r.there).0

pub returns-in_err-second : goal.returns-in_err-second
returns-in_err-second g c =
    no_lists g.S.Store g.L.Lists c.args.search.now c.push_member.new.self c.in_err-second.ensures.keeps
    c.from_residual.result c.from_residual.ensures.0 (search rules)

pub returns : goal.returns
returns g c =
    let a = c.args in
    let e = a.search.now in
    let q = c.requires in
    let more = c.push_member.new.self in
    let ok = c.in_ok-second.ensures in
    let second = c.in_ok-second.second in
    let came : Came g.L.Lists g.L.Members e.lists more (todo.Body (a.place - 1)) a.first.height a.first.behind second =
    record { placed = ok.placed; cost = ok.cost; pending = ok.pending; keeps = ok.keeps; nodes = ok.nodes } in
    let next = c.first_member-next.result in
    let led = c.first_member-next.ensures in
    moved_on g.S.Store g.L.Lists
    (λ s r. takes_apart g.S.Store g.L.Lists g.L.Members (laws g) e s a.first a.place q.now r a.distance q.there more
    second next came led)
    (apart_falls g.S.Store g.L.Lists g.L.Members (laws g) e q.stands.0 a.first a.place q.now q.stands.1 a.distance
    q.there more second next came led) (search rules)
