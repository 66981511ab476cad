use Rattle.std.proofs.Common.{rules, ◌≡◌, ◌-◌, length, arith}
use Rattle.iso_plain_core.specs.declared.members.Todo.TheVariants as todo
use Rattle.iso_search_core.proofs.StandingLemmas.{keeps_both}
use Rattle.iso_search.proofs.MovedLemmas.{no_lists, moved_on}
use Rattle.iso_control.proofs.FirstMoves.{Laws}
use Rattle.iso_control.proofs.ControlMoves.{Came, condition_falls, if_parts, takes_condition}
use Rattle.iso_control.proofs.control.if_then.Given.{Over}
use Rattle.iso_control.proofs.control.if_then.Goals as goal

-- what the traits promise of the lists
laws : (g : Over) → Laws g.L.Lists g.L.Members
laws g =
    let t = g.met.L.Members in
    let u = g.met.L.Lists in
    record {
      led = t.led;
      leading = t.leading;
      led_cost = t.led_cost;
      led_pending = t.led_pending;
      spans = t.spans;
      all = u.all;
      top = u.top;
      more = u.more;
      words = u.words;
    }

pub overflow_sub-place : goal.overflow_sub-place
overflow_sub-place g c =
    let a = c.args in
    let r = c.requires in
    let parts = if_parts g.S.Store g.L.Lists g.L.Members (laws g) a.search.now r.stands.0 a.first a.place r.now
    r.stands.1 a.distance r.there in
    let some = parts.2 in
    omega (arith, some)

pub overflow_sub-place-2 : goal.overflow_sub-place-2
overflow_sub-place-2 g c =
    let a = c.args in
    let r = c.requires in
    (if_parts g.S.Store g.L.Lists g.L.Members (laws g) a.search.now r.stands.0 a.first a.place r.now r.stands.1
    a.distance r.there).0

pub returns-in_err-behind : goal.returns-in_err-behind
returns-in_err-behind g c =
    no_lists g.S.Store g.L.Lists c.args.search.now c.push_member.new.self c.in_err-behind.ensures.keeps
    c.from_residual.result c.from_residual.ensures.0 (search rules)

pub returns-in_err-once : goal.returns-in_err-once
returns-in_err-once g c =
    no_lists g.S.Store g.L.Lists c.args.search.now c.push_member-2.new.self
    (keeps_both g.L.Lists c.in_ok-behind.ensures.keeps c.in_err-once.ensures.keeps)
    c.from_residual-in_err-once.result c.from_residual-in_err-once.ensures.0 (search rules)

pub returns : goal.returns
returns g c =
    let a = c.args in
    let e = a.search.now in
    let q = c.requires in
    let middle = c.push_member.new.self in
    let more = c.push_member-2.new.self in
    let ok = c.in_ok-behind.ensures in
    let also = c.in_ok-once.ensures in
    let behind = c.in_ok-behind.behind in
    let once = c.in_ok-once.once in
    let height = c.len-height.result in
    let many : height ≡ length e.choices.items = cc (c.len-height.ensures, e.choices.ok.0) in
    let came : Came g.L.Lists g.L.Members e.lists middle (todo.Body (a.place - 1)) a.first.height a.first.behind
    behind = record {
      placed = ok.placed;
      cost = ok.cost;
      pending = ok.pending;
      keeps = ok.keeps;
      nodes = ok.nodes;
    } in
    let cut : Came g.L.Lists g.L.Members middle more todo.CutTo height behind once = record {
      placed = also.placed;
      cost = also.cost;
      pending = also.pending;
      keeps = also.keeps;
      nodes = also.nodes;
    } in
    let next = c.first_member-next.result in
    let led = c.first_member-next.ensures in
    moved_on g.S.Store g.L.Lists
    (λ s r. takes_condition g.S.Store g.L.Lists g.L.Members (laws g) e s a.first a.place q.now r a.distance height
    q.there middle more behind once next many came cut led)
    (condition_falls g.S.Store g.L.Lists g.L.Members (laws g) e q.stands.0 a.first a.place q.now q.stands.1 a.distance
    height q.there middle more behind once next many came cut led) (search rules)
