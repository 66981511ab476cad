use Rattle.std.proofs.Common.{rules, ◌≡◌, ◌-◌, length, arith}
use Rattle.iso_plain_core.specs.declared.members.Todo.TheVariants as todo
use Rattle.iso_search_core.proofs.StandingLemmas.{keeps_both}
use Rattle.iso_search.proofs.MovedLemmas.{frames_full, moved_not, moved_on, no_choice, no_lists}
use Rattle.iso_control.proofs.FirstMoves.{Laws}
use Rattle.iso_control.proofs.ControlMoves.{Came, Leaves, full_over}
use Rattle.iso_control.proofs.ControlMoves.{choose_falls, choose_over, choose_parts, choose_refused, chooses}
use Rattle.iso_control.proofs.control.if_then_else.Given.{Over}
use Rattle.iso_control.proofs.control.if_then_else.Goals as goal
use Rattle.iso_control.proofs.control.if_then_else.Goals.{In_ok-keep_choice}

-- what the traits promise of the lists
laws : (g : Over) → Laws g.L.Lists g.L.Members
laws g =
    let t = g.met.L.Members in
    let u = g.met.L.Lists in
    record {
      led = t.led;
      leading = t.leading;
      led_cost = t.led_cost;
      led_pending = t.led_pending;
      spans = t.spans;
      all = u.all;
      top = u.top;
      more = u.more;
      words = u.words;
    }

pub overflow_sub-place : goal.overflow_sub-place
overflow_sub-place g c =
    let a = c.args in
    let r = c.requires in
    let parts = choose_parts g.S.Store g.L.Lists g.L.Members (laws g) a.search.now r.stands.0 a.first a.place r.now
    r.stands.1 a.condition a.next r.there in
    let some = parts.4 in
    omega (arith, some)

pub overflow_sub-place-2 : goal.overflow_sub-place-2
overflow_sub-place-2 g c =
    let a = c.args in
    let r = c.requires in
    (choose_parts g.S.Store g.L.Lists g.L.Members (laws g) a.search.now r.stands.0 a.first a.place r.now r.stands.1
    a.condition a.next r.there).1

pub overflow_sub-place-3 : goal.overflow_sub-place-3
overflow_sub-place-3 g c =
    let a = c.args in
    let r = c.requires in
    (choose_parts g.S.Store g.L.Lists g.L.Members (laws g) a.search.now r.stands.0 a.first a.place r.now r.stands.1
    a.condition a.next r.there).0

pub returns-then-not-has_room : goal.returns-then-not-has_room
returns-then-not-has_room g c =
    let a = c.args in
    let e = a.search.now in
    let q = c.requires in
    rw (c.full_frames.ensures.is, c.full_frames.ensures.spent) (frames_full g.S.Store g.L.Lists e
    (λ s r. full_over g.S.Store g.L.Lists g.L.Members (laws g) e s r
    (choose_over g.S.Store g.L.Lists g.L.Members (laws g) e s a.first a.place q.now r a.condition a.next q.there)
    (c.has_room.ensures.full c.if-not-has_room.true)))

pub returns-in_err-other : goal.returns-in_err-other
returns-in_err-other g c =
    no_lists g.S.Store g.L.Lists c.args.search.now c.push_member.new.self c.in_err-other.ensures.keeps
    c.from_residual.result c.from_residual.ensures.0 (search rules)

pub returns-in_err-keep_choice : goal.returns-in_err-keep_choice
returns-in_err-keep_choice g c =
    let refused = c.in_err-keep_choice.ensures in
    no_choice g.S.Store g.L.Lists c.args.search.now c.push_member.new.self c.in_ok-other.ensures.keeps
    c.keep_choice.new.store refused.present refused.rest.marks refused.rest.names c.keep_choice.new.choices refused.kept
    c.from_residual-in_err-keep_choice.result c.from_residual-in_err-keep_choice.ensures.0 (search rules)

-- what came before the members behind the choice
came_first : (g : Over) (c : In_ok-keep_choice g) → Came g.L.Lists g.L.Members c.args.search.now.lists
    c.push_member.new.self (todo.Body (c.args.place - 1)) c.args.first.height c.args.first.behind c.in_ok-other.other
came_first g c =
    let ok = c.in_ok-other.ensures in
    record { placed = ok.placed; cost = ok.cost; pending = ok.pending; keeps = ok.keeps; nodes = ok.nodes }

choice_came : (g : Over) (c : In_ok-keep_choice g) → Leaves g.S.Store g.L.Lists c.args.search.now
    c.push_member.new.self c.in_ok-other.other c.keep_choice.new.store c.keep_choice.new.choices
choice_came g c =
    let made = c.in_ok-keep_choice.ensures in
    record {
      same = made.present;
      marks = made.rest.marks;
      texts = made.rest.names;
      gains = rw c.kept-kept.ensures at made.gains;
    }

pub returns-in_err-behind : goal.returns-in_err-behind
returns-in_err-behind g c =
    let a = c.args in
    let q = c.requires in
    let before = (goal.at.returns-in_err-behind g c).In_ok-keep_choice in
    let room = c.has_room.ensures.room c.if-not-has_room.false in
    moved_not g.S.Store g.L.Lists c.from_residual-in_err-behind.result c.from_residual-in_err-behind.ensures.0
    (λ s r. choose_refused g.S.Store g.L.Lists g.L.Members (laws g) a.search.now s a.first a.place q.now r a.condition
    a.next q.there c.push_member.new.self c.in_ok-other.other (came_first g before) c.keep_choice.new.store
    c.keep_choice.new.choices (choice_came g before) c.push_member-2.new.self c.in_err-behind.ensures.keeps)
    (search rules) (search rules)

pub returns-in_err-once : goal.returns-in_err-once
returns-in_err-once g c =
    let a = c.args in
    let q = c.requires in
    let before = (goal.at.returns-in_err-once g c).In_ok-keep_choice in
    let room = c.has_room.ensures.room c.if-not-has_room.false in
    moved_not g.S.Store g.L.Lists c.from_residual-in_err-once.result c.from_residual-in_err-once.ensures.0
    (λ s r. choose_refused g.S.Store g.L.Lists g.L.Members (laws g) a.search.now s a.first a.place q.now r a.condition
    a.next q.there c.push_member.new.self c.in_ok-other.other (came_first g before) c.keep_choice.new.store
    c.keep_choice.new.choices (choice_came g before) c.push_member-3.new.self
    (keeps_both g.L.Lists c.in_ok-behind.ensures.keeps c.in_err-once.ensures.keeps))
    (search rules) (search rules)

pub returns : goal.returns
returns g c =
    let a = c.args in
    let e = a.search.now in
    let q = c.requires in
    let one = c.push_member.new.self in
    let two = c.push_member-2.new.self in
    let three = c.push_member-3.new.self in
    let other = c.in_ok-other.other in
    let behind = c.in_ok-behind.behind in
    let once = c.in_ok-once.once in
    let store = c.keep_choice.new.store in
    let choices = c.keep_choice.new.choices in
    let ok = c.in_ok-behind.ensures in
    let also = c.in_ok-once.ensures in
    let height = c.len-height.result in
    let many : height ≡ length e.choices.items = cc (c.len-height.ensures, e.choices.ok.0) in
    let before = (goal.at.returns g c).In_ok-keep_choice in
    let came = came_first g before in
    let leaves = choice_came g before in
    let body : Came g.L.Lists g.L.Members one two (todo.Body (a.place - a.next)) a.first.height a.first.behind behind =
    record { placed = ok.placed; cost = ok.cost; pending = ok.pending; keeps = ok.keeps; nodes = ok.nodes } in
    let cut : Came g.L.Lists g.L.Members two three todo.CutTo height behind once = record {
      placed = also.placed;
      cost = also.cost;
      pending = also.pending;
      keeps = also.keeps;
      nodes = also.nodes;
    } in
    let next = c.first_member-comes.result in
    let led = c.first_member-comes.ensures in
    let room = c.has_room.ensures.room c.if-not-has_room.false in
    moved_on g.S.Store g.L.Lists
    (λ s r. chooses g.S.Store g.L.Lists g.L.Members (laws g) e s a.first a.place q.now r a.condition a.next q.there one
    other came store choices leaves height two three behind once next many body cut led)
    (choose_falls g.S.Store g.L.Lists g.L.Members (laws g) e q.stands.0 a.first a.place q.now q.stands.1 a.condition
    a.next q.there one other came store choices leaves height two three behind once next many body cut led)
    (search rules)
