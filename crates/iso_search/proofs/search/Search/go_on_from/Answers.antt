use Rattle.std.proofs.Common.{rules, ap, refl, arith}
use Rattle.std.proofs.lemmas.Result.{on_err_weaker, IfOk-weaker}
use Rattle.iso_model.specs.Search.BuiltIns.{Calls, CallsOnce, Raises, Refutes}
use Rattle.iso_search.specs.EngineStates.{phase_of}
use Rattle.iso_model.specs.Terms.TermOf.{term_of}
use Rattle.iso_model.specs.Terms.Trees.{Tree}
use Rattle.iso_model.specs.Search.Walker.{World}
use Rattle.iso_model.specs.Search.Settlements.{Settled}
use Rattle.iso_model.specs.Search.Settings.{setting_settled}
use Rattle.iso_model.specs.Search.AtomParts.{parts_settled}
use Rattle.iso_store_core.proofs.RetainLemmas.{takes_same}
use Rattle.iso_search_core.specs.declared.replies.Replied.TheVariants as replied
use Rattle.iso_search_core.specs.declared.nows.Now.TheVariants as now
use Rattle.iso_search.proofs.LimitLemmas.{result_full}
use Rattle.iso_search.proofs.RunCosts.{next_falls, throws_falls}
use Rattle.iso_search.proofs.ReplyKinds.{replied_as, asks_as, went_words, unbound_same}
use Rattle.iso_search.proofs.Moves.Reply.{moved_behind, stays_took, base_took, world_took, list_took, asks_at, asked_now, asked_stops, asked_over, setting_asks, storing, stores_at, stores_now, store_stops, store_over, writing, writes_at, writes_now, write_stops, goes_on, fails_now, unbound_ahead, raises_now, halts_now, after, enters_catch, none_raised, inside_can, inside_converted, calls_inside_now, call_inside_stops, call_inside_over, throws_inside_now, throw_inside_stops, throw_inside_over, called, called_ahead, calls_now, calls_stops, once_now, once_stops, refutes_now, refute_stops, refute_over, repeating, repeating_ahead, repeats_now, repeat_stops, repeat_over, behind_findall, enters_findall, solved_can, solved_converted, finds_now, find_stops, find_over, parts_at, parts_ask}
use Rattle.iso_search.proofs.MovedLemmas.{moved_on, moved_pauses}
use Rattle.iso_search.proofs.Moves.Groups.{behind_groups, enters_groups, stripped_can, stripped_converted, groups_now, groups_stop, groups_over}
use Rattle.iso_search.proofs.Moves.Word.{arguments_still}
use Rattle.iso_search.proofs.search.Search.go_on_from.Goals as goal

-- ---- it succeeded, or failed, or an error is raised

pub coming-self-requires : goal.coming-self-requires
coming-self-requires g c =
    let has = c.requires.2 in
    (_, list_took g.S.Store g.L.Lists has.took c.requires.3.0 c.requires.3.1 (went_words (replied_as g.S.Store g.L.Lists has replied.GoesOn c.in-GoesOn.is)))

pub returns-in-GoesOn : goal.returns-in-GoesOn
returns-in-GoesOn g c = λ e b z has stands.
    (moved_on g.S.Store g.L.Lists
    (λ s r. goes_on g.S.Store g.L.Lists has.took s r c.coming-self.result c.coming-self.ensures.behind c.coming-self.ensures.awake _ refl (replied_as g.S.Store g.L.Lists has replied.GoesOn c.in-GoesOn.is))
    (let cost = c.coming-self.ensures.cost in next_falls g.S.Store g.L.Lists has.took z stands c.coming-self.result (omega (arith, cost)))
    (stays_took g.S.Store g.L.Lists has.took z stands (search rules)))

pub returns-in-Fails : goal.returns-in-Fails
returns-in-Fails g c = λ e b z has stands.
    (moved_on g.S.Store g.L.Lists
    (λ s r. fails_now g.S.Store g.L.Lists has.took s r _ refl (replied_as g.S.Store g.L.Lists has replied.Fails c.in-Fails.is))
    (next_falls g.S.Store g.L.Lists has.took z stands now.Failing (omega arith))
    (stays_took g.S.Store g.L.Lists has.took z stands (search rules)))

pub throw-requires : goal.throw-requires
throw-requires g c =
    let by = replied_as g.S.Store g.L.Lists c.requires.2 (replied.Raises c.in-Raises.ball) c.in-Raises.is in
    by.1

pub returns-in-Raises : goal.returns-in-Raises
returns-in-Raises g c = λ e b z has stands.
    (let by = replied_as g.S.Store g.L.Lists has (replied.Raises c.in-Raises.ball) c.in-Raises.is in
    moved_on g.S.Store g.L.Lists
    (λ s r. (let ahead = unbound_ahead g.S.Store g.L.Lists has.took s r (term_of c.in-Raises.ball.term.value) by.0 by.2 in
    raises_now g.S.Store g.L.Lists has.took s r c.throw.new.self (term_of c.in-Raises.ball.term.value) by.0 (c.throw.ensures.thrown _ ahead) (rw c.throw.ensures.now tt)))
    (throws_falls g.S.Store g.L.Lists has.took z stands c.throw.new.self c.throw.ensures.now c.throw.ensures.same)
    (stays_took g.S.Store g.L.Lists has.took z stands c.throw.ensures.stays))

-- ---- a goal is run

pub call_body-requires : goal.call_body-requires
call_body-requires g c =
    let has = c.requires.2 in
    let by = replied_as g.S.Store g.L.Lists has (replied.Calls c.in-Calls.body) c.in-Calls.is in
    (called g.S.Store g.L.Lists has.took c.requires.3.0 c.requires.3.1 by.0 c.in-Calls.body by.2, by.2.own, called_ahead g.S.Store g.L.Lists has.took c.requires.3.0 c.requires.3.1 by.0 c.in-Calls.body by.2 (Calls by.0) by.1 refl, by.2.stands)

pub returns-in-Calls : goal.returns-in-Calls
returns-in-Calls g c = λ e b z has stands.
    (let by = replied_as g.S.Store g.L.Lists has (replied.Calls c.in-Calls.body) c.in-Calls.is in
    moved_behind g.S.Store g.L.Lists has.took z stands c.call_body.result c.call_body.new.self
    (λ s r. (let u = called g.S.Store g.L.Lists has.took s r by.0 c.in-Calls.body by.2 in
    IfOk-weaker c.call_body.result _ _ (calls_now g.S.Store g.L.Lists has.took s r by.0 c.in-Calls.body by.2 by.1 c.call_body.new.self) (c.call_body.ensures.called u by.2.own (called_ahead g.S.Store g.L.Lists has.took s r by.0 c.in-Calls.body by.2 (Calls by.0) by.1 refl) by.2.stands)))
    (λ s r. (let u = called g.S.Store g.L.Lists has.took s r by.0 c.in-Calls.body by.2 in
    on_err_weaker c.call_body.result (calls_stops g.S.Store g.L.Lists has.took s r by.0 c.in-Calls.body by.2 by.1 c.call_body.new.self) (c.call_body.ensures.kept u (called_ahead g.S.Store g.L.Lists has.took s r by.0 c.in-Calls.body by.2 (Calls by.0) by.1 refl))))
    c.call_body.ensures.falls (λ s r. result_full c.call_body.result (λ h. absurd h) c.call_body.ensures.frames) c.call_body.ensures.met c.call_body.ensures.stays)

-- ---- for its first solution

pub call_once-requires : goal.call_once-requires
call_once-requires g c =
    let has = c.requires.2 in
    let by = replied_as g.S.Store g.L.Lists has (replied.CallsOnce c.in-CallsOnce.body) c.in-CallsOnce.is in
    (called g.S.Store g.L.Lists has.took c.requires.3.0 c.requires.3.1 by.0 c.in-CallsOnce.body by.2, by.2.own, called_ahead g.S.Store g.L.Lists has.took c.requires.3.0 c.requires.3.1 by.0 c.in-CallsOnce.body by.2 (CallsOnce by.0) by.1 refl, by.2.stands)

pub returns-in-CallsOnce : goal.returns-in-CallsOnce
returns-in-CallsOnce g c = λ e b z has stands.
    (let by = replied_as g.S.Store g.L.Lists has (replied.CallsOnce c.in-CallsOnce.body) c.in-CallsOnce.is in
    moved_behind g.S.Store g.L.Lists has.took z stands c.call_once.result c.call_once.new.self
    (λ s r. (let u = called g.S.Store g.L.Lists has.took s r by.0 c.in-CallsOnce.body by.2 in
    IfOk-weaker c.call_once.result _ _ (once_now g.S.Store g.L.Lists has.took s r by.0 c.in-CallsOnce.body by.2 by.1 c.call_once.new.self) (c.call_once.ensures.called u by.2.own (called_ahead g.S.Store g.L.Lists has.took s r by.0 c.in-CallsOnce.body by.2 (CallsOnce by.0) by.1 refl) by.2.stands)))
    (λ s r. (let u = called g.S.Store g.L.Lists has.took s r by.0 c.in-CallsOnce.body by.2 in
    on_err_weaker c.call_once.result (once_stops g.S.Store g.L.Lists has.took s r by.0 c.in-CallsOnce.body by.2 by.1 c.call_once.new.self) (c.call_once.ensures.kept u (called_ahead g.S.Store g.L.Lists has.took s r by.0 c.in-CallsOnce.body by.2 (CallsOnce by.0) by.1 refl))))
    c.call_once.ensures.falls (λ s r. result_full c.call_once.result (λ h. absurd h) c.call_once.ensures.frames) c.call_once.ensures.met c.call_once.ensures.stays)

-- ---- refuted

pub refute-requires : goal.refute-requires
refute-requires g c =
    let has = c.requires.2 in
    let by = replied_as g.S.Store g.L.Lists has (replied.Refutes c.in-Refutes.body) c.in-Refutes.is in
    (called g.S.Store g.L.Lists has.took c.requires.3.0 c.requires.3.1 by.0 c.in-Refutes.body by.2, by.2.own, called_ahead g.S.Store g.L.Lists has.took c.requires.3.0 c.requires.3.1 by.0 c.in-Refutes.body by.2 (Refutes by.0) by.1 refl, by.2.stands)

pub returns-in-Refutes : goal.returns-in-Refutes
returns-in-Refutes g c = λ e b z has stands.
    (let by = replied_as g.S.Store g.L.Lists has (replied.Refutes c.in-Refutes.body) c.in-Refutes.is in
    moved_behind g.S.Store g.L.Lists has.took z stands c.refute.result c.refute.new.self
    (λ s r. (let u = called g.S.Store g.L.Lists has.took s r by.0 c.in-Refutes.body by.2 in
    IfOk-weaker c.refute.result _ _ (refutes_now g.S.Store g.L.Lists has.took s r by.0 c.in-Refutes.body by.2 by.1 c.refute.new.self) (c.refute.ensures.called u by.2.own (called_ahead g.S.Store g.L.Lists has.took s r by.0 c.in-Refutes.body by.2 (Refutes by.0) by.1 refl) by.2.stands)))
    (λ s r. (let u = called g.S.Store g.L.Lists has.took s r by.0 c.in-Refutes.body by.2 in
    on_err_weaker c.refute.result (refute_stops g.S.Store g.L.Lists has.took s r by.0 c.in-Refutes.body by.2 by.1 c.refute.new.self) (c.refute.ensures.kept u (called_ahead g.S.Store g.L.Lists has.took s r by.0 c.in-Refutes.body by.2 (Refutes by.0) by.1 refl))))
    c.refute.ensures.falls (λ s r. result_full c.refute.result (refute_over g.S.Store g.L.Lists has.took s r by.0 c.in-Refutes.body by.2 by.1) c.refute.ensures.frames) c.refute.ensures.met c.refute.ensures.stays)

-- ---- again and again

pub repeat-requires : goal.repeat-requires
repeat-requires g c =
    let has = c.requires.2 in
    let by = replied_as g.S.Store g.L.Lists has replied.Repeats c.in-Repeats.is in
    (repeating g.S.Store g.L.Lists has.took c.requires.3.0 c.requires.3.1 by.0 by.1, repeating_ahead g.S.Store g.L.Lists has.took c.requires.3.0 c.requires.3.1 by.0 by.1)

pub returns-in-Repeats : goal.returns-in-Repeats
returns-in-Repeats g c = λ e b z has stands.
    (let by = replied_as g.S.Store g.L.Lists has replied.Repeats c.in-Repeats.is in
    moved_behind g.S.Store g.L.Lists has.took z stands c.repeat.result c.repeat.new.self
    (λ s r. IfOk-weaker c.repeat.result _ _ (repeats_now g.S.Store g.L.Lists has.took s r by.0 by.1 c.repeat.new.self) (c.repeat.ensures.called (repeating g.S.Store g.L.Lists has.took s r by.0 by.1) (repeating_ahead g.S.Store g.L.Lists has.took s r by.0 by.1)))
    (λ s r. on_err_weaker c.repeat.result (repeat_stops g.S.Store g.L.Lists has.took s r by.0 by.1 c.repeat.new.self) (c.repeat.ensures.kept (repeating g.S.Store g.L.Lists has.took s r by.0 by.1) (repeating_ahead g.S.Store g.L.Lists has.took s r by.0 by.1)))
    c.repeat.ensures.falls (λ s r. result_full c.repeat.result (repeat_over g.S.Store g.L.Lists has.took s r by.0 by.1) c.repeat.ensures.frames) c.repeat.ensures.met c.repeat.ensures.stays)

-- ---- inside a catch

pub call_inside-requires : goal.call_inside-requires
call_inside-requires g c =
    let has = c.requires.2 in
    let by = replied_as g.S.Store g.L.Lists has replied.Catches c.in-Catches.is in
    record {
      enters = (after g.S.Store g.L.Lists has.took c.requires.3.0 c.requires.3.1 (Calls by.0) by.1 by.2 by.3 (unbound_same by.4), enters_catch g.S.Store g.L.Lists has.took c.requires.3.0 c.requires.3.1 (Calls by.0) by.1 by.2 by.3 (unbound_same by.4) (takes_same 0 by.4));
      can = inside_can g.S.Store g.L.Lists has.took c.requires.3.0 c.requires.3.1 (Calls by.0) by.1 by.2 by.3 (unbound_same by.4) by.0 refl;
    }

pub returns-in-Catches : goal.returns-in-Catches
returns-in-Catches g c = λ e b z has stands.
    (let by = replied_as g.S.Store g.L.Lists has replied.Catches c.in-Catches.is in
    let unbound = unbound_same by.4 in
    moved_behind g.S.Store g.L.Lists has.took z stands c.call_inside.result c.call_inside.new.self
    (λ s r. IfOk-weaker c.call_inside.result _ _ (calls_inside_now g.S.Store g.L.Lists has.took s r (Calls by.0) by.1 by.2 by.3 unbound by.0 refl c.call_inside.new.self)
    (c.call_inside.ensures.called _ by.0 (enters_catch g.S.Store g.L.Lists has.took s r (Calls by.0) by.1 by.2 by.3 unbound (takes_same 0 by.4)) (inside_converted g.S.Store g.L.Lists has.took s r (Calls by.0) by.1 by.2 by.3 unbound by.0 refl)))
    (λ s r. on_err_weaker c.call_inside.result (call_inside_stops g.S.Store g.L.Lists has.took s r (Calls by.0) by.1 by.2 by.3 unbound by.0 refl c.call_inside.new.self)
    (c.call_inside.ensures.kept _ (enters_catch g.S.Store g.L.Lists has.took s r (Calls by.0) by.1 by.2 by.3 unbound (takes_same 0 by.4))))
    c.call_inside.ensures.falls
    (λ s r. result_full c.call_inside.result (call_inside_over g.S.Store g.L.Lists has.took s r (Calls by.0) by.1 by.2 by.3 unbound by.0 refl) c.call_inside.ensures.frames)
    c.call_inside.ensures.met c.call_inside.ensures.stays)

pub throw_inside-requires-clause-fits : goal.throw_inside-requires-clause-fits
throw_inside-requires-clause-fits g c =
    let by = replied_as g.S.Store g.L.Lists c.requires.2 (replied.RaisesInside c.in-RaisesInside.ball) c.in-RaisesInside.is in
    by.3

pub throw_inside-requires-clause-enters : goal.throw_inside-requires-clause-enters
throw_inside-requires-clause-enters g c =
    let has = c.requires.2 in
    let by = replied_as g.S.Store g.L.Lists has (replied.RaisesInside c.in-RaisesInside.ball) c.in-RaisesInside.is in
    let ball = term_of c.in-RaisesInside.ball.term.value in
    (after g.S.Store g.L.Lists has.took c.requires.3.0 c.requires.3.1 (Raises ball) by.0 by.1 by.2 by.4, enters_catch g.S.Store g.L.Lists has.took c.requires.3.0 c.requires.3.1 (Raises ball) by.0 by.1 by.2 by.4 (none_raised g.S.Store g.L.Lists has.took c.requires.3.0 c.requires.3.1 (Raises ball) by.0 by.1 by.2 by.4 ball refl))

pub returns-in-RaisesInside : goal.returns-in-RaisesInside
returns-in-RaisesInside g c = λ e b z has stands.
    (let by = replied_as g.S.Store g.L.Lists has (replied.RaisesInside c.in-RaisesInside.ball) c.in-RaisesInside.is in
    let ball = term_of c.in-RaisesInside.ball.term.value in
    moved_behind g.S.Store g.L.Lists has.took z stands c.throw_inside.result c.throw_inside.new.self
    (λ s r. IfOk-weaker c.throw_inside.result _ _ (throws_inside_now g.S.Store g.L.Lists has.took s r (Raises ball) by.0 by.1 by.2 by.4 ball refl c.throw_inside.new.self)
    (c.throw_inside.ensures.called _ (enters_catch g.S.Store g.L.Lists has.took s r (Raises ball) by.0 by.1 by.2 by.4 (none_raised g.S.Store g.L.Lists has.took s r (Raises ball) by.0 by.1 by.2 by.4 ball refl))))
    (λ s r. on_err_weaker c.throw_inside.result (throw_inside_stops g.S.Store g.L.Lists has.took s r (Raises ball) by.0 by.1 by.2 by.4 ball refl c.throw_inside.new.self)
    (c.throw_inside.ensures.kept _ (enters_catch g.S.Store g.L.Lists has.took s r (Raises ball) by.0 by.1 by.2 by.4 (none_raised g.S.Store g.L.Lists has.took s r (Raises ball) by.0 by.1 by.2 by.4 ball refl))))
    c.throw_inside.ensures.falls
    (λ s r. result_full c.throw_inside.result (throw_inside_over g.S.Store g.L.Lists has.took s r (Raises ball) by.0 by.1 by.2 by.4 ball refl) c.throw_inside.ensures.frames)
    c.throw_inside.ensures.met c.throw_inside.ensures.stays)

-- ---- for all of its solutions

pub find_all-requires : goal.find_all-requires
find_all-requires g c =
    let has = c.requires.2 in
    let by = replied_as g.S.Store g.L.Lists has replied.Gathers c.in-Gathers.is in
    record {
      enters = (behind_findall g.S.Store g.L.Lists has.took c.requires.3.0 c.requires.3.1 by.0 by.2 by.1 by.3 by.4, enters_findall g.S.Store g.L.Lists has.took c.requires.3.0 c.requires.3.1 by.0 by.2 by.1 by.3 by.4);
      can = solved_can g.S.Store g.L.Lists has.took c.requires.3.0 c.requires.3.1 by.0 by.2 by.1 by.3 by.4;
    }

pub returns-in-Gathers : goal.returns-in-Gathers
returns-in-Gathers g c = λ e b z has stands.
    (let by = replied_as g.S.Store g.L.Lists has replied.Gathers c.in-Gathers.is in
    moved_behind g.S.Store g.L.Lists has.took z stands c.find_all.result c.find_all.new.self
    (λ s r. IfOk-weaker c.find_all.result _ _ (finds_now g.S.Store g.L.Lists has.took s r by.0 by.2 by.1 by.3 by.4 c.find_all.new.self)
    (c.find_all.ensures.called (behind_findall g.S.Store g.L.Lists has.took s r by.0 by.2 by.1 by.3 by.4) by.1 (enters_findall g.S.Store g.L.Lists has.took s r by.0 by.2 by.1 by.3 by.4) (solved_converted g.S.Store g.L.Lists has.took s r by.0 by.2 by.1 by.3 by.4)))
    (λ s r. on_err_weaker c.find_all.result (find_stops g.S.Store g.L.Lists has.took s r by.0 by.2 by.1 by.3 by.4 c.find_all.new.self)
    (c.find_all.ensures.kept (behind_findall g.S.Store g.L.Lists has.took s r by.0 by.2 by.1 by.3 by.4) (enters_findall g.S.Store g.L.Lists has.took s r by.0 by.2 by.1 by.3 by.4)))
    c.find_all.ensures.falls (λ s r. result_full c.find_all.result (find_over g.S.Store g.L.Lists has.took s r by.0 by.2 by.1 by.3 by.4) c.find_all.ensures.frames) c.find_all.ensures.met c.find_all.ensures.stays)

-- ---- for groups of them

pub find_groups-requires : goal.find_groups-requires
find_groups-requires g c =
    let has = c.requires.2 in
    let by = replied_as g.S.Store g.L.Lists has (replied.Groups c.in-Groups.sorts) c.in-Groups.is in
    record {
      enters = (behind_groups g.S.Store g.L.Lists has.took c.requires.3.0 c.requires.3.1 by.0 by.1 by.2 c.in-Groups.sorts by.3 by.5 by.4, enters_groups g.S.Store g.L.Lists has.took c.requires.3.0 c.requires.3.1 by.0 by.1 by.2 c.in-Groups.sorts by.3 by.5 by.4);
      can = stripped_can g.S.Store g.L.Lists has.took c.requires.3.0 c.requires.3.1 by.0 by.1 by.2 c.in-Groups.sorts by.3 by.5 by.4;
    }

pub returns-in-Groups : goal.returns-in-Groups
returns-in-Groups g c = λ e b z has stands.
    (let by = replied_as g.S.Store g.L.Lists has (replied.Groups c.in-Groups.sorts) c.in-Groups.is in
    moved_behind g.S.Store g.L.Lists has.took z stands c.find_groups.result c.find_groups.new.self
    (λ s r. IfOk-weaker c.find_groups.result _ _ (groups_now g.S.Store g.L.Lists has.took s r by.0 by.1 by.2 c.in-Groups.sorts by.3 by.5 by.4 c.find_groups.new.self)
    (c.find_groups.ensures.called (behind_groups g.S.Store g.L.Lists has.took s r by.0 by.1 by.2 c.in-Groups.sorts by.3 by.5 by.4) by.1 (enters_groups g.S.Store g.L.Lists has.took s r by.0 by.1 by.2 c.in-Groups.sorts by.3 by.5 by.4) (stripped_converted g.S.Store g.L.Lists has.took s r by.0 by.1 by.2 c.in-Groups.sorts by.3 by.5 by.4)))
    (λ s r. on_err_weaker c.find_groups.result (groups_stop g.S.Store g.L.Lists has.took s r by.0 by.1 by.2 c.in-Groups.sorts by.3 by.5 by.4 c.find_groups.new.self)
    (c.find_groups.ensures.kept (behind_groups g.S.Store g.L.Lists has.took s r by.0 by.1 by.2 c.in-Groups.sorts by.3 by.5 by.4) (enters_groups g.S.Store g.L.Lists has.took s r by.0 by.1 by.2 c.in-Groups.sorts by.3 by.5 by.4)))
    c.find_groups.ensures.falls (λ s r. result_full c.find_groups.result (groups_over g.S.Store g.L.Lists has.took s r by.0 by.1 by.2 c.in-Groups.sorts by.3 by.5 by.4) c.find_groups.ensures.frames) c.find_groups.ensures.met c.find_groups.ensures.stays)

-- ---- what it comes to rests on the operators and the flags

pub setting_goal-requires : goal.setting_goal-requires
setting_goal-requires g c =
    let has = c.requires.2 in
    let by = asks_as g.S.Store g.L.Lists has (replied.AsksSettings c.in-AsksSettings.row) c.in-AsksSettings.is in
    record {
      asks = (_, asks_at g.S.Store g.L.Lists has.took c.requires.3.0 c.requires.3.1 c.in-AsksSettings.row by.1 by.0);
      arguments = arguments_still _ _ _ _ by.0 has.arguments;
    }

pub returns-in-AsksSettings : goal.returns-in-AsksSettings
returns-in-AsksSettings g c = λ e b z has stands.
    (let by = asks_as g.S.Store g.L.Lists has (replied.AsksSettings c.in-AsksSettings.row) c.in-AsksSettings.is in
    let x : Tree → World → Settled = setting_settled c.in-AsksSettings.row in
    moved_behind g.S.Store g.L.Lists has.took z stands c.setting_goal.result c.setting_goal.new.self
    (λ s r. IfOk-weaker c.setting_goal.result _ _ (asked_now g.S.Store g.L.Lists has.took s r x (setting_asks g.S.Store g.L.Lists has.took s r c.in-AsksSettings.row by.1) by.0 c.setting_goal.new.self) (c.setting_goal.ensures.called _ (asks_at g.S.Store g.L.Lists has.took s r c.in-AsksSettings.row by.1 by.0)))
    (λ s r. on_err_weaker c.setting_goal.result (asked_stops g.S.Store g.L.Lists has.took s r x (setting_asks g.S.Store g.L.Lists has.took s r c.in-AsksSettings.row by.1) by.0 c.setting_goal.new.self) (c.setting_goal.ensures.kept _ (asks_at g.S.Store g.L.Lists has.took s r c.in-AsksSettings.row by.1 by.0)))
    c.setting_goal.ensures.falls (λ s r. result_full c.setting_goal.result (asked_over g.S.Store g.L.Lists has.took s r x (setting_asks g.S.Store g.L.Lists has.took s r c.in-AsksSettings.row by.1) by.0) (c.setting_goal.ensures.frames _ (asks_at g.S.Store g.L.Lists has.took s r c.in-AsksSettings.row by.1 by.0))) c.setting_goal.ensures.met c.setting_goal.ensures.stays)

-- ---- it takes atoms apart

pub part_goal-requires : goal.part_goal-requires
part_goal-requires g c =
    let has = c.requires.2 in
    let by = asks_as g.S.Store g.L.Lists has (replied.TakesApart c.in-TakesApart.row) c.in-TakesApart.is in
    record {
      parts = (_, parts_at g.S.Store g.L.Lists has.took c.requires.3.0 c.requires.3.1 c.in-TakesApart.row by.1 by.0);
      arguments = arguments_still _ _ _ _ by.0 has.arguments;
    }

pub returns-in-TakesApart : goal.returns-in-TakesApart
returns-in-TakesApart g c = λ e b z has stands.
    (let by = asks_as g.S.Store g.L.Lists has (replied.TakesApart c.in-TakesApart.row) c.in-TakesApart.is in
    let x : Tree → World → Settled = λ y v. parts_settled c.in-TakesApart.row y in
    moved_behind g.S.Store g.L.Lists has.took z stands c.part_goal.result c.part_goal.new.self
    (λ s r. IfOk-weaker c.part_goal.result _ _ (asked_now g.S.Store g.L.Lists has.took s r x (parts_ask g.S.Store g.L.Lists has.took s r c.in-TakesApart.row by.1) by.0 c.part_goal.new.self) (c.part_goal.ensures.called _ (parts_at g.S.Store g.L.Lists has.took s r c.in-TakesApart.row by.1 by.0)))
    (λ s r. on_err_weaker c.part_goal.result (asked_stops g.S.Store g.L.Lists has.took s r x (parts_ask g.S.Store g.L.Lists has.took s r c.in-TakesApart.row by.1) by.0 c.part_goal.new.self) (c.part_goal.ensures.kept _ (parts_at g.S.Store g.L.Lists has.took s r c.in-TakesApart.row by.1 by.0)))
    c.part_goal.ensures.falls (λ s r. result_full c.part_goal.result (asked_over g.S.Store g.L.Lists has.took s r x (parts_ask g.S.Store g.L.Lists has.took s r c.in-TakesApart.row by.1) by.0) (c.part_goal.ensures.frames _ (parts_at g.S.Store g.L.Lists has.took s r c.in-TakesApart.row by.1 by.0))) c.part_goal.ensures.met c.part_goal.ensures.stays)

-- ---- what it comes to rests on the database

pub database_goal-requires : goal.database_goal-requires
database_goal-requires g c =
    let has = c.requires.2 in
    let by = asks_as g.S.Store g.L.Lists has (replied.AsksDatabase c.in-AsksDatabase.row) c.in-AsksDatabase.is in
    record {
      stores = (storing g.S.Store g.L.Lists has.took c.requires.3.0 c.requires.3.1 c.in-AsksDatabase.row by.1 by.0, stores_at g.S.Store g.L.Lists has.took c.requires.3.0 c.requires.3.1 c.in-AsksDatabase.row by.1 by.0);
      arguments = arguments_still _ _ _ _ by.0 has.arguments;
    }

pub returns-in-AsksDatabase : goal.returns-in-AsksDatabase
returns-in-AsksDatabase g c = λ e b z has stands.
    (let by = asks_as g.S.Store g.L.Lists has (replied.AsksDatabase c.in-AsksDatabase.row) c.in-AsksDatabase.is in
    moved_behind g.S.Store g.L.Lists has.took z stands c.database_goal.result c.database_goal.new.self
    (λ s r. IfOk-weaker c.database_goal.result _ _ (stores_now g.S.Store g.L.Lists has.took s r c.in-AsksDatabase.row by.1 by.0 c.database_goal.new.self) (c.database_goal.ensures.called (storing g.S.Store g.L.Lists has.took s r c.in-AsksDatabase.row by.1 by.0) (stores_at g.S.Store g.L.Lists has.took s r c.in-AsksDatabase.row by.1 by.0)))
    (λ s r. on_err_weaker c.database_goal.result (store_stops g.S.Store g.L.Lists has.took s r c.in-AsksDatabase.row by.1 by.0 c.database_goal.new.self) (c.database_goal.ensures.kept (storing g.S.Store g.L.Lists has.took s r c.in-AsksDatabase.row by.1 by.0) (stores_at g.S.Store g.L.Lists has.took s r c.in-AsksDatabase.row by.1 by.0)))
    c.database_goal.ensures.falls (λ s r. result_full c.database_goal.result (store_over g.S.Store g.L.Lists has.took s r c.in-AsksDatabase.row by.1 by.0) (c.database_goal.ensures.frames (storing g.S.Store g.L.Lists has.took s r c.in-AsksDatabase.row by.1 by.0) (stores_at g.S.Store g.L.Lists has.took s r c.in-AsksDatabase.row by.1 by.0))) c.database_goal.ensures.met c.database_goal.ensures.stays)

-- ---- it writes

pub write_goal-requires : goal.write_goal-requires
write_goal-requires g c =
    let has = c.requires.2 in
    let by = asks_as g.S.Store g.L.Lists has (replied.Writes c.in-Writes.row) c.in-Writes.is in
    record {
      writes = (writing g.S.Store g.L.Lists has.took c.requires.3.0 c.requires.3.1 c.in-Writes.row by.1 by.0, writes_at g.S.Store g.L.Lists has.took c.requires.3.0 c.requires.3.1 c.in-Writes.row by.1 by.0);
      arguments = arguments_still _ _ _ _ by.0 has.arguments;
    }

pub returns-in-Writes : goal.returns-in-Writes
returns-in-Writes g c = λ e b z has stands.
    (let by = asks_as g.S.Store g.L.Lists has (replied.Writes c.in-Writes.row) c.in-Writes.is in
    moved_behind g.S.Store g.L.Lists has.took z stands c.write_goal.result c.write_goal.new.self
    (λ s r. IfOk-weaker c.write_goal.result _ _ (writes_now g.S.Store g.L.Lists has.took s r c.in-Writes.row by.1 by.0 c.write_goal.new.self) (c.write_goal.ensures.written (writing g.S.Store g.L.Lists has.took s r c.in-Writes.row by.1 by.0) (writes_at g.S.Store g.L.Lists has.took s r c.in-Writes.row by.1 by.0)))
    (λ s r. on_err_weaker c.write_goal.result (write_stops g.S.Store g.L.Lists has.took s r c.in-Writes.row by.1 by.0 c.write_goal.new.self) (c.write_goal.ensures.kept (writing g.S.Store g.L.Lists has.took s r c.in-Writes.row by.1 by.0) (writes_at g.S.Store g.L.Lists has.took s r c.in-Writes.row by.1 by.0)))
    c.write_goal.ensures.falls (λ s r. result_full c.write_goal.result (λ h. absurd h) c.write_goal.ensures.frames) c.write_goal.ensures.met c.write_goal.ensures.stays)

-- ---- the search is ended

pub clear-requires : goal.clear-requires
clear-requires g c = base_took g.S.Store g.L.Lists c.requires.2.took c.requires.3.0 c.requires.3.1

pub returns-in-Halts : goal.returns-in-Halts
returns-in-Halts g c = λ e b z has stands.
    (moved_pauses g.S.Store g.L.Lists
    (λ s r. (halts_now g.S.Store g.L.Lists has.took s r c.clear.new.self c.in-Halts.status (replied_as g.S.Store g.L.Lists has (replied.Halts c.in-Halts.status) c.in-Halts.is) (λ v is. c.clear.ensures.idle v (world_took g.S.Store g.L.Lists has.took s r v is)) c.clear.ensures.now, ap phase_of c.clear.ensures.now))
    tt (λ s r. tt) tt (stays_took g.S.Store g.L.Lists has.took z stands c.clear.ensures.stays))
