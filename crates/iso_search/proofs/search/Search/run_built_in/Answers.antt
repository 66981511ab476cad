use Rattle.std.proofs.Common.{rules, ap, sym, subst, refl, arith, Err}
use Rattle.iso_model.specs.declared.built_ins.BuiltIn.TheVariants as built_in
use Rattle.iso_search_core.specs.GoalKinds.{IsBuiltIn}
use Rattle.iso_store_core.specs.Presents.{meaning}
use Rattle.iso_store_core.specs.declared.shapes.StoreFault.TheVariants as fault
use Rattle.iso_search_core.specs.Arities.{HasArity}
use Rattle.iso_search_core.proofs.ArityLemmas.{built_in_arguments}
use Rattle.iso_search.proofs.ReplyKinds.{has_replied}
use Rattle.iso_search.proofs.MovedLemmas.{met_behind, moved_not, moved_on}
use Rattle.iso_search.proofs.RunCosts.{fails_at_once}
use Rattle.iso_search.proofs.Moves.Run.{at, fails_own, refuses_reply}
use Rattle.iso_search.proofs.Moves.Search.{refuses_here}
use Rattle.iso_search.proofs.StoppedLemmas.{keeps_all, keeps_more, remains_all}
use Rattle.iso_search.proofs.Moves.Word.{slice_are, worded}
use Rattle.iso_search.proofs.search.Search.run_built_in.Goals as goal

-- ---- fail/0

pub returns-in-Fail : goal.returns-in-Fail
returns-in-Fail g c =
    let e = c.args.self.now in
    let is : IsBuiltIn (meaning (g.S.Store.present e.store) c.args.goal) built_in.Fail = rw c.in-Fail.is at c.requires.built_in in
    rw (c.goal_fails.ensures.goes, c.goal_fails.ensures.fails)
    (moved_on g.S.Store g.L.Lists (λ s r. fails_own g.S.Store g.L.Lists e s c.args.goal c.args.rest c.requires.first r c.requires.steps is)
    (fails_at_once g.S.Store g.L.Lists e c.args.goal c.args.rest c.requires.first c.requires.steps) (search rules))

pub read_arguments-requires : goal.read_arguments-requires
read_arguments-requires g c = (at g.S.Store g.L.Lists c.args.self.now c.requires.stands.0 c.args.goal c.args.rest c.requires.first c.requires.stands.1).holds

pub returns-in_err-read_arguments : goal.returns-in_err-read_arguments
returns-in_err-read_arguments g c =
    moved_not g.S.Store g.L.Lists c.from_residual.result c.from_residual.ensures.0
    (λ s r. refuses_here g.S.Store g.L.Lists (worded c.args.self.now c.read_arguments.new.words) r.own s r.same (remains_all g.S.Store g.L.Lists c.args.self.now r.own r.engine))
    (met_behind g.S.Store g.L.Lists c.from_residual.result fault.NoMemory _ c.from_residual.ensures.1 (λ is. absurd cc))
    (record { limit = refl; vocabulary = refl; names_kept = λ place text h. h; base = λ p h. h; within = λ h. h })

-- ---- its reply

pub reply-requires-clause-arguments : goal.reply-requires-clause-arguments
reply-requires-clause-arguments g c = (slice_are c.as_slice-arguments.ensures.value c.in_ok-read_arguments.ensures.arguments).hold

pub reply-requires-clause-count : goal.reply-requires-clause-count
reply-requires-clause-count g c =
    subst (HasArity c.args.built_in) (sym (slice_are c.as_slice-arguments.ensures.value c.in_ok-read_arguments.ensures.arguments).count)
    (built_in_arguments (meaning (g.S.Store.present c.args.self.now.store) c.args.goal) c.args.built_in c.requires.built_in)

pub reply-requires-clause-next : goal.reply-requires-clause-next
reply-requires-clause-next g c =
    let goes = (at g.S.Store g.L.Lists c.args.self.now c.requires.stands.0 c.args.goal c.args.rest c.requires.first c.requires.stands.1).at.ahead.goes in
    let room = goes.room in
    let next = goes.next in
    omega (arith, room, next)

pub reply-requires-clause-vocabulary : goal.reply-requires-clause-vocabulary
reply-requires-clause-vocabulary g c = c.requires.stands.1.engine.world.vocabulary_is

pub returns-in_err-replied : goal.returns-in_err-replied
returns-in_err-replied g c =
    let e = c.args.self.now in
    let read = worded e c.read_arguments.new.words in
    moved_not g.S.Store g.L.Lists c.from_residual-in_err-replied.result c.from_residual-in_err-replied.ensures.0
    (λ s r.
    (refuses_reply g.S.Store g.L.Lists e s c.args.goal c.args.rest c.requires.first r (record read { store = c.reply.new.store; lists = c.reply.new.lists }) c.args.built_in c.requires.steps c.requires.built_in
    (c.in_err-replied.ensures.cells (meaning (g.S.Store.present e.store) c.args.goal) c.in_ok-read_arguments.ensures.term (slice_are c.as_slice-arguments.ensures.value c.in_ok-read_arguments.ensures.arguments))
    (keeps_more g.S.Store g.L.Lists read c.reply.new.store c.reply.new.lists r.own.world r.own.stack (keeps_all g.S.Store g.L.Lists e r.own r.engine) c.in_err-replied.ensures.rest.marks c.in_err-replied.ensures.rest.names c.in_err-replied.ensures.keeps)))
    (met_behind g.S.Store g.L.Lists c.from_residual-in_err-replied.result _ _ c.from_residual-in_err-replied.ensures.1 (λ is. c.in_err-replied.ensures.full (ap Err is)))
    (record { limit = refl; vocabulary = refl; names_kept = c.in_err-replied.ensures.rest.names; base = λ p h. c.in_err-replied.ensures.rest.marks e.base p h; within = λ h. h })

-- ---- and on from it

pub go_on_from-requires : goal.go_on_from-requires
go_on_from-requires g c = (
  c.args.self.now,
  c.args.built_in,
  has_replied g.S.Store g.L.Lists g.met.L.Lists.all g.met.L.Lists.top g.met.L.Lists.more g.met.L.Lists.words c.args.self.now _ c.args.goal c.args.rest c.args.built_in c.in_ok-replied.replied c.requires.stands.0 c.requires.stands.1
      c.requires.first c.requires.steps c.requires.built_in refl c.in_ok-replied.ensures.rest.marks c.in_ok-replied.ensures.rest.names c.in_ok-replied.ensures.keeps
      (c.in_ok-replied.ensures.cells (meaning (g.S.Store.present c.args.self.now.store) c.args.goal) c.in_ok-read_arguments.ensures.term (slice_are c.as_slice-arguments.ensures.value c.in_ok-read_arguments.ensures.arguments))
      (c.in_ok-replied.ensures.replies (meaning (g.S.Store.present c.args.self.now.store) c.args.goal) c.in_ok-read_arguments.ensures.term (slice_are c.as_slice-arguments.ensures.value c.in_ok-read_arguments.ensures.arguments)) c.in_ok-replied.ensures.asks c.in_ok-read_arguments.ensures.arguments,
  c.requires.stands,
)

pub returns : goal.returns
returns g c =
    c.go_on_from.ensures c.args.self.now c.args.built_in c.requires.stands.0
    (has_replied g.S.Store g.L.Lists g.met.L.Lists.all g.met.L.Lists.top g.met.L.Lists.more g.met.L.Lists.words c.args.self.now _ c.args.goal c.args.rest c.args.built_in c.in_ok-replied.replied c.requires.stands.0 c.requires.stands.1
    c.requires.first c.requires.steps c.requires.built_in refl c.in_ok-replied.ensures.rest.marks c.in_ok-replied.ensures.rest.names c.in_ok-replied.ensures.keeps
    (c.in_ok-replied.ensures.cells (meaning (g.S.Store.present c.args.self.now.store) c.args.goal) c.in_ok-read_arguments.ensures.term (slice_are c.as_slice-arguments.ensures.value c.in_ok-read_arguments.ensures.arguments))
    (c.in_ok-replied.ensures.replies (meaning (g.S.Store.present c.args.self.now.store) c.args.goal) c.in_ok-read_arguments.ensures.term (slice_are c.as_slice-arguments.ensures.value c.in_ok-read_arguments.ensures.arguments)) c.in_ok-replied.ensures.asks c.in_ok-read_arguments.ensures.arguments) c.requires.stands.1
