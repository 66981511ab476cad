use Rattle.std.proofs.Common.{◌∙◌, ap, sym}
use Rattle.iso_model.specs.Search.Walker.{with_others}
use Rattle.iso_search.specs.EngineStates.{went_back}
use Rattle.iso_search.proofs.LimitLemmas.{stays_on}
use Rattle.iso_search.proofs.Moves.Retry.{stops_on}
use Rattle.iso_machine.specs.Engines.{framed}
use Rattle.iso_machine.specs.Lists.{arguments_at}
use Rattle.iso_machine.specs.declared.framed.Framed.{Framed}
use Rattle.iso_machine.specs.Unpushed.{with_choices}
use Rattle.iso_machine.proofs.Moves.Unpushed.{back_taken}
use Rattle.iso_store_core.specs.declared.shapes.StoreFault.TheVariants as fault
use Rattle.iso_machine.proofs.CameLemmas.{came_error}
use Rattle.iso_machine.proofs.FrameLemmas.{stacked_same}
use Rattle.iso_machine.proofs.Moves.Kept.{again_refused, kept_stays}
use Rattle.iso_machine.proofs.Moves.Went.{went_not}
use Rattle.iso_machine.proofs.retrying.retry_above.Goals as goal

pub take_arguments-requires : goal.take_arguments-requires
take_arguments-requires g c = (c.requires.5.again c.requires.3 c.requires.4).retries.calls.is_for.within

pub returns-in_err-take_arguments-clause-came : goal.returns-in_err-take_arguments-clause-came
returns-in_err-take_arguments-clause-came g c = λ choices later old s0 r0 b.
    went_not g.S.Store g.S.Cells.atom_word c.from_residual.result fault.NoMemory c.from_residual.ensures.0
    c.from_residual.ensures.1
    (came_error g.S.Store g.S.Cells.atom_word fault.NoMemory
    (λ s r.
    let l = framed g.S.Cells.atom_word in
    let mid = with_choices c.args.search.now choices in
    let rest = c.args.retry.rest in
    let again = b.again s r in
    let t = again.retries in
    let a = again.alternative in
    let taken = c.take_arguments.ensures.same in
    let nodes = ap (λ (h : Framed _ _ _). h.nodes) taken in
    let frames = ap (λ (h : Framed _ _ _). h.frames) taken in
    let words = stacked_same (ap (λ (h : Framed _ _ _). h.words) taken) in
    (stops_on g.S.Store l old (record mid { lists = c.take_arguments.new.lists })
    (record { clause = c.args.retry.clause; later = later; call = c.args.retry.call }) rest s r a again.below mid c.args.below
    b.failing again.stack t again.height
    (again_refused g.S.Store g.S.Cells.atom_word mid c.take_arguments.new.lists nodes frames words rest
    (with_others t.call t.others a.list (went_back a again.below r.own)) t.call t.clause a.list c.args.below
    t.calls.ahead)))
    (λ is. absurd cc)
    (let taken = c.take_arguments.ensures.same in
    stays_on g.S.Store b.stays
    (kept_stays g.S.Store g.S.Cells.atom_word (with_choices c.args.search.now choices) c.take_arguments.new.lists
    (ap (λ (h : Framed _ _ _). h.nodes) taken) (ap (λ (h : Framed _ _ _). h.frames) taken)
    (stacked_same (ap (λ (h : Framed _ _ _). h.words) taken)))))

pub enter_kept-requires-clause-arguments : goal.enter_kept-requires-clause-arguments
enter_kept-requires-clause-arguments g c =
    c.in_ok-take_arguments.ensures.arguments
    ∙ sym (ap (λ (h : Framed _ _ _). arguments_at h c.args.retry.call) c.take_arguments.ensures.same)

pub enter_kept-requires-clause-back : goal.enter_kept-requires-clause-back
enter_kept-requires-clause-back g c =
    let r = c.requires in (
      r.0,
      r.1,
      r.2,
      r.3,
      r.4,
      back_taken g.S.Store g.S.Cells.atom_word r.2 (with_choices c.args.search.now r.0) c.take_arguments.new.lists
          (record { clause = c.args.retry.clause; later = r.1; call = c.args.retry.call }) c.args.retry.rest c.args.below
          c.take_arguments.ensures.same r.5,
    )

pub returns-clause-came : goal.returns-clause-came
returns-clause-came g c = λ choices later old s r b.
    rw c.in-Went.is at (c.in_ok-enter_kept.ensures.came choices later old s r
    (back_taken g.S.Store g.S.Cells.atom_word old (with_choices c.args.search.now choices) c.take_arguments.new.lists
    (record { clause = c.args.retry.clause; later = later; call = c.args.retry.call }) c.args.retry.rest c.args.below
    c.take_arguments.ensures.same b))

pub returns-in_err-enter_kept-clause-came : goal.returns-in_err-enter_kept-clause-came
returns-in_err-enter_kept-clause-came g c = λ choices later old s r b.
    went_not g.S.Store g.S.Cells.atom_word c.from_residual-in_err-enter_kept.result _
    c.from_residual-in_err-enter_kept.ensures.0 c.from_residual-in_err-enter_kept.ensures.1
    (c.in_err-enter_kept.ensures.came choices later old s r
    (back_taken g.S.Store g.S.Cells.atom_word old (with_choices c.args.search.now choices) c.take_arguments.new.lists
    (record { clause = c.args.retry.clause; later = later; call = c.args.retry.call }) c.args.retry.rest c.args.below
    c.take_arguments.ensures.same b))
