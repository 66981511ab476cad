use Rattle.std.proofs.Common.{sym, subst}
use Rattle.iso_store_core.specs.Presents.{Present}
use Rattle.iso_search_core.specs.Fitting.{FitsState}
use Rattle.iso_program.proofs.ResultLemmas.{behind_error}
use Rattle.iso_search.proofs.AheadLemmas.{ahead_left, remains_ahead}
use Rattle.iso_search.proofs.StoppedLemmas.{keeps_store, keeps_choices}
use Rattle.iso_search.proofs.WeightLemmas.{gained_cost}
use Rattle.iso_search.proofs.search.Search.push_choice.Goals as goal

pub returns-in_err-keep_choice-clause-refused : goal.returns-in_err-keep_choice-clause-refused
returns-in_err-keep_choice-clause-refused g c = λ s h.
    (let e = c.args.self.now in
    let all = remains_ahead g.S.Store g.L.Lists e s c.args.rest h in
    let made = keeps_store g.S.Store g.L.Lists e c.keep_choice.new.store s.world s.stack all.0 c.in_err-keep_choice.ensures.rest.marks c.in_err-keep_choice.ensures.rest.names in
    behind_error c.from_residual.result (
      keeps_choices g.S.Store g.L.Lists (record e { store = c.keep_choice.new.store }) c.keep_choice.new.choices s.world s.stack c.in_err-keep_choice.ensures.kept made,
      subst (λ (p : Present _). FitsState g.S.Store p 0 s) (sym c.in_err-keep_choice.ensures.present) all.1,
    ))

pub returns-clause-ahead : goal.returns-clause-ahead
returns-clause-ahead g c = λ s x is h has space.
    (let e = c.args.self.now in
    ahead_left g.S.Store g.L.Lists e s c.args.rest c.keep_choice.new.store c.keep_choice.new.choices c.args.left x (g.met.L.Lists.all e.lists) (g.met.L.Lists.top e.lists) h has space
    c.in_ok-keep_choice.ensures.present c.in_ok-keep_choice.ensures.rest.marks c.in_ok-keep_choice.ensures.rest.names (rw c.kept-kept.ensures at c.in_ok-keep_choice.ensures.gains))

pub returns-clause-costs : goal.returns-clause-costs
returns-clause-costs g c = λ is. gained_cost (g.L.Lists.cost c.args.self.now.lists) c.in_ok-keep_choice.ensures.gains
