use Rattle.iso_search_core.specs.declared.nows.Now.TheVariants.{Failing}
use Rattle.iso_search.proofs.ShowEnds.{shows_next}
use Rattle.iso_search.proofs.search.Search.show_clause.Goals as goal

pub returns-then-shown-clause-tried : goal.returns-then-shown-clause-tried
returns-then-shown-clause-tried g c = λ s k x xs t.
    c.try_removal.ensures.tried s k x xs (shows_next g.S.Store g.L.Lists c.args.self.now Failing c.args.shown c.args.place s k x xs t)

pub returns-then-shown-clause-kept : goal.returns-then-shown-clause-kept
returns-then-shown-clause-kept g c = λ s k x xs t.
    c.try_removal.ensures.kept s k x xs (shows_next g.S.Store g.L.Lists c.args.self.now Failing c.args.shown c.args.place s k x xs t)

pub returns-else-shown-clause-tried : goal.returns-else-shown-clause-tried
returns-else-shown-clause-tried g c = λ s k x xs t.
    c.try_shown.ensures.tried s k x xs (shows_next g.S.Store g.L.Lists c.args.self.now Failing c.args.shown c.args.place s k x xs t)

pub returns-else-shown-clause-kept : goal.returns-else-shown-clause-kept
returns-else-shown-clause-kept g c = λ s k x xs t.
    c.try_shown.ensures.kept s k x xs (shows_next g.S.Store g.L.Lists c.args.self.now Failing c.args.shown c.args.place s k x xs t)
