use Rattle.std.proofs.Common.{◌≡◌, ◌∙◌, ◌+◌, sym, subst, arith}
use Rattle.iso_search.specs.EngineStates.{IsAhead, went_back}
use Rattle.iso_search.proofs.Moves.Grouped.{bare_stopped, left_there}
use Rattle.iso_search.proofs.NewestLemmas.{steps_same}
use Rattle.iso_search.proofs.search.Search.try_groups.Goals as goal

pub meet_left-requires-clause-meets : goal.meet_left-requires-clause-meets
meet_left-requires-clause-meets g c =
    let b = c.requires.back in
    let e = c.args.self.now in
    let mid = c.take_newest-left.new.self in
    let taken = c.take_newest-left.ensures in
    let ahead = subst (λ (p : _). IsAhead g.S.Store g.L.Lists mid (went_back b.2 b.3 b.1) p) b.5 (taken.ahead b.0 b.1 b.2 b.3 b.4 b.7) in (
      went_back b.2 b.3 b.1,
      b.2.left,
      left_there g.S.Store g.L.Lists e mid b.0 b.1 b.2 b.3 b.7 c.take_newest-left.result c.args.newest.rest (taken.left b.0 b.1 b.2 b.3 b.7) b.6 b.8 taken.present (steps_same taken.same) ahead,
    )

pub returns-clause-tried : goal.returns-clause-tried
returns-clause-tried g c = λ ch s a below by gs mark rest leaves w twice are.
    (let e = c.args.self.now in
    let mid = c.take_newest-left.new.self in
    let taken = c.take_newest-left.ensures in
    let ahead = subst (λ (p : _). IsAhead g.S.Store g.L.Lists mid (went_back a below s) p) rest (taken.ahead ch s a below mark w) in
    let there = left_there g.S.Store g.L.Lists e mid ch s a below w c.take_newest-left.result c.args.newest.rest (taken.left ch s a below w) leaves twice taken.present (steps_same taken.same) ahead in
    c.in_default.ensures.met (went_back a below s) a.left by gs there are)

pub returns-in-Err-clause-kept : goal.returns-in-Err-clause-kept
returns-in-Err-clause-kept g c = λ ch s a below by gs mark rest leaves w twice are.
    (let e = c.args.self.now in
    let mid = c.take_newest-left.new.self in
    let taken = c.take_newest-left.ensures in
    let ahead = subst (λ (p : _). IsAhead g.S.Store g.L.Lists mid (went_back a below s) p) rest (taken.ahead ch s a below mark w) in
    let there = left_there g.S.Store g.L.Lists e mid ch s a below w c.take_newest-left.result c.args.newest.rest (taken.left ch s a below w) leaves twice taken.present (steps_same taken.same) ahead in
    let k = c.in-Err.ensures.kept (went_back a below s) a.left by gs there are in
    (bare_stopped g.S.Store g.L.Lists c.meet_left.new.self c.clear.new.self (went_back a below s) _ c.clear.ensures.items k, k.fits))
