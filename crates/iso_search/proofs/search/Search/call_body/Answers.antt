use Rattle.std.proofs.Common.{◌≡◌, length, arith}
use Rattle.iso_search.proofs.Moves.Local.{called_as, same_steps}
use Rattle.iso_search.proofs.PaidLemmas.{paid, pays_body}
use Rattle.iso_search.proofs.search.Search.call_body.Goals as goal

pub returns-clause-called : goal.returns-clause-called
returns-clause-called g c = λ s b h body.
    (let e = c.args.self.now in
    let many : c.len-height.result ≡ length e.choices.items = cc (c.len-height.ensures, e.choices.ok.0) in
    (called_as g.S.Store g.L.Lists e c.run_here.new.self s c.args.rest c.len-height.result b h many (c.in_ok-run_here.ensures.runs s b h body), c.in_ok-run_here.ensures.awake))

pub returns-clause-falls : goal.returns-clause-falls
returns-clause-falls g c = λ w less.
    (let e = c.args.self.now in
    paid g.L.Lists e c.run_here.new.self w _ (same_steps e c.run_here.new.self c.in_ok-run_here.ensures.same) c.in_ok-run_here.ensures.costs (pays_body _ _ w (omega (arith, less))))
