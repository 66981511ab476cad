use Rattle.std.proofs.Common.{Option, ℕ, subst, arith}
use Rattle.iso_plain.specs.Links.{IsList, extent_of}
use Rattle.iso_plain_core.proofs.StandingLemmas.{none_linked}
use Rattle.iso_plain.proofs.LinkLemmas.{list_first, list_cost, whole_chain}
use Rattle.iso_plain.proofs.linked.LinkedLists.at.Goals as goal

pub returns-in-Some-clause-first : goal.returns-in-Some-clause-first
returns-in-Some-clause-first g c =
    λ p ms list. list_first c.args.self.now c.index.result.now c.index.ensures (subst (λ (place : Option ℕ). IsList p c.args.self.now (extent_of c.args.self.now) place ms) c.in-Some.is list)

pub returns-in-Some-clause-cost : goal.returns-in-Some-clause-cost
returns-in-Some-clause-cost g c =
    let list = subst (λ (place : Option ℕ). IsList c.requires.0 c.args.self.now (extent_of c.args.self.now) place c.requires.1) c.in-Some.is c.requires.2 in
    let same = list_cost c.args.self.now c.index.result.now c.index.ensures list in
    rw c.in-Some.is (omega (arith, same))

pub returns-in-None-clause-first : goal.returns-in-None-clause-first
returns-in-None-clause-first g c =
    λ p ms list. none_linked (whole_chain c.args.self.now (subst (λ (place : Option ℕ). IsList p c.args.self.now (extent_of c.args.self.now) place ms) c.in-None.is list))
