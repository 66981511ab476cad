use Rattle.std.proofs.Common.{Option, ℕ, ◌<◌, ◌≡◌, [], subst, sym, arith}
use Rattle.std.specs.Prelude.{MatchOption}
use Rattle.iso_search_core.specs.Keeping.{Passes}
use Rattle.iso_search_core.specs.declared.ends.Past.{Past}
use Rattle.iso_plain.specs.Links.{IsList, extent_of, depth_of}
use Rattle.iso_plain_core.proofs.StandingLemmas.{none_linked}
use Rattle.iso_plain.proofs.LinkLemmas.{list_within, list_passes, list_falls, whole_chain}
use Rattle.iso_plain.proofs.linked.LinkedLists.pass.Goals as goal

pub returns-in_err-place-clause-passes : goal.returns-in_err-place-clause-passes
returns-in_err-place-clause-passes g c =
    λ p ms list.
    let none = none_linked (whole_chain c.args.self.now (subst (λ (place : Option ℕ). IsList p c.args.self.now (extent_of c.args.self.now) place ms) c.in_err-place.was list)) in
    subst (λ (o : Option (Past (Option ℕ))). MatchOption o (ms ≡ []) (Passes (IsList p c.args.self.now (extent_of c.args.self.now)) ms)) (sym c.from_residual.ensures) none

pub index-link-requires : goal.index-link-requires
index-link-requires g c =
    let within = list_within c.args.self.now (subst (λ (place : Option ℕ). IsList c.requires.0 c.args.self.now (extent_of c.args.self.now) place c.requires.1) c.in_ok-place.was c.requires.2) in
    omega (arith, within)

pub returns-clause-passes : goal.returns-clause-passes
returns-clause-passes g c =
    λ p ms list.
    let passed = list_passes c.args.self.now c.index-link.result.now c.index-link.ensures (subst (λ (place : Option ℕ). IsList p c.args.self.now (extent_of c.args.self.now) place ms) c.in_ok-place.was list) in
    subst (λ (leave : Option ℕ). Passes (IsList p c.args.self.now (extent_of c.args.self.now)) ms (record { leave = leave; behind = c.index-link.result.now.next })) (sym c.left_catch.ensures) passed

pub returns-clause-falls : goal.returns-clause-falls
returns-clause-falls g c =
    let falls = list_falls c.args.self.now c.index-link.result.now c.index-link.ensures (subst (λ (place : Option ℕ). IsList c.requires.0 c.args.self.now (extent_of c.args.self.now) place c.requires.1) c.in_ok-place.was c.requires.2) in
    subst (λ (place : Option ℕ). depth_of c.index-link.result.now.next < depth_of place) (sym c.in_ok-place.was) falls
