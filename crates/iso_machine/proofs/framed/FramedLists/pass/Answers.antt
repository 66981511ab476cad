use Rattle.std.proofs.Common.{Option, ℕ, ◌<◌, ◌≡◌, [], subst, sym, arith}
use Rattle.std.specs.Prelude.{MatchOption}
use Rattle.iso_search_core.specs.Keeping.{Passes}
use Rattle.iso_search_core.specs.declared.ends.Past.{Past}
use Rattle.iso_frames.specs.declared.frames.Rest.{Rest}
use Rattle.iso_frames.specs.Frames.{depth_of}
use Rattle.iso_frames.proofs.ChainLemmas.{chain_none}
use Rattle.iso_machine.specs.Lists.{IsList, extent_of}
use Rattle.iso_machine.proofs.FrameLemmas.{list_within, list_passes, frame_falls}
use Rattle.iso_machine.specs.Wholes.{whole_chain}
use Rattle.iso_machine.proofs.framed.FramedLists.pass.Goals as goal

pub returns-in_err-place-clause-passes : goal.returns-in_err-place-clause-passes
returns-in_err-place-clause-passes g c =
    λ p ms list.
    let a = g.S.Cells.atom_word in
    let none = chain_none a (whole_chain a c.args.self.now
    (subst (λ (place : Option Rest). IsList a p c.args.self.now (extent_of c.args.self.now) place ms) c.in_err-place.was
    list)) in
    subst (λ (o : Option (Past (Option Rest))). MatchOption o (ms ≡ [])
    (Passes (IsList a p c.args.self.now (extent_of c.args.self.now)) ms)) (sym c.from_residual.ensures) none

pub index-frame-requires : goal.index-frame-requires
index-frame-requires g c =
    let a = g.S.Cells.atom_word in
    let within = list_within a c.args.self.now (subst (λ (place : Option Rest). IsList a c.requires.0 c.args.self.now
    (extent_of c.args.self.now) place c.requires.1) c.in_ok-place.was c.requires.2) in
    omega (arith, within)

pub returns-clause-passes : goal.returns-clause-passes
returns-clause-passes g c =
    λ p ms list.
    let a = g.S.Cells.atom_word in
    let passed = list_passes a c.args.self.now
    (subst (λ (place : Option Rest). IsList a p c.args.self.now (extent_of c.args.self.now) place ms) c.in_ok-place.was
    list) c.index-frame.result.now c.index-frame.ensures in
    subst (λ (leave : Option ℕ). Passes (IsList a p c.args.self.now (extent_of c.args.self.now)) ms
    (record { leave = leave; behind = c.index-frame.result.now.behind })) (sym c.left_catch.ensures) passed

pub returns-clause-falls : goal.returns-clause-falls
returns-clause-falls g c =
    let a = g.S.Cells.atom_word in
    let falls = frame_falls a c.args.self.now (subst (λ (place : Option Rest). IsList a c.requires.0 c.args.self.now
    (extent_of c.args.self.now) place c.requires.1) c.in_ok-place.was c.requires.2) c.index-frame.result.now
    c.index-frame.ensures in
    subst (λ (place : Option Rest). depth_of c.index-frame.result.now.behind < depth_of place)
    (sym c.in_ok-place.was) falls
