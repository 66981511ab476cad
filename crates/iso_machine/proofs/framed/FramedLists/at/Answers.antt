use Rattle.std.proofs.Common.{◌<◌, Option, sym, subst, arith}
use Rattle.iso_frames.specs.declared.frames.Rest.{Rest}
use Rattle.iso_frames.specs.declared.frames.Next.{Next}
use Rattle.iso_frames.specs.Frames.{depth_of}
use Rattle.iso_frames.proofs.ChainLemmas.{chain_none}
use Rattle.iso_machine.specs.Firsts.{IsFirstOf}
use Rattle.iso_machine.specs.Lists.{IsList, extent_of}
use Rattle.iso_machine.proofs.FrameLemmas.{list_within, frame_falls, frame_goes, frame_first, reached, reached_cost, reached_pending, reached_behind}
use Rattle.iso_machine.specs.Wholes.{whole_chain}
use Rattle.iso_machine.proofs.framed.FramedLists.at.Goals as goal

pub index-frame-requires : goal.index-frame-requires
index-frame-requires g c =
    let a = g.S.Cells.atom_word in
    let within = list_within a c.args.self.now
    (reached a c.args.self.now c.in-Some.rest c.in-Some.is c.loop-place.invariant c.requires.0 c.requires.1
    c.requires.2) in
    omega (arith, within)

pub first_of-requires : goal.first_of-requires
first_of-requires g c =
    let a = g.S.Cells.atom_word in
    frame_goes a c.args.self.now (reached a c.args.self.now c.in-Some.rest c.in-Some.is c.loop-place.invariant
    c.requires.0 c.requires.1 c.requires.2) c.index-frame.result.now c.index-frame.ensures

pub returns-in-Some-first_of-clause-first : goal.returns-in-Some-first_of-clause-first
returns-in-Some-first_of-clause-first g c =
    λ p ms list.
    let a = g.S.Cells.atom_word in
    let f = c.index-frame.result.now in
    let first = subst (λ (n : Option (Next _)). IsFirstOf f c.in-Some.rest f.work n) c.in-Some-first_of.is
    c.first_of.ensures in
    frame_first a c.args.self.now (reached a c.args.self.now c.in-Some.rest c.in-Some.is c.loop-place.invariant p ms
    list) f c.index-frame.ensures c.in-Some-first_of.next first

pub returns-in-Some-first_of-clause-cost : goal.returns-in-Some-first_of-clause-cost
returns-in-Some-first_of-clause-cost g c =
    let f = c.index-frame.result.now in
    let first = subst (λ (n : Option (Next _)). IsFirstOf f c.in-Some.rest f.work n) c.in-Some-first_of.is
    c.first_of.ensures in
    reached_cost g.S.Cells.atom_word c.args.self.now c.in-Some.rest c.in-Some.is c.loop-place.invariant c.requires.0
    c.requires.1 c.requires.2 f c.index-frame.ensures c.in-Some-first_of.next first

pub returns-in-Some-first_of-clause-pending : goal.returns-in-Some-first_of-clause-pending
returns-in-Some-first_of-clause-pending g c =
    let f = c.index-frame.result.now in
    let first = subst (λ (n : Option (Next _)). IsFirstOf f c.in-Some.rest f.work n) c.in-Some-first_of.is
    c.first_of.ensures in
    reached_pending g.S.Cells.atom_word c.args.self.now c.in-Some.rest c.in-Some.is c.loop-place.invariant c.requires.0
    c.requires.1 c.requires.2 f c.index-frame.ensures c.in-Some-first_of.next first

pub loop-place-smaller : goal.loop-place-smaller
loop-place-smaller g c =
    let a = g.S.Cells.atom_word in
    let falls = frame_falls a c.args.self.now
    (reached a c.args.self.now c.in-Some.rest c.in-Some.is c.loop-place.invariant c.requires.0 c.requires.1
    c.requires.2) c.index-frame.result.now c.index-frame.ensures in
    subst (λ (place : Option Rest). depth_of c.index-frame.result.now.behind < depth_of place) (sym c.in-Some.is) falls

pub loop-place-preserved : goal.loop-place-preserved
loop-place-preserved g c =
    let f = c.index-frame.result.now in
    let first = subst (λ (n : Option (Next _)). IsFirstOf f c.in-Some.rest f.work n) c.in_default-first_of.is
    c.first_of.ensures in
    reached_behind g.S.Cells.atom_word c.args.self.now c.in-Some.rest c.in-Some.is c.loop-place.invariant c.requires.0
    c.requires.1 c.requires.2 f c.index-frame.ensures first

pub returns-clause-first : goal.returns-clause-first
returns-clause-first g c =
    λ p ms list.
    let a = g.S.Cells.atom_word in
    chain_none a (whole_chain a c.args.self.now
    (subst (λ (place : Option Rest). IsList a p c.args.self.now (extent_of c.args.self.now) place ms) c.in_default.is
    (c.loop-place.invariant.lists p ms list)))
