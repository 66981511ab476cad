use Rattle.std.proofs.Common.{◌<◌, ◌∙◌, Option, Some, ap, sym, subst, arith}
use Rattle.iso_frames.specs.declared.frames.Rest.{Rest}
use Rattle.iso_frames.specs.declared.frames.Next.{Next}
use Rattle.iso_frames.specs.declared.frames.Next.TheVariants as next
use Rattle.iso_frames.specs.Frames.{depth_of}
use Rattle.iso_machine.specs.Firsts.{IsFirstOf}
use Rattle.iso_machine.proofs.FrameLemmas.{list_within, frame_falls, frame_goes, frame_first, reached, reached_cost, reached_pending, reached_behind}
use Rattle.iso_machine.proofs.framed.Framed.code_from.Goals as goal

pub index-frame-requires : goal.index-frame-requires
index-frame-requires g c =
    let a = g.S.Cells.atom_word in
    let within = list_within a c.args.self.now
    (reached a c.args.self.now c.in-Some.rest c.in-Some.is c.loop-place.invariant c.requires.0 c.requires.1
    c.requires.2) in
    omega (arith, within)

pub first_of-requires : goal.first_of-requires
first_of-requires g c =
    let a = g.S.Cells.atom_word in
    frame_goes a c.args.self.now (reached a c.args.self.now c.in-Some.rest c.in-Some.is c.loop-place.invariant
    c.requires.0 c.requires.1 c.requires.2) c.index-frame.result.now c.index-frame.ensures

pub returns-in-Some-Code : goal.returns-in-Some-Code
returns-in-Some-Code g c =
    let a = g.S.Cells.atom_word in
    let l = c.args.self.now in
    let f = c.index-frame.result.now in
    let n = next.Code c.in-Some-Code.rest in
    let first = subst (λ (n : Option (Next _)). IsFirstOf f c.in-Some.rest f.work n)
    (c.in-Some-Code.is ∙ ap Some c.in-Some-Code.field-0-is) c.first_of.ensures in
    let here = reached a l c.in-Some.rest c.in-Some.is c.loop-place.invariant in
    rw c.in-Some-Code.field-0-is (record {
      first = λ p ms list. frame_first a l (here p ms list) f c.index-frame.ensures n first;
      cost =
          reached_cost a l c.in-Some.rest c.in-Some.is c.loop-place.invariant c.requires.0 c.requires.1
          c.requires.2 f c.index-frame.ensures n first;
      pending =
          reached_pending a l c.in-Some.rest c.in-Some.is c.loop-place.invariant c.requires.0 c.requires.1
          c.requires.2 f c.index-frame.ensures n first;
    })

pub loop-place-smaller : goal.loop-place-smaller
loop-place-smaller g c =
    let a = g.S.Cells.atom_word in
    let falls = frame_falls a c.args.self.now
    (reached a c.args.self.now c.in-Some.rest c.in-Some.is c.loop-place.invariant c.requires.0 c.requires.1
    c.requires.2) c.index-frame.result.now c.index-frame.ensures in
    subst (λ (place : Option Rest). depth_of c.index-frame.result.now.behind < depth_of place) (sym c.in-Some.is) falls

pub loop-place-preserved : goal.loop-place-preserved
loop-place-preserved g c =
    let f = c.index-frame.result.now in
    let first = subst (λ (n : Option (Next _)). IsFirstOf f c.in-Some.rest f.work n) c.in-None.is
    c.first_of.ensures in
    reached_behind g.S.Cells.atom_word c.args.self.now c.in-Some.rest c.in-Some.is c.loop-place.invariant c.requires.0
    c.requires.1 c.requires.2 f c.index-frame.ensures first
