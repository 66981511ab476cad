use Rattle.std.proofs.Common.{◌∙◌, Some, None, ap, sym, arith}
use Rattle.iso_search_core.proofs.StandingLemmas.{some_same}
use Rattle.iso_frames.specs.declared.frames.Next.TheVariants as next
use Rattle.iso_machine.proofs.FirstGoals.{came_left, member_other, node_first, node_other, node_read, place_within}
use Rattle.iso_machine.proofs.callers.call_member.Goals as goal

pub index-requires : goal.index-requires
index-requires g c =
    let within = place_within g.S.Store g.S.Cells.atom_word c.args.search.now c.args.link c.requires.now c.in-Body.place
    c.in-Body.is c.requires.stands.0 c.requires.stands.1 in
    let many = c.args.search.now.lists.nodes.ok.0 in
    omega (arith, within, many)

pub call_word-requires-clause-first : goal.call_word-requires-clause-first
call_word-requires-clause-first g c =
    node_first g.S.Store g.S.Cells.atom_word c.args.search.now c.args.link c.requires.now c.in-Body.place c.in-Body.is
    c.in-Run.goal
    (node_read g.S.Store g.S.Cells.atom_word c.args.search.now c.args.link c.requires.now c.in-Body.place c.in-Body.is
    c.requires.stands.0 c.requires.stands.1 _ c.index.ensures ∙ ap Some c.in-Run.is)

pub returns-in_default : goal.returns-in_default
returns-in_default g c =
    came_left g.S.Store g.S.Cells.atom_word c.args.search.now (next.Member c.args.link) None c.requires.now
    (member_other g.S.Store g.S.Cells.atom_word c.args.search.now c.args.link c.requires.now
    (λ k is. c.in_default.not-Body k is))

pub returns-in_default-index : goal.returns-in_default-index
returns-in_default-index g c =
    came_left g.S.Store g.S.Cells.atom_word c.args.search.now (next.Member c.args.link) None c.requires.now
    (node_other g.S.Store g.S.Cells.atom_word c.args.search.now c.args.link c.requires.now c.in-Body.place c.in-Body.is
    (λ w there. c.in_default-index.not-Run w (some_same (sym (node_read g.S.Store g.S.Cells.atom_word c.args.search.now
    c.args.link c.requires.now c.in-Body.place c.in-Body.is c.requires.stands.0 c.requires.stands.1 _ c.index.ensures)
    ∙ there))))
