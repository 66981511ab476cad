use Rattle.std.proofs.Common.{◌≤◌, ◌∙◌, ℕ, List, length, max, refl, ap, subst, arith, length-take}
use Rattle.iso_frames.specs.declared.frames.Frame.{Frame}
use Rattle.iso_frames.specs.Costs.{cost_of, pending_of}
use Rattle.iso_frames.specs.Frames.{IsBefore, depth_of, top_of}
use Rattle.iso_frames.proofs.ChainLemmas.{chain_place}
use Rattle.iso_frames.proofs.CodeCosts.{cost_taken_frames, pending_taken_frames}
use Rattle.iso_machine.specs.Wholes.{whole_chain, whole_list}
use Rattle.iso_machine.proofs.Moves.Given.{given_ahead, given_cost, given_keeps, newest_keeps, newest_most, place_stands}
use Rattle.iso_machine.proofs.calling.give_up.Goals as goal

pub give_up-requires : goal.give_up-requires
give_up-requires g c =
    let a = g.S.Cells.atom_word in
    let l = c.args.search.now.lists in
    place_stands l.frames.items c.args.behind (chain_place a (whole_chain a l c.requires.1.chain))

pub returns-clause-ahead : goal.returns-clause-ahead
returns-clause-ahead g c = λ s h.
    let a = g.S.Cells.atom_word in
    let kept = c.kept_by_newest-frames.result in
    let e = c.args.search.now in
    let old = e.lists in
    let new = record old { frames = c.give_up.new.frames; words = c.give_up.new.words } in
    let n = max kept.0 (depth_of c.args.behind) in
    let m = max kept.1 (top_of old.frames.items c.args.behind) in
    let keeps = given_keeps a old new kept.0 kept.1 n m refl
    c.give_up.ensures.frames c.give_up.ensures.words (omega arith) (omega arith) in
    let each = newest_most a kept.0 kept.1 (newest_keeps c.args.search.now.choices.items kept.0 kept.1 c.kept_by_newest-frames.ensures.frames
    c.kept_by_newest-frames.ensures.words) h.choices in
    let chain = c.give_up.ensures.list a (g.S.Store.present e.store) old.nodes.items s.list
    (whole_chain a old h.chain) in
    let list = whole_list a new chain in
    let before : IsBefore c.args.behind (length c.give_up.new.frames.items) = chain_place a chain in
    let same = ap (λ (fs : List Frame). pending_of fs c.args.behind) c.give_up.ensures.frames
    ∙ pending_taken_frames n old.frames.items c.args.behind
    (subst (λ (fs : List Frame). IsBefore c.args.behind (length fs)) c.give_up.ensures.frames before) in
    given_ahead a g.S.Store e s c.args.behind new h kept.0 kept.1 keeps each list same

pub returns-clause-costs : goal.returns-clause-costs
returns-clause-costs g c =
    let a = g.S.Cells.atom_word in
    let kept = c.kept_by_newest-frames.result in
    let e = c.args.search.now in
    let old = e.lists in
    let s = c.requires.0 in
    let h = c.requires.1 in
    let new = record old { frames = c.give_up.new.frames; words = c.give_up.new.words } in
    let n = max kept.0 (depth_of c.args.behind) in
    let m = max kept.1 (top_of old.frames.items c.args.behind) in
    let keeps = given_keeps a old new kept.0 kept.1 n m refl
    c.give_up.ensures.frames c.give_up.ensures.words (omega arith) (omega arith) in
    let each = newest_most a kept.0 kept.1 (newest_keeps c.args.search.now.choices.items kept.0 kept.1 c.kept_by_newest-frames.ensures.frames
    c.kept_by_newest-frames.ensures.words) h.choices in
    given_cost a g.S.Store e s c.args.behind new h kept.0 kept.1 keeps each

pub returns-clause-behind : goal.returns-clause-behind
returns-clause-behind g c =
    let a = g.S.Cells.atom_word in
    let kept = c.kept_by_newest-frames.result in
    let e = c.args.search.now in
    let old = e.lists in
    let h = c.requires.1 in
    let n = max kept.0 (depth_of c.args.behind) in
    let chain = c.give_up.ensures.list a (g.S.Store.present e.store) old.nodes.items _ (whole_chain a old h.chain) in
    let before : IsBefore c.args.behind (length c.give_up.new.frames.items) = chain_place a chain in
    ap (λ (fs : List Frame). cost_of fs c.args.behind) c.give_up.ensures.frames
    ∙ cost_taken_frames n old.frames.items c.args.behind
    (subst (λ (fs : List Frame). IsBefore c.args.behind (length fs)) c.give_up.ensures.frames before)

pub returns-clause-frames : goal.returns-clause-frames
returns-clause-frames g c =
    let n = max c.kept_by_newest-frames.result.0 (depth_of c.args.behind) in
    let few = length-take n c.args.search.now.lists.frames.items in
    let long = ap length c.give_up.ensures.frames in
    subst (λ (j : ℕ). length c.give_up.new.frames.items ≤ max j (depth_of c.args.behind))
    c.kept_by_newest-frames.ensures.frames (omega (arith, few, long))

pub returns-clause-words : goal.returns-clause-words
returns-clause-words g c =
    let top = top_of c.args.search.now.lists.frames.items c.args.behind in
    let n = max c.kept_by_newest-frames.result.1 top in
    let few = length-take n c.args.search.now.lists.words.items in
    let long = ap length c.give_up.ensures.words in
    subst (λ (j : ℕ). length c.give_up.new.words.items ≤ max j top) c.kept_by_newest-frames.ensures.words
    (omega (arith, few, long))
