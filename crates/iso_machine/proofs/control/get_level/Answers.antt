use Rattle.std.proofs.Common.{refl, ◌∙◌, rules}
use Rattle.iso_search.proofs.MovedLemmas.{frames_full, no_lists}
use Rattle.iso_machine.specs.Engines.{framed}
use Rattle.iso_machine.proofs.FrameLemmas.{adds_keeps, adds_same, stacked_same}
use Rattle.iso_machine.proofs.Moves.Instruction.{code_ahead}
use Rattle.iso_machine.proofs.Moves.Level.{level_beyond, level_some, level_low, level_split, level_goes, level_moved, made_clause, made_inside}
use Rattle.iso_machine.proofs.control.get_level.Goals as goal

pub has_room-requires : goal.has_room-requires
has_room-requires g c =
    let own = c.requires.stands.1.own in
    let ahead = code_ahead g.S.Store g.S.Cells.atom_word c.args.search.now own c.args.rest c.requires.now
    c.requires.stands.1.engine in
    (own.query, own.stack, own.list, ahead.choices, ahead.chain)

pub returns-then-not-has_room : goal.returns-then-not-has_room
returns-then-not-has_room g c =
    rw (c.full_frames.ensures.is, c.full_frames.ensures.spent)
    (frames_full g.S.Store (framed g.S.Cells.atom_word) c.args.search.now
    (λ s r. level_beyond g.S.Store g.S.Cells.atom_word c.args.search.now c.args.rest c.args.slot c.requires.now
    c.requires.there (c.has_room.ensures.full c.if-not-has_room.true) s r))

pub push_level-requires-clause-address : goal.push_level-requires-clause-address
push_level-requires-clause-address g c =
    level_some g.S.Store g.S.Cells.atom_word c.args.search.now c.args.rest c.args.slot c.requires.now c.requires.there
    c.requires.stands.0 c.requires.stands.1

pub returns-in_err-made : goal.returns-in_err-made
returns-in_err-made g c =
    let e = c.args.search.now in
    let more = record e.lists { frames = c.push_level.new.frames } in
    no_lists g.S.Store (framed g.S.Cells.atom_word) e more
    (adds_keeps g.S.Cells.atom_word e.lists more (adds_same {old = e.lists.nodes} refl) c.in_err-made.ensures.stand
    (stacked_same {old = e.lists.words} refl)) c.from_residual.result c.from_residual.ensures.0 (search rules)

pub other_at-requires : goal.other_at-requires
other_at-requires g c =
    let e = c.args.search.now in
    let there = c.requires.there in
    let has = c.in_ok-made.ensures.level there.frame there.code there.level there.clause in
    let many = c.len-height.ensures ∙ e.choices.ok.0 in
    let clause = made_clause g.S.Store g.S.Cells.atom_word e c.args.rest c.args.slot c.len-height.result c.requires.now
    there many c.push_level.new.frames c.in_ok-made.made has c.in_ok-made.ensures.stand c.requires.stands.0
    c.requires.stands.1 in
    let inside = made_inside g.S.Store g.S.Cells.atom_word e c.args.rest c.args.slot c.len-height.result c.requires.now
    there many c.push_level.new.frames c.in_ok-made.made has c.in_ok-made.ensures.stand c.requires.stands.0
    c.requires.stands.1 in
    rw c.as_slice.ensures.value (_, has.copy, _, clause, inside)

pub split-requires-clause-address : goal.split-requires-clause-address
split-requires-clause-address g c =
    let e = c.args.search.now in
    let there = c.requires.there in
    let has = c.in_ok-made.ensures.level there.frame there.code there.level there.clause in
    let many = c.len-height.ensures ∙ e.choices.ok.0 in
    let follows = rw c.as_slice.ensures.value at c.in-Some.ensures in
    (level_low g.S.Store g.S.Cells.atom_word e c.args.rest c.args.slot c.len-height.result c.requires.now there many
    c.push_level.new.frames c.in_ok-made.made has c.in_ok-made.ensures.stand c.requires.stands.0 c.requires.stands.1
    c.in-Some.other follows).some

pub split-requires-clause-splits : goal.split-requires-clause-splits
split-requires-clause-splits g c =
    let e = c.args.search.now in
    let there = c.requires.there in
    let has = c.in_ok-made.ensures.level there.frame there.code there.level there.clause in
    let many = c.len-height.ensures ∙ e.choices.ok.0 in
    let follows = rw c.as_slice.ensures.value at c.in-Some.ensures in (
      e,
      c.requires.stands.0,
      c.requires.stands.1,
      level_split g.S.Store g.S.Cells.atom_word e c.args.rest c.args.slot c.len-height.result c.requires.now there many
          c.push_level.new.frames c.in_ok-made.made has c.in_ok-made.ensures.stand c.requires.stands.0
          c.requires.stands.1 c.in-Some.other follows,
    )

pub coming-search-requires : goal.coming-search-requires
coming-search-requires g c =
    let e = c.args.search.now in
    let there = c.requires.there in
    let has = c.in_ok-made.ensures.level there.frame there.code there.level there.clause in
    let many = c.len-height.ensures ∙ e.choices.ok.0 in
    let none = rw c.as_slice.ensures.value at c.in-None.ensures in
    let to = level_goes g.S.Store g.S.Cells.atom_word e c.args.rest c.args.slot c.len-height.result c.requires.now there
    many c.push_level.new.frames c.in_ok-made.made has c.in_ok-made.ensures.stand c.requires.stands.0
    c.requires.stands.1 none in
    (to.own.list, to.ahead.chain)

pub returns-in-Some : goal.returns-in-Some
returns-in-Some g c =
    let e = c.args.search.now in
    let there = c.requires.there in
    let has = c.in_ok-made.ensures.level there.frame there.code there.level there.clause in
    let many = c.len-height.ensures ∙ e.choices.ok.0 in
    let follows = rw c.as_slice.ensures.value at c.in-Some.ensures in
    c.split.ensures e c.requires.stands.0 c.requires.stands.1
    (level_split g.S.Store g.S.Cells.atom_word e c.args.rest c.args.slot c.len-height.result c.requires.now there many
    c.push_level.new.frames c.in_ok-made.made has c.in_ok-made.ensures.stand c.requires.stands.0 c.requires.stands.1
    c.in-Some.other follows)

pub returns-in-None : goal.returns-in-None
returns-in-None g c =
    let e = c.args.search.now in
    let there = c.requires.there in
    let has = c.in_ok-made.ensures.level there.frame there.code there.level there.clause in
    let many = c.len-height.ensures ∙ e.choices.ok.0 in
    let none = rw c.as_slice.ensures.value at c.in-None.ensures in
    level_moved g.S.Store g.S.Cells.atom_word e c.args.rest c.args.slot c.len-height.result c.requires.now there many
    c.push_level.new.frames c.in_ok-made.made has c.in_ok-made.ensures.stand none c.coming-search.result
    c.coming-search.ensures.behind c.coming-search.ensures.cost c.coming-search.ensures.awake c.requires.stands.0
    c.requires.stands.1
