use Rattle.std.proofs.Common.{◌-◌, arith, rules}
use Rattle.iso_machine.specs.Instructions.{at_address}
use Rattle.iso_machine.proofs.Moves.Split.{split_full, split_list, split_on, split_refused}
use Rattle.iso_machine.proofs.control.split.Goals as goal

pub has_room-requires : goal.has_room-requires
has_room-requires g c =
    let one = c.requires.splits.3.splits c.requires.splits.1 c.requires.splits.2 in
    rw c.at-on.ensures ((one.own).query, (one.own).stack, one.list, one.ahead.choices, one.ahead.chain)

pub returns-then-not-has_room : goal.returns-then-not-has_room
returns-then-not-has_room g c = λ old s r h.
    let beyond = rw c.at-on.ensures at (c.has_room.ensures.full c.if-not-has_room.true) in
    rw (c.full_frames.ensures.is, c.full_frames.ensures.spent)
    (split_full g.S.Store g.S.Cells.atom_word old c.args.search.now
    (at_address c.args.rest (c.args.rest.address - 1)) (at_address c.args.rest c.args.other) h beyond)

pub returns-in_err-keep_choice : goal.returns-in_err-keep_choice
returns-in_err-keep_choice g c = λ old s r h.
    let refused = c.in_err-keep_choice.ensures in
    split_refused g.S.Store g.S.Cells.atom_word old c.args.search.now
    (at_address c.args.rest (c.args.rest.address - 1)) (at_address c.args.rest c.args.other) h c.keep_choice.new.store
    c.keep_choice.new.choices refused.present refused.rest.marks refused.rest.names refused.kept c.from_residual.result
    c.from_residual.ensures.0 (search rules)

pub coming-search-requires : goal.coming-search-requires
coming-search-requires g c =
    let made = c.in_ok-keep_choice.ensures in
    rw c.at-on.ensures
    (split_list g.S.Store g.S.Cells.atom_word c.requires.splits.0 c.args.search.now
    (at_address c.args.rest (c.args.rest.address - 1)) (at_address c.args.rest c.args.other) c.requires.splits.3
    c.requires.splits.1 c.requires.splits.2 c.keep_choice.new.store made.present)

pub returns : goal.returns
returns g c = λ old s r h.
    let made = c.in_ok-keep_choice.ensures in
    let gains = rw (c.kept-kept.ensures, c.at.ensures) at made.gains in
    let comes = rw c.at-on.ensures at c.coming-search.ensures.behind in
    let fewer = rw c.at-on.ensures at c.coming-search.ensures.cost in
    let few = c.has_room.ensures.room c.if-not-has_room.false in
    let count = made.count in
    split_on g.S.Store g.S.Cells.atom_word old c.args.search.now
    (at_address c.args.rest (c.args.rest.address - 1)) (at_address c.args.rest c.args.other) h s r
    c.keep_choice.new.store c.keep_choice.new.choices made.present made.rest.marks made.rest.names
    (omega (arith, few, count)) gains c.coming-search.result comes fewer c.coming-search.ensures.awake
