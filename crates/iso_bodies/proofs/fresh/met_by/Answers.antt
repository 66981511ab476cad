use Rattle.std.proofs.Common.{◌≡◌, false, replicate, rules, map}
use Rattle.iso_code.specs.Loaded.{all_operands, operand_got}
use Rattle.iso_bodies.specs.Clauses.{none_met}
use Rattle.iso_bodies.proofs.NoteLemmas.{none_says, notes_both}
use Rattle.iso_bodies.proofs.fresh.met_by.Goals as goal

pub returns-clause-met : goal.returns-clause-met
returns-clause-met c =
    let head = c.args.head.now in
    let old = c.in_ok-met.met.items in
    let unmet : old ≡ replicate c.args.count false = search rules in
    let gets = rw c.as_slice.ensures.value at c.note_gets.ensures in
    let blocks = rw c.as_slice-2.ensures.value at c.note_blocks.ensures in
    (notes_both (map operand_got head.gets.items) (all_operands head.blocks.items) old c.note_gets.new.met.items c.note_blocks.new.met.items gets blocks).met none_met (none_says c.args.count old unmet)
