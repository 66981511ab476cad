-- All clauses of the block are removed, and the kind is taken.
use Rattle.std.proofs.Common.{arith}
use Rattle.iso_clauses.specs.Slots.{procedure_of, part_of}
use Rattle.iso_db.proofs.PlaceLemmas.{shown_within}
use Rattle.iso_db.proofs.BecomeLemmas.{tidiable, Becomes-tidied, Becomes-abolished}
use Rattle.iso_db.proofs.CarryLemmas.{index_kept, lists_cleared, lists_tidiable, lists_tidied, clearing_carries}
use Rattle.iso_db.proofs.db.Db.abolish.Goals as goal

pub index-entry-requires : goal.index-entry-requires
index-entry-requires g c =
    let db = c.args.self.now in
    omega (arith, shown_within db.slots.items db.removals db.places db.entries.items c.args.place db.kept.same c.requires, db.entries.ok.0)

pub make_absent-requires : goal.make_absent-requires
make_absent-requires g c =
    let db = c.args.self.now in
    omega (arith, shown_within db.slots.items db.removals db.places db.entries.items c.args.place db.kept.same c.requires, db.kept.same)

pub trim-requires : goal.trim-requires
trim-requires g c =
    let gone = Becomes-abolished c.args.self.now.kept c.requires c.index-entry.ensures c.current.ensures c.kill_all.ensures.cleared c.kill_all.ensures.counted c.make_absent.ensures in
    tidiable gone c.as_slice-2.ensures.value

pub invariant_of-self : goal.invariant_of-self
invariant_of-self g c =
    let gone = Becomes-abolished c.args.self.now.kept c.requires c.index-entry.ensures c.current.ensures c.kill_all.ensures.cleared c.kill_all.ensures.counted c.make_absent.ensures in
    record {
      kept = (Becomes-tidied gone c.as_slice-2.ensures.value (c.trim.ensures procedure_of)).kept;
      indexed = (lists_tidied (lists_cleared c.args.self.now.indexed c.kill_all.ensures.cleared c.kill_all.ensures.counted) c.as_slice.ensures.value (c.trim_parts.ensures part_of)).indexed;
    }

pub returns-clause-contents : goal.returns-clause-contents
returns-clause-contents g c =
    let gone = Becomes-abolished c.args.self.now.kept c.requires c.index-entry.ensures c.current.ensures c.kill_all.ensures.cleared c.kill_all.ensures.counted c.make_absent.ensures in
    (Becomes-tidied gone c.as_slice-2.ensures.value (c.trim.ensures procedure_of)).shows

pub trim_parts-requires : goal.trim_parts-requires
trim_parts-requires g c = lists_tidiable (lists_cleared c.args.self.now.indexed c.kill_all.ensures.cleared c.kill_all.ensures.counted) c.as_slice.ensures.value

pub returns-clause-index : goal.returns-clause-index
returns-clause-index g c =
    let gone = Becomes-abolished c.args.self.now.kept c.requires c.index-entry.ensures c.current.ensures c.kill_all.ensures.cleared c.kill_all.ensures.counted c.make_absent.ensures in
    index_kept _ _ (clearing_carries c.kill_all.ensures.cleared (Becomes-tidied gone c.as_slice-2.ensures.value (c.trim.ensures procedure_of)).gives
    (lists_tidied (lists_cleared c.args.self.now.indexed c.kill_all.ensures.cleared c.kill_all.ensures.counted) c.as_slice.ensures.value (c.trim_parts.ensures part_of)))
