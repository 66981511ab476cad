-- The clause's slot is marked, and what is kept of its procedure is tidied.
use Rattle.std.proofs.Common.{◌∙◌, sym}
use Rattle.iso_clauses.specs.Slots.{procedure_of, part_of}
use Rattle.iso_db.proofs.BecomeLemmas.{tidiable, Becomes-tidied, Becomes-removed, has-shown}
use Rattle.iso_db.proofs.CarryLemmas.{index_kept, lists_removed, lists_tidiable, lists_tidied, removal_carries}
use Rattle.iso_db.proofs.db.Db.remove.Goals as goal

pub invariant_of-self : goal.invariant_of-self
invariant_of-self g c = record {
  kept = (Becomes-removed c.args.self.now.kept c.kill.ensures.removes c.kill.ensures.counted).kept;
  indexed = (lists_removed c.args.self.now.indexed c.kill.ensures.removes c.kill.ensures.counted).indexed;
}

pub returns-then-not-kill-clause-removed : goal.returns-then-not-kill-clause-removed
returns-then-not-kill-clause-removed g c =
    let db = c.args.self.now in
    sym c.if-not-kill.true ∙ c.kill.ensures.removed ∙ has-shown db.slots.items db.removals db.places db.entries.items c.args.id db.kept

pub returns-then-not-kill-clause-contents : goal.returns-then-not-kill-clause-contents
returns-then-not-kill-clause-contents g c = (Becomes-removed c.args.self.now.kept c.kill.ensures.removes c.kill.ensures.counted).shows

pub tidy-requires-clause-whole : goal.tidy-requires-clause-whole
tidy-requires-clause-whole g c = tidiable (Becomes-removed c.args.self.now.kept c.kill.ensures.removes c.kill.ensures.counted) c.as_slice.ensures.value

pub tidy-requires-clause-parts : goal.tidy-requires-clause-parts
tidy-requires-clause-parts g c = lists_tidiable (lists_removed c.args.self.now.indexed c.kill.ensures.removes c.kill.ensures.counted) c.as_slice.ensures.value

pub invariant_of-self-2 : goal.invariant_of-self-2
invariant_of-self-2 g c =
    let gone = Becomes-removed c.args.self.now.kept c.kill.ensures.removes c.kill.ensures.counted in
    record {
      kept = (Becomes-tidied gone c.as_slice.ensures.value (c.tidy.ensures.whole procedure_of)).kept;
      indexed = (lists_tidied (lists_removed c.args.self.now.indexed c.kill.ensures.removes c.kill.ensures.counted) c.as_slice.ensures.value (c.tidy.ensures.parts part_of)).indexed;
    }

pub returns-clause-removed : goal.returns-clause-removed
returns-clause-removed g c =
    let db = c.args.self.now in
    sym c.if-not-kill.false ∙ c.kill.ensures.removed ∙ has-shown db.slots.items db.removals db.places db.entries.items c.args.id db.kept

pub returns-clause-contents : goal.returns-clause-contents
returns-clause-contents g c =
    let gone = Becomes-removed c.args.self.now.kept c.kill.ensures.removes c.kill.ensures.counted in
    (Becomes-tidied gone c.as_slice.ensures.value (c.tidy.ensures.whole procedure_of)).shows

pub returns-then-not-kill-clause-index : goal.returns-then-not-kill-clause-index
returns-then-not-kill-clause-index g c =
    let gone = Becomes-removed c.args.self.now.kept c.kill.ensures.removes c.kill.ensures.counted in
    index_kept _ _ (removal_carries c.kill.ensures.removes gone.gives (lists_removed c.args.self.now.indexed c.kill.ensures.removes c.kill.ensures.counted))

pub returns-clause-index : goal.returns-clause-index
returns-clause-index g c =
    let gone = Becomes-removed c.args.self.now.kept c.kill.ensures.removes c.kill.ensures.counted in
    index_kept _ _ (removal_carries c.kill.ensures.removes (Becomes-tidied gone c.as_slice.ensures.value (c.tidy.ensures.whole procedure_of)).gives
    (lists_tidied (lists_removed c.args.self.now.indexed c.kill.ensures.removes c.kill.ensures.counted) c.as_slice.ensures.value (c.tidy.ensures.parts part_of)))
