use Rattle.std.proofs.Common.{◌≡◌, [], length, drop, ◌∙◌, arith}
use Rattle.std.proofs.lemmas.List.{take_at}
use Rattle.std.proofs.lemmas.List.Elements.{All-weaker}
use Rattle.iso_store_core.proofs.RetainLemmas.{grows_on, grows_most}
use Rattle.iso_code.specs.Loaded.{all_operands}
use Rattle.iso_writing.specs.Pushing.{IsHeld}
use Rattle.iso_code.proofs.UnifierLemmas.{keeps_on}
use Rattle.iso_writing.proofs.KnownLemmas.{held_on, held_with, cells_same, all_left, all_right}
use Rattle.iso_machine_core.proofs.GoalLemmas.{fillers_hold, all_put}
use Rattle.iso_machine_core.proofs.goals.put_arguments.Goals as goal

pub write_all-requires-clause-compounds : goal.write_all-requires-clause-compounds
write_all-requires-clause-compounds g c = rw (c.as_slice-blocks.ensures.value, c.as_mut_slice.ensures.value, c.in_ok-fill_compounds.ensures.count) c.requires.compounds

pub write_all-requires-clause-held : goal.write_all-requires-clause-held
write_all-requires-clause-held g c =
    let p = g.S.Store.present c.args.store.now in
    let q = g.S.Store.present c.fill_compounds.new.store in
    let environment = c.args.environment.now in
    let inner = all_operands c.args.code.now.blocks.items in
    rw c.as_slice-blocks.ensures.value
    (All-weaker (IsHeld p environment []) (IsHeld q environment []) (λ operand held. held_on environment [] operand c.in_ok-fill_compounds.ensures.adds.words held) inner
    (all_right (IsHeld p environment []) c.args.code.now.operands.items inner c.requires.held))

pub write_all-requires-clause-hold : goal.write_all-requires-clause-hold
write_all-requires-clause-hold g c = rw c.as_mut_slice.ensures.value (fillers_hold (g.S.Store.present c.fill_compounds.new.store) c.fill_compounds.new.compounds.items c.in_ok-fill_compounds.ensures.fillers)

pub known_words-requires-clause-held : goal.known_words-requires-clause-held
known_words-requires-clause-held g c =
    let p = g.S.Store.present c.args.store.now in
    let r = g.S.Store.present c.write_all.new.store in
    let environment = c.args.environment.now in
    let keeps = keeps_on c.in_ok-fill_compounds.ensures.adds.words c.in_ok-write_all.ensures.adds.words in
    let back : c.as_slice.result.now ≡ c.write_all.new.compounds = c.as_slice.ensures.value ∙ take_at c.write_all.new.compounds (drop (length c.write_all.new.compounds) c.fill_compounds.new.compounds.items) c.fill_compounds.new.compounds.len (c.write_all.ensures.count ∙ c.as_mut_slice.ensures.len) in
    rw (c.as_slice-operands.ensures.value, back)
    (All-weaker (IsHeld p environment []) (IsHeld r environment c.write_all.new.compounds) (λ operand held. held_with environment c.write_all.new.compounds operand keeps c.in_ok-write_all.ensures.hold held) c.args.code.now.operands.items
    (all_left (IsHeld p environment []) c.args.code.now.operands.items (all_operands c.args.code.now.blocks.items) c.requires.held))

pub returns-clause-puts : goal.returns-clause-puts
returns-clause-puts g c =
    let names = c.write_all.ensures.rest.names ∙ c.fill_compounds.ensures.rest.names in
    let made = rw (c.as_slice-blocks.ensures.value, c.as_mut_slice.ensures.value, c.fill_compounds.ensures.rest.names) at c.in_ok-write_all.ensures.made in
    let back : c.as_slice.result.now ≡ c.write_all.new.compounds = c.as_slice.ensures.value ∙ take_at c.write_all.new.compounds (drop (length c.write_all.new.compounds) c.fill_compounds.new.compounds.items) c.fill_compounds.new.compounds.len (c.write_all.ensures.count ∙ c.as_mut_slice.ensures.len) in
    let words = rw (c.as_slice-operands.ensures.value, back, names) at c.known_words.ensures.words in
    let many = rw c.as_slice-operands.ensures.value at c.known_words.ensures.many in
    all_put (g.S.Store.names c.args.store.now) c.args.code.now (g.S.Store.present c.args.store.now) (g.S.Store.present c.fill_compounds.new.store) (g.S.Store.present c.write_all.new.store) (g.S.Store.present c.known_words.new.store)
    c.args.environment.now c.fill_compounds.new.compounds.items c.write_all.new.compounds c.known_words.new.words c.known_words.result
    c.in_ok-fill_compounds.ensures.adds.words c.in_ok-fill_compounds.ensures.fillers made words c.known_words.ensures.hold many

pub returns-clause-cells : goal.returns-clause-cells
returns-clause-cells g c counts =
    let blocks = rw c.as_slice-blocks.ensures.value at (c.write_all.ensures.cells counts) in
    let operands = rw (c.as_slice-operands.ensures.value, cells_same (g.S.Store.names c.write_all.new.store) [] 0 c.args.code.now.operands.items) at (c.known_words.ensures.cells counts) in
    grows_most _ 0 (omega arith) (omega arith) (grows_on (c.fill_compounds.ensures.cells counts) (grows_on blocks operands))
