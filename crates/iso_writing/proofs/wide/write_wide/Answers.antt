use Rattle.std.proofs.Common.{◌≡◌, length, map, drop, sym, ap, ◌∙◌, arith}
use Rattle.std.proofs.lemmas.List.{take_at}
use Rattle.std.proofs.lemmas.List.Elements.{All-weaker}
use Rattle.iso_atoms.specs.Texts.{text_at}
use Rattle.iso_model.specs.Terms.Trees.{row}
use Rattle.iso_store_core.proofs.RetainLemmas.{grows_on, grows_most}
use Rattle.iso_writing.specs.Pushing.{IsHeld}
use Rattle.iso_writing.proofs.KnownLemmas.{adds_made, adds_on, known_on, held_on, compound_for, compound_adds}
use Rattle.iso_writing.proofs.wide.write_wide.Goals as goal

pub known_words-requires-clause-inside : goal.known_words-requires-clause-inside
known_words-requires-clause-inside g c = rw c.int.ensures.names c.requires.inside

pub known_words-requires-clause-held : goal.known_words-requires-clause-held
known_words-requires-clause-held g c =
    let p = g.S.Store.present c.args.store.now in
    let q = g.S.Store.present c.int.new.self in
    let environment = c.args.environment.now in
    let compounds = c.args.compounds.now in
    let adds = adds_made c.in_ok-filler.ensures.made c.in_ok-filler.ensures.numbers in
    All-weaker (IsHeld p environment compounds) (IsHeld q environment compounds) (λ operand held. held_on environment compounds operand adds.words held) c.args.operands.now c.requires.held

pub compound-requires-clause-name : goal.compound-requires-clause-name
compound-requires-clause-name g c = rw (c.known_words.ensures.rest.names ∙ c.int.ensures.names) c.requires.name

pub compound-requires-clause-some : goal.compound-requires-clause-some
compound-requires-clause-some g c =
    let back : c.as_slice.result.now ≡ c.known_words.new.words = c.as_slice.ensures.value ∙ take_at c.known_words.new.words (drop (length c.known_words.new.words) c.resize.new.self.items) c.resize.new.self.len (c.in_ok-known_words.ensures.many ∙ sym c.in_ok-resize.ensures.len) in
    rw (back, c.in_ok-known_words.ensures.many) c.requires.some

pub compound-requires-clause-few : goal.compound-requires-clause-few
compound-requires-clause-few g c =
    let back : c.as_slice.result.now ≡ c.known_words.new.words = c.as_slice.ensures.value ∙ take_at c.known_words.new.words (drop (length c.known_words.new.words) c.resize.new.self.items) c.resize.new.self.len (c.in_ok-known_words.ensures.many ∙ sym c.in_ok-resize.ensures.len) in
    rw (back, c.in_ok-known_words.ensures.many) c.requires.few

pub compound-requires-clause-arguments : goal.compound-requires-clause-arguments
compound-requires-clause-arguments g c =
    let back : c.as_slice.result.now ≡ c.known_words.new.words = c.as_slice.ensures.value ∙ take_at c.known_words.new.words (drop (length c.known_words.new.words) c.resize.new.self.items) c.resize.new.self.len (c.in_ok-known_words.ensures.many ∙ sym c.in_ok-resize.ensures.len) in
    rw back c.in_ok-known_words.ensures.hold

pub returns-in_err-known_words-clause-cells : goal.returns-in_err-known_words-clause-cells
returns-in_err-known_words-clause-cells g c counts =
    let none = counts.atomic in
    let words = rw c.int.ensures.names at (c.known_words.ensures.cells counts) in
    grows_most _ 0 (omega (arith, none)) (omega arith) (grows_on c.int.ensures.cells words)

pub returns-clause-made : goal.returns-clause-made
returns-clause-made g c own by next low met rs known are_met =
    let adds = adds_made c.in_ok-filler.ensures.made c.in_ok-filler.ensures.numbers in
    let back : c.as_slice.result.now ≡ c.known_words.new.words = c.as_slice.ensures.value ∙ take_at c.known_words.new.words (drop (length c.known_words.new.words) c.resize.new.self.items) c.resize.new.self.len (c.in_ok-known_words.ensures.many ∙ sym c.in_ok-resize.ensures.len) in
    let names = c.known_words.ensures.rest.names ∙ c.int.ensures.names in
    let whole = rw c.int.ensures.names at (c.in_ok-known_words.ensures.words own by next low met rs (known_on adds.words known) are_met) in
    let made = rw (back, names) at c.compound.ensures.made in
    compound_for (g.S.Store.present c.known_words.new.store) (g.S.Store.present c.compound.new.self) own by c.compound.result (text_at (g.S.Store.names c.args.store.now) c.args.name) (row (map (g.S.Store.present c.known_words.new.store).term c.known_words.new.words)) _ made whole

pub returns-clause-adds : goal.returns-clause-adds
returns-clause-adds g c =
    let adds = adds_made c.in_ok-filler.ensures.made c.in_ok-filler.ensures.numbers in
    compound_adds (g.S.Store.present c.known_words.new.store) (g.S.Store.present c.compound.new.self) (g.S.Store.present c.args.store.now) c.compound.result _ (adds_on adds c.in_ok-known_words.ensures.adds) c.compound.ensures.made c.compound.ensures.numbers

pub returns-clause-cells : goal.returns-clause-cells
returns-clause-cells g c counts =
    let back : c.as_slice.result.now ≡ c.known_words.new.words = c.as_slice.ensures.value ∙ take_at c.known_words.new.words (drop (length c.known_words.new.words) c.resize.new.self.items) c.resize.new.self.len (c.in_ok-known_words.ensures.many ∙ sym c.in_ok-resize.ensures.len) in
    let size : length c.as_slice.result.now ≡ length c.args.operands.now = ap length back ∙ c.in_ok-known_words.ensures.many in
    let none = counts.atomic in
    let words = rw c.int.ensures.names at (c.known_words.ensures.cells counts) in
    grows_most _ 0 (omega (arith, size, none)) (omega arith) (grows_on c.int.ensures.cells (grows_on words c.compound.ensures.cells))

pub returns-clause-rest : goal.returns-clause-rest
returns-clause-rest g c = record {
  names = c.compound.ensures.names ∙ (c.known_words.ensures.rest.names ∙ c.int.ensures.names);
  marks = λ m p h. c.compound.ensures.marks m p (c.known_words.ensures.rest.marks m p (c.int.ensures.marks m p h));
}
