use Rattle.std.proofs.Common.{rules, ◌+◌, ◌∷◌, [], drop, map, take, refl, sym, ap, ◌∙◌, arith}
use Rattle.std.proofs.lemmas.List.{drop_more}
use Rattle.iso_store_core.proofs.RetainLemmas.{grows_on, grows_most, retains_all_on}
use Rattle.iso_compile.specs.Orders.{parts_cells}
use Rattle.iso_code.specs.Loaded.{part_at}
use Rattle.iso_code.proofs.CellLemmas.{taken_most, taken_one}
use Rattle.iso_reading.proofs.LoopLemmas.{carried, reads_on, reads_none, reads_end, ready_here}
use Rattle.iso_reading.proofs.reading.read_operands.Goals as goal

pub read_argument-requires-clause-ready : goal.read_argument-requires-clause-ready
read_argument-requires-clause-ready g c =
    let split = drop_more c.args.operands.now c.loop-index.index c.index-operands-index.result c.loop-index-test.true ∙ ap (λ x. x ∷ drop (c.loop-index.index + 1) c.args.operands.now) (sym c.index-operands-index.is) in (
      c.requires.begins.0,
      ready_here _ c.args.operands.now _ _ c.args.compound _ _ _ _ c.loop-index.index c.index-operands-index.result split c.loop-index.invariant.reads
          c.requires.begins.0 c.requires.begins.1 c.requires.begins.2 c.requires.begins.3 c.requires.begins.4 c.requires.begins.5 c.requires.begins.6,
    )

pub returns-in_err-read_argument-clause-cells : goal.returns-in_err-read_argument-clause-cells
returns-in_err-read_argument-clause-cells g c =
    let f = part_at [] 0 in
    let xs = c.args.operands.now in
    let split = drop_more xs c.loop-index.index c.index-operands-index.result c.loop-index-test.true ∙ ap (λ x. x ∷ drop (c.loop-index.index + 1) xs) (sym c.index-operands-index.is) in
    let one = taken_one f xs c.loop-index.index c.index-operands-index.result split in
    let most = taken_most f xs (c.loop-index.index + 1) in
    grows_most (parts_cells (map f xs)) 0 (omega (arith, one, most)) (omega arith) (grows_on c.loop-index.invariant.cells c.read_argument.ensures.cells)

pub returns-then-not-branch-clause-reads : goal.returns-then-not-branch-clause-reads
returns-then-not-branch-clause-reads g c =
    let split = drop_more c.args.operands.now c.loop-index.index c.index-operands-index.result c.loop-index-test.true ∙ ap (λ x. x ∷ drop (c.loop-index.index + 1) c.args.operands.now) (sym c.index-operands-index.is) in
    let one = rw c.if-not-branch.true at c.in_ok-read_argument.ensures.reads in
    reads_none (g.S.Store.names c.args.store.now) c.args.operands.now (g.S.Store.present c.args.store.now) (g.S.Store.present c.loop-index.store) (g.S.Store.present c.read_argument.new.store) c.args.compound c.argument-argument.result
    c.args.environment.now c.loop-index.environment c.read_argument.new.environment c.args.compounds.now c.loop-index.compounds c.read_argument.new.compounds c.loop-index.index c.loop-index-test.true c.index-operands-index.result split
    c.loop-index.invariant.reads c.argument-argument.ensures.holds c.argument-argument.ensures.value (g.S.Store.names c.loop-index.store) c.loop-index.invariant.rest.names one

pub returns-then-not-branch-clause-cells : goal.returns-then-not-branch-clause-cells
returns-then-not-branch-clause-cells g c =
    let f = part_at [] 0 in
    let xs = c.args.operands.now in
    let split = drop_more xs c.loop-index.index c.index-operands-index.result c.loop-index-test.true ∙ ap (λ x. x ∷ drop (c.loop-index.index + 1) xs) (sym c.index-operands-index.is) in
    let one = taken_one f xs c.loop-index.index c.index-operands-index.result split in
    let most = taken_most f xs (c.loop-index.index + 1) in
    grows_most (parts_cells (map f xs)) 0 (omega (arith, one, most)) (omega arith) (grows_on c.loop-index.invariant.cells c.read_argument.ensures.cells)

pub loop-index-preserved : goal.loop-index-preserved
loop-index-preserved g c =
    let split = drop_more c.args.operands.now c.loop-index.index c.index-operands-index.result c.loop-index-test.true ∙ ap (λ x. x ∷ drop (c.loop-index.index + 1) c.args.operands.now) (sym c.index-operands-index.is) in
    let one = rw c.if-not-branch.false at c.in_ok-read_argument.ensures.reads in
    record {
      reads = reads_on (g.S.Store.names c.args.store.now) c.args.operands.now (g.S.Store.present c.args.store.now) (g.S.Store.present c.loop-index.store) (g.S.Store.present c.read_argument.new.store) c.args.compound c.argument-argument.result
          c.args.environment.now c.loop-index.environment c.read_argument.new.environment c.args.compounds.now c.loop-index.compounds c.read_argument.new.compounds c.loop-index.index c.loop-index-test.true c.index-operands-index.result split
          c.loop-index.invariant.reads c.argument-argument.ensures.holds c.argument-argument.ensures.value (g.S.Store.names c.loop-index.store) c.loop-index.invariant.rest.names one;
      carries = (let carries = rw c.if-not-branch.false at c.in_ok-read_argument.ensures.carries in carried c.loop-index.invariant.carries (carries refl));
      environment = c.read_argument.ensures.environment ∙ c.loop-index.invariant.environment;
      compounds = c.read_argument.ensures.compounds ∙ c.loop-index.invariant.compounds;
      cells = (let taken = taken_one (part_at [] 0) c.args.operands.now c.loop-index.index c.index-operands-index.result split in
          grows_most (parts_cells (map (part_at [] 0) (take (c.loop-index.index + 1) c.args.operands.now))) 0 (omega (arith, taken)) (omega arith) (grows_on c.loop-index.invariant.cells c.read_argument.ensures.cells));
      rest = retains_all_on c.loop-index.invariant.rest c.read_argument.ensures.rest;
    }

pub returns-clause-reads : goal.returns-clause-reads
returns-clause-reads g c = reads_end _ c.args.operands.now _ _ c.args.compound _ _ _ _ c.loop-index.index (search rules) c.loop-index.invariant.reads
