use Rattle.std.proofs.Common.{rules, ◌<◌, ◌+◌, ◌∷◌, [], length, drop, map, take, refl, sym, ap, ◌∙◌, arith}
use Rattle.std.proofs.lemmas.List.{drop_more}
use Rattle.std.proofs.lemmas.Option.{slice_get_read}
use Rattle.iso_store_core.proofs.RetainLemmas.{grows_on, grows_most, retains_all_on}
use Rattle.iso_compile.specs.Orders.{parts_cells}
use Rattle.iso_code.specs.Loaded.{IsSoundGet, part_at, operand_got}
use Rattle.iso_code.proofs.CellLemmas.{got_most, got_taken}
use Rattle.iso_reading.proofs.LoopLemmas.{carried}
use Rattle.iso_reading.proofs.GetLemmas.{gets_on, gets_none, get_holds}
use Rattle.iso_reading.proofs.gets.meet_each.Goals as goal

pub read_operand-requires-clause-argument : goal.read_operand-requires-clause-argument
read_operand-requires-clause-argument g c =
    let inside : c.get-item.result.argument < length c.args.arguments.now = search rules in
    get_holds _ c.args.gets.now _ _ _ _ c.args.arguments.now _ c.loop-get.get-index c.get-item.result.argument c.index-arguments-get.result
    (slice_get_read c.args.arguments.now _ c.get-item.result.argument c.index-arguments-get.result refl inside c.index-arguments-get.is) c.loop-get.invariant.gets c.requires.ready

pub returns-in_err-read_operand-clause-compounds : goal.returns-in_err-read_operand-clause-compounds
returns-in_err-read_operand-clause-compounds g c =
    let sound : IsSoundGet (length (g.S.Store.names c.args.store.now)) (length c.args.arguments.now) (length c.args.environment.now) c.get-item.result = search rules in
    c.read_operand.ensures.kept _ _ sound.inside ∙ c.loop-get.invariant.compounds

pub returns-in_err-read_operand-clause-cells : goal.returns-in_err-read_operand-clause-cells
returns-in_err-read_operand-clause-cells g c =
    let f = part_at [] 0 in
    let xs = c.args.gets.now in
    let split = drop_more xs c.loop-get.get-index c.get-item.result c.loop-get-test.true ∙ ap (λ x. x ∷ drop (c.loop-get.get-index + 1) xs) (sym c.get-item.is) in
    let one = got_taken f xs c.loop-get.get-index c.get-item.result split in
    let most = got_most f xs (c.loop-get.get-index + 1) in
    grows_most (parts_cells (map f (map operand_got xs))) 0 (omega (arith, one, most)) (omega arith) (grows_on c.loop-get.invariant.cells c.read_operand.ensures.cells)

pub returns-then-not-branch-clause-meets : goal.returns-then-not-branch-clause-meets
returns-then-not-branch-clause-meets g c =
    let sound : IsSoundGet (length (g.S.Store.names c.args.store.now)) (length c.args.arguments.now) (length c.args.environment.now) c.get-item.result = search rules in
    let split = drop_more c.args.gets.now c.loop-get.get-index c.get-item.result c.loop-get-test.true ∙ ap (λ x. x ∷ drop (c.loop-get.get-index + 1) c.args.gets.now) (sym c.get-item.is) in
    let one = rw c.if-not-branch.true at c.in_ok-read_operand.ensures.reads in
    let there = slice_get_read c.args.arguments.now _ c.get-item.result.argument c.index-arguments-get.result refl sound.argument c.index-arguments-get.is in
    gets_none (g.S.Store.names c.args.store.now) c.args.gets.now (g.S.Store.present c.args.store.now) (g.S.Store.present c.loop-get.store) (g.S.Store.present c.read_operand.new.store)
    c.args.environment.now c.loop-get.environment c.read_operand.new.environment c.args.arguments.now c.args.compounds.now c.index-arguments-get.result c.loop-get.get-index c.get-item.result split _ sound.inside there
    c.loop-get.invariant.gets (g.S.Store.names c.loop-get.store) c.loop-get.invariant.rest.names c.read_operand.new.compounds (c.read_operand.ensures.kept _ _ sound.inside ∙ c.loop-get.invariant.compounds)
    (rw c.loop-get.invariant.compounds at one)

pub returns-then-not-branch-clause-compounds : goal.returns-then-not-branch-clause-compounds
returns-then-not-branch-clause-compounds g c =
    let sound : IsSoundGet (length (g.S.Store.names c.args.store.now)) (length c.args.arguments.now) (length c.args.environment.now) c.get-item.result = search rules in
    c.read_operand.ensures.kept _ _ sound.inside ∙ c.loop-get.invariant.compounds

pub returns-then-not-branch-clause-cells : goal.returns-then-not-branch-clause-cells
returns-then-not-branch-clause-cells g c =
    let f = part_at [] 0 in
    let xs = c.args.gets.now in
    let split = drop_more xs c.loop-get.get-index c.get-item.result c.loop-get-test.true ∙ ap (λ x. x ∷ drop (c.loop-get.get-index + 1) xs) (sym c.get-item.is) in
    let one = got_taken f xs c.loop-get.get-index c.get-item.result split in
    let most = got_most f xs (c.loop-get.get-index + 1) in
    grows_most (parts_cells (map f (map operand_got xs))) 0 (omega (arith, one, most)) (omega arith) (grows_on c.loop-get.invariant.cells c.read_operand.ensures.cells)

pub loop-get-preserved : goal.loop-get-preserved
loop-get-preserved g c =
    let sound : IsSoundGet (length (g.S.Store.names c.args.store.now)) (length c.args.arguments.now) (length c.args.environment.now) c.get-item.result = search rules in
    let split = drop_more c.args.gets.now c.loop-get.get-index c.get-item.result c.loop-get-test.true ∙ ap (λ x. x ∷ drop (c.loop-get.get-index + 1) c.args.gets.now) (sym c.get-item.is) in
    let one = rw c.if-not-branch.false at c.in_ok-read_operand.ensures.reads in
    let there = slice_get_read c.args.arguments.now _ c.get-item.result.argument c.index-arguments-get.result refl sound.argument c.index-arguments-get.is in
    let kept = c.read_operand.ensures.kept _ _ sound.inside ∙ c.loop-get.invariant.compounds in
    record {
      gets = gets_on (g.S.Store.names c.args.store.now) c.args.gets.now (g.S.Store.present c.args.store.now) (g.S.Store.present c.loop-get.store) (g.S.Store.present c.read_operand.new.store)
          c.args.environment.now c.loop-get.environment c.read_operand.new.environment c.args.arguments.now c.args.compounds.now c.index-arguments-get.result c.loop-get.get-index c.get-item.result split _ sound.inside there
          c.loop-get.invariant.gets (g.S.Store.names c.loop-get.store) c.loop-get.invariant.rest.names c.read_operand.new.compounds kept (rw c.loop-get.invariant.compounds at one);
      carries = (let carries = rw c.if-not-branch.false at c.in_ok-read_operand.ensures.carries in carried c.loop-get.invariant.carries (carries refl));
      environment = c.read_operand.ensures.environment ∙ c.loop-get.invariant.environment;
      compounds = kept;
      cells = (let taken = got_taken (part_at [] 0) c.args.gets.now c.loop-get.get-index c.get-item.result split in
          grows_most (parts_cells (map (part_at [] 0) (map operand_got (take (c.loop-get.get-index + 1) c.args.gets.now)))) 0 (omega (arith, taken)) (omega arith) (grows_on c.loop-get.invariant.cells c.read_operand.ensures.cells));
      rest = retains_all_on c.loop-get.invariant.rest c.read_operand.ensures.rest;
    }
