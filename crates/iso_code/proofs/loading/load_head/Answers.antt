use Rattle.std.proofs.Common.{ap, ◌∙◌}
use Rattle.iso_code.specs.declared.operands.Head.{Head}
use Rattle.iso_code.specs.Loading.{behind_blocks, IsLoadedGet}
use Rattle.iso_code.proofs.LoadLemmas.{zip_weaker, get_kept}
use Rattle.iso_code.proofs.LoadedLemmas.{gets_from, inner_from, head_loaded}
use Rattle.iso_code.proofs.loading.load_head.Goals as goal

pub load_gets-requires : goal.load_gets-requires
load_gets-requires g c =
    let f = c.requires.form in
    gets_from c.args.low c.args.arity c.args.gets.now c.args.blocks.now f.0 c.requires.registers f.3 f.4 f.1 f.2

pub load_blocks-requires : goal.load_blocks-requires
load_blocks-requires g c =
    let f = c.requires.form in
    inner_from c.args.low c.args.arity c.args.gets.now c.args.blocks.now f.0 c.requires.registers f.3 f.4 f.1 f.2

pub returns-clause-loaded : goal.returns-clause-loaded
returns-clause-loaded g c =
    let f = c.requires.form in
    let low = c.args.low in
    let old = g.S.Store.names c.load_gets.new.store in
    let new = g.S.Store.names c.load_blocks.new.store in
    let head : Head = record { gets = c.in_ok-gets.gets; blocks = c.in_ok-blocks.blocks; compounds = c.in_ok-compounds.compounds } in
    head_loaded low c.args.arity c.args.gets.now c.args.blocks.now f.0 c.requires.registers f.3 f.4 f.1 f.2 new head
    (zip_weaker (IsLoadedGet old low) (IsLoadedGet new low) (get_kept old new c.load_blocks.ensures.rest.names low) c.args.gets.now c.in_ok-gets.gets.items c.in_ok-gets.ensures.loaded)
    c.in_ok-blocks.ensures.loaded (c.in_ok-compounds.ensures ∙ ap behind_blocks c.as_slice.ensures.value)
