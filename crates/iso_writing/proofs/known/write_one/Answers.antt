use Rattle.std.proofs.lemmas.List.{append-nil}
use Rattle.iso_compile.specs.Table.{made}
use Rattle.iso_code.specs.Loaded.{block_at}
use Rattle.iso_writing.proofs.KnownLemmas.{block_known}
use Rattle.iso_writing.proofs.known.write_one.Goals as goal

pub returns-clause-made : goal.returns-clause-made
returns-clause-made g c own by next low met rs known are_met =
    let names = g.S.Store.names c.args.store.now in
    let met_here = rw append-nil at are_met in
    let one = c.in_ok-word.ensures.made own by next low met rs known met_here in
    rw c.in-Compound.is (block_known (g.S.Store.present c.args.store.now) (g.S.Store.present c.write_known.new.store) own by next low met c.args.environment.now c.args.compounds.now rs
    c.in-Compound.compound c.in_ok-word.word (made next rs (block_at names low c.args.block.now)) c.in_ok-word.ensures.adds.words known one)
