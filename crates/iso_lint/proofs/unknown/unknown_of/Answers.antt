use Rattle.iso_lint.proofs.KeyLemmas.{unknown_later}
use Rattle.iso_lint.proofs.unknown.unknown_of.Goals as goal

pub loop-key-preserved : goal.loop-key-preserved
loop-key-preserved c = λ ks table.
    let noted = c.in_ok-note_unknown.ensures ks table in
    let so_far = c.loop-key.invariant ks table in
    unknown_later ks c.args.keys.now c.loop-key.key-index _ _ _ c.loop-key-test.true noted so_far
