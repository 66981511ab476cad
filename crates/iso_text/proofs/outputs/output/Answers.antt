use Rattle.std.proofs.Common.{◌≡◌, length, arith}
use Rattle.iso_store_core.proofs.ArgumentLemmas.{argument-is}
use Rattle.iso_text.proofs.outputs.output.Goals as goal
use Rattle.iso_text.proofs.outputs.output.Goals.{in-Write, in-Writeq, in-WriteCanonical}

pub returns-clause-written : goal.returns-clause-written
returns-clause-written g c = λ t are.
    let p = g.S.Store.present c.args.store.now in
    let words = c.args.arguments.now in
    elim c.match-row.branch [
      | in-Write w ↦
          (let one : length words ≡ 1 = rw w.in-Write.is at c.requires.count in
          rw (w.in-Write.is, ← argument-is p words t 0 c.index-arguments-0.result are (omega (arith, one)) c.index-arguments-0.is) (rw w.style-is at c.in_ok-written.ensures))
      | in-Writeq w ↦
          (let one : length words ≡ 1 = rw w.in-Writeq.is at c.requires.count in
          rw (w.in-Writeq.is, ← argument-is p words t 0 c.index-arguments-0.result are (omega (arith, one)) c.index-arguments-0.is) (rw w.style-is at c.in_ok-written.ensures))
      | in-WriteCanonical w ↦
          (let one : length words ≡ 1 = rw w.in-WriteCanonical.is at c.requires.count in
          rw (w.in-WriteCanonical.is, ← argument-is p words t 0 c.index-arguments-0.result are (omega (arith, one)) c.index-arguments-0.is) (rw w.style-is at c.in_ok-written.ensures))
    ]
