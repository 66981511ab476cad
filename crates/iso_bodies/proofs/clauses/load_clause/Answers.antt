use Rattle.std.proofs.Common.{refl}
use Rattle.iso_bodies.proofs.KeptLemmas.{head_stays}
use Rattle.iso_bodies.proofs.clauses.load_clause.Goals as goal

pub returns-clause-loaded : goal.returns-clause-loaded
returns-clause-loaded g c =
    let old = g.S.Store.names c.load_head.new.store in
    let new = g.S.Store.names c.load_body.new.store in
    let compiled = c.args.compiled.now in
    let head = rw c.as_slice-blocks.ensures.value at (rw c.as_slice-gets.ensures.value at c.in_ok-head.ensures.loaded) in
    record {
      head = head_stays old new c.load_body.ensures.rest.names c.args.low c.args.arity compiled.gets.items compiled.blocks.items c.in_ok-head.head head;
      variables = refl;
      fresh = c.in_ok-fresh.ensures;
      body = rw c.as_slice.ensures.value at c.in_ok-body.ensures.loaded;
    }
