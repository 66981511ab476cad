use Rattle.std.proofs.Common.{arith}
use Rattle.iso_model.specs.Terms.TermOf.{term_of}
use Rattle.iso_prep.proofs.PrepareLemmas.{is_converted, assembled_is}
use Rattle.iso_prep.specs.Assembling.{given}
use Rattle.iso_prep.proofs.prepared.assembled.Goals as goal

pub invariant_of-result : goal.invariant_of-result
invariant_of-result c = record {
  body = is_converted c.args.variables.now (given c.args.body) (term_of c.in_ok-body.body) c.requires.callable c.in_ok-body.ensures;
  few = omega (arith, c.len.ensures.len, c.requires.few);
}

pub returns : goal.returns
returns c = assembled_is c.args.variables.now (given c.args.body) _ c.requires.callable c.in_ok-body.ensures _ _ _ c.in_ok-head.ensures c.len.ensures.len
