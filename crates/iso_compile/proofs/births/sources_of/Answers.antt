use Rattle.std.proofs.Common.{refl, ◌∙◌, arith}
use Rattle.std.proofs.lemmas.Option.{slice_get_read, slice_get_within}
use Rattle.iso_compile.proofs.BirthLemmas.{sources_more}
use Rattle.iso_compile.proofs.births.sources_of.Goals as goal

pub loop-address-preserved : goal.loop-address-preserved
loop-address-preserved c = (
  sources_more c.args.code.now c.loop-address.sources.items _ c.loop-address.address c.index-code-address.result (slice_get_read c.args.code.now _ _ _ refl c.loop-address-test.true c.index-code-address.is) c.note_source.ensures.noted c.note_source.ensures.kept
      c.loop-address.invariant.0,
  c.note_source.ensures.many ∙ c.loop-address.invariant.1,
)

pub returns-clause-sources : goal.returns-clause-sources
returns-clause-sources c s i l t at goes got = c.loop-address.invariant.0 s i l t (let within = slice_get_within c.args.code.now s i at.is in omega (arith, within, c.loop-address-test.false)) at goes got
