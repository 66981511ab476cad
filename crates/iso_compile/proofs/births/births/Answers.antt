use Rattle.std.proofs.Common.{length, ap, sym, subst, ◌∙◌}
use Rattle.iso_compile.specs.Births.{AreSpans, AreSources, AreBarriers}
use Rattle.iso_compile.proofs.WayLemmas.{does_born, does_ways, unmet_born, behind_born, old_born}
use Rattle.iso_compile.proofs.births.births.Goals as goal

pub returns : goal.returns
returns c =
    let spans = c.in_ok-spans.spans.items in
    let sources = c.in_ok-sources.sources.items in
    let barriers = c.in_ok-barriers.barriers.items in
    let met = c.args.met.now in
    let old = c.args.code.now.items in
    let new = c.loop-address.code.items in
    let born = c.loop-address.born.items in
    let births = c.loop-address.invariant.0 in
    record {
      does = does_born spans barriers met old new born births;
      ways = λ plan ms entry many right does begins. does_ways spans barriers met old new born births plan sources right
          (subst (λ code. AreSpans code spans) c.as_slice.ensures.value c.in_ok-spans.ensures.spans)
          (subst (λ code. AreSources code sources) c.as_slice-2.ensures.value c.in_ok-sources.ensures.sources)
          (subst (λ all. AreBarriers all barriers) c.as_slice-3.ensures.value c.in_ok-barriers.ensures.barriers)
          (c.in_ok-spans.ensures.many ∙ sym many) (c.in_ok-sources.ensures.many ∙ ap length c.as_slice-2.ensures.value) ms entry does begins;
      unmet = unmet_born spans barriers met old new born births;
      behind = behind_born spans barriers met old new born births;
      calls = old_born spans barriers met old new born births;
    }
