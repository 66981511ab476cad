use Rattle.std.proofs.Common.{sym, ◌∙◌, arith}
use Rattle.iso_compile.proofs.MarkLemmas.{default_apart, new_more}
use Rattle.iso_compile.proofs.entry.add_fresh.Goals as goal

pub returns-clause-new : goal.returns-clause-new
returns-clause-new c =
    let inside = c.requires.within in
    new_more c.args.parts.now.items c.push.new.self.items c.variable_part-part.result c.in_ok-push.ensures.items
    (c.variable_part-part.ensures.new (default_apart c.args.met.now.items c.args.variable c.index.result.now c.index.result.now (omega (arith, inside, c.requires.many)) c.index.ensures ∙ c.if-index.false) c.place.result c.place.ensures
    (sym c.is_placed.ensures ∙ c.if-not-is_placed.false))
