use Rattle.std.proofs.Common.{rules, ◌≡◌, ◌-◌, ap, ap₂, ◌∙◌, map, arith, refl}
use Rattle.iso_compile.specs.Emitted.{block_of}
use Rattle.iso_compile.specs.Tasks.{closed}
use Rattle.iso_compile.proofs.EmitLemmas.{stage, closed_set, closed_past, parts_set}
use Rattle.iso_compile.proofs.emitting.Emitter.close.Goals as goal

pub returns-then-at-len-clause-made : goal.returns-then-at-len-clause-made
returns-then-at-len-clause-made c =
    let e = c.args.self.now in
    let many : c.saturating_sub.result ≡ e.next - c.args.first = search rules in
    ap₂ stage (closed_set e.code.items c.args.at c.saturating_sub.result c.index_mut.result.now c.index_mut.ensures.value ∙ ap (λ n. closed c.args.at n (map block_of e.code.items)) many) refl

pub returns-then-at-len-clause-parts : goal.returns-then-at-len-clause-parts
returns-then-at-len-clause-parts c = parts_set c.args.self.now.code.items c.args.at c.saturating_sub.result c.index_mut.result.now c.index_mut.ensures.value

pub returns-else-at-len-clause-made : goal.returns-else-at-len-clause-made
returns-else-at-len-clause-made c =
    let e = c.args.self.now in
    ap₂ stage (closed_past e.code.items c.args.at (e.next - c.args.first) (omega (arith, c.if-at-len.false, c.len.ensures ∙ e.code.ok.0))) refl
