use Rattle.std.proofs.Common.{◌≡◌, ◌<◌, ◌+◌, ◌-◌, length, arith}
use Rattle.std.proofs.lemmas.List.Elements.{All-pop, All-set}
use Rattle.iso_text.specs.Parts.{AreOf}
use Rattle.iso_text.proofs.PartLemmas.{takes_longer, last_of}
use Rattle.iso_text.proofs.parts.next_part.Goals as goal

pub returns-then-last-gt0-clause-some : goal.returns-then-last-gt0-clause-some
returns-then-last-gt0-clause-some c =
    let items = c.args.kept.now.items in
    let n = c.args.kept.now.len - 1 in
    let whole = c.args.kept.now.ok.0 in
    let some = c.in-Some.ensures.item.3.0 in
    let all : n + 1 ≡ length items = omega arith in
    takes_longer items n c.in-Some.last.now c.lengthened-last.result all c.in-Some.ensures.value c.if-last-gt0.true c.lengthened-last.ensures

pub returns-else-last-gt0-clause-each : goal.returns-else-last-gt0-clause-each
returns-else-last-gt0-clause-each c = λ t all.
    (let items = c.args.kept.now.items in
    let n = c.args.kept.now.len - 1 in
    let last = c.in-Some.last.now in
    let whole = c.args.kept.now.ok.0 in
    let some = c.in-Some.ensures.item.3.0 in
    let within : n < length items = omega arith in
    let here = last_of t items n last within c.in-Some.ensures.value all in
    ((All-pop (AreOf t) _ c.pop.new.self.items c.pop.result c.pop.ensures.items (All-set (AreOf t) items n last here all)).0, here.0))
