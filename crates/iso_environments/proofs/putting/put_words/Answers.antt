use Rattle.std.proofs.Common.{◌≡◌, [], length, take, refl, ap, arith}
use Rattle.iso_writing.proofs.KnownLemmas.{adds_made}
use Rattle.iso_environments.specs.Stacked.{Stacked}
use Rattle.iso_environments.proofs.PutLemmas.{puts_here}
use Rattle.iso_environments.proofs.StackLemmas.{count_is, all_written}
use Rattle.iso_environments.proofs.putting.put_words.Goals as goal

pub returns-clause-puts : goal.returns-clause-puts
returns-clause-puts g c =
    let file = c.words.inside.file.items in
    let own = c.put_arguments.new.arguments in
    let stand : take c.words.inside.count file ≡ c.grow.new.self.items =
    ap (λ (s : Stacked _). s.items) c.words.view_is in
    let none = ap length c.clear.ensures in
    let grown = c.in_ok-grow.ensures.many in
    let operands = c.len-count.ensures in
    let inside = c.words.invariant in
    let ok = c.words.inside.file.ok.0 in
    let n = length c.args.code.now.operands.items in
    let count = count_is c.words.inside.count n c.grow.new.self.items file inside stand
    (omega (arith, grown, none, operands)) in
    let puts = c.in_ok-put_arguments.ensures.puts in
    let many = puts.many in
    puts_here (g.S.Store.names c.args.store.now) (g.S.Store.names c.int.new.self) c.args.code.now
    (g.S.Store.present c.args.store.now) (g.S.Store.present c.int.new.self)
    (g.S.Store.present c.put_arguments.new.store) c.args.environment.now own _
    (adds_made c.in_ok-filler.ensures.made c.in_ok-filler.ensures.numbers) c.int.ensures.names
    (all_written 0 c.words.inside.count c.words.inside.file.len [] file (take 0 c.as_mut_slice.result.now) own _ _ refl
    (omega arith) refl (omega (arith, count, many)) (omega (arith, inside, ok))) puts
