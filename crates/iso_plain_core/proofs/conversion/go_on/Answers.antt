use Rattle.std.proofs.Common.{◌≡◌, ◌-◌, ◌+◌, ap, sym, arith, length}
use Rattle.iso_plain_core.proofs.ConversionLemmas.{after_first, after_condition, after_next, after_second, after_other}
use Rattle.iso_plain_core.specs.declared.conversion.Task.TheVariants.{Join, Other, Choose}
use Rattle.iso_plain_core.specs.Cells.{task_cells, word_cells}
use Rattle.iso_plain_core.proofs.CellLemmas.{word_left}
use Rattle.iso_plain_core.proofs.conversion.go_on.Goals as goal

pub returns-in_ok-push-in-Second-clause-goes_on : goal.returns-in_ok-push-in-Second-clause-goes_on
returns-in_ok-push-in-Second-clause-goes_on g c = λ q b m whole ends does leads.
    (let many = c.args.nodes.now.ok.0 in
    let place : c.saturating_sub-last.result ≡ length c.args.nodes.now.items - 1 = omega arith in
    after_first q c.args.nodes.now.items c.args.tasks.now.items c.push.new.self.items c.args.task b m whole ends does leads c.in-Second.connective c.in-Second.second c.saturating_sub-last.result c.in-Second.is place c.in_ok-push-in-Second.ensures.items)

pub returns-in_ok-push-in-Next-clause-goes_on : goal.returns-in_ok-push-in-Next-clause-goes_on
returns-in_ok-push-in-Next-clause-goes_on g c = λ q b m whole ends does leads.
    (let many = c.args.nodes.now.ok.0 in
    let place : c.saturating_sub-last.result ≡ length c.args.nodes.now.items - 1 = omega arith in
    after_condition q c.args.nodes.now.items c.args.tasks.now.items c.push-in-Next.new.self.items c.args.task b m whole ends does leads c.in-Next.next c.in-Next.other c.saturating_sub-last.result c.in-Next.is place c.in_ok-push-in-Next.ensures.items)

pub returns-in_ok-push-in-Other-clause-goes_on : goal.returns-in_ok-push-in-Other-clause-goes_on
returns-in_ok-push-in-Other-clause-goes_on g c = λ q b m whole ends does leads.
    (let many = c.args.nodes.now.ok.0 in
    let place : c.saturating_sub-last.result ≡ length c.args.nodes.now.items - 1 = omega arith in
    after_next q c.args.nodes.now.items c.args.tasks.now.items c.push-in-Other.new.self.items c.args.task b m whole ends does leads c.in-Other.other c.in-Other.condition c.saturating_sub-last.result c.in-Other.is place c.in_ok-push-in-Other.ensures.items)

pub returns-in_ok-push-in-Join-clause-goes_on : goal.returns-in_ok-push-in-Join-clause-goes_on
returns-in_ok-push-in-Join-clause-goes_on g c = λ q b m whole ends does leads.
    (let many = c.args.nodes.now.ok.0 in
    let back : c.saturating_sub.result ≡ length c.args.nodes.now.items - c.in-Join.first = omega arith in
    after_second q c.args.nodes.now.items c.args.tasks.now.items c.args.tasks.now.items c.args.task b m whole ends does leads c.in-Join.connective c.in-Join.first c.saturating_sub.result c.push-in-Join.new.self.items c.in-Join.is back
    (rw c.joined.ensures at c.in_ok-push-in-Join.ensures.items))

pub returns-in_ok-push-in-Choose-clause-goes_on : goal.returns-in_ok-push-in-Choose-clause-goes_on
returns-in_ok-push-in-Choose-clause-goes_on g c = λ q b m whole ends does leads.
    (let many = c.args.nodes.now.ok.0 in
    let back : c.saturating_sub-condition.result ≡ length c.args.nodes.now.items - c.in-Choose.condition = omega arith in
    let behind : c.saturating_sub-next.result ≡ length c.args.nodes.now.items - c.in-Choose.next = omega arith in
    after_other q c.args.nodes.now.items c.args.tasks.now.items c.args.tasks.now.items c.args.task b m whole ends does leads c.in-Choose.condition c.in-Choose.next c.saturating_sub-condition.result c.saturating_sub-next.result c.push-in-Choose.new.self.items c.in-Choose.is back behind c.in_ok-push-in-Choose.ensures.items)

pub returns-in_ok-push-in-Second-clause-left : goal.returns-in_ok-push-in-Second-clause-left
returns-in_ok-push-in-Second-clause-left g c = λ q.
    (let task : task_cells q c.args.task ≡ word_cells q c.in-Second.second = ap (task_cells q) c.in-Second.is in
    word_left q c.args.tasks.now.items c.push.new.self.items c.args.task (Join c.in-Second.connective c.saturating_sub-last.result) c.in-Second.second c.in_ok-push-in-Second.ensures.items (omega (arith, task)))

pub returns-in_ok-push-in-Next-clause-left : goal.returns-in_ok-push-in-Next-clause-left
returns-in_ok-push-in-Next-clause-left g c = λ q.
    (let task : task_cells q c.args.task ≡ word_cells q c.in-Next.next + word_cells q c.in-Next.other = ap (task_cells q) c.in-Next.is in
    word_left q c.args.tasks.now.items c.push-in-Next.new.self.items c.args.task (Other c.saturating_sub-last.result c.in-Next.other) c.in-Next.next c.in_ok-push-in-Next.ensures.items (sym task))

pub returns-in_ok-push-in-Other-clause-left : goal.returns-in_ok-push-in-Other-clause-left
returns-in_ok-push-in-Other-clause-left g c = λ q.
    (let task : task_cells q c.args.task ≡ word_cells q c.in-Other.other = ap (task_cells q) c.in-Other.is in
    word_left q c.args.tasks.now.items c.push-in-Other.new.self.items c.args.task (Choose c.in-Other.condition c.saturating_sub-last.result) c.in-Other.other c.in_ok-push-in-Other.ensures.items (omega (arith, task)))
