use Rattle.iso_machine.proofs.goals.read_goal.Goals as goal

pub returns-clause-arguments : goal.returns-clause-arguments
returns-clause-arguments g c =
    let p = g.S.Store.present c.args.store.now in
    let words = c.in_ok-push_all.ensures.words in
    rw (words, c.clear.ensures, c.as_slice.ensures.value) c.in_ok-read_arguments.ensures.arguments
