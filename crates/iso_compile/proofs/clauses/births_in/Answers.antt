use Rattle.std.proofs.Common.{rules, subst}
use Rattle.iso_compile.specs.Births.{GivesValues}
use Rattle.iso_compile.proofs.EntryLemmas.{all_given}
use Rattle.iso_compile.proofs.clauses.births_in.Goals as goal

pub returns-clause-gives : goal.returns-clause-gives
returns-clause-gives c =
    (all_given _ c.args.met.now c.in_ok-all.all.items c.in_ok-born.born.items c.args.code.now.items _ (c.in_ok-all.ensures.items_if_clones_equal (λ y same. same)) (search rules)
    (subst (λ list. GivesValues list c.args.code.now.items c.births-2.new.code.items c.in_ok-born.born.items) c.as_slice.ensures.value c.in_ok-born.ensures)).0

pub returns-clause-asked : goal.returns-clause-asked
returns-clause-asked c none =
    (all_given _ c.args.met.now c.in_ok-all.all.items c.in_ok-born.born.items c.args.code.now.items _ (c.in_ok-all.ensures.items_if_clones_equal (λ y same. same)) (search rules)
    (subst (λ list. GivesValues list c.args.code.now.items c.births-2.new.code.items c.in_ok-born.born.items) c.as_slice.ensures.value c.in_ok-born.ensures)).1
