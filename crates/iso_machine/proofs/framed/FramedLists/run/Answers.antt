use Rattle.std.proofs.Common.{refl, arith}
use Rattle.iso_model.specs.Search.Walker.{Goal}
use Rattle.iso_search_core.specs.Bodies.{most}
use Rattle.iso_plain_core.specs.Standing.{a_body}
use Rattle.iso_search_core.proofs.BodyCosts.{below_words, cost_higher}
use Rattle.iso_machine.specs.Lists.{cost_at}
use Rattle.iso_machine.specs.Wholes.{whole_chain}
use Rattle.iso_machine.proofs.framed.FramedLists.run.Goals as goal

pub returns-clause-first : goal.returns-clause-first
returns-clause-first g c =
    λ p b ms body list. record {
      member = Goal b c.args.mark;
      behind = ms;
      is = refl;
      stands = a_body refl body;
      chain = whole_chain g.S.Cells.atom_word c.args.self.now list;
    }

pub returns-clause-cost : goal.returns-clause-cost
returns-clause-cost g c =
    let few = below_words c.args.placed (omega (arith, c.ranges.placed.fits)) in
    cost_higher most c.args.placed (cost_at c.args.self.now c.args.behind) (omega (arith, few))
