use Rattle.std.proofs.Common.{rules, ◌≡◌, ◌∷◌, List, sym, ◌∙◌, subst, arith}
use Rattle.iso_search.specs.Catches.{GoesTo}
use Rattle.iso_model.specs.Search.Walker.{Member, Raise}
use Rattle.iso_search.specs.EngineStates.{went_back}
use Rattle.iso_search_core.specs.declared.nows.Now.TheVariants as now
use Rattle.iso_search.proofs.Moves.Caught.{meets_on, stops_there}
use Rattle.iso_search_core.proofs.BodyCosts.{left_step}
use Rattle.iso_search.proofs.EndLemmas.{next_is}
use Rattle.iso_search.proofs.WeightLemmas.{falls_less}
use Rattle.iso_search.proofs.MovedLemmas.{moved_not, moved_on}
use Rattle.iso_search.proofs.search.Search.raise.Goals as goal

pub returns-in_default : goal.returns-in_default
returns-in_default g c =
    record {
      moves = λ s r.
          (let next = next_is g.S.Store g.L.Lists c.args.self.now r.own (now.Raising c.args.from) c.requires.now r.engine in
          c.end_by_ball.ensures.moves s r (λ ball behind list.
          (let both : Raise next.0 ∷ next.1 ≡ Raise ball ∷ behind = sym next.2 ∙ list in
          let same : next.1 ≡ behind = cc in
          let chain = subst (λ (ms : List Member). g.L.Lists.list (g.S.Store.present c.args.self.now.store) c.args.self.now.lists (g.L.Lists.whole c.args.self.now.lists) c.args.from ms) same next.3 in
          rw c.in_default.is at (c.find_catch.ensures r.own ball behind ((r.own).query, r.engine.choices) chain))));
      stopped = λ s r. tt;
      falls = c.end_by_ball.ensures.falls;
      frames = λ s r. c.end_by_ball.ensures.frames;
      met = c.end_by_ball.ensures.met;
      stays = c.end_by_ball.ensures.stays;
    }

pub meet-requires : goal.meet-requires
meet-requires g c =
    let r = c.requires.stands.1 in
    let next = next_is g.S.Store g.L.Lists c.args.self.now r.own (now.Raising c.args.from) c.requires.now r.engine in
    let to : GoesTo next.0 next.1 r.own c.in-Some.height = rw c.in-Some.is at (c.find_catch.ensures r.own next.0 next.1 ((r.own).query, r.engine.choices) next.3) in
    let caught = c.back_to_catch-goal.ensures.back r.own next.0 next.1 r.engine next.2 to in
    (went_back to.alternative to.below r.own, next.0, caught.meets)

pub returns-in_err-meet : goal.returns-in_err-meet
returns-in_err-meet g c =
    moved_not g.S.Store g.L.Lists c.from_residual.result c.from_residual.ensures.0
    (λ s r.
    (let next = next_is g.S.Store g.L.Lists c.args.self.now r.own (now.Raising c.args.from) c.requires.now r.engine in
    let to : GoesTo next.0 next.1 r.own c.in-Some.height = rw c.in-Some.is at (c.find_catch.ensures r.own next.0 next.1 ((r.own).query, r.engine.choices) next.3) in
    let caught = c.back_to_catch-goal.ensures.back r.own next.0 next.1 r.engine next.2 to in
    (stops_there g.S.Store g.L.Lists c.args.self.now s r next.0 next.1 next.2 c.in-Some.height to c.meet.new.self
    (c.in_err-meet.ensures.kept (went_back to.alternative to.below r.own) next.0 caught.meets))))
    (search rules) (search rules)

pub returns : goal.returns
returns g c =
    moved_on g.S.Store g.L.Lists
    (λ s r.
    (let next = next_is g.S.Store g.L.Lists c.args.self.now r.own (now.Raising c.args.from) c.requires.now r.engine in
    let to : GoesTo next.0 next.1 r.own c.in-Some.height = rw c.in-Some.is at (c.find_catch.ensures r.own next.0 next.1 ((r.own).query, r.engine.choices) next.3) in
    let caught = c.back_to_catch-goal.ensures.back r.own next.0 next.1 r.engine next.2 to in
    meets_on g.S.Store g.L.Lists c.args.self.now s r next.0 next.1 next.2 c.in-Some.height to c.back_to_catch-goal.new.self c.back_to_catch-goal.result.0 c.back_to_catch-goal.result.1 caught c.meet.new.self
    (c.in_ok-meet.ensures.met (went_back to.alternative to.below r.own) next.0 caught.meets) c.in_ok-meet.ensures.awake))
    (let back = c.back_to_catch-goal.ensures.costs in
    let step = left_step 0 (g.L.Lists.cost c.back_to_catch-goal.new.self.lists c.back_to_catch-goal.result.1) in
    falls_less g.L.Lists c.args.self.now c.meet.new.self (c.in_ok-meet.ensures.steps ∙ c.back_to_catch-goal.ensures.steps) (omega (arith, back, c.in_ok-meet.ensures.costs, step))) (search rules)
