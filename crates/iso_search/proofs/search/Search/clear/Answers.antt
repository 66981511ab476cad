use Rattle.std.proofs.Common.{refl, ap, ◌∙◌, arith}
use Rattle.iso_search_core.specs.Standing.{none_kept}
use Rattle.iso_search.proofs.WorldLemmas.{world_on, forgotten, same_texts}
use Rattle.iso_search.proofs.search.Search.clear.Goals as goal

pub returns-clause-idle : goal.returns-clause-idle
returns-clause-idle g c = λ w h. record {
  world = forgotten c.args.self.now.db c.forget_views.new.self c.forget_views.ensures.contents c.forget_views.ensures.keys (world_on g.L.Lists (same_texts c.undo.ensures.names) h);
  steps = refl;
  base = record { present = c.requires.present; stands_for = c.undo.ensures.stands c.requires.present c.requires.stands_for; substitution = c.requires.substitution; next = c.requires.next; cells = c.requires.cells; variables = c.requires.variables };
  choices = rw c.clear.ensures.items none_kept;
  room = tt;
  fits = λ counts.
      (let same = c.undo.ensures.back c.requires.present c.requires.stands_for in
      let cells = ap (λ p. p.cells) same ∙ c.requires.cells in
      let variables = ap (λ p. p.variables) same ∙ c.requires.variables in
      omega (arith, cells, variables));
  next = refl;
}
