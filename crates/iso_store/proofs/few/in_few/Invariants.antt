-- The variable is in the arguments that are left, or in what is left to do, where it is in the whole.
use Rattle.std.proofs.Common.{◌≡◌, ◌∷◌, ◌++◌, [], false}
use Rattle.std.specs.List.{All}
use Rattle.iso_model.specs.Terms.Variables.{occurs}
use Rattle.iso_store_core.specs.Presents.{meaning}
use Rattle.iso_store.specs.declared.occurs.Task.TheVariants.{Search}
use Rattle.iso_store.specs.Searching.{found}
use Rattle.iso_store.proofs.FewLemmas.{IsMade}
use Rattle.iso_store.proofs.few.in_few.Given as goal

abbrev pub invariant-loop-turn : goal.invariant-loop-turn
invariant-loop-turn g l = record {
  there : All (IsMade (g.S.Primitives.present l.store)) l.tasks.items;
  here : IsMade (g.S.Primitives.present l.store) (Search l.compound l.index l.count);
  found : found (g.S.Primitives.present l.store) (g.S.Primitives.at_place l.store) l.number false (l.tasks.items ++ Search l.compound l.index l.count ∷ []) ≡ occurs l.number (meaning (g.S.Primitives.present l.store) l.fn.word);
}
