-- The parts so far make the whole of what is left to be written.
use Rattle.std.proofs.Common.{◌≡◌, map, [], ◌∷◌, length, reverse, true}
use Rattle.std.specs.List.{All}
use Rattle.iso_atoms.specs.Texts.{KeepsTexts}
use Rattle.iso_model.specs.Terms.Trees.{Variable, row}
use Rattle.iso_model.specs.Terms.TermOf.{term_of}
use Rattle.iso_model.specs.Terms.Sizes.{size}
use Rattle.iso_model.specs.Terms.Building.{with_steps}
use Rattle.iso_model.specs.Terms.Substitutions.{apply}
use Rattle.iso_store_core.specs.Presents.{KeepsMarks}
use Rattle.iso_store_core.specs.Exact.{are_exact}
use Rattle.iso_store_core.specs.Patterns.{IsNamed, part_step}
use Rattle.iso_store.specs.Writing.{placed_by, terms_left}
use Rattle.iso_store.proofs.patterns.written.Given as goal

abbrev pub invariant-loop-next : goal.invariant-loop-next
invariant-loop-next g l = record {
  named : All (IsNamed (g.S.Primitives.names l.store)) l.parts.items;
  exact : are_exact (reverse l.parts.items) (length l.left.items) ≡ true;
  steps : with_steps (map (part_step (g.S.Primitives.names l.store) Variable) l.parts.items) (map (apply (placed_by l.places)) (terms_left l.left.items)) ≡ apply (placed_by l.places) (term_of l.fn.term) ∷ [];
  present : g.S.Primitives.present l.store ≡ g.S.Primitives.present l.fn.store;
  names : KeepsTexts (g.S.Primitives.names l.fn.store) (g.S.Primitives.names l.store);
  marks : KeepsMarks (g.S.Primitives.stands l.fn.store) (g.S.Primitives.stands l.store);
}

abbrev pub decreases-loop-next : goal.decreases-loop-next
decreases-loop-next g l = size (row (terms_left l.left.items))
