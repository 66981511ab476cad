-- The solutions so far are in groups, and the parts of the witness of each group are known.
use Rattle.std.proofs.Common.{◌≡◌, map}
use Rattle.std.specs.List.{All}
use Rattle.iso_lib_core.specs.Variants.{sign_of}
use Rattle.iso_lib_core.specs.Groupings.{solution_of, solutions_of, IsWhole}
use Rattle.iso_lib_core.proofs.ClassLemmas.{class, class_firsts, class_groups}
use Rattle.iso_lib_core.proofs.groups.groups.Given as goal

abbrev pub invariant-loop-witness : goal.invariant-loop-witness
invariant-loop-witness l = record {
  classes : map (λ k. map sign_of k.items) l.classes.keys ≡ map class (class_firsts (map solution_of l.yielded));
  groups : map solutions_of l.groups.items ≡ class_groups (map solution_of l.yielded);
  whole : All IsWhole l.groups.items;
}
