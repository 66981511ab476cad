use Rattle.std.proofs.Common.{ap, refl, sym, option_map}
use Rattle.iso_prep.proofs.ReadLemmas.{if_ok_by}
use Rattle.iso_model.specs.Search.BuiltIns.{built_in_among}
use Rattle.iso_program.specs.declared.callables.Callee.TheVariants as callee
use Rattle.iso_program.proofs.CallableLemmas.{index_same}
use Rattle.iso_program.proofs.callables.of_built_ins.Goals as goal

pub returns-clause-found : goal.returns-clause-found
returns-clause-found g c =
    if_ok_by c.of_rows.result c.of_rows.ensures.found (λ rows found.
    index_same _ rows.items rows.items _ _ (λ a n. refl) (λ k. ap (λ es. option_map callee.BuiltIn (built_in_among es k)) (sym c.built_in_rows.ensures)) found)
