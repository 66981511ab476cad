use Rattle.std.proofs.Common.{◌≡◌, Some, sym, ◌∙◌}
use Rattle.iso_atoms.specs.Texts.{text_at}
use Rattle.iso_store_core.specs.Presents.{meaning}
use Rattle.iso_prep.specs.Connectives.{connective_of}
use Rattle.iso_search_core.proofs.ConstructLemmas.{control_parts}
use Rattle.iso_search_core.proofs.callable_goals.control.Goals as goal

pub returns-in_ok-connective-in-Compound : goal.returns-in_ok-connective-in-Compound
returns-in_ok-connective-in-Compound g c =
    let t = meaning (g.S.Store.present c.args.store.now) c.args.word in
    let s = c.in-Compound.ensures.shape in
    let named : connective_of (text_at (g.S.Store.names c.args.store.now) c.in-Compound.name) ≡ Some c.in_ok-connective-in-Compound.connective
    = sym (c.connective.ensures _ c.requires.controls c.shape.ensures.each_once s.0) ∙ c.in_ok-connective-in-Compound.was in
    record {
      is = control_parts t _ s.1 c.in_ok-connective-in-Compound.connective _ _ c.shape.ensures.term s.2 (s.3 ∙ c.if-count-ne2.false) named c.arg-first.ensures.value c.arg-second.ensures.value;
      first = c.arg-first.ensures.holds;
      second = c.arg-second.ensures.holds;
    }
