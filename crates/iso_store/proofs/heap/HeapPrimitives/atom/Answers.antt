use Rattle.std.proofs.Common.{length, ap}
use Rattle.std.proofs.lemmas.Bool.{lt-ltb}
use Rattle.iso_atoms.specs.Texts.{text_at}
use Rattle.iso_model.specs.Terms.Trees.{Name}
use Rattle.iso_store.proofs.heap.HeapPrimitives.atom.Goals as goal

pub returns-clause-made : goal.returns-clause-made
returns-clause-made c =
    let known = c.know_names.ensures in
    record {
      words = known.words;
      substitution = known.substitution;
      holds = rw known.every (lt-ltb c.args.name (length c.args.self.now.atoms) c.requires.name);
      term = ap (λ xs. Name (text_at xs c.args.name)) known.every;
    }
