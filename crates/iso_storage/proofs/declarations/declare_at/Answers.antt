use Rattle.iso_db.specs.Presents.{contents}
use Rattle.iso_db.specs.declared.kinds.Kind.TheVariants.{Dynamic}
use Rattle.iso_program.proofs.KeyingLemmas.{preserves_declared}
use Rattle.iso_storage.proofs.DeclarationLemmas.{declared_at}
use Rattle.iso_storage.proofs.declarations.declare_at.Goals as goal

pub returns-clause-contents : goal.returns-clause-contents
returns-clause-contents g c = declared_at c.declare.result (contents c.args.db.now) (contents c.declare.new.self) c.args.place c.declare.ensures.contents c.declare.ensures.unchanged c.declare.ensures.allowed

pub returns-clause-preserves : goal.returns-clause-preserves
returns-clause-preserves g c =
    preserves_declared c.args.db.now c.declare.new.self c.declare.ensures.clauses c.declare.ensures.index Dynamic c.args.place
    (declared_at c.declare.result (contents c.args.db.now) (contents c.declare.new.self) c.args.place c.declare.ensures.contents c.declare.ensures.unchanged c.declare.ensures.allowed)
