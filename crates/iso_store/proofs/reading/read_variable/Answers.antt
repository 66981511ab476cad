use Rattle.std.proofs.Common.{◌≡◌, length, Some, None, slice_get, refl}
use Rattle.std.proofs.lemmas.Option.{slice_get_read}
use Rattle.iso_store.proofs.ReadOn.{read-value}
use Rattle.iso_store.proofs.reading.read_variable.Goals as goal

pub returns-in-None : goal.returns-in-None
returns-in-None g c =
    let none : slice_get c.args.values.now.items c.args.place ≡ Some None = slice_get_read c.args.values.now.items (length c.args.values.now.items) c.args.place None refl c.requires.place (rw c.in-None.is at c.index.ensures) in
    record {
      read = λ ws so. read-value (g.S.Primitives.present c.args.store.now) (g.S.Primitives.names c.args.store.now) c.args.head.now (length c.args.values.now.items) c.args.at c.requires.some c.args.values.now.items _ c.args.later.now.items
          ws c.args.word c.args.place c.requires.word c.requires.place none refl c.requires.variable so;
    }
