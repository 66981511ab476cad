use Rattle.std.proofs.Common.{rules, ◌≡◌, ◌≢◌, length}
use Rattle.iso_store.proofs.ReadShapes.{read-never, read-same}
use Rattle.iso_store.proofs.reading.read_constant.Goals as goal

pub returns-then-ne : goal.returns-then-ne
returns-then-ne g c =
    let found = c.shape-found in
    let differ : found.result ≢ c.args.shape = search rules in
    record {
      read = λ ws so. read-never (g.S.Primitives.present c.args.store.now) (g.S.Primitives.names c.args.store.now) c.args.head.now (length c.args.values.now.items) c.args.at c.requires.some c.args.shape c.requires.shows.0 c.requires.shows.1 c.requires.shows.2
          c.args.values.now.items c.args.later.now.items ws c.args.word so found.result found.ensures.each_once found.ensures.shape found.ensures.term (λ x. c.in_default.not-Var x) differ c.args.values.now.items c.args.later.now.items ws;
    }

pub returns : goal.returns
returns g c =
    let found = c.shape-found in
    let same : found.result ≡ c.args.shape = search rules in
    record {
      read = λ ws so. read-same (g.S.Primitives.present c.args.store.now) (g.S.Primitives.names c.args.store.now) c.args.head.now (length c.args.values.now.items) c.args.at c.requires.some c.args.shape c.requires.shows.0 c.requires.shows.1 c.requires.shows.2
          c.args.values.now.items c.args.later.now.items ws c.args.word so found.result same found.ensures.shape c.requires.constant;
    }
