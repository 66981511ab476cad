use Rattle.std.proofs.Common.{length}
use Rattle.iso_store.proofs.ReadOn as on
use Rattle.iso_store.proofs.reading.read_later.Goals as goal

pub returns : goal.returns
returns g c = record {
  read = λ p names t values left pattern fits places holds read.
      on.read-later p names c.args.head.now (length values) t pattern fits places c.args.at values c.args.later.now.items c.push.new.self.items left c.args.word c.start_of-from.result holds
      c.start_of-from.ensures.earlier (c.start_of-from.ensures.between names pattern.named) read c.in_ok-push.ensures.items;
}
