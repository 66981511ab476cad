use Rattle.std.proofs.Common.{◌≡◌, ◌++◌, ◌∷◌, [], map, get_or, sym, ap, ap₂, ◌∙◌, arith}
use Rattle.std.proofs.lemmas.List.{get_or-map, length-map, map-append, take_all}
use Rattle.std.proofs.lemmas.List.Elements.{All-same, All-push}
use Rattle.iso_model.specs.Terms.Arguments.{argument}
use Rattle.iso_store_core.specs.Presents.{Holds, meaning}
use Rattle.iso_lib_core.proofs.TogetherLemmas.{taken_so}
use Rattle.iso_lib_core.proofs.collecting.arguments_at.Goals as goal

pub loop-word-preserved : goal.loop-word-preserved
loop-word-preserved g c =
    let m = meaning (g.S.Store.present c.args.store.now) in
    let words = c.args.words.now in
    let k = c.loop-word.word-index in
    let w = c.word-item.result in
    let i = c.args.index in
    let test = c.loop-word-test.true in
    let long = length-map words m in
    let at : m w ≡ get_or (map m words) k (m w) = ap m c.word-item.is ∙ sym (get_or-map m words k w (m w) test) in
    let there : g.row.S-Word.Denot → Type 0 = λ v. Holds (g.S.Store.present c.args.store.now) v in
    record {
      hold = All-same there c.push.new.self.items (c.loop-word.arguments.items ++ c.arg.result ∷ []) c.in_ok-push.ensures.items
          (All-push there c.loop-word.arguments.items c.arg.result c.loop-word.invariant.hold c.arg.ensures.holds);
      values = ap (map m) c.in_ok-push.ensures.items ∙ map-append m c.loop-word.arguments.items (c.arg.result ∷ [])
          ∙ ap₂ (λ ts t. ts ++ t ∷ []) c.loop-word.invariant.values c.arg.ensures.value
          ∙ taken_so (argument i) (map m words) k (m w) (omega (arith, long, test)) at;
    }

pub returns-clause-values : goal.returns-clause-values
returns-clause-values g c =
    let m = meaning (g.S.Store.present c.args.store.now) in
    let words = c.args.words.now in
    let over = c.loop-word-test.false in
    let ts = map (argument c.args.index) (map m words) in
    let one = length-map words m in
    let other = length-map (map m words) (argument c.args.index) in
    c.loop-word.invariant.values ∙ take_all c.loop-word.word-index ts (omega (arith, one, other, over))
