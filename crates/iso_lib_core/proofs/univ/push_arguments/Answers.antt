use Rattle.std.proofs.Common.{◌≡◌, ◌∷◌, [], ◌++◌, map, take, sym, ap, subst, ◌∙◌, ◌≡◌, arith}
use Rattle.std.proofs.lemmas.List.{map-append, append_assoc}
use Rattle.std.proofs.lemmas.List.Elements.{All-same, All-push}
use Rattle.iso_model.specs.Terms.Trees.{count}
use Rattle.iso_model.specs.Terms.Arguments.{arguments, listed}
use Rattle.iso_store_core.specs.Presents.{Holds, meaning}
use Rattle.iso_lib_core.proofs.PartLemmas.{listed_next, listed_all}
use Rattle.iso_lib_core.proofs.univ.push_arguments.Goals as goal

pub loop-index-preserved : goal.loop-index-preserved
loop-index-preserved g c =
    let m = meaning (g.S.Store.present c.args.store.now) in
    let ts = arguments (m c.args.word) in
    let i = c.loop-index.index in
    let test = c.loop-index-test.true in
    let counted = c.requires.count in
    let there : g.row.S-Word.Denot → Type 0 = λ w. Holds (g.S.Store.present c.args.store.now) w in
    let before = map m c.args.words.now.items in
    record {
      hold = All-same there c.push.new.self.items (c.loop-index.words.items ++ c.arg.result ∷ []) c.in_ok-push.ensures.items (All-push there c.loop-index.words.items c.arg.result c.loop-index.invariant.hold c.arg.ensures.holds);
      values = ap (map m) c.in_ok-push.ensures.items ∙ map-append m c.loop-index.words.items _ ∙ ap (λ us. us ++ m c.arg.result ∷ []) c.loop-index.invariant.values
          ∙ append_assoc before (take i (listed ts)) (m c.arg.result ∷ []) ∙ ap (λ t. before ++ (take i (listed ts) ++ t ∷ [])) c.arg.ensures.value
          ∙ ap (λ us. before ++ us) (sym (listed_next i ts (omega (arith, test, counted))));
    }

pub returns-clause-values : goal.returns-clause-values
returns-clause-values g c =
    let m = meaning (g.S.Store.present c.args.store.now) in
    let ts = arguments (m c.args.word) in
    let within = c.loop-index.auto.index-end in
    let over = c.loop-index-test.false in
    let counted = c.requires.count in
    let all : c.loop-index.index ≡ count ts = omega (arith, within, over, counted) in
    c.loop-index.invariant.values ∙ ap (λ n. map m c.args.words.now.items ++ take n (listed ts)) all ∙ ap (λ us. map m c.args.words.now.items ++ us) (listed_all ts)
