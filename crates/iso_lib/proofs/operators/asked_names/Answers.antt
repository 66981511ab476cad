use Rattle.std.proofs.Common.{◌+◌, ◌<◌, ◌∷◌, [], ◌++◌, ℕ, List, Vec, Global, length, map, drop, ap, ◌∙◌, arith}
use Rattle.std.proofs.lemmas.List.{drop_all, append-nil, length-map}
use Rattle.std.proofs.lemmas.List.Elements.{All-same, All-push}
use Rattle.iso_atoms.specs.Texts.{text_at}
use Rattle.iso_atoms.specs.declared.Atom.{Atom}
use Rattle.iso_model.specs.Search.Settings.{Settled, with_texts}
use Rattle.iso_store_core.specs.Presents.{meaning}
use Rattle.iso_lib.specs.Settlements.{PassesTo}
use Rattle.iso_lib_core.proofs.CheckLemmas.{handed_on, keys_left}
use Rattle.iso_lib.proofs.SettlementLemmas.{passes_raised, texts_more}
use Rattle.iso_lib.proofs.operators.asked_names.Goals as goal

pub returns-in_err-asked_name-clause-passes : goal.returns-in_err-asked_name-clause-passes
returns-in_err-asked_name-clause-passes g c =
    let p = g.S.Store.present c.args.store.now in
    let text = text_at (g.S.Store.names c.args.store.now) in
    let words = c.args.words.now in
    let k = c.loop-place.place in
    let word = c.index-words-place.result in
    let names = c.loop-place.names.items in
    let others = drop (k + 1) (map (meaning p) words) in
    let left = keys_left p words k word c.loop-place-test.true c.index-words-place.is in
    let behind : (List (List ℕ) → Settled) → List (List ℕ) → Settled = λ goes_on texts. goes_on (map text names ++ texts) in
    handed_on (PassesTo (with_texts (map (meaning p) words)) (λ found goes_on. goes_on (map text found.items))) c.from_residual-in_err-asked_name.result c.in_err-asked_name.field-0.0 c.from_residual-in_err-asked_name.ensures.1
    (passes_raised Atom (Vec Atom Global) (with_texts (meaning p word ∷ others)) (λ a goes_on. with_texts others (λ texts. goes_on (text a ∷ texts))) (with_texts (map (meaning p) words)) (λ found goes_on. goes_on (map text found.items)) c.in_err-asked_name.field-0.0
    behind (λ goes_on. c.loop-place.invariant.passes goes_on ∙ ap (λ ts. with_texts ts (behind goes_on)) left) (c.in_err-asked_name.ensures.passes others))

pub loop-place-preserved : goal.loop-place-preserved
loop-place-preserved g c =
    let p = g.S.Store.present c.args.store.now in
    let text = text_at (g.S.Store.names c.args.store.now) in
    let words = c.args.words.now in
    let k = c.loop-place.place in
    let test = c.loop-place-test.true in
    let word = c.index-words-place.result in
    let names = c.loop-place.names.items in
    let found = c.in_ok-asked_name.field-0 in
    let others = drop (k + 1) (map (meaning p) words) in
    let left = keys_left p words k word test c.index-words-place.is in
    let behind : (List (List ℕ) → Settled) → List (List ℕ) → Settled = λ goes_on texts. goes_on (map text names ++ texts) in
    let is_atom : ℕ → Type 0 = λ a. a < length (g.S.Store.names c.args.store.now) in
    record {
      within = omega (arith, test);
      atoms = All-same is_atom c.push.new.self.items (names ++ found ∷ []) c.in_ok-push.ensures.items (All-push is_atom names found c.loop-place.invariant.atoms c.in_ok-asked_name.ensures.atom);
      passes = λ goes_on. c.loop-place.invariant.passes goes_on ∙ ap (λ ts. with_texts ts (behind goes_on)) left ∙ c.in_ok-asked_name.ensures.passes others (behind goes_on)
          ∙ (λ i. with_texts others (λ texts. goes_on (texts_more text names c.push.new.self.items found c.in_ok-push.ensures.items texts i)));
    }

pub returns-clause-passes : goal.returns-clause-passes
returns-clause-passes g c =
    let p = g.S.Store.present c.args.store.now in
    let text = text_at (g.S.Store.names c.args.store.now) in
    let words = c.args.words.now in
    let test = c.loop-place-test.false in
    let long = length-map words (meaning p) in
    let none = drop_all c.loop-place.place (map (meaning p) words) (omega (arith, long, test)) in
    λ goes_on. c.loop-place.invariant.passes goes_on ∙ ap (λ ts. with_texts ts (λ texts. goes_on (map text c.loop-place.names.items ++ texts))) none ∙ ap goes_on (append-nil (map text c.loop-place.names.items))
