use Rattle.std.proofs.Common.{◌≡◌, ◌∙◌, List, [], ◌∷◌, ◌++◌, ap, append_assoc, arith, length, take, sym, subst, true}
use Rattle.std.proofs.lemmas.List.{take_all, take-append-le}
use Rattle.iso_model.specs.Search.Bodies.{two}
use Rattle.iso_atoms.specs.Texts.{text_at}
use Rattle.iso_store_core.specs.declared.patterns.Part.{Part}
use Rattle.iso_store_core.specs.declared.patterns.Part.TheVariants.{Compound}
use Rattle.iso_store_core.specs.Exact.{are_exact}
use Rattle.iso_store_core.specs.Patterns.{IsPattern}
use Rattle.iso_program.proofs.PairLemmas.{pair_exact, pair_pattern}
use Rattle.iso_program.proofs.patterns.pair.Goals as goal

-- the parts of the first, then those of the second, and the compound
all_parts : (first second none one both whole front back : List Part) (k : Part) → none ≡ [] → one ≡ none ++ front → front ≡ first → both ≡ one ++ back → back ≡ second → whole ≡ both ++ k ∷ []
    → whole ≡ (first ++ second) ++ k ∷ []
all_parts first second none one both whole front back k empty a is b also c = cc

pub invariant_of-result : goal.invariant_of-result
invariant_of-result c =
    let first = c.requires.first in
    let second = c.requires.second in
    let ks = c.args.first.now.parts.items in
    let ls = c.args.second.now.parts.items in
    let exact = pair_exact first.0 second.0 ks ls first.1 second.1 c.args.name c.args.first.now.exact first.2 c.args.second.now.exact second.2 in
    let all = all_parts ks ls _ _ _ _ _ _ (Compound c.args.name 2) c.in_ok-parts.ensures.items c.in_ok-extend_from_slice.ensures.items c.as_slice-first.ensures.value c.in_ok-extend_from_slice-2.ensures.items c.as_slice-second.ensures.value c.in_ok-push.ensures.items in
    record { exact = subst (λ ps. are_exact ps 0 ≡ true) (sym all) exact }

pub returns-clause-begins : goal.returns-clause-begins
returns-clause-begins c =
    let ks = c.args.first.now.parts.items in
    let ls = c.args.second.now.parts.items in
    let all = all_parts ks ls _ _ _ _ _ _ (Compound c.args.name 2) c.in_ok-parts.ensures.items c.in_ok-extend_from_slice.ensures.items c.as_slice-first.ensures.value c.in_ok-extend_from_slice-2.ensures.items c.as_slice-second.ensures.value c.in_ok-push.ensures.items in
    ap (take (length ks)) (all ∙ append_assoc ks ls (Compound c.args.name 2 ∷ [])) ∙ take-append-le (length ks) ks (ls ++ Compound c.args.name 2 ∷ []) (omega arith) ∙ take_all (length ks) ks (omega arith)

pub returns-clause-pattern : goal.returns-clause-pattern
returns-clause-pattern c = λ names t u named first second.
    (let ks = c.args.first.now.parts.items in
    let ls = c.args.second.now.parts.items in
    let all = all_parts ks ls _ _ _ _ _ _ (Compound c.args.name 2) c.in_ok-parts.ensures.items c.in_ok-extend_from_slice.ensures.items c.as_slice-first.ensures.value c.in_ok-extend_from_slice-2.ensures.items c.as_slice-second.ensures.value c.in_ok-push.ensures.items in
    subst (λ ps. IsPattern names ps (two (text_at names c.args.name) t u)) (sym all) (pair_pattern names ks ls t u c.args.name c.args.second.now.exact named first second))
