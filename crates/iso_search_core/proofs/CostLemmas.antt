-- What is to be done at most, as lists and choices come and go.
use Rattle.std.proofs.Common.{◌≡◌, ℕ, suc, ◌+◌, ◌≤◌, List, [], ◌∷◌, ◌++◌, take, refl, ap, sym, ◌∙◌, subst, arith}
use Rattle.iso_model.specs.Search.Walker.{Alternative}
use Rattle.iso_store_core.specs.Presents.{Present}
use Rattle.iso_program.specs.Leaving.{Leaving}
use Rattle.iso_search_core.specs.declared.lists.Lists.{Ghosts}
use Rattle.iso_search_core.specs.declared.choices.Choice as kept
use Rattle.iso_search_core.specs.Costs.{tried_cost, choices_cost}
use Rattle.iso_search_core.specs.Standing.{Among, StandsForChoices, none_kept, one_kept}
use Rattle.iso_search_core.proofs.StandingLemmas.{KeepsWhat, among_front, among_last}

module _ {W M K P C : Type 0} where
  pub choices_last : (cost : P → ℕ) (cs : List (kept.Choice W M K P C)) (c : kept.Choice W M K P C) → choices_cost cost (cs ++ c ∷ []) ≡ choices_cost cost cs + tried_cost c.left (cost c.rest)
  choices_last cost [] c = omega arith
  choices_last cost (d ∷ cs) c = let more = choices_last cost cs c in omega (arith, more)

  pub choices_fewer : (n : ℕ) (cost : P → ℕ) (cs : List (kept.Choice W M K P C)) → choices_cost cost (take n cs) ≤ choices_cost cost cs
  choices_fewer (suc n) cost (c ∷ cs) = let more = choices_fewer n cost cs in omega (arith, more)
  choices_fewer n cost cs = omega arith

-- over lists that stand on choices cost what they did
pub choices_cost_on : {S L W M K P C N B O : Type 0} (l : Ghosts L S K P C N B O W M) {stands : M → Present W → Type 0} {older : M → M → Type 0} {base : M} {leaves : Leaving} {query : List W} {named : List ℕ} {fitting : Present W → ℕ → Alternative → Type 0} {old new : L} {meant : K → Type 0}
    {cs : List (kept.Choice W M K P C)} {ks : List Alternative} → KeepsWhat l meant old new → ((d : kept.Choice W M K P C) → Among d cs → meant d.kept) → StandsForChoices l stands older base leaves query named fitting old cs ks
    → choices_cost (l.cost new) cs ≡ choices_cost (l.cost old) cs
choices_cost_on l keeps each none_kept = refl
choices_cost_on {W = W} {M = M} {K = K} {P = P} {C = C} l {old = old} {new = new} {cs = cs} keeps each (one_kept {before = before} {c = c} {a = a} is on here newer below) =
    let there = each c (subst (λ (ds : List (kept.Choice W M K P C)). Among c ds) (sym is) (among_last before c)) in
    let one = choices_cost_on l keeps (λ d among. each d (subst (λ (ds : List (kept.Choice W M K P C)). Among d ds) (sym is) (among_front d before c among))) below in
    let other = ap (tried_cost c.left) (keeps.costs here.present c.kept c.rest a.list there on here.on.chain) in
    let before_is = ap (choices_cost (l.cost old)) is ∙ choices_last (l.cost old) before c in
    let after_is = ap (choices_cost (l.cost new)) is ∙ choices_last (l.cost new) before c in
    omega (arith, one, other, before_is, after_is)
