-- What the template of a goal of bagof/3 or setof/3 takes.
use Rattle.std.proofs.Common.{◌≡◌, ◌∙◌, ◌+◌, ◌*◌, ℕ, List, [], ◌∷◌, length, map, refl, ap, ap₂, sym, arith}
use Rattle.std.proofs.lemmas.List.{length-map}
use Rattle.iso_model.specs.Terms.Trees.{Tree, Variable}
use Rattle.iso_model.specs.Terms.Sizes.{size}
use Rattle.iso_model.specs.Terms.Lists.{list_of}
use Rattle.iso_model.specs.Terms.Arguments.{argument}
use Rattle.iso_model.specs.Search.Groups.{free_variables}
use Rattle.iso_model.specs.Search.Library.{list_made}
use Rattle.iso_store_core.specs.Presents.{Present, meaning}
use Rattle.iso_search_core.specs.Asking.{template_cells}

-- a list of variables counts what it takes
variables_size : (vs : List ℕ) → size (list_of (map Variable vs)) ≡ list_made (length vs)
variables_size [] = refl
variables_size (v ∷ vs) = let more = variables_size vs in omega (arith, more)

-- so does a template, whose witness is a list of these words
pub template_takes : {W : Type 0} (p : Present W) (t item solved : Tree) (free slice : List W) → slice ≡ free
    → item ≡ argument 0 t → solved ≡ argument 1 t → map (meaning p) free ≡ map Variable (free_variables item solved)
    → template_cells t ≡ 3 + list_made (length slice)
template_takes p t item solved free slice same first second are =
    let vs = free_variables (argument 0 t) (argument 1 t) in
    let named = are ∙ ap₂ (λ x y. map Variable (free_variables x y)) first second in
    let many : length slice ≡ length vs =
    ap length same ∙ (sym (length-map free (meaning p)) ∙ (ap length named ∙ length-map vs Variable)) in
    let whole = variables_size vs in
    omega (arith, many, whole)
