use Rattle.std.proofs.Common.{◌≡◌, ◌++◌, ◌∷◌, [], ◌∙◌, refl, ap, sym}
use Rattle.std.proofs.lemmas.List.{append_assoc, map-append}
use Rattle.iso_model.specs.Terms.TermOf.{term_of}
use Rattle.iso_lint_core.specs.Calls.{called}
use Rattle.iso_lint_core.specs.KeyViews.{key_view, keys_view}
use Rattle.iso_lint_core.proofs.OtherLemmas.{other_called}
use Rattle.iso_lint_core.proofs.calls.add_first_called.Goals as goal

pub returns-in_ok-push-in-Other-clause-called : goal.returns-in_ok-push-in-Other-clause-called
returns-in_ok-push-in-Other-clause-called c =
    let old = c.args.keys.now.items in
    let added : keys_view c.push-in-Other.new.self.items ≡ keys_view old ++ called (term_of c.args.goal.now) =
    ap keys_view c.in_ok-push-in-Other.ensures.items
    ∙ map-append key_view old (record { name = c.in-Other.name; arity = c.in-Other.arity } ∷ [])
    ∙ ap (λ ks. keys_view old ++ ks) (sym (other_called _ _ _ c.in-Other.ensures)) in
    rw (added, append_assoc) refl
