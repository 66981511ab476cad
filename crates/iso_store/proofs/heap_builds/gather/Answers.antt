use Rattle.std.proofs.Common.{◌≡◌, ◌≢◌, ℕ, ◌-◌, ◌++◌, ◌∷◌, [], length, drop, take, slice_get, ap, sym, ◌∙◌, subst}
use Rattle.std.specs.List.{All}
use Rattle.std.proofs.lemmas.List.Elements.{All-take, All-drop}
use Rattle.std.proofs.lemmas.List.{take_rest}
use Rattle.iso_atoms.specs.Texts.{text_at}
use Rattle.iso_store.specs.declared.heap_cells.Piece.TheVariants.{Word, Variable as Place}
use Rattle.iso_store.proofs.InstanceLemmas.{made-compound}
use Rattle.iso_store.proofs.heap_builds.gather.Goals.{After-make_compound}
use Rattle.iso_store.proofs.heap_builds.gather.Goals as goal

pub returns-clause-gathers : goal.returns-clause-gathers
returns-clause-gathers c =
    let now = c.args.heap.now in
    let ws = c.args.pieces.now.items in
    let from : c.saturating_sub-from.result ≡ length ws - c.args.count = c.saturating_sub-from.ensures ∙ ap (λ k. k - c.args.count) (c.len.ensures ∙ c.args.pieces.now.ok.0) in
    let items = c.deref.ensures.value in
    let place = c.saturating_sub-from.result in
    let last = ap (λ vs. take (length vs - place) (drop place vs)) items ∙ take_rest ws place ∙ ap (λ k. drop k ws) from in
    let more = c.in_ok-push.ensures.items ∙ ap (λ vs. vs ++ Word c.in_ok-word.word ∷ []) (c.truncate.ensures.items ∙ ap (λ k. take k ws) from) in
    made-compound ws c.push.new.self.items (Word c.in_ok-word.word) c.requires.pieces _ (text_at (take now.named now.atoms) c.args.name) c.args.count last c.in_ok-word.ensures.made more

-- no piece among the last ones is this variable
last-others : (c : After-make_compound) (k : ℕ) → All (λ p. p ≢ Place k) c.args.pieces.now.items → slice_get c.make_compound.new.places.items k ≡ slice_get c.args.places.now.items k
last-others c k all =
    let items = c.deref.ensures.value in
    c.make_compound.ensures.others k (All-take (λ p. p ≢ Place k) _ _ (All-drop (λ p. p ≢ Place k) _ _ (subst (All (λ p. p ≢ Place k)) (sym items) all)))

pub returns-in_err-word-clause-others : goal.returns-in_err-word-clause-others
returns-in_err-word-clause-others c k all = last-others (goal.at.returns-in_err-word-clause-others c).After-make_compound k all

pub returns-in_err-push-clause-others : goal.returns-in_err-push-clause-others
returns-in_err-push-clause-others c k all = last-others (goal.at.returns-in_err-push-clause-others c).After-make_compound k all

pub returns-clause-others : goal.returns-clause-others
returns-clause-others c k all = last-others (goal.at.returns-clause-others c).After-make_compound k all
