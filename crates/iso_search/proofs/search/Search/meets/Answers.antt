use Rattle.std.proofs.Common.{◌≡◌, ◌+◌, true, refl, ap, sym, subst, ◌∙◌, arith}
use Rattle.iso_model.specs.Terms.Sizes.{size}
use Rattle.iso_model.specs.Terms.Sorts.{is_term}
use Rattle.iso_model.specs.Terms.TermOf.{term_of}
use Rattle.iso_model.specs.Terms.Trees.{Tree, arities_fit}
use Rattle.iso_model.specs.Terms.Variables.{variable_count}
use Rattle.iso_model.specs.declared.pauses.Ball.{Ball}
use Rattle.iso_model.proofs.OnTerms.MeaningLemmas.{meaning_is_term}
use Rattle.iso_store_core.specs.Presents.{Grows, Present}
use Rattle.iso_store_core.specs.Retaining.{CountsCells}
use Rattle.iso_store_core.proofs.RetainLemmas.{grows_same}
use Rattle.iso_lib_core.specs.Cells.{copy_cells}
use Rattle.iso_search_core.specs.Cells.{IsBound}
use Rattle.iso_search_core.specs.Fitting.{FitsState}
use Rattle.iso_program.proofs.ResultLemmas.{behind_error}
use Rattle.iso_search_core.proofs.FittingLemmas.{fits_fewer, fits_more}
use Rattle.iso_search_core.proofs.StandingLemmas.{some_same}
use Rattle.iso_search.proofs.MeetLemmas.{fits_met}
use Rattle.iso_search.proofs.search.Search.meets.Goals as goal

pub returns-then-branch-clause-fits : goal.returns-then-branch-clause-fits
returns-then-branch-clause-fits g c = λ s ball rest h.
    (let p = g.S.Store.present c.args.self.now.store in
    let q = g.S.Store.present c.unify_copy.new.store in
    let same : term_of c.deref-term.result.now ≡ ball = ap term_of c.deref-term.ensures ∙ ap (λ (b : Ball). term_of b.term.value) (some_same (sym c.in-Some.is ∙ h.kept.1)) ∙ h.kept.2 in
    let bound : IsBound ball = subst IsBound same (c.is_bound.ensures c.if-not-is_bound.false) in
    let term : is_term ball ≡ true = subst (λ (t : Tree). is_term t ≡ arities_fit t) same (meaning_is_term c.deref-term.result.now) ∙ h.fits in
    let copied : CountsCells g.S.Store → Grows p q (copy_cells ball) (variable_count ball) =
    subst (λ (x : Present _). CountsCells g.S.Store → Grows x q (copy_cells ball) (variable_count ball)) c.mark-mark.ensures.present
    (subst (λ (t : Tree). CountsCells g.S.Store → Grows (g.S.Store.present c.mark-mark.new.self) q (copy_cells t) (variable_count t)) same c.unify_copy.ensures.copied) in
    subst (λ (x : Present _). FitsState g.S.Store x (2 + g.L.Lists.pending c.args.self.now.lists rest) (record s { built = s.built + size ball })) (sym c.forget.ensures.present)
    (fits_met g.S.Store p q (g.L.Lists.pending c.args.self.now.lists rest) s ball bound term copied h.ahead.fits))

pub returns-clause-fits : goal.returns-clause-fits
returns-clause-fits g c = λ s ball rest h.
    (let p = g.S.Store.present c.args.self.now.store in
    let same : term_of c.deref-term.result.now ≡ ball = ap term_of c.deref-term.ensures ∙ ap (λ (b : Ball). term_of b.term.value) (some_same (sym c.in-Some.is ∙ h.kept.1)) ∙ h.kept.2 in
    let bound : IsBound ball = subst IsBound same (c.is_bound.ensures c.if-not-is_bound.false) in
    let term : is_term ball ≡ true = subst (λ (t : Tree). is_term t ≡ arities_fit t) same (meaning_is_term c.deref-term.result.now) ∙ h.fits in
    let back = c.forget-2.ensures.present ∙ c.undo.ensures.back p (c.unify_copy.ensures.rest.marks c.mark-mark.result p c.mark-mark.ensures.stands) in
    subst (λ (x : Present _). FitsState g.S.Store x (2 + g.L.Lists.pending c.args.self.now.lists rest) (record s { built = s.built + size ball })) (sym back)
    (fits_met g.S.Store p p (g.L.Lists.pending c.args.self.now.lists rest) s ball bound term (λ counts. grows_same (copy_cells ball) (variable_count ball) refl) h.ahead.fits))

-- ---- it is refused

pub returns-then-not-is_bound-clause-refused : goal.returns-then-not-is_bound-clause-refused
returns-then-not-is_bound-clause-refused g c = λ s ball rest h.
    fits_more g.S.Store (g.S.Store.present c.args.self.now.store) 0 s (record s { built = s.built + size ball }) refl (omega arith) (fits_fewer g.S.Store (g.S.Store.present c.args.self.now.store) s (omega arith) h.ahead.fits)

pub returns-in_err-unify_copy-clause-refused : goal.returns-in_err-unify_copy-clause-refused
returns-in_err-unify_copy-clause-refused g c = λ s ball rest h.
    (let p = g.S.Store.present c.args.self.now.store in
    let q = g.S.Store.present c.unify_copy.new.store in
    let same : term_of c.deref-term.result.now ≡ ball = ap term_of c.deref-term.ensures ∙ ap (λ (b : Ball). term_of b.term.value) (some_same (sym c.in-Some.is ∙ h.kept.1)) ∙ h.kept.2 in
    let bound : IsBound ball = subst IsBound same (c.is_bound.ensures c.if-not-is_bound.false) in
    let term : is_term ball ≡ true = subst (λ (t : Tree). is_term t ≡ arities_fit t) same (meaning_is_term c.deref-term.result.now) ∙ h.fits in
    let copied : CountsCells g.S.Store → Grows p q (copy_cells ball) (variable_count ball) =
    subst (λ (x : Present _). CountsCells g.S.Store → Grows x q (copy_cells ball) (variable_count ball)) c.mark-mark.ensures.present
    (subst (λ (t : Tree). CountsCells g.S.Store → Grows (g.S.Store.present c.mark-mark.new.self) q (copy_cells t) (variable_count t)) same c.unify_copy.ensures.copied) in
    let counted = record s { built = s.built + size ball } in
    behind_error c.from_residual.result (fits_fewer g.S.Store q counted (omega arith) (fits_met g.S.Store p q (g.L.Lists.pending c.args.self.now.lists rest) s ball bound term copied h.ahead.fits)))
