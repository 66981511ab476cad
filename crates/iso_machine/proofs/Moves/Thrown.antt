-- A fault of an engine is one of an engine that has one choice more.
use Rattle.std.proofs.Common.{◌≡◌, ℕ, ◌∷◌, length, Option, Result, refl, ap, subst, sym, ◌∙◌, arith}
use Rattle.iso_model.specs.Terms.TermOf.{term_of}
use Rattle.iso_model.specs.Search.Walker.{State, Raise, cut_back}
use Rattle.iso_model.specs.declared.pauses.Ball.{Ball}
use Rattle.iso_lib_core.specs.declared.outcomes.Fault.{Fault}
use Rattle.iso_lib_core.specs.declared.outcomes.Fault.TheVariants as fault
use Rattle.iso_store_core.specs.declared.shapes.StoreFault.{StoreFault}
use Rattle.iso_store_core.specs.declared.stores.Store.{Ghosts}
use Rattle.iso_search_core.specs.declared.nows.Now.{Now}
use Rattle.iso_search_core.specs.declared.nows.Now.TheVariants as now
use Rattle.iso_frames.specs.declared.frames.Next.{Next}
use Rattle.iso_frames.specs.declared.frames.Rest.{Rest}
use Rattle.iso_search.specs.Catches.{throwing}
use Rattle.iso_search.specs.EngineStates.{IsAhead, IsEngine}
use Rattle.iso_search.specs.Faults.{Throws}
use Rattle.iso_search.specs.declared.search.Move.{Move}
use Rattle.iso_search.proofs.AheadLemmas.{engine_next}
use Rattle.iso_search.proofs.EndLemmas.{next_is}
use Rattle.iso_machine.specs.Engines.{Engine, framed}
use Rattle.iso_machine.specs.Unpushed.{Choices, HasOneMore, with_choices}
use Rattle.iso_machine.proofs.Moves.Shallow.{cuts_last}

module _ {S W M : Type 0} (g : Ghosts S W M) (atom_word : ℕ → W) (e new : Engine S W M) (choices : Choices W M)
    (more : HasOneMore e choices) (place : Option Rest) (result : Result Move StoreFault) where
  pub throws_over : (f : Fault) → ((ball : Ball) → f ≡ fault.Raise ball
      → (t : State) × IsAhead g (framed atom_word) (with_choices e choices) t place)
      → Throws g (framed atom_word) e f place result new
      → Throws g (framed atom_word) (with_choices e choices) f place result (with_choices new choices)
  throws_over (fault.Raise ball) ahead throws =
      let l = framed {S = S} {M = M} atom_word in
      let at = ahead ball refl in
      let bare : IsAhead g l e (cut_back (length e.choices.items) (at.0).list at.0) place =
      cuts_last g atom_word (with_choices e choices) e.store e.choices more.0 more.1 refl (λ m p older stood. stood)
      (λ i text there. there) at.0 place at.1 in
      let thrown = throws.3 (cut_back (length e.choices.items) (at.0).list at.0) bare in
      let next = next_is g l new (throwing (term_of ball.term.value) (cut_back (length e.choices.items) (at.0).list at.0))
      (now.Raising place) throws.1 thrown in
      let same : term_of ball.term.value ≡ next.0 = cc in
      let is : new ≡ record e { raised = new.raised; now = now.Raising place } =
      throws.2 ∙ ap (λ (n : Now (Next W) (Option Rest)). record e { raised = new.raised; now = n }) throws.1 in (
        throws.0,
        throws.1,
        ap (λ (x : Engine S W M). with_choices x choices) throws.2,
        λ t h.
            subst (λ (x : Engine S W M). IsEngine g l (with_choices x choices) (throwing (term_of ball.term.value) t))
            (sym is)
            (engine_next g l (with_choices e choices) t place new.raised (now.Raising place)
            (Raise (term_of ball.term.value) ∷ t.list) h (omega arith)
            (rw same (next.0, t.list, refl, h.chain, next.4, next.5))),
      )
  throws_over fault.Full ahead throws = (throws.0, ap (λ (x : Engine S W M). with_choices x choices) throws.1)
  throws_over fault.NoMemory ahead throws = (throws.0, ap (λ (x : Engine S W M). with_choices x choices) throws.1)
