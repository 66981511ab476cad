-- The newest choice, as the next clause of it is tried.
use Rattle.std.proofs.Common.{◌≡◌, ◌+◌, ℕ, List, ◌∷◌, length, ap, subst, arith, Vec, Global}
use Rattle.iso_model.specs.Search.Walker.{State, Alternative}
use Rattle.iso_store_core.specs.declared.stores.Store.{Ghosts}
use Rattle.iso_search_core.specs.declared.choices.Attempt.{Attempt}
use Rattle.iso_search_core.specs.declared.choices.Choice as kept
use Rattle.iso_search_core.specs.declared.choices.Left.TheVariants as left
use Rattle.iso_search_core.specs.declared.lists.Lists as lists
use Rattle.iso_search_core.proofs.StandingLemmas.{choices_length}
use Rattle.iso_search.specs.declared.retries.Retry.{Retry}
use Rattle.iso_search.specs.declared.search.Search.{Search}
use Rattle.iso_search.specs.EngineStates.{Represents, Retries, WentBack}
use Rattle.iso_search.specs.Retrying.{TriesNext, attempt_of}
use Rattle.iso_search.proofs.BackLemmas.{IsNewest, newest_tries}

module _ {S L W M K P C N B O : Type 0} (g : Ghosts S W M) (l : lists.Ghosts L S K P C N B O W M) where
  -- The newest choice of an engine that went back to it, where this is tried next; and the engine that left it, with so
  -- many choices below.
  pub record LeavesNewest (back after : Search S L W M K P C N B O) (mark : M) (rest : P) (below : ℕ)
      (attempt : Attempt C) (own : State) : Type 0 where
    pub newest : IsNewest g l back mark rest (left.Clauses attempt) own
    pub retries : Retries g l after attempt rest own newest.alternative newest.below
    pub height : below ≡ length newest.below

  pub newest_left : (e back after : Search S L W M K P C N B O) (mark : M) (rest : P) (below : ℕ) (retry : Retry C P)
      (s : State) (r : Represents g l e s) (tries : TriesNext e retry) → (choices : back.choices ≡ e.choices)
      → (c : kept.Choice W M K P C) × (a : Alternative) × (under : List Alternative) × (r.own.stack ≡ a ∷ under)
      × (c.mark ≡ mark) × (c.rest ≡ rest) × WentBack g l back c r.own a under
      → ((attempt : Attempt C) (c : kept.Choice W M K P C) (s : State) (a : Alternative) (under : List Alternative)
      → c.mark ≡ mark → c.left ≡ left.Clauses attempt → WentBack g l back c s a under
      → Retries g l after attempt c.rest s a under) → below + 1 ≡ length back.choices.items
      → LeavesNewest back after mark rest below (attempt_of retry tries.later) r.own
  newest_left e back after mark rest below retry s r tries choices went calls fewer =
      let attempt = attempt_of retry tries.later in
      let b = newest_tries g l e back mark rest retry r.own tries choices went in
      record {
        newest = b;
        retries = subst (λ (place : P). Retries g l after attempt place r.own b.alternative b.below) b.rest_is
            (calls attempt b.choice r.own b.alternative b.below b.mark_is b.left_is b.back);
        height =
            (let same = ap (λ (v : Vec (kept.Choice W M K P C) Global). length v.items) choices in
            let number = choices_length l r.engine.choices in
            let all = ap length b.stack in
            omega (arith, fewer, same, number, all));
      }
