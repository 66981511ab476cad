-- The search over frames.
use Rattle.std.specs.Prelude.{ℕ, ◌+◌, ◌*◌, ◌<◌, List, length, Option}
use Rattle.std.specs.Global.{Global}
use Rattle.std.specs.declared.rc.Rc.{Rc}
use Rattle.iso_model.specs.Terms.Trees.{Tree}
use Rattle.iso_model.specs.Search.Clashes.{may_enter}
use Rattle.iso_model.specs.Search.RunLaws.Spans.{stack_span}
use Rattle.iso_model.specs.Search.Walker.{Alternative, Member}
use Rattle.iso_store_core.specs.declared.stores.Store as stores
use Rattle.iso_clause_code.specs.Keeping.{KeepsCode}
use Rattle.iso_clause_code.proofs.KeptLemmas.{code_stays}
use Rattle.iso_instructions.specs.declared.instructions.Code.{Code}
use Rattle.iso_plain_core.specs.Standing.{IsBody}
use Rattle.iso_program.specs.declared.clauses.Clause.{Clause}
use Rattle.iso_frames.specs.declared.frames.Rest.{Rest}
use Rattle.iso_frames.specs.declared.frames.Next.{Next}
use Rattle.iso_frames.specs.Frames.{depth_of}
use Rattle.iso_frames.specs.Costs.{first_cost, first_pending}
use Rattle.iso_search_core.specs.declared.lists.Lists.{Ghosts}
use Rattle.iso_search_core.specs.declared.own.OwnOf.{OwnOf}
use Rattle.iso_search.specs.declared.search.Search.{Search}
use Rattle.iso_search.specs.EngineStates.{HasChoices}
use Rattle.iso_machine.specs.declared.framed.Extent.{Extent}
use Rattle.iso_machine.specs.declared.framed.KeptCall.{KeptCall}
use Rattle.iso_machine.specs.declared.framed.Framed.{Framed}
use Rattle.iso_machine.specs.Lists.{IsNoMore, IsList, IsFor, IsFirst, IsWithin, IsNothing, extent_of, cost_at, pending_at}

-- what the machine keeps of a clause
abbrev pub Kept : Type 0
Kept = Rc Code Global

module _ {S W M : Type 0} (atom_word : ℕ → W) where
  -- how frames keep lists of goals
  abbrev pub framed : Ghosts (Framed S W M) S Extent (Option Rest) KeptCall (Next W) ℕ Kept W M
  framed = record {
    list = IsList atom_word;
    call = IsFor atom_word;
    first = IsFirst atom_word;
    own = λ names code c. KeepsCode names code.value c;
    stays = λ old new code c texts keeps. code_stays old new code.value c texts keeps;
    body = λ p l i b. IsBody p l.nodes.items i b;
    within = IsWithin;
    below = IsNoMore;
    whole = extent_of;
    empty = IsNothing;
    cost = cost_at;
    first_cost = λ l next. first_cost l.frames.items next;
    pending = pending_at;
    first_pending = λ l next. first_pending l.frames.items next;
    depth = λ l place. depth_of place;
  }

-- a clause of the machine
abbrev pub EngineClause : Type 0 → Type 0 → Type 0 → Type 0
EngineClause S W M = Clause (OwnOf S (Framed S W M) W M Extent (Option Rest) KeptCall (Next W) ℕ Kept)

-- an engine that has them
abbrev pub Engine : Type 0 → Type 0 → Type 0 → Type 0
Engine S W M = Search S (Framed S W M) W M Extent (Option Rest) KeptCall (Next W) ℕ Kept

module _ {S W M : Type 0} (g : stores.Ghosts S W M) (atom_word : ℕ → W) where
  -- A state with the engine's alternatives, whose list has the members from this place on and maybe more, spans more
  -- than there may be frames and choices.
  abbrev pub IsBeyond : Engine S W M → Option Rest → Type 0
  IsBeyond e place =
      (query : Tree) (ks : List Alternative) (ms : List Member) → HasChoices g (framed atom_word) e query ks
      → IsList atom_word (g.present e.store) e.lists (extent_of e.lists) place ms
      → e.limit < 3 * (1 + (length ms + stack_span may_enter ks))
