-- The search over linked members.
use Rattle.std.specs.Prelude.{◌≡◌, ℕ, List, Option}
use Rattle.iso_model.specs.Search.Walker.{Member}
use Rattle.iso_store_core.specs.Presents.{Present}
use Rattle.iso_plain_core.specs.declared.entries.Entered.{Entered}
use Rattle.iso_plain_core.specs.declared.entries.Entered.TheVariants as entered
use Rattle.iso_plain_core.specs.declared.members.Link.{Link}
use Rattle.iso_plain_core.specs.declared.members.Todo.TheVariants as todo
use Rattle.iso_plain_core.specs.Standing.{IsBody}
use Rattle.iso_plain_core.specs.BodyNames.{body_kept}
use Rattle.iso_plain_core.specs.Kept.{KeepsBody}
use Rattle.iso_plain_core.specs.declared.bodies.ClauseBody.{ClauseBody}
use Rattle.iso_program.specs.declared.clauses.Clause.{Clause}
use Rattle.iso_search_core.specs.declared.own.OwnOf.{OwnOf}
use Rattle.iso_search_core.specs.declared.nows.Now.{Now}
use Rattle.iso_search_core.specs.declared.nows.Now.TheVariants as now
use Rattle.iso_search_core.specs.declared.lists.Lists.{Ghosts}
use Rattle.iso_search.specs.declared.search.Search.{Search}
use Rattle.iso_search.specs.EngineStates.{IsBehind}
use Rattle.iso_plain.specs.declared.linked.Extent.{Extent}
use Rattle.iso_plain.specs.declared.linked.Linked.{Linked}
use Rattle.iso_plain.specs.Links.{IsNoMore, IsList, IsFor, IsFirst, IsWithin, IsNothing, extent_of, cost_at, first_cost, depth_of}

module _ {S W M : Type 0} where
  -- how linked members are kept
  abbrev pub linked : Ghosts (Linked S W M) S Extent (Option ℕ) W Link ℕ ClauseBody W M
  linked = record {
    list = IsList;
    call = IsFor;
    first = IsFirst;
    own = KeepsBody;
    stays = body_kept;
    body = λ p l i b. IsBody p l.nodes.items i b;
    within = IsWithin;
    below = IsNoMore;
    whole = extent_of;
    empty = IsNothing;
    cost = cost_at;
    first_cost = first_cost;
    pending = λ l place. 0;
    first_pending = λ l link. 0;
    depth = λ l place. depth_of place;
  }

-- an engine that has them
abbrev pub Engine : Type 0 → Type 0 → Type 0 → Type 0
Engine S W M = Search S (Linked S W M) W M Extent (Option ℕ) W Link ℕ ClauseBody

-- a clause of it
abbrev pub EngineClause : Type 0 → Type 0 → Type 0 → Type 0
EngineClause S W M = Clause (OwnOf S (Linked S W M) W M Extent (Option ℕ) W Link ℕ ClauseBody)

-- What comes next behind a clause that was tried, with its cut mark, before the members from the place on.
abbrev pub ComesBehind : {S W M : Type 0} → Present W → Linked S W M → Entered → ℕ → Option ℕ
    → Now Link (Option ℕ) → Type 0
ComesBehind p l entered.Missed mark rest n = n ≡ now.Failing
ComesBehind p l entered.Fact mark rest n =
    (ms : List Member) → IsList p l (extent_of l) rest ms → IsBehind linked p l rest n ms
ComesBehind p l (entered.Body body) mark rest n =
    n ≡ now.Running (record { todo = todo.Body body; height = mark; next = rest })
