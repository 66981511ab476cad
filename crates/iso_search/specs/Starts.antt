-- How a run begins, and how a clause comes to the database.
use Rattle.std.specs.Prelude.{◌≡◌, [], Some, true, Result, Ok, Err}
use Rattle.iso_model.specs.Terms.Trees.{Tree, Variable}
use Rattle.iso_model.specs.Terms.Sorts.{is_term}
use Rattle.iso_model.specs.Terms.Variables.{variable_count}
use Rattle.iso_model.specs.Terms.Copies.{IsNumbered}
use Rattle.iso_model.specs.Search.Bodies.{converted}
use Rattle.iso_prep.specs.Preparations.{Preparation}
use Rattle.iso_model.specs.Terms.TermOf.{term_of}
use Rattle.iso_model.specs.Search.Additions.{Addition, Adds, Refuses}
use Rattle.iso_model.specs.Search.Walker.{World, idle}
use Rattle.iso_model.specs.declared.pauses.AddFault.{AddFault}
use Rattle.iso_model.specs.declared.pauses.AddFault.TheVariants as add
use Rattle.iso_store_core.specs.declared.stores.Store.{Ghosts}
use Rattle.iso_search_core.specs.declared.lists.Lists as lists
use Rattle.iso_search.specs.Worlds.{IsWorld}
use Rattle.iso_search.specs.EngineStates.{IsBase, IsEngine}
use Rattle.iso_search.specs.declared.search.Search.{Search}

-- What was made ready is this query.
pub record IsQuery (p : Preparation) (t : Tree) : Type 0 where
  pub converted_is : converted t ≡ Some p.body
  pub variables_are : p.variables ≡ variable_count t
  pub numbered : IsNumbered t
  pub term : is_term t ≡ true

module _ {S L W M K P C N B O : Type 0} (g : Ghosts S W M) (l : lists.Ghosts L S K P C N B O W M) where
  -- The engine has this world, its store is empty, and no choice stands.
  pub record IsFresh (e : Search S L W M K P C N B O) (w : World) : Type 0 where
    pub world : IsWorld g l e w
    pub base : IsBase g e.store e.base
    pub choices : e.choices.items ≡ []
    pub substitution : (g.present e.store).substitution ≡ Variable
    pub next : (g.present e.store).next ≡ 0
    pub cells : (g.present e.store).cells ≡ 0
    pub variables : (g.present e.store).variables ≡ 0

  -- What adding a clause makes of an engine with this world: it comes to the database, or the engine keeps the world.
  abbrev pub Comes : Addition → World → Result Unit AddFault → Search S L W M K P C N B O → Type 0
  Comes (Adds db) w (Ok u) e = IsEngine g l e (idle (record w { database = db }))
  Comes (Refuses error) w (Ok u) e = ⊥
  Comes (Adds db) w (Err (add.Refused ball)) e = ⊥
  Comes (Refuses error) w (Err (add.Refused ball)) e = (term_of ball.term.value ≡ error) × IsEngine g l e (idle w)
  Comes addition w (Err add.NoMemory) e = IsEngine g l e (idle w)
