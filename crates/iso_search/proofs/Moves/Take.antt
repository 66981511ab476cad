-- What a clause that is shown and then removed comes to.
use Rattle.std.proofs.Common.{◌≡◌, ◌==◌, ℕ, ◌+◌, List, [], ◌∷◌, Option, Some, None, Bool, true, false, if◌then◌else◌, refl, ap, sym, ◌∙◌, subst, arith}
use Rattle.std.specs.Prelude.{unwrap_or}
use Rattle.std.specs.List.{list_any}
use Rattle.iso_program.specs.Leaving.{AreLeft}
use Rattle.iso_program.specs.declared.clauses.Clause.{Clause}
use Rattle.iso_program.specs.ClauseOffers.{clause_offer}
use Rattle.iso_db.specs.Presents.{contents}
use Rattle.iso_db.specs.declared.db.Db.{Db}
use Rattle.iso_program.specs.Callables.{Finds}
use Rattle.iso_store_core.specs.declared.stores.Store.{Ghosts}
use Rattle.iso_search.specs.Shows.{HasUnified, Shows}
use Rattle.iso_search.specs.EngineStates.{IsAhead, IsBehind, IsEngine, SameUnder, StandsAs}
use Rattle.iso_search.specs.Worlds.{IsWorld}
use Rattle.iso_program.specs.Kept.{Keeping}
use Rattle.iso_db.specs.declared.keyed.KeyedView.{KeyedView}
use Rattle.iso_search_core.specs.declared.nows.Now.{Now}
use Rattle.iso_search_core.specs.Own.{own_of}
use Rattle.iso_search_core.specs.declared.own.OwnOf.{OwnOf}
use Rattle.iso_model.specs.Search.Settlements.{Reference}
use Rattle.iso_search.specs.declared.search.Search.{Search}
use Rattle.iso_program.specs.declared.showing.Showing.{Showing}
use Rattle.iso_model.specs.Terms.Substitutions.{Subst}
use Rattle.iso_model.specs.Terms.Trees.{Tree}
use Rattle.iso_model.specs.Search.Databases as databases
use Rattle.iso_model.specs.Search.Databases.{Key, has_clause}
use Rattle.iso_model.specs.Search.Storages.{clause_cost, removed_clause}
use Rattle.iso_model.specs.Search.Walker.{State, World, fails, taken, met_right, tried_right, without_removed}
use Rattle.iso_db.specs.Databases as db
use Rattle.iso_db.specs.Databases.{Database, has_in}
use Rattle.iso_search_core.specs.declared.lists.Lists as lists
use Rattle.iso_search_core.specs.declared.nows.Now.TheVariants as now
use Rattle.iso_search_core.proofs.FittingLemmas.{fits_fewer}
use Rattle.iso_program.specs.Keying.{Preserves}
use Rattle.iso_program.specs.Programs.{IsDatabase, place_at, kept_at, kind_of}
use Rattle.iso_program.proofs.ChangeLemmas.{database_less, finds_less, has_at}
use Rattle.iso_program.proofs.LeavingLemmas.{left_keeps}
use Rattle.iso_search.proofs.AheadLemmas.{engine_place}
use Rattle.iso_search.proofs.CalledLemmas.{none_there}
use Rattle.iso_search.proofs.Moves.Search.{stands_itself}
use Rattle.iso_search.proofs.Moves.Show.{choices_stay}
use Rattle.iso_search.proofs.UnderLemmas.{same_under}

-- the clause of this number of the procedure with this key
abbrev reference : Key → ℕ → Option Reference
reference k number = Some (record { procedure = k; number = number })

-- ---- whether the clause is there

-- the number of a clause that is left first
pub left_number : {E : Type 0} {keeps : Keeping E} {names : List (List ℕ)} {d : Db (Clause E)} {number : ℕ} {later : KeyedView} {c : databases.Clause} {cs : List databases.Clause} → AreLeft keeps names d number later (c ∷ cs) → c.number ≡ number
left_number {c = c} left = (let e = left.is in let same : left.first ≡ c = cc e in ap (λ (x : databases.Clause). x.number) (sym same) ∙ left.numbered)

module _ {S L W M K P C N B O : Type 0} (g : Ghosts S W M) (l : lists.Ghosts L S K P C N B O W M) where
  module _ (e : Search S L W M K P C N B O) (shown : Showing W) (place : P) (s : State) (k : Key) (c : databases.Clause) (cs : List databases.Clause) (t : Shows g l e shown place s k c cs) where
    -- so says the database at the procedure's place
    pub there_at : (procedure : ℕ) (b : Bool) → place_at (contents e.db) k ≡ Some procedure → has_in (db.clauses_at (contents e.db) procedure) shown.clause ≡ b → has_clause s.world.database.procedures k c.number ≡ b
    there_at procedure b at has =
        ap (has_clause s.world.database.procedures k) (left_number t.clauses)
        ∙ sym (has_at (contents e.db) s.world.database k procedure at shown.clause t.ahead.world.database_is) ∙ has

    -- it was removed before
    pub take_gone : (r : Tree) → e.now ≡ now.Failing → shown.removes ≡ true → has_clause s.world.database.procedures k c.number ≡ false → StandsAs g l e (tried_right r (clause_offer shown.removes k c) s.list s)
    take_gone r failing goes none =
        let a = t.ahead in
        let one : IsEngine g l (record e { now = now.Failing }) (fails s) =
        record { world = a.world; steps = a.steps; base = a.base; choices = a.choices; room = a.room; fits = fits_fewer g (g.present e.store) s (omega arith) a.fits; next = ([], refl) } in
        stands_itself g l e (tried_right r (clause_offer shown.removes k c) s.list s)
        (subst (λ (b : Bool). IsEngine g l e (tried_right r (clause_offer b k c) s.list s)) (sym goes)
        (subst (λ (n : Now N P). IsEngine g l (record e { now = n }) (tried_right r (removed_clause k c) s.list s)) (sym failing)
        (subst (λ (b : Bool). IsEngine g l (record e { now = now.Failing }) (if b then met_right r (removed_clause k c) s.list s else fails s)) (sym none) one)))

    pub take_absent : (r : Tree) → e.now ≡ now.Failing → shown.removes ≡ true → kind_of (kept_at (contents e.db) k) ≡ None → StandsAs g l e (tried_right r (clause_offer shown.removes k c) s.list s)
    take_absent r failing goes absent = take_gone r failing goes (ap (λ o. list_any (λ (x : databases.Clause). x.number == c.number) (unwrap_or o [])) (none_there k t.ahead.world.database_is absent))

  -- ---- it is there

  -- it is not unified
  pub take_missed : (e : Search S L W M K P C N B O) (r : Tree) (shown : Showing W) (place : P) (s : State) (k : Key) (c : databases.Clause) → e.now ≡ now.Failing → shown.removes ≡ true → has_clause s.world.database.procedures k c.number ≡ true
      → HasUnified g l e r place s c false → StandsAs g l e (tried_right r (clause_offer shown.removes k c) s.list s)
  take_missed e r shown place s k c failing goes there h =
      let f = h.1 in
      let x : State = record s { next = s.next + c.variables; built = s.built + clause_cost c } in
      let one : IsEngine g l (record e { now = now.Failing }) (fails x) =
      record { world = f.world; steps = f.steps; base = f.base; choices = f.choices; room = f.room; fits = fits_fewer g (g.present e.store) x (omega arith) f.fits; next = ([], refl) } in
      stands_itself g l e (tried_right r (clause_offer shown.removes k c) s.list s)
      (subst (λ (b : Bool). IsEngine g l e (tried_right r (clause_offer b k c) s.list s)) (sym goes)
      (subst (λ (n : Now N P). IsEngine g l (record e { now = n }) (tried_right r (removed_clause k c) s.list s)) (sym failing)
      (subst (λ (b : Bool). IsEngine g l (record e { now = now.Failing }) (if b then met_right r (removed_clause k c) s.list s else fails s)) (sym there)
      (subst (λ (o : Option Subst). IsEngine g l (record e { now = now.Failing }) (taken o (reference k c.number) s.list x)) (sym h.0) one))))

  -- it is unified, and removed
  module _ (e : Search S L W M K P C N B O) (d : Db (Clause (OwnOf S L W M K P C N B O))) (procedure number : ℕ) (less : contents d ≡ db.without_clause_at procedure number (contents e.db)) (on : Preserves e.db d) where
    -- the engine behind that
    abbrev behind : Search S L W M K P C N B O
    behind = record e { db = d }

    world_less : (w : World) (k : Key) → place_at (contents e.db) k ≡ Some procedure → IsWorld g l e w → IsWorld g l behind (without_removed (reference k number) w)
    world_less w k at is = record {
      database_is = subst (λ (x : Database _). IsDatabase (own_of l) (g.names e.store) x (without_removed (reference k number) w).database) (sym less) (database_less (contents e.db) w.database k procedure at number is.database_is);
      keyed = on.keyed is.keyed;
      found = subst (λ (x : Database _). Finds (g.names e.store) e.callables.items x) (sym less) (finds_less (contents e.db) w.database k procedure at number is.found);
      vocabulary_is = is.vocabulary_is;
      operators_are = is.operators_are;
      flags_are = is.flags_are;
    }

    -- the choices stand on
    ahead_less : (s : State) (k : Key) (rest : P) → place_at (contents e.db) k ≡ Some procedure → IsAhead g l e s rest
        → IsAhead g l behind (record s { world = without_removed (reference k number) s.world }) rest
    ahead_less s k rest at a = record {
      world = world_less s.world k at a.world;
      steps = a.steps;
      base = a.base;
      choices = choices_stay l (left_keeps (g.names e.store) e.db d on) a.choices;
      room = a.room;
      fits = a.fits;
      goes = record { subst = a.goes.subst; next = a.goes.next; room = a.goes.room; words = a.goes.words };
      chain = a.chain;
    }

    pub take_found : (next : Now N P) (r : Tree) (shown : Showing W) (place : P) (s : State) (k : Key) (c : databases.Clause) → c.number ≡ number → place_at (contents e.db) k ≡ Some procedure → shown.removes ≡ true → has_clause s.world.database.procedures k c.number ≡ true
        → HasUnified g l e r place s c true → IsBehind l (g.present e.store) e.lists place next s.list
        → StandsAs g l (record e { db = d; now = next }) (tried_right r (clause_offer shown.removes k c) s.list s)
    take_found next r shown place s k c same at goes there h comes =
        let x : State = record s { next = s.next + c.variables; built = s.built + clause_cost c } in
        let y : State = record s { subst = h.0; next = s.next + c.variables; built = s.built + clause_cost c; world = without_removed (reference k number) s.world } in
        let own : State = record y { subst = h.2 } in
        let engine : Search S L W M K P C N B O = record e { db = d; now = next } in
        let ahead : IsAhead g l behind own place = ahead_less (record s { subst = h.2; next = s.next + c.variables; built = s.built + clause_cost c }) k place at h.3 in
        let alike : SameUnder h.2 y.subst y = record { goals = h.4.goals; shown = h.4.shown; beyond = h.4.beyond; twice = h.4.twice } in
        let is : StandsAs g l engine y = record { own = own; engine = engine_place g l behind own place next ahead comes; same = same_under h.2 y alike } in
        let one : StandsAs g l engine (taken (Some h.0) (reference k c.number) s.list x) =
        subst (λ (n : ℕ). StandsAs g l engine (taken (Some h.0) (reference k n) s.list x)) (sym same) is in
        subst (λ (b : Bool). StandsAs g l engine (tried_right r (clause_offer b k c) s.list s)) (sym goes)
        (subst (λ (b : Bool). StandsAs g l engine (if b then met_right r (removed_clause k c) s.list s else fails s)) (sym there)
        (subst (λ (o : Option Subst). StandsAs g l engine (taken o (reference k c.number) s.list x)) (sym h.1) one))
