-- Goals that read or change the database, as the engine runs them.
use Rattle.std.proofs.Common.{◌≡◌, ℕ, suc, ◌+◌, ◌<◌, ◌≤◌, Bool, false, if◌then◌else◌, List, [], ◌∷◌, length, Option, Some, None, true, refl, ap, sym, ◌∙◌, subst, arith, inl, Vec, Global}
use Rattle.std.specs.Prelude.{Result, Ok, Err}
use Rattle.iso_model.specs.Terms.Substitutions.{apply, Subst}
use Rattle.iso_program.specs.Leaving.{AreLeft}
use Rattle.iso_model.specs.Terms.Trees.{arities_fit, Tree}
use Rattle.iso_model.specs.declared.pauses.Ball.{Ball}
use Rattle.iso_program.specs.declared.callables.Callable.{Callable}
use Rattle.iso_program.specs.declared.clauses.Clause.{Clause}
use Rattle.iso_program.specs.ClauseOffers.{clause_offer}
use Rattle.iso_db.specs.Presents.{contents}
use Rattle.iso_db.specs.declared.db.Db.{Db}
use Rattle.iso_lib_core.specs.declared.outcomes.Fault.{Fault}
use Rattle.iso_store_core.specs.declared.stores.Store.{Ghosts}
use Rattle.iso_search.specs.EngineStates.{IsAhead, IsBehind, IsEngine, Keeps, Remains, phase_of}
use Rattle.iso_model.specs.Search.Engines.{IsAwake}
use Rattle.iso_lib_core.specs.Replies.{IsUnbound}
use Rattle.iso_store_core.specs.Presents.{KeepsMarks, KeepsWords, meaning, Present}
use Rattle.iso_atoms.specs.Texts.{KeepsTexts}
use Rattle.iso_model.specs.Search.Databases.{Key}
use Rattle.iso_search_core.specs.declared.nows.Now.{Now}
use Rattle.iso_search_core.specs.Own.{own_of}
use Rattle.iso_search_core.specs.declared.own.OwnOf.{OwnOf}
use Rattle.iso_model.specs.Terms.Copies.{renamed}
use Rattle.iso_search.specs.declared.search.Search.{Search}
use Rattle.iso_program.specs.declared.showing.Showing.{Showing}
use Rattle.iso_search_core.specs.Standing.{StandsForChoices}
use Rattle.iso_model.specs.declared.kinds.Storage.{Storage}
use Rattle.iso_model.specs.Terms.TermOf.{term_of}
use Rattle.iso_search.specs.Catches.{throwing}
use Rattle.iso_model.specs.Terms.Unification.{unifier_of}
use Rattle.iso_model.specs.Terms.Variables.{variables}
use Rattle.iso_model.specs.Search.Databases as databases
use Rattle.iso_model.specs.Search.RunLaws.Thinness.{SkipsRows}
use Rattle.iso_model.specs.Search.Storages.{storage_settled}
use Rattle.iso_model.specs.Search.Settlements.{Settled, Changes, Offer, Reference, Refuses, Offers}
use Rattle.iso_model.specs.Search.Walker as search
use Rattle.iso_model.specs.Search.Walker.{State, World, Member, fails, under, met_right, is_there, tried_right, with_rights, offered, query_size, settled}
use Rattle.iso_store_core.specs.Retaining.{Takes}
use Rattle.iso_storage.specs.Cells.{settled_cells}
use Rattle.iso_search_core.specs.Fitting.{FitsLeft}
use Rattle.iso_search_core.proofs.FittingLemmas.{fits_more, fits_taken}
use Rattle.iso_search_core.specs.declared.lists.Lists as lists
use Rattle.iso_lib_core.specs.declared.outcomes.Fault.TheVariants as fault
use Rattle.iso_storage.specs.Storing.{IsProgram, IsStorageReply, UnlessDone, UnlessStopped}
use Rattle.iso_storage.specs.declared.storages.StorageReply.{StorageReply}
use Rattle.iso_storage.specs.declared.storages.StorageReply.TheVariants as stored
use Rattle.iso_program.specs.Keying.{Preserves}
use Rattle.iso_search_core.specs.declared.nows.Now.TheVariants as now
use Rattle.iso_program.proofs.LeavingLemmas.{left_keeps}
use Rattle.iso_search_core.proofs.WordLemmas.{variables_more}
use Rattle.iso_search.specs.declared.search.Move.TheVariants as move
use Rattle.iso_search.specs.Shows.{Shows, StoresAt, ThinSettled, same_settled, fewer_offers, GainsAlternative, WasGivenUp, WasSettled, shown_row, offers_of}
use Rattle.iso_search.proofs.AheadLemmas.{engine_place}
use Rattle.iso_search.proofs.CountedLemmas.{settled_counts}
use Rattle.iso_search.proofs.Moves.Offer.{refused_is, rights_some}
use Rattle.iso_search.proofs.Moves.Show.{choices_stay, offers_many}
use Rattle.iso_search.proofs.Moves.Search.{stands_itself}
use Rattle.iso_search.proofs.StoppedLemmas.{base_kept}
use Rattle.iso_search.proofs.WorldLemmas.{vocabulary_kept, choices_kept}

-- ---- what rows that are offered leave

taken_stack : (o : Option Subst) (r : Option Reference) (rest : List Member) (s : State) → (search.taken o r rest s).stack ≡ s.stack
taken_stack None r rest s = refl
taken_stack (Some u) r rest s = refl

-- whatever a row removes, the alternatives stay
pub right_stack : (left : Tree) (o : Offer) (rest : List Member) (s : State) → (tried_right left o rest s).stack ≡ s.stack
right_stack left o rest s = by_there (is_there o.removes s.world) where
  by_there : (b : Bool) → (if b then met_right left o rest s else fails s).stack ≡ s.stack
  by_there true = taken_stack (under s.subst (unifier_of left (apply s.subst (renamed s.next o.right)))) o.removes rest (record s { next = s.next + o.variables; built = s.built + o.made })
  by_there false = refl

-- one alternative more stands where others are left
pub right_longer : (left : Tree) (o : Offer) (os : List Offer) (s : State) → 0 < length os → length (offered left (o ∷ os) s.list s).stack ≡ suc (length s.stack)
right_longer left o os s some =
    ap length (right_stack left o s.list (with_rights left os s.list s)) ∙ ap (λ (x : State). length x.stack) (rights_some left os s.list s some)

module _ {S L W M K P C N B O : Type 0} (g : Ghosts S W M) (l : lists.Ghosts L S K P C N B O W M) where
  -- what a goal came to, by the contract of `store_goal`, and what stays
  pub record CameTo (e : Search S L W M K P C N B O) (of : Storage) (goal : W) (store : S) (db : Db (Clause (OwnOf S L W M K P C N B O))) (callables : Vec (Vec Callable Global) Global) (r : Result (StorageReply W) Fault) : Type 0 where
    pub cells : (w : World) → IsProgram (own_of l) (g.names e.store) (contents e.db) e.callables.items w.database → Takes g e.store store (settled_cells (storage_settled of (meaning (g.present e.store) goal) (g.present e.store).next w))
    pub marks : KeepsMarks (g.stands e.store) (g.stands store)
    pub texts : KeepsTexts (g.names e.store) (g.names store)
    pub on : Preserves e.db db
    pub words : (p q : Present W) (x : L) (k : K) (i : P) (ms : List Member) → KeepsWords p q → l.list p x k i ms → l.list q x k i ms
    pub told : (w : World) → IsProgram (own_of l) (g.names e.store) (contents e.db) e.callables.items w.database
        → IsStorageReply (own_of l) (g.names store) (g.present store) db callables.items w (storage_settled of (meaning (g.present e.store) goal) (g.present e.store).next w) r
    pub kept : (m : databases.Database) → IsProgram (own_of l) (g.names e.store) (contents e.db) e.callables.items m → UnlessDone r (IsProgram (own_of l) (g.names store) (contents db) callables.items m)
    pub unbound : UnlessStopped r (IsUnbound (g.present e.store) (g.present store))

  module _ {e : Search S L W M K P C N B O} {of : Storage} {goal : W} {store : S} {db : Db (Clause (OwnOf S L W M K P C N B O))} {callables : Vec (Vec Callable Global) Global} {r : Result (StorageReply W) Fault}
      (d : CameTo e of goal store db callables r) (s : State) {place : P} (h : StoresAt g l e of goal s place) where
    -- the engine behind the goal
    abbrev pub behind : Search S L W M K P C N B O
    behind = record e { store = store; db = db; callables = callables }

    choices_there : StandsForChoices l (g.stands store) g.older e.base (AreLeft (own_of l) (g.names store) db) e.query.items (variables s.query) (FitsLeft g (query_size s.query)) e.lists e.choices.items s.stack
    choices_there = choices_stay l (left_keeps (g.names store) e.db db d.on) (choices_kept l d.texts (λ c p among stood. d.marks c.mark p stood) h.ahead.choices)

    chain : IsUnbound (g.present e.store) (g.present store) → l.list (g.present store) e.lists (l.whole e.lists) place s.list
    chain unbound = d.words (g.present e.store) (g.present store) e.lists (l.whole e.lists) place s.list unbound.words h.ahead.chain

    module _ (m : databases.Database) (program : IsProgram (own_of l) (g.names store) (contents db) callables.items m) where
      keeps_behind : Keeps g l behind (record s.world { database = m }) s.stack
      keeps_behind =
          let world = h.ahead.world in (
            record { database_is = program.database; keyed = d.on.keyed world.keyed; found = program.found; vocabulary_is = vocabulary_kept d.texts e.vocabulary world.vocabulary_is; operators_are = world.operators_are; flags_are = world.flags_are },
            base_kept g e.store store e.base d.marks h.ahead.base,
            (s.query, choices_there),
          )

      ahead_behind : (made built : ℕ) → Takes g e.store store made → s.built + made ≤ built → IsUnbound (g.present e.store) (g.present store) → IsAhead g l behind (record s { built = built; world = record s.world { database = m } }) place
      ahead_behind made built takes within unbound =
          let k = keeps_behind in
          let a = h.ahead in
          record {
            world = k.0;
            steps = a.steps;
            base = k.1;
            choices = choices_there;
            room = a.room;
            fits = fits_taken g s (record s { built = built }) takes (omega arith) refl within a.fits;
            goes = record { subst = unbound.substitution ∙ a.goes.subst; next = unbound.next ∙ a.goes.next; room = a.goes.room; words = variables_more unbound.words a.goes.words };
            chain = chain unbound;
          }

    abbrev goal_settled : Settled
    goal_settled = storage_settled of (meaning (g.present e.store) goal) s.next s.world

    program_before : IsProgram (own_of l) (g.names e.store) (contents e.db) e.callables.items s.world.database
    program_before = record { database = h.ahead.world.database_is; found = h.ahead.world.found }

    -- the cells that were taken for what is settled
    takes_for : (x : Settled) → goal_settled ≡ x → Takes g e.store store (settled_cells x)
    takes_for x is =
        subst (λ (y : Settled). Takes g e.store store (settled_cells y)) is
        (subst (λ (n : ℕ). Takes g e.store store (settled_cells (storage_settled of (meaning (g.present e.store) goal) n s.world))) h.ahead.goes.next (d.cells s.world program_before))

    program_behind : UnlessDone r (IsProgram (own_of l) (g.names store) (contents db) callables.items s.world.database)
    program_behind = d.kept s.world.database program_before

    replies : (v : Result (StorageReply W) Fault) → r ≡ v → IsStorageReply (own_of l) (g.names store) (g.present store) db callables.items s.world goal_settled v
    replies v came =
        subst (λ (n : ℕ). IsStorageReply (own_of l) (g.names store) (g.present store) db callables.items s.world (storage_settled of (meaning (g.present e.store) goal) n s.world) v) h.ahead.goes.next
        (subst (λ (y : Result (StorageReply W) Fault). IsStorageReply (own_of l) (g.names store) (g.present store) db callables.items s.world (storage_settled of (meaning (g.present e.store) goal) (g.present e.store).next s.world) y) came (d.told s.world program_before))

    same_program : (v : Result (StorageReply W) Fault) → r ≡ v → UnlessDone v (IsProgram (own_of l) (g.names store) (contents db) callables.items s.world.database)
    same_program v came = subst (λ (y : Result (StorageReply W) Fault). UnlessDone y (IsProgram (own_of l) (g.names store) (contents db) callables.items s.world.database)) came program_behind

    still_unbound : (v : Result (StorageReply W) Fault) → r ≡ v → UnlessStopped v (IsUnbound (g.present e.store) (g.present store))
    still_unbound v came = subst (λ (y : Result (StorageReply W) Fault). UnlessStopped y (IsUnbound (g.present e.store) (g.present store))) came d.unbound

    -- ---- it succeeds

    pub done_chain : r ≡ Ok stored.Done → l.list (g.present store) e.lists (l.whole e.lists) place s.list
    done_chain came = chain (still_unbound (Ok stored.Done) came)

    pub comes_done : (next : Now N P) → r ≡ Ok stored.Done → IsBehind l (g.present store) e.lists place next s.list → IsAwake (phase_of next)
        → WasSettled g l move.Goes (record e { store = store; db = db; callables = callables; now = next }) s goal_settled
    comes_done next came comes awake =
        let done = replies (Ok stored.Done) came in
        let x : State = record s { built = s.built + done.0; world = record s.world { database = done.1 } } in
        let engine : IsEngine g l (record behind { now = next }) (settled goal_settled s.list s) =
        subst (λ (z : Settled). IsEngine g l (record behind { now = next }) (settled z s.list s)) (sym done.2)
        (engine_place g l behind x place next (ahead_behind done.1 done.3 done.0 (s.built + done.0) (takes_for (Changes done.0 (record s.world { database = done.1 })) done.2) (omega arith) (still_unbound (Ok stored.Done) came)) comes) in
        record { own = goal_settled; thin = same_settled; tried = (stands_itself g l (record behind { now = next }) (settled goal_settled s.list s) engine, awake) }

    -- ---- it fails

    pub comes_none : r ≡ Ok stored.Fails → WasSettled g l move.Goes (record e { store = store; db = db; callables = callables; now = now.Failing }) s goal_settled
    comes_none came =
        let none = replies (Ok stored.Fails) came in
        let k = keeps_behind s.world.database (same_program (Ok stored.Fails) came) in
        let engine : IsEngine g l (record behind { now = now.Failing }) (settled (Offers none.left []) s.list s) =
        record {
          world = k.0;
          steps = h.ahead.steps;
          base = k.1;
          choices = choices_there;
          room = h.ahead.room;
          fits = fits_taken g s (fails s) (takes_for (Offers none.left none.offers) none.is) (omega arith) refl (omega arith) h.ahead.fits;
          next = ([], refl);
        } in
        record {
          own = Offers none.left [];
          thin = subst (λ (y : Settled). ThinSettled (Offers none.left []) y) (sym none.is) (fewer_offers none.skips);
          tried = (stands_itself g l (record behind { now = now.Failing }) (settled (Offers none.left []) s.list s) engine, tt);
        }

    -- ---- its error is raised, or it is refused

    pub raised_ball : (ball : Ball) → r ≡ Err (fault.Raise ball) → (goal_settled ≡ Refuses (term_of ball.term.value)) × (arities_fit (term_of ball.term.value) ≡ true)
    raised_ball ball came = refused_is goal_settled ball (replies (Err (fault.Raise ball)) came)

    pub comes_raised : (new : Search S L W M K P C N B O) (ball : Ball) → r ≡ Err (fault.Raise ball) → ((x : State) → IsAhead g l behind x place → IsEngine g l new (throwing (term_of ball.term.value) x)) → IsAwake (phase_of new.now)
        → WasSettled g l move.Goes new s goal_settled
    comes_raised new ball came throws awake =
        let ahead : IsAhead g l behind s place = ahead_behind s.world.database (same_program (Err (fault.Raise ball)) came) 0 s.built (takes_for (Refuses (term_of ball.term.value)) (raised_ball ball came).0) (omega arith) (still_unbound (Err (fault.Raise ball)) came) in
        let engine = subst (λ (y : Settled). IsEngine g l new (settled y s.list s)) (sym (raised_ball ball came).0) (throws s ahead) in
        record { own = goal_settled; thin = same_settled; tried = (stands_itself g l new (settled goal_settled s.list s) engine, awake) }

    keeps_raised : (f : Fault) → r ≡ Err f → Keeps g l behind s.world s.stack
    keeps_raised f came = keeps_behind s.world.database (same_program (Err f) came)

    -- it counts what was made for it
    pub remains_raised : (f : Fault) → r ≡ Err f → Remains g l behind (record s { built = s.built + settled_cells goal_settled })
    remains_raised f came =
        (keeps_raised f came, fits_taken g s (record s { built = s.built + settled_cells goal_settled }) (takes_for goal_settled refl) (omega arith) refl (omega arith) h.ahead.fits)

    pub given_up : (new : Search S L W M K P C N B O) → Remains g l new (record s { built = s.built + settled_cells goal_settled }) → WasGivenUp g l new s goal_settled
    given_up new remains =
        let counts = settled_counts goal_settled s.list s in
        let few = counts.1 in
        record {
          keeps = inl remains.0;
          own = goal_settled;
          thin = same_settled;
          fits = fits_more g (g.present new.store) 0 (record s { built = s.built + settled_cells goal_settled }) (settled goal_settled s.list s) counts.0 (omega (arith, few)) remains.1;
        }

    -- ---- clauses are shown

    pub record ComesToShow (shown : Showing W) : Type 0 where
      pub key : Key
      pub first : databases.Clause
      pub others : List databases.Clause
      pub shows : Shows g l behind shown place s key first others
      pub thin : ThinSettled (Offers (shown_row (g.present store) shown) (offers_of shown key (first ∷ others))) goal_settled
      pub longer : 0 < length others → GainsAlternative s goal_settled

    pub comes_to_show : (shown : Showing W) → r ≡ Ok (stored.Shows shown) → ComesToShow shown
    comes_to_show shown came =
        let is = replies (Ok (stored.Shows shown)) came in
        let rows = Offers (shown_row (g.present store) shown) (offers_of shown is.key (is.are.first ∷ is.are.others)) in
        let thin : ThinSettled rows goal_settled =
        subst (λ (z : Settled). ThinSettled rows z) (sym is.is)
        (fewer_offers (subst (λ (cs : List databases.Clause). SkipsRows (shown_row (g.present store) shown) (offers_of shown is.key cs) is.offers) is.are.is is.skips)) in
        let many = offers_many shown is.key is.are.others in
        record {
          key = is.key;
          first = is.are.first;
          others = is.are.others;
          shows = record {
            ahead = ahead_behind s.world.database (same_program (Ok (stored.Shows shown)) came) 0 s.built (takes_for (Offers (shown_row (g.present store) shown) is.offers) is.is) (omega arith) (still_unbound (Ok (stored.Shows shown)) came);
            space = h.space;
            head = is.head;
            body = is.body;
            key_is = is.key_is;
            user = is.user;
            clauses = subst (λ (cs : List databases.Clause). AreLeft (own_of l) (g.names store) db shown.clause shown.later cs) is.are.is is.are;
          };
          thin = thin;
          longer = λ some. record {
            own = rows;
            thin = thin;
            longer = right_longer (shown_row (g.present store) shown) (clause_offer shown.removes is.key is.are.first) (offers_of shown is.key is.are.others) s (omega (arith, some, many));
          };
        }
