-- What a clause that is shown comes to.
use Rattle.std.proofs.Common.{◌≡◌, ℕ, ◌+◌, ◌≤◌, List, [], ◌∷◌, if◌then◌else◌, Option, Some, None, Bool, true, false, Result, Ok, Err, OnErr, refl, ap, sym, ◌∙◌, subst, arith}
use Rattle.iso_model.specs.Terms.Substitutions.{apply, compose, Subst}
use Rattle.iso_program.specs.ClauseOffers.{clause_offer}
use Rattle.iso_db.specs.Databases.{Database}
use Rattle.iso_store_core.specs.declared.stores.Store.{Ghosts}
use Rattle.iso_search.specs.EngineStates.{IsBehind, IsEngine, SameUnder, StandsAs}
use Rattle.iso_store_core.specs.Presents.{KeepsMarks, KeepsWords, Present, meaning}
use Rattle.iso_store_core.specs.Retaining.{Takes}
use Rattle.iso_search_core.specs.Fitting.{FitsState}
use Rattle.iso_search_core.proofs.FittingLemmas.{fits_fewer, fits_more, fits_taken}
use Rattle.iso_atoms.specs.Texts.{KeepsTexts}
use Rattle.iso_model.specs.Terms.Unifiers.{NeverEqual, Unifier}
use Rattle.iso_search_core.specs.declared.nows.Now.{Now}
use Rattle.iso_model.specs.Terms.Copies.{renamed}
use Rattle.iso_search.specs.declared.search.Search.{Search}
use Rattle.iso_program.specs.declared.showing.Showing.{Showing}
use Rattle.iso_model.specs.Terms.Trees.{Tree}
use Rattle.iso_model.specs.Terms.Unification.{unifier_of}
use Rattle.iso_model.specs.Search.Additions.{most_variables}
use Rattle.iso_model.specs.Search.Databases as databases
use Rattle.iso_model.specs.Search.Databases.{Key, has_clause, key, key_of}
use Rattle.iso_model.specs.Search.BuiltIns.{built_in}
use Rattle.iso_search_core.proofs.StandingLemmas.{keeps_none, some_same}
use Rattle.iso_model.specs.Search.Storages.{clause_row, clause_cost, removed_clause, shown_clause}
use Rattle.iso_model.proofs.Search.RunLaws.CountLemmas.{offered_built}
use Rattle.iso_model.specs.Search.RunLaws.Sameness.{SameList}
use Rattle.iso_model.specs.Search.Walker.{State, fails, under, taken, tried_right}
use Rattle.iso_model.proofs.Search.CallLemmas.{unify_found, unify_none}
use Rattle.iso_search_core.specs.declared.lists.Lists as lists
use Rattle.iso_storage.specs.Shown.{MeetsClause, UnifiesClause}
use Rattle.iso_program.specs.Values.{HasValues}
use Rattle.iso_search_core.specs.declared.nows.Now.TheVariants as now
use Rattle.iso_search.specs.Shows.{Shows, HasUnified, IsUserPlace, shown_row}
use Rattle.iso_search.proofs.AheadLemmas.{engine_place}
use Rattle.iso_search.proofs.BoundLemmas.{ahead_bound}
use Rattle.iso_search.proofs.CountedLemmas.{right_query}
use Rattle.iso_search.proofs.Moves.Search.{stands_itself}
use Rattle.iso_search.proofs.UnderLemmas.{same_values, same_under}
use Rattle.iso_search.proofs.EndLemmas.{keeps_fails}

-- what holds anyway
pub on_error_too : {T E P : Type 0} (r : Result T E) → P → OnErr r P
on_error_too (Ok t) h = tt
on_error_too (Err e) h = h

module _ {S L W M K P C N B O : Type 0} (g : Ghosts S W M) (l : lists.Ghosts L S K P C N B O W M) where
  module _ (e : Search S L W M K P C N B O) (shown : Showing W) (place : P) (s : State) (k : Key) (c : databases.Clause) (cs : List databases.Clause) (t : Shows g l e shown place s k c cs)
      (store : S) (keeps : KeepsMarks (g.stands e.store) (g.stands store)) (texts : KeepsTexts (g.names e.store) (g.names store)) (takes : Takes g e.store store (clause_cost c))
      (chain : KeepsWords (g.present e.store) (g.present store) → l.list (g.present store) e.lists (l.whole e.lists) place s.list)
      (goals : (u : Subst) → HasValues (g.present e.store) (g.present store) u → SameList (g.present store).substitution u s.list s.list) where
    abbrev here : Tree
    here = shown_row (g.present e.store) shown

    abbrev right : Tree
    right = apply s.subst (renamed s.next (clause_row c))

    -- the clause, as the store makes it
    right_is : apply (g.present e.store).substitution (renamed (g.present e.store).next (clause_row c)) ≡ right
    right_is = ap (λ (r : Subst). apply r (renamed (g.present e.store).next (clause_row c))) t.ahead.goes.subst ∙ ap (λ (n : ℕ). apply s.subst (renamed n (clause_row c))) t.ahead.goes.next

    found : c.variables ≤ most_variables → MeetsClause (g.present e.store) (g.present store) (meaning (g.present e.store) shown.head) (meaning (g.present e.store) shown.body) c
        → HasUnified g l (record e { store = store }) here place s c true
    found few m =
        let a = t.ahead in
        let space = t.space in
        let u = compose s.subst m.unifier in
        let own = (g.present store).substitution in
        let values : HasValues (g.present e.store) (g.present store) u = subst (λ (r : Subst). HasValues (g.present e.store) (g.present store) (compose r m.unifier)) a.goes.subst m.values in
        let next : (g.present store).next ≡ s.next + c.variables = m.next ∙ ap (λ (n : ℕ). n + c.variables) a.goes.next in (
          u,
          unify_found s.subst here right (subst (λ (x : Tree). Unifier here x m.unifier) right_is m.is),
          own,
          ahead_bound g l e store e.lists s place c.variables (s.built + clause_cost c) own a keeps texts (keeps_none l e.lists)
              (fits_taken g s (record s { built = s.built + clause_cost c }) takes (omega arith) refl (omega arith) a.fits) (chain values.words) values.words refl m.next (omega (arith, space, few)),
          same_values values e.query.items (record s { next = s.next + c.variables }) next (goals u values) a.goes.words,
        )

    missed : e.now ≡ now.Failing → NeverEqual here (apply (g.present e.store).substitution (renamed (g.present e.store).next (clause_row c)))
        → HasUnified g l (record e { store = store }) here place s c false
    missed failing never =
        let a = t.ahead in (
          unify_none s.subst here right (subst (λ (x : Tree). NeverEqual here x) right_is never),
          subst (λ (n : Now N P). IsEngine g l (record e { store = store; now = n }) (fails (record s { built = s.built + clause_cost c }))) (sym failing) (keeps_fails g l e store s place (clause_cost c) (omega arith) a keeps texts takes),
        )

    -- its head and its body were unified with the two terms, or can't be
    pub unified : e.now ≡ now.Failing → c.variables ≤ most_variables → (answer : Bool) → UnifiesClause (g.present e.store) (g.present store) (meaning (g.present e.store) shown.head) (meaning (g.present e.store) shown.body) c answer
        → HasUnified g l (record e { store = store }) here place s c answer
    unified failing few true m = found few m
    unified failing few false never = missed failing never

  -- whatever comes next
  pub shows_next : (e : Search S L W M K P C N B O) (n : Now N P) (shown : Showing W) (place : P) (s : State) (k : Key) (c : databases.Clause) (cs : List databases.Clause) → Shows g l e shown place s k c cs
      → Shows g l (record e { now = n }) shown place s k c cs
  shows_next e n shown place s k c cs t =
      let a = t.ahead in
      record {
        ahead = record { world = a.world; steps = a.steps; base = a.base; choices = a.choices; room = a.room; fits = a.fits; goes = a.goes; chain = a.chain };
        space = t.space;
        head = t.head;
        body = t.body;
        key_is = t.key_is;
        user = t.user;
        clauses = t.clauses;
      }

  -- ---- what is counted

  -- a clause that stays counts where it is shown
  pub read_counts : (p : Present W) (r : Tree) (shown : Showing W) (s : State) (k : Key) (c : databases.Clause) → shown.removes ≡ false → FitsState g p 0 (record s { built = s.built + clause_cost c }) → FitsState g p 0 (tried_right r (clause_offer shown.removes k c) s.list s)
  read_counts p r shown s k c stays fits =
      let counted : (tried_right r (shown_clause c) s.list s).built ≡ s.built + clause_cost c = offered_built r (shown_clause c ∷ []) s.list s in
      subst (λ (b : Bool). FitsState g p 0 (tried_right r (clause_offer b k c) s.list s)) (sym stays)
      (fits_more g p 0 (record s { built = s.built + clause_cost c }) (tried_right r (shown_clause c) s.list s) (right_query r (shown_clause c) s.list s) (omega (arith, counted)) fits)

  -- so does one that is removed, where it is there
  pub take_counts : (p : Present W) (r : Tree) (shown : Showing W) (s : State) (k : Key) (c : databases.Clause) → shown.removes ≡ true → has_clause s.world.database.procedures k c.number ≡ true
      → FitsState g p 0 (record s { built = s.built + clause_cost c }) → FitsState g p 0 (tried_right r (clause_offer shown.removes k c) s.list s)
  take_counts p r shown s k c goes there fits =
      let o = removed_clause k c in
      let counted : (tried_right r o s.list s).built ≡ s.built + clause_cost c =
      subst (λ (b : Bool). (tried_right r o s.list s).built ≡ s.built + (if b then clause_cost c else 0)) there (offered_built r (o ∷ []) s.list s) in
      subst (λ (b : Bool). FitsState g p 0 (tried_right r (clause_offer b k c) s.list s)) (sym goes)
      (fits_more g p 0 (record s { built = s.built + clause_cost c }) (tried_right r o s.list s) (right_query r o s.list s) (omega (arith, counted)) fits)

  -- ---- a clause that stays

  -- the search goes on behind it
  pub read_found : (e : Search S L W M K P C N B O) (next : Now N P) (r : Tree) (shown : Showing W) (place : P) (s : State) (k : Key) (c : databases.Clause) → shown.removes ≡ false → HasUnified g l e r place s c true
      → IsBehind l (g.present e.store) e.lists place next s.list → StandsAs g l (record e { now = next }) (tried_right r (clause_offer shown.removes k c) s.list s)
  read_found e next r shown place s k c stays h comes =
      let x : State = record s { subst = h.0; next = s.next + c.variables; built = s.built + clause_cost c } in
      let own : State = record x { subst = h.2 } in
      let engine : Search S L W M K P C N B O = record e { now = next } in
      let alike : SameUnder h.2 x.subst x = record { goals = h.4.goals; shown = h.4.shown; beyond = h.4.beyond; twice = h.4.twice } in
      let one : StandsAs g l engine x = record { own = own; engine = engine_place g l e own place next h.3 comes; same = same_under h.2 x alike } in
      let is : taken (under s.subst (unifier_of r (apply s.subst (renamed s.next (clause_row c))))) None s.list (record s { next = s.next + c.variables; built = s.built + clause_cost c }) ≡ x =
      ap (λ (o : Option Subst). taken o None s.list (record s { next = s.next + c.variables; built = s.built + clause_cost c })) h.1 in
      subst (λ (b : Bool). StandsAs g l engine (tried_right r (clause_offer b k c) s.list s)) (sym stays)
      (subst (λ (y : State). StandsAs g l engine y) (sym is) one)

  -- it fails
  pub read_missed : (e : Search S L W M K P C N B O) (r : Tree) (shown : Showing W) (place : P) (s : State) (k : Key) (c : databases.Clause) → e.now ≡ now.Failing → shown.removes ≡ false → HasUnified g l e r place s c false
      → StandsAs g l e (tried_right r (clause_offer shown.removes k c) s.list s)
  read_missed e r shown place s k c failing stays h =
      let f = h.1 in
      let one : IsEngine g l (record e { now = now.Failing }) (fails (record s { next = s.next + c.variables; built = s.built + clause_cost c })) =
      record { world = f.world; steps = f.steps; base = f.base; choices = f.choices; room = f.room; fits = fits_fewer g (g.present e.store) (record s { built = s.built + clause_cost c }) (omega arith) f.fits; next = ([], refl) } in
      stands_itself g l e (tried_right r (clause_offer shown.removes k c) s.list s)
      (subst (λ (b : Bool). IsEngine g l e (tried_right r (clause_offer b k c) s.list s)) (sym stays)
      (subst (λ (n : Now N P). IsEngine g l (record e { now = n }) (tried_right r (shown_clause c) s.list s)) (sym failing)
      (subst (λ (o : Option Subst). IsEngine g l (record e { now = now.Failing }) (taken o None s.list (record s { next = s.next + c.variables; built = s.built + clause_cost c }))) (sym h.0) one)))

-- what is found under the key of a term
pub place_by : {E : Type 0} (d : Database E) (text : List ℕ) (n : ℕ) (t : Tree) (k : Key) (place : Option ℕ) → key_of t ≡ Some (key text n) → key_of t ≡ Some k → built_in k ≡ None
    → (built_in (key text n) ≡ None → IsUserPlace d (key text n) place) → IsUserPlace d k place
place_by d text n t k place shown is none found =
    let same : key text n ≡ k = some_same (sym shown ∙ is) in
    subst (λ (j : Key). IsUserPlace d j place) same (found (ap built_in same ∙ none))
