-- Declarations of procedures: which are named, and the database behind them.
use Rattle.std.proofs.Common.{inl, inr, ◌≡◌, ◌<◌, ◌≤◌, ◌+◌, ℕ, zero, suc, take, drop, get_or, List, [], ◌∷◌, ◌++◌, length, map, refl, sym, ap, ◌∙◌, true, false, Option, Some, unwrap_or, is_ok, arith, if◌then◌else◌, Vec, Global, Result, Ok, Err, OnOk, OnErr, option_and_then}
use Rattle.std.specs.List.{All, slice_get}
use Rattle.std.proofs.lemmas.Bool.{cases_Bool}
use Rattle.std.proofs.lemmas.List.{append_assoc, append-nil, drop_all, length-map, take_more}
use Rattle.std.proofs.lemmas.Option.{slice_get-get_or}
use Rattle.std.proofs.lemmas.List.Elements.{All-nil, All-cons}
use Rattle.iso_atoms.specs.Texts.{text_at}
use Rattle.iso_model.specs.Terms.Trees.{Tree, arities_fit}
use Rattle.iso_model.specs.Search.BuiltIns.{built_in}
use Rattle.iso_model.specs.Search.Databases as databases
use Rattle.iso_model.specs.Search.Databases.{Key, key, Procedures, with_declared}
use Rattle.iso_model.specs.Search.Errors.{instantiation_error, permission_error}
use Rattle.iso_model.specs.Search.Settlements.{Settled}
use Rattle.iso_model.specs.Search.Storages.{is_fixed, changeable, indicated, indicated_next, all_indicated, declared_parts, declaration, all_declared, declared, dynamic_key}
use Rattle.iso_model.specs.Search.Worlds.{World}
use Rattle.iso_db.specs.Databases as db
use Rattle.iso_db.specs.Databases.{Database, Procedure, at_place, with_kind, is_not_static}
use Rattle.iso_db.specs.declared.kinds.Kind.{Kind}
use Rattle.iso_db.specs.declared.kinds.Kind.TheVariants as kind
use Rattle.iso_db.specs.declared.kinds.DbFault.{DbFault}
use Rattle.iso_store_core.specs.Presents.{Present, meaning}
use Rattle.iso_lib_core.specs.Replies.{IsFault}
use Rattle.iso_lib_core.specs.declared.outcomes.Fault.{Fault}
use Rattle.iso_lib_core.specs.declared.outcomes.Fault.TheVariants as fault
use Rattle.iso_lib_core.proofs.CheckLemmas.{keys_left}
use Rattle.iso_lib.specs.Indicators.{IsFunctor, IsIndicated}
use Rattle.iso_lib.specs.declared.indicators.Functor.{Functor}
use Rattle.iso_program.specs.Callables.{KeepsPlaces}
use Rattle.iso_program.specs.Programs.{place_at}
use Rattle.iso_program.specs.declared.callables.Callable.{Callable}
use Rattle.iso_program.specs.declared.clauses.Clause.{Clause}
use Rattle.iso_program.proofs.ChangeLemmas.{database_declared, finds_declared}
use Rattle.iso_program.proofs.ProgramLemmas.{place_within, same_place}
use Rattle.iso_storage.specs.Storing.{IsProgram, IsChanged}
use Rattle.iso_storage.specs.Declaring.{AreParts, AreFunctors, AreIndicated, AreChecked, IsUser, IsPlaced, ArePlaced, all_dynamic}
use Rattle.iso_storage.proofs.HeadLemmas.{free_alone}
use Rattle.iso_program.specs.Kept.{Keeping}

-- ---- which procedures are named

-- these keys, and then those of the rest
abbrev pub with_before : List Key → Result (List Key) Tree → Result (List Key) Tree
with_before ks (Ok js) = Ok (ks ++ js)
with_before ks (Err error) = Err error

before_more : (ks : List Key) (k : Key) (r : Result (List Key) Tree)
    → with_before ks (indicated_next (Ok k) r) ≡ with_before (ks ++ k ∷ []) r
before_more ks k (Ok js) = ap Ok (sym (append_assoc ks (k ∷ []) js))
before_more ks k (Err error) = refl

pub indicated_ok : (names : List (List ℕ)) (r : Result Key Tree) (f : Functor) → IsIndicated names r (Ok f) → (k : Key)
    × (r ≡ Ok k) × IsFunctor names k f
indicated_ok names (Ok k) f h = (k, refl, h)
indicated_ok names (Err error) f h = absurd h

indicated_no_memory : (names : List (List ℕ)) (asked : Result (List Key) Tree)
    → AreIndicated names asked (Err fault.NoMemory)
indicated_no_memory names (Ok ks) = tt
indicated_no_memory names (Err error) = tt

-- The words before this place name these keys, and the rest is left.
abbrev pub IsLeft : {W : Type 0} → (Tree → Result Key Tree) → Present W → List W → ℕ → List Key → Type 0
IsLeft check p words k ks = all_indicated check (map (meaning p) words) ≡ with_before ks (all_indicated check (drop k (map (meaning p) words)))

module _ {W : Type 0} (check : Tree → Result Key Tree) (p : Present W) (words : List W) (k : ℕ) (ks : List Key)
    (so_far : IsLeft check p words k ks) where
  pub rest_none : length words ≤ k → all_indicated check (map (meaning p) words) ≡ Ok ks
  rest_none all = so_far ∙ ap (λ xs. with_before ks (all_indicated check xs)) (drop_all k (map (meaning p) words) (let long = length-map words (meaning p) in omega (arith, long, all))) ∙ ap Ok (append-nil ks)

  module _ (word : W) (below : k < length words) (here : word ≡ get_or words k word) where
    next_is : (r : Result Key Tree) → check (meaning p word) ≡ r → all_indicated check (map (meaning p) words)
        ≡ with_before ks (indicated_next r (all_indicated check (drop (k + 1) (map (meaning p) words))))
    next_is r is = so_far ∙ ap (λ xs. with_before ks (all_indicated check xs)) (keys_left p words k word below here) ∙ ap (λ x. with_before ks (indicated_next x (all_indicated check (drop (k + 1) (map (meaning p) words))))) is

    pub rest_more : (j : Key) → check (meaning p word) ≡ Ok j → IsLeft check p words (k + 1) (ks ++ j ∷ [])
    rest_more j is = next_is (Ok j) is ∙ before_more ks j (all_indicated check (drop (k + 1) (map (meaning p) words)))

    -- the next one is none
    pub refused_next : (names : List (List ℕ)) (e : Fault) → IsIndicated names (check (meaning p word)) (Err e)
        → AreIndicated names (all_indicated check (map (meaning p) words)) (Err e)
    refused_next names e h = by_case (check (meaning p word)) e refl h where
      by_case : (r : Result Key Tree) (x : Fault) → check (meaning p word) ≡ r → IsIndicated names r (Err x)
          → AreIndicated names (all_indicated check (map (meaning p) words)) (Err x)
      by_case (Ok j) (fault.Raise ball) is h = absurd h
      by_case (Err error) (fault.Raise ball) is h = rw (next_is (Err error) is) h
      by_case (Ok j) fault.Full is h = absurd h
      by_case (Err error) fault.Full is h = absurd h
      by_case r fault.NoMemory is h = indicated_no_memory names (all_indicated check (map (meaning p) words))

pub checked_refused : (names : List (List ℕ)) (asked : Result (List Key) Tree) (e : Fault)
    → AreIndicated names asked (Err e) → AreChecked asked (Err e)
checked_refused names (Ok ks) fault.NoMemory h = tt
checked_refused names (Err error) (fault.Raise ball) h = h
checked_refused names (Err error) fault.NoMemory h = tt
checked_refused names asked e h = absurd h

pub never_full : (names : List (List ℕ)) (asked : Result (List Key) Tree) (e : Fault) → AreIndicated names asked (Err e)
    → (◌≡◌ {A = Result Unit Fault} (Err e) (Err fault.Full) → ⊥)
never_full names (Ok ks) fault.Full h is = absurd h
never_full names (Err error) fault.Full h is = absurd h
never_full names asked e h is = cc is

pub functors_more : (names : List (List ℕ)) (ks : List Key) (fs : List Functor) (k : Key) (f : Functor)
    → AreFunctors names ks fs → IsFunctor names k f → AreFunctors names (ks ++ k ∷ []) (fs ++ f ∷ [])
functors_more names [] [] k f h is = (is, tt)
functors_more names (j ∷ ks) (g ∷ fs) k f h is = (h.0, functors_more names ks fs k f h.1 is)
functors_more names ks fs k f h is = absurd h

pub indicated_all : (names : List (List ℕ)) (r : Result (List Key) Tree) (fs : Vec Functor Global)
    → AreIndicated names r (Ok fs) → (ks : List Key) × (r ≡ Ok ks) × AreFunctors names ks fs.items
indicated_all names (Ok ks) fs h = (ks, refl, h)
indicated_all names (Err error) fs h = absurd h

-- where some are named, something names them
pub some_named : (names : List (List ℕ)) (check : Tree → Result Key Tree) (ts : List Tree) (fs : Vec Functor Global)
    → AreIndicated names (all_indicated check ts) (Ok fs) → 0 < length fs.items → 0 < length ts
some_named names check [] fs h some = by_items fs.items h some where
  by_items : (gs : List Functor) → AreFunctors names [] gs → 0 < length gs → 0 < 0
  by_items [] h some = some
  by_items (g ∷ gs) h some = absurd h
some_named names check (t ∷ ts) fs h some = omega arith

indicated_parts : (r : Result Key Tree) (rs : Result (List Key) Tree) (ks : List Key) → indicated_next r rs ≡ Ok ks
    → (k : Key) × (js : List Key) × (ks ≡ k ∷ js) × (r ≡ Ok k) × (rs ≡ Ok js)
indicated_parts (Ok k) (Ok js) ks h = (k, js, cc h, refl, refl)
indicated_parts r rs ks h = absurd (cc h)

-- ---- procedures that may be declared

-- the procedure that an indicator names, which may be declared
abbrev pub to_declare : Procedures → Tree → Result Key Tree
to_declare ps u = changeable ps dynamic_key (indicated u dynamic_key)

module _ (ps : Procedures) (names : List (List ℕ)) where
  user_of : (r : Result Key Tree) (k : Key) (f : Functor) → changeable ps dynamic_key r ≡ Ok k → IsFunctor names k f
      → IsUser names f
  user_of (Err error) k f h is = absurd (cc h)
  user_of (Ok j) k f h is = elim (cases_Bool (is_fixed ps j)) [
    | inl fixed ↦ absurd (let no : Err (permission_error j dynamic_key) ≡ Ok k = rw fixed at h in cc no)
    | inr free ↦ (let same : Ok j ≡ Ok k = rw free at h in let own : k ≡ j = cc same in record { atom = is.atom; alone = ap built_in (sym is.key ∙ own) ∙ free_alone ps j free })
  ]

  users : (ts : List Tree) (ks : List Key) (fs : List Functor)
      → all_indicated (to_declare ps) ts ≡ Ok ks → AreFunctors names ks fs → All (IsUser names) fs
  users ts ks [] h are = All-nil (IsUser names)
  users [] ks (f ∷ fs) h are = absurd (let none : ks ≡ [] = cc h in rw none at are)
  users (t ∷ ts) ks (f ∷ fs) h are =
      let parts = indicated_parts (to_declare ps t) (all_indicated (to_declare ps) ts) ks h in
      let both = rw parts.2 at are in
      All-cons (IsUser names) f fs (user_of (indicated t dynamic_key) parts.0 f parts.3 both.0) (users ts parts.1 fs parts.4 both.1)

  pub indicated_users : (ts : List Tree) (fs : Vec Functor Global)
      → AreIndicated names (all_indicated (to_declare ps) ts) (Ok fs) → All (IsUser names) fs.items
  indicated_users ts fs h = let all = indicated_all names (all_indicated (to_declare ps) ts) fs h in users ts all.0 fs.items all.1 all.2

  -- what is changeable
  named_no_memory : (r : Result Key Tree) → IsIndicated names r (Err fault.NoMemory)
  named_no_memory (Ok k) = tt
  named_no_memory (Err error) = tt

  pub changeable_refused : (r : Result Key Tree) (e : Fault) → IsIndicated names r (Err e)
      → IsIndicated names (changeable ps dynamic_key r) (Err e)
  changeable_refused (Ok k) fault.NoMemory h = named_no_memory (changeable ps dynamic_key (Ok k))
  changeable_refused (Err error) e h = h
  changeable_refused (Ok k) e h = absurd h

  pub changeable_fault : (r : Result Key Tree) (k : Key) (e : Fault) → r ≡ Ok k → is_fixed ps k ≡ true
      → IsFault (permission_error k dynamic_key) e → IsIndicated names (changeable ps dynamic_key r) (Err e)
  changeable_fault r k (fault.Raise ball) is fixed error = rw (is, fixed) (error.0, ap arities_fit error.0)
  changeable_fault r k fault.Full is fixed error = absurd error
  changeable_fault r k fault.NoMemory is fixed error = named_no_memory (changeable ps dynamic_key r)

  pub changeable_free : (r : Result Key Tree) (k : Key) (f : Functor) → IsIndicated names r (Ok f) → r ≡ Ok k
      → is_fixed ps k ≡ false → IsIndicated names (changeable ps dynamic_key r) (Ok f)
  changeable_free r k f named is free = rw (is, free) (rw is at named)

-- ---- their places

pub placed_kept : {X : Type 0} (names : List (List ℕ)) (d e : Database X) (rows more : List (Vec Callable Global))
    (fs : List Functor) (ps : List ℕ) → KeepsPlaces d e rows more → ArePlaced names d rows fs ps
    → ArePlaced names e more fs ps
placed_kept names d e rows more [] [] stays h = tt
placed_kept names d e rows more (f ∷ fs) (p ∷ ps) stays h = (
  record { place_is = stays.places (key (text_at names f.name) f.arity) p h.0.place_is; called = stays.calls f.name f.arity _ h.0.called },
  placed_kept names d e rows more fs ps stays h.1,
)
placed_kept names d e rows more fs ps stays h = absurd h

pub placed_more : {X : Type 0} (names : List (List ℕ)) (d : Database X) (rows : List (Vec Callable Global))
    (fs : List Functor) (ps : List ℕ) (f : Functor) (p : ℕ) → ArePlaced names d rows fs ps → IsPlaced names d rows f p
    → ArePlaced names d rows (fs ++ f ∷ []) (ps ++ p ∷ [])
placed_more names d rows [] [] f p h is = (is, tt)
placed_more names d rows (g ∷ fs) (q ∷ ps) f p h is = (h.0, placed_more names d rows fs ps f p h.1 is)
placed_more names d rows fs ps f p h is = absurd h

-- the next one's place
pub placed_next : {X : Type 0} (names : List (List ℕ)) (d : Database X) (rows : List (Vec Callable Global))
    (fs : List Functor) (i : ℕ) (f : Functor) (ps qs : List ℕ) (p : ℕ) → i < length fs → f ≡ get_or fs i f
    → qs ≡ ps ++ p ∷ []
    → ArePlaced names d rows (take i fs) ps → IsPlaced names d rows f p → ArePlaced names d rows (take (i + 1) fs) qs
placed_next names d rows fs i f ps qs p within here more h is =
    rw (more, take_more fs i f within, ← here) (placed_more names d rows (take i fs) ps f p h is)

pub placed_within : {X : Type 0} (names : List (List ℕ)) (d : Database X) (rows : List (Vec Callable Global))
    (fs : List Functor) (ps : List ℕ) → ArePlaced names d rows fs ps → All (λ p. p < length d.procedures) ps
placed_within names d rows [] [] h = All-nil (λ p. p < length d.procedures)
placed_within names d rows (f ∷ fs) (p ∷ ps) h =
    All-cons (λ p. p < length d.procedures) p ps (place_within d (key (text_at names f.name) f.arity) p h.0.place_is) (placed_within names d rows fs ps h.1)
placed_within names d rows fs ps h = absurd h

-- ---- procedures are declared

abbrev made_dynamic : {X : Type 0} → Procedure X → Procedure X
made_dynamic p = record p { kind = Some (unwrap_or p.kind kind.Dynamic) }

-- a static one stays
static_same : {X : Type 0} (p : Procedure X) (o : Option Kind) → p.kind ≡ o → is_not_static o ≡ false
    → made_dynamic p ≡ p
static_same p (Some kind.Static) is static = ap (λ (o : Option Kind). record p { kind = Some (unwrap_or o kind.Dynamic) }) is ∙ ap (λ (o : Option Kind). record p { kind = o }) (sym is)
static_same p o is static = absurd (cc static)

static_stays : {X : Type 0} (ps : List (Procedure X)) (i : ℕ)
    → is_not_static (option_and_then (λ (p : Procedure X). p.kind) (slice_get ps i)) ≡ false
    → at_place i made_dynamic ps ≡ ps
static_stays [] i static = refl
static_stays (p ∷ ps) zero static = ap (λ q. q ∷ ps) (static_same p p.kind refl static)
static_stays (p ∷ ps) (suc i) static = ap (λ qs. p ∷ qs) (static_stays ps i static)

pub declared_at : {X : Type 0} (r : Result Unit DbFault) (d e : Database X) (i : ℕ)
    → OnOk r (e ≡ with_kind kind.Dynamic i d) → OnErr r (e ≡ d) → is_ok r ≡ is_not_static (db.kind_at d i)
    → e ≡ with_kind kind.Dynamic i d
declared_at (Ok u) d e i ok err allowed = ok
declared_at {X = X} (Err x) d e i ok err allowed = err ∙ ap (λ (ps : List (Procedure X)). record d { procedures = ps }) (sym (static_stays d.procedures i (sym allowed)))

dynamic_places : {X : Type 0} (d : Database X) (rows : List (Vec Callable Global)) (i : ℕ)
    → KeepsPlaces d (with_kind kind.Dynamic i d) rows rows
dynamic_places d rows i = record { places = λ k j had. same_place made_dynamic (λ p. refl) d.added d i k ∙ had; calls = λ a n c had. had }

declared_program : {C : Type 0} {keeps : Keeping C} (names : List (List ℕ)) (rows : List (Vec Callable Global))
    (fs : List Functor) (ps : List ℕ) (ks : List Key) (d : Database (Clause C)) (m : databases.Database)
    → AreFunctors names ks fs → ArePlaced names d rows fs ps → IsProgram keeps names d rows m
    → IsProgram keeps names (all_dynamic ps d) rows (record m { procedures = all_declared m.procedures ks })
declared_program names rows [] [] [] d m are placed is = is
declared_program names rows [] [] (k ∷ ks) d m are placed is = absurd are
declared_program names rows [] (p ∷ ps) ks d m are placed is = absurd placed
declared_program names rows (f ∷ fs) [] ks d m are placed is = absurd placed
declared_program names rows (f ∷ fs) (p ∷ ps) [] d m are placed is = absurd are
declared_program {keeps = keeps} names rows (f ∷ fs) (p ∷ ps) (k ∷ ks) d m are placed is =
    let text = text_at names f.name in
    let named : k ≡ key text f.arity = are.0.key in
    let at : place_at d k ≡ Some p = ap (place_at d) named ∙ placed.0.place_is in
    let atom : slice_get names f.name ≡ Some text = slice_get-get_or names f.name [] are.0.atom in
    let next : IsProgram keeps names (with_kind kind.Dynamic p d) rows (record m { procedures = with_declared m.procedures k }) =
    record { database = database_declared d m k p at is.database; found = finds_declared d m k p at f text atom named placed.0.called is.found } in
    declared_program names rows fs ps ks (with_kind kind.Dynamic p d) (record m { procedures = with_declared m.procedures k }) are.1
    (placed_kept names d (with_kind kind.Dynamic p d) rows rows fs ps (dynamic_places d rows p) placed.1) next

-- ---- what a declaration comes to

-- goes on with the parts
pub goes_on : {W : Type 0} (p : Present W) (by : Key) (t : Tree) (check : Tree → Result Key Tree) (ws : Vec W Global)
    → AreParts p by t (Ok ws) → declaration check by t ≡ all_indicated check (map (meaning p) ws.items)
goes_on p by t check ws are = ap (λ b. if b then Err (instantiation_error by) else all_indicated check (declared_parts t)) are.1 ∙ ap (all_indicated check) (sym are.0)

pub refused_changed : {C : Type 0} (keeps : Keeping C) (names : List (List ℕ)) (d : Database (Clause C))
    (rows : List (Vec Callable Global)) (w : World) (settled : Settled) (asked : Result (List Key) Tree) (e : Fault)
    → settled ≡ declared w asked → AreIndicated names asked (Err e) → IsChanged keeps names d rows w settled (Err e)
refused_changed keeps names d rows w settled (Ok ks) (fault.Raise ball) same h = absurd h
refused_changed keeps names d rows w settled (Err error) (fault.Raise ball) same h = rw same h
refused_changed keeps names d rows w settled asked e same h = tt

pub declared_changed : {C : Type 0} {keeps : Keeping C} (names : List (List ℕ)) (d new : Database (Clause C))
    (rows : List (Vec Callable Global)) (w : World) (settled : Settled) (asked : Result (List Key) Tree)
    (fs : Vec Functor Global) (ps : List ℕ) → settled ≡ declared w asked
    → AreIndicated names asked (Ok fs) → ArePlaced names d rows fs.items ps → IsProgram keeps names d rows w.database
    → new ≡ all_dynamic ps d → IsChanged keeps names new rows w settled (Ok tt)
declared_changed names d new rows w settled (Err error) fs ps same h placed is now = absurd h
declared_changed names d new rows w settled (Ok ks) fs ps same h placed is now =
    (0, record w.database { procedures = all_declared w.database.procedures ks }, same, rw now (declared_program names rows fs.items ps ks d w.database h placed is))
