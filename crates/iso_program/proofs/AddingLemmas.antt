-- What is called, as procedures come and clauses are added to them.
use Rattle.std.proofs.Common.{◌≡◌, ◌<◌, length, ◌+◌, ◌==◌, ℕ, List, refl, sym, ap, ◌∙◌, subst, Bool, true, false, ◌&&◌, ◌||◌, Some, None, Option, option_map, inl, inr, Vec, Global}
use Rattle.std.specs.Option.{option_or, option_and_then}
use Rattle.std.specs.List.{slice_get}
use Rattle.iso_model.specs.Search.Databases.{Key, key, same_key}
use Rattle.iso_model.specs.Search.BuiltIns.{built_in, is_built_in, is_control, is_some_built_in}
use Rattle.iso_model.specs.declared.built_ins.BuiltIn.{BuiltIn}
use Rattle.iso_store_core.proofs.AtomLemmas.{text-is}
use Rattle.iso_db.specs.Databases as db
use Rattle.iso_db.specs.Databases.{Database, Procedure, no_procedures, with_procedure}
use Rattle.iso_db.specs.declared.kinds.Kind.{Kind}
use Rattle.iso_db.specs.declared.kinds.Kind.TheVariants as kind
use Rattle.iso_program.specs.declared.callables.Callable.{Callable}
use Rattle.iso_program.specs.declared.callables.Callee.{Callee}
use Rattle.iso_program.specs.declared.callables.Callee.TheVariants as callee
use Rattle.iso_lib.specs.declared.indicators.Functor.{Functor}
use Rattle.iso_program.specs.declared.procedures.Way.{Way}
use Rattle.iso_program.specs.declared.procedures.Way.TheVariants as way
use Rattle.iso_program.specs.Adding.{IsFound, came}
use Rattle.iso_program.specs.Callables.{Finds, Agrees, callee_at, callee_of, where_holds}
use Rattle.iso_program.specs.Programs.{place_at, kept_at, kind_of}
use Rattle.iso_program.proofs.CallableLemmas.{index_same, index_more, index_none, by_key, or_none}
use Rattle.iso_program.proofs.ProgramLemmas.{place_within, kind_there, placed_kept, placed_other, Put, new, changed, same_place, kept_other}

-- ---- what a key calls

-- the built-in and the place of which this is called
abbrev Calls : Option BuiltIn → Option ℕ → Option Callee → Type 0
Calls o q (Some (callee.BuiltIn b)) = o ≡ Some b
Calls o q (Some (callee.User i)) = (o ≡ None) × (q ≡ Some i)
Calls o q None = (o ≡ None) × (q ≡ None)

called_as : {X : Type 0} (d : Database X) (k : Key) (c : Option Callee) → callee_of d k ≡ c
    → Calls (built_in k) (place_at d k) c
called_as d k c h = subst (Calls (built_in k) (place_at d k)) h (by_parts (built_in k) (place_at d k)) where
  by_parts : (o : Option BuiltIn) (q : Option ℕ) → Calls o q (option_or (option_map callee.BuiltIn o) (option_map callee.User q))
  by_parts (Some b) q = refl
  by_parts None (Some i) = (refl, refl)
  by_parts None None = (refl, refl)

pub called_user : {X : Type 0} (d : Database X) (k : Key) (i : ℕ) → callee_of d k ≡ Some (callee.User i)
    → (built_in k ≡ None) × (place_at d k ≡ Some i)
called_user d k i h = called_as d k (Some (callee.User i)) h

pub called_own : {X : Type 0} (d : Database X) (k : Key) (b : BuiltIn) → callee_of d k ≡ Some (callee.BuiltIn b)
    → built_in k ≡ Some b
called_own d k b h = called_as d k (Some (callee.BuiltIn b)) h

pub called_none : {X : Type 0} (d : Database X) (k : Key) → callee_of d k ≡ None → (built_in k ≡ None)
    × (place_at d k ≡ None)
called_none d k h = called_as d k None h

-- what is no built-in and no control construct is no built-in
pub user_alone : (k : Key) → is_built_in k ≡ false → built_in k ≡ None
user_alone k h = by_or (is_control k) (built_in k) h where
  by_or : (control : Bool) (o : Option BuiltIn) → control || is_some_built_in o ≡ false → o ≡ None
  by_or control None h = refl
  by_or true (Some b) h = absurd (cc h)
  by_or false (Some b) h = absurd (cc h)

-- without procedures a key calls a built-in alone
pub callee_first : (X : Type 0) (k : Key) → callee_of {X = X} no_procedures k ≡ option_map callee.BuiltIn (built_in k)
callee_first X k = or_none (option_map callee.BuiltIn (built_in k))

-- what a key calls where its place and the kind of its procedure are the same
agrees_still : {X : Type 0} (d e : Database X) (k : Key) (c : Option Callee) → place_at e k ≡ place_at d k
    → kind_of (kept_at e k) ≡ kind_of (kept_at d k) → Agrees d k c → Agrees e k c
agrees_still d e k c place kind (inl a) =
    inl (a ∙ ap (λ o. option_or (option_map callee.BuiltIn (built_in k)) (option_map callee.User o)) (sym place))
agrees_still d e k c place kind (inr b) = inr (b.0, b.1, kind ∙ b.2)

-- ---- what is found

-- by the atom, where that was read of these rows
pub found_by : (rows slice : List (Vec Callable Global)) (f : Functor) (o c : Option Callee) → slice ≡ rows
    → o ≡ callee_at slice f.name f.arity → o ≡ c → callee_at rows f.name f.arity ≡ c
found_by rows slice f o c same found is = cc

module _ {X : Type 0} (names : List (List ℕ)) (f : Functor) (text : List ℕ) (d : Database X)
    (rows : List (Vec Callable Global)) (h : IsFound names f text d rows) where
  abbrev named : Key
  named = key text f.arity

  found_called : (c : Callee) → callee_at rows f.name f.arity ≡ Some c → h.found.calls named ≡ Some c
  found_called c is = ap (λ t. h.found.calls (key t f.arity)) (sym (text-is names f.name text h.atom)) ∙ (h.found.indexes.sound f.name f.arity c is).1

  -- what was found is called
  pub found_callee : (c : Callee) → callee_at rows f.name f.arity ≡ Some c → callee_of d named ≡ Some c
  found_callee c is = by_case (h.found.agrees named) where
    by_case : Agrees d named (h.found.calls named) → callee_of d named ≡ Some c
    by_case (inl same) = sym same ∙ found_called c is
    by_case (inr none) = absurd (let e : None ≡ Some c = sym none.0 ∙ found_called c is in cc e)

  pub found_place : (i : ℕ) → callee_at rows f.name f.arity ≡ Some (callee.User i) → place_at d named ≡ Some i
  found_place i is = (called_user d named i (found_callee (callee.User i) is)).1

  -- and has the place and the kind that it has by its key
  pub user_there : (i : ℕ) → callee_at rows f.name f.arity ≡ Some (callee.User i)
      → (place_at d named ≡ Some i) × (i < length d.procedures) × (db.kind_at d i ≡ kind_of (kept_at d named))
  user_there i is = (let at = found_place i is in (at, place_within d named i at, kind_there d named i at))

  pub found_nothing : callee_at rows f.name f.arity ≡ None → h.found.calls named ≡ None
  found_nothing is = index_none names rows h.found.calls f.name f.arity text h.each_once h.atom h.found.indexes is

  pub found_absent : callee_at rows f.name f.arity ≡ None → kind_of (kept_at d named) ≡ None
  found_absent is = by_case (h.found.agrees named) where
    by_case : Agrees d named (h.found.calls named) → kind_of (kept_at d named) ≡ None
    by_case (inl same) = (let none = (called_none d named (sym same ∙ found_nothing is)).1 in ap (λ o. kind_of (option_and_then (slice_get d.procedures) o)) none)
    by_case (inr none) = none.2

  placed_agrees : (k : Key) → same_key named k ≡ false → Agrees (with_procedure text f.arity d) k (h.found.calls k)
  placed_agrees k other = agrees_still d (with_procedure text f.arity d) k _ (placed_other d named k other) (placed_kept d text f.arity k).0 (h.found.agrees k)

  -- a place came, under which nothing is found yet
  pub finds_placed : (more : List (Vec Callable Global)) → callee_at rows f.name f.arity ≡ None
      → ((a n : ℕ) → callee_at more a n ≡ callee_at rows a n) → built_in named ≡ None
      → Finds names more (with_procedure text f.arity d)
  finds_placed more is same none = record {
    calls = h.found.calls;
    indexes = index_same names rows more h.found.calls h.found.calls same (λ k. refl) h.found.indexes;
    agrees = λ k. by_key (λ j b. Agrees (with_procedure text f.arity d) j (h.found.calls j)) named k
        (inr (found_nothing is, none, (placed_kept d text f.arity named).0 ∙ found_absent is))
        (λ other. placed_agrees k other);
  }

  -- and is found then
  pub finds_new : (more : List (Vec Callable Global)) (place : ℕ) → callee_at rows f.name f.arity ≡ None
      → built_in named ≡ None → place_at (with_procedure text f.arity d) named ≡ Some place
      → ((a n : ℕ) → callee_at more a n ≡ option_or (callee_at rows a n)
      (where_holds (a == f.name && f.arity == n) (callee.User place)))
      → Finds names more (with_procedure text f.arity d)
  finds_new more place is none at are = record {
    calls = λ k. option_or (h.found.calls k) (where_holds (same_key named k) (callee.User place));
    indexes = index_more names rows more h.found.calls (λ k. option_or (h.found.calls k) (where_holds (same_key named k) (callee.User place))) f.name f.arity text (callee.User place) h.each_once h.atom are (λ k. refl) h.found.indexes;
    agrees = λ k. by_key (λ j b. Agrees (with_procedure text f.arity d) j (option_or (h.found.calls j) (where_holds b (callee.User place)))) named k
        (inl (ap (λ o. option_or o (Some (callee.User place))) (found_nothing is) ∙ sym called))
        (λ other. subst (λ (o : Option Callee). Agrees (with_procedure text f.arity d) k o) (sym (or_none (h.found.calls k))) (placed_agrees k other));
  } where
    called : callee_of (with_procedure text f.arity d) named ≡ Some (callee.User place)
    called = ap (λ o. option_or (option_map callee.BuiltIn o) (option_map callee.User (place_at (with_procedure text f.arity d) named))) none ∙ ap (option_map callee.User) at

-- ---- what is kept at a place is changed

module _ {X : Type 0} (names : List (List ℕ)) (rows : List (Vec Callable Global)) (f : Procedure X → Procedure X)
    (same : (p : Procedure X) → (f p).key ≡ p.key) (n : ℕ) (d : Database X) (place : ℕ) (k : Key)
    (at : place_at d k ≡ Some place) (is : Finds names rows d) where
  changed_finds : (is.calls k ≡ None → kind_of (kept_at d k) ≡ None → kind_of (kept_at (changed f n d place) k) ≡ None)
      → Finds names rows (changed f n d place)
  changed_finds absent = record {
    calls = is.calls;
    indexes = is.indexes;
    agrees = λ j. by_key (λ x b. Agrees (changed f n d place) x (is.calls x)) k j (here (is.agrees k))
        (λ other. agrees_still d (changed f n d place) j _ (same_place f same n d place j) (ap kind_of (kept_other f same n d place k j at other)) (is.agrees j));
  } where
    here : Agrees d k (is.calls k) → Agrees (changed f n d place) k (is.calls k)
    here (inl a) = inl (a ∙ ap (λ o. option_or (option_map callee.BuiltIn (built_in k)) (option_map callee.User o)) (sym (same_place f same n d place k)))
    here (inr b) = inr (b.0, b.1, absent b.0 b.2)

  -- one that was absent stays so
  pub finds_absent : (kind_of (kept_at d k) ≡ None → kind_of (kept_at (changed f n d place) k) ≡ None)
      → Finds names rows (changed f n d place)
  finds_absent absent = changed_finds (λ none. absent)

  -- it is found
  pub finds_called : (g : Functor) (text : List ℕ) → slice_get names g.name ≡ Some text → k ≡ key text g.arity
      → callee_at rows g.name g.arity ≡ Some (callee.User place) → Finds names rows (changed f n d place)
  finds_called g text atom named found = changed_finds (λ none. absurd (cc (called, none))) where
    called : is.calls k ≡ Some (callee.User place)
    called = ap is.calls named ∙ ap (λ t. is.calls (key t g.arity)) (sym (text-is names g.name text atom)) ∙ (is.indexes.sound g.name g.arity (callee.User place) found).1

-- a clause came where the procedure is found, in whichever way
pub finds_more : {X : Type 0} (w : Way) (names : List (List ℕ)) (f : Functor) (text : List ℕ) (d : Database X)
    (rows : List (Vec Callable Global)) (place : ℕ) (value : X) → slice_get names f.name ≡ Some text
    → place_at d (key text f.arity) ≡ Some place
    → callee_at rows f.name f.arity ≡ Some (callee.User place) → Finds names rows d
    → Finds names rows (came w place value d)
finds_more {X = X} w names f text d rows place value atom at found is = by_way w where
  put : (puts : Put X) (kd : Kind) → Finds names rows (db.with_clause puts kd place value d)
  put puts kd = finds_called names rows (db.one_more puts kd (new d value)) (λ p. refl) (d.added + 1) d place (key text f.arity) at is f text atom refl found

  by_way : (w : Way) → Finds names rows (came w place value d)
  by_way way.Consulted = put db.at_end kind.Static
  by_way way.First = put db.at_front kind.Dynamic
  by_way way.Last = put db.at_end kind.Dynamic
