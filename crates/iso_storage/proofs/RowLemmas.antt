-- Goals that offer the clauses of a procedure.
use Rattle.std.proofs.Common.{◌≡◌, ℕ, List, [], ◌∷◌, map, Bool, true, false, Some, None, Result, Ok, Err, refl, sym, ap, ◌∙◌, subst, codes, if◌then◌else◌, slice_get, IsErrAnd}
use Rattle.iso_atoms.specs.Texts.{EachOnce}
use Rattle.iso_model.specs.Terms.Trees.{Tree, More, End, row, arities_fit}
use Rattle.iso_model.specs.Terms.Substitutions.{apply}
use Rattle.iso_model.specs.Terms.TermOf.{term_of}
use Rattle.iso_model.specs.Terms.Types.{is_integer}
use Rattle.iso_model.specs.Search.Additions.{head_of, body_of}
use Rattle.iso_model.specs.Search.Bodies.{body_term}
use Rattle.iso_model.specs.Search.BuiltIns.{built_in}
use Rattle.iso_model.specs.Search.Databases as databases
use Rattle.iso_model.specs.Search.Databases.{Key, key_of}
use Rattle.iso_model.specs.Search.Errors.{key, indicator, not_permitted, permission_error}
use Rattle.iso_model.specs.Search.RunLaws.Thinness.{Misses, Skips, no_clause, tried_too, passed_over, RowMisses, SkipsRows, no_row, met_too, row_passed_over}
use Rattle.iso_model.specs.Search.Storages.{Settled, Refuses, Offers, with_head, is_fixed, clauses_of, clause_key, clause_settled, retract_key, retract_settled}
use Rattle.iso_model.specs.Search.Worlds.{World}
use Rattle.iso_model.specs.declared.pauses.Ball.{Ball}
use Rattle.iso_db.specs.declared.db.Db.{Db}
use Rattle.iso_store_core.specs.Presents.{Present, meaning}
use Rattle.iso_store_core.specs.Shapes.{IsShape}
use Rattle.iso_store_core.specs.declared.shapes.Shape.{Shape}
use Rattle.iso_store_core.specs.declared.shapes.Shape.TheVariants as shape
use Rattle.iso_store_core.proofs.AtomLemmas.{text-is}
use Rattle.iso_lib_core.specs.Replies.{IsFault}
use Rattle.iso_lib_core.specs.declared.outcomes.Fault.{Fault}
use Rattle.iso_lib_core.specs.declared.outcomes.Fault.TheVariants as fault
use Rattle.iso_lib_core.proofs.CheckLemmas.{handed_on}
use Rattle.iso_lib.specs.Indicators.{IsFunctor, IsIndicated}
use Rattle.iso_lib.specs.Settlements.{IsRefused}
use Rattle.iso_lib.specs.declared.indicators.Functor.{Functor}
use Rattle.iso_program.specs.ClauseOffers.{clause_offer}
use Rattle.iso_program.specs.declared.clauses.Clause.{Clause}
use Rattle.iso_storage.specs.Storing.{IsNamed, HasHead, OffersFirst, IsOffered}
use Rattle.iso_storage.specs.declared.storages.StorageReply.{StorageReply}
use Rattle.iso_storage.specs.declared.storages.StorageReply.TheVariants as stored
use Rattle.iso_program.specs.Kept.{Keeping}

-- what is no integer
pub not_integer : (names : List (List ℕ)) (s : Shape) (t : Tree) → IsShape names s t → ((z : _) → s ≡ shape.Int z → ⊥)
    → is_integer t ≡ false
not_integer names (shape.Var n) t is other = ap is_integer is
not_integer names (shape.Int z) t is other = absurd (other z refl)
not_integer names (shape.Atom a) t is other = ap is_integer is.1
not_integer names (shape.Compound f n) t is other = ap is_integer is.2

-- the key by the text of its name
key_named : {names : List (List ℕ)} {f : Functor} {k : Key} {text : List ℕ} → EachOnce names
    → slice_get names f.name ≡ Some text → IsFunctor names k f → (k ≡ key text f.arity) × IsNamed names f text
key_named {names} {f} {text = text} once at is = (is.key ∙ ap (λ t. key t f.arity) (text-is names f.name text at), record { each_once = once; atom = at; few = is.few })

-- the procedure of a head, or that of an indicator, by this text
pub record IsHeaded (names : List (List ℕ)) (h : Tree) (by : Key) (f : Functor) (text : List ℕ) : Type 0 where
  pub key_is : key_of h ≡ Some (key text f.arity)
  pub goes_on : (goes_on : Key → Settled) → with_head h by goes_on ≡ goes_on (key text f.arity)
  pub named : IsNamed names f text

pub head_named : {names : List (List ℕ)} {text : List ℕ} (h : Tree) (by : Key) (f : Functor) → EachOnce names
    → slice_get names f.name ≡ Some text → HasHead names h by (Ok f) → IsHeaded names h by f text
head_named h by f once at is =
    let named = key_named once at is.2 in
    record { key_is = is.1 ∙ ap Some named.0; goes_on = λ goes_on. is.3 goes_on ∙ ap goes_on named.0; named = named.1 }

pub indicated_named : {names : List (List ℕ)} {text : List ℕ} (r : Result Key Tree) (f : Functor) → EachOnce names
    → slice_get names f.name ≡ Some text → IsIndicated names r (Ok f)
    → (r ≡ Ok (key text f.arity)) × IsNamed names f text
indicated_named (Ok k) f once at is = let named = key_named once at is in (ap Ok named.0, named.1)
indicated_named (Err error) f once at is = absurd is

-- ---- clause/2

module _ (h b : Tree) (w : World) (k : Key) (headed : (goes_on : Key → Settled)
    → with_head h clause_key goes_on ≡ goes_on k) (other : is_integer b ≡ false) where
  abbrev private_error : Tree
  private_error = not_permitted (codes "access") (codes "private_procedure") (indicator k) clause_key

  pub clause_after : (fixed : Bool) → is_fixed w.database.procedures k ≡ fixed → clause_settled h b w
      ≡ (if fixed then Refuses private_error else Offers (row (h ∷ b ∷ [])) (map (clause_offer false k) (clauses_of w.database.procedures k)))
  clause_after fixed is = rw (headed, other, is) refl

  pub clause_refused : (ball : Ball) → is_fixed w.database.procedures k ≡ true → term_of ball.term.value ≡ private_error
      → IsRefused (clause_settled h b w) ball
  clause_refused ball fixed is = rw (clause_after true fixed) (is, ap arities_fit is)

-- ---- retract/1

module _ (t h b : Tree) (w : World) (k : Key) (head : h ≡ head_of t) (body : b ≡ body_of t)
    (headed : (goes_on : Key → Settled) → with_head h retract_key goes_on ≡ goes_on k) where
  pub retract_after : (fixed : Bool) → is_fixed w.database.procedures k ≡ fixed → retract_settled t w
      ≡ (if fixed then Refuses (permission_error k retract_key) else Offers (row (h ∷ b ∷ [])) (map (clause_offer true k) (clauses_of w.database.procedures k)))
  retract_after fixed is = rw (← head, ← body, headed, is) refl

  pub retract_fault : {C : Type 0} (keeps : Keeping C) {W : Type 0} (names : List (List ℕ)) (q : Present W)
      (d : Db (Clause C)) (r : Result (StorageReply W) Fault) (e : Fault) → IsErrAnd r (λ x. x ≡ e)
      → is_fixed w.database.procedures k ≡ true → IsFault (permission_error k retract_key) e
      → IsOffered keeps names q d (retract_settled t w) r
  retract_fault keeps names q d r e handed fixed raised = handed_on (IsOffered keeps names q d (retract_settled t w)) r e handed (by_fault e raised) where
    by_fault : (x : Fault) → IsFault (permission_error k retract_key) x
        → IsOffered keeps names q d (retract_settled t w) (Err x)
    by_fault (fault.Raise ball) error = rw (retract_after true fixed) (error.0, ap arities_fit error.0)
    by_fault fault.Full error = tt
    by_fault fault.NoMemory error = tt

-- ---- clauses are offered

-- rows of the same two terms that are equal begin with equal terms
row_misses : (h b : Tree) (removes : Bool) (k : Key) (c : databases.Clause) → Misses h c
    → RowMisses (row (h ∷ b ∷ [])) (clause_offer removes k c)
row_misses h b true k c miss = λ r s e. miss r s (let both : More (apply s h) (apply s (More b End)) ≡ More (apply s (apply r c.head)) (apply s (apply r (More (body_term c.body) End))) = e in cc both)
row_misses h b false k c miss = λ r s e. miss r s (let both : More (apply s h) (apply s (More b End)) ≡ More (apply s (apply r c.head)) (apply s (apply r (More (body_term c.body) End))) = e in cc both)

-- clauses that miss the head are rows that can't be met
rows_skip : (h b : Tree) (removes : Bool) (k : Key) {ds cs : List databases.Clause} → Skips h ds cs
    → SkipsRows (row (h ∷ b ∷ [])) (map (clause_offer removes k) ds) (map (clause_offer removes k) cs)
rows_skip h b removes k no_clause = no_row
rows_skip h b removes k (tried_too skips) = met_too (rows_skip h b removes k skips)
rows_skip h b removes k (passed_over {c = c} miss skips) = row_passed_over (row_misses h b removes k c miss) (rows_skip h b removes k skips)

module _ {C : Type 0} (keeps : Keeping C) {W : Type 0} (names : List (List ℕ)) (q : Present W) (d : Db (Clause C))
    (head body : W) (removes : Bool) (k : Key) (settled : Settled) (cs : List databases.Clause) where
  pub offers_shown : (r : StorageReply W) → q.holds head ≡ true → q.holds body ≡ true → key_of (meaning q head) ≡ Some k
      → built_in k ≡ None
      → settled ≡ Offers (row (meaning q head ∷ meaning q body ∷ [])) (map (clause_offer removes k) cs)
      → OffersFirst keeps names d head body removes (meaning q head) cs r → IsOffered keeps names q d settled (Ok r)
  offers_shown stored.Done held there named user is h = absurd h
  offers_shown stored.Fails held there named user is h = record {
    left = row (meaning q head ∷ meaning q body ∷ []);
    offers = map (clause_offer removes k) cs;
    is = is;
    skips = rows_skip (meaning q head) (meaning q body) removes k h;
  }
  offers_shown (stored.Shows shown) held there named user is h = record {
    head = ap q.holds h.0 ∙ held;
    body = ap q.holds h.1 ∙ there;
    key = k;
    key_is = ap (λ (x : W). key_of (meaning q x)) h.0 ∙ named;
    user = user;
    offers = map (clause_offer shown.removes k) cs;
    is = is ∙ (λ i. Offers (row (meaning q (sym h.0 i) ∷ meaning q (sym h.1 i) ∷ [])) (map (clause_offer (sym h.2 i) k) cs));
    clauses = h.3.clauses;
    skips = rows_skip (meaning q shown.head) (meaning q shown.body) shown.removes k (subst (λ (x : W). Skips (meaning q x) h.3.clauses cs) (sym h.0) h.3.skips);
    are = h.3.are;
  }
