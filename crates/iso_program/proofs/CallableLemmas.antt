-- What is called by the numbers of atoms is what is called by texts, as callables come.
use Rattle.std.proofs.Common.{◌≡◌, ◌<◌, ℕ, zero, suc, List, [], ◌∷◌, ◌++◌, length, get_or, set, refl, sym, ap, ap₂, ◌∙◌, subst, Bool, true, false, ◌&&◌, ◌==◌, inl, inr, ◌⊎◌, Option, Some, None, option_map, slice_get, Vec, Global, arith, if◌then◌else◌}
use Rattle.std.specs.Option.{option_or}
use Rattle.std.specs.Str.{bytes_eq}
use Rattle.std.proofs.lemmas.Bool.{cases_Bool, and_parts, eqb-true, eq-eqb}
use Rattle.std.proofs.lemmas.Option.{slice_get_within, slice_get-get_or}
use Rattle.std.proofs.lemmas.Slice.Eq.{bytes_eq-Decides}
use Rattle.iso_atoms.specs.Texts.{EachOnce, KeepsTexts, text_at}
use Rattle.iso_model.specs.Search.Databases.{Key, key, same_key}
use Rattle.iso_model.specs.Search.BuiltIns.{built_in_among}
use Rattle.iso_model.specs.Search.Rows.{entries_of}
use Rattle.iso_model.specs.declared.built_ins.BuiltIn.{BuiltIn}
use Rattle.iso_model.specs.declared.built_ins.Row.{Row}
use Rattle.iso_store_core.proofs.AtomLemmas.{atom-kept, text-kept, text-is}
use Rattle.iso_program.specs.declared.callables.Callable.{Callable}
use Rattle.iso_program.specs.declared.callables.Callee.{Callee}
use Rattle.iso_program.specs.declared.callables.Callee.TheVariants as callee
use Rattle.iso_program.specs.Callables.{where_holds, callee_in, callables_in, callee_at, callee_among, Indexes}

-- this number, or another
by_number : (P : ℕ → Bool → Type 0) (n k : ℕ) → P n true → P k false → P k (k == n)
by_number P n k here other =
    elim (cases_Bool (k == n)) [
      | inl same ↦ rw same (subst (λ j. P j true) (sym (eqb-true k n same)) here)
      | inr apart ↦ rw apart other
    ]

-- ---- a list with an item set

set_row : {X : Type 0} (xs : List X) (i j : ℕ) (y : X) → i < length xs → slice_get (set xs i y) j ≡ (if j == i then Some y else slice_get xs j)
set_row [] i j y below = absurd (omega arith)
set_row (x ∷ xs) (suc i) (suc j) y below = grind (arith, set_row xs i j y)
set_row (x ∷ xs) i j y below = grind arith

-- ---- a callable more

callee_more : (cs : List Callable) (c : Callable) (n : ℕ) → callee_in (cs ++ c ∷ []) n ≡ option_or (callee_in cs n) (where_holds (c.arity == n) c.calls)
callee_more [] c n = refl
callee_more (d ∷ cs) c n = grind (arith, callee_more cs c n)

pub or_none : {X : Type 0} (o : Option X) → option_or o None ≡ o
or_none None = refl
or_none (Some x) = refl

-- a name's callables with one more, or as they were
module _ (rows : List (Vec Callable Global)) (place : ℕ) (old new : Vec Callable Global) (within : place < length rows) (there : old ≡ get_or rows place old) where
  row_set : (a n : ℕ) → callee_at (set rows place new) a n ≡ (if a == place then callee_in new.items n else callee_at rows a n)
  row_set a n = rw (set_row rows place a new within) (grind arith)

  row_was : (n : ℕ) → callee_in old.items n ≡ callee_at rows place n
  row_was n = ap (λ r. callee_in (callables_in r) n) (sym (slice_get-get_or rows place old within ∙ ap Some (sym there)))

  pub pushed : (c : Callable) → new.items ≡ old.items ++ c ∷ [] → (a n : ℕ) → callee_at (set rows place new) a n ≡ option_or (callee_at rows a n) (where_holds (a == place && c.arity == n) c.calls)
  pushed c are a n = row_set a n ∙
      by_number (λ b t. (if t then callee_in new.items n else callee_at rows b n) ≡ option_or (callee_at rows b n) (where_holds (t && c.arity == n) c.calls)) place a
      (ap (λ cs. callee_in cs n) are ∙ callee_more old.items c n ∙ ap (λ o. option_or o (where_holds (c.arity == n) c.calls)) (row_was n))
      (sym (or_none (callee_at rows a n)))

  pub left_row : new.items ≡ old.items → (a n : ℕ) → callee_at (set rows place new) a n ≡ callee_at rows a n
  left_row are a n = row_set a n ∙
      by_number (λ b t. (if t then callee_in new.items n else callee_at rows b n) ≡ callee_at rows b n) place a (ap (λ cs. callee_in cs n) are ∙ row_was n) refl

-- a name more that has none
pub row_more : (rows : List (Vec Callable Global)) (row : Vec Callable Global) → row.items ≡ [] → (a n : ℕ) → callee_at (rows ++ row ∷ []) a n ≡ callee_at rows a n
row_more [] row none zero n = ap (λ cs. callee_in cs n) none
row_more (r ∷ rows) row none (suc a) n = row_more rows row none a n
row_more rows row none a n = refl

-- ---- keys

pub same_key_is : (a b : Key) → same_key a b ≡ true → a ≡ b
same_key_is a b h =
    let parts = and_parts (a.arity == b.arity) (bytes_eq a.name b.name) h in
    let arity : a.arity ≡ b.arity = eqb-true a.arity b.arity parts.0 in
    let name : a.name ≡ b.name = (bytes_eq-Decides a.name b.name).0 parts.1 in
    ap₂ key name arity

pub same_key_self : (k : Key) → same_key k k ≡ true
same_key_self k = ap₂ ◌&&◌ (eq-eqb k.arity k.arity refl) ((bytes_eq-Decides k.name k.name).1 refl)

-- this key, or another
pub by_key : (P : Key → Bool → Type 0) (k j : Key) → P k true → (same_key k j ≡ false → P j false) → P j (same_key k j)
by_key P k j here other =
    elim (cases_Bool (same_key k j)) [
      | inl same ↦ rw same (subst (λ (x : Key). P x true) (same_key_is k j same) here)
      | inr apart ↦ rw apart (other apart)
    ]

-- ---- what is called, by atoms and by texts

-- the same callables and calls, said otherwise
pub index_same : (names : List (List ℕ)) (rows more : List (Vec Callable Global)) (calls also : Key → Option Callee) → ((a n : ℕ) → callee_at more a n ≡ callee_at rows a n) → ((k : Key) → also k ≡ calls k)
    → Indexes names rows calls → Indexes names more also
index_same names rows more calls also rows_are calls_are is = record {
  sound = λ a n c h. (let there = is.sound a n c (sym (rows_are a n) ∙ h) in (there.0, calls_are (key (text_at names a) n) ∙ there.1));
  complete = λ k c h. (let there = is.complete k c (sym (calls_are k) ∙ h) in (there.0, there.1, rows_are there.0 k.arity ∙ there.2));
}

-- names come
pub index_kept : (old new : List (List ℕ)) (rows : List (Vec Callable Global)) (calls : Key → Option Callee) → KeepsTexts old new → Indexes old rows calls → Indexes new rows calls
index_kept old new rows calls keeps is = record {
  sound = λ a n c h. (let there = is.sound a n c h in
      (atom-kept old new keeps a there.0, ap (λ t. calls (key t n)) (text-kept old new keeps a there.0) ∙ there.1));
  complete = λ k c h. (let there = is.complete k c h in (there.0, keeps there.0 k.name there.1, there.2));
}

none_unless : {X : Type 0} (o : Option X) → ((x : X) → o ≡ Some x → ⊥) → o ≡ None
none_unless None never = refl
none_unless (Some x) never = absurd (never x refl)

-- what was there, or what came where nothing was
or_parts : {X : Type 0} (o : Option X) (holds : Bool) (c d : X) → option_or o (where_holds holds c) ≡ Some d → (o ≡ Some d) ⊎ ((o ≡ None) × (holds ≡ true) × (c ≡ d))
or_parts (Some x) holds c d h = inl h
or_parts None true c d h = inr (refl, refl, cc h)
or_parts None false c d h = absurd (cc h)

-- an atom under which nothing is called names nothing that is called
pub index_none : (names : List (List ℕ)) (rows : List (Vec Callable Global)) (calls : Key → Option Callee) (a n : ℕ) (text : List ℕ) → EachOnce names → slice_get names a ≡ Some text → Indexes names rows calls
    → callee_at rows a n ≡ None → calls (key text n) ≡ None
index_none names rows calls a n text once there is none = none_unless (calls (key text n)) (λ c h.
    (let found = is.complete (key text n) c h in
    let here : callee_at rows a n ≡ Some c = subst (λ (b : ℕ). callee_at rows b n ≡ Some c) (once.one_place found.0 a text found.1 there) found.2 in
    cc (here, none)))

-- one comes
module _ (names : List (List ℕ)) (rows more : List (Vec Callable Global)) (calls also : Key → Option Callee) (a n : ℕ) (text : List ℕ) (c : Callee) (once : EachOnce names) (there : slice_get names a ≡ Some text)
    (rows_are : (b m : ℕ) → callee_at more b m ≡ option_or (callee_at rows b m) (where_holds (b == a && n == m) c)) (calls_are : (k : Key) → also k ≡ option_or (calls k) (where_holds (same_key (key text n) k) c))
    (is : Indexes names rows calls) where
  new_called : callee_at rows a n ≡ None → also (key text n) ≡ Some c
  new_called none = calls_are (key text n) ∙ ap₂ (λ o b. option_or o (where_holds b c)) (index_none names rows calls a n text once there is none) (same_key_self (key text n))

  new_found : calls (key text n) ≡ None → callee_at more a n ≡ Some c
  new_found none = rows_are a n ∙ ap₂ (λ o b. option_or o (where_holds b c)) nothing (ap₂ ◌&&◌ (eq-eqb a a refl) (eq-eqb n n refl)) where
    nothing : callee_at rows a n ≡ None
    nothing = none_unless (callee_at rows a n) (λ x h.
        (let bad : calls (key text n) ≡ Some x = ap (λ t. calls (key t n)) (sym (text-is names a text there)) ∙ (is.sound a n x h).1 in cc (bad, none)))

  new_sound : (b m : ℕ) (d : Callee) → callee_at more b m ≡ Some d → (b < length names) × (also (key (text_at names b) m) ≡ Some d)
  new_sound b m d h =
      elim (or_parts (callee_at rows b m) (b == a && n == m) c d (sym (rows_are b m) ∙ h)) [
        | inl had ↦ (let old = is.sound b m d had in
            let k = key (text_at names b) m in
            (old.0, calls_are k ∙ ap (λ o. option_or o (where_holds (same_key (key text n) k) c)) old.1))
        | inr came ↦ (let parts = and_parts (b == a) (n == m) came.1 in
            let atom : b ≡ a = eqb-true b a parts.0 in
            let arity : n ≡ m = eqb-true n m parts.1 in
            let named : key (text_at names b) m ≡ key text n = ap₂ key (ap (text_at names) atom ∙ text-is names a text there) (sym arity) in
            (rw atom (slice_get_within names a text there), ap also named ∙ new_called (ap₂ (callee_at rows) (sym atom) arity ∙ came.0) ∙ ap Some came.2))
      ]

  new_complete : (k : Key) (d : Callee) → also k ≡ Some d → (b : ℕ) × (slice_get names b ≡ Some k.name) × (callee_at more b k.arity ≡ Some d)
  new_complete k d h =
      elim (or_parts (calls k) (same_key (key text n) k) c d (sym (calls_are k) ∙ h)) [
        | inl had ↦ (let old = is.complete k d had in
            (old.0, old.1, rows_are old.0 k.arity ∙ ap (λ o. option_or o (where_holds (old.0 == a && n == k.arity) c)) old.2))
        | inr came ↦ (let same : key text n ≡ k = same_key_is (key text n) k came.1 in
            subst (λ (j : Key). (b : ℕ) × (slice_get names b ≡ Some j.name) × (callee_at more b j.arity ≡ Some d)) same (a, there, new_found (ap calls same ∙ came.0) ∙ ap Some came.2))
      ]

  pub index_more : Indexes names more also
  index_more = record { sound = new_sound; complete = new_complete }

-- ---- the built-ins

entries_more : (rows : List Row) (row : Row) → entries_of (rows ++ row ∷ []) ≡ entries_of rows ++ (key row.0.now row.1, row.2) ∷ []
entries_more [] row = refl
entries_more (r ∷ rows) row = ap (λ es. (key r.0.now r.1, r.2) ∷ es) (entries_more rows row)

among_more : (es : List (Key × BuiltIn)) (e : Key × BuiltIn) (k : Key) → option_map callee.BuiltIn (built_in_among (es ++ e ∷ []) k) ≡ option_or (option_map callee.BuiltIn (built_in_among es k)) (where_holds (same_key e.0 k) (callee.BuiltIn e.1))
among_more [] e k = grind arith
among_more (d ∷ es) e k = grind (arith, among_more es e k)

pub called_more : (rows : List Row) (row : Row) (k : Key) → callee_among (rows ++ row ∷ []) k ≡ option_or (callee_among rows k) (where_holds (same_key (key row.0.now row.1) k) (callee.BuiltIn row.2))
called_more rows row k = ap (λ es. option_map callee.BuiltIn (built_in_among es k)) (entries_more rows row) ∙ among_more (entries_of rows) (key row.0.now row.1, row.2) k
