-- Numbering names and finding keys.
use Rattle.std.proofs.Common.{◌≡◌, ◌≢◌, ℕ, zero, suc, ◌<◌, ◌+◌, Bool, true, false, not, ◌&&◌, ◌||◌, ◌==◌, List, [], ◌∷◌, ◌++◌, length, position, get_or, Option, Some, None, ⊎_elim, refl, sym, ap, ◌∙◌, subst, true≢false, arith, map, set, eq-eqb, String, Vec, if◌then◌else◌, option_map}
use Rattle.std.proofs.lemmas.Bool.Decides.{eqb_tells}
use Rattle.std.specs.Global.{Global}
use Rattle.std.specs.List.{list_any, position_or_len, slice_get}
use Rattle.std.specs.Option.{option_and_then, option_or}
use Rattle.std.specs.Str.{bytes_eq}
use Rattle.std.specs.String.{string_bytes, string_eq}
use Rattle.std.proofs.lemmas.Slice.Eq.{bytes_eq-Decides}
use Rattle.std.proofs.lemmas.Option.{none-some, same_Some}
use Rattle.std.proofs.lemmas.List.Quantifiers.{position-Some}
use Rattle.std.proofs.lemmas.List.{map-append, length-append, length-map}
use Rattle.std.proofs.Math.Seq.{map-set_same}
use Rattle.std.proofs.lemmas.List.Elements.{All-push, All-set}
use Rattle.indexmap.specs.IndexSet.{insert_key}
use Rattle.iso_db.specs.Keys.{Key, Heading, key, is_key, place_of, at_heading}
use Rattle.iso_db.specs.Indexes.{index_of, text_at, place_in, row_at, found, keys_of, headings_of, put_at, KeepsNames, IsIndex}
use Rattle.iso_db.specs.declared.places.Named.{Named}
use Rattle.iso_db.specs.declared.places.Functor.{Functor}

-- whether a name has this text
abbrev has : List ℕ → String Global → Bool
has text name = bytes_eq text (string_bytes name)

-- the first place with the text is its number
index_of-first : (names : List (String Global)) (text : List ℕ) (i : ℕ) (d : String Global) → i < length names → has text (get_or names i d) ≡ true → ((k : ℕ) → k < i → has text (get_or names k d) ≡ false) → index_of names text ≡ Some i
index_of-first [] text i d h t f = absurd (omega arith)
index_of-first (n ∷ ns) text zero d h t f = rw t refl
index_of-first (n ∷ ns) text (suc i) d h t f =
    let first : has text n ≡ false = f 0 (omega arith) in
    let rest : index_of ns text ≡ Some i = index_of-first ns text i d (omega arith) t (λ k l. f (suc k) (omega arith)) in
    rw first (ap (option_map suc) rest)

pub index_of-position : (names : List (String Global)) (text : List ℕ) (i : ℕ) → position (has text) names ≡ Some i → index_of names text ≡ Some i
index_of-position [] text i h = absurd (none-some i h)
index_of-position (n ∷ ns) text i h =
    let at = position-Some (has text) (n ∷ ns) i n h in
    index_of-first (n ∷ ns) text i n at.0 at.1 at.2

pub index_of-absent : (names : List (String Global)) (text : List ℕ) → list_any (has text) names ≡ false → index_of names text ≡ None
index_of-absent [] text h = refl
index_of-absent (n ∷ ns) text h =
    elim (has text n) as (λ b. b || list_any (has text) ns ≡ false → (if b then Some 0 else option_map suc (index_of ns text)) ≡ None) [
      | true ↦ λ e. absurd (true≢false e)
      | false ↦ λ e. ap (option_map suc) (index_of-absent ns text e)
    ] h

-- what is found under the number of a name
abbrev pub found_at : List (Vec Named Global) → ℕ → Option ℕ → Option ℕ
found_at rows arity i = option_and_then (λ j. place_in (row_at rows j) arity) i

found_at-suc : (r : Vec Named Global) (rs : List (Vec Named Global)) (arity : ℕ) (i : Option ℕ) → found_at (r ∷ rs) arity (option_map suc i) ≡ found_at rs arity i
found_at-suc r rs arity None = refl
found_at-suc r rs arity (Some j) = refl

-- a name that comes last, with an empty row, changes nothing that is found
pub found-new : (names : List (String Global)) (rows : List (Vec Named Global)) (n : String Global) (r : Vec Named Global) → length rows ≡ length names → r.items ≡ [] → (text : List ℕ) (arity : ℕ) → found (names ++ n ∷ []) (rows ++ r ∷ []) text arity ≡ found names rows text arity
found-new [] [] n r same empty text arity =
    elim (has text n) as (λ b. found_at (r ∷ []) arity (if b then Some 0 else None) ≡ None) [
      | true ↦ ap (λ row. place_in row arity) empty
      | false ↦ refl
    ]
found-new [] (q ∷ qs) n r same empty text arity = absurd (omega arith)
found-new (m ∷ ms) [] n r same empty text arity = absurd (omega arith)
found-new (m ∷ ms) (q ∷ qs) n r same empty text arity =
    elim (has text m) as (λ b. found_at (q ∷ (qs ++ r ∷ [])) arity (if b then Some 0 else option_map suc (index_of (ms ++ n ∷ []) text))
    ≡ found_at (q ∷ qs) arity (if b then Some 0 else option_map suc (index_of ms text))) [
      | true ↦ refl
      | false ↦ found_at-suc q (qs ++ r ∷ []) arity (index_of (ms ++ n ∷ []) text) ∙ found-new ms qs n r (omega arith) empty text arity ∙ sym (found_at-suc q qs arity (index_of ms text))
    ]

-- a new name's number is how many there were
pub index_of-new : (names : List (String Global)) (n : String Global) (text : List ℕ) → string_bytes n ≡ text → list_any (has text) names ≡ false → index_of (names ++ n ∷ []) text ≡ Some (length names)
index_of-new [] n text same fresh = rw ((bytes_eq-Decides text (string_bytes n)).1 (sym same)) refl
index_of-new (m ∷ ms) n text same fresh =
    elim (has text m) as (λ b. b || list_any (has text) ms ≡ false → (if b then Some 0 else option_map suc (index_of (ms ++ n ∷ []) text)) ≡ Some (suc (length ms))) [
      | true ↦ λ e. absurd (true≢false e)
      | false ↦ λ e. ap (option_map suc) (index_of-new ms n text same e)
    ] fresh

-- names before a new one keep their texts
pub text_at-new : (names : List (String Global)) (n : String Global) (i : ℕ) → i < length names → text_at (names ++ n ∷ []) i ≡ text_at names i
text_at-new [] n i h = absurd (omega arith)
text_at-new (m ∷ ms) n zero h = refl
text_at-new (m ∷ ms) n (suc i) h = text_at-new ms n i (omega arith)

-- a number is that of its text, and within
abbrev pub IsNumber : List (String Global) → List ℕ → ℕ → Type 0
IsNumber names text i = (text_at names i ≡ text) × (i < length names)

index_behind : (n : String Global) (ns : List (String Global)) (text : List ℕ) (i : ℕ) (o : Option ℕ) → ((j : ℕ) → o ≡ Some j → IsNumber ns text j) → option_map suc o ≡ Some i → IsNumber (n ∷ ns) text i
index_behind n ns text i None more e = absurd (none-some i e)
index_behind n ns text i (Some j) more e =
    let z : suc j ≡ i = same_Some (suc j) i e in
    let behind : IsNumber ns text j = more j refl in
    subst (IsNumber (n ∷ ns) text) z (behind.0, omega (arith, behind.1))

pub index_of-text : (names : List (String Global)) (text : List ℕ) (i : ℕ) → index_of names text ≡ Some i → IsNumber names text i
index_of-text [] text i h = absurd (none-some i h)
index_of-text (n ∷ ns) text i h =
    elim (has text n) as (λ b. has text n ≡ b → (if b then Some 0 else option_map suc (index_of ns text)) ≡ Some i → IsNumber (n ∷ ns) text i) [
      | true ↦ λ t e. let z : 0 ≡ i = same_Some 0 i e in
          subst (IsNumber (n ∷ ns) text) z (sym ((bytes_eq-Decides text (string_bytes n)).0 t), omega arith)
      | false ↦ λ t e. index_behind n ns text i (index_of ns text) (index_of-text ns text) e
    ] refl h

-- keys stay the same where names keep their numbers
pub keys_of-kept : (old new : List (String Global)) (keys : List Functor) → KeepsNames old new → ((k : ℕ) (d : Functor) → k < length keys → (get_or keys k d).name < length old) → keys_of new keys ≡ keys_of old keys
keys_of-kept old new [] kept named = refl
keys_of-kept old new (f ∷ fs) kept named =
    let first : text_at new f.name ≡ text_at old f.name = kept.texts f.name (named 0 f (omega arith)) in
    ap (λ t. key t f.arity ∷ keys_of new fs) first
    ∙ ap (λ ks. key (text_at old f.name) f.arity ∷ ks) (keys_of-kept old new fs kept (λ k d l. named (suc k) d (omega arith)))

-- and with the kinds of their procedures
pub headings_of-kept : (old new : List (String Global)) (keys : List Functor) → KeepsNames old new → ((k : ℕ) (d : Functor) → k < length keys → (get_or keys k d).name < length old) → headings_of new keys ≡ headings_of old keys
headings_of-kept old new [] kept named = refl
headings_of-kept old new (f ∷ fs) kept named =
    let first : text_at new f.name ≡ text_at old f.name = kept.texts f.name (named 0 f (omega arith)) in
    ap (λ t. record { key = key t f.arity; kind = f.kind } ∷ headings_of new fs) first
    ∙ ap (λ hs. record { key = key (text_at old f.name) f.arity; kind = f.kind } ∷ hs) (headings_of-kept old new fs kept (λ k d l. named (suc k) d (omega arith)))

-- the keys in the headings
pub keys_in-headings : (names : List (String Global)) (keys : List Functor) → map (λ (h : Heading). h.key) (headings_of names keys) ≡ keys_of names keys
keys_in-headings names [] = refl
keys_in-headings names (f ∷ fs) = ap (λ ks. key (text_at names f.name) f.arity ∷ ks) (keys_in-headings names fs)

pub length-headings : (names : List (String Global)) (keys : List Functor) → length (headings_of names keys) ≡ length keys
length-headings names keys = length-map keys (λ (f : Functor). let h : Heading = record { key = key (text_at names f.name) f.arity; kind = f.kind } in h)

pub kind_in-headings : (names : List (String Global)) (keys : List Functor) (place : ℕ) → option_and_then (λ (h : Heading). h.kind) (slice_get (headings_of names keys) place) ≡ option_and_then (λ (f : Functor). f.kind) (slice_get keys place)
kind_in-headings names [] place = refl
kind_in-headings names (f ∷ fs) zero = refl
kind_in-headings names (f ∷ fs) (suc place) = kind_in-headings names fs place

-- rows after one was written
pub row_at-set-same : (rows : List (Vec Named Global)) (i : ℕ) (r : Vec Named Global) → i < length rows → row_at (set rows i r) i ≡ r.items
row_at-set-same [] i r h = absurd (omega arith)
row_at-set-same (q ∷ qs) zero r h = refl
row_at-set-same (q ∷ qs) (suc i) r h = row_at-set-same qs i r (omega arith)

pub row_at-set-other : (rows : List (Vec Named Global)) (i j : ℕ) (r : Vec Named Global) → j ≢ i → row_at (set rows i r) j ≡ row_at rows j
row_at-set-other [] i j r h = refl
row_at-set-other (q ∷ qs) zero zero r h = absurd (h refl)
row_at-set-other (q ∷ qs) zero (suc j) r h = refl
row_at-set-other (q ∷ qs) (suc i) zero r h = refl
row_at-set-other (q ∷ qs) (suc i) (suc j) r h = row_at-set-other qs i j r (omega arith)

pub row_at-get_or : (rows : List (Vec Named Global)) (i : ℕ) (d : Vec Named Global) → i < length rows → row_at rows i ≡ (get_or rows i d).items
row_at-get_or [] i d h = absurd (omega arith)
row_at-get_or (q ∷ qs) zero d h = refl
row_at-get_or (q ∷ qs) (suc i) d h = row_at-get_or qs i d (omega arith)

-- the rows where one was written over
pub rows-written : (rows : List (Vec Named Global)) (i : ℕ) (old r : Vec Named Global) → i < length rows → old ≡ get_or rows i old → (row : List Named) → r.items ≡ row → (j : ℕ) → row_at (set rows i r) j ≡ (if j == i then row else row_at rows j)
rows-written rows i old r within was row is j =
    ⊎_elim
    (λ e. rw e.0 (subst (λ k. row_at (set rows i r) k ≡ row) (sym e.1) (row_at-set-same rows i r within ∙ is)))
    (λ e. rw e.0 (row_at-set-other rows i j r e.1))
    (eqb_tells j i)

-- what is in a row behind which one more was put
pub place_in-push : (row : List Named) (n : Named) (arity : ℕ) → place_in (row ++ n ∷ []) arity ≡ option_or (place_in row arity) (if n.arity == arity then Some n.place else None)
place_in-push [] n arity = refl
place_in-push (m ∷ ms) n arity =
    elim (m.arity == arity) as (λ b. (if b then Some m.place else place_in (ms ++ n ∷ []) arity) ≡ option_or (if b then Some m.place else place_in ms arity) (if n.arity == arity then Some n.place else None)) [
      | true ↦ refl
      | false ↦ place_in-push ms n arity
    ]

-- the place of a key among those behind which one more was put
pub place_of-push : (ks : List Key) (k : Key) (name : List ℕ) (arity : ℕ) → place_of (ks ++ k ∷ []) name arity ≡ option_or (place_of ks name arity) (if is_key name arity k then Some (length ks) else None)
place_of-push [] k name arity = refl
place_of-push (q ∷ qs) k name arity =
    elim (is_key name arity q) as (λ b. (if b then Some 0 else option_map suc (place_of (qs ++ k ∷ []) name arity)) ≡ option_or (if b then Some 0 else option_map suc (place_of qs name arity)) (if is_key name arity k then Some (suc (length qs)) else None)) [
      | true ↦ refl
      | false ↦ ap (option_map suc) (place_of-push qs k name arity) ∙ inner (place_of qs name arity) (is_key name arity k)
    ]
  where
    inner : (o : Option ℕ) (b : Bool) → option_map suc (option_or o (if b then Some (length qs) else None)) ≡ option_or (option_map suc o) (if b then Some (suc (length qs)) else None)
    inner None true = refl
    inner None false = refl
    inner (Some i) b = refl

-- what is found once a row has one more
pub found-put : (names : List (String Global)) (rows more : List (Vec Named Global)) (i : ℕ) (n : Named) (name : List ℕ) → index_of names name ≡ Some i → ((j : ℕ) → row_at more j ≡ put_at i n j (row_at rows j))
    → (text : List ℕ) (arity : ℕ) → found names more text arity ≡ option_or (found names rows text arity) (if bytes_eq text name && n.arity == arity then Some n.place else None)
found-put names rows more i n name is put text arity =
    elim (bytes_eq text name) as (λ b. bytes_eq text name ≡ b → found_at more arity (index_of names text) ≡ option_or (found_at rows arity (index_of names text)) (if b && n.arity == arity then Some n.place else None)) [
      | true ↦ λ e. let same : index_of names text ≡ Some i = ap (index_of names) ((bytes_eq-Decides text name).0 e) ∙ is in rw same here
      | false ↦ λ e. elsewhere (index_of names text) refl e
    ] refl
  where
    here : place_in (row_at more i) arity ≡ option_or (place_in (row_at rows i) arity) (if n.arity == arity then Some n.place else None)
    here = ap (λ r. place_in r arity) (put i ∙ ap (λ b. if b then row_at rows i ++ n ∷ [] else row_at rows i) (eq-eqb i i refl)) ∙ place_in-push (row_at rows i) n arity

    no_more : (o : Option ℕ) → o ≡ option_or o None
    no_more None = refl
    no_more (Some j) = refl

    elsewhere : (o : Option ℕ) → index_of names text ≡ o → bytes_eq text name ≡ false → found_at more arity o ≡ option_or (found_at rows arity o) None
    elsewhere None at e = refl
    elsewhere (Some j) at e =
        ⊎_elim
        (λ q. absurd (true≢false (sym ((bytes_eq-Decides text name).1 (sym (index_of-text names text j at).0 ∙ ap (text_at names) q.1 ∙ (index_of-text names name i is).0)) ∙ e)))
        (λ q. ap (λ r. place_in r arity) (put j ∙ ap (λ b. if b then row_at rows j ++ n ∷ [] else row_at rows j) q.0) ∙ no_more (place_in (row_at rows j) arity))
        (eqb_tells j i)

-- names behind which one came
pub KeepsNames-new : (old new : List (String Global)) (n : String Global) → new ≡ old ++ n ∷ [] → KeepsNames old new
KeepsNames-new old new n is = record {
  longer = rw (is, length-append) (omega arith);
  texts = λ i h. ap (λ ns. text_at ns i) is ∙ text_at-new old n i h;
}

-- the names after an insert of a new one
pub inserted : (old new : List (String Global)) (n : String Global) (text : List ℕ) → string_bytes n ≡ text → list_any (has text) old ≡ false → new ≡ insert_key string_eq old n → new ≡ old ++ n ∷ []
inserted old new n text same fresh is =
    let unknown : list_any (string_eq n) old ≡ false = ap (λ t. list_any (λ k. bytes_eq t (string_bytes k)) old) same ∙ fresh in
    is ∙ ap (λ b. if b then old else old ++ n ∷ []) unknown

-- an index once a new key was put behind the others
pub IsIndex-put : (names : List (String Global)) (rows more : List (Vec Named Global)) (keys : List Functor) (name : List ℕ) (i arity : ℕ) → IsIndex names rows keys → index_of names name ≡ Some i → length more ≡ length rows
    → ((j : ℕ) → row_at more j ≡ put_at i (record { arity = arity; place = length keys }) j (row_at rows j)) → IsIndex names more (keys ++ record { name = i; arity = arity; kind = None } ∷ [])
IsIndex-put names rows more keys name i arity index is same put = record {
  rows_of_names = same ∙ index.rows_of_names;
  named = λ k d h. named k d h;
  finds = λ text a. found-put names rows more i n name is put text a ∙ ap (λ o. option_or o (if bytes_eq text name && arity == a then Some (length keys) else None)) (index.finds text a) ∙ sym (placed text a);
}
  where
    n : Named
    n = record { arity = arity; place = length keys }

    f : Functor
    f = record { name = i; arity = arity; kind = None }

    placed : (text : List ℕ) (a : ℕ) → place_of (keys_of names (keys ++ f ∷ [])) text a ≡ option_or (place_of (keys_of names keys) text a) (if bytes_eq text name && arity == a then Some (length keys) else None)
    placed text a =
        ap (λ ks. place_of ks text a) (map-append (λ g. key (text_at names g.name) g.arity) keys (f ∷ []))
        ∙ place_of-push (keys_of names keys) (key (text_at names i) arity) text a
        ∙ ap (λ t. option_or (place_of (keys_of names keys) text a) (if bytes_eq text t && arity == a then Some (length (keys_of names keys)) else None)) (index_of-text names name i is).0
        ∙ ap (λ l. option_or (place_of (keys_of names keys) text a) (if bytes_eq text name && arity == a then Some l else None)) (length-map keys (λ g. key (text_at names g.name) g.arity))

    named : (k : ℕ) (d : Functor) → k < length (keys ++ f ∷ []) → (get_or (keys ++ f ∷ []) k d).name < length names
    named k d h = All-push (λ g. g.name < length names) keys f index.named (index_of-text names name i is).1 k d h

-- an index whose names grew alone
pub IsIndex-kept : (old new : List (String Global)) (rows more : List (Vec Named Global)) (keys : List Functor) → IsIndex old rows keys → KeepsNames old new → length more ≡ length new
    → ((text : List ℕ) (arity : ℕ) → found new more text arity ≡ found old rows text arity) → IsIndex new more keys
IsIndex-kept old new rows more keys index kept same found = record {
  rows_of_names = same;
  named = λ k d h. omega (arith, index.named k d h, kept.longer);
  finds = λ text arity. found text arity ∙ index.finds text arity ∙ ap (λ ks. place_of ks text arity) (sym (keys_of-kept old new keys kept index.named));
}

-- the headings behind which that of an absent procedure came
pub headings_of-put : (old new : List (String Global)) (keys more : List Functor) (name : List ℕ) (i arity : ℕ) → KeepsNames old new → ((k : ℕ) (d : Functor) → k < length keys → (get_or keys k d).name < length old) → index_of new name ≡ Some i
    → more ≡ keys ++ record { name = i; arity = arity; kind = None } ∷ [] → headings_of new more ≡ headings_of old keys ++ record { key = key name arity; kind = None } ∷ []
headings_of-put old new keys more name i arity kept named is put =
    let f : Functor = record { name = i; arity = arity; kind = None } in
    ap (headings_of new) put ∙ map-append (λ (g : Functor). let h : Heading = record { key = key (text_at new g.name) g.arity; kind = g.kind } in h) keys (f ∷ [])
    ∙ ap (λ hs. hs ++ record { key = key (text_at new i) arity; kind = None } ∷ []) (headings_of-kept old new keys kept named)
    ∙ ap (λ t. headings_of old keys ++ record { key = key t arity; kind = None } ∷ []) (index_of-text new name i is).0

-- a key whose procedure got another kind
pub keys_of-kind : (names : List (String Global)) (keys : List Functor) (place : ℕ) (f d : Functor) → f.name ≡ (get_or keys place d).name → f.arity ≡ (get_or keys place d).arity → keys_of names (set keys place f) ≡ keys_of names keys
keys_of-kind names keys place f d name arity = map-set_same (λ (g : Functor). key (text_at names g.name) g.arity) keys place f d (ap (λ n. key (text_at names n) f.arity) name ∙ ap (λ a. key (text_at names (get_or keys place d).name) a) arity)

pub headings_of-kind : (names : List (String Global)) (keys : List Functor) (place : ℕ) (f d : Functor) (change : Heading → Heading)
    → ◌≡◌ {A = Heading} (record { key = key (text_at names f.name) f.arity; kind = f.kind }) (change (record { key = key (text_at names (get_or keys place d).name) (get_or keys place d).arity; kind = (get_or keys place d).kind }))
    → headings_of names (set keys place f) ≡ at_heading place change (headings_of names keys)
headings_of-kind names [] place f d change is = refl
headings_of-kind names (g ∷ gs) zero f d change is = ap (λ h. h ∷ headings_of names gs) is
headings_of-kind names (g ∷ gs) (suc place) f d change is = ap (λ hs. record { key = key (text_at names g.name) g.arity; kind = g.kind } ∷ hs) (headings_of-kind names gs place f d change is)

pub IsIndex-kind : (names : List (String Global)) (rows : List (Vec Named Global)) (keys : List Functor) (place : ℕ) (f d : Functor) → place < length keys → f.name ≡ (get_or keys place d).name → f.arity ≡ (get_or keys place d).arity → IsIndex names rows keys
    → IsIndex names rows (set keys place f)
IsIndex-kind names rows keys place f d within name arity index = record {
  rows_of_names = index.rows_of_names;
  named = All-set (λ g. g.name < length names) keys place f (omega (arith, name, index.named place d within)) index.named;
  finds = λ text a. index.finds text a ∙ ap (λ ks. place_of ks text a) (sym (keys_of-kind names keys place f d name arity));
}

-- where a test fails throughout, its first place is behind the end
pub position_or_len-absent : (names : List (String Global)) (n : String Global) → list_any (string_eq n) names ≡ false → position_or_len (string_eq n) names ≡ length names
position_or_len-absent [] n h = refl
position_or_len-absent (m ∷ ms) n h =
    elim (string_eq n m) as (λ b. b || list_any (string_eq n) ms ≡ false → (if not b then 1 + position_or_len (string_eq n) ms else 0) ≡ suc (length ms)) [
      | true ↦ λ e. absurd (true≢false e)
      | false ↦ λ e. omega (arith, position_or_len-absent ms n e)
    ] h

pub absent_string : (names : List (String Global)) (n : String Global) (text : List ℕ) → string_bytes n ≡ text → list_any (has text) names ≡ false → list_any (string_eq n) names ≡ false
absent_string names n text same fresh = ap (λ t. list_any (λ k. bytes_eq t (string_bytes k)) names) same ∙ fresh

-- a row written over by one of the same entries
pub rows-same : (rows : List (Vec Named Global)) (i : ℕ) (old r : Vec Named Global) → i < length rows → old ≡ get_or rows i old → r.items ≡ old.items → (j : ℕ) → row_at (set rows i r) j ≡ row_at rows j
rows-same rows i old r within was is j =
    rows-written rows i old r within was (row_at rows i) (is ∙ ap (λ v. v.items) was ∙ sym (row_at-get_or rows i old within)) j
    ∙ ⊎_elim (λ e. rw e.0 (ap (row_at rows) (sym e.1))) (λ e. rw e.0 refl) (eqb_tells j i)

-- a row written over by one with one more
pub rows-more : (rows : List (Vec Named Global)) (i : ℕ) (old r : Vec Named Global) (n : Named) → i < length rows → old ≡ get_or rows i old → r.items ≡ old.items ++ n ∷ [] → (j : ℕ) → row_at (set rows i r) j ≡ put_at i n j (row_at rows j)
rows-more rows i old r n within was is j =
    rows-written rows i old r within was (row_at rows i ++ n ∷ []) (is ∙ ap (λ es. es ++ n ∷ []) (ap (λ v. v.items) was ∙ sym (row_at-get_or rows i old within))) j
    ∙ ⊎_elim (λ e. rw e.0 (ap (λ k. row_at rows k ++ n ∷ []) (sym e.1))) (λ e. rw e.0 refl) (eqb_tells j i)

-- a name that has no number is found nowhere
pub found-absent : (names : List (String Global)) (rows : List (Vec Named Global)) (text : List ℕ) (arity : ℕ) → list_any (has text) names ≡ false → found names rows text arity ≡ None
found-absent names rows text arity h = ap (found_at rows arity) (index_of-absent names text h)

-- rows of the same entries
pub found-same : (names : List (String Global)) (rows more : List (Vec Named Global)) → ((i : ℕ) → row_at more i ≡ row_at rows i) → (text : List ℕ) (arity : ℕ) → found names more text arity ≡ found names rows text arity
found-same names rows more same text arity = at (index_of names text)
  where
    at : (o : Option ℕ) → found_at more arity o ≡ found_at rows arity o
    at None = refl
    at (Some i) = ap (λ r. place_in r arity) (same i)
