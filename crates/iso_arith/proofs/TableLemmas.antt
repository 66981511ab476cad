-- Tables of operations: an entry is found by its atom where it would be found by its name.
use Rattle.std.proofs.Common.{◌≡◌, ◌<◌, ◌+◌, ℕ, List, [], ◌∷◌, ◌++◌, length, map, take, drop, get_or, Some, true, false, eqb, refl, sym, ap, ap₂, ◌∙◌, subst, add-one, drop-cons}
use Rattle.std.specs.List.{slice_get}
use Rattle.std.specs.Str.{bytes_eq}
use Rattle.std.specs.Borrow.{Bor}
use Rattle.std.proofs.lemmas.Option.{slice_get_within, slice_get-get_or}
use Rattle.std.proofs.lemmas.Bool.{eqb-true}
use Rattle.std.proofs.lemmas.Bool.Decides.{same_from_decides, Decides-eqb}
use Rattle.std.proofs.lemmas.Slice.Eq.{bytes_eq-Decides}
use Rattle.std.proofs.lemmas.List.{map-append, take_more}
use Rattle.std.proofs.lemmas.List.Elements.{All-get_or, All-head, All-tail, All-push, All-weaker}
use Rattle.iso_atoms.specs.Texts.{EachOnce, KeepsTexts, text_at}
use Rattle.iso_store_core.proofs.AtomLemmas.{text-kept, atom-kept, text-is}
use Rattle.iso_model.specs.Search.Arithmetic.{among}
use Rattle.iso_arith.specs.Tables.{IsTable, HaveNames, named_by, rows_of}

-- atoms are equal exactly where their names are
pub same_names : (names : List (List ℕ)) → EachOnce names → (a b : ℕ) → a < length names → b < length names → bytes_eq (text_at names a) (text_at names b) ≡ eqb a b
same_names names once a b h k =
    same_from_decides (bytes_eq (text_at names a) (text_at names b)) (eqb a b) (bytes_eq-Decides (text_at names a) (text_at names b))
    ((λ yes. ap (text_at names) (eqb-true a b yes)), (λ same. (Decides-eqb a b).1 (once.one_place a b (text_at names b) (slice_get-get_or names a [] h ∙ ap Some same) (slice_get-get_or names b [] k))))

module _ {O : Type 0} where
  -- ---- a table that is made

  pub names_kept : (old new : List (List ℕ)) → KeepsTexts old new → (table : List (ℕ × O)) → HaveNames old table → map (named_by new) table ≡ map (named_by old) table
  names_kept old new keeps [] h = refl
  names_kept old new keeps (e ∷ es) h =
      let head : (ℕ × O) → Type 0 = λ x. x.0 < length old in
      ap₂ (λ (t : List ℕ) (ts : List (List ℕ × O)). (t, e.1) ∷ ts) (text-kept old new keeps e.0 (All-head head e es h)) (names_kept old new keeps es (All-tail head e es h))

  pub within_kept : (old new : List (List ℕ)) → KeepsTexts old new → (table : List (ℕ × O)) → HaveNames old table → HaveNames new table
  within_kept old new keeps table h = All-weaker (λ (e : ℕ × O). e.0 < length old) (λ (e : ℕ × O). e.0 < length new) (λ e. atom-kept old new keeps e.0) table h

  -- names may come
  pub table-kept : (old new : List (List ℕ)) → KeepsTexts old new → (table : List (ℕ × O)) (rows : List (List ℕ × O)) → IsTable old table rows → IsTable new table rows
  table-kept old new keeps table rows h = record {
    within = within_kept old new keeps table h.within;
    named = names_kept old new keeps table h.within ∙ h.named;
  }

  -- a row comes
  pub table-more : (names : List (List ℕ)) (table : List (ℕ × O)) (rows : List (List ℕ × O)) (a : ℕ) (text : List ℕ) (o : O) → IsTable names table rows → slice_get names a ≡ Some text
      → IsTable names (table ++ (a, o) ∷ []) (rows ++ (text, o) ∷ [])
  table-more names table rows a text o h is = record {
    within = All-push (λ (e : ℕ × O). e.0 < length names) table (a, o) h.within (slice_get_within names a text is);
    named = map-append (named_by names) table ((a, o) ∷ []) ∙ ap₂ (λ (xs ys : List (List ℕ × O)). xs ++ ys) h.named (ap (λ (t : List ℕ). (t, o) ∷ []) (text-is names a text is));
  }

  -- the rows up to one more
  pub rows-more : (rows : List (Bor (List ℕ) × O)) (i : ℕ) (r : Bor (List ℕ) × O) → i < length rows → r ≡ get_or rows i r → rows_of (take (i + 1) rows) ≡ rows_of (take i rows) ++ (r.0.now, r.1) ∷ []
  rows-more rows i r h is =
      let each : (Bor (List ℕ) × O) → List ℕ × O = λ x. (x.0.now, x.1) in
      ap (map each) (take_more rows i r h) ∙ map-append each (take i rows) (get_or rows i r ∷ []) ∙ ap (λ (x : Bor (List ℕ) × O). map each (take i rows) ++ each x ∷ []) (sym is)

  pub table-rows : (names : List (List ℕ)) (table other : List (ℕ × O)) (rows others : List (List ℕ × O)) → table ≡ other → rows ≡ others → IsTable names other others → IsTable names table rows
  table-rows names table other rows others same alike h = rw (same, alike) h

  -- ---- a table that is looked through

  module _ (names : List (List ℕ)) (table : List (ℕ × O)) (i : ℕ) (e : ℕ × O) (name : ℕ) (once : EachOnce names) (named : HaveNames names table) (here : name < length names) (below : i < length table) (is : e ≡ get_or table i e) where
    next_entry : drop i table ≡ e ∷ drop (i + 1) table
    next_entry = drop-cons table i e below ∙ ap₂ (λ (x : ℕ × O) (xs : List (ℕ × O)). x ∷ xs) (sym is) (ap (λ k. drop k table) (sym (add-one i)))

    compared : bytes_eq (text_at names e.0) (text_at names name) ≡ eqb e.0 name
    compared = same_names names once e.0 name (subst (λ (x : ℕ × O). x.0 < length names) (sym is) (All-get_or (λ (x : ℕ × O). x.0 < length names) table i e below named)) here

    pub found : eqb e.0 name ≡ true → among (map (named_by names) (drop i table)) (text_at names name) ≡ Some e.1
    found same = rw (next_entry, compared, same) refl

    pub passed : eqb e.0 name ≡ false → among (map (named_by names) (drop (i + 1) table)) (text_at names name) ≡ among (map (named_by names) (drop i table)) (text_at names name)
    passed apart = rw (next_entry, compared, apart) refl
