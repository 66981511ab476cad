-- Look-ups among the entries of a table, and writes to them, as the operators that they are.
use Rattle.std.proofs.Common.{◌≡◌, ℕ, ◌<◌, List, [], ◌∷◌, ◌++◌, length, map, position, slice_get, get_or, set, Option, Some, None, refl, sym, ap, subst, ◌∙◌}
use Rattle.std.specs.List.{remove}
use Rattle.std.specs.Option.{option_map}
use Rattle.std.specs.String.{string_bytes}
use Rattle.std.proofs.lemmas.List.{length-map, map-set, map-append, take-map, drop-map}
use Rattle.std.proofs.lemmas.Option.{slice_get-map, slice_get-get_or}
use Rattle.iso_ops.specs.declared.specifiers.Spec.{Spec}
use Rattle.iso_ops.specs.declared.specifiers.Kind.{Kind}
use Rattle.iso_ops.specs.declared.table.Entry.{Entry}
use Rattle.iso_ops.specs.Specifiers.{kind_of}
use Rattle.iso_ops.specs.Operators.{operator, is_for, find_op, with_op, without_op}
use Rattle.iso_ops.specs.Entries.{operator_of}
use Rattle.iso_ops.specs.InitialOperators.{row_of}
use Rattle.iso_ops.proofs.PlaceLemmas.{IsFirst, IsFirst-within, IsFirst-passes, IsFirst-position, find-at, find-position_none, position-map}
use Rattle.iso_ops.proofs.TableLemmas.{is_for-parts, with_op-at, with_op-new, without_op-at, without_op-none}

-- the place of an entry, as the look-up of the code has it
abbrev pub entry_place : Kind → List ℕ → List Entry → Option ℕ
entry_place kind name entries = position (λ entry. is_for kind name (operator_of entry)) entries

module _ (kind : Kind) (name : List ℕ) (entries : List Entry) where
  first_place : (i : ℕ) → entry_place kind name entries ≡ Some i → IsFirst (is_for kind name) (map operator_of entries) i
  first_place i h = IsFirst-position (is_for kind name) (map operator_of entries) i (position-map operator_of (is_for kind name) entries ∙ h)

  at_place : (i : ℕ) (entry : Entry) → entry_place kind name entries ≡ Some i → entry ≡ get_or entries i entry → slice_get (map operator_of entries) i ≡ Some (operator_of entry)
  at_place i entry h at =
      let within : i < length entries = subst (λ n. i < n) (length-map entries operator_of) (IsFirst-within (is_for kind name) (map operator_of entries) i (first_place i h)) in
      slice_get-map operator_of entries i ∙ ap (option_map operator_of) (slice_get-get_or entries i entry within ∙ ap Some (sym at))

  -- where no place is found, no operator is
  pub find_op-nowhere : entry_place kind name entries ≡ None → find_op kind name (map operator_of entries) ≡ None
  find_op-nowhere h = find-position_none (is_for kind name) (map operator_of entries) (position-map operator_of (is_for kind name) entries ∙ h)

  -- the operator is the entry at the place
  pub find_op-entry : (i : ℕ) (entry : Entry) → entry_place kind name entries ≡ Some i → entry ≡ get_or entries i entry → find_op kind name (map operator_of entries) ≡ Some (operator_of entry)
  find_op-entry i entry h at = find-at (is_for kind name) (map operator_of entries) i (first_place i h) ∙ at_place i entry h at

  -- the entry at the place has the name
  pub name-entry : (i : ℕ) (entry : Entry) → entry_place kind name entries ≡ Some i → entry ≡ get_or entries i entry → string_bytes entry.name ≡ name
  name-entry i entry h at =
      let passes = IsFirst-passes (is_for kind name) (map operator_of entries) i (operator_of entry) (first_place i h) (at_place i entry h at) in
      sym (is_for-parts kind name (operator_of entry) passes).1

  -- without the entry at the place
  pub without_op-entry : (i : ℕ) → entry_place kind name entries ≡ Some i → map operator_of (remove entries i) ≡ without_op kind name (map operator_of entries)
  without_op-entry i h = map-remove ∙ sym (without_op-at kind name (map operator_of entries) i (first_place i h))
    where
      map-remove : map operator_of (remove entries i) ≡ remove (map operator_of entries) i
      map-remove = rw (map-append, take-map, drop-map) refl

  pub without_op-nowhere : entry_place kind name entries ≡ None → map operator_of entries ≡ without_op kind name (map operator_of entries)
  without_op-nowhere h = sym (without_op-none kind name (map operator_of entries) (find_op-nowhere h))

module _ (priority : ℕ) (spec : Spec) (name : List ℕ) (entries : List Entry) where
  -- with the entry at the place redefined
  pub with_op-entry : (i : ℕ) (entry : Entry) → entry_place (kind_of spec) name entries ≡ Some i → entry ≡ get_or entries i entry → map operator_of (set entries i (record { priority = priority; spec = spec; name = entry.name })) ≡ with_op (operator priority spec name) (map operator_of entries)
  with_op-entry i entry h at =
      map-set operator_of entries i (record { priority = priority; spec = spec; name = entry.name })
      ∙ ap (λ text. set (map operator_of entries) i (operator priority spec text)) (name-entry (kind_of spec) name entries i entry h at)
      ∙ sym (with_op-at (operator priority spec name) (map operator_of entries) i (first_place (kind_of spec) name entries i h))

  -- with a new entry
  pub with_op-last : entry_place (kind_of spec) name entries ≡ None → map operator_of entries ++ row_of priority spec (name ∷ []) ≡ with_op (operator priority spec name) (map operator_of entries)
  with_op-last h = sym (with_op-new (operator priority spec name) (map operator_of entries) (find_op-nowhere (kind_of spec) name entries h))
