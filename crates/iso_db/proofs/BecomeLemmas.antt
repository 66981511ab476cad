-- What a call makes of the database as it is kept.
use Rattle.std.proofs.Common.{◌≡◌, ℕ, ◌<◌, true, List, [], ◌∷◌, length, get_or, Option, Some, None, is_some, refl, sym, ap, ◌∙◌, subst, true≢false, arith, zero, suc, Bool, false, ◌||◌, ◌==◌, map, filter, option_map}
use Rattle.std.specs.List.{slice_get, All, list_any}
use Rattle.std.specs.Option.{option_and_then}
use Rattle.std.proofs.lemmas.Option.{same_Some, slice_get-get_or}
use Rattle.iso_db.specs.Keys.{Heading, at_heading}
use Rattle.iso_clauses.specs.Clauses.{Clause}
use Rattle.iso_db.specs.Databases.{Database, Procedure, one_less, without_clause, at_place, without_procedure}
use Rattle.iso_clauses.specs.Blocks.{Ids, Kept, ids}
use Rattle.iso_clauses.specs.declared.slots.Label.{Label}
use Rattle.iso_clauses.specs.declared.slots.Slot.{Slot}
use Rattle.iso_clauses.specs.declared.views.View.{View}
use Rattle.iso_clauses.specs.Slots.{clause_at, procedure_of, given, given_by, procedure_at, IsCounted, Removes, Clears}
use Rattle.iso_db.specs.Shown.{shown, shown_by}
use Rattle.iso_clauses.specs.Kept.{IsKept, Giving, Tidies, lists, Owns}
use Rattle.iso_clauses.proofs.LabelLemmas.{filter_map-agree, Owns-ids}
use Rattle.iso_clauses.proofs.AddLemmas.{block_of-last}
use Rattle.iso_clauses.proofs.GivingLemmas.{Giving-kept, Grown-same}
use Rattle.iso_db.proofs.KeptLemmas.{shown-agree, shown-heading, shown-same, length-at_heading}
use Rattle.iso_db.proofs.PlaceLemmas.{shown_within}
use Rattle.iso_clauses.proofs.RemoveLemmas.{or_true, other, given-removed, Remembers-removed, IsKept-removed, has_number, any-given, none-given}
use Rattle.iso_clauses.proofs.ClearLemmas.{any-all, given-cleared, Remembers-cleared, IsKept-cleared}

module _ {C : Type 0} where
  -- the database that is kept so
  abbrev pub database : List (Slot C) → ℕ → List Heading → List Kept → Database C
  database slots r heads entries = record { procedures = shown slots r heads entries; added = length slots }

  -- A database as it is kept has changed; views go on to give what they gave.
  pub record Becomes (slots : List (Slot C)) (r : ℕ) (more : List (Slot C)) (q : ℕ) (heads titles : List Heading) (entries others : List Kept) (change : Database C → Database C) : Type 0 where
    pub kept : IsKept procedure_of more q (length titles) others
    pub shows : database more q titles others ≡ change (database slots r heads entries)
    pub gives : (v : View) (cs : List (Clause C)) → Giving slots r entries v cs → Giving more q others v cs

  -- what tidying asks, over a slice of the slots
  pub tidiable : {slots more slice : List (Slot C)} {r q : ℕ} {heads titles : List Heading} {entries others : List Kept} {change : Database C → Database C} → Becomes slots r more q heads titles entries others change → slice ≡ more → (of : Label → ℕ) × (size : ℕ) × IsKept of slice q size others
  tidiable {q = q} {titles = titles} {others = others} becomes is = (procedure_of, length titles, subst (λ (ss : List (Slot C)). IsKept procedure_of ss q (length titles) others) (sym is) becomes.kept)

  -- the same change once it is tidied
  pub Becomes-tidied : {slots more slice : List (Slot C)} {r q : ℕ} {heads titles : List Heading} {entries others tidy : List Kept} {change : Database C → Database C} → Becomes slots r more q heads titles entries others change → slice ≡ more → Tidies procedure_of slice q others tidy → Becomes slots r more q heads titles entries tidy change
  Becomes-tidied {more = more} {q = q} {titles = titles} {others = others} {tidy = tidy} becomes is over =
      let tidies : Tidies procedure_of more q others tidy = subst (λ (ss : List (Slot C)). Tidies procedure_of ss q others tidy) is over in
      record {
        kept = tidies.kept (length titles) becomes.kept;
        shows = ap (λ ps. let d : Database C = record { procedures = ps; added = length more } in d)
            (shown-agree more q titles others tidy becomes.kept.same (sym becomes.kept.same ∙ (tidies.kept (length titles) becomes.kept).same) (tidies.shows (length titles) becomes.kept)) ∙ becomes.shows;
        gives = λ v cs gives. tidies.gives (length titles) becomes.kept v cs (becomes.gives v cs gives);
      }

  -- the procedures where slots give other clauses
  pub shown-map : (slots more : List (Slot C)) (r q : ℕ) (heads : List Heading) (entries : List Kept) (f : List (Clause C) → List (Clause C)) → ((ns : List ℕ) → given more q ns ≡ f (given slots r ns))
      → shown more q heads entries ≡ map (λ (p : Procedure C). record p { clauses = f p.clauses }) (shown slots r heads entries)
  shown-map slots more r q [] entries f is = refl
  shown-map slots more r q (k ∷ ks) [] f is = refl
  shown-map slots more r q (k ∷ ks) (e ∷ es) f is =
      ap (λ cs. let p : Procedure C = record { key = k.key; kind = k.kind; clauses = cs } in p ∷ shown more q ks es) (is (ids e.current))
      ∙ ap (λ ps. let p : Procedure C = record { key = k.key; kind = k.kind; clauses = f (given slots r (ids e.current)) } in p ∷ ps) (shown-map slots more r q ks es f is)

  shown-removed : (number : ℕ) (slots : List (Slot C)) (r : ℕ) (more : List (Slot C)) (q : ℕ) (heads : List Heading) (entries : List Kept) → Removes number slots r more q → shown more q heads entries ≡ map (one_less number) (shown slots r heads entries)
  shown-removed number slots r more q heads entries removes = shown-map slots more r q heads entries (filter (other number)) (given-removed number slots r more q removes)

  -- a database without a clause
  pub Becomes-removed : {number : ℕ} {slots more : List (Slot C)} {r q : ℕ} {heads : List Heading} {entries : List Kept} → IsKept procedure_of slots r (length heads) entries → Removes number slots r more q → IsCounted more q → Becomes slots r more q heads heads entries entries (without_clause number)
  Becomes-removed {number = number} {slots = slots} {more = more} {r = r} {q = q} {heads = heads} {entries = entries} kept removes counted = record {
    kept = IsKept-removed procedure_of number slots r more q (length heads) entries kept removes counted;
    shows = ap (λ (ps : List (Procedure C)). let d : Database C = record { procedures = ps; added = length more } in d) (shown-removed number slots r more q heads entries removes)
        ∙ ap (λ (n : ℕ). let d : Database C = record { procedures = map (one_less number) (shown slots r heads entries); added = n } in d) removes.size;
    gives = Giving-kept procedure_of slots r (length heads) entries more q entries kept (Remembers-removed number slots r more q removes) (Grown-same entries);
  }

  -- whether a clause of this number is shown
  abbrev pub has_shown : ℕ → List (Procedure C) → Bool
  has_shown number ps = list_any (λ p. has_number number p.clauses) ps

  any-shown : (slots : List (Slot C)) (r : ℕ) (heads : List Heading) (entries : List Kept) (number place : ℕ) → length heads ≡ length entries → is_some (clause_at slots r number) ≡ true → lists (slice_get entries place) number ≡ true
      → has_shown number (shown slots r heads entries) ≡ true
  any-shown slots r [] [] number place same there h = h
  any-shown slots r [] (e ∷ es) number place same there h = absurd (omega arith)
  any-shown slots r (k ∷ ks) [] number place same there h = absurd (omega arith)
  any-shown slots r (k ∷ ks) (e ∷ es) number zero same there h = ap (λ b. b || has_shown number (shown slots r ks es)) (any-given slots r number (ids e.current) there h)
  any-shown slots r (k ∷ ks) (e ∷ es) number (suc place) same there h =
      ap (λ b. has_number number (given slots r (ids e.current)) || b) (any-shown slots r ks es number place (omega arith) there h) ∙ or_true (has_number number (given slots r (ids e.current)))

  none-shown : (slots : List (Slot C)) (r : ℕ) (heads : List Heading) (entries : List Kept) (number : ℕ) → is_some (clause_at slots r number) ≡ false → has_shown number (shown slots r heads entries) ≡ false
  none-shown slots r [] entries number gone = refl
  none-shown slots r (k ∷ ks) [] number gone = refl
  none-shown slots r (k ∷ ks) (e ∷ es) number gone =
      ap (λ b. b || has_shown number (shown slots r ks es)) (none-given slots r number (ids e.current) gone) ∙ none-shown slots r ks es number gone

  -- a clause that is given now is the clause of some procedure
  its_procedure : (slots : List (Slot C)) (r number : ℕ) → is_some (clause_at slots r number) ≡ true → (p : ℕ) × (procedure_at slots number ≡ Some p)
  its_procedure slots r number h = of (slice_get slots number) refl h
    where
      of : (o : Option (Slot C)) → slice_get slots number ≡ o → is_some (option_and_then (given_by r number) o) ≡ true → (p : ℕ) × (procedure_at slots number ≡ Some p)
      of None at e = absurd (true≢false (sym e))
      of (Some s) at e = (s.label.procedure, ap (λ o. option_map procedure_of (option_map (λ (t : Slot C). t.label) o)) at)

  -- the test of a slot is that of the database
  pub has-shown : (slots : List (Slot C)) (r : ℕ) (heads : List Heading) (entries : List Kept) (number : ℕ) → IsKept procedure_of slots r (length heads) entries → is_some (clause_at slots r number) ≡ has_shown number (shown slots r heads entries)
  has-shown slots r heads entries number kept = by (is_some (clause_at slots r number)) refl
    where
      by : (b : Bool) → is_some (clause_at slots r number) ≡ b → b ≡ has_shown number (shown slots r heads entries)
      by true e = let p = its_procedure slots r number e in sym (any-shown slots r heads entries number p.0 kept.same e (kept.listed number p.0 e p.1))
      by false e = sym (none-shown slots r heads entries number e)

-- the heading of a procedure that is absent
abbrev pub no_kind : Heading → Heading
no_kind h = record h { kind = None }

module _ {C : Type 0} where
  -- the procedure without its clauses
  abbrev pub absent : Procedure C → Procedure C
  absent p = record p { kind = None; clauses = [] }

  absent-same : (slots more : List (Slot C)) (r q : ℕ) (heads : List Heading) (entries : List Kept) (place : ℕ) → ((p : ℕ) (e : Kept) → slice_get entries p ≡ Some e → (p ≡ place → ⊥) → given more q (ids e.current) ≡ given slots r (ids e.current))
      → at_place place absent (shown more q heads entries) ≡ at_place place absent (shown slots r heads entries)
  absent-same slots more r q [] entries place is = refl
  absent-same slots more r q (k ∷ ks) [] place is = refl
  absent-same slots more r q (k ∷ ks) (e ∷ es) zero is = ap (λ ps. absent (shown_by slots r k e) ∷ ps) (shown-same slots more r q ks es (λ p d at. is (suc p) d at (λ h. absurd (omega (arith, h)))))
  absent-same slots more r q (k ∷ ks) (e ∷ es) (suc place) is =
      ap (λ cs. let p : Procedure C = record { key = k.key; kind = k.kind; clauses = cs } in p ∷ at_place place absent (shown more q ks es)) (is 0 e refl (λ h. absurd (omega (arith, h))))
      ∙ ap (λ ps. shown_by slots r k e ∷ ps) (absent-same slots more r q ks es place (λ p d at other. is (suc p) d at (λ h. other (omega (arith, h)))))

  -- what is shown once a procedure is gone
  shown-abolished : (slots : List (Slot C)) (r : ℕ) (more : List (Slot C)) (q : ℕ) (heads : List Heading) (entries : List Kept) (place : ℕ) (d : Kept) → IsKept procedure_of slots r (length heads) entries → place < length entries → Clears (ids (get_or entries place d).current) slots r more q
      → shown more q (at_heading place no_kind heads) entries ≡ at_place place absent (shown slots r heads entries)
  shown-abolished slots r more q heads entries place d kept within clears =
      shown-heading more q heads entries place no_kind absent
      (λ h x at. ap (λ cs. let p : Procedure C = record { key = h.key; kind = None; clauses = cs } in p)
      (subst (λ (y : Kept). given more q (ids y.current) ≡ []) (same_Some e x (sym (slice_get-get_or entries place d within) ∙ at)) (given-cleared more q (ids e.current) clears.gone)))
      ∙ absent-same slots more r q heads entries place same
    where
      e : Kept
      e = get_or entries place d

      owner : (p : ℕ) (x : Kept) → slice_get entries p ≡ Some x → All (λ n. procedure_at slots n ≡ Some p) (ids x.current)
      owner p x at = Owns-ids procedure_of slots p x.current (subst (Owns procedure_of slots p) (block_of-last x (length x.older) refl) (kept.owned p x at (length x.older) (omega arith)))

      apart : (p : ℕ) → (p ≡ place → ⊥) → (n : ℕ) → procedure_at slots n ≡ Some p → (b : Bool) → list_any (λ m. m == n) (ids e.current) ≡ b → clause_at more q n ≡ clause_at slots r n
      apart p other n at true h = absurd (other (same_Some p place (sym at ∙ any-all (λ m. procedure_at slots m ≡ Some place) (ids e.current) n (owner place e (slice_get-get_or entries place d within)) h)))
      apart p other n at false h = clears.others n h

      same : (p : ℕ) (x : Kept) → slice_get entries p ≡ Some x → (p ≡ place → ⊥) → given more q (ids x.current) ≡ given slots r (ids x.current)
      same p x at other = filter_map-agree (clause_at more q) (clause_at slots r) (ids x.current)
          (λ k y h. apart p other (get_or (ids x.current) k y) (owner p x at k y h) (list_any (λ m. m == get_or (ids x.current) k y) (ids e.current)) refl)

  -- a database whose procedure is gone: of the entry that was read, the numbers in its block are cleared
  pub Becomes-abolished : {slots more : List (Slot C)} {r q : ℕ} {heads titles : List Heading} {entries : List Kept} {place : ℕ} {d : Kept} {b : Ids} → IsKept procedure_of slots r (length heads) entries → place < length (shown slots r heads entries) → d ≡ get_or entries place d → b ≡ d.current
      → Clears (ids b) slots r more q → IsCounted more q → titles ≡ at_heading place no_kind heads → Becomes slots r more q heads titles entries entries (without_procedure place)
  Becomes-abolished {slots = slots} {more = more} {r = r} {q = q} {heads = heads} {titles = titles} {entries = entries} {place = place} {d = d} {b = b} kept shown_in read block cleared counted is =
      subst (λ hs. Becomes slots r more q heads hs entries entries (without_procedure place)) (sym is) record {
        kept = subst (λ n. IsKept procedure_of more q n entries) (sym (length-at_heading heads place no_kind)) (IsKept-cleared procedure_of (ids e.current) slots r more q (length heads) entries kept clears counted);
        shows = ap (λ (ps : List (Procedure C)). let x : Database C = record { procedures = ps; added = length more } in x) (shown-abolished slots r more q heads entries place d kept within clears)
            ∙ ap (λ (n : ℕ). let x : Database C = record { procedures = at_place place absent (shown slots r heads entries); added = n } in x) clears.size;
        gives = Giving-kept procedure_of slots r (length heads) entries more q entries kept (Remembers-cleared (ids e.current) slots r more q clears) (Grown-same entries);
      }
    where
      e : Kept
      e = get_or entries place d

      within : place < length entries
      within = shown_within slots r heads entries place kept.same shown_in

      clears : Clears (ids e.current) slots r more q
      clears = subst (λ ns. Clears ns slots r more q) (ap ids (block ∙ ap (λ (x : Kept). x.current) read)) cleared
