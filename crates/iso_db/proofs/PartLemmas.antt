-- The clauses of a part are those of its procedure that have its key.
use Rattle.std.proofs.Common.{◌≡◌, ◌&&◌, ℕ, suc, Bool, true, false, List, [], ◌∷◌, length, get_or, filter, cond, Option, Some, None, is_some, option_map, refl, sym, ap, ◌∙◌, subst, arith, true≢false, ⊎_elim}
use Rattle.std.specs.List.{All, slice_get, cons_option}
use Rattle.std.specs.Option.{option_and_then}
use Rattle.std.proofs.lemmas.Option.{same_Some}
use Rattle.std.proofs.lemmas.Bool.Decides.{eqb_tells}
use Rattle.iso_clauses.specs.Clauses.{Clause}
use Rattle.iso_clauses.specs.Blocks.{Kept, ids}
use Rattle.iso_clauses.specs.Slots.{clause_at, key_at, label_at, list_at, procedure_of, part_of, is_place, is_front, given}
use Rattle.iso_clauses.specs.Kept.{lists, IsKept}
use Rattle.iso_clauses.specs.Fits.{has_key}
use Rattle.iso_db.specs.Parts.{IsIndexed}
use Rattle.iso_clauses.specs.declared.keys.FirstKey.{FirstKey}
use Rattle.iso_db.specs.declared.parts.Part.{Part}
use Rattle.iso_clauses.specs.declared.slots.Label.{Label}
use Rattle.iso_clauses.specs.declared.slots.Slot.{Slot}
use Rattle.iso_clauses.proofs.LabelLemmas.{label_of, owned_now}
use Rattle.iso_clauses.proofs.ViewLemmas.{clause_at-number}
use Rattle.iso_clauses.proofs.ClearLemmas.{any-all}
use Rattle.iso_clauses.proofs.TidyLemmas.{given-passing}
use Rattle.iso_db.proofs.OwnerLemmas.{is_place-itself, place_told}
use Rattle.iso_clauses.proofs.OrderLemmas.{AreInOrder, order_told, order_filter, has, has_filter, same_numbers, numbers}
use Rattle.iso_db.proofs.KeyLemmas.{key_itself, key_told}

-- the part that a label names
abbrev pub part_named : Label → Part
part_named l = record { place = l.procedure; key = l.key }

named_so : (l : Label) (place : ℕ) (key : Option FirstKey) → procedure_of l ≡ place → key ≡ l.key → ◌≡◌ {A = Part} (part_named l) (record { place = place; key = key })
named_so l place key p k = ap (λ n. let x : Part = record { place = n; key = l.key } in x) p ∙ ap (λ o. let x : Part = record { place = place; key = o } in x) (sym k)

module _ {C : Type 0} where
  -- whether the clause of a number is there
  abbrev pub is_there : List (Slot C) → ℕ → ℕ → Bool
  is_there slots r n = is_some (clause_at slots r n)

  -- the clauses of the numbers that pass a test
  given_filter : (slots : List (Slot C)) (r : ℕ) (test : ℕ → Bool) (ns : List ℕ) → given slots r (filter test ns) ≡ filter (λ c. test c.number) (given slots r ns)
  given_filter slots r test [] = refl
  given_filter slots r test (n ∷ ns) = by (clause_at slots r n) refl (test n) refl (given_filter slots r test ns)
    where
      rest : List (Clause C)
      rest = given slots r ns

      by : (o : Option (Clause C)) → clause_at slots r n ≡ o → (b : Bool) → test n ≡ b → given slots r (filter test ns) ≡ filter (λ c. test c.number) rest
          → given slots r (cond b (n ∷ filter test ns) (filter test ns)) ≡ filter (λ c. test c.number) (cons_option o rest)
      by None at true t e = ap (λ o. cons_option o (given slots r (filter test ns))) at ∙ e
      by None at false t e = e
      by (Some c) at true t e = ap (λ o. cons_option o (given slots r (filter test ns))) at ∙ ap (λ cs. c ∷ cs) e
          ∙ sym (ap (λ b. cond b (c ∷ filter (λ d. test d.number) rest) (filter (λ d. test d.number) rest)) (ap test (clause_at-number slots r n c at) ∙ t))
      by (Some c) at false t e = e
          ∙ sym (ap (λ b. cond b (c ∷ filter (λ d. test d.number) rest) (filter (λ d. test d.number) rest)) (ap test (clause_at-number slots r n c at) ∙ t))

  -- two tests that agree on the clauses of these numbers
  given_agree : (slots : List (Slot C)) (r : ℕ) (p q : Clause C → Bool) (ns : List ℕ) → All (λ n. (c : Clause C) → clause_at slots r n ≡ Some c → p c ≡ q c) ns
      → filter p (given slots r ns) ≡ filter q (given slots r ns)
  given_agree slots r p q [] same = refl
  given_agree slots r p q (n ∷ ns) same = by (clause_at slots r n) refl (given_agree slots r p q ns (λ k d h. same (suc k) d (omega arith)))
    where
      rest : List (Clause C)
      rest = given slots r ns

      by : (o : Option (Clause C)) → clause_at slots r n ≡ o → filter p rest ≡ filter q rest → filter p (cons_option o rest) ≡ filter q (cons_option o rest)
      by None at e = e
      by (Some c) at e = ap (λ b. cond b (c ∷ filter p rest) (filter p rest)) (same 0 n (omega arith) c at) ∙ ap (λ cs. cond (q c) (c ∷ cs) cs) e

  -- the numbers of the clauses that are given
  numbers_given : (slots : List (Slot C)) (r : ℕ) (ns : List ℕ) → numbers (given slots r ns) ≡ filter (is_there slots r) ns
  numbers_given slots r [] = refl
  numbers_given slots r (n ∷ ns) = by (clause_at slots r n) refl (numbers_given slots r ns)
    where
      by : (o : Option (Clause C)) → clause_at slots r n ≡ o → numbers (given slots r ns) ≡ filter (is_there slots r) ns
          → numbers (cons_option o (given slots r ns)) ≡ cond (is_some o) (n ∷ filter (is_there slots r) ns) (filter (is_there slots r) ns)
      by None at e = e
      by (Some c) at e = ap (λ m. m ∷ numbers (given slots r ns)) (clause_at-number slots r n c at) ∙ ap (λ ms. n ∷ ms) e

  -- the clauses of a list are in order
  pub given_order : (of : Label → ℕ) (slots : List (Slot C)) (r size : ℕ) (entries : List Kept) (place : ℕ) (e : Kept) → IsKept of slots r size entries → slice_get entries place ≡ Some e
      → AreInOrder (is_front slots) (numbers (given slots r (ids e.current)))
  given_order of slots r size entries place e kept at =
      subst (AreInOrder (is_front slots)) (sym (numbers_given slots r (ids e.current)))
      (order_filter (is_front slots) (is_there slots r) (ids e.current) (order_told (is_front slots) (ids e.current) (kept.ordered place e at)))

  -- a clause that is there is in the block of the list that its label names, and in no other of its sort
  has_told : (of : Label → ℕ) (slots : List (Slot C)) (r size : ℕ) (entries : List Kept) (place : ℕ) (e : Kept) → IsKept of slots r size entries → slice_get entries place ≡ Some e
      → (n : ℕ) → is_there slots r n ≡ true → has n (ids e.current) ≡ is_place place (list_at of slots n)
  has_told of slots r size entries place e kept at n there = by (has n (ids e.current)) refl
    where
      missing : (b : Bool) → is_place place (list_at of slots n) ≡ b → has n (ids e.current) ≡ false → false ≡ b
      missing true told away = absurd (true≢false (sym (ap (λ o. lists o n) (sym at) ∙ kept.listed n place there (place_told place (list_at of slots n) told)) ∙ away))
      missing false told away = refl

      by : (b : Bool) → has n (ids e.current) ≡ b → b ≡ is_place place (list_at of slots n)
      by true among = sym (is_place-itself place (list_at of slots n) (any-all (λ m. list_at of slots m ≡ Some place) (ids e.current) n (owned_now of slots r size entries kept place e at) among))
      by false away = missing (is_place place (list_at of slots n)) refl away

  -- what stands in a part is of the part's procedure
  in_procedure : (slots : List (Slot C)) (r : ℕ) (parts : List Part) (lists : List Kept) → IsIndexed slots r parts lists → (n j : ℕ) (p : Part) → slice_get parts j ≡ Some p → list_at part_of slots n ≡ Some j
      → list_at procedure_of slots n ≡ Some p.place
  in_procedure slots r parts lists indexed n j p at stands =
      let l = label_of part_of slots n j stands in
      let same : p ≡ part_named l.0 = same_Some p (part_named l.0) (sym at ∙ ap (slice_get parts) (sym l.2) ∙ indexed.inside n l.0 l.1) in
      ap (option_map procedure_of) l.1 ∙ sym (ap (λ (q : Part). Some q.place) same)

  -- the numbers of a part are those of its procedure that stand in it
  part_numbers : (slots : List (Slot C)) (r size : ℕ) (entries : List Kept) (parts : List Part) (lists : List Kept) → IsKept procedure_of slots r size entries → IsIndexed slots r parts lists
      → (e f : Kept) (j : ℕ) (p : Part) → slice_get entries p.place ≡ Some e → slice_get lists j ≡ Some f → slice_get parts j ≡ Some p
      → filter (is_there slots r) (ids f.current) ≡ filter (λ n. is_place j (list_at part_of slots n)) (filter (is_there slots r) (ids e.current))
  part_numbers slots r size entries parts lists kept indexed e f j p at_e at_f at_p =
      same_numbers (is_front slots) (filter there (ids f.current)) (filter test (filter there (ids e.current)))
      (order_filter (is_front slots) there (ids f.current) (order_told (is_front slots) (ids f.current) (indexed.kept.ordered j f at_f)))
      (order_filter (is_front slots) test (filter there (ids e.current)) (order_filter (is_front slots) there (ids e.current) (order_told (is_front slots) (ids e.current) (kept.ordered p.place e at_e))))
      (λ n. has_filter there n (ids f.current) ∙ by n (there n) refl ∙ sym (has_filter test n (filter there (ids e.current)) ∙ ap (λ b. test n && b) (has_filter there n (ids e.current))))
    where
      there : ℕ → Bool
      there n = is_there slots r n

      test : ℕ → Bool
      test n = is_place j (list_at part_of slots n)

      and_false : (b : Bool) → false ≡ (b && false)
      and_false true = refl
      and_false false = refl

      inside : (n : ℕ) → there n ≡ true → (b : Bool) → test n ≡ b → b ≡ (b && has n (ids e.current))
      inside n is true t = sym (has_told procedure_of slots r size entries p.place e kept at_e n is
          ∙ is_place-itself p.place (list_at procedure_of slots n) (in_procedure slots r parts lists indexed n j p at_p (place_told j (list_at part_of slots n) t)))
      inside n is false t = refl

      by : (n : ℕ) (b : Bool) → there n ≡ b → (b && has n (ids f.current)) ≡ (test n && (b && has n (ids e.current)))
      by n true is = has_told part_of slots r (length parts) lists j f indexed.kept at_f n is ∙ inside n is (test n) refl
      by n false is = and_false (test n)

  -- a clause of the procedure has the key of a part where it stands in it
  key_here : (slots : List (Slot C)) (r : ℕ) (parts : List Part) (lists : List Kept) → IsIndexed slots r parts lists → (j : ℕ) (p : Part) → slice_get parts j ≡ Some p
      → (n : ℕ) → list_at procedure_of slots n ≡ Some p.place → is_place j (list_at part_of slots n) ≡ has_key p.key (key_at slots n)
  key_here slots r parts lists indexed j p at n stands =
      ap (λ o. is_place j (option_map part_of o)) label
      ∙ ⊎_elim
      (λ e. e.0 ∙ sym (ap (λ (q : Part). has_key p.key q.key) (same_Some (part_named l) p (sym (indexed.inside n l label) ∙ ap (slice_get parts) e.1 ∙ at)) ∙ key_itself p.key))
      (λ e. e.0 ∙ other e.1 (has_key p.key l.key) refl)
      (eqb_tells l.part j)
      ∙ sym (ap (λ o. has_key p.key (option_and_then (λ (m : Label). m.key) o)) label)
    where
      found : (m : Label) × (label_at slots n ≡ Some m) × (procedure_of m ≡ p.place)
      found = label_of procedure_of slots n p.place stands

      l : Label
      l = found.0

      label : label_at slots n ≡ Some l
      label = found.1

      other : (l.part ≡ j → ⊥) → (b : Bool) → has_key p.key l.key ≡ b → false ≡ b
      other away true h = absurd (away (indexed.once l.part j p (indexed.inside n l label ∙ ap Some (named_so l p.place p.key found.2 (key_told p.key l.key h))) at))
      other away false h = refl

  -- the clauses of a part
  pub part_clauses : (slots : List (Slot C)) (r size : ℕ) (entries : List Kept) (parts : List Part) (lists : List Kept) → IsKept procedure_of slots r size entries → IsIndexed slots r parts lists
      → (e f : Kept) (j : ℕ) (p : Part) → slice_get entries p.place ≡ Some e → slice_get lists j ≡ Some f → slice_get parts j ≡ Some p
      → given slots r (ids f.current) ≡ filter (λ c. has_key p.key (key_at slots c.number)) (given slots r (ids e.current))
  part_clauses slots r size entries parts lists kept indexed e f j p at_e at_f at_p =
      sym (given-passing slots r (ids f.current))
      ∙ ap (given slots r) (part_numbers slots r size entries parts lists kept indexed e f j p at_e at_f at_p)
      ∙ given_filter slots r (λ n. is_place j (list_at part_of slots n)) (filter (is_there slots r) (ids e.current))
      ∙ ap (filter (λ (c : Clause C). is_place j (list_at part_of slots c.number))) (given-passing slots r (ids e.current))
      ∙ given_agree slots r (λ c. is_place j (list_at part_of slots c.number)) (λ c. has_key p.key (key_at slots c.number)) (ids e.current)
      (λ k d h c at. key_here slots r parts lists indexed j p at_p c.number
      (ap (list_at procedure_of slots) (clause_at-number slots r (get_or (ids e.current) k d) c at) ∙ owned_now procedure_of slots r size entries kept p.place e at_e k d h))

  nothing_passes : (cs : List (Clause C)) → filter (λ c. false) cs ≡ []
  nothing_passes [] = refl
  nothing_passes (c ∷ cs) = nothing_passes cs

  -- no clause has a key of which there is no part
  pub no_clauses : (slots : List (Slot C)) (r size : ℕ) (entries : List Kept) (parts : List Part) (lists : List Kept) → IsKept procedure_of slots r size entries → IsIndexed slots r parts lists
      → (e : Kept) (place : ℕ) (key : Option FirstKey) → slice_get entries place ≡ Some e → ((j : ℕ) → slice_get parts j ≡ Some (record { place = place; key = key }) → ⊥)
      → filter (λ c. has_key key (key_at slots c.number)) (given slots r (ids e.current)) ≡ []
  no_clauses slots r size entries parts lists kept indexed e place key at absent =
      given_agree slots r (λ c. has_key key (key_at slots c.number)) (λ c. false) (ids e.current)
      (λ k d h c is. none c.number (ap (list_at procedure_of slots) (clause_at-number slots r (get_or (ids e.current) k d) c is) ∙ owned_now procedure_of slots r size entries kept place e at k d h))
      ∙ nothing_passes (given slots r (ids e.current))
    where
      none : (n : ℕ) → list_at procedure_of slots n ≡ Some place → has_key key (key_at slots n) ≡ false
      none n stands = ap (λ o. has_key key (option_and_then (λ (m : Label). m.key) o)) found.1 ∙ by (has_key key found.0.key) refl
        where
          found : (m : Label) × (label_at slots n ≡ Some m) × (procedure_of m ≡ place)
          found = label_of procedure_of slots n place stands

          by : (b : Bool) → has_key key found.0.key ≡ b → b ≡ false
          by true h = absurd (absent found.0.part (indexed.inside n found.0 found.1 ∙ ap Some (named_so found.0 place key found.2 (key_told key found.0.key h))))
          by false h = refl
