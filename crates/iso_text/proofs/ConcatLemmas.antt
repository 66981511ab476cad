-- What a goal of atom_concat/3 comes to.
use Rattle.std.proofs.Common.{◌≡◌, ◌&&◌, ◌||◌, ℕ, suc, List, [], ◌∷◌, ◌++◌, map, length, chars, Bool, true, false, Vec, Global, Ok, Err, refl, ap, sym, subst, ◌∙◌, if◌then◌else◌, arith}
use Rattle.std.proofs.lemmas.List.Elements.{All-cons, All-nil}
use Rattle.std.specs.List.{All, range_with_len}
use Rattle.iso_model.specs.Terms.Trees.{Tree, Name, row}
use Rattle.iso_model.specs.Terms.Arguments.{argument, arity}
use Rattle.iso_model.specs.Terms.Types.{is_atom, is_variable}
use Rattle.iso_model.specs.Search.AtomParts.{split_at, joined, taken_apart, concat_settled, concat_key, with_atom}
use Rattle.iso_model.specs.Search.Errors.{instantiation_error}
use Rattle.iso_model.specs.Search.Settlements.{Settled, Refuses, Offers, Offer, constant_offer}
use Rattle.iso_model.specs.declared.kinds.AtomPart.TheVariants.{Concat}
use Rattle.iso_lib_core.specs.Checks.{IsRefused, PassesTo}
use Rattle.iso_lib_core.specs.declared.outcomes.Fault.{Fault}
use Rattle.iso_lib_core.specs.declared.outcomes.Fault.TheVariants as fault
use Rattle.iso_text.specs.declared.parts.Part.TheVariants as part
use Rattle.iso_text.specs.declared.parts.Parts.{Parts}
use Rattle.iso_text.specs.Parts.{AreOf, IsAtom, IsParted, part_offer, parts_in, text_of}

atom_is : (t : Tree) → is_atom t ≡ true → IsAtom t
atom_is (Name a) h = (a, refl)
atom_is t h = absurd cc

joined_row : (a b c : Tree) → (is_atom a && is_atom b) ≡ true → joined a b c ≡ Offers (row (a ∷ b ∷ c ∷ [])) (constant_offer 2 (row (a ∷ b ∷ Name (text_of a ++ text_of b) ∷ [])) ∷ [])
joined_row (Name a) (Name b) c h = refl
joined_row a b c h = absurd cc

pub not_joined : (a b c : Tree) → (is_atom a && is_atom b) ≡ false → joined a b c ≡ taken_apart a b c
not_joined (Name a) (Name b) c h = absurd cc
not_joined a b c h = refl

both_atoms : (a b : Bool) → (a && b) ≡ true → (a ≡ true) × (b ≡ true)
both_atoms true true h = (refl, refl)
both_atoms true false h = absurd cc
both_atoms false b h = absurd cc

-- both are atoms
pub joined_parted : (t : Tree) (kept : Vec Parts Global) → arity t ≡ 3 → (is_atom (argument 0 t) && is_atom (argument 1 t)) ≡ true → kept.items ≡ record { first = part.Joined; more = 0 } ∷ []
    → IsParted Concat t (joined (argument 0 t) (argument 1 t) (argument 2 t)) (Ok kept)
joined_parted t kept three atoms are =
    let each = both_atoms (is_atom (argument 0 t)) (is_atom (argument 1 t)) atoms in (
      2,
      joined_row (argument 0 t) (argument 1 t) (argument 2 t) atoms
          ∙ ap (λ (ps : List Parts). Offers (row (argument 0 t ∷ argument 1 t ∷ argument 2 t ∷ [])) (map (part_offer 2 t) (parts_in ps))) (sym are),
      rw are (All-cons (AreOf t) (record { first = part.Joined; more = 0 }) [] ((three, atom_is (argument 0 t) each.0, atom_is (argument 1 t) each.1), omega arith) (All-nil (AreOf t))),
    )

-- the third is taken apart
pub split_parted : (t : Tree) (text : List ℕ) (kept : Vec Parts Global) → arity t ≡ 3 → argument 2 t ≡ Name text
    → ((u : Tree) → argument 2 u ≡ Name text → map (part_offer 4 u) (parts_in kept.items) ≡ map (split_at text) (range_with_len 0 (suc (length (chars text)))))
    → ((u : Tree) → arity u ≡ 3 → argument 2 u ≡ Name text → All (AreOf u) kept.items)
    → IsParted Concat t (taken_apart (argument 0 t) (argument 1 t) (argument 2 t)) (Ok kept)
split_parted t text kept three is offers places =
    let rows = map (split_at text) (range_with_len 0 (suc (length (chars text)))) in (
      4,
      ap (taken_apart (argument 0 t) (argument 1 t)) is
          ∙ ap (λ (u : Tree). Offers (row (argument 0 t ∷ argument 1 t ∷ u ∷ [])) rows) (sym is)
          ∙ ap (λ (os : List Offer). Offers (row (argument 0 t ∷ argument 1 t ∷ argument 2 t ∷ [])) os) (sym (offers t is)),
      places t three is,
    )

-- no check raised an error
pub concat_after : (a b c : Tree) → (is_variable c && (is_variable a || is_variable b)) ≡ false → ((s : Settled) → with_atom a concat_key s ≡ s) → ((s : Settled) → with_atom b concat_key s ≡ s) → ((s : Settled) → with_atom c concat_key s ≡ s)
    → concat_settled a b c ≡ joined a b c
concat_after a b c bound first second whole =
    ap (λ (unbound : Bool). if unbound then Refuses (instantiation_error concat_key) else with_atom a concat_key (with_atom b concat_key (with_atom c concat_key (joined a b c)))) bound
    ∙ first (with_atom b concat_key (with_atom c concat_key (joined a b c)))
    ∙ second (with_atom c concat_key (joined a b c))
    ∙ whole (joined a b c)

pub concat_same : (t a b c : Tree) → a ≡ argument 0 t → b ≡ argument 1 t → c ≡ argument 2 t → (is_variable c && (is_variable a || is_variable b)) ≡ false
    → ((s : Settled) → with_atom a concat_key s ≡ s) → ((s : Settled) → with_atom b concat_key s ≡ s) → ((s : Settled) → with_atom c concat_key s ≡ s)
    → concat_settled (argument 0 t) (argument 1 t) (argument 2 t) ≡ joined (argument 0 t) (argument 1 t) (argument 2 t)
concat_same t a b c is-a is-b is-c bound first second whole =
    (λ i. concat_settled (sym is-a i) (sym is-b i) (sym is-c i)) ∙ concat_after a b c bound first second whole ∙ (λ i. joined (is-a i) (is-b i) (is-c i))

-- a check that comes behind others raised its error
pub check_refused : (t : Tree) (s : Settled) (v : Tree) (next : Settled) (e : Fault) → s ≡ with_atom v concat_key next → PassesTo {A = Unit} (with_atom v concat_key) (λ done goes_on. goes_on) (Err e) → IsParted Concat t s (Err e)
check_refused t s v next (fault.Raise ball) same raised = subst (λ x. IsRefused x ball) (sym same) (raised next)
check_refused t s v next fault.Full same raised = raised
check_refused t s v next fault.NoMemory same raised = raised

-- what is left to check behind the first
pub after_first : (t a b c : Tree) → a ≡ argument 0 t → b ≡ argument 1 t → c ≡ argument 2 t → (is_variable c && (is_variable a || is_variable b)) ≡ false → ((s : Settled) → with_atom a concat_key s ≡ s)
    → concat_settled (argument 0 t) (argument 1 t) (argument 2 t) ≡ with_atom b concat_key (with_atom c concat_key (joined a b c))
after_first t a b c is-a is-b is-c bound first =
    (λ i. concat_settled (sym is-a i) (sym is-b i) (sym is-c i))
    ∙ ap (λ (unbound : Bool). if unbound then Refuses (instantiation_error concat_key) else with_atom a concat_key (with_atom b concat_key (with_atom c concat_key (joined a b c)))) bound
    ∙ first (with_atom b concat_key (with_atom c concat_key (joined a b c)))
