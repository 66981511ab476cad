-- The equations of an answer, one after the other.
use Rattle.std.proofs.Common.{◌≡◌, ℕ, suc, ◌+◌, ◌≤◌, ◌<◌, List, [], ◌∷◌, ◌++◌, length, map, get_or, drop, drop-cons, add-one, codes, refl, sym, ap, ◌∙◌, append_assoc, append-nil, String, Global, Result, OnOk, option_map, Option, Some, None, slice_get}
use Rattle.std.proofs.lemmas.List.{drop_all}
use Rattle.std.proofs.lemmas.Result.{on_ok_weaker}
use Rattle.std.proofs.lemmas.Option.{slice_get-map, slice_get_read, slice_get_past}
use Rattle.std.specs.Prelude.{unwrap_or}
use Rattle.std.specs.String.{string_bytes}
use Rattle.iso_model.specs.declared.terms.Term.{Term}
use Rattle.iso_model.specs.declared.terms.Term.TheVariants.{Atom}
use Rattle.iso_ops.specs.Operators.{Operator}
use Rattle.iso_model.specs.Terms.Trees.{Tree, Name}
use Rattle.iso_model.specs.Terms.TermOf.{term_of}
use Rattle.iso_model.specs.Terms.Variables.{distinct_from}
use Rattle.iso_model.specs.Session.Lines.{text_in, value_at, equations, solution_text}
use Rattle.iso_model.proofs.OnTerms.LeafLemmas.{term_of_atom}
use Rattle.iso_session_core.specs.Named.{names_of}

abbrev pub Named : Type 0
Named = String Global × ℕ

by_found : (values : List Term) (n : ℕ) (o : Option Term) → slice_get values n ≡ o → value_at (map term_of values) n ≡ unwrap_or (option_map term_of o) (Name [])
by_found values n o h = ap (λ x. unwrap_or x (Name [])) (slice_get-map term_of values n ∙ ap (option_map term_of) h)

-- the value of a variable that has one
pub value_found : (values : List Term) (n : ℕ) (v : Term) → n < length values → v ≡ get_or values n v → value_at (map term_of values) n ≡ term_of v
value_found values n v low e = by_found values n (Some v) (slice_get_read values (length values) n v refl low e)

-- what stands for the value of any other
pub value_missing : (values : List Term) (n : ℕ) (a : String Global) → length values ≤ n → string_bytes a ≡ [] → value_at (map term_of values) n ≡ term_of (Atom a)
value_missing values n a past none = by_found values n None (slice_get_past values n past) ∙ sym (term_of_atom a ∙ ap Name none)

-- the variables behind those of the value
pub value_seen : {T E : Type 0} (r : Result T E) (seen later : List ℕ) (t v : Tree) → v ≡ t → OnOk r (later ≡ distinct_from seen t) → OnOk r (later ≡ distinct_from seen v)
value_seen r seen later t v same text = on_ok_weaker r (λ e. e ∙ ap (distinct_from seen) (sym same)) text

equation_by : (a name equals text b c d : List ℕ) → b ≡ a ++ name → c ≡ b ++ equals → d ≡ c ++ text → d ≡ a ++ (name ++ (equals ++ text))
equation_by a name equals text b c d h k e = rw (e, k, h) (simp append_assoc)

-- an equation was appended, part by part
pub equation_text : {T E : Type 0} (r : Result T E) (table : List Operator) (seen a name b c d : List ℕ) (t v : Tree) → v ≡ t → b ≡ a ++ name → c ≡ b ++ codes " = "
    → OnOk r (d ≡ c ++ text_in table seen t) → OnOk r (d ≡ a ++ (name ++ (codes " = " ++ text_in table seen v)))
equation_text r table seen a name b c d t v same h k text =
    on_ok_weaker r (λ e. equation_by a name (codes " = ") (text_in table seen v) b c d h k (e ∙ ap (λ x. c ++ text_in table seen x) (sym same))) text

drop_item : {X : Type 0} (xs : List X) (i : ℕ) (x : X) → i < length xs → x ≡ get_or xs i x → drop i xs ≡ x ∷ drop (i + 1) xs
drop_item xs i x low e = rw add-one (drop-cons xs i x low ∙ ap (λ y. y ∷ drop (suc i) xs) (sym e))

regrouped : (a b c d e f : List ℕ) → ((a ++ b) ++ (c ++ (d ++ e))) ++ f ≡ a ++ (b ++ (c ++ (d ++ (e ++ f))))
regrouped a b c d e f = simp append_assoc

-- one more equation was appended
pub equation_appended : (table : List Operator) (before seen later : List ℕ) (i : ℕ) (names : List Named) (x : Named) (values : List Tree) (a b c total : List ℕ) → i < length names → x ≡ get_or names i x
    → a ++ equations table before seen (names_of (drop i names)) values ≡ total → b ≡ a ++ before → c ≡ b ++ (string_bytes x.0 ++ (codes " = " ++ text_in table seen (value_at values x.1)))
    → later ≡ distinct_from seen (value_at values x.1) → c ++ equations table (codes ", ") later (names_of (drop (i + 1) names)) values ≡ total
equation_appended table before seen later i names x values a b c total low e h p q s =
    let others = distinct_from seen (value_at values x.1) in
    let left = equations table (codes ", ") others (names_of (drop (i + 1) names)) values in
    let now = rw (drop_item names i x low e) at h in
    let text = text_in table seen (value_at values x.1) in
    let written = string_bytes x.0 ++ (codes " = " ++ text) in
    rw s (ap (λ z. z ++ left) (q ∙ ap (λ z. z ++ written) p) ∙ regrouped a before (string_bytes x.0) (codes " = ") text left ∙ now)

-- all equations were appended
pub solution_appended : (table : List Operator) (before seen : List ℕ) (i : ℕ) (names : List Named) (values : List Tree) (a start : List ℕ) → length names ≤ i → (length names ≡ 0 → ⊥)
    → a ++ equations table before seen (names_of (drop i names)) values ≡ start ++ equations table (codes " ") [] (names_of names) values
    → a ≡ start ++ solution_text table (names_of names) values
solution_appended table before seen i [] values a start low some h = absurd (some refl)
solution_appended table before seen i (n ∷ names) values a start low some h = sym (append-nil a) ∙ (rw (drop_all i (n ∷ names) low) at h)
