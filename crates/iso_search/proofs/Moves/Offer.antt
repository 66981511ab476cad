-- Goals that read or change operators and flags, and rows that their arguments are unified with.
use Rattle.iso_model.specs.Terms.Substitutions.{apply, compose, Subst}
use Rattle.iso_program.specs.Leaving.{AreLeft}
use Rattle.iso_model.specs.Terms.Arguments.{argument, arity}
use Rattle.iso_model.specs.Terms.Trees.{arities_fit, End, Integer, More, Name, row, Tree}
use Rattle.iso_model.specs.declared.pauses.Ball.{Ball}
use Rattle.iso_search_core.specs.Bodies.{body_cost, left_cost, most}
use Rattle.iso_search_core.specs.Fitting.{FitsState}
use Rattle.iso_search_core.specs.Costs.{choices_cost, tried_cost}
use Rattle.iso_search_core.specs.Standing.{entered_at, GainsChoice, HasLeft, most_numbers, numbers_a_step}
use Rattle.iso_lib_core.specs.declared.outcomes.Fault.{Fault}
use Rattle.iso_store_core.specs.declared.stores.Store.{Ghosts}
use Rattle.iso_search.specs.EngineStates.{IsAhead, IsBehind, IsEngine, Keeps, kept_cost, Moves, phase_of, Refused, Represents, StandsAs, went_back, WentBack}
use Rattle.iso_model.specs.Search.Engines.{IsAwake}
use Rattle.iso_atoms.specs.Texts.{KeepsTexts}
use Rattle.iso_search_core.specs.declared.choices.Left.{Left}
use Rattle.iso_model.specs.Terms.Unifiers.{NeverEqual, Unifier}
use Rattle.iso_search_core.specs.declared.nows.Now.{Now}
use Rattle.iso_ops.specs.Operators.{Operator}
use Rattle.iso_search_core.specs.Own.{own_of}
use Rattle.iso_model.specs.Terms.Copies.{renamed}
use Rattle.iso_search.specs.declared.search.Search.{Search}
use Rattle.iso_model.specs.declared.kinds.Setting.{Setting}
use Rattle.iso_model.specs.Terms.TermOf.{term_of}
use Rattle.iso_model.specs.Terms.Unification.{unifier_of}
use Rattle.std.proofs.Common.{◌≡◌, ℕ, suc, ◌+◌, ◌*◌, ◌-◌, ◌<◌, ◌≤◌, ◌++◌, ◌==◌, List, [], ◌∷◌, length, map, reverse, take, drop, chars, pos, slice_set, vec_len, Option, Some, None, Bool, true, false, if◌then◌else◌, refl, ap, ap₂, sym, ◌∙◌, subst, arith, Vec, Global}
use Rattle.std.specs.Prelude.{Result, Ok, Err, OnErr}
use Rattle.std.specs.List.{slice_get, All}
use Rattle.std.specs.Str.{encode_utf8_all}
use Rattle.std.proofs.lemmas.Bool.{eqb-true, eqb-false}
use Rattle.std.proofs.lemmas.List.{reverse-reverse, length-map, length-append, length-reverse}
use Rattle.iso_ops.specs.declared.settings.Flags.{Flags}
use Rattle.std.specs.String.{string_bytes}
use Rattle.iso_model.specs.Search.Settings.{Settled, Refuses, Changes, Offers, value_offer, setting_arity, setting_settled}
use Rattle.iso_model.specs.Search.Walker.{State, World, Member, Alternative, Offered, Goes, fails, under, equated, pushed, with_rights, met_right, is_there, tried_right, offered, settled, step}
use Rattle.iso_model.specs.Search.Walker as search
use Rattle.iso_model.specs.Search.Settlements as walker
use Rattle.iso_model.specs.Search.Settlements.{Reference, constant_offer}
use Rattle.iso_model.proofs.Search.CallLemmas.{unify_found, unify_none}
use Rattle.iso_store_core.specs.Presents.{Present, Binds, IsUnification, KeepsMarks, meaning}
use Rattle.iso_store_core.specs.Retaining.{Takes}
use Rattle.iso_search_core.specs.declared.lists.Lists as lists
use Rattle.iso_lib.specs.declared.settings.Constant.{Constant}
use Rattle.iso_lib.specs.declared.settings.Constant.TheVariants as constant
use Rattle.iso_lib.specs.declared.settings.Offer.{Offer}
use Rattle.iso_lib.specs.Settlements.{constant_tree, offer_tree, arguments_from, goal_row, with_settings, IsSettled, IsRefused, OnOffers}
use Rattle.iso_lib.specs.declared.settings.Settled.{Settled as Came}
use Rattle.iso_lib.specs.declared.settings.Settled.TheVariants as came
use Rattle.iso_lib_core.specs.declared.outcomes.Fault.TheVariants as fault
use Rattle.iso_text.specs.Parts.{part_row, text_of, each_longer, each_of, part_behind, IsOf, AreOf}
use Rattle.iso_text.specs.declared.parts.Part.{Part}
use Rattle.iso_text.specs.declared.parts.Part.TheVariants as part
use Rattle.iso_text.specs.declared.parts.Parts.{Parts}
use Rattle.iso_search_core.specs.Cells.{row_cells}
use Rattle.iso_search_core.specs.Offers.{goal_arguments, row_tree, row_made, row_offer, rows_in, rights_of, IsRow, AreRows}
use Rattle.iso_search_core.specs.declared.offers.Offers as kept_rows
use Rattle.iso_search_core.specs.declared.offers.Offers.TheVariants as rows
use Rattle.iso_search_core.specs.declared.offers.OfferedRow.{OfferedRow}
use Rattle.iso_search_core.specs.declared.offers.OfferedRow.TheVariants as offered_row
use Rattle.iso_search_core.specs.declared.choices.Left.TheVariants as left
use Rattle.iso_search_core.specs.declared.choices.Choice as kept
use Rattle.iso_search_core.specs.declared.nows.Now.TheVariants as now
use Rattle.iso_search_core.specs.Taking.{TakesOffer}
use Rattle.iso_search_core.proofs.BodyCosts.{left_step}
use Rattle.iso_search_core.proofs.FittingLemmas.{fits_more, fits_on, fits_taken}
use Rattle.iso_search_core.proofs.OfferLemmas.{each_count, constants_applied, row_within}
use Rattle.iso_text.proofs.SubLemmas.{all_reversed}
use Rattle.iso_search_core.proofs.StandingLemmas.{keeps_none, last_split, length_last, front_is, some_same}
use Rattle.iso_search_core.proofs.GoalLemmas.{positive}
use Rattle.iso_search.specs.declared.search.Move.TheVariants as move
use Rattle.iso_search.specs.Settles.{MeetsRow, MeetsNext, AsksAt}
use Rattle.iso_search.proofs.AheadLemmas.{ahead_left, engine_place}
use Rattle.iso_search.proofs.BackLemmas.{has_left, dropped, newest_costs}
use Rattle.iso_search.proofs.BoundLemmas.{ahead_bound}
use Rattle.iso_search.proofs.EndLemmas.{next_is as comes_next, keeps_fails}
use Rattle.iso_search.proofs.NewestLemmas.{last_set, with_left, ahead_changed, changed_cost}
use Rattle.iso_search.proofs.Moves.Search.{goes_alike, stops, stops_bare}
use Rattle.iso_search.proofs.SearchSteps.{back_step}

-- ---- rows of constants

row_renamed : (n : ℕ) (cs : List Constant) → renamed n (row (map constant_tree cs)) ≡ row (map constant_tree cs)
row_renamed n [] = refl
row_renamed n (constant.Int z ∷ cs) = ap (More (Integer z)) (row_renamed n cs)
row_renamed n (constant.Atom a ∷ cs) = ap (More (Name (string_bytes a))) (row_renamed n cs)

same_name : (f : Subst) (n : ℕ) (t : Tree) (a : List ℕ) → t ≡ Name a → apply f (renamed n t) ≡ t
same_name f n t a is = subst (λ (x : Tree). apply f (renamed n x) ≡ x) (sym is) refl

same_part : (f : Subst) (n : ℕ) (t : Tree) (p : Part) → IsOf t p → apply f (renamed n (part_row t p)) ≡ part_row t p
same_part f n t part.Joined h =
    ap₂ (λ (x y : Tree). More x (More y (More (Name (text_of (argument 0 t) ++ text_of (argument 1 t))) End))) (same_name f n (argument 0 t) (h.1).0 (h.1).1) (same_name f n (argument 1 t) (h.2).0 (h.2).1)
same_part f n t (part.Split place) h =
    ap (λ (x : Tree). More (Name (take place (text_of (argument 2 t)))) (More (Name (drop place (text_of (argument 2 t)))) (More x End))) (same_name f n (argument 2 t) (h.1).0 (h.1).1)
same_part f n t (part.Sub sub) h =
    ap (λ (x : Tree). More x (row (Integer (pos sub.before) ∷ Integer (pos sub.length) ∷ Integer (pos sub.behind) ∷ Name (encode_utf8_all (take sub.length (chars (drop sub.start (text_of (argument 0 t)))))) ∷ []))) (same_name f n (argument 0 t) (h.1).0 (h.1).1)

same_right : (f : Subst) (n : ℕ) (t : Tree) (r : OfferedRow) → IsRow t r → apply f (renamed n (row_tree t r)) ≡ row_tree t r
same_right f n t (offered_row.Constants offer) h = ap (apply f) (row_renamed n offer.constants.items) ∙ constants_applied f offer.constants.items
same_right f n t (offered_row.Part p) h = same_part f n t p h

taken_is : (o : Option Subst) (rest : List Member) (s : State) → search.taken o None rest s ≡ equated o rest s
taken_is None rest s = refl
taken_is (Some u) rest s = refl

-- such a row is unified as it is, and nothing is removed
row_right : (made : ℕ) (left t : Tree) (r : OfferedRow) → IsRow t r → (rest : List Member) (s : State)
    → tried_right left (row_offer made t r) rest s ≡ equated (under s.subst (unifier_of left (row_tree t r))) rest (record s { built = s.built + row_made made r })
row_right made left t r of rest s =
    let none : s.next + 0 ≡ s.next = omega arith in
    ap (λ (x : Tree). search.taken (under s.subst (unifier_of left x)) None rest (record s { next = s.next + 0; built = s.built + row_made made r })) (same_right s.subst s.next t r of)
    ∙ (ap (λ (n : ℕ). search.taken (under s.subst (unifier_of left (row_tree t r))) None rest (record s { next = n; built = s.built + row_made made r })) none
    ∙ taken_is (under s.subst (unifier_of left (row_tree t r))) rest (record s { built = s.built + row_made made r }))

-- ---- steps, as the search takes them

taken_steps : (o : Option Subst) (r : Option Reference) (rest : List Member) (n : ℕ) (s : State) → record (search.taken o r rest s) { steps = n } ≡ search.taken o r rest (record s { list = rest; steps = n })
taken_steps None r rest n s = refl
taken_steps (Some u) r rest n s = refl

right_steps : (left : Tree) (o : walker.Offer) (rest : List Member) (n : ℕ) (s : State) → record (tried_right left o rest s) { steps = n } ≡ tried_right left o rest (record s { list = rest; steps = n })
right_steps left o rest n s = by_there (is_there o.removes s.world) where
  by_there : (b : Bool) → record (if b then met_right left o rest s else fails s) { steps = n } ≡ (if b then met_right left o rest (record s { list = rest; steps = n }) else fails (record s { list = rest; steps = n }))
  by_there true = taken_steps (under s.subst (unifier_of left (apply s.subst (renamed s.next o.right)))) o.removes rest n (record s { next = s.next + o.variables; built = s.built + o.made })
  by_there false = refl

offered_steps : (left : Tree) (rights : List walker.Offer) (rest : List Member) (n : ℕ) (s : State) → record (offered left rights rest s) { steps = n } ≡ offered left rights rest (record s { list = rest; steps = n })
offered_steps left [] rest n s = refl
offered_steps left (o ∷ []) rest n s = right_steps left o rest n s
offered_steps left (o ∷ u ∷ us) rest n s = right_steps left o rest n (pushed rest (Offered left (u ∷ us)) s)

-- a step is taken for it
pub settled_steps : (x : Settled) (rest : List Member) (n : ℕ) (s : State) → record (settled x rest s) { steps = n } ≡ settled x rest (record s { list = rest; steps = n })
settled_steps (Offers left rights) rest n s = offered_steps left rights rest n s
settled_steps x rest n s = refl

pub equated_keeps : (o : Option Subst) (rest : List Member) (s : State) → ((equated o rest s).stack ≡ s.stack) × ((equated o rest s).world ≡ s.world)
equated_keeps None rest s = (refl, refl)
equated_keeps (Some u) rest s = (refl, refl)

-- the unification of one row keeps the alternatives and the world
right_keeps : (made : ℕ) (left t : Tree) (r : OfferedRow) → IsRow t r → (rest : List Member) (s : State)
    → ((tried_right left (row_offer made t r) rest s).stack ≡ s.stack) × ((tried_right left (row_offer made t r) rest s).world ≡ s.world)
right_keeps made left t r of rest s =
    let is = row_right made left t r of rest s in
    let keep = equated_keeps (under s.subst (unifier_of left (row_tree t r))) rest (record s { built = s.built + row_made made r }) in
    (ap (λ (x : State). x.stack) is ∙ keep.0, ap (λ (x : State). x.world) is ∙ keep.1)

equated_counts : (o : Option Subst) (rest : List Member) (s : State) → ((equated o rest s).query ≡ s.query) × ((equated o rest s).built ≡ s.built)
equated_counts None rest s = (refl, refl)
equated_counts (Some u) rest s = (refl, refl)

-- a row that was tried leaves the query, and is counted
pub right_counts : (made : ℕ) (left t : Tree) (r : OfferedRow) → IsRow t r → (rest : List Member) (s : State)
    → ((tried_right left (row_offer made t r) rest s).query ≡ s.query) × ((tried_right left (row_offer made t r) rest s).built ≡ s.built + row_made made r)
right_counts made left t r of rest s =
    let is = row_right made left t r of rest s in
    let counts = equated_counts (under s.subst (unifier_of left (row_tree t r))) rest (record s { built = s.built + row_made made r }) in
    (ap (λ (x : State). x.query) is ∙ counts.0, ap (λ (x : State). x.built) is ∙ counts.1)

-- what the rows that are left change of a state
pub rights_keep : (left : Tree) (rights : List walker.Offer) (s : State) → ((with_rights left rights s.list s).list ≡ s.list) × ((with_rights left rights s.list s).world ≡ s.world)
rights_keep left [] s = (refl, refl)
rights_keep left (o ∷ os) s = (refl, refl)

pub rights_some : (left : Tree) (rights : List walker.Offer) (rest : List Member) (s : State) → 0 < length rights → with_rights left rights rest s ≡ pushed rest (Offered left rights) s
rights_some left [] rest s some = absurd (omega (arith, some))
rights_some left (o ∷ os) rest s some = refl

pub rights_none : (left : Tree) (rights : List walker.Offer) (rest : List Member) (s : State) → length rights ≡ 0 → with_rights left rights rest s ≡ s
rights_none left [] rest s none = refl
rights_none left (o ∷ os) rest s none = absurd (omega (arith, none))

-- ---- rows that are kept

pub rights_count : (made : ℕ) (t : Tree) (offers : kept_rows.Offers) → length (rights_of made t offers) ≡ length (rows_in offers)
rights_count made t offers = length-map (rows_in offers) (row_offer made t)

-- the first of them
pub rights_first : (made : ℕ) (t : Tree) (offers others : kept_rows.Offers) (r : OfferedRow) → rows_in offers ≡ r ∷ rows_in others → rights_of made t offers ≡ row_offer made t r ∷ rights_of made t others
rights_first made t offers others r are = ap (map (row_offer made t)) are

-- how many are kept
abbrev pub kept_count : kept_rows.Offers → ℕ
kept_count (rows.Constants kept) = length kept.items
kept_count (rows.Parts kept) = length kept.items

pub kept_few : (offers : kept_rows.Offers) → kept_count offers < 18446744073709551616
kept_few (rows.Constants kept) = let many = kept.ok.0 in let within = kept.ok.1 in let small = kept.small in omega (arith, many, within, small)
kept_few (rows.Parts kept) = let many = kept.ok.0 in let within = kept.ok.1 in let small = kept.small in omega (arith, many, within, small)

-- no more of them than are counted
all_count : (t : Tree) (rs : List Parts) → All (AreOf t) rs → length (each_of rs) ≤ 9223372036854775808 * length rs
all_count t [] all = omega arith
all_count t (ps ∷ others) all =
    let of : AreOf t ps = all 0 ps (omega arith) in
    let here = each_count ps.first ps.more in
    let few : ps.more < 9223372036854775808 = more_few ps.first ps.more of.0 of.1 in
    let there = all_count t others (λ k d h. all (suc k) d (omega (arith, h))) in
    let both = length-append (each_longer ps.first ps.more) (each_of others) in
    omega (arith, here, few, there, both) where
      more_few : (p : Part) (n : ℕ) → IsOf t p → n ≤ part_behind p → n < 9223372036854775808
      more_few (part.Sub s) n h less = let small : s.before + s.length + s.behind < 9223372036854775808 = h.2 in omega (arith, small, less)
      more_few part.Joined n h less = omega (arith, less)
      more_few (part.Split place) n h less = omega (arith, less)

-- so many at most
pub rows_few : (t : Tree) (offers : kept_rows.Offers) → AreRows t offers → kept_count offers < 18446744073709551616 → length (rows_in offers) < 340282366920938463463374607431768211456
rows_few t (rows.Constants kept) each small =
    let all = length-map (reverse kept.items) offered_row.Constants in
    let turned = length-reverse kept.items in
    omega (arith, all, turned, small)
rows_few t (rows.Parts kept) each small =
    let all = length-map (each_of (reverse kept.items)) offered_row.Part in
    let turned = length-reverse kept.items in
    let few = all_count t (reverse kept.items) (all_reversed (AreOf t) kept.items each) in
    omega (arith, all, turned, few, small)

-- the first one was tried
pub offered_is : (made : ℕ) (left other t : Tree) (r : OfferedRow) (rights others : List walker.Offer) (s : State) → other ≡ left → rights ≡ row_offer made t r ∷ others
    → tried_right other (row_offer made t r) (with_rights left others s.list s).list (with_rights left others s.list s) ≡ offered left rights s.list s
offered_is made left other t r rights others s same is =
    let mid = with_rights left others s.list s in
    ap₂ (λ (x : Tree) (ms : List Member). tried_right x (row_offer made t r) ms mid) same (rights_keep left others s).0 ∙ ap (λ (os : List walker.Offer). offered left os s.list s) (sym is)

-- one alternative more stands where others are left
pub offered_stack : (made : ℕ) (left t : Tree) (r : OfferedRow) → IsRow t r → (rights others : List walker.Offer) (s : State) → rights ≡ row_offer made t r ∷ others → 0 < length others → length (offered left rights s.list s).stack ≡ suc (length s.stack)
offered_stack made left t r of rights others s is some =
    let keep = right_keeps made left t r of s.list (with_rights left others s.list s) in
    ap (λ (os : List walker.Offer). length (offered left os s.list s).stack) is ∙ (ap length keep.0 ∙ ap (λ (x : State). length x.stack) (rights_some left others s.list s some))

-- the alternatives and the world there
pub offered_keeps : (made : ℕ) (left t : Tree) (r : OfferedRow) → IsRow t r → (rights others : List walker.Offer) (s : State) → rights ≡ row_offer made t r ∷ others
    → ((offered left rights s.list s).stack ≡ (with_rights left others s.list s).stack) × ((offered left rights s.list s).world ≡ s.world)
offered_keeps made left t r of rights others s is =
    let keep = right_keeps made left t r of s.list (with_rights left others s.list s) in
    let stays = rights_keep left others s in
    (ap (λ (os : List walker.Offer). (offered left os s.list s).stack) is ∙ keep.0, ap (λ (os : List walker.Offer). (offered left os s.list s).world) is ∙ (keep.1 ∙ stays.1))

some_pair : {X Y : Type 0} (a b : X) (c d : Y) → ◌≡◌ {A = Option (X × Y)} (Some (a, c)) (Some (b, d)) → (a ≡ b) × (c ≡ d)
some_pair a b c d h =
    let p = some_same h in
    (ap (λ q. q.0) p, ap (λ q. q.1) p)

-- ---- what a goal came to

-- so much is made for a row of constants
abbrev constants_offer : ℕ → Offer → walker.Offer
constants_offer made offer = value_offer made (offer_tree offer)

pub refused_is : (x : Settled) (ball : Ball) → IsRefused x ball → (x ≡ Refuses (term_of ball.term.value)) × (arities_fit (term_of ball.term.value) ≡ true)
refused_is (Refuses error) ball h = (ap Refuses (sym h.0), h.1)
refused_is x ball h = absurd h

-- where rows are offered, or an error is raised, nothing changes
on_offers : {A : Type 0} (r : Result Came Fault) (offers : Vec Offer Global) → OnOffers r A → r ≡ Ok (came.Offers offers) → A
on_offers {A = A} r offers h is = subst (λ (y : Result Came Fault). OnOffers y A) is h

on_error : {A : Type 0} (r : Result Came Fault) (f : Fault) → OnErr r A → r ≡ Err f → A
on_error {A = A} r f h is = subst (λ (y : Result Came Fault). OnErr y A) is h

-- rows of constants, turned round
turned_rows : (made : ℕ) (t : Tree) (offers : List Offer) (kept : Vec Offer Global) → kept.items ≡ reverse offers → rights_of made t (rows.Constants kept) ≡ map (constants_offer made) offers
turned_rows made t offers kept is = ap (λ (xs : List Offer). map (row_offer made t) (map offered_row.Constants xs)) (ap reverse is ∙ reverse-reverse offers) ∙ each offers where
  each : (xs : List Offer) → map (row_offer made t) (map offered_row.Constants xs) ≡ map (constants_offer made) xs
  each [] = refl
  each (x ∷ xs) = ap (λ (ys : List walker.Offer). constants_offer made x ∷ ys) (each xs)

settled_offers : (x : Settled) (setting : Setting) (t : Tree) (offers : List Offer) (kept : Vec Offer Global) (s : State) → kept.items ≡ reverse offers → x ≡ Offers (goal_row setting t) (map (constants_offer (setting_arity setting)) offers) → arity t ≡ setting_arity setting
    → offered (goal_arguments t) (rights_of (setting_arity setting) t (rows.Constants kept)) s.list s ≡ settled x s.list s
settled_offers x setting t offers kept s turned is many =
    ap (λ (rs : List walker.Offer). offered (goal_arguments t) rs s.list s) (turned_rows (setting_arity setting) t offers kept turned)
    ∙ (ap (λ (n : ℕ). offered (row (arguments_from 0 n t)) (map (constants_offer (setting_arity setting)) offers) s.list s) many ∙ ap (λ (y : Settled). settled y s.list s) (sym is))

-- ---- what a unification came to

pub was_unified : {W : Type 0} (p q : Present W) (a b : Tree) (answer : Bool) → answer ≡ true → IsUnification p q a b answer → (u : Subst) × Unifier a b u × Binds p q u
was_unified p q a b answer is h = rw is at h

pub was_never : {W : Type 0} (p q : Present W) (a b : Tree) (answer : Bool) → answer ≡ false → IsUnification p q a b answer → NeverEqual a b
was_never p q a b answer is h = rw is at h

module _ {S L W M K P C N B O : Type 0} (g : Ghosts S W M) (l : lists.Ghosts L S K P C N B O W M) where
  -- ---- a row is unified with the goal's arguments

  module _ (e : Search S L W M K P C N B O) (goal : W) (s : State) (place : P) (h : MeetsRow g l e goal s place) (made : ℕ) (left t : Tree) (r : OfferedRow) (of : IsRow t r)
      (store : S) (keeps : KeepsMarks (g.stands e.store) (g.stands store)) (texts : KeepsTexts (g.names e.store) (g.names store)) (takes : Takes g e.store store (row_cells r)) where
    abbrev right : Tree
    right = row_tree t r

    pub row_found : (next : Now N P) (u : Subst) → Unifier left right u → Binds (g.present e.store) (g.present store) u → l.list (g.present store) e.lists (l.whole e.lists) place s.list → IsBehind l (g.present store) e.lists place next s.list
        → IsEngine g l (record e { store = store; now = next }) (tried_right left (row_offer made t r) s.list s)
    row_found next u unifier binds chain comes =
        let a = h.ahead in
        let room = a.goes.room in
        let all = a.steps in
        let numbers = binds.numbers.next in
        let none : s.next + 0 ≡ s.next = omega arith in
        let bound = ahead_bound g l e store e.lists s place 0 (s.built + row_made made r) (compose s.subst u) a keeps texts (keeps_none l e.lists)
        (fits_taken g s (record s { built = s.built + row_made made r }) takes (omega arith) refl (omega (arith, row_within made r)) a.fits) chain binds.words
        (binds.substitution ∙ ap (λ (r : Subst). compose r u) a.goes.subst) (omega (arith, numbers)) (omega (arith, room, all)) in
        let x : State = record s { subst = compose s.subst u; built = s.built + row_made made r } in
        let ahead = subst (λ (n : ℕ). IsAhead g l (record e { store = store }) (record x { next = n }) place) none bound in
        let is = row_right made left t r of s.list s ∙ ap (λ (o : Option Subst). equated o s.list (record s { built = s.built + row_made made r })) (unify_found s.subst left right unifier) in
        subst (λ (y : State). IsEngine g l (record e { store = store; now = next }) y) (sym is) (engine_place g l (record e { store = store }) x place next ahead comes)

    pub row_missed : NeverEqual left right → IsEngine g l (record e { store = store; now = now.Failing }) (tried_right left (row_offer made t r) s.list s)
    row_missed never =
        let a = h.ahead in
        let is = row_right made left t r of s.list s ∙ ap (λ (o : Option Subst). equated o s.list (record s { built = s.built + row_made made r })) (unify_none s.subst left right never) in
        subst (λ (y : State). IsEngine g l (record e { store = store; now = now.Failing }) y) (sym is) (keeps_fails g l e store s place (row_made made r) (row_within made r) a keeps texts takes)

  -- ---- the rows behind the first are kept

  module _ (e : Search S L W M K P C N B O) (goal : W) (s : State) (place : P) (h : MeetsRow g l e goal s place) (made : ℕ) (offers : kept_rows.Offers) (each : AreRows (meaning (g.present e.store) goal) offers) where
    abbrev arguments : Tree
    arguments = goal_arguments (meaning (g.present e.store) goal)

    abbrev rights : List walker.Offer
    rights = rights_of made (meaning (g.present e.store) goal) offers

    pub pushed_some : (store : S) (choices : Vec (kept.Choice W M K P C) Global) → l.within e.lists (l.whole e.lists) → ((k : K) → l.within e.lists k → l.below k (l.whole e.lists))
        → 0 < length (rows_in offers) → g.present store ≡ g.present e.store → KeepsMarks (g.stands e.store) (g.stands store) → KeepsTexts (g.names e.store) (g.names store)
        → GainsChoice (g.stands e.store) (g.stands store) g.older (g.present e.store) (l.whole e.lists) place (left.Offered goal offers) e.choices.items choices.items
        → MeetsRow g l (record e { store = store; choices = choices }) goal (with_rights arguments rights s.list s) place
    pushed_some store choices all top some same keeps texts gains =
        let many = rights_count made (meaning (g.present e.store) goal) offers in
        let x = Offered arguments rights in
        let has : HasLeft (AreLeft (own_of l) (g.names e.store) e.db) (l.call (g.present e.store) e.lists (l.whole e.lists)) (g.present e.store) (left.Offered goal offers) (record { list = s.list; subst = s.subst; next = s.next; built = s.built; left = x }) =
        record { holds = h.holds; made = made; is = refl; each = each; some = some } in
        subst (λ (y : State). MeetsRow g l (record e { store = store; choices = choices }) goal y place) (sym (rights_some arguments rights s.list s (omega (arith, many, some)))) (record {
          ahead = ahead_left g l e s place store choices (left.Offered goal offers) x all top h.ahead has h.space same keeps texts gains;
          space = h.space;
          holds = subst (λ (p : Present W). p.holds goal ≡ true) (sym same) h.holds;
        })

  -- ---- the first row is taken from those of the newest choice

  module _ (e : Search S L W M K P C N B O) (c : kept.Choice W M K P C) (s : State) (a : Alternative) (below : List Alternative) (w : WentBack g l e c s a below) (goal : W) (offers : kept_rows.Offers) (is : c.left ≡ left.Offered goal offers) where
    pub offered_there : HasLeft (AreLeft (own_of l) (g.names e.store) e.db) (l.call (g.present e.store) e.lists c.kept) (g.present e.store) (left.Offered goal offers) a
    offered_there = has_left g l e c s a below w (left.Offered goal offers) is

    abbrev here : Tree
    here = meaning (g.present e.store) goal

    abbrev rows_of : Tree
    rows_of = goal_arguments here

    -- room for one more
    next_space : a.next + numbers_a_step * (e.steps + 1) ≤ most_numbers
    next_space = subst (λ (n : ℕ). a.next + numbers_a_step * (e.steps + n) ≤ most_numbers) (ap entered_at offered_there.is) w.room.0

    -- the choice stands
    pub there_is : (n : ℕ) → n ≡ vec_len e.choices → slice_get e.choices.items (n - 1) ≡ Some c
    there_is n count = subst (λ (k : ℕ). slice_get e.choices.items (k - 1) ≡ Some c) (sym (count ∙ e.choices.ok.0)) w.newest

    -- The first row was taken at the choice, which has these others left.
    pub record Taken (new : List (kept.Choice W M K P C)) (r : OfferedRow) (is_last : Bool) : Type 0 where
      pub others : kept_rows.Offers
      pub are : rows_in offers ≡ r ∷ rows_in others
      pub each : AreRows here others
      pub of : IsRow here r
      pub last : is_last ≡ (length (rows_in others) == 0)
      pub made : new ≡ take (length e.choices.items - 1) e.choices.items ++ with_left c (left.Offered goal others) ∷ []

    pub taken : (n : ℕ) (new : List (kept.Choice W M K P C)) (result : Option (OfferedRow × Bool)) (r : OfferedRow) (is_last : Bool) → n ≡ vec_len e.choices → 0 < length e.choices.items
        → (slice_get e.choices.items (n - 1) ≡ Some c → c.left ≡ left.Offered goal offers → 0 < length (rows_in offers) → TakesOffer c goal offers (n - 1) e.choices.items new result)
        → result ≡ Some (r, is_last) → Taken new r is_last
    taken n new result r is_last count some takes came =
        let many : n ≡ length e.choices.items = count ∙ e.choices.ok.0 in
        let t = takes (there_is n count) is offered_there.some in
        let same = some_pair t.row r (length (rows_in t.others) == 0) is_last (sym t.is ∙ came) in
        let one = same.0 in
        let stay = t.each here offered_there.each in
        record {
          others = t.others;
          are = t.are ∙ ap (λ (x : OfferedRow). x ∷ rows_in t.others) one;
          each = stay.0;
          of = subst (IsRow here) one stay.1;
          last = sym same.1;
          made = t.changed ∙ (ap (λ (k : ℕ). slice_set e.choices.items (k - 1) (with_left c (left.Offered goal t.others))) many
              ∙ last_set e.choices.items (length e.choices.items - 1) (with_left c (left.Offered goal t.others)) (omega (arith, some)));
        }

    before_length : 0 < length e.choices.items → length (take (length e.choices.items - 1) e.choices.items) + 1 ≡ length e.choices.items
    before_length some =
        let all = ap length (last_split e.choices.items (length e.choices.items - 1) c w.newest (omega (arith, some))) in
        let long = length_last (take (length e.choices.items - 1) e.choices.items) c in
        omega (arith, all, long)

    module _ (r : OfferedRow) (is_last : Bool) (new : List (kept.Choice W M K P C)) (t : Taken new r is_last) (some : 0 < length e.choices.items) where
      -- it is taken away
      pub taken_gone : (n : ℕ) (after : List (kept.Choice W M K P C)) → n ≡ vec_len e.choices → after ≡ take (n - 1) new → after ≡ take (length e.choices.items - 1) e.choices.items
      taken_gone n after count gone =
          let many : n ≡ length e.choices.items = count ∙ e.choices.ok.0 in
          let before = take (length e.choices.items - 1) e.choices.items in
          let long = before_length some in
          let place : n - 1 ≡ length before = omega (arith, many, long) in
          gone ∙ (ap (take (n - 1)) t.made ∙ (ap (λ (k : ℕ). take k (before ++ with_left c (left.Offered goal t.others) ∷ [])) place ∙ front_is before (with_left c (left.Offered goal t.others))))

      -- as many stand
      pub taken_many : length new ≡ length e.choices.items
      taken_many =
          let long = before_length some in
          let all = ap length t.made in
          let last = length_last (take (length e.choices.items - 1) e.choices.items) (with_left c (left.Offered goal t.others)) in
          omega (arith, long, all, last)

      -- others are left
      pub next_some : (choices : Vec (kept.Choice W M K P C) Global) → ((k : K) → l.within e.lists k → l.below k (l.whole e.lists)) → is_last ≡ false → choices.items ≡ new → MeetsNext g l (record e { choices = choices }) goal c.rest s a below r
      next_some choices top more same =
          let h = offered_there in
          let others : 0 < length (rows_in t.others) = positive (length (rows_in t.others)) (eqb-false (length (rows_in t.others)) 0 (sym t.last ∙ more)) in
          let many = rights_count h.made here t.others in
          let x = Offered rows_of (rights_of h.made here t.others) in
          let pushed_row : MeetsRow g l (record e { choices = choices }) goal (pushed a.list x (went_back a below s)) c.rest = record {
            ahead = ahead_changed g l e c s a below w (left.Offered goal t.others) x choices top (ap entered_at h.is) (record { holds = h.holds; made = h.made; is = refl; each = t.each; some = others }) (same ∙ t.made);
            space = next_space;
            holds = h.holds;
          } in
          record {
            made = h.made;
            others = rights_of h.made here t.others;
            of = t.of;
            left = h.is ∙ ap (Offered rows_of) (rights_first h.made here offers t.others r t.are);
            meets = subst (λ (y : State). MeetsRow g l (record e { choices = choices }) goal y c.rest) (sym (rights_some rows_of (rights_of h.made here t.others) a.list (went_back a below s) (omega (arith, many, others)))) pushed_row;
          }

      -- it was the last one, and the choice is gone
      pub next_last : (store : S) (choices : Vec (kept.Choice W M K P C) Global) → is_last ≡ true → g.present store ≡ g.present e.store → ((m : M) (p : Present W) → g.older m c.mark → g.stands e.store m p → g.stands store m p)
          → KeepsTexts (g.names e.store) (g.names store) → choices.items ≡ take (length e.choices.items - 1) e.choices.items → MeetsNext g l (record e { store = store; choices = choices }) goal c.rest s a below r
      next_last store choices last same marks texts made =
          let h = offered_there in
          let none : length (rows_in t.others) ≡ 0 = eqb-true (length (rows_in t.others)) 0 (sym t.last ∙ last) in
          let many = rights_count h.made here t.others in
          let back = went_back a below s in
          let goal_same : meaning (g.present e.store) goal ≡ meaning (g.present store) goal = ap (λ (p : Present W). meaning p goal) (sym same) in
          let row : MeetsRow g l (record e { store = store; choices = choices }) goal back c.rest = record {
            ahead = dropped g l e c s a below w store choices same marks texts made;
            space = next_space;
            holds = subst (λ (p : Present W). p.holds goal ≡ true) (sym same) h.holds;
          } in
          record {
            made = h.made;
            others = rights_of h.made here t.others;
            of = subst (λ (x : Tree). IsRow x r) goal_same t.of;
            left = h.is ∙ (ap (Offered rows_of) (rights_first h.made here offers t.others r t.are) ∙ ap (λ (x : Tree). Offered (goal_arguments x) (row_offer h.made x r ∷ rights_of h.made here t.others)) goal_same);
            meets = subst (λ (x : State). MeetsRow g l (record e { store = store; choices = choices }) goal x c.rest)
                (sym (rights_none (goal_arguments (meaning (g.present store) goal)) (rights_of h.made here t.others) a.list back (omega (arith, many, none)))) row;
          }

      -- ---- what falls

      taken_cost : tried_cost c.left (l.cost e.lists c.rest) ≡ suc (body_cost most (l.cost e.lists c.rest)) + left_cost (length (rows_in t.others)) (l.cost e.lists c.rest)
      taken_cost =
          ap (λ (x : Left W C). tried_cost x (l.cost e.lists c.rest)) is
          ∙ (ap (λ (n : ℕ). left_cost n (l.cost e.lists c.rest)) (ap length t.are) ∙ left_step (length (rows_in t.others)) (l.cost e.lists c.rest))

      pub some_cost : (choices : List (kept.Choice W M K P C)) → choices ≡ new → choices_cost (l.cost e.lists) choices + (body_cost most (l.cost e.lists c.rest) + 1) ≤ kept_cost l e
      some_cost choices same =
          let all = changed_cost g l e c s a below w (left.Offered goal t.others) choices some (same ∙ t.made) in
          let one = taken_cost in
          omega (arith, all, one)

      pub last_cost : (choices : List (kept.Choice W M K P C)) → choices ≡ take (length e.choices.items - 1) e.choices.items → choices_cost (l.cost e.lists) choices + (body_cost most (l.cost e.lists c.rest) + 1) ≤ kept_cost l e
      last_cost choices made =
          let all = newest_costs l e c choices some w.newest made in
          let one = taken_cost in
          omega (arith, all, one)

  -- ---- what the first row that was left comes to

  module _ (e : Search S L W M K P C N B O) (goal : W) (place : P) (s : State) (a : Alternative) (below : List Alternative) (r : OfferedRow) (h : MeetsNext g l e goal place s a below r) (first : Tree) (rights : List walker.Offer)
      (left : a.left ≡ Offered first rights) where
    abbrev mid : State
    mid = with_rights (goal_arguments (meaning (g.present e.store) goal)) h.others a.list (went_back a below s)

    -- the rows that were left
    pub next_is : tried_right (goal_arguments (meaning (g.present e.store) goal)) (row_offer h.made (meaning (g.present e.store) goal) r) mid.list mid ≡ offered first rights a.list (went_back a below s)
    next_is =
        let both : Offered (goal_arguments (meaning (g.present e.store) goal)) (row_offer h.made (meaning (g.present e.store) goal) r ∷ h.others) ≡ Offered first rights = sym h.left ∙ left in
        let lefts : goal_arguments (meaning (g.present e.store) goal) ≡ first = cc in
        let rows : row_offer h.made (meaning (g.present e.store) goal) r ∷ h.others ≡ rights = cc in
        let keep = rights_keep (goal_arguments (meaning (g.present e.store) goal)) h.others (went_back a below s) in
        ap (λ (ms : List Member). tried_right (goal_arguments (meaning (g.present e.store) goal)) (row_offer h.made (meaning (g.present e.store) goal) r) ms mid) keep.0 ∙ (λ i. offered (lefts i) (rows i) a.list (went_back a below s))

    pub next_keeps : ((offered first rights a.list (went_back a below s)).stack ≡ mid.stack) × ((offered first rights a.list (went_back a below s)).world ≡ s.world) × (mid.world ≡ s.world)
    next_keeps =
        let k = right_keeps h.made (goal_arguments (meaning (g.present e.store) goal)) (meaning (g.present e.store) goal) r h.of mid.list mid in
        let m = rights_keep (goal_arguments (meaning (g.present e.store) goal)) h.others (went_back a below s) in
        (ap (λ (x : State). x.stack) (sym next_is) ∙ k.0, ap (λ (x : State). x.world) (sym next_is) ∙ (k.1 ∙ m.1), m.1)

  -- ---- operators and flags change

  module _ (e : Search S L W M K P C N B O) (goal : W) (s : State) (place : P) (h : MeetsRow g l e goal s place) where
    changed_engine : (next : Now N P) (ops : List Operator) (flags : Flags) (x : Settled) → x ≡ Changes 0 (with_settings s.world ops flags)
        → IsBehind l (g.present e.store) e.lists place next s.list → IsEngine g l (record e { ops = ops; flags = flags; now = next }) (settled x s.list s)
    changed_engine next ops flags x is comes =
        let a = h.ahead in
        let y : State = record s { built = s.built + 0; world = with_settings s.world ops flags } in
        let ahead : IsAhead g l (record e { ops = ops; flags = flags }) y place = record {
          world = record { database_is = a.world.database_is; keyed = a.world.keyed; found = a.world.found; vocabulary_is = a.world.vocabulary_is; operators_are = refl; flags_are = refl };
          steps = a.steps;
          base = a.base;
          choices = a.choices;
          room = a.room;
          fits = fits_more g (g.present e.store) (l.pending e.lists place) s y refl (omega arith) a.fits;
          goes = record { subst = a.goes.subst; next = a.goes.next; room = a.goes.room; words = a.goes.words };
          chain = a.chain;
        } in
        subst (λ (z : Settled). IsEngine g l (record e { ops = ops; flags = flags; now = next }) (settled z s.list s)) (sym is)
        (engine_place g l (record e { ops = ops; flags = flags }) y place next ahead comes)

    -- they stay
    same_settings : (ops : List Operator) (flags : Flags) → ops ≡ e.ops → flags ≡ e.flags → MeetsRow g l (record e { ops = ops; flags = flags }) goal s place
    same_settings ops flags one other =
        subst (λ (x : List Operator). MeetsRow g l (record e { ops = x; flags = flags }) goal s place) (sym one)
        (subst (λ (x : Flags). MeetsRow g l (record e { flags = x }) goal s place) (sym other) h)

  -- ---- what a goal came to, by the contract of `settle`

  module _ (e : Search S L W M K P C N B O) (setting : Setting) (goal : W) (s : State) (place : P) (h : AsksAt g l e setting goal s place) (ops : List Operator) (flags : Flags) (r : Result Came Fault)
      (told : (w : World) → w.operators ≡ e.ops → w.flags ≡ e.flags → IsSettled w ops flags setting (meaning (g.present e.store) goal) (setting_settled setting (meaning (g.present e.store) goal) w) r) where
    abbrev goal_settled : Settled
    goal_settled = setting_settled setting (meaning (g.present e.store) goal) s.world

    settles : IsSettled s.world ops flags setting (meaning (g.present e.store) goal) goal_settled r
    settles = told s.world (sym h.meets.ahead.world.operators_are) (sym h.meets.ahead.world.flags_are)

    settled_as : (x : Result Came Fault) → r ≡ x → IsSettled s.world ops flags setting (meaning (g.present e.store) goal) goal_settled x
    settled_as x is = subst (λ (y : Result Came Fault). IsSettled s.world ops flags setting (meaning (g.present e.store) goal) goal_settled y) is settles

    pub comes_done : (next : Now N P) → r ≡ Ok came.Done → IsBehind l (g.present e.store) e.lists place next s.list → IsEngine g l (record e { ops = ops; flags = flags; now = next }) (settled goal_settled s.list s)
    comes_done next is comes = changed_engine e goal s place h.meets next ops flags goal_settled (settled_as (Ok came.Done) is) comes

    pub comes_offers : (offers kept : Vec Offer Global) → r ≡ Ok (came.Offers offers) → kept.items ≡ reverse offers.items → OnOffers r (ops ≡ e.ops) → OnOffers r (flags ≡ e.flags)
        → MeetsRow g l (record e { ops = ops; flags = flags }) goal s place
        × (offered (goal_arguments (meaning (g.present e.store) goal)) (rights_of (setting_arity setting) (meaning (g.present e.store) goal) (rows.Constants kept)) s.list s ≡ settled goal_settled s.list s)
    comes_offers offers kept is turned one other = (
      same_settings e goal s place h.meets ops flags (on_offers r offers one is) (on_offers r offers other is),
      settled_offers goal_settled setting (meaning (g.present e.store) goal) offers.items kept s turned (settled_as (Ok (came.Offers offers)) is) h.arity_is,
    )

    pub comes_raised : (ball : Ball) → r ≡ Err (fault.Raise ball) → (goal_settled ≡ Refuses (term_of ball.term.value)) × (arities_fit (term_of ball.term.value) ≡ true)
    comes_raised ball is = refused_is goal_settled ball (settled_as (Err (fault.Raise ball)) is)

    pub ahead_faulted : (f : Fault) → r ≡ Err f → OnErr r (ops ≡ e.ops) → OnErr r (flags ≡ e.flags) → IsAhead g l (record e { ops = ops; flags = flags }) s place
    ahead_faulted f is one other = (same_settings e goal s place h.meets ops flags (on_error r f one is) (on_error r f other is)).ahead

    pub comes_full : r ≡ Err fault.Full → ⊥
    comes_full is = settled_as (Err fault.Full) is

  -- ---- the engine's move at rows that were left

  module _ (e new : Search S L W M K P C N B O) (s : State) (r : Represents g l e s) (a : Alternative) (below : List Alternative) (doing : e.now ≡ now.Failing) (stack : r.own.stack ≡ a ∷ below) (left : Tree) (rights : List walker.Offer)
      (is : a.left ≡ Offered left rights) where
    offers_to : step r.own ≡ Goes (offered left rights a.list (went_back a below r.own))
    offers_to =
        let first = comes_next g l e r.own now.Failing doing r.engine in
        back_step r.own first.0 a below (Offered left rights) first.1 stack is

    pub offers_on : StandsAs g l new (offered left rights a.list (went_back a below r.own)) → IsAwake (phase_of new.now) → Moves g l move.Goes s new
    offers_on engine awake = goes_alike g l e new s r (offered left rights a.list (went_back a below r.own)) offers_to engine awake

    pub offers_stop : ((offered left rights a.list (went_back a below r.own)).world ≡ r.own.world) × Keeps g l new r.own.world (offered left rights a.list (went_back a below r.own)).stack × FitsState g (g.present new.store) 0 (offered left rights a.list (went_back a below r.own)) → Refused g l new s
    offers_stop kept =
        let v = offered left rights a.list (went_back a below r.own) in
        record {
          stopped = stops g l new r.own v s v.stack r.same offers_to refl kept.0 kept.1;
          fits = fits_on g (g.present new.store) r.own v s offers_to r.same kept.2;
        }

    -- no choice is left then
    pub shows_stop : Keeps g l new r.own.world [] × FitsState g (g.present new.store) 0 (offered left rights a.list (went_back a below r.own)) → Refused g l new s
    shows_stop kept = record {
      stopped = stops_bare g l new r.own s r.same kept.0;
      fits = fits_on g (g.present new.store) r.own (offered left rights a.list (went_back a below r.own)) s offers_to r.same kept.1;
    }
