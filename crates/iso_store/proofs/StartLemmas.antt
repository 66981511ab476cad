-- Where the parts of a term begin.
use Rattle.std.proofs.Common.{◌≡◌, ◌≢◌, ℕ, inl, inr, zero, suc, ◌+◌, ◌-◌, ◌<◌, ◌≤◌, nat_le, List, [], ◌∷◌, ◌++◌, length, take, drop, get_or, true, refl, ap, ap₂, sym, ◌∙◌, subst, arith, append_assoc, append-nil, length-append}
use Rattle.std.specs.List.{All}
use Rattle.std.proofs.lemmas.Bool.{and_parts, leb-true, cases_eq}
use Rattle.std.proofs.lemmas.List.{length-take, length-drop, take-append-drop, get_or-take, drop_more, drop_all, nil_from_length}
use Rattle.std.proofs.lemmas.List.Elements.{All-take, All-drop}
use Rattle.iso_atoms.specs.Texts.{text_at}
use Rattle.iso_model.specs.Terms.Trees.{Tree, Variable, Integer, Name, Apply, End, row}
use Rattle.iso_model.specs.Terms.Building.{Give, Gather, with_step}
use Rattle.iso_model.proofs.OnTerms.BuildingLemmas.{with_gathered}
use Rattle.iso_store_core.specs.declared.patterns.Part.{Part}
use Rattle.iso_store_core.specs.declared.patterns.Part.TheVariants.{Variable as Place, Integer as Number, Atom, Compound}
use Rattle.iso_store_core.specs.Exact.{are_exact}
use Rattle.iso_store_core.specs.Patterns.{IsNamed, part_step, after_parts}
use Rattle.iso_store.specs.Reading.{first_terms, parts_between, term_between, IsBetween}
use Rattle.iso_store.proofs.InstanceLemmas.{next-part}

-- the last term is apart from those before it
pub record Apart (xs bs os : List Tree) (u : Tree) : Type 0 where
  pub rest : List Tree
  pub own : os ≡ rest ++ u ∷ []
  pub others : xs ≡ bs ++ rest

pub last-apart : (xs bs os : List Tree) (u : Tree) → xs ++ u ∷ [] ≡ bs ++ os → 0 < length os → Apart xs bs os u
last-apart xs [] os u same some = record { rest = xs; own = sym same; others = refl }
last-apart [] (b ∷ bs) os u same some =
    let many : length (u ∷ []) ≡ length (b ∷ bs ++ os) = ap length same in
    let more = length-append bs os in
    absurd (omega arith)
last-apart (x ∷ xs) (b ∷ bs) os u same some =
    let first : x ≡ b = cc in
    let rest : xs ++ u ∷ [] ≡ bs ++ os = cc in
    let inner = last-apart xs bs os u rest some in
    record { rest = inner.rest; own = inner.own; others = ap₂ ◌∷◌ first inner.others }

-- a step makes at most one term more
gathered-many : (f : List ℕ) (n : ℕ) (ts : List Tree) → length (with_step (Gather f n) ts) ≡ length ts - n + 1
gathered-many f n ts =
    let all = length-append (take (length ts - n) ts) (Apply f (row (drop (length ts - n) ts)) ∷ []) in
    let front = length-take (length ts - n) ts in
    omega arith

module _ (names : List (List ℕ)) where
  terms-few : (ks : List Part) (ts : List Tree) → length (after_parts names ks ts) ≤ length ts + length ks
  terms-few [] ts = omega arith
  terms-few (Place k ∷ ks) ts = omega (arith, terms-few ks (ts ++ Variable k ∷ []), length-append ts (Variable k ∷ []))
  terms-few (Number z ∷ ks) ts = omega (arith, terms-few ks (ts ++ Integer z ∷ []), length-append ts (Integer z ∷ []))
  terms-few (Atom a ∷ ks) ts = omega (arith, terms-few ks (ts ++ Name (text_at names a) ∷ []), length-append ts (Name (text_at names a) ∷ []))
  terms-few (Compound a n ∷ ks) ts =
      omega (arith, terms-few ks (with_step (Gather (text_at names a) n) ts), gathered-many (text_at names a) n ts)

  -- of exact parts, a compound has its arguments before it
  exact-after : (ks : List Part) (ts : List Tree) (i a n : ℕ) (d : Part) → are_exact ks (length ts) ≡ true → i < length ks → get_or ks i d ≡ Compound a n → n ≤ length (after_parts names (take i ks) ts)
  exact-after [] ts i a n d exact below is = elim below [ ]
  exact-after (Place k ∷ ks) ts zero a n d exact below is = cc
  exact-after (Number z ∷ ks) ts zero a n d exact below is = cc
  exact-after (Atom b ∷ ks) ts zero a n d exact below is = cc
  exact-after (Compound b m ∷ ks) ts zero a n d exact below is =
      let same : m ≡ n = cc in
      let within = leb-true m (length ts) (and_parts (nat_le m (length ts)) (are_exact ks (length ts - m + 1)) exact).0 in
      omega arith
  exact-after (Place k ∷ ks) ts (suc i) a n d exact below is =
      exact-after ks (ts ++ Variable k ∷ []) i a n d (ap (are_exact ks) (length-append ts (Variable k ∷ [])) ∙ exact) (omega arith) is
  exact-after (Number z ∷ ks) ts (suc i) a n d exact below is =
      exact-after ks (ts ++ Integer z ∷ []) i a n d (ap (are_exact ks) (length-append ts (Integer z ∷ [])) ∙ exact) (omega arith) is
  exact-after (Atom b ∷ ks) ts (suc i) a n d exact below is =
      exact-after ks (ts ++ Name (text_at names b) ∷ []) i a n d (ap (are_exact ks) (length-append ts (Name (text_at names b) ∷ [])) ∙ exact) (omega arith) is
  exact-after (Compound b m ∷ ks) ts (suc i) a n d exact below is =
      let inner = (and_parts (nat_le m (length ts)) (are_exact ks (length ts - m + 1)) exact).1 in
      exact-after ks (with_step (Gather (text_at names b) m) ts) i a n d (ap (are_exact ks) (gathered-many (text_at names b) m ts) ∙ inner) (omega arith) is

  pub exact-at : (ks : List Part) (i a n : ℕ) → are_exact ks 0 ≡ true → i < length ks → Compound a n ≡ get_or ks i (Compound a n) → n ≤ length (first_terms names ks i)
  exact-at ks i a n exact below is = exact-after ks [] i a n (Compound a n) exact below (sym is)

-- what a step makes ends with a term
pub record Ends (ts : List Tree) : Type 0 where
  pub front : List Tree
  pub last : Tree
  pub is : ts ≡ front ++ last ∷ []

step-ends : (names : List (List ℕ)) (k : Part) (ts : List Tree) → Ends (with_step (part_step names Variable k) ts)
step-ends names (Place k) ts = record { front = ts; last = Variable k; is = refl }
step-ends names (Number z) ts = record { front = ts; last = Integer z; is = refl }
step-ends names (Atom a) ts = record { front = ts; last = Name (text_at names a); is = refl }
step-ends names (Compound a n) ts = record { front = take (length ts - n) ts; last = Apply (text_at names a) (row (drop (length ts - n) ts)); is = refl }

-- how many terms before it the part takes
abbrev pub takes : Part → ℕ
takes (Place k) = 0
takes (Number z) = 0
takes (Atom a) = 0
takes (Compound a n) = n

-- The parts from the one place on to the other make the last term of the other, of the last terms of the first, so many.
pub record Starts (names : List (List ℕ)) (ks : List Part) (from past needed : ℕ) : Type 0 where
  pub before : List Tree
  pub own : List Tree
  pub term : Tree
  pub split : first_terms names ks from ≡ before ++ own
  pub many : length own ≡ needed
  pub whole : first_terms names ks past ≡ before ++ term ∷ []
  pub makes : (zs : List Tree) → after_parts names (parts_between names ks from past) (zs ++ own) ≡ zs ++ term ∷ []

-- What a part takes, and what it makes of that.
pub record Takes (names : List (List ℕ)) (k : Part) (ts bs os : List Tree) (n : ℕ) : Type 0 where
  pub own : List Tree
  pub split : ts ≡ bs ++ own
  pub many : length own ≡ length os - 1 + n
  pub makes : (zs : List Tree) → with_step (part_step names Variable k) (zs ++ own) ≡ zs ++ os

module _ (names : List (List ℕ)) where
  takes-leaf : (k : Part) (u : Tree) (ts bs os : List Tree) → part_step names Variable k ≡ Give (u ∷ []) → ts ++ u ∷ [] ≡ bs ++ os → 0 < length os → Takes names k ts bs os 0
  takes-leaf k u ts bs os step same some =
      let apart = last-apart ts bs os u same some in
      record {
        own = apart.rest;
        split = apart.others;
        many = omega (arith, ap length apart.own, length-append apart.rest (u ∷ []));
        makes = λ zs. ap (λ j. with_step j (zs ++ apart.rest)) step ∙ append_assoc zs apart.rest (u ∷ []) ∙ ap (λ us. zs ++ us) (sym apart.own);
      }

  takes-compound : (a n : ℕ) (ts bs os : List Tree) → n ≤ length ts → with_step (Gather (text_at names a) n) ts ≡ bs ++ os → 0 < length os → Takes names (Compound a n) ts bs os n
  takes-compound a n ts bs os enough same some =
      let front = take (length ts - n) ts in
      let end = drop (length ts - n) ts in
      let u = Apply (text_at names a) (row end) in
      let apart = last-apart front bs os u same some in
      let long = length-drop (length ts - n) ts in
      record {
        own = apart.rest ++ end;
        split = sym (take-append-drop (length ts - n) ts) ∙ ap (λ us. us ++ end) apart.others ∙ append_assoc bs apart.rest end;
        many = omega (arith, ap length apart.own, length-append apart.rest (u ∷ []), length-append apart.rest end, long);
        makes = λ zs.
            ap (with_step (Gather (text_at names a) n)) (sym (append_assoc zs apart.rest end)) ∙ with_gathered (text_at names a) n (zs ++ apart.rest) end (omega (arith, long))
            ∙ append_assoc zs apart.rest (u ∷ []) ∙ ap (λ us. zs ++ us) (sym apart.own);
      }

  takes-part : (k : Part) (ts bs os : List Tree) → takes k ≤ length ts → with_step (part_step names Variable k) ts ≡ bs ++ os → 0 < length os → Takes names k ts bs os (takes k)
  takes-part (Place j) ts bs os enough same some = takes-leaf (Place j) (Variable j) ts bs os refl same some
  takes-part (Number z) ts bs os enough same some = takes-leaf (Number z) (Integer z) ts bs os refl same some
  takes-part (Atom a) ts bs os enough same some = takes-leaf (Atom a) (Name (text_at names a)) ts bs os refl same some
  takes-part (Compound a n) ts bs os enough same some = takes-compound a n ts bs os enough same some

-- the parts of a pattern that are exact
module _ (names : List (List ℕ)) (ks : List Part) (exact : are_exact ks 0 ≡ true) (past : ℕ) (below : past ≤ length ks) where
  between-more : (from : ℕ) (d : Part) → from < past → parts_between names ks from past ≡ get_or ks from d ∷ parts_between names ks (from + 1) past
  between-more from d less =
      let long = length-take past ks in
      drop_more (take past ks) from d (omega arith) ∙ ap (λ k. k ∷ drop (from + 1) (take past ks)) (get_or-take past ks from d less)

  between-none : parts_between names ks past past ≡ []
  between-none = let long = length-take past ks in drop_all past (take past ks) (omega arith)

  takes-enough : (i : ℕ) (k : Part) → i < length ks → k ≡ get_or ks i k → takes k ≤ length (first_terms names ks i)
  takes-enough i (Place j) less is = omega arith
  takes-enough i (Number z) less is = omega arith
  takes-enough i (Atom a) less is = omega arith
  takes-enough i (Compound a n) less is = exact-at names ks i a n exact less is

  pub starts-here : 0 < past → Starts names ks past past 1
  starts-here some =
      let i = past - 1 in
      let next : suc i ≡ past = omega arith in
      let k = get_or ks i (Place 0) in
      let step : first_terms names ks past ≡ with_step (part_step names Variable k) (first_terms names ks i) = ap (first_terms names ks) (sym next) ∙ next-part names ks i k (omega arith) (get_or-default ks i (Place 0) k (omega arith)) in
      let ends = step-ends names k (first_terms names ks i) in
      record {
        before = ends.front;
        own = ends.last ∷ [];
        term = ends.last;
        split = step ∙ ends.is;
        many = refl;
        whole = step ∙ ends.is;
        makes = λ zs. ap (λ js. after_parts names js (zs ++ ends.last ∷ [])) between-none;
      }
    where
      get_or-default : {X : Type 0} (xs : List X) (i : ℕ) (d e : X) → i < length xs → get_or xs i d ≡ get_or xs i e
      get_or-default [] i d e less = absurd (omega arith)
      get_or-default (x ∷ xs) zero d e less = refl
      get_or-default (x ∷ xs) (suc i) d e less = get_or-default xs i d e (omega arith)

  pub starts-before : (from needed : ℕ) (k : Part) → from < past → k ≡ get_or ks from k → 0 < needed → Starts names ks (from + 1) past needed → Starts names ks from past (needed - 1 + takes k)
  starts-before from needed k less is some so =
      let next : suc from ≡ from + 1 = omega arith in
      let step : with_step (part_step names Variable k) (first_terms names ks from) ≡ so.before ++ so.own = sym (next-part names ks from k (omega arith) is) ∙ ap (first_terms names ks) next ∙ so.split in
      let inner = takes-part names k (first_terms names ks from) so.before so.own (takes-enough from k (omega arith) is) step (omega (arith, so.many)) in
      record {
        before = so.before;
        own = inner.own;
        term = so.term;
        split = inner.split;
        many = inner.many ∙ ap (λ m. m - 1 + takes k) so.many;
        whole = so.whole;
        makes = λ zs.
            ap (λ js. after_parts names js (zs ++ inner.own)) (between-more from k less ∙ ap (λ j. j ∷ parts_between names ks (from + 1) past) (sym is))
            ∙ ap (after_parts names (parts_between names ks (from + 1) past)) (inner.makes zs) ∙ so.makes zs;
      }

  pub starts-few : (from needed : ℕ) → Starts names ks from past needed → needed ≤ from
  starts-few from needed so =
      let few = terms-few names (take from ks) [] in
      let long = length-take from ks in
      let all = ap length so.split in
      let both = length-append so.before so.own in
      let many = so.many in
      omega arith

  pub starts-all : (from : ℕ) → from ≤ past → All (IsNamed names) ks → Starts names ks from past 0 → IsBetween names ks from past
  starts-all from within named so =
      let none : so.own ≡ [] = nil_from_length so.own so.many in
      let made : after_parts names (parts_between names ks from past) [] ≡ so.term ∷ [] = ap (after_parts names (parts_between names ks from past)) (sym none) ∙ so.makes [] in
      let here : term_between names ks from past ≡ so.term = ap (λ ts. get_or ts 0 End) made in
      record {
        within = within;
        pattern = record { named = All-drop (IsNamed names) from (take past ks) (All-take (IsNamed names) past ks named); term = made ∙ ap (λ t. t ∷ []) (sym here) };
        last =
            let start : first_terms names ks from ≡ so.before = so.split ∙ ap (λ us. so.before ++ us) none ∙ append-nil so.before in
            so.whole ∙ ap₂ (λ bs t. bs ++ t ∷ []) (sym start) (sym here);
      }

  pub starts-step : (from needed count : ℕ) (k : Part) → 0 < needed → needed ≤ from → from ≤ past → k ≡ get_or ks (from - 1) k → takes k ≡ count → Starts names ks from past needed → Starts names ks (from - 1) past (needed - 1 + count)
  starts-step from needed count k some few within is many so =
      let next : from ≡ from - 1 + 1 = omega arith in
      subst (λ m. Starts names ks (from - 1) past (needed - 1 + m)) many (starts-before (from - 1) needed k (omega arith) is some (subst (λ m. Starts names ks m past needed) next so))

  pub starts-earlier : (from : ℕ) → from ≤ past → Starts names ks from past 0 → from < past
  starts-earlier from within so =
      elim (cases_eq from past) [
        | inl same ↦
            let none : parts_between names ks from past ≡ [] = ap (λ m. parts_between names ks m past) same ∙ between-none in
            let own : so.own ≡ so.term ∷ [] = sym (ap (λ js. after_parts names js so.own) none) ∙ so.makes [] in
            absurd (omega (arith, ap length own, so.many))
        | inr other ↦ omega arith
      ]

pub takes-none : (k : Part) → ((a n : ℕ) → k ≢ Compound a n) → takes k ≡ 0
takes-none (Place j) other = refl
takes-none (Number z) other = refl
takes-none (Atom a) other = refl
takes-none (Compound a n) other = absurd (other a n refl)
