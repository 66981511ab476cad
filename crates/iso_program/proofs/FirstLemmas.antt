-- What the first argument of a head shows.
use Rattle.std.proofs.Common.{◌≡◌, ◌≢◌, ℕ, zero, suc, ◌+◌, ◌-◌, ◌<◌, List, [], ◌∷◌, ◌++◌, length, take, drop, get_or, true, ◌≤◌, subst₂, refl, ap, ap₂, sym, ◌∙◌, subst, arith, Some, length-append, nat_le}
use Rattle.std.specs.List.{All}
use Rattle.std.proofs.lemmas.Bool.{and_parts, leb-true}
use Rattle.std.proofs.lemmas.List.{nil_from_length, take_all, get_or_default}
use Rattle.std.proofs.lemmas.Option.{slice_get-get_or}
use Rattle.std.proofs.Math.Seq.{take-suc}
use Rattle.iso_atoms.specs.Texts.{text_at, EachOnce}
use Rattle.iso_model.specs.Terms.Trees.{Tree, Variable, Integer, Name, Apply, End, More, row, count}
use Rattle.iso_model.specs.Terms.Sorts.{is_term, is_row}
use Rattle.iso_model.specs.Terms.Substitutions.{Subst, apply}
use Rattle.iso_model.specs.Terms.Unifiers.{NeverEqual}
use Rattle.iso_model.specs.Terms.Building.{with_step}
use Rattle.iso_model.proofs.OnTerms.SortLemmas.{count-apply, row_of_arguments}
use Rattle.iso_store_core.specs.declared.patterns.Part.{Part}
use Rattle.iso_store_core.specs.declared.patterns.Part.TheVariants.{Variable as Place, Integer as Number, Atom, Compound}
use Rattle.iso_store_core.specs.declared.shapes.Shape.{Shape}
use Rattle.iso_store_core.specs.declared.shapes.Shape.TheVariants as shape
use Rattle.iso_store_core.specs.Shapes.{IsShape}
use Rattle.iso_store_core.specs.Exact.{are_exact}
use Rattle.iso_store_core.specs.Patterns.{IsNamed, IsPattern, part_step, after_parts}
use Rattle.iso_store_core.specs.Arguments.{argument}
use Rattle.iso_program.specs.Firsts.{IsTop, HasFirst, HasNoFirst, TakesMore, Leaves, Shows, Differs}
use Rattle.iso_program.proofs.PairLemmas.{after_joined, gathered_length}

-- ---- part by part

put_behind : (u : Tree) {ts us : List Tree} → ts ≡ us → ts ++ u ∷ [] ≡ us ++ u ∷ []
put_behind u same = ap (λ vs. vs ++ u ∷ []) same

pub after_next : (names : List (List ℕ)) (ks : List Part) (i : ℕ) (k : Part) → i < length ks → k ≡ get_or ks i k → after_parts names (take (suc i) ks) [] ≡ with_step (part_step names Variable k) (after_parts names (take i ks) [])
after_next names ks i k below is =
    let more : take (suc i) ks ≡ take i ks ++ k ∷ [] = take-suc ks i k below ∙ ap (λ j. take i ks ++ j ∷ []) (sym is) in
    ap (λ js. after_parts names js []) more ∙ after_joined names (take i ks) (k ∷ []) []

-- how many terms there are behind a part
pub length_next : (names : List (List ℕ)) (k : Part) (ts : List Tree) (left : ℕ) → Leaves k (length ts) left → length (with_step (part_step names Variable k) ts) ≡ left + 1
length_next names (Compound a n) ts left leaves = (let many = gathered_length (text_at names a) n ts (omega (arith, leaves)) in omega (arith, leaves, many))
length_next names k ts left leaves = length-append ts _ ∙ ap (λ n. n + 1) leaves

-- it is the first of them
pub shows_this : (names : List (List ℕ)) (k : Part) (ts : List Tree) → IsNamed names k → Leaves k (length ts) 0 → Shows names k (with_step (part_step names Variable k) ts)
shows_this names (Place j) ts named leaves = (Variable j, [], put_behind _ (nil_from_length ts leaves), refl)
shows_this names (Number z) ts named leaves = (Integer z, [], put_behind _ (nil_from_length ts leaves), refl)
shows_this names (Atom a) ts named leaves = (Name (text_at names a), [], put_behind _ (nil_from_length ts leaves), (named, refl))
shows_this names (Compound a n) ts named leaves =
    let none : length ts - n ≡ 0 = omega arith in
    (Apply (text_at names a) (row ts), [], ap (λ m. take m ts ++ Apply (text_at names a) (row (drop m ts)) ∷ []) none, (named, ts, refl, omega arith))

-- the first of them stays
pub shows_still : (names : List (List ℕ)) (k : Part) (first : Part) (ts : List Tree) (left : ℕ) → Leaves k (length ts) (suc left) → Shows names first ts → Shows names first (with_step (part_step names Variable k) ts)
shows_still names (Compound a n) f ts left leaves shows =
    let some : length ts - n ≡ suc left = omega arith in
    let new = Apply (text_at names a) (row (drop (length ts - n) ts)) in
    (shows.0, take left shows.1 ++ new ∷ [], ap₂ (λ m us. take m us ++ new ∷ []) some shows.2, shows.3)
shows_still names k f ts left leaves shows = (shows.0, shows.1 ++ _ ∷ [], put_behind _ shows.2, shows.3)

-- ---- as the parts are gone through

pub leaves_few : (k : Part) (n left : ℕ) → Leaves k n left → left ≤ n
leaves_few (Compound a m) n left leaves = omega (arith, leaves)
leaves_few k n left leaves = omega (arith, leaves)

module _ (names : List (List ℕ)) (ks : List Part) (i : ℕ) (k : Part) (stand left : ℕ) (below : i < length ks) (is : k ≡ get_or ks i k)
    (many : length (after_parts names (take i ks) []) ≡ stand) (leaves : Leaves k stand left) where
  now-leaves : Leaves k (length (after_parts names (take i ks) [])) left
  now-leaves = subst (λ n. Leaves k n left) (sym many) leaves

  pub many_next : length (after_parts names (take (suc i) ks) []) ≡ left + 1
  many_next = ap length (after_next names ks i k below is) ∙ length_next names k _ left now-leaves

  -- this part begins the first term
  pub first_next : All (IsNamed names) ks → left ≡ 0 → (j : Part) → j ≡ get_or ks i j → Shows names j (after_parts names (take (suc i) ks) [])
  first_next named none j at =
      let same : k ≡ j = is ∙ get_or_default ks i k j below ∙ sym at in
      let shown = shows_this names k (after_parts names (take i ks) []) (subst (IsNamed names) (sym is) (named i k below)) (subst (Leaves k (length (after_parts names (take i ks) []))) none now-leaves) in
      subst₂ (λ p ts. Shows names p ts) same (sym (after_next names ks i k below is)) shown

  -- the first term is as it was
  pub still_next : (j : Part) → left ≢ 0 → Shows names j (after_parts names (take i ks) []) → Shows names j (after_parts names (take (suc i) ks) [])
  still_next j some shows =
      let one : left ≡ suc (left - 1) = omega (arith, some) in
      subst (Shows names j) (sym (after_next names ks i k below is)) (shows_still names k j (after_parts names (take i ks) []) (left - 1) (subst (Leaves k (length (after_parts names (take i ks) []))) one now-leaves) shows)

-- ---- the last part, which is that of the whole
two-are-one : (us : List Tree) (u v t : Tree) → u ∷ (us ++ v ∷ []) ≡ t ∷ [] → ⊥
two-are-one us u v t same = absurd (omega (arith, simp length-append at (ap length same)))

whole-compound : (m : ℕ) (f : List ℕ) (us : List Tree) (u t : Tree) → take m (u ∷ us) ++ Apply f (row (drop m (u ∷ us))) ∷ [] ≡ t ∷ [] → t ≡ Apply f (More u (row us))
whole-compound zero f us u t same = let one : Apply f (More u (row us)) ∷ [] ≡ t ∷ [] = same in cc one
whole-compound (suc m) f us u t same = absurd (two-are-one (take m us) u _ t same)

pub has_first : (names : List (List ℕ)) (k j : Part) (ts : List Tree) (t : Tree) → Shows names k ts → with_step (part_step names Variable j) ts ≡ t ∷ [] → HasFirst names k t
has_first names k (Compound a n) ts t shows whole = record {
  name = text_at names a;
  first = shows.0;
  others = row shows.1;
  is =
      whole-compound (length ts - n) (text_at names a) shows.1 shows.0 t
      (sym (ap (λ us. take (length ts - n) us ++ Apply (text_at names a) (row (drop (length ts - n) us)) ∷ []) shows.2) ∙ whole);
  top = shows.3;
}
has_first names k j ts t shows whole = absurd (two-are-one shows.1 shows.0 _ t (sym (put_behind _ shows.2) ∙ whole))

pub first_of_all : (names : List (List ℕ)) (ks : List Part) (i : ℕ) (k : Part) (t : Tree) → IsPattern names ks t → suc i ≡ length ks → Shows names k (after_parts names (take i ks) []) → HasFirst names k t
first_of_all names ks i k t whole all shows =
    let last = get_or ks i k in
    let below : i < length ks = omega arith in
    let end = after_next names ks i last below (get_or_default ks i k last below) in
    has_first names k last (after_parts names (take i ks) []) t shows (sym end ∙ ap (λ js. after_parts names js []) (take_all (suc i) ks (omega arith)) ∙ whole.term)

-- ---- parts that are exact

exact_next : (names : List (List ℕ)) (k : Part) (ks : List Part) (ts : List Tree) → are_exact (k ∷ ks) (length ts) ≡ true
    → are_exact ks (length (with_step (part_step names Variable k) ts)) ≡ true
exact_next names (Compound a n) ks ts exact =
    let both = and_parts (nat_le n (length ts)) (are_exact ks (length ts - n + 1)) exact in
    ap (are_exact ks) (gathered_length (text_at names a) n ts (leb-true n (length ts) both.0)) ∙ both.1
exact_next names k ks ts exact = ap (are_exact ks) (length-append ts _) ∙ exact

enough_here : (k : Part) (ks : List Part) (before : ℕ) → are_exact (k ∷ ks) before ≡ true → TakesMore k before → ⊥
enough_here (Compound a n) ks before exact more =
    let few = leb-true n before (and_parts (nat_le n before) (are_exact ks (before - n + 1)) exact).0 in
    absurd {A = ⊥} (omega arith)
enough_here k ks before exact more = more

-- none of them takes more terms than came before it
pub enough_before : (names : List (List ℕ)) (ks : List Part) (ts : List Tree) (i : ℕ) (k d : Part)
    → are_exact ks (length ts) ≡ true → i < length ks → k ≡ get_or ks i d
    → TakesMore k (length (after_parts names (take i ks) ts)) → ⊥
enough_before names [] ts i k d exact below is more = elim below [ ]
enough_before names (j ∷ ks) ts zero k d exact below is more =
    enough_here j ks (length ts) exact (subst (λ (p : Part). TakesMore p (length ts)) is more)
enough_before names (j ∷ ks) ts (suc i) k d exact below is more =
    enough_before names ks (with_step (part_step names Variable j) ts) i k d (exact_next names j ks ts exact) (omega arith) is more

-- ---- terms without a first argument

pub some_parts : (names : List (List ℕ)) (ks : List Part) (t : Tree) → IsPattern names ks t → 0 < length ks
some_parts names [] t whole = (let none : [] ≡ t ∷ [] = whole.term in cc none)
some_parts names (k ∷ ks) t whole = omega arith

-- one that is made of no term
made_of_none : (names : List (List ℕ)) (k : Part) (t : Tree) → with_step (part_step names Variable k) [] ≡ t ∷ [] → HasNoFirst t
made_of_none names (Place j) t is f u us some =
    let same : Variable j ∷ [] ≡ Apply f (More u us) ∷ [] = is ∙ ap (λ (v : Tree). v ∷ []) some in
    cc same
made_of_none names (Number z) t is f u us some =
    let same : Integer z ∷ [] ≡ Apply f (More u us) ∷ [] = is ∙ ap (λ (v : Tree). v ∷ []) some in
    cc same
made_of_none names (Atom a) t is f u us some =
    let same : Name (text_at names a) ∷ [] ≡ Apply f (More u us) ∷ [] = is ∙ ap (λ (v : Tree). v ∷ []) some in
    cc same
made_of_none names (Compound a n) t is f u us some =
    let none : 0 - n ≡ 0 = omega arith in
    let same : Apply (text_at names a) End ∷ [] ≡ Apply f (More u us) ∷ [] =
    sym (ap (λ m. take m [] ++ Apply (text_at names a) (row (drop m [])) ∷ []) none) ∙ is ∙ ap (λ (v : Tree). v ∷ []) some in
    cc same

-- the whole is such a term, where nothing comes before its last part
pub none_of_all : (names : List (List ℕ)) (ks : List Part) (i : ℕ) (t : Tree) → IsPattern names ks t → suc i ≡ length ks
    → length (after_parts names (take i ks) []) ≡ 0 → HasNoFirst t
none_of_all names ks i t whole all none =
    let last = get_or ks i (Place 0) in
    let below : i < length ks = omega arith in
    let end = after_next names ks i last below (get_or_default ks i (Place 0) last below) in
    let all_parts = ap (λ (js : List Part). after_parts names js []) (take_all (suc i) ks (omega arith)) in
    let nothing = ap (with_step (part_step names Variable last)) (nil_from_length (after_parts names (take i ks) []) none) in
    made_of_none names last t (sym nothing ∙ sym end ∙ all_parts ∙ whole.term)

-- ---- terms that are never equal, as their outermost parts show

one-atom : (names : List (List ℕ)) (f g : ℕ) → EachOnce names → f < length names → g < length names → text_at names f ≡ text_at names g → f ≡ g
one-atom names f g once here there same = once.one_place f g (text_at names f) (slice_get-get_or names f [] here) (slice_get-get_or names g [] there ∙ ap Some (sym same))

-- a row has as many terms under substitutions
count-made : (s t : Subst) (ts : List Tree) → count (apply t (apply s (row ts))) ≡ length ts
count-made s t [] = refl
count-made s t (u ∷ us) = omega (arith, count-made s t us)

-- the number of arguments stays under substitutions
counts-same : (s t : Subst) (f g : List ℕ) (us : Tree) (ts : List Tree) → is_row us ≡ true → Apply f (apply t us) ≡ apply t (apply s (Apply g (row ts))) → count us ≡ length ts
counts-same s t f g us ts is same =
    let inner : apply t us ≡ apply t (apply s (row ts)) = cc same in
    sym (count-apply t us is) ∙ ap count inner ∙ count-made s t ts

-- a term of that shape is never equal to what is made of a term with that part
pub never_shown : (names : List (List ℕ)) (h : Shape) (k : Part) (a u : Tree) (s : Subst) → EachOnce names → IsShape names h a → is_term a ≡ true → IsTop names k u → Differs h k → NeverEqual a (apply s u)
never_shown names (shape.Int y) (Number z) a u s once one sort top differs t e =
    let both : Integer y ≡ Integer z = rw (one, top) at e in
    absurd (differs (cc both))
never_shown names (shape.Int y) (Atom b) a u s once one sort top differs t e = cc (rw (one, top.1) at e)
never_shown names (shape.Int y) (Compound g n) a u s once one sort top differs t e = cc (rw (one, top.2) at e)
never_shown names (shape.Atom b) (Number z) a u s once one sort top differs t e = cc (rw (one.1, top) at e)
never_shown names (shape.Atom b) (Atom c) a u s once one sort top differs t e =
    let both : Name (text_at names b) ≡ Name (text_at names c) = rw (one.1, top.1) at e in
    absurd (differs (one-atom names b c once one.0 top.0 (cc both)))
never_shown names (shape.Atom b) (Compound g n) a u s once one sort top differs t e = cc (rw (one.1, top.2) at e)
never_shown names (shape.Compound f m) (Number z) a u s once one sort top differs t e = cc (rw (one.2, top) at e)
never_shown names (shape.Compound f m) (Atom c) a u s once one sort top differs t e = cc (rw (one.2, top.1) at e)
never_shown names (shape.Compound f m) (Compound g n) a u s once one sort top differs t e =
    let both : Apply (text_at names f) (apply t one.1) ≡ Apply (text_at names g) (apply t (apply s (row top.1))) = sym (ap (apply t) one.2) ∙ e ∙ ap (λ v. apply t (apply s v)) top.2 in
    let name : text_at names f ≡ text_at names g = cc both in
    let rows = row_of_arguments (text_at names f) one.1 (ap is_term (sym one.2) ∙ sort) in
    let whole : Apply (text_at names g) (apply t one.1) ≡ apply t (apply s (Apply (text_at names g) (row top.1))) = ap (λ f. Apply f (apply t one.1)) (sym name) ∙ both in
    let many = counts-same s t (text_at names g) (text_at names g) one.1 top.1 rows whole in
    absurd (differs (one-atom names f g once one.0 top.0 name) (sym one.3 ∙ many ∙ top.3))
never_shown names h k a u s once one sort top differs t e = absurd differs

-- and so are compounds with these for their first arguments
pub never_compound : (names : List (List ℕ)) (k : Part) (a b t : Tree) (s : Subst) → HasFirst names k t → (f : List ℕ) (us : Tree) → a ≡ Apply f us → 0 < count us → b ≡ argument 0 a → ((u : Tree) → IsTop names k u → NeverEqual b (apply s u))
    → NeverEqual a (apply s t)
never_compound names k a b t s has f (More v vs) is some first never r e =
    let here : b ≡ v = first ∙ ap (argument 0) is in
    let both : Apply f (More (apply r v) (apply r vs)) ≡ Apply has.name (More (apply r (apply s has.first)) (apply r (apply s has.others))) = sym (ap (apply r) is) ∙ e ∙ ap (λ v. apply r (apply s v)) has.is in
    let one : apply r v ≡ apply r (apply s has.first) = cc both in
    absurd (never has.first has.top r (ap (apply r) here ∙ one))
never_compound names k a b t s has f us is some first never r e = absurd (omega arith)
