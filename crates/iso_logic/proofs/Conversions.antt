-- Definite queries and bodies are converted to goals of user procedures, whose term is the query or the body itself.
use Rattle.std.proofs.Common.{◌≡◌, ℕ, List, Bool, true, false, Option, Some, None, inl, inr, refl, sym, ap, ap₂, ◌∙◌, codes, if◌then◌else◌, ◌==◌, ◌&&◌, ◌||◌}
use Rattle.std.proofs.Common.{subst, arith}
use Rattle.std.proofs.lemmas.Bool.{eqb-true, or_left, or_right, and_parts, cases_Bool, false≢true, not-true, or_cases}
use Rattle.std.proofs.lemmas.Slice.Eq.{bytes_eq-Decides}
use Rattle.std.specs.Str.{bytes_eq}
use Rattle.iso_model.specs.Terms.Trees.{Tree, Variable, Integer, Name, Apply, End, More}
use Rattle.iso_model.specs.Terms.Sorts.{is_term}
use Rattle.iso_model.specs.Terms.Variables.{occurs, variable_count, is_in}
use Rattle.iso_model.specs.Terms.UnifierLaws.{AllBelow}
use Rattle.iso_model.specs.Search.Bodies.{Body, Cut, Run, And, If, two, either, both, converted, Or, Choose, one, body_term}
use Rattle.iso_model.specs.Search.Databases.{Key, key, key_of, same_key}
use Rattle.iso_model.specs.Search.Table.{is_built_in}
use Rattle.iso_logic.specs.DefiniteClauses.{AreGoals}
use Rattle.iso_model.proofs.OnTerms.SortLemmas.{row_of_arguments}
use Rattle.iso_logic.specs.DefinitePrograms.{is_user, are_goals}
use Rattle.iso_logic.proofs.GoalLemmas.{built_in_key}
use Rattle.iso_logic.specs.DefiniteQueries.{IsDefiniteQuery}
use Rattle.iso_model.proofs.OnTerms.CopyLemmas.{in_numbers_from}
use Rattle.iso_model.proofs.OnTerms.VariableLemmas.{listed_occurring}

-- ---- keys

pub same_key_is : (a b : Key) → same_key a b ≡ true → a ≡ b
same_key_is a b h =
    let parts = and_parts (a.arity == b.arity) (bytes_eq a.name b.name) h in
    let arity : a.arity ≡ b.arity = eqb-true a.arity b.arity parts.0 in
    let name : a.name ≡ b.name = (bytes_eq-Decides a.name b.name).0 parts.1 in
    ap₂ key name arity

pub user_key : (o : Option Key) → is_user o ≡ true → (k : Key) × (o ≡ Some k) × (is_built_in k ≡ false)
user_key None h = absurd (false≢true h)
user_key (Some k) h = (k, refl, not-true (is_built_in k) h)

-- a name that a test finds is a control construct's
no_control : (f g : List ℕ) (n : ℕ) → is_built_in (key g n) ≡ true → is_user (Some (key f n)) ≡ true → bytes_eq f g ≡ false
no_control f g n control user = elim (cases_Bool (bytes_eq f g)) [
  | inl here ↦ (let same : f ≡ g = (bytes_eq-Decides f g).0 here in
      let u = not-true (is_built_in (key f n)) user in
      absurd (false≢true (sym u ∙ ap (λ x. is_built_in (key x n)) same ∙ control)))
  | inr other ↦ other
]

-- ---- conversion

-- The term is converted to goals of user procedures.
pub record Converts (n : ℕ) (t : Tree) : Type 0 where
  pub body : Body
  pub is : converted t ≡ Some body
  pub goals : AreGoals n body

goal_converts : (n : ℕ) (t : Tree) → converted t ≡ Some (Run t) → is_user (key_of t) ≡ true → is_term t ≡ true → AllBelow n t → Converts n t
goal_converts n t is user term below = let k = user_key (key_of t) user in record { body = Run t; is = is; goals = ((k.0, k.1, k.2, term), below) }

pub pair_below : (n : ℕ) (f : List ℕ) (a b : Tree) → AllBelow n (two f a b) → AllBelow n a × AllBelow n b
pair_below n f a b h =
    (λ x o. h x (or_left (occurs x a) (occurs x b || false) o), λ x o. h x (or_right (occurs x a) (occurs x b || false) (or_left (occurs x b) false o)))

pub pair_terms : (f : List ℕ) (a b : Tree) → is_term (two f a b) ≡ true → (is_term a ≡ true) × (is_term b ≡ true)
pair_terms f a b h =
    let row : (is_term a && (is_term b && true)) ≡ true = row_of_arguments f (More a (More b End)) h in
    let one = and_parts (is_term a) (is_term b && true) row in
    (one.0, (and_parts (is_term b) true one.1).0)

two_converts : (n : ℕ) (f : List ℕ) (a b : Tree) → (are_goals a ≡ true → is_term a ≡ true → AllBelow n a → Converts n a)
    → (are_goals b ≡ true → is_term b ≡ true → AllBelow n b → Converts n b)
    → (comma : Bool) → bytes_eq f (codes ",") ≡ comma → (if comma then are_goals a && are_goals b else is_user (Some (key f 2))) ≡ true
    → is_term (two f a b) ≡ true → AllBelow n (two f a b) → Converts n (two f a b)
two_converts n f a b on_a on_b true e h term below =
    let parts = and_parts (are_goals a) (are_goals b) h in
    let terms = pair_terms f a b term in
    let low = pair_below n f a b below in
    let x = on_a parts.0 terms.0 low.0 in
    let y = on_b parts.1 terms.1 low.1 in
    record {
      body = And x.body y.body;
      is =
          ap (λ c. if c then both And (converted a) (converted b) else
          (if bytes_eq f (codes ";") then both either (converted a) (converted b) else
          (if bytes_eq f (codes "->") then both If (converted a) (converted b) else Some (Run (two f a b))))) e ∙ ap₂ (both And) x.is y.is;
      goals =
          (x.goals, y.goals);
    }
two_converts n f a b on_a on_b false e h term below =
    let semi = no_control f (codes ";") 2 refl h in
    let arrow = no_control f (codes "->") 2 refl h in
    let is : converted (two f a b) ≡ Some (Run (two f a b)) =
    ap (λ c. if c then both And (converted a) (converted b) else
    (if bytes_eq f (codes ";") then both either (converted a) (converted b) else
    (if bytes_eq f (codes "->") then both If (converted a) (converted b) else Some (Run (two f a b))))) e
    ∙ ap (λ c. if c then both either (converted a) (converted b) else
    (if bytes_eq f (codes "->") then both If (converted a) (converted b) else Some (Run (two f a b)))) semi
    ∙ ap (λ c. if c then both If (converted a) (converted b) else Some (Run (two f a b))) arrow in
    goal_converts n (two f a b) is h term below

pub goals_convert : (n : ℕ) (t : Tree) → are_goals t ≡ true → is_term t ≡ true → AllBelow n t → Converts n t
goals_convert n (Variable x) h term below = absurd (false≢true h)
goals_convert n (Integer z) h term below = absurd (false≢true h)
goals_convert n (Name a) h term below =
    goal_converts n (Name a) (ap (λ c. Some (if c then Cut else Run (Name a))) (no_control a (codes "!") 0 refl h)) h term below
goals_convert n (Apply f (More a (More b End))) h term below =
    two_converts n f a b (goals_convert n a) (goals_convert n b) (bytes_eq f (codes ",")) refl h term below
goals_convert n (Apply f ts) h term below = goal_converts n (Apply f ts) refl h term below
goals_convert n End h term below = absurd (false≢true h)
goals_convert n (More t ts) h term below = absurd (false≢true h)

-- ---- what was converted

both_and : (a b : Option Body) (c : Body) → both And a b ≡ Some c → (x : Body) × (y : Body) × (a ≡ Some x) × (b ≡ Some y) × (And x y ≡ c)
both_and (Some x) (Some y) c h = let same : And x y ≡ c = cc in (x, y, refl, refl, same)
both_and (Some x) None c h = let clash : None ≡ Some c = h in cc
both_and None b c h = let clash : None ≡ Some c = h in cc

no_goals : ℕ → Option Body → Type 0
no_goals n None = Unit {0}
no_goals n (Some c) = AreGoals n c → ⊥

either_none : (n : ℕ) (a b : Option Body) → no_goals n (both either a b)
unfolding no_goals
either_none n (Some (If a b)) (Some c) = λ g. g
either_none n (Some Cut) (Some c) = λ g. g
either_none n (Some (Run t)) (Some c) = λ g. g
either_none n (Some (And a b)) (Some c) = λ g. g
either_none n (Some (Or a b)) (Some c) = λ g. g
either_none n (Some (Choose a b d)) (Some c) = λ g. g
either_none n (Some a) None = tt
either_none n None b = tt

if_none : (n : ℕ) (a b : Option Body) → no_goals n (both If a b)
unfolding no_goals
if_none n (Some a) (Some c) = λ g. g
if_none n (Some a) None = tt
if_none n None b = tt

none_at : (n : ℕ) (o : Option Body) (c : Body) → no_goals n o → o ≡ Some c → AreGoals n c → ⊥
unfolding no_goals
none_at n (Some d) c h e g = let same : c ≡ d = cc in h (subst (AreGoals n) same g)
none_at n None c h e g = let clash : None ≡ Some c = e in cc

run_back : (t : Tree) (c : Body) → Some (Run t) ≡ Some c → body_term c ≡ t
run_back t c h = let same : c ≡ Run t = cc in ap body_term same

name_back : (n : ℕ) (a : List ℕ) (c : Body) (cut : Bool) → Some (if cut then Cut else Run (Name a)) ≡ Some c → AreGoals n c → body_term c ≡ Name a
name_back n a c true h g = let same : c ≡ Cut = cc in absurd (subst (AreGoals n) same g)
name_back n a c false h g = run_back (Name a) c h

two_back : (n : ℕ) (f : List ℕ) (a b : Tree) (c : Body) → ((x : Body) → converted a ≡ Some x → AreGoals n x → body_term x ≡ a)
    → ((x : Body) → converted b ≡ Some x → AreGoals n x → body_term x ≡ b)
    → (comma semi arrow : Bool) → bytes_eq f (codes ",") ≡ comma
    → (if comma then both And (converted a) (converted b) else
    (if semi then both either (converted a) (converted b) else (if arrow then both If (converted a) (converted b) else Some (Run (two f a b))))) ≡ Some c
    → AreGoals n c → body_term c ≡ two f a b
two_back n f a b c on_a on_b true semi arrow e h g =
    let p = both_and (converted a) (converted b) c h in
    let parts : AreGoals n (And p.0 p.1) = subst (AreGoals n) (sym p.4) g in
    let name : codes "," ≡ f = sym ((bytes_eq-Decides f (codes ",")).0 e) in
    ap body_term (sym p.4) ∙ ap₂ (two (codes ",")) (on_a p.0 p.2 parts.0) (on_b p.1 p.3 parts.1) ∙ ap (λ x. two x a b) name
two_back n f a b c on_a on_b false true arrow e h g =
    absurd (none_at n (both either (converted a) (converted b)) c (either_none n (converted a) (converted b)) h g)
two_back n f a b c on_a on_b false false true e h g = absurd (none_at n (both If (converted a) (converted b)) c (if_none n (converted a) (converted b)) h g)
two_back n f a b c on_a on_b false false false e h g = run_back (two f a b) c h

-- a conjunction of goals of user procedures was converted to itself
pub body_back : (n : ℕ) (t : Tree) (c : Body) → converted t ≡ Some c → AreGoals n c → body_term c ≡ t
body_back n (Variable x) c h g =
    let same : c ≡ Run (one (codes "call") (Variable x)) = cc in
    let user : AreGoals n (Run (one (codes "call") (Variable x))) = subst (AreGoals n) same g in
    absurd (built_in_key (one (codes "call") (Variable x)) user.0.0 (key (codes "call") 1) user.0.1 refl refl user.0.2)
body_back n (Integer z) c h g = let clash : None ≡ Some c = h in cc
body_back n (Name a) c h g = name_back n a c (bytes_eq a (codes "!")) h g
body_back n (Apply f (More a (More b End))) c h g =
    two_back n f a b c (λ x. body_back n a x) (λ x. body_back n b x) (bytes_eq f (codes ",")) (bytes_eq f (codes ";")) (bytes_eq f (codes "->")) refl h g
body_back n (Apply f ts) c h g = run_back (Apply f ts) c h
body_back n End c h g = let clash : None ≡ Some c = h in cc
body_back n (More t ts) c h g = let clash : None ≡ Some c = h in cc

pub body_below : (n : ℕ) (b : Body) → AreGoals n b → AllBelow n (body_term b)
body_below n (Run t) h = h.1
body_below n (And a b) h = λ x o. elim (or_cases (occurs x (body_term a)) _ o) [
  | inl left ↦ body_below n a h.0 x left
  | inr right ↦ elim (or_cases (occurs x (body_term b)) false right) [ inl there ↦ body_below n b h.1 x there | inr nowhere ↦ absurd (false≢true nowhere) ]
]
body_below n Cut h = absurd h
body_below n (Or a b) h = absurd h
body_below n (If a b) h = absurd h
body_below n (Choose a b c) h = absurd h

-- ---- queries

-- The query is converted to goals of user procedures.
pub record IsConverted (goal : Tree) : Type 0 where
  pub body : Body
  pub converts : converted goal ≡ Some body
  pub goals : AreGoals (variable_count goal) body

-- so it is with a definite query
pub query_converts : (goal : Tree) → IsDefiniteQuery goal → IsConverted goal
query_converts goal query =
    let low : AllBelow (variable_count goal) goal = λ x o.
    (let range = (in_numbers_from 0 (variable_count goal) x (subst (λ vs. is_in x vs ≡ true) query.numbered (listed_occurring goal x ∙ o))).1 in omega arith) in
    let c = goals_convert (variable_count goal) goal query.goals query.term low in
    record { body = c.body; converts = c.is; goals = c.goals }
