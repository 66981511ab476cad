-- How a goal is started, and how a clause comes to an engine that was cleared.
use Rattle.iso_model.specs.declared.pauses.AddFault.{AddFault}
use Rattle.iso_store_core.specs.declared.stores.Store.{Ghosts}
use Rattle.iso_search.specs.EngineStates.{IsEngine, Keeps}
use Rattle.iso_search.specs.Worlds.{IsWorld}
use Rattle.iso_store_core.specs.Presents.{Grows, KeepsMarks, Present}
use Rattle.iso_store_core.specs.Retaining.{CountsCells}
use Rattle.iso_search_core.specs.Fitting.{FitsState}
use Rattle.iso_search_core.proofs.CellLemmas.{converted_some, some_size}
use Rattle.iso_search_core.proofs.FittingLemmas.{fits_fewer}
use Rattle.iso_atoms.specs.Texts.{KeepsTexts}
use Rattle.iso_program.specs.Leaving.{Leaving}
use Rattle.iso_search.specs.declared.search.Search.{Search}
use Rattle.iso_model.specs.Terms.Substitutions.{Subst}
use Rattle.iso_model.specs.Terms.TermOf.{term_of}
use Rattle.std.proofs.Common.{◌≡◌, ◌≤◌, ◌<◌, ◌+◌, ◌*◌, ◌++◌, ℕ, List, [], ◌∷◌, length, true, Option, Some, None, codes, refl, ap, ap₂, sym, ◌∙◌, subst, arith, zero-add}
use Rattle.iso_model.specs.Terms.Trees.{Tree, Variable, Integer, Name, Apply, End, More}
use Rattle.iso_model.specs.Terms.Variables.{occurs, is_in, distinct_from, variables, variable_count}
use Rattle.iso_model.specs.Terms.Copies.{copy_from, renamed, numbers_from, IsNumbered}
use Rattle.iso_model.specs.Terms.Sizes.{size}
use Rattle.iso_model.specs.Terms.Sorts.{is_term}
use Rattle.iso_model.specs.Terms.Unification.Applied.{apply_alone}
use Rattle.iso_model.specs.declared.terms.Term.{Term}
use Rattle.iso_model.specs.Search.Bodies.{Body, Cut, Run, And, Or, If, Choose, body_term, converted, map_body, two}
use Rattle.iso_model.proofs.OnTerms.VariableLemmas.{listed_occurring}
use Rattle.iso_model.proofs.OnTerms.CopyLemmas.{copy_of_numbered, in_numbers_from}
use Rattle.iso_model.specs.Search.Databases.{Static, at_end}
use Rattle.iso_model.specs.Search.Errors.{key, type_error_callable}
use Rattle.iso_search_core.specs.declared.choices.Choice as kept
use Rattle.iso_search_core.specs.declared.nows.Now.TheVariants as now
use Rattle.iso_search_core.specs.Standing.{StandsForChoices, none_kept, one_kept}
use Rattle.std.specs.Prelude.{Result, Ok, Err, IsErrAnd}
use Rattle.iso_model.specs.Search.RunLaws.Sameness.{Same, SameStack, no_alternative, IsTwice}
use Rattle.iso_model.proofs.Search.RunLaws.SameSteps.{list_same, same_lists}
use Rattle.iso_search_core.specs.declared.lists.Lists as lists
use Rattle.iso_model.specs.Search.Walker.{World, State, Alternative, Goal, Raise, body_size, idle, opening, shown_query, started}
use Rattle.iso_model.specs.Search.Additions.{Addition, Adds, Refuses, Check, Fits, Faulty, checked, addition_by, consulted, consult_key}
use Rattle.iso_model.specs.declared.pauses.AddFault.TheVariants as add
use Rattle.iso_program.specs.Kept.{Prepares, IsRefused, AreTemplates}
use Rattle.iso_search.specs.Starts.{IsQuery, IsFresh, Comes}
use Rattle.iso_prep.specs.declared.connectives.Connective.{Connective}
use Rattle.iso_prep.specs.declared.fault.Fault.TheVariants as fault
use Rattle.iso_prep.specs.Connectives.{connective_of}
use Rattle.iso_prep.specs.Classes.{goals_of}
use Rattle.iso_prep.specs.Conversions.{joined, with_calls}
use Rattle.iso_prep.specs.Preparations.{Preparation, PreparesGoal}
use Rattle.iso_prep.proofs.ConversionLemmas.{converts}
use Rattle.iso_search_core.specs.Words.{word_terms, AreVariables}
use Rattle.iso_search_core.proofs.WordLemmas.{renamed_as}
use Rattle.iso_program.proofs.ClauseLemmas.{body_templates}
use Rattle.iso_search.proofs.StoppedLemmas.{base_kept}
use Rattle.iso_search.proofs.WorldLemmas.{world_on}

-- where no choice is stood for, there is none
pub no_choice_left : {S L W M K P C N B O : Type 0} {l : lists.Ghosts L S K P C N B O W M} {stands : M → Present W → Type 0} {older : M → M → Type 0} {base : M} {leaves : Leaving} {query : List W}
    {named : List ℕ} {fitting : Present W → ℕ → Alternative → Type 0} {held : L} {cs : List (kept.Choice W M K P C)} {ks : List Alternative} → ks ≡ [] → StandsForChoices l stands older base leaves query named fitting held cs ks → cs ≡ []
no_choice_left e none_kept = refl
no_choice_left e (one_kept is on here newer below) = absurd (cc)

-- ---- the query

-- a state in which nothing is bound and no alternative is left is the same as itself
pub same_fresh : (s : State) → s.subst ≡ Variable → s.stack ≡ [] → Same s s
same_fresh s subst_is stack_is =
    let twice : IsTwice s.subst = subst (λ (r : Subst). IsTwice r) (sym subst_is) (λ n. refl) in
    same_lists
    (record {
      agree = record { shown = refl; beyond = λ x more. refl; twice = twice; other = twice };
      next = refl;
      beside = record { stack = subst (λ (ks : List Alternative). SameStack (variables s.query) (variables s.query) ks ks) (sym stack_is) no_alternative; world = refl; steps = refl; query = omega arith; built = omega arith };
    })
    (list_same s.list)

pub opening_error : (goal : Tree) → converted goal ≡ None → opening goal (converted goal) ≡ Raise (type_error_callable goal (key (codes "call") 1)) ∷ []
opening_error goal is = ap (opening goal) is

pub opening_body : (goal : Tree) (b : Body) → converted goal ≡ Some b → opening goal (converted goal) ≡ Goal b 0 ∷ []
opening_body goal b is = ap (opening goal) is

-- a converted query has the variables of the query
joined_same : (f : List ℕ) (a b x y : Tree) (seen : List ℕ) (o : Option Connective) → distinct_from seen x ≡ distinct_from seen a → distinct_from (distinct_from seen a) y ≡ distinct_from (distinct_from seen a) b
    → distinct_from seen (joined o f x y (two f a b)) ≡ distinct_from seen (two f a b)
joined_same f a b x y seen None first second = refl
joined_same f a b x y seen (Some k) first second = ap (λ vs. distinct_from vs y) first ∙ second

calls_same : (t : Tree) (seen : List ℕ) → distinct_from seen (with_calls t) ≡ distinct_from seen t
calls_same (Apply f (More a (More b End))) seen = joined_same f a b (with_calls a) (with_calls b) seen (connective_of f) (calls_same a seen) (calls_same b (distinct_from seen a))
calls_same t seen = refl

pub query_variables : (goal : Tree) (b : Body) → converted goal ≡ Some b → variables (shown_query goal (converted goal)) ≡ variables goal
query_variables goal b is = ap (λ (o : Option Body). variables (shown_query goal o)) is ∙ ap variables (converts goal b is).term ∙ calls_same goal []

-- the numbers of its variables
pub numbered_below : (t : Tree) → IsNumbered t → (x : ℕ) → occurs x t ≡ true → x < variable_count t
numbered_below t h x o =
    let listed : is_in x (variables t) ≡ true = listed_occurring t x ∙ o in
    let known : is_in x (numbers_from 0 (variable_count t)) ≡ true = ap (is_in x) (sym h) ∙ listed in
    let range = in_numbers_from 0 (variable_count t) x known in
    omega (arith, range.1)

-- a numbered term is its own copy
renamed_none : (t : Tree) → renamed 0 t ≡ t
renamed_none t = apply_alone (λ x. Variable (0 + x)) t (λ x o. ap Variable (zero-add x))

pub own_copy : (t : Tree) → IsNumbered t → copy_from t 0 ≡ t
own_copy t h = copy_of_numbered t 0 h ∙ renamed_none t

-- what was made ready of a goal is the query
pub query_ready : (t : Tree) (p : Preparation) → is_term t ≡ true → IsNumbered t → PreparesGoal (λ p. p) t (converted (copy_from t 0)) (Ok p) → IsQuery p t
query_ready t p fits numbered h = by_body (converted (copy_from t 0)) refl h where
  by_body : (o : Option Body) → converted (copy_from t 0) ≡ o → PreparesGoal (λ p. p) t o (Ok p) → IsQuery p t
  by_body (Some b) e h = record {
    converted_is = ap converted (sym (own_copy t numbered)) ∙ e ∙ ap (λ q. Some q.body) (sym h);
    variables_are = ap (λ q. q.variables) h;
    numbered = numbered;
    term = fits;
  }
  by_body None e h = absurd h

-- or it can't be converted, and is the culprit
pub query_refused : (t culprit : Tree) (c : Term) → term_of c ≡ culprit → IsNumbered t → PreparesGoal {P = Preparation} (λ p. p) t (converted (copy_from t 0)) (Err (fault.Callable c)) → (culprit ≡ t) × (converted t ≡ None)
query_refused t culprit c is numbered h = by_body (converted (copy_from t 0)) refl h where
  by_body : (o : Option Body) → converted (copy_from t 0) ≡ o → PreparesGoal {P = Preparation} (λ p. p) t o (Err (fault.Callable c)) → (culprit ≡ t) × (converted t ≡ None)
  by_body (Some b) e h = absurd h
  by_body None e h = (sym is ∙ h, ap converted (sym (own_copy t numbered)) ∙ e)

-- its goals can be kept
pub query_goals : (t : Tree) (p : Preparation) → IsQuery p t → AreTemplates (variable_count t) (goals_of p.body)
query_goals t p q = body_templates (variable_count t) t p.body q.converted_is q.term (numbered_below t q.numbered)

templates_both : (n : ℕ) (ts us : List Tree) → AreTemplates n (ts ++ us) → AreTemplates n ts × AreTemplates n us
templates_both n [] us h = (tt, h)
templates_both n (t ∷ ts) us h = let rest = templates_both n ts us h.1 in ((h.0, rest.0), rest.1)

-- over the words of new variables, numbered from 0 on, it is as it was
pub query_placed : {W : Type 0} {p : Present W} (ws : List W) (b : Body) → AreVariables p ws (numbers_from 0 (length ws)) → AreTemplates (length ws) (goals_of b) → map_body (word_terms p ws) b ≡ b
query_placed ws Cut h goals = refl
query_placed ws (Run t) h goals = ap Run (renamed_as ws 0 t h (goals.0).below ∙ renamed_none t)
query_placed ws (And a b) h goals =
    let both = templates_both (length ws) (goals_of a) (goals_of b) goals in
    ap₂ And (query_placed ws a h both.0) (query_placed ws b h both.1)
query_placed ws (Or a b) h goals =
    let both = templates_both (length ws) (goals_of a) (goals_of b) goals in
    ap₂ Or (query_placed ws a h both.0) (query_placed ws b h both.1)
query_placed ws (If a b) h goals =
    let both = templates_both (length ws) (goals_of a) (goals_of b) goals in
    ap₂ If (query_placed ws a h both.0) (query_placed ws b h both.1)
query_placed ws (Choose a b c) h goals =
    let all = templates_both (length ws) (goals_of a) (goals_of b ++ goals_of c) goals in
    let both = templates_both (length ws) (goals_of b) (goals_of c) all.1 in
    λ i. Choose (query_placed ws a h all.0 i) (query_placed ws b h both.0 i) (query_placed ws c h both.1 i)

-- ---- a query fits the store that is made of an empty one

-- a body's goals have no larger arguments than its term
body_within : (b : Body) → body_size b ≤ size (body_term b)
body_within (Run (Variable n)) = omega arith
body_within (Run (Integer z)) = omega arith
body_within (Run (Name a)) = omega arith
body_within (Run (Apply f ts)) = omega arith
body_within (Run End) = omega arith
body_within (Run (More t ts)) = omega arith
body_within (And a b) = omega (arith, body_within a, body_within b)
body_within (Or a b) = omega (arith, body_within a, body_within b)
body_within (If a b) = omega (arith, body_within a, body_within b)
body_within (Choose a b c) = omega (arith, body_within a, body_within b, body_within c)
body_within Cut = omega arith

-- smaller ones, where it is a term
body_less : (b : Body) → 0 < size (body_term b) → body_size b < size (body_term b)
body_less (Run (Variable n)) some = omega arith
body_less (Run (Integer z)) some = omega arith
body_less (Run (Name a)) some = omega arith
body_less (Run (Apply f ts)) some = omega arith
body_less (Run End) some = some
body_less (Run (More t ts)) some = some
body_less (And a b) some = omega (arith, body_within a, body_within b)
body_less (Or a b) some = omega (arith, body_within a, body_within b)
body_less (If a b) some = omega (arith, body_within a, body_within b)
body_less (Choose a b c) some = omega (arith, body_within a, body_within b, body_within c)
body_less Cut some = omega arith

-- its variables, and the goals of its body
pub query_fits : {S W M : Type 0} (g : Ghosts S W M) {p q r : Present W} (t : Tree) (b : Body) (steps count pending : ℕ) (w : World) → converted t ≡ Some b → is_term t ≡ true → count ≡ variable_count t → p.cells ≡ 0 → p.variables ≡ 0
    → (CountsCells g → Grows p q count count) → (CountsCells g → Grows q r (2 * body_size b) 0) → pending ≡ 0 → FitsState g r pending (started t steps w)
query_fits g t b steps count pending w is term many no_cells no_variables made placed none counts =
    (let less = body_less b (converted_some t b term is) in
    let large : size (shown_query t (converted t)) ≡ size (body_term b) = ap (λ (o : Option Body). size (shown_query t o)) is in
    let named : variable_count (shown_query t (converted t)) ≡ variable_count t = ap length (query_variables t b is) in
    let first = (made counts).cells in
    let new = (made counts).variables in
    let second = (placed counts).cells in
    let others = (placed counts).variables in
    omega (arith, less, large, named, many, no_cells, no_variables, first, new, second, others, none))

-- so where it is raised as an error
pub raised_fits : {S W M : Type 0} (g : Ghosts S W M) (p : Present W) (t : Tree) (steps : ℕ) (w : World) → converted t ≡ None → is_term t ≡ true → p.cells ≡ 0 → p.variables ≡ 0 → FitsState g p 0 (started t steps w)
raised_fits g p t steps w is term no_cells no_variables counts =
    (let some = some_size t term in
    let large : size (shown_query t (converted t)) ≡ size t = ap (λ (o : Option Body). size (shown_query t o)) is in
    omega (arith, some, large, no_cells, no_variables))

-- ---- an engine that was cleared

module _ {S L W M K P C N B O : Type 0} {g : Ghosts S W M} {l : lists.Ghosts L S K P C N B O W M} where
  -- with other steps
  pub fresh_again : {e : Search S L W M K P C N B O} {w : World} {steps : ℕ} → IsEngine g l e (idle w) → (g.present e.store).substitution ≡ Variable → (g.present e.store).next ≡ 0 → (g.present e.store).cells ≡ 0 → (g.present e.store).variables ≡ 0
      → IsFresh g l (record e { steps = steps }) w
  fresh_again h substitution next cells variables = record { world = h.world; base = h.base; choices = no_choice_left refl h.choices; substitution = substitution; next = next; cells = cells; variables = variables }

  -- A run was not begun on it: names and lists came.
  pub fresh_left : (e : Search S L W M K P C N B O) (store : S) (more : L) (w : World) → IsFresh g l e w → KeepsMarks (g.stands e.store) (g.stands store) → KeepsTexts (g.names e.store) (g.names store)
      → Keeps g l (record e { store = store; lists = more }) w []
  fresh_left e store more w fresh keeps texts = (world_on l texts fresh.world, base_kept g e.store store e.base keeps fresh.base, (Variable 0, rw fresh.choices none_kept))

  -- with other procedures
  pub idle_again : {e f : Search S L W M K P C N B O} {w after : World} → IsEngine g l e (idle w) → f.now ≡ now.Idle → g.present f.store ≡ g.present e.store → KeepsMarks (g.stands e.store) (g.stands f.store) → f.base ≡ e.base → f.choices ≡ e.choices → f.steps ≡ e.steps
      → IsWorld g l f after → IsEngine g l f (idle after)
  idle_again {e = e} {f = f} {w = w} {after = after} h rests same keeps base choices steps world = record {
    world = world;
    steps = h.steps ∙ sym steps;
    base = rw base (base_kept g e.store f.store e.base keeps h.base);
    choices = rw (choices, no_choice_left refl h.choices) none_kept;
    room = tt;
    fits = rw rests (subst (λ (p : Present W). FitsState g p 0 (idle after)) (sym same) (fits_fewer g (g.present e.store) (idle w) (omega arith) h.fits));
    next = rw rests refl;
  }

  -- The clause was refused before it came to the procedures.
  pub refused : (t : Tree) (w : World) (r : Result Unit AddFault) (fault : AddFault) (e : Search S L W M K P C N B O) → Prepares consult_key t (Err fault) → IsErrAnd r (λ x. x ≡ fault) → IsEngine g l e (idle w)
      → Comes g l (consulted t w.database) w r e
  refused t w (Ok u) fault e h is engine = absurd is
  refused t w (Err x) (add.Refused ball) e h is engine = rw is (by_check (checked t) h) where
    by_check : (c : Check) → IsRefused consult_key c (term_of ball.term.value) → Comes g l (addition_by at_end Static consult_key t w.database c) w (Err (add.Refused ball)) e
    by_check (Fits k b) h = absurd h
    by_check (Faulty fault) h = (sym h, engine)
  refused t w (Err x) add.NoMemory e h is engine = rw is (no_memory (consulted t w.database)) where
    no_memory : (a : Addition) → Comes g l a w (Err add.NoMemory) e
    no_memory (Adds after) = engine
    no_memory (Refuses error) = engine

  -- memory was refused while it was added
  pub unadded : (a : Addition) (w : World) (r : Result Unit AddFault) (f : Search S L W M K P C N B O) → IsErrAnd r (λ x. x ≡ add.NoMemory) → IsEngine g l f (idle w) → Comes g l a w r f
  unadded a w (Ok u) f is engine = absurd is
  unadded a w (Err x) f is engine = rw is engine
