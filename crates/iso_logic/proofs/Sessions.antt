-- A session over a text of definite clauses.
use Rattle.std.proofs.Common.{◌≡◌, ℕ, zero, suc, List, [], Option, Some, None, refl, sym, ap, ◌∙◌, subst, length, ◌+◌, true, ◌↔◌}
use Rattle.std.proofs.lemmas.Bool.{and_from}
use Rattle.iso_model.specs.Syntax.Token.{Shown}
use Rattle.iso_model.specs.Syntax.Tokens.{tokens}
use Rattle.iso_model.specs.Syntax.Grammar.{ReadTerm}
use Rattle.iso_model.specs.Syntax.Items.{Item, Readable, Unreadable, Taken, next_item}
use Rattle.iso_model.specs.Terms.Trees.{Tree}
use Rattle.iso_model.specs.Terms.Sorts.{is_term}
use Rattle.iso_model.specs.Terms.Substitutions.{apply}
use Rattle.iso_model.specs.Search.Databases.{Procedures}
use Rattle.iso_model.specs.Search.Walker.{World, Answered, Wrote, NoMore, Budget, Uncaught, Halted, started}
use Rattle.iso_model.specs.Search.Runs.{Trace, Then, Stops}
use Rattle.iso_model.specs.Search.RunLaws.{run_of}
use Rattle.iso_model.specs.Session.Directives.{Kept}
use Rattle.iso_model.specs.Session.Sessions.{Script, text_script, text_by, term_script, read_script, added_script, kept_script, query_goal}
use Rattle.iso_logic.specs.Provability.{Proves}
use Rattle.iso_logic.specs.DefinitePrograms.{are_terms}
use Rattle.iso_logic.specs.ProgramProofs.{ProvedBy}
use Rattle.iso_logic.specs.DefiniteClauses.{IsDefinite}
use Rattle.iso_logic.specs.DefiniteQueries.{IsDefiniteQuery}
use Rattle.iso_logic.specs.Leaves.{goals_of, Leaves}
use Rattle.iso_logic.specs.Answers.{with_values, end_world, answers_of, EachAnswer}
use Rattle.iso_logic.specs.Consulting.{Consulted, no_more, adds}
use Rattle.iso_logic.specs.Sessions.{AreClauses, no_turn, no_item, one_more, BehindRun, OfQuery, OfTaken, OfEachQuery, IsConjunction, AreConsequences}
use Rattle.iso_logic.specs.Sessions.{SessionsAreLogical}
use Rattle.iso_logic.proofs.ReadTerms.{IsRead, item_read, goal_read}
use Rattle.iso_logic.proofs.Runs.{answers_proved, answers_leaves}
use Rattle.iso_logic.proofs.Completeness.{answers_complete}
use Rattle.iso_logic.proofs.Worlds.{runs_keep_world}
use Rattle.iso_logic.proofs.ProgramProofs.{consulted_definite, nothing_definite, programs_prove}

-- the clauses are consulted one after the other
pub clauses_consulted : {turns : ℕ} {ts : List Shown} {w : World} {program : List Tree} {last : World} → AreClauses turns ts w program last
    → Consulted program w.database last.database
clauses_consulted no_turn = no_more
clauses_consulted (no_item none) = no_more
clauses_consulted (one_more db item readable clause added others) = adds added (clauses_consulted others)

-- nothing is written, nor kept
pub clauses_script : (budget : ℕ) {turns : ℕ} {ts : List Shown} {w : World} {program : List Tree} {last : World} → AreClauses turns ts w program last
    → (k : ℕ) (next : List Kept → World → Script)
    → text_script budget turns k ts w [] next ≡ next [] last
unfolding text_script
clauses_script budget no_turn k next = refl
clauses_script budget (no_item {turns = turns} {ts = ts} {w = w} none) k next =
    ap (λ o. text_by budget k w [] o next (λ behind later v. text_script budget turns (k + 1) behind v later next)) none
clauses_script budget (one_more {turns = turns} {ts = ts} {w = w} {last = last} {x = x} {c = c} db item readable clause added others) k next =
    ap (λ o. text_by budget k w [] o next (λ behind later v. text_script budget turns (k + 1) behind v later next)) item
    ∙ ap (λ i. term_script budget k i w [] (λ later v. text_script budget turns (k + 1) x.behind v later next)) readable
    ∙ ap (λ t. read_script budget k t c.term w [] (λ later v. text_script budget turns (k + 1) x.behind v later next)) clause
    ∙ ap (λ a. added_script k a w (λ v. text_script budget turns (k + 1) x.behind v [] next)) added
    ∙ clauses_script budget others (k + 1) next

-- each clause of the text is a term
pub clauses_terms : {turns : ℕ} {ts : List Shown} {w : World} {program : List Tree} {last : World} → AreClauses turns ts w program last → are_terms program ≡ true
clauses_terms no_turn = refl
clauses_terms (no_item none) = refl
clauses_terms (one_more {ts = ts} {w = w} {x = x} {c = c} {program = program} db item readable clause added others) =
    and_from (is_term c.term) (are_terms program) (item_read w.operators w.flags ts x c item readable).term (clauses_terms others)

each_map : (P Q : Tree → Type 0) → ((t : Tree) → P t → Q t) → (q : Tree) (r : Trace) → EachAnswer P q r → EachAnswer Q q r
each_map P Q f q (Then (Answered vs) w r) h = (f (with_values q vs) h.0, each_map P Q f q r h.1)
each_map P Q f q (Then (Wrote bytes) w r) h = absurd h
each_map P Q f q (Stops e w) h = tt

module _ (program : List Tree) (ps : Procedures) (definite : IsDefinite ps) (same_proofs : (t : Tree) → Proves ps t ↔ ProvedBy program t) (budget : ℕ) where
  pub consequences : (goal : Tree) (w : World) → w.database.procedures ≡ ps → IsDefiniteQuery goal
      → AreConsequences program ps goal (run_of (started goal budget w)) × ((end_world (run_of (started goal budget w))).database.procedures ≡ ps)
  consequences goal w same query =
      let d : IsDefinite w.database.procedures = subst IsDefinite (sym same) definite in
      let r = run_of (started goal budget w) in (
        record {
          proved =
              each_map (Proves ps) (ProvedBy program) (λ t. (same_proofs t).0) goal r
              (subst (λ x. EachAnswer (Proves x) goal r) same (answers_proved goal budget w d query));
          complete =
              λ none s by. answers_complete goal budget w d query none s (subst (λ x. Proves x (apply s goal)) (sym same) ((same_proofs (apply s goal)).1 by));
          leaves = λ none. subst (λ x. Leaves x (goals_of goal) goal (answers_of goal r)) same (answers_leaves goal budget w d query none);
        },
        ap (λ v. v.database.procedures) (runs_keep_world goal budget w d query) ∙ same,
      )

  behind : (r : Trace) (A B : World → Type 0) → (end_world r).database.procedures ≡ ps → ((w : World) → w.database.procedures ≡ ps → A w → B w) → BehindRun r A
      → BehindRun r B
  behind (Then e w r) A B same f h = behind r A B same f h
  behind (Stops NoMore w) A B same f h = f w same h
  behind (Stops Budget w) A B same f h = f w same h
  behind (Stops (Uncaught ball) w) A B same f h = f w same h
  behind (Stops (Halted status) w) A B same f h = tt

  of_query : (item : Item) (w : World) (A B : World → Type 0) → w.database.procedures ≡ ps → ((c : ReadTerm) → item ≡ Readable c → IsRead c.term)
      → ((v : World) → v.database.procedures ≡ ps → A v → B v) → OfQuery IsConjunction budget item w A → OfQuery (AreConsequences program ps) budget item w B
  of_query Unreadable w A B same read f h = f w same h
  of_query (Readable c) w A B same read f h =
      let goal = goal_read c.term (read c refl) in
      let own = consequences (query_goal c.term) w same (record { goals = h.0; term = goal.term; numbered = goal.numbered }) in
      (own.0, behind (run_of (started (query_goal c.term) budget w)) A B own.1 f h.1)

  of_taken : (o : Option Taken) (w : World) (A B : List Shown → World → Type 0) → w.database.procedures ≡ ps
      → ((x : Taken) (c : ReadTerm) → o ≡ Some x → x.item ≡ Readable c → IsRead c.term)
      → ((ts : List Shown) (v : World) → v.database.procedures ≡ ps → A ts v → B ts v)
      → OfTaken IsConjunction budget w o A → OfTaken (AreConsequences program ps) budget w o B
  of_taken None w A B same read f h = tt
  of_taken (Some x) w A B same read f h = of_query x.item w (A x.behind) (B x.behind) same (λ c. read x c refl) (f x.behind) h

  of_each : (turns : ℕ) (ts : List Shown) (w : World) → w.database.procedures ≡ ps
      → OfEachQuery IsConjunction turns budget ts w → OfEachQuery (AreConsequences program ps) turns budget ts w
  of_each zero ts w same h = tt
  of_each (suc turns) ts w same h =
      of_taken (next_item w.operators w.flags ts) w (OfEachQuery IsConjunction turns budget) (OfEachQuery (AreConsequences program ps) turns budget) same
      (item_read w.operators w.flags ts) (of_each turns) h

pub sessions_logical : SessionsAreLogical
sessions_logical text queries budget program w clauses definite conjunctions =
    let made = clauses_consulted clauses in
    let terms = clauses_terms clauses in (
      clauses_script budget clauses 1 (λ kept v. kept_script budget kept v _),
      made,
      of_each program w.database.procedures (consulted_definite made terms definite nothing_definite) (programs_prove program w.database made terms definite)
          budget
          (length (tokens queries)) (tokens queries) w refl conjunctions,
    )
