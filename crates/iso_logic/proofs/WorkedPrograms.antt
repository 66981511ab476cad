-- The worked programs.
use Rattle.std.proofs.Common.{◌≡◌, [], ◌∷◌, refl, subst, codes}
use Rattle.iso_model.specs.Terms.Trees.{Tree, Variable, Name}
use Rattle.iso_model.specs.Terms.Substitutions.{Subst}
use Rattle.iso_model.specs.Search.Bodies.{two}
use Rattle.iso_model.specs.Search.Walker.{NoMore}
use Rattle.iso_model.specs.Search.RunLaws.{run_of_only}
use Rattle.iso_model.specs.Worked.Runs.{number, nil, cons, app, append, endless}
use Rattle.iso_logic.specs.ProgramProofs.{here, there, ProvedBy, by_true, by_both, by_head}
use Rattle.iso_logic.specs.Consulting.{no_more, adds}
use Rattle.iso_logic.specs.Leaves.{goals_of, Leaves}
use Rattle.iso_logic.specs.Answers.{valued, answers_of, ending_of}
use Rattle.iso_logic.specs.WorkedPrograms.{append_clauses, AppendIsDefinite, AppendProves, AppendProvesNot, split_query, AppendHasTheseLeaves, TextIsAProgram, TheseAreUserQueries}
use Rattle.iso_ops.specs.InitialOperators.{initial_entries}
use Rattle.iso_model.specs.Syntax.Tokens.{tokens_from}
use Rattle.iso_model.specs.Syntax.Lexemes.{lexeme}
use Rattle.iso_model.specs.Syntax.Reading.{further, elements, compound, named, operand, operator_behind, extended, climb, continued, term, clause_of}
use Rattle.iso_logic.specs.Sessions.{one_more, no_item}
use Rattle.iso_logic.specs.ShownAnswers.{no_query, a_query}
use Rattle.iso_logic.proofs.Runs.{answers_leaves}
use Rattle.iso_logic.proofs.ProgramProofs.{consulted_definite, nothing_definite}
use Rattle.iso_model.proofs.Search.WorkedAppend.{append_run}

pub append_definite : AppendIsDefinite
append_definite = (refl, adds refl (adds refl no_more))

pub append_proves : AppendProves
append_proves =
    by_head (valued (0 ∷ 1 ∷ 2 ∷ 3 ∷ []) (number 1 ∷ nil ∷ Variable 0 ∷ Variable 0 ∷ [])) (there here)
    (by_head (valued (0 ∷ []) (Variable 0 ∷ [])) here by_true)

first_no : (s : Subst) → app nil (s 0) (s 0) ≡ app nil nil (cons (number 1) nil) → ⊥
first_no s e =
    let one : s 0 ≡ nil = cc in
    let other : s 0 ≡ cons (number 1) nil = cc in
    let clash : nil ≡ cons (number 1) nil = cc in
    cc

second_no : (s : Subst) → app (cons (s 0) (s 1)) (s 2) (cons (s 0) (s 3)) ≡ app nil nil (cons (number 1) nil) → ⊥
second_no s e = let clash : cons (s 0) (s 1) ≡ nil = cc in cc

proves_no : {t : Tree} → ProvedBy append_clauses t → t ≡ app nil nil (cons (number 1) nil) → ⊥
proves_no by_true e = let clash : Name (codes "true") ≡ app nil nil (cons (number 1) nil) = e in cc
proves_no (by_both {a = a} {b = b} p q) e = let clash : two (codes ",") a b ≡ app nil nil (cons (number 1) nil) = e in cc
proves_no (by_head s here body) e = first_no s e
proves_no (by_head s (there here) body) e = second_no s e
proves_no (by_head s (there (there among)) body) e = elim among [ ]

pub append_proves_not : AppendProvesNot
append_proves_not h = proves_no h refl

pub append_leaves : AppendHasTheseLeaves
append_leaves =
    let run = run_of_only (append_run 0) in
    subst (λ r. ending_of r ≡ NoMore → Leaves append.database.procedures (goals_of split_query) split_query (answers_of split_query r)) run
    (answers_leaves split_query 2 append (consulted_definite append_definite.1 refl append_definite.0 nothing_definite)
    (record { goals = refl; term = refl; numbered = refl }))
    refl

pub text_of_loop : TextIsAProgram
unfolding initial_entries tokens_from lexeme further elements compound named operand operator_behind extended climb continued term clause_of
text_of_loop = one_more endless.database refl refl refl refl (no_item refl)

pub loop_queries : TheseAreUserQueries
unfolding initial_entries tokens_from lexeme further elements compound named operand operator_behind extended climb continued term clause_of
loop_queries = a_query refl refl (a_query refl refl no_query)
