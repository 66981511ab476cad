-- Clauses by the grammar and by precedence.
use Rattle.std.proofs.Common.{◌≡◌, ℕ, ◌+◌, ◌<◌, nat_lt, List, [], ◌∷◌, length, Option, Some, None, IfSome, refl, sym, ◌∙◌, ap, arith}
use Rattle.std.proofs.lemmas.Bool.Decides.{nat_tests}
use Rattle.iso_ops.specs.Operators.{Operator, IsOpTable}
use Rattle.iso_ops.specs.declared.settings.Flags.{Flags}
use Rattle.iso_model.specs.Syntax.Token.{Shown}
use Rattle.iso_model.specs.Syntax.Grammar.{Left, Node, ReadTerm, IsReadTerm, start_of, numbered, max_depth}
use Rattle.iso_model.specs.Syntax.Reading.{◌>>=◌, Following, operator_of, next_operator, term, clause_by, clause_of}
use Rattle.iso_model.specs.Syntax.Clauses.{split_clause, next_clause, IsNextClause}
use Rattle.iso_model.proofs.Syntax.ReadingSound.{bind_if, if_either, left_at, IsSound, term_sound}
use Rattle.iso_model.proofs.Syntax.ReadingComplete.{reads_complete, finish, edge_of}

module _ (table : List Operator) (flags : Flags) where
  whole_sound : (ts : List Shown) (n : Node) (left : List Shown) (names : List (List ℕ)) → IsSound table flags 1200 (max_depth + 1) (start_of ts) (n, left_at left names) → IfSome (clause_by table flags (n, left_at left names)) (IsReadTerm table flags ts)
  whole_sound ts n [] names a = record { node = n; names = names; reads = a.reads; priority = a.priority; height = omega (arith, a.height); is = refl }
  whole_sound ts n (t ∷ left) names a =
      if_either (nat_lt 0 (length (t ∷ left))) None (Some (record { term = n.term; names = numbered 0 names })) (IsReadTerm table flags ts) (λ _. tt) (λ h. absurd (grind (arith, nat_tests, h)))

  -- what is read by precedence is a clause of the grammar
  pub clause_sound : (ts : List Shown) → IfSome (clause_of table flags ts) (IsReadTerm table flags ts)
  unfolding clause_of
  clause_sound ts =
      bind_if (term table flags (max_depth + 1) 1200 (start_of ts)) (clause_by table flags) (IsSound table flags 1200 (max_depth + 1) (start_of ts)) (IsReadTerm table flags ts) (term_sound table flags (max_depth + 1) 1200 (start_of ts))
      (λ x a. whole_sound ts x.0 x.1.tokens x.1.names a)

  -- a clause of the grammar is read
  pub clause_complete : IsOpTable table → (ts : List Shown) (c : ReadTerm) → IsReadTerm table flags ts c → clause_of table flags ts ≡ Some c
  unfolding clause_of
  clause_complete good ts c k =
      let z : Left = left_at [] k.names in
      let none : (m : ℕ) (f : Following) → next_operator table flags z.tokens ≡ Some f → m < (operator_of f).priority = λ m f at. cc in
      let read = finish table flags good max_depth 1200 (start_of ts) z k.node (reads_complete table flags good k.reads max_depth 1200 k.height k.priority (none (edge_of k.node))) k.height (none 1200) in
      ap (λ o. o >>= clause_by table flags) read ∙ ap Some (sym k.is)

  some_if : {A : Type 0} (o : Option A) (P : A → Type 0) (x : A) → IfSome o P → o ≡ Some x → P x
  some_if None P x a h = cc
  some_if (Some y) P x a h = let same : y ≡ x = cc in rw (← same) a

  pub clause_given : (ts : List Shown) (c : ReadTerm) → clause_of table flags ts ≡ Some c → IsReadTerm table flags ts c
  clause_given ts c h = some_if (clause_of table flags ts) (IsReadTerm table flags ts) c (clause_sound ts) h

  pub next_complete : IsOpTable table → (ts : List Shown) (c : ReadTerm) → IsNextClause table flags ts c → next_clause table flags ts ≡ Some c
  next_complete good ts c k = rw k.splits (clause_complete good k.before c k.clause)

  next_given_by : (ts : List Shown) (c : ReadTerm) (o : Option (List Shown × List Shown)) → split_clause ts ≡ o → (o >>= (λ x. clause_of table flags x.0)) ≡ Some c → IsNextClause table flags ts c
  next_given_by ts c None is h = cc
  next_given_by ts c (Some x) is h = record { before = x.0; others = x.1; splits = is; clause = clause_given x.0 c h }

  pub next_given : (ts : List Shown) (c : ReadTerm) → next_clause table flags ts ≡ Some c → IsNextClause table flags ts c
  next_given ts c h = next_given_by ts c (split_clause ts) refl h
