-- Bodies written out for the store, part by part.
use Rattle.std.proofs.Common.{◌≡◌, ◌≢◌, ℕ, ◌+◌, ◌-◌, ◌<◌, List, [], ◌∷◌, ◌++◌, length, take, get_or, add-one, refl, sym, ap, ◌∙◌, subst, arith, inl, inr, codes, true}
use Rattle.std.specs.Borrow.{Bor}
use Rattle.std.proofs.Math.Seq.{take-suc}
use Rattle.std.proofs.lemmas.Bool.{cases_Bool}
use Rattle.std.proofs.lemmas.Slice.Eq.{bytes_eq-Decides}
use Rattle.iso_atoms.specs.Texts.{KeepsTexts}
use Rattle.iso_model.specs.declared.terms.Term.{Term}
use Rattle.iso_model.specs.Terms.Trees.{Tree, Variable, Name}
use Rattle.iso_model.specs.Terms.TermOf.{term_of}
use Rattle.iso_model.specs.Terms.Substitutions.{apply}
use Rattle.iso_model.specs.Terms.Unification.Applied.{apply_none}
use Rattle.iso_model.specs.Search.Bodies.{Body, Cut, Run, And, Or, If, Choose, map_body, body_term, is_true}
use Rattle.iso_prep.specs.Classes.{goals_of}
use Rattle.iso_prep.specs.Trees as prepared
use Rattle.iso_prep.specs.Trees.{IsBorrowed, borrowed}
use Rattle.iso_store_core.specs.declared.patterns.Pattern.{Pattern}
use Rattle.iso_prep.specs.declared.bodies.Node.{Node}
use Rattle.iso_prep.specs.declared.bodies.Node.TheVariants as node
use Rattle.iso_plain_core.specs.Nodes.{IsTree, EndsWith, ArePartsOf, IsAlike, AreAlike, IfGoal, EachGoal}
use Rattle.iso_program.specs.Written.{IsPatternOf, IsWrittenFor}
use Rattle.iso_program.specs.Kept.{IsTemplate, AreTemplates}
use Rattle.iso_plain_core.specs.Kept.{IsKeptGoal, goals_in, kept_goals}
use Rattle.iso_plain_core.proofs.NodeLemmas.{alike_length, alike_push, alike_so, any_goal, goal_like, cut_like, and_like, or_like, if_like, choose_like, tree_alike, map_none}
use Rattle.iso_program.proofs.WrittenLemmas.{written_kept, term_is, is_written}

-- ---- parts are written

module _ (names : List (List ℕ)) where
  -- a body's parts are the body's
  pub written_ends : (cs : List (Node (Bor Term))) (ws : List (Node Pattern)) (b : Body) → AreAlike (IsWrittenFor names) cs ws → EndsWith IsBorrowed cs b → EndsWith (IsPatternOf names) ws b
  written_ends cs ws b h ends =
      let many : length cs ≡ length ws = alike_length (IsWrittenFor names) cs ws h in
      let means : (g : Bor Term) (w : Pattern) (t : Tree) → IsWrittenFor names g w → IsBorrowed g t → IsPatternOf names w (apply Variable t) = λ g w t written is.
      subst (λ (u : Tree). IsPatternOf names w u) (sym (apply_none t ∙ is)) written in
      let tree : IsTree (IsPatternOf names) ws (0 + (length cs - 1)) (map_body Variable b) = tree_alike (IsWrittenFor names) Variable means [] ws h ends.last in
      let place : 0 + (length cs - 1) ≡ length ws - 1 = omega (arith, many) in
      record {
        some = omega (arith, many, ends.some);
        last = subst (λ k. IsTree (IsPatternOf names) ws k b) place (subst (λ c. IsTree (IsPatternOf names) ws (0 + (length cs - 1)) c) (map_none b) tree);
      }

  -- and its goals can be kept
  goal_written : (n : ℕ) (t : Tree) (w : Pattern) → IsTemplate n t → IsPatternOf names w t → IsKeptGoal names n w
  goal_written n t w template written = record {
    written = is_written names w t written;
    template = subst (λ (u : Tree). IsTemplate n u) (sym (term_is names w t written)) template;
  }

  one_goal : (n : ℕ) (t : Tree) (w : Pattern) (y : Node Pattern) → y ≡ node.Run w → IsTemplate n t → IsPatternOf names w t → IfGoal (IsKeptGoal names n) y
  one_goal n t w y is template written = subst (λ (x : Node Pattern). IfGoal (IsKeptGoal names n) x) (sym is) (goal_written n t w template written)

  no_goal : (n : ℕ) (x y : Node Pattern) → y ≡ x → IfGoal (IsKeptGoal names n) x → IfGoal (IsKeptGoal names n) y
  no_goal n x y is h = subst (λ (x : Node Pattern). IfGoal (IsKeptGoal names n) x) (sym is) h

  pub goals_written : (n : ℕ) (cs : List (Node (Bor Term))) (ws : List (Node Pattern)) → AreTemplates n (prepared.goals_in borrowed cs) → AreAlike (IsWrittenFor names) cs ws → EachGoal (IsKeptGoal names n) ws
  goals_written n [] [] h alike = tt
  goals_written n (node.Run g ∷ cs) (w ∷ ws) h alike =
      let like = goal_like (IsWrittenFor names) g w alike.0 in
      (one_goal n (term_of g.now) like.0 w like.1 h.0 like.2, goals_written n cs ws h.1 alike.1)
  goals_written n (node.Cut ∷ cs) (w ∷ ws) h alike = (no_goal n node.Cut w (cut_like (IsWrittenFor names) w alike.0) tt, goals_written n cs ws h alike.1)
  goals_written n (node.And d ∷ cs) (w ∷ ws) h alike = (no_goal n (node.And d) w (and_like (IsWrittenFor names) d w alike.0) tt, goals_written n cs ws h alike.1)
  goals_written n (node.Or d ∷ cs) (w ∷ ws) h alike = (no_goal n (node.Or d) w (or_like (IsWrittenFor names) d w alike.0) tt, goals_written n cs ws h alike.1)
  goals_written n (node.If d ∷ cs) (w ∷ ws) h alike = (no_goal n (node.If d) w (if_like (IsWrittenFor names) d w alike.0) tt, goals_written n cs ws h alike.1)
  goals_written n (node.Choose c d ∷ cs) (w ∷ ws) h alike = (no_goal n (node.Choose c d) w (choose_like (IsWrittenFor names) c d w alike.0) tt, goals_written n cs ws h alike.1)
  goals_written n cs ws h alike = absurd alike

  -- and they are the body's
  one_term : (parts : List (Node Pattern)) (t : Tree) (w : Pattern) (y : Node Pattern) → y ≡ node.Run w → IsPatternOf names w t → goals_in names (y ∷ parts) ≡ t ∷ goals_in names parts
  one_term parts t w y is written = ap (λ (x : Node Pattern). goals_in names (x ∷ parts)) is ∙ ap (λ (u : Tree). u ∷ goals_in names parts) (term_is names w t written)

  pub terms_written : (cs : List (Node (Bor Term))) (ws : List (Node Pattern)) → AreAlike (IsWrittenFor names) cs ws → goals_in names ws ≡ prepared.goals_in borrowed cs
  terms_written [] [] alike = refl
  terms_written (node.Run g ∷ cs) (w ∷ ws) alike =
      let like = goal_like (IsWrittenFor names) g w alike.0 in
      one_term ws (term_of g.now) like.0 w like.1 like.2 ∙ ap (λ (ts : List Tree). term_of g.now ∷ ts) (terms_written cs ws alike.1)
  terms_written (node.Cut ∷ cs) (w ∷ ws) alike = ap (λ x. goals_in names (x ∷ ws)) (cut_like (IsWrittenFor names) w alike.0) ∙ terms_written cs ws alike.1
  terms_written (node.And d ∷ cs) (w ∷ ws) alike = ap (λ x. goals_in names (x ∷ ws)) (and_like (IsWrittenFor names) d w alike.0) ∙ terms_written cs ws alike.1
  terms_written (node.Or d ∷ cs) (w ∷ ws) alike = ap (λ x. goals_in names (x ∷ ws)) (or_like (IsWrittenFor names) d w alike.0) ∙ terms_written cs ws alike.1
  terms_written (node.If d ∷ cs) (w ∷ ws) alike = ap (λ x. goals_in names (x ∷ ws)) (if_like (IsWrittenFor names) d w alike.0) ∙ terms_written cs ws alike.1
  terms_written (node.Choose c d ∷ cs) (w ∷ ws) alike = ap (λ x. goals_in names (x ∷ ws)) (choose_like (IsWrittenFor names) c d w alike.0) ∙ terms_written cs ws alike.1
  terms_written cs ws alike = absurd alike

  -- the parts of a clause's body that isn't `true`, and of one that is
  true_body : (b : Body) → body_term b ≡ Name (codes "true") → is_true b ≡ true
  true_body Cut is = absurd (cc is)
  true_body (Run t) is = rw is refl
  true_body b is = cc

  other_body : (b : Body) → is_true b ≡ true → body_term b ≡ Name (codes "true")
  other_body (Run (Name a)) is = ap Name ((bytes_eq-Decides a (codes "true")).0 is)
  other_body (Run t) is = cc
  other_body b is = cc

  pub fact_goals : (b : Body) → body_term b ≡ Name (codes "true") → (ws : List (Node Pattern)) → ws ≡ [] → goals_in names ws ≡ kept_goals b
  fact_goals b is ws none = rw (true_body b is) (ap (goals_in names) none)

  pub rule_goals : (b : Body) → body_term b ≢ Name (codes "true") → (ws : List (Node Pattern)) → goals_in names ws ≡ goals_of b → goals_in names ws ≡ kept_goals b
  rule_goals b other ws are = elim (cases_Bool (is_true b)) [ inl fact ↦ absurd (other (other_body b fact)) | inr rule ↦ rw rule are ]

  pub rule_parts : (b : Body) → body_term b ≢ Name (codes "true") → (ws : List (Node Pattern)) → EndsWith (IsPatternOf names) ws b → ArePartsOf (IsPatternOf names) ws b
  rule_parts b other ws ends = elim (cases_Bool (is_true b)) [ inl fact ↦ absurd (other (other_body b fact)) | inr rule ↦ rw rule ends ]

-- one part more
pub written_push : (old new : List (List ℕ)) → KeepsTexts old new → (cs : List (Node (Bor Term))) (ws : List (Node Pattern)) (i : ℕ) (c : Node (Bor Term)) (w : Node Pattern) → i < length cs → c ≡ get_or cs i c
    → AreAlike (IsWrittenFor old) (take i cs) ws → IsAlike (IsWrittenFor new) c w → AreAlike (IsWrittenFor new) (take (i + 1) cs) (ws ++ w ∷ [])
written_push old new keeps cs ws i c w within is h here =
    let next : take (i + 1) cs ≡ take i cs ++ c ∷ [] = rw (add-one, take-suc cs i c within, ← is) refl in
    let front = take i cs in
    let on : (g : Bor Term) (w : Pattern) → Unit {0} → IsWrittenFor old g w → IsWrittenFor new g w = λ g w u written. written_kept old new keeps w (term_of g.now) written in
    let before : AreAlike (IsWrittenFor new) front ws = alike_so on front ws (any_goal front) h in
    subst (λ xs. AreAlike (IsWrittenFor new) xs (ws ++ w ∷ [])) (sym next) (alike_push (IsWrittenFor new) front ws c w before here)
