-- States under substitutions that give their goals the same values.
use Rattle.std.proofs.Common.{◌≡◌, ℕ, List, ◌∷◌, map, refl, ap, ap₂, sym, ◌∙◌, subst, arith}
use Rattle.iso_model.specs.Search.Bodies.{And, Body, Choose, Cut, If, map_body, Or, Run}
use Rattle.iso_model.specs.Terms.Substitutions.{apply, Subst}
use Rattle.iso_model.specs.Terms.Unification.Applied.{apply_apply}
use Rattle.iso_model.specs.Search.Walker.{Goal, Member, State}
use Rattle.iso_store_core.specs.Presents.{Present}
use Rattle.iso_search.specs.EngineStates.{SameUnder}
use Rattle.iso_model.specs.Terms.Trees.{Variable}
use Rattle.iso_model.specs.Terms.Variables.{variables}
use Rattle.iso_model.specs.Search.RunLaws.Sameness.{SameList, Around, Same, going, failing}
use Rattle.iso_model.proofs.Search.RunLaws.SameSteps.{put_alike, same_lists}
use Rattle.iso_program.specs.Values.{HasValues}
use Rattle.iso_search_core.specs.Words.{AreVariables, no_word, one_word}
use Rattle.iso_search.proofs.SameBodies.{around_itself}

module _ {W : Type 0} {p q : Present W} {u : Subst} (h : HasValues p q u) where
  -- the variables of the query
  variables_value : {ws : List W} {ns : List ℕ} → AreVariables p ws ns → map q.substitution ns ≡ map u ns
  variables_value no_word = refl
  variables_value (one_word {w = w} {n = n} holds is others) =
      let value : apply q.substitution (Variable n) ≡ apply u (Variable n) = ap (apply q.substitution) (sym is ∙ sym (h.words.terms w holds)) ∙ (h.means w holds ∙ ap (apply u) is) in
      ap₂ ◌∷◌ value (variables_value others)

  -- words that have their values under a substitution, and goals that have theirs
  pub same_values : (query : List W) (s : State) → q.next ≡ s.next → SameList q.substitution u s.list s.list → AreVariables p query (variables s.query) → SameUnder q.substitution u s
  same_values query s next goals words = record {
    goals = goals;
    shown = variables_value words;
    beyond = λ n above. h.beyond n (omega (arith, next, above));
    twice = h.twice;
  }

-- whatever is in front
around_under : (own : Subst) (s : State) (list behind : List Member) → SameUnder own s.subst (record s { list = behind }) → Around s s → Around (record s { list = list; subst = own }) s
around_under own s list behind h at = record {
  agree = record { shown = h.shown; beyond = h.beyond; twice = h.twice; other = at.agree.other };
  next = refl;
  beside = record { stack = at.beside.stack; world = refl; steps = refl; query = omega arith; built = omega arith };
}

-- the same members
pub same_under : (own : Subst) (s : State) → SameUnder own s.subst s → Same s s → Same (record s { subst = own }) s
same_under own s h (going at list) = same_lists (around_under own s s.list s.list (record { goals = h.goals; shown = h.shown; beyond = h.beyond; twice = h.twice }) at) h.goals
same_under own s h (failing ms ns is are beside) = failing ms ms is is (record { stack = beside.stack; world = refl; steps = refl; query = omega arith; built = omega arith })

-- with a body in front that has the same value
pub same_in_front : (own : Subst) (s : State) (b c : Body) (mark : ℕ) (behind : List Member) → s.list ≡ Goal c mark ∷ behind → map_body own b ≡ map_body s.subst c → SameUnder own s.subst (record s { list = behind }) → Same s s
    → Same (record s { list = Goal b mark ∷ behind; subst = own }) s
same_in_front own s b c mark behind is value h same =
    same_lists (around_under own s (Goal b mark ∷ behind) behind h (around_itself s c mark behind is same))
    (subst (λ (ms : List Member). SameList own s.subst (Goal b mark ∷ behind) ms) (sym is) (put_alike own s.subst behind behind b c mark value h.goals))

-- a body with terms for its variables that have the same values
pub body_under : (own terms u new : Subst) → ((k : ℕ) → apply own (terms k) ≡ apply u (new k)) → (b : Body) → map_body own (map_body terms b) ≡ map_body u (map_body new b)
body_under own terms u new values Cut = refl
body_under own terms u new values (Run t) = ap Run (apply_apply terms own t ∙ ap (λ (s : Subst). apply s t) (λ i. λ k. values k i) ∙ sym (apply_apply new u t))
body_under own terms u new values (And a b) = ap₂ And (body_under own terms u new values a) (body_under own terms u new values b)
body_under own terms u new values (Or a b) = ap₂ Or (body_under own terms u new values a) (body_under own terms u new values b)
body_under own terms u new values (If a b) = ap₂ If (body_under own terms u new values a) (body_under own terms u new values b)
body_under own terms u new values (Choose a b c) =
    let first = body_under own terms u new values a in
    let second = body_under own terms u new values b in
    let third = body_under own terms u new values c in
    λ i. Choose (first i) (second i) (third i)
