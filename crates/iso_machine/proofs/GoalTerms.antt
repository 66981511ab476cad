-- Goals by their names and arguments.
use Rattle.std.proofs.Common.{◌≡◌, ◌<◌, ℕ, suc, List, [], ◌∷◌, ◌++◌, ◌&&◌, nat_le, get_or, length, map, true, Some, inl, inr, refl, ap, ap₂, sym, ◌∙◌, arith}
use Rattle.std.specs.List.{All}
use Rattle.std.proofs.lemmas.Bool.{and_parts}
use Rattle.std.proofs.lemmas.Bool.Decides.{nat_tests}
use Rattle.std.proofs.lemmas.List.{length-map}
use Rattle.std.proofs.lemmas.Option.{slice_get_within}
use Rattle.iso_atoms.specs.Texts.{text_at}
use Rattle.iso_model.specs.Terms.Trees.{Tree, Variable, Integer, Name, Apply, End, More, row, count}
use Rattle.iso_model.specs.Terms.Arguments.{arity}
use Rattle.iso_model.specs.Terms.Sorts.{is_term, is_row}
use Rattle.iso_model.specs.Terms.Substitutions.{Subst, apply}
use Rattle.iso_model.specs.Terms.Unification.Applied.{apply_apply}
use Rattle.iso_model.specs.Search.Bodies.{Run}
use Rattle.iso_model.specs.Search.Keys.{Key, key, key_of}
use Rattle.iso_model.specs.Search.RunLaws.Sameness.{open_list}
use Rattle.iso_model.proofs.Search.RunLaws.Opening.{begins_before}
use Rattle.iso_model.specs.Search.Walker.{Member, Goal}
use Rattle.iso_model.proofs.OnTerms.SortLemmas.{count-apply, row_of_arguments}
use Rattle.iso_store_core.specs.Presents.{Present, Holds, KeepsWords, meaning}
use Rattle.iso_store_core.specs.ArgumentWords.{AreArguments}
use Rattle.iso_program.specs.Firsts.{IsFirstArgument}
use Rattle.iso_program.specs.Kept.{IsTemplate}
use Rattle.iso_program.proofs.ClauseLemmas.{few_arguments}
use Rattle.iso_search_core.specs.Replies.{HasName}
use Rattle.iso_search_core.specs.Words.{word_terms}
use Rattle.iso_search_core.proofs.GoalLemmas.{arguments_row}
use Rattle.iso_instructions.specs.declared.instructions.Code.{Code}
use Rattle.iso_instructions.specs.declared.instructions.Goal as instruction
use Rattle.iso_instructions.specs.declared.instructions.Instruction.TheVariants.{Call, Execute, Proceed, Jump}
use Rattle.iso_frames.specs.declared.frames.Rest.{Rest}
use Rattle.iso_frames.specs.Running.{Stops}
use Rattle.iso_frames.specs.Frames.{Stack, Chain, environment}
use Rattle.iso_frames.proofs.ChainLemmas.{AtClause, chain_clause}
use Rattle.iso_frames.proofs.LeftLemmas.{CallLeft, ExecuteLeft, left_acts}
use Rattle.iso_environments.specs.Goals.{goal_of}
use Rattle.iso_environments.specs.Putting.{HasPut, IsCallThere, IsCalledAt}
use Rattle.iso_environments.specs.declared.putting.Put.{Put}

-- ---- names and arguments

row_many : (ts : List Tree) → count (row ts) ≡ length ts
row_many [] = refl
row_many (t ∷ ts) = (let more = row_many ts in omega (arith, more))

pub goal_key : (f : List ℕ) (ts : List Tree) → key_of (goal_of f ts) ≡ Some (key f (length ts))
goal_key f [] = refl
goal_key f (t ∷ ts) = ap (λ (n : ℕ). Some (key f n)) (row_many (t ∷ ts))

pub goal_arity : (f : List ℕ) (ts : List Tree) → arity (goal_of f ts) ≡ length ts
goal_arity f [] = refl
goal_arity f (t ∷ ts) = row_many (t ∷ ts)

-- the value of its first argument
pub goal_first : {W : Type 0} (p : Present W) (ws : List W) (w : W) (f : List ℕ) → 0 < length ws → w ≡ get_or ws 0 w
    → IsFirstArgument p (Some w) (goal_of f (map (meaning p) ws))
goal_first p [] w f some is = absurd (omega (arith, some))
goal_first p (v ∷ ws) w f some is =
    (let many = goal_arity f (map (meaning p) (v ∷ ws)) in omega (arith, many), ap (meaning p) (sym is))

-- a goal is its name with the words of its arguments
pub goal_named : {W : Type 0} (p : Present W) (ws : List W) (t : Tree) (f : List ℕ) → HasName f t → is_term t ≡ true
    → AreArguments p ws t → t ≡ goal_of f (map (meaning p) ws)
goal_named p [] (Name a) f named fits are = ap Name named
goal_named p (w ∷ ws) (Name a) f named fits are = absurd (let many = are.count in omega (arith, many))
goal_named p [] (Apply g ts) f named fits are =
    let many = are.count in
    let some = and_parts (nat_le 1 (count ts)) (nat_le (count ts) 255 && is_row ts) fits in
    absurd (grind (arith, nat_tests, many, some.0))
goal_named p (w ∷ ws) (Apply g ts) f named fits are =
    ap₂ Apply named (sym (arguments_row p (w ∷ ws) (Apply g ts) fits are))
goal_named p ws t f named fits are = absurd named

-- so it has few
pub goal_few : {W : Type 0} (p : Present W) (ws : List W) (t : Tree) (f : List ℕ) → HasName f t → is_term t ≡ true
    → AreArguments p ws t → length ws < 256
goal_few p ws (Name a) f named fits are = (let many = are.count in omega (arith, many))
goal_few p ws (Apply g ts) f named fits are =
    let many = are.count in
    let few = few_arguments (Apply g ts) (key g (count ts)) fits refl in
    omega (arith, many, few)
goal_few p ws t f named fits are = absurd named

-- words that stand on mean what they did, where no binding changed
pub words_mean : {W : Type 0} {p q : Present W} (ws : List W) → KeepsWords p q → q.substitution ≡ p.substitution
    → All (Holds p) ws → map (meaning q) ws ≡ map (meaning p) ws
words_mean [] keeps same hold = refl
words_mean {p = p} {q = q} (w ∷ ws) keeps same hold =
    ap₂ ◌∷◌
    (ap₂ (λ (s : Subst) (t : Tree). apply s t) same (keeps.terms w (hold 0 w (omega arith))))
    (words_mean ws keeps same (λ k d within. hold (suc k) d (omega (arith, within))))

-- ---- the goal that an instruction calls

-- the key of a callable term stays under a substitution
key_under : (s : Subst) (t : Tree) (k : Key) → is_term t ≡ true → key_of t ≡ Some k → key_of (apply s t) ≡ Some k
key_under s (Name a) k term h = h
key_under s (Apply f ts) k term h = ap (λ (n : ℕ). Some (key f n)) (count-apply s ts (row_of_arguments f ts term)) ∙ h
key_under s (Variable n) k term h = absurd (cc h)
key_under s (Integer z) k term h = absurd (cc h)
key_under s End k term h = absurd (cc h)
key_under s (More t ts) k term h = absurd (cc h)

-- a goal that is made of a template, by its value, has few arguments
template_few : {n : ℕ} (r s : Subst) (t term : Tree) (f : List ℕ) (us : List Tree) → IsTemplate n t
    → term ≡ apply s t → apply r term ≡ goal_of f us → length us < 256
template_few r s t term f us template is value =
    let there = template.key in
    let under = key_under (λ (x : ℕ). apply r (s x)) t there.0 template.is there.1 in
    let whole : apply r term ≡ apply (λ (x : ℕ). apply r (s x)) t = ap (apply r) is ∙ apply_apply s r t in
    let keys : Some (key f (length us)) ≡ Some there.0 =
    sym (goal_key f us) ∙ (ap key_of (sym value ∙ whole) ∙ under) in
    let same : key f (length us) ≡ there.0 = cc in
    let few = few_arguments t there.0 template.is there.1 in
    let many = ap (λ (k : Key). k.arity) same in
    omega (arith, many, few)

-- a call does something
pub call_stops : (code : Code) (a : ℕ) (g : instruction.Goal) → IsCalledAt code.body.items a g → Stops code a
call_stops code a g (inl there) = record {
  inside = slice_get_within code.body.items a (Call g) there;
  proceed = λ is. (let none : Some (Call g) ≡ Some Proceed = sym there ∙ is in cc);
  jump = λ l is. (let none : Some (Call g) ≡ Some (Jump l) = sym there ∙ is in cc);
}
call_stops code a g (inr there) = record {
  inside = slice_get_within code.body.items a (Execute g) there;
  proceed = λ is. (let none : Some (Execute g) ≡ Some Proceed = sym there ∙ is in cc);
  jump = λ l is. (let none : Some (Execute g) ≡ Some (Jump l) = sym there ∙ is in cc);
}

-- the goal that comes first is made of the template
put_is : {W : Type 0} (atom_word : ℕ → W) {q : Present W} {k : Stack W} {all : List Member} {names : List (List ℕ)}
    {put : Put} {arguments : List W} (h : HasPut atom_word names q k put arguments all)
    (ms behind front : List Member) (t : Tree) (m : ℕ) → all ≡ ms ++ behind → open_list ms ≡ Goal (Run t) m ∷ front
    → h.term ≡ t
put_is atom_word h ms behind front t m is are =
    let same : Goal (Run h.term) h.mark ∷ h.behind ≡ Goal (Run t) m ∷ (front ++ behind) =
    sym h.is ∙ (ap open_list is ∙ begins_before ms (Goal (Run t) m) front behind are) in
    cc

module _ {W : Type 0} (atom_word : ℕ → W) {p q : Present W} {k : Stack W} {r : Rest} {all : List Member}
    {names : List (List ℕ)} {put : Put} {arguments : List W} where
  -- what was put for a goal are few words
  pub put_few : Chain atom_word p k (Some r) all → IsCallThere k.frames r → HasPut atom_word names q k put arguments all
      → length arguments < 256
  put_few list (g, there) h =
      by_code (chain_clause atom_word there.clause.at there.code there.level there.clause.work list) there.called
    where
      words : List W
      words = environment k.words there.frame.top there.code.value

      by_template : {n : ℕ} (t : Tree) → IsTemplate n t → h.term ≡ apply (word_terms p words) t
          → length arguments < 256
      by_template t template is =
          let few = template_few q.substitution (word_terms p words) t h.term (text_at names put.name)
          (map (meaning q) arguments) template is h.value in
          let many = length-map arguments (meaning q) in
          omega (arith, few, many)

      by_code : AtClause atom_word p k r there.frame there.code there.level all
          → IsCalledAt there.code.value.body.items r.address g → length arguments < 256
      by_code at (inl call) =
          let left : CallLeft atom_word p there.code.value words there.frame.height at.kept r.address at.ms g =
          left_acts atom_word p there.code.value words there.frame.height at.left
          (call_stops there.code.value r.address g (inl call)) (Call g) call in
          by_template left.goal left.template
          (put_is atom_word h at.ms at.behind left.behind (apply (word_terms p words) left.goal) left.mark at.is
          left.are)
      by_code at (inr call) =
          let left : ExecuteLeft atom_word p there.code.value words there.frame.height at.kept r.address at.ms g =
          left_acts atom_word p there.code.value words there.frame.height at.left
          (call_stops there.code.value r.address g (inr call)) (Execute g) call in
          by_template left.goal left.template
          (put_is atom_word h at.ms at.behind [] (apply (word_terms p words) left.goal) left.mark at.is left.are)
