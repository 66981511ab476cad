-- The head of a clause met the arguments of a call: what that says of the call, of words, and of the clause's body.
use Rattle.std.proofs.Common.{◌≡◌, ◌≢◌, ◌<◌, ◌+◌, ◌++◌, ℕ, zero, suc, List, [], ◌∷◌, length, map, get_or, true, false, Option, Some, refl, ap, ap₂, ◌∙◌, sym, subst, arith}
use Rattle.std.specs.List.{All, slice_get}
use Rattle.std.proofs.lemmas.List.{length-map}
use Rattle.std.proofs.lemmas.Option.{slice_get-get_or}
use Rattle.iso_atoms.specs.Texts.{text_at}
use Rattle.iso_model.specs.Terms.Trees.{Tree, Name}
use Rattle.iso_model.specs.Terms.Sorts.{is_term}
use Rattle.iso_model.specs.Terms.Substitutions.{apply, compose, IsSubstitution}
use Rattle.iso_model.specs.Terms.Unification.Applied.{apply_apply}
use Rattle.iso_model.specs.Terms.Unifiers.{Unifier, NeverEqual}
use Rattle.iso_model.specs.Search.Databases as databases
use Rattle.iso_model.specs.Search.Keys.{Key, key, key_of}
use Rattle.iso_model.proofs.OnTerms.UnifierLemmas.{substitution_twice}
use Rattle.iso_store_core.specs.Presents.{Present, Holds, meaning}
use Rattle.iso_store_core.specs.Heads.{new_head}
use Rattle.iso_program.specs.Values.{HasValues}
use Rattle.iso_search_core.specs.Words.{word_terms}
use Rattle.iso_alloc.specs.Plans.{arguments_of}
use Rattle.iso_clause_code.specs.Keeping.{KeepsCode}
use Rattle.iso_environments.specs.Entered.{HasEnvironment}
use Rattle.iso_environments.specs.Met.{HasMet}
use Rattle.iso_instructions.specs.declared.instructions.Code.{Code}
use Rattle.iso_model.specs.Search.Walker.{Member}
use Rattle.iso_compile.specs.Clauses.{body_members}
use Rattle.iso_compile.specs.Control as compiled
use Rattle.iso_plain_core.proofs.EnteringLemmas.{adds_none}
use Rattle.iso_frames.specs.declared.frames.Rest.{Rest}
use Rattle.iso_frames.specs.Frames.{Chain}
use Rattle.iso_frames.specs.Running.{placed}
use Rattle.iso_frames.proofs.ChainLemmas.{chain_pushed}
use Rattle.iso_environments.specs.Stacks.{stack}
use Rattle.iso_environments.specs.Entered.{clause_members}
use Rattle.iso_machine.specs.declared.framed.Framed.{Framed}
use Rattle.iso_machine.specs.declared.entering.Entered.{Entered}
use Rattle.iso_machine.specs.declared.entering.Entered.TheVariants as entered
use Rattle.iso_machine.specs.Entered.{Begins, Comes, IfAt}
use Rattle.iso_environments.specs.Goals.{goal_of}
use Rattle.iso_machine.specs.Lists.{IsList, IsPut, extent_of}
use Rattle.iso_machine.specs.Wholes.{whole_list}
use Rattle.iso_machine.proofs.GoalLemmas.{same_unified, same_never, other_never}

-- the word at a place
word_at : {W : Type 0} (q : Present W) (ws : List W) (x : ℕ) → x < length ws
    → (w : W) × (slice_get ws x ≡ Some w) × (word_terms q ws x ≡ q.term w)
word_at q [] x below = absurd (omega (arith, below))
word_at q (w ∷ ws) zero below = (w, refl, refl)
word_at q (w ∷ ws) (suc x) below = word_at q ws x (omega (arith, below))

module _ {W : Type 0} (p q : Present W) (f : List ℕ) (arguments : List W) (head : Tree)
    (is : is_term head ≡ true) (same : key_of head ≡ Some (key f (length arguments))) where
  -- the key, with the terms of the arguments
  same_key : key_of head ≡ Some (key f (length (map (meaning p) arguments)))
  same_key = same ∙ ap (λ (n : ℕ). Some (key f n)) (sym (length-map arguments (meaning p)))

  -- the call is this goal
  abbrev pub call_is : Tree
  call_is = goal_of f (map (meaning p) arguments)

  pub never_met : (environment : List W) → HasMet p q f arguments (arguments_of (Some head)) environment false
      → NeverEqual call_is (new_head p head)
  never_met environment h = same_never f p.next p.substitution (map (meaning p) arguments) head is same_key h

  module _ (environment : List W) (h : HasMet p q f arguments (arguments_of (Some head)) environment true) where
    pub met_unifies : Unifier call_is (new_head p head) h.unifier
    met_unifies = same_unified f p.next p.substitution (map (meaning p) arguments) head h.unifier is same_key h.is

    -- words that stood have their values
    pub met_values : IsSubstitution q.substitution → HasValues p q (compose p.substitution h.unifier)
    met_values own = record {
      words = h.keeps;
      means = λ w holds. h.values w holds ∙ apply_apply p.substitution h.unifier (p.term w);
      beyond = h.beyond;
      twice = substitution_twice own;
    }

    -- each word of the environment stands
    pub met_hold : All (Holds q) environment
    met_hold k d below = (h.variables k (get_or environment k d) refl (slice_get-get_or environment k d below)).0

    -- and has the value of its variable
    pub met_variables : (x : ℕ) → x < length environment
        → apply q.substitution (word_terms q environment x) ≡ apply h.unifier (p.substitution (p.next + x))
    met_variables x below =
        let word = word_at q environment x below in
        ap (apply q.substitution) word.2 ∙ (h.variables x word.0 refl word.1).1

-- ---- where the list begins

module _ {S W M : Type 0} (atom_word : ℕ → W) {p : Present W} (l : Framed S W M) {names : List (List ℕ)} {code : Code}
    {c : databases.Clause} (below words : List W) (are : l.words.items ≡ below ++ words)
    (has : HasEnvironment atom_word p names code c words) (height : ℕ) {rest : Option Rest} {ms : List Member}
    (list : Chain atom_word p (stack l.nodes.items l.frames.items below) rest ms) where
  -- a body that is no goal
  pub fact_list : body_members true c.body ≡ []
      → IsList atom_word p l (extent_of l) rest (clause_members p words height c ++ ms)
  fact_list none =
      let members : clause_members p words height c ≡ [] =
      ap (λ (xs : List compiled.Member). placed (word_terms p words) height (λ slot. 0) xs) none in
      subst (λ (xs : List Member). IsList atom_word p l (extent_of l) rest (xs ++ ms)) (sym members)
      (whole_list atom_word l (chain_pushed atom_word
      (record { nodes = adds_none l.nodes.items; frames = adds_none l.frames.items; words = (words, are) })
      (record { stand = λ w h. h; terms = λ w h. refl }) list))

-- ---- the arguments that were put

name_text : {f g : List ℕ} → Name f ≡ Name g → f ≡ g
name_text e = cc

module _ {S W M : Type 0} (atom_word : ℕ → W) {p : Present W} (l : Framed S W M) {atom : ℕ} {goal : Tree}
    (is : IsPut atom_word p l atom goal) where
  -- the goal's name, by the atom's
  pub call_named : (text : List ℕ) → p.term (atom_word atom) ≡ Name text → is.name ≡ text
  call_named text named = name_text (sym is.named ∙ named)

  -- the key of a head that was found to be its own
  pub call_key : (text : List ℕ) → is.name ≡ text → (head : Tree)
      → key_of head ≡ Some (key text (length l.arguments.items))
      → key_of head ≡ Some (key is.name (length l.arguments.items))
  call_key text named head same = same ∙ ap (λ (f : List ℕ). Some (key f (length l.arguments.items))) (sym named)

  -- a head of another key never equals it
  pub call_other : (text : List ℕ) → is.name ≡ text → (head : Tree) → is_term head ≡ true → (x : Key)
      → key_of head ≡ Some x → key_of head ≢ Some (key text (length l.arguments.items))
      → NeverEqual goal (new_head p head)
  call_other text named head term x has other =
      let args = l.arguments.items in
      subst (λ (t : Tree). NeverEqual t (new_head p head)) (sym is.is)
      (other_never is.name p.next p.substitution (map (meaning p) args) head term x has
      (λ same. other
      (same ∙ ap₂ (λ (f : List ℕ) (n : ℕ). Some (key f n)) named (length-map args (meaning p)))))

-- ---- the clause was entered

module _ {W : Type 0} (atom_word : ℕ → W) (p q : Present W) {names : List (List ℕ)} {code : Code}
    {c : databases.Clause} (keeps : KeepsCode names code c) (f : List ℕ) (arguments environment : List W)
    (same : key_of c.head ≡ Some (key f (length arguments)))
    (h : HasMet p q f arguments (arguments_of (Some c.head)) environment true)
    (many : length environment ≡ code.variables) where
  -- the words are for its variables
  pub met_environment : ((n : ℕ) → n < length names → Holds q (atom_word n))
      → ((n : ℕ) → Holds q (atom_word n) → q.term (atom_word n) ≡ Name (text_at names n))
      → HasEnvironment atom_word q names code c environment
  met_environment known named = record {
    keeps = keeps;
    known = λ n below. (let holds = known n below in (holds, named n holds));
    many = many;
    hold = met_hold p q f arguments c.head keeps.head.is same environment h;
  }

  pub met_begins : {S M : Type 0} (call : Tree) (height : ℕ) (ms : List Member) (l : Framed S W M) (place : Option Rest)
      → call ≡ goal_of f (map (meaning p) arguments) → IsSubstitution q.substitution
      → IsList atom_word q l (extent_of l) place (clause_members q environment height c ++ ms)
      → Begins atom_word p q call c height ms l place
  met_begins call height ms l place is own list =
      let variables : length environment ≡ c.variables = many ∙ keeps.loaded.variables in
      record {
        unifier = h.unifier;
        is = subst (λ (t : Tree). Unifier t (new_head p c.head) h.unifier) (sym is)
            (met_unifies p q f arguments c.head keeps.head.is same environment h);
        values = met_values p q f arguments c.head keeps.head.is same environment h own;
        next = h.next ∙ ap (λ (n : ℕ). p.next + n) variables;
        words = environment;
        variables = λ x below. met_variables p q f arguments c.head keeps.head.is same environment h x
            (omega (arith, below, variables));
        list = list;
      }

-- whatever the answer is that says where the list begins
pub comes_at : {S W M : Type 0} (atom_word : ℕ → W) (p q : Present W) (call : Tree) (c : databases.Clause) (height : ℕ)
    (ms : List Member) (l : Framed S W M) (e : Entered) (P : Option Rest → Type 0) → (e ≡ entered.Missed → ⊥)
    → ((place : Option Rest) → P place → Begins atom_word p q call c height ms l place) → IfAt e P
    → Comes atom_word p q call c height ms l e
comes_at atom_word p q call c height ms l entered.Missed P other begins at = absurd (other refl)
comes_at atom_word p q call c height ms l entered.Last P other begins at = tt
comes_at atom_word p q call c height ms l (entered.At place) P other begins at = begins place at

-- a weaker fact of the place
pub at_weaker : (e : Entered) (P Q : Option Rest → Type 0) → ((place : Option Rest) → P place → Q place) → IfAt e P
    → IfAt e Q
at_weaker entered.Missed P Q weaker h = tt
at_weaker entered.Last P Q weaker h = tt
at_weaker (entered.At place) P Q weaker h = weaker place h
