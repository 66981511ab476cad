-- Where the head of a clause was met, each of its variables has a word, whatever words came to the store before.
use Rattle.std.proofs.Common.{◌≡◌, ◌<◌, ◌+◌, ℕ, List, [], ◌∷◌, ◌++◌, length, map, drop, Bool, true, Option, Some, None, is_some, refl, sym, ap, ap₂, ◌∙◌, subst, arith}
use Rattle.std.specs.List.{All}
use Rattle.std.proofs.lemmas.Bool.{false≢true}
use Rattle.std.proofs.lemmas.Option.{slice_get_within}
use Rattle.std.proofs.lemmas.List.Elements.{All-head, All-tail, All-weaker}
use Rattle.iso_model.specs.Terms.Trees.{Tree, Apply, row, count}
use Rattle.iso_model.specs.Terms.Substitutions.{Subst, apply}
use Rattle.iso_model.specs.Terms.Copies.{renamed}
use Rattle.iso_model.specs.Terms.Unifiers.{Unifier, NeverEqual}
use Rattle.iso_store_core.specs.Heads.{new_head}
use Rattle.iso_store_core.specs.Presents.{Present, Holds, meaning, KeepsWords, KeepsNumbers, Makes, Grows}
use Rattle.iso_model.specs.Search.Databases as databases
use Rattle.iso_alloc.specs.Plans.{arguments_of}
use Rattle.iso_code.specs.declared.operands.Operand.{Operand}
use Rattle.iso_code.specs.Loaded.{met_behind, part_at, operand_got, all_operands}
use Rattle.iso_store_core.proofs.RetainLemmas.{grows_on, grows_most}
use Rattle.iso_model.specs.Terms.Sizes.{size}
use Rattle.iso_compile.specs.Orders.{parts_cells}
use Rattle.iso_writing.specs.Pushing.{news, cells_of_blocks}
use Rattle.iso_clause_code.proofs.CellLemmas.{kept_grows}
use Rattle.iso_instructions.specs.declared.instructions.Code.{Code}
use Rattle.iso_bodies.specs.Clauses.{none_met}
use Rattle.iso_clause_code.specs.Keeping.{KeepsCode}
use Rattle.iso_clause_code.proofs.EntryLemmas.{kept_entry, kept_whole}
use Rattle.iso_writing.specs.Writing.{Adds}
use Rattle.iso_machine_core.specs.Entering.{IsEntry, Enters, HasEntered, call_of, head_operands}
use Rattle.iso_environments.specs.Met.{HasMet}

module _ {W : Type 0} (p m q : Present W) (adds : Adds p m) where
  means : (w : W) → Holds p w → meaning m w ≡ meaning p w
  means w h = ap₂ apply adds.substitution (adds.words.terms w h)

  means_all : (ws : List W) → All (Holds p) ws → map (meaning m) ws ≡ map (meaning p) ws
  means_all [] hold = refl
  means_all (w ∷ ws) hold =
      ap₂ (λ (t : Tree) (ts : List Tree). t ∷ ts) (means w (All-head (Holds p) w ws hold))
      (means_all ws (All-tail (Holds p) w ws hold))

  same_head : (t : Tree) → new_head m t ≡ new_head p t
  same_head t = ap₂ (λ (s : Subst) (n : ℕ). apply s (renamed n t)) adds.substitution adds.numbers.next

  module _ (f : List ℕ) (arguments : List W) (ts : Tree) (met : ℕ → Bool) (environment : List W)
      (hold : All (Holds p) arguments) (whole : (x : ℕ) → x < length environment → met x ≡ true) where
    same_call : call_of m f arguments ≡ call_of p f arguments
    same_call = ap (λ (us : List Tree). Apply f (row us)) (means_all arguments hold)

    enters_all : Enters m q f arguments ts met environment → Enters p q f arguments ts (λ x. true) environment
    enters_all e = record {
      unifier = e.unifier;
      is = subst (λ (t : Tree). Unifier t (new_head p (Apply f ts)) e.unifier) same_call
          (subst (λ (t : Tree). Unifier (call_of m f arguments) t e.unifier) (same_head (Apply f ts)) e.is);
      values = λ w h. e.values w (adds.words.stand w h) ∙ ap (apply e.unifier) (means w h);
      variables = λ x w is there.
          let one = e.variables x w (whole x (slice_get_within environment x w there)) there in (
            one.0,
            one.1 ∙ ap₂ (λ (s : Subst) (n : ℕ). apply e.unifier (s (n + x))) adds.substitution adds.numbers.next,
          );
      free = λ x low none. absurd (false≢true (sym none));
      beyond = λ n high. e.beyond n high ∙ ap (λ (s : Subst). apply e.unifier (s n)) adds.substitution;
      next = e.next ∙ ap (λ (n : ℕ). n + length environment) adds.numbers.next;
      keeps = record {
        stand = λ w h. e.keeps.stand w (adds.words.stand w h);
        terms = λ w h. e.keeps.terms w (adds.words.stand w h) ∙ adds.words.terms w h;
      };
    }

    pub has_met : (entered : Option ℕ) → HasEntered m q f arguments ts met environment entered
        → HasMet p q f arguments ts environment (is_some entered)
    has_met (Some first) h = enters_all h.1
    has_met None h =
        subst (λ (t : Tree). NeverEqual t (new_head p (Apply f ts))) same_call
        (subst (λ (t : Tree). NeverEqual (call_of m f arguments) t) (same_head (Apply f ts)) h)

    -- what was held before it was entered is held
    pub keeps_met : (entered : Option ℕ) → HasEntered m q f arguments ts met environment entered
        → is_some entered ≡ true → KeepsWords m q
    keeps_met (Some first) h is = h.1.keeps
    keeps_met None h is = absurd (false≢true is)

-- the code of a clause, as what enters it asks for it
pub entry_here : (old new : List (List ℕ)) (code : Code) (c : databases.Clause) (fresh : List Operand) (arity many : ℕ)
    (k : KeepsCode old code c) → new ≡ old → fresh ≡ code.fresh.items → count (arguments_of (Some c.head)) ≡ arity
    → many ≡ code.variables
    → IsEntry new code.head fresh arity many k.plan.registers none_met (arguments_of (Some c.head))
entry_here old new code c fresh arity many k names fresh_is arity_is many_is =
    let ts = arguments_of (Some c.head) in
    let low = k.plan.registers in
    let variables : many ≡ c.variables = many_is ∙ k.loaded.variables in
    subst (λ (ns : List (List ℕ)). IsEntry ns code.head fresh arity many low none_met ts) (sym names)
    (subst (λ (os : List Operand). IsEntry old code.head os arity many low none_met ts) (sym fresh_is)
    (subst (λ (n : ℕ). IsEntry old code.head code.fresh.items n many low none_met ts) arity_is
    (subst (λ (n : ℕ). IsEntry old code.head code.fresh.items (count ts) n low none_met ts) (sym variables)
    (kept_entry old code c k))))

-- each variable has a word behind the head and the fresh ones
pub met_here : (old : List (List ℕ)) (code : Code) (c : databases.Clause) (fresh : List Operand) (many : ℕ)
    → KeepsCode old code c → fresh ≡ code.fresh.items → many ≡ code.variables → (x : ℕ) → x < many
    → met_behind none_met (head_operands code.head ++ fresh) x ≡ true
met_here old code c fresh many k fresh_is many_is x below =
    let variables : many ≡ c.variables = many_is ∙ k.loaded.variables in
    ap (λ (os : List Operand). met_behind none_met (head_operands code.head ++ os) x) fresh_is
    ∙ kept_whole old code c k x (omega (arith, below, variables))

-- words behind others
pub drop_front : {X : Type 0} (xs ys : List X) → drop (length xs) (xs ++ ys) ≡ ys
drop_front [] ys = refl
drop_front (x ∷ xs) ys = drop_front xs ys

-- the words that came behind others are those of the clause
pub met_written : {W : Type 0} (p q : Present W) (f : List ℕ) (arguments : List W) (ts : Tree) (met came : Bool)
    (old own all : List W) → all ≡ old ++ own → came ≡ met → HasMet p q f arguments ts own met
    → HasMet p q f arguments ts (drop (length old) all) came
met_written {W = W} p q f arguments ts met came old own all is same there =
    subst (λ (b : Bool). HasMet p q f arguments ts (drop (length old) all) b) (sym same)
    (subst (λ (ws : List W). HasMet p q f arguments ts ws met)
    (sym (ap (λ (ws : List W). drop (length old) ws) is ∙ drop_front old own)) there)

-- a word came, and then words came
pub adds_two : {W : Type 0} {p q r : Present W} {w : W} {t : Tree} → Makes p q w t → KeepsNumbers p q
    → KeepsWords q r → r.substitution ≡ q.substitution → KeepsNumbers q r → Adds p r
adds_two makes numbers words substitution others = record {
  words = record {
    stand = λ w h. words.stand w (makes.words.stand w h);
    terms = λ w h. words.terms w (makes.words.stand w h) ∙ makes.words.terms w h;
  };
  substitution = substitution ∙ makes.substitution;
  numbers = record { next = others.next ∙ numbers.next; taken = λ n. others.taken n ∙ numbers.taken n };
}

-- growth, where nothing grew before
pub grows_then : {W : Type 0} {p q r s : Present W} (a m n : ℕ) → a ≡ 0 → Grows p q a 0 → Grows q r 0 0 → Grows r s m n
    → Grows p s m n
grows_then a m n none one two three =
    grows_most m n (omega (arith, none)) (omega arith) (grows_on (grows_on one two) three)

pub entered_grows : {W : Type 0} {p q : Present W} (names : List (List ℕ)) (code : Code) (c : databases.Clause)
    (k : KeepsCode names code c) (fresh : List Operand) → fresh ≡ code.fresh.items
    → Grows p q (parts_cells (map (part_at [] 0) (map operand_got code.head.gets.items))
    + cells_of_blocks code.head.blocks.items + news (all_operands code.head.blocks.items) + news fresh)
    (news (all_operands code.head.blocks.items) + news fresh)
    → Grows p q (c.variables + size (arguments_of (Some c.head))) c.variables
entered_grows {p = p} {q = q} names code c k fresh is grows =
    kept_grows names code c k (subst (λ (os : List Operand).
    Grows p q (parts_cells (map (part_at [] 0) (map operand_got code.head.gets.items))
    + cells_of_blocks code.head.blocks.items + news (all_operands code.head.blocks.items) + news os)
    (news (all_operands code.head.blocks.items) + news os)) is grows)

-- what was held is held
pub all_held : {W : Type 0} {p q : Present W} (words others : List W) → Adds p q → others ≡ words
    → All (Holds p) words → All (Holds q) others
all_held {p = p} {q = q} words others adds same hold =
    subst (All (Holds q)) (sym same) (All-weaker (Holds p) (Holds q) (λ w h. adds.words.stand w h) words hold)
