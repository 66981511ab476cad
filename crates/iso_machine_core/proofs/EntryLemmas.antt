-- A clause is entered.
use Rattle.std.proofs.Common.{◌≡◌, ◌+◌, ◌<◌, ◌≤◌, ◌++◌, ℕ, zero, suc, Bool, true, false, List, [], ◌∷◌, length, map, Option, Some, None, slice_get, option_map, nat_le, inl, inr, pos, refl, sym, ap, ap₂, subst, ◌∙◌, arith}
use Rattle.std.specs.List.{All}
use Rattle.std.proofs.lemmas.Bool.{false≢true, and_from, cases_Bool, eq-eqb, ne_eqb, or_left, or_right, or_from}
use Rattle.std.proofs.lemmas.Option.{slice_get_within, get_or_from_slice_get}
use Rattle.iso_model.specs.Terms.Trees.{Tree, Variable, Integer, Name, Apply, End, More, row, count}
use Rattle.iso_model.specs.Terms.Sorts.{is_term, is_row}
use Rattle.iso_model.specs.Terms.Variables.{occurs}
use Rattle.iso_model.specs.Terms.Substitutions.{Subst, apply, compose, IsSubstitution}
use Rattle.iso_model.specs.Terms.Copies.{renamed}
use Rattle.iso_model.specs.Terms.Unifiers.{Unifier, NeverEqual, IsUnifierOf}
use Rattle.iso_model.specs.Terms.Unification.{unifier_of, unifier_of_is}
use Rattle.iso_model.specs.Terms.Unification.Applied.{apply_none, apply_apply, apply_same}
use Rattle.iso_model.specs.Terms.Unification.Bindings.{unifier_leaves}
use Rattle.iso_store_core.specs.Heads.{new_head}
use Rattle.iso_store_core.specs.Presents.{Present, Holds, meaning, KeepsWords, MovesOn, Untouched}
use Rattle.iso_compile.specs.Table.{Registers}
use Rattle.iso_compile.specs.Heads.{HaveRow, Meets, head_run}
use Rattle.iso_compile.specs.CodeLaws.{State, left}
use Rattle.iso_code.specs.declared.operands.Operand.{Operand}
use Rattle.iso_code.specs.declared.operands.Head.{Head}
use Rattle.iso_code.specs.Loaded.{block_at, get_at, AreMarked, met_behind}
use Rattle.iso_code.specs.Standing.{IsFor, Steps, Carries, Files, files, Setting, Stands, Ready, Ends}
use Rattle.iso_code.proofs.StandLemmas.{some_word}
use Rattle.iso_writing.specs.Writing.{Adds, Widens, MakesVariables}
use Rattle.iso_machine_core.specs.Filling.{AreFillers}
use Rattle.iso_machine_core.specs.Heads.{MeetsHead}
use Rattle.iso_code.proofs.MarkLemmas.{marked_both, behind_both}
use Rattle.iso_machine_core.specs.Entering.{IsEntry, Enters, call_of, head_operands}

-- what is true of each word is true of the one at a place
pub all_there : {X : Type 0} (P : X → Type 0) (xs : List X) (k : ℕ) (x : X) → All P xs → slice_get xs k ≡ Some x → P x
all_there P xs k x all there = subst P (get_or_from_slice_get xs k x x there) (all k x (slice_get_within xs k x there))

not_le : (m n : ℕ) → nat_le m n ≡ false → n < m
not_le m n h = grind (arith, h)

is_le : (m n : ℕ) → nat_le m n ≡ true → m ≤ n
is_le m n h = grind (arith, h)

above : (first m x : ℕ) → nat_le m (first + x) ≡ false → first ≤ m
above first m x over = (let high = not_le m (first + x) over in omega (arith, high))

-- nothing is bound
nothing_bound : IsSubstitution Variable
nothing_bound = record { finite = (0, λ n high. refl); idempotent = λ n m other. absurd (other refl) }

module _ {W : Type 0} (p : Present W) where
  -- the terms of the table's registers, where these words are the arguments
  abbrev pub register_terms : List W → Registers
  register_terms [] r = Integer (pos 0)
  register_terms (w ∷ ws) zero = meaning p w
  register_terms (w ∷ ws) (suc r) = register_terms ws r

  terms_there : (ws : List W) (r : ℕ) (w : W) → slice_get ws r ≡ Some w → register_terms ws r ≡ meaning p w
  terms_there (v ∷ ws) zero w h = ap (meaning p) (some_word v w h)
  terms_there (v ∷ ws) (suc r) w h = terms_there ws r w h
  terms_there [] r w h = grind (arith, h)

  terms_past : (ws : List W) (r : ℕ) → length ws ≤ r → register_terms ws r ≡ Integer (pos 0)
  terms_past [] r h = refl
  terms_past (w ∷ ws) zero h = absurd (omega (arith, h))
  terms_past (w ∷ ws) (suc r) h = terms_past ws r (omega (arith, h))

  terms_sorted : ((w : W) → p.holds w ≡ true → is_term (meaning p w) ≡ true) → (ws : List W) → All (Holds p) ws → (r : ℕ) → is_term (register_terms ws r) ≡ true
  terms_sorted sorted [] hold r = refl
  terms_sorted sorted (w ∷ ws) hold zero = sorted w (hold 0 w (omega arith))
  terms_sorted sorted (w ∷ ws) hold (suc r) = terms_sorted sorted ws (λ k d h. hold (suc k) d (omega (arith, h))) r

  row_sorted : ((w : W) → p.holds w ≡ true → is_term (meaning p w) ≡ true) → (ws : List W) → All (Holds p) ws → is_row (row (map (meaning p) ws)) ≡ true
  row_sorted sorted [] hold = refl
  row_sorted sorted (w ∷ ws) hold =
      and_from (is_term (meaning p w)) (is_row (row (map (meaning p) ws))) (sorted w (hold 0 w (omega arith))) (row_sorted sorted ws (λ k d h. hold (suc k) d (omega (arith, h))))

  row_count : (ws : List W) → count (row (map (meaning p) ws)) ≡ length ws
  row_count [] = refl
  row_count (w ∷ ws) = (let h = row_count ws in omega (arith, h))

  have_row : (rs : Registers) (i : ℕ) (ws : List W) → ((k : ℕ) → rs (i + k) ≡ register_terms ws k) → HaveRow rs i (row (map (meaning p) ws))
  have_row rs i [] h = tt
  have_row rs i (w ∷ ws) h = (
    (let e : i + 0 ≡ i = omega arith in ap rs (sym e) ∙ h 0),
    have_row rs (i + 1) ws (λ k. (let e : i + 1 + k ≡ i + suc k = omega arith in ap rs e ∙ h (suc k))),
  )

-- ---- a clause is about to be entered

module _ {W : Type 0} (p p1 p2 : Present W) (first variables : ℕ) (number : first ≡ p.next) (words : KeepsWords p p1) (same : p1.substitution ≡ p.substitution)
    (numbers : MovesOn p p1 variables) (untaken : (n : ℕ) → first ≤ n → p1.taken n ≡ false) (adds : Adds p1 p2) where
  kept : KeepsWords p p2
  kept = record { stand = λ w h. adds.words.stand w (words.stand w h); terms = λ w h. adds.words.terms w (words.stand w h) ∙ words.terms w h }

  bound : p2.substitution ≡ p.substitution
  bound = adds.substitution ∙ same

  means : (w : W) → p.holds w ≡ true → meaning p2 w ≡ meaning p w
  means w h = ap₂ apply bound (kept.terms w h)

  pub entry_ready : (names : List (List ℕ)) (head : Head) (fresh : List Operand) (es as_ cs : List W) (low : ℕ) (met : ℕ → Bool) (ts : Tree) → IsEntry names head fresh (length as_) (length es) low met ts
      → length es ≡ variables → All (Holds p) as_ → AreFillers p2 cs
      → Ready p2 (files es as_ cs) (record { first = first; count = variables; low = low }) met (record { subst = Variable; registers = register_terms p as_ })
  entry_ready names head fresh es as_ cs low met ts entry room hold fill = record {
    stands = record {
      substitution = nothing_bound;
      known = record {
        variables = λ x w is there. absurd (false≢true (sym (entry.none x (slice_get_within es x w there)) ∙ is));
        compounds = λ k w there. subst (λ t. IsFor p2 p2.substitution Variable w t) (sym (terms_past p as_ (low + k) (omega (arith, entry.apart)))) (fill p2.substitution Variable k w there);
      };
      arguments = λ r w there. (let stands = held r w there in record {
        holds = kept.stand w stands;
        same = means w stands ∙ sym (terms_there p as_ r w there) ∙ sym (apply_none (register_terms p as_ r));
      });
      free = λ x low none. record { taken = adds.numbers.taken (first + x) ∙ untaken (first + x) (omega arith); alone = refl };
      reserved = (let n = adds.numbers.next in let m = numbers.next in omega (arith, n, m, number));
      room = room;
      apart = entry.apart;
    };
    youngest = λ x m low none taken. below m (sym (adds.numbers.taken m) ∙ taken) x;
  }
    where
      held : (r : ℕ) (w : W) → slice_get as_ r ≡ Some w → p.holds w ≡ true
      held r w there = all_there (Holds p) as_ r w hold there

      below : (m : ℕ) → p1.taken m ≡ true → (x : ℕ) → m ≤ first + x
      below m taken x = elim (cases_Bool (nat_le m (first + x))) [
        | inl under ↦ is_le m (first + x) under
        | inr over ↦ absurd (false≢true (sym (untaken m (above first m x over)) ∙ taken))
      ]

-- ---- it was entered, or not

-- no variable occurs in a row of words of a store that has none of its number
row_without : {W : Type 0} (p : Present W) (n : ℕ) → Untouched p n → (ws : List W) → All (Holds p) ws → occurs n (row (map (meaning p) ws)) ≡ false
row_without p n clean [] hold = refl
row_without p n clean (w ∷ ws) hold = or_from (occurs n (meaning p w)) (occurs n (row (map (meaning p) ws))) (clean.meanings w (hold 0 w (omega arith))) (row_without p n clean ws (λ k d h. hold (suc k) d (omega (arith, h))))

-- nor in a term with other variables that are numbered anew
renamed_without : (next variables n : ℕ) (t : Tree) → ((x : ℕ) → occurs x t ≡ true → x < variables) → next + variables ≤ n → occurs n (renamed next t) ≡ false
renamed_without next variables n (Variable x) places high = ne_eqb (next + x) n (λ e. (let low = places x (eq-eqb x x refl) in omega (arith, low, e, high)))
renamed_without next variables n (Integer z) places high = refl
renamed_without next variables n (Name a) places high = refl
renamed_without next variables n (Apply f ts) places high = renamed_without next variables n ts places high
renamed_without next variables n End places high = refl
renamed_without next variables n (More t ts) places high =
    or_from (occurs n (renamed next t)) (occurs n (renamed next ts)) (renamed_without next variables n t (λ x o. places x (or_left (occurs x t) (occurs x ts) o)) high) (renamed_without next variables n ts (λ x o. places x (or_right (occurs x t) (occurs x ts) o)) high)

-- a head whose variables are still to come is the same under the bindings
head_is : {W : Type 0} (p : Present W) → ((n : ℕ) → p.taken n ≡ false → Untouched p n) → ((n : ℕ) → p.next ≤ n → p.taken n ≡ false) → (t : Tree) → new_head p t ≡ renamed p.next t
head_is p clean untaken t =
    apply_apply (λ x. Variable (p.next + x)) p.substitution t ∙ apply_same (compose (λ x. Variable (p.next + x)) p.substitution) (λ x. Variable (p.next + x)) t (λ x o. (clean (p.next + x) (untaken (p.next + x) (omega arith))).substitution)

-- the table comes to nothing where the answer is false
ends_none : {W : Type 0} (p q : Present W) (s : Subst) (f : Files W) (t : Setting) (met : ℕ → Bool) (r : Option State) → Ends p s q f t met false r → r ≡ None
ends_none p q s f t met None h = refl
ends_none p q s f t met (Some n) h = absurd h

module _ {W : Type 0} (p p1 p2 : Present W) (first variables : ℕ) (number : first ≡ p.next) (words : KeepsWords p p1) (same : p1.substitution ≡ p.substitution)
    (numbers : MovesOn p p1 variables) (untaken : (n : ℕ) → first ≤ n → p1.taken n ≡ false) (adds : Adds p1 p2)
    (clean : (n : ℕ) → p.taken n ≡ false → Untouched p n) (coming : (n : ℕ) → p.next ≤ n → p.taken n ≡ false) (sorted : (w : W) → p.holds w ≡ true → is_term (meaning p w) ≡ true)
    (names : List (List ℕ)) (head : Head) (fresh : List Operand) (es as_ cs : List W) (low : ℕ) (met : ℕ → Bool) (ts : Tree) (entry : IsEntry names head fresh (length as_) (length es) low met ts)
    (room : length es ≡ variables) (hold : All (Holds p) as_) (fill : AreFillers p2 cs) (f : List ℕ) where
  setting : Setting
  setting = record { first = first; count = variables; low = low }

  abbrev beginning : State
  beginning = record { subst = Variable; registers = register_terms p as_ }

  abbrev table : Option State
  table = head_run first (map (get_at names low) head.gets.items) (map (block_at names low) head.blocks.items) Variable (register_terms p as_) left

  ready : Ready p2 (files es as_ cs) (record { first = first; count = variables; low = low }) met beginning
  ready = entry_ready p p1 p2 first variables number words same numbers untaken adds names head fresh es as_ cs low met ts entry room hold fill

  met_calls : Meets left (option_map (compose Variable) (unifier_of (apply Variable (call_of p f as_)) (apply Variable (renamed first (Apply f ts))))) table
  met_calls = entry.meets first f (row (map (meaning p) as_)) (row_sorted p sorted as_ hold) entry.terms (row_count p as_ ∙ sym entry.many) Variable (register_terms p as_)
      (record { substitution = nothing_bound; terms = λ n. refl; registers = λ r. terms_sorted p sorted as_ hold r })
      (have_row p (register_terms p as_) 0 as_ (λ k. (let e : 0 + k ≡ k = omega arith in ap (register_terms p as_) e)))

  -- the call and the head, as the table has them
  pair_is : (u : Option Subst) → IsUnifierOf (apply Variable (call_of p f as_)) (apply Variable (renamed first (Apply f ts))) u → IsUnifierOf (call_of p f as_) (new_head p (Apply f ts)) u
  pair_is u h =
      let new : renamed first (Apply f ts) ≡ new_head p (Apply f ts) = ap (λ n. renamed n (Apply f ts)) number ∙ sym (head_is p clean coming (Apply f ts)) in
      subst (λ a. IsUnifierOf a (new_head p (Apply f ts)) u) (apply_none (call_of p f as_))
      (subst (λ b. IsUnifierOf (apply Variable (call_of p f as_)) b u) (apply_none (renamed first (Apply f ts)) ∙ new) h)

  -- the head doesn't meet the call
  pub entry_missed : (o : Present W) (f' : Files W) → MeetsHead names head.gets.items head.blocks.items first p2 o (files es as_ cs) f' false → NeverEqual (call_of p f as_) (new_head p (Apply f ts))
  entry_missed o f' meets =
      let none = ends_none p2 o Variable f' setting (met_behind met (head_operands head)) table
      (meets (record { first = first; count = variables; low = low }) met beginning ready refl (marked_both met (head_operands head) fresh entry.marked).0 entry.nexts) in
      step (unifier_of (apply Variable (call_of p f as_)) (apply Variable (renamed first (Apply f ts)))) (pair_is _ (unifier_of_is (apply Variable (call_of p f as_)) (apply Variable (renamed first (Apply f ts))))) met_calls none
    where
      step : (u : Option Subst) → IsUnifierOf (call_of p f as_) (new_head p (Apply f ts)) u → Meets left (option_map (compose Variable) u) table → table ≡ None → NeverEqual (call_of p f as_) (new_head p (Apply f ts))
      step None never m none = never
      step (Some u) is m none = absurd (some_none (sym none ∙ m.2))
        where
          some_none : {n : State} → None ≡ Some n → ⊥
          some_none e = cc

  -- it meets it
  module _ (o : Present W) (es' cs' : List W) (meets : MeetsHead names head.gets.items head.blocks.items first p2 o (files es as_ cs) (files es' as_ cs') true) where
    pub entry_met : (u : Subst) × Unifier (call_of p f as_) (new_head p (Apply f ts)) u × ((rs : Registers) × Ready o (files es' as_ cs') (record { first = first; count = variables; low = low }) (met_behind met (head_operands head)) (record { subst = u; registers = rs }) × Steps p2 Variable o u)
    entry_met =
        step (unifier_of (apply Variable (call_of p f as_)) (apply Variable (renamed first (Apply f ts)))) (pair_is _ (unifier_of_is (apply Variable (call_of p f as_)) (apply Variable (renamed first (Apply f ts))))) met_calls
        (meets (record { first = first; count = variables; low = low }) met beginning ready refl (marked_both met (head_operands head) fresh entry.marked).0 entry.nexts)
      where
        step : (u : Option Subst) → IsUnifierOf (call_of p f as_) (new_head p (Apply f ts)) u → Meets left (option_map (compose Variable) u) table
            → Ends p2 Variable o (files es' as_ cs') (record { first = first; count = variables; low = low }) (met_behind met (head_operands head)) true table
            → (u : Subst) × Unifier (call_of p f as_) (new_head p (Apply f ts)) u × ((rs : Registers) × Ready o (files es' as_ cs') (record { first = first; count = variables; low = low }) (met_behind met (head_operands head)) (record { subst = u; registers = rs }) × Steps p2 Variable o u)
        step (Some u) is m ends = (let here = subst (λ r. Ends p2 Variable o (files es' as_ cs') (record { first = first; count = variables; low = low }) (met_behind met (head_operands head)) true r) m.2 ends in (u, is, (m.0, here.0, here.1)))
        step None never m ends = absurd (subst (λ r. Ends p2 Variable o (files es' as_ cs') (record { first = first; count = variables; low = low }) (met_behind met (head_operands head)) true r) m ends)

    -- the fresh variables may be made
    pub entry_stands : (g : Files W) × (t : Setting) × (m : ℕ → Bool) × (state : State) × Stands o g t m state × (g.environment ≡ es') × (t.first ≡ first) × AreMarked m fresh
    entry_stands = (let h = entry_met in (files es' as_ cs', record { first = first; count = variables; low = low }, met_behind met (head_operands head), record { subst = h.0; registers = h.2.0 }, h.2.1.stands, refl, refl, (marked_both met (head_operands head) fresh entry.marked).1))

    module _ (q : Present W) (es'' : List W) (carries : Carries p2 o) (widens : Widens o q) (makes : MakesVariables fresh first o q es' es'')
        (clean_q : (n : ℕ) → q.taken n ≡ false → Untouched q n) (coming_q : (n : ℕ) → q.next ≤ n → q.taken n ≡ false) where
      -- the clause was entered
      pub entered : (length es'' ≡ length es) → (first ≡ p.next) × Enters p q f as_ ts (met_behind met (head_operands head ++ fresh)) es''
      entered long =
          let h = entry_met in
          let v = h.0 in
          let fresh_made = makes as_ cs' (record { first = first; count = variables; low = low }) (met_behind met (head_operands head)) (record { subst = v; registers = h.2.0 }) h.2.1.stands refl (marked_both met (head_operands head) fresh entry.marked).1 in
          let kept_then = kept p p1 p2 first variables number words same numbers untaken adds in
          let next_is : q.next ≡ p.next + variables = widens.next ∙ carries.next ∙ adds.numbers.next ∙ numbers.next in
          let alone = λ (x : ℕ). (clean (p.next + x) (coming (p.next + x) (omega arith))).substitution in
          let met_is : met_behind (met_behind met (head_operands head)) fresh ≡ met_behind met (head_operands head ++ fresh) = sym (behind_both met (head_operands head) fresh) in (
            number,
            record {
              unifier = v;
              is = h.1;
              values = λ w holds. (let at = fresh_made.1 w (meaning p w) (h.2.2 w (meaning p w) (record { holds = kept_then.stand w holds; same = means p p1 p2 first variables number words same numbers untaken adds w holds ∙ sym (apply_none (meaning p w)) })) in at.same);
              variables = λ x w is there. (let at = fresh_made.0.known.variables x w (ap (λ m. m x) met_is ∙ is) there in
                  (at.holds, at.same ∙ ap (λ n. v (n + x)) number ∙ sym (ap (apply v) (alone x))));
              free = λ x below unmet. (let was = fresh_made.0.free x (let e = long in omega (arith, below, e, room)) (ap (λ m. m x) met_is ∙ unmet) in
                  (ap (λ n. q.taken (n + x)) (sym number) ∙ was.taken, ap (λ n. v (n + x)) (sym number) ∙ was.alone ∙ ap (λ n. Variable (n + x)) number));
              beyond = λ n high. (
                  let out = clean n (coming n (let e = next_is in omega (arith, high, e))) in
                  let one : q.substitution n ≡ Variable n = (clean_q n (coming_q n high)).substitution in
                  let call : occurs n (call_of p f as_) ≡ false = row_without p n out as_ hold in
                  let new : occurs n (new_head p (Apply f ts)) ≡ false = ap (occurs n) (head_is p clean coming (Apply f ts)) ∙ renamed_without p.next variables n ts (λ x o'. (let e = room in let low' = entry.places x o' in omega (arith, low', e))) (let e = next_is in omega (arith, high, e)) in
                  one ∙ sym (ap (apply v) out.substitution ∙ unifier_leaves h.1 n call new));
              next = next_is ∙ ap (λ k. p.next + k) (sym room ∙ sym long);
              keeps = record {
                stand = λ w holds. widens.words.stand w (carries.words.stand w (kept_then.stand w holds));
                terms = λ w holds. widens.words.terms w (carries.words.stand w (kept_then.stand w holds)) ∙ carries.words.terms w (kept_then.stand w holds) ∙ kept_then.terms w holds;
              };
            },
          )
