-- What a machine's instructions on a heap come to.
use Rattle.std.proofs.Common.{◌≡◌, ◌≢◌, ℕ, ℤ, ◌+◌, ◌-◌, ◌<◌, ◌≤◌, ◌&&◌, ◌==◌, List, [], ◌∷◌, ◌++◌, length, get_or, Bool, true, false, refl, ap, sym, ◌∙◌, subst, arith, length-append, IfOk, Result, Ok, Err, Option, Some, None, inl, inr, ◌⊎◌, nat_eq, of_z, to_z, IfSome, IfNone}
use mir.Val.{SFits}
use mir.Syntax.{w128}
use Rattle.std.specs.List.{slice_get}
use Rattle.std.specs.Str.{bytes_eq}
use Rattle.std.proofs.lemmas.Bool.{false≢true, false_from_ne_true, ne_eqb, eq-eqb, eqb-true}
use Rattle.std.proofs.lemmas.Int.{to_z-of_z}
use Rattle.std.proofs.lemmas.List.{get_or_append_left}
use Rattle.std.proofs.lemmas.Option.{slice_get_within}
use Rattle.std.proofs.lemmas.Slice.Eq.{bytes_eq-Decides}
use Rattle.std.proofs.Math.Seq.{get_or-append_seam}
use Rattle.iso_atoms.specs.Texts.{text_at, EachOnce, KeepsTexts}
use Rattle.iso_cells.specs.Opening.{is_compound, IsCompound}
use Rattle.iso_model.specs.Terms.Integers.{is_short}
use Rattle.iso_model.specs.Terms.Trees.{Tree, Variable, Integer, Name, Apply, End, More, row, count}
use Rattle.iso_model.specs.Terms.Variables.{occurs}
use Rattle.iso_model.specs.Terms.Substitutions.{Subst, apply, compose, single}
use Rattle.iso_model.specs.Terms.Unifiers.{Unifier, NeverEqual}
use Rattle.iso_model.specs.Terms.Unification.Composed.{unifier_same, unifier_bound}
use Rattle.iso_store_core.specs.Presents.{Present, meaning, KeepsWords, KeepsNumbers, Makes, Binds, IsUnification}
use Rattle.iso_store_core.specs.Arguments.{arity}
use Rattle.iso_store_core.proofs.AtomLemmas.{text-kept, atom-kept}
use Rattle.iso_store.specs.declared.heap_cells.HeapWord.{HeapWord}
use Rattle.iso_store.specs.declared.heap_cells.HeapWord.TheVariants.{Var, Structure, Int, Boxed, Atom}
use Rattle.iso_store.specs.declared.heap_cells.Cell.{Cell}
use Rattle.iso_store.specs.declared.heap_cells.Cell.TheVariants.{Unbound, Bound, Argument, Functor, Wide, Entry}
use Rattle.iso_store.specs.FlatCells.{is_unbound}
use Rattle.iso_store.specs.HeapTerms.{made_term, heap_substitution}
use Rattle.iso_store.specs.HeapStores.{next_word, is_argument, is_functor, is_variable_cell, is_word, IsFunctor, IsHeap, MayCome, present_of_heap}
use Rattle.iso_store.specs.HeapLemmas.{place_term, place_term-unbound, place_term-bound, place_term-wide, place_term-functor, place_term-more, made_term-more, terms_before, before-length, before-at}
use Rattle.iso_store.specs.HeapNumbers.{word_before}
use Rattle.iso_store.specs.HeapInstructions.{AreLast, IsConstant}
use Rattle.iso_store.specs.Slices.{slice_get-last, slice_get-push}
use Rattle.iso_store.proofs.Bound.{binds-none}
use Rattle.iso_store.proofs.Gathering.{keeps-then, numbers-then}
use Rattle.iso_store.proofs.HeapNames.{terms-kept}
use Rattle.iso_store.proofs.HeapPushes.{heap-more, substitution-more, word-more}
use Rattle.iso_store.proofs.HeapReads.{seen, functor_cell, unbound_cell-is, wide_cell, shows_variable, shows_wide, shows_compound, compound_count}
use Rattle.iso_store.proofs.HeapCompounds.{list-ext}
use Rattle.iso_store.specs.HeapSorted.{sorted-meaning}
use Rattle.iso_store.proofs.ArgumentLemmas.{row_of_term}
use Rattle.iso_model.specs.Terms.Sorts.{is_term}
use Rattle.iso_store.proofs.HeapBuilding.{lt-or-same, word-pushed}
use Rattle.iso_store.proofs.Clashes.{one-atom}
use Rattle.iso_store.proofs.UnifyLemmas.{count-row}

-- words stand on where a cell comes
pub words-more : (names : List (List ℕ)) (cs : List Cell) (next limit : ℕ) (c : Cell) → IsHeap names cs next → MayCome names cs next c → KeepsWords (present_of_heap names cs next limit) (present_of_heap names (cs ++ c ∷ []) next limit)
words-more names cs next limit c heap may = record {
  stand = word-more names cs next heap c may;
  terms = λ w h. made_term-more names cs (c ∷ []) w (word_before names cs w h);
}

-- ---- arguments at the end
module _ (names : List (List ℕ)) (cs : List Cell) (ts : List Tree) (last : AreLast names cs ts) where
  -- an argument more
  pub last-more : (c : Cell) (t : Tree) → is_argument (Some c) ≡ true → place_term names (cs ++ c ∷ []) (length cs) ≡ t → AreLast names (cs ++ c ∷ []) (ts ++ t ∷ [])
  last-more c t argument term =
      let room = last.room in
      let long = length-append ts (t ∷ []) in
      let size = length-append cs (c ∷ []) in
      let start : length (cs ++ c ∷ []) - length (ts ++ t ∷ []) ≡ length cs - length ts = omega arith in
      record {
        room = omega arith;
        arguments = λ k below.
            ap (λ n. is_argument (slice_get (cs ++ c ∷ []) (n + k))) start
            ∙ elim (lt-or-same k (length ts) (omega arith)) [
              | inl less ↦ ap is_argument (slice_get-push cs c (length cs - length ts + k) (omega arith)) ∙ last.arguments k less
              | inr same ↦ let at : length cs - length ts + k ≡ length cs = omega arith in ap is_argument (ap (slice_get (cs ++ c ∷ [])) at ∙ slice_get-last cs c) ∙ argument
            ];
        terms = λ k below.
            ap (λ n. place_term names (cs ++ c ∷ []) (n + k)) start
            ∙ elim (lt-or-same k (length ts) (omega arith)) [
              | inl less ↦ place_term-more names cs (c ∷ []) (length cs - length ts + k) (omega arith) ∙ last.terms k less ∙ sym (get_or_append_left ts (t ∷ []) End k less)
              | inr same ↦
                  let at : length cs - length ts + k ≡ length cs = omega arith in
                  ap (place_term names (cs ++ c ∷ [])) at ∙ term ∙ sym (ap (λ j. get_or (ts ++ t ∷ []) j End) same ∙ get_or-append_seam ts t [] End)
            ];
      }

  pub last-variable : (n : ℕ) → AreLast names (cs ++ Unbound n ∷ []) (ts ++ Variable n ∷ [])
  last-variable n = last-more (Unbound n) (Variable n) refl (place_term-unbound names (cs ++ Unbound n ∷ []) (length cs) n (slice_get-last cs (Unbound n)))

  pub last-word : (next : ℕ) (w : HeapWord) → IsHeap names cs next → is_word names cs w ≡ true → AreLast names (cs ++ Argument w ∷ []) (ts ++ made_term names cs w ∷ [])
  last-word next w heap holds =
      last-more (Argument w) (made_term names cs w) refl ((word-pushed names 0 next cs (cs ++ Argument w ∷ []) w (heap-more names cs next heap (Argument w) holds) holds refl).3)

  -- the functor behind them
  pub last-compound : (f : ℕ) → place_term names (cs ++ Functor f (length ts) ∷ []) (length cs) ≡ Apply (text_at names f) (row ts)
  last-compound f =
      let c = Functor f (length ts) in
      let room = last.room in
      let within : length cs < length (cs ++ c ∷ []) = omega (arith, length-append cs (c ∷ [])) in
      let one = before-length names (cs ++ c ∷ []) (length cs) (length ts) room within in
      place_term-functor names (cs ++ c ∷ []) (length cs) f (length ts) (slice_get-last cs c)
      ∙ ap (λ us. Apply (text_at names f) (row us))
      (list-ext (terms_before names (cs ++ c ∷ []) (length cs) (length ts)) ts one
      (λ k below.
      let less : k < length ts = omega arith in
      before-at names (cs ++ c ∷ []) (length cs) (length ts) k room less
      ∙ place_term-more names cs (c ∷ []) (length cs - length ts + k) (omega arith)
      ∙ last.terms k less))

  pub last-functor : (f n : ℕ) → length ts ≡ n → f < length names → 0 < n → n < 256 → IsFunctor names cs (length cs) f n
  last-functor f n size name some few =
      let room = last.room in
      record {
        name = name;
        some = some;
        few = few;
        room = omega arith;
        arguments = λ k below. ap (λ m. is_argument (slice_get cs (length cs - m + k))) (sym size) ∙ last.arguments k (omega arith);
      }

  pub last-makes : (next limit f n : ℕ) → IsHeap names cs next → length ts ≡ n → f < length names → 0 < n → n < 256
      → Makes (present_of_heap names cs next limit) (present_of_heap names (cs ++ Functor f n ∷ []) next limit) (Structure (length cs)) (Apply (text_at names f) (row ts))
  last-makes next limit f n heap size name some few =
      let may = last-functor f n size name some few in
      record {
        words = words-more names cs next limit (Functor f n) heap may;
        substitution = substitution-more names cs next heap (Functor f n) may;
        holds = ap is_functor (slice_get-last cs (Functor f n));
        term = ap (λ m. place_term names (cs ++ Functor f m ∷ []) (length cs)) (sym size) ∙ last-compound f;
      }

-- where all names are known
pub last-kept : (old new : List (List ℕ)) (cs : List Cell) (next : ℕ) (ts : List Tree) → KeepsTexts old new → IsHeap old cs next → AreLast old cs ts → AreLast new cs ts
last-kept old new cs next ts keeps heap last = record {
  room = last.room;
  arguments = last.arguments;
  terms = λ k below. ap (λ us. get_or us (length cs - length ts + k) End) (terms-kept old new keeps cs next heap) ∙ last.terms k below;
}

-- ---- what is met
pub bound-unifies : {W : Type 0} {p q : Present W} (n : ℕ) (a b u : Tree) → a ≡ Variable n → u ≡ b → occurs n b ≡ false → ((m : ℕ) → b ≡ Variable m → m ≤ n) → Binds p q (single n u) → IsUnification p q a b true
bound-unifies {W} {p} {q} n a b u is same absent older bound =
    (single n b, subst (λ x. Unifier x b (single n b)) (sym is) (unifier_bound n b absent older), subst (λ x. Binds p q (single n x)) same bound)

pub same-unifies : {W : Type 0} (p : Present W) (a b : Tree) → a ≡ b → IsUnification p p a b true
same-unifies p a b e = (Variable, subst (λ c. Unifier a c Variable) e (unifier_same a), binds-none p)

-- by a test of whether they are equal, of terms that nothing makes equal if they are not
pub unifies-by : {W : Type 0} (p : Present W) (a b : Tree) (test : Bool) → (test ≡ true → a ≡ b) → (test ≡ false → NeverEqual a b) → IsUnification p p a b test
unifies-by p a b true same differ = same-unifies p a b (same refl)
unifies-by p a b false same differ = differ refl

-- integers that are compared
pub integers-meet : {W : Type 0} (p : Present W) (t : Tree) (x y : ℤ) → SFits w128 x → SFits w128 y → t ≡ Integer x → IsUnification p p t (Integer y) (nat_eq (of_z w128 x) (of_z w128 y))
integers-meet p t x y fits fit is =
    unifies-by p t (Integer y) (nat_eq (of_z w128 x) (of_z w128 y))
    (λ e. is ∙ ap Integer (sym (to_z-of_z w128 x fits) ∙ ap (to_z w128) (eqb-true (of_z w128 x) (of_z w128 y) e) ∙ to_z-of_z w128 y fit))
    (λ e s both.
    let same : Integer x ≡ Integer y = ap (apply s) (sym is) ∙ both in
    let number : x ≡ y = cc in
    false≢true (sym e ∙ eq-eqb (of_z w128 x) (of_z w128 y) (ap (of_z w128) number)))

-- atoms that are compared
-- an integer, where it has 64 bits
pub narrow-value : (o : Option ℤ) (x : ℤ) (t : Tree) → IfSome o (λ v. v ≡ x) → t ≡ Integer x → IfSome o (λ v. t ≡ Integer v)
narrow-value None x t h is = tt
narrow-value (Some v) x t h is = is ∙ ap Integer (sym h)

pub narrow-none : (o : Option ℤ) (x : ℤ) (t : Tree) → IfNone o (is_short x ≡ false) → t ≡ Integer x → IfNone o ((z : ℤ) → is_short z ≡ true → t ≢ Integer z)
narrow-none (Some v) x t h is = tt
narrow-none None x t h is = λ z narrow same.
    let both : Integer x ≡ Integer z = sym is ∙ same in
    let one : x ≡ z = cc in
    false≢true (sym (ap is_short (sym one) ∙ h) ∙ narrow)

pub atoms-meet : {W : Type 0} (p : Present W) (t : Tree) (all : List (List ℕ)) (f g : ℕ) → EachOnce all → f < length all → g < length all → t ≡ Name (text_at all f) → IsUnification p p t (Name (text_at all g)) (nat_eq f g)
atoms-meet p t all f g once here there is =
    unifies-by p t (Name (text_at all g)) (nat_eq f g) (λ e. is ∙ ap (λ x. Name (text_at all x)) (eqb-true f g e))
    (λ e s both.
    let same : Name (text_at all f) ≡ Name (text_at all g) = ap (apply s) (sym is) ∙ both in
    let text : text_at all f ≡ text_at all g = cc in
    false≢true (sym e ∙ eq-eqb f g (one-atom all f g once here there text)))

-- a word means what it did where words and bindings stay
pub meaning-kept : {W : Type 0} {p q : Present W} (w : W) → KeepsWords p q → q.substitution ≡ p.substitution → p.holds w ≡ true → meaning q w ≡ meaning p w
meaning-kept {W} {p} {q} w words same holds = ap (apply q.substitution) (words.terms w holds) ∙ ap (λ s. apply s (p.term w)) same

-- after a change that keeps words, numbers and bindings
pub unifies-after : {W E : Type 0} {p q : Present W} (r : Present W) (a b c : Tree) (result : Result Bool E) → KeepsWords p q → KeepsNumbers p q → q.substitution ≡ p.substitution → a ≡ c → IfOk result (IsUnification q r a b) → IfOk result (IsUnification p r c b)
unifies-after r a b c (Ok true) words numbers same is h = (
  h.0,
  subst (λ x. Unifier x b h.0) is h.1,
  record {
    words = keeps-then words h.2.words;
    numbers = numbers-then numbers h.2.numbers;
    substitution = h.2.substitution ∙ ap (λ x. compose x h.0) same;
  },
)
unifies-after r a b c (Ok false) words numbers same is h = subst (λ x. NeverEqual x b) is h
unifies-after r a b c (Err e) words numbers same is h = h

-- constants
pub constant-absent : (t : Tree) (n : ℕ) → IsConstant t → occurs n t ≡ false
constant-absent (Variable m) n is = absurd is
constant-absent (Integer z) n is = refl
constant-absent (Name a) n is = refl
constant-absent (Apply f ts) n is = absurd is
constant-absent End n is = absurd is
constant-absent (More t ts) n is = absurd is

pub constant-other : (t : Tree) (n : ℕ) → IsConstant t → t ≢ Variable n
constant-other (Variable m) n is = absurd is
constant-other (Integer z) n is = λ e. cc
constant-other (Name a) n is = λ e. cc
constant-other (Apply f ts) n is = absurd is
constant-other End n is = absurd is
constant-other (More t ts) n is = absurd is

pub constant-applied : (s : Subst) (t : Tree) → IsConstant t → apply s t ≡ t
constant-applied s (Variable m) is = absurd is
constant-applied s (Integer z) is = refl
constant-applied s (Name a) is = refl
constant-applied s (Apply f ts) is = absurd is
constant-applied s End is = absurd is
constant-applied s (More t ts) is = absurd is

constant-missed : (f : List ℕ) (n : ℕ) (t : Tree) → IsConstant t → is_compound f n t ≡ false
constant-missed f n (Variable m) is = absurd is
constant-missed f n (Integer z) is = refl
constant-missed f n (Name a) is = refl
constant-missed f n (Apply g ts) is = absurd is
constant-missed f n End is = absurd is
constant-missed f n (More t ts) is = absurd is

not-compound : (t : Tree) (f : List ℕ) (ts : Tree) → IsConstant t → Apply f ts ≢ t
not-compound (Variable m) f ts is = absurd is
not-compound (Integer z) f ts is = λ e. cc
not-compound (Name a) f ts is = λ e. cc
not-compound (Apply g us) f ts is = absurd is
not-compound End f ts is = absurd is
not-compound (More t us) f ts is = absurd is

-- ---- what is read
pub unbound-variable : (o : Option Cell) → is_unbound o ≡ true → is_variable_cell o ≡ true
unbound-variable None h = absurd (false≢true h)
unbound-variable (Some (Unbound n)) h = refl
unbound-variable (Some (Bound n w)) h = refl
unbound-variable (Some (Argument w)) h = absurd (false≢true h)
unbound-variable (Some (Functor f n)) h = absurd (false≢true h)
unbound-variable (Some (Wide z)) h = absurd (false≢true h)
unbound-variable (Some (Entry p)) h = absurd (false≢true h)

variable-term : (names : List (List ℕ)) (cs : List Cell) (a : ℕ) (o : Option Cell) → slice_get cs a ≡ o → is_variable_cell o ≡ true → (n : ℕ) × (place_term names cs a ≡ Variable n)
variable-term names cs a None is holds = absurd (false≢true holds)
variable-term names cs a (Some (Unbound n)) is holds = (n, place_term-unbound names cs a n is)
variable-term names cs a (Some (Bound n w)) is holds = (n, place_term-bound names cs a n w is)
variable-term names cs a (Some (Argument w)) is holds = absurd (false≢true holds)
variable-term names cs a (Some (Functor f n)) is holds = absurd (false≢true holds)
variable-term names cs a (Some (Wide z)) is holds = absurd (false≢true holds)
variable-term names cs a (Some (Entry p)) is holds = absurd (false≢true holds)

-- another compound
other-compound : (f g : List ℕ) (n : ℕ) (ts : Tree) → (f ≢ g) ⊎ (count ts ≢ n) → is_compound f n (Apply g ts) ≡ false
other-compound f g n ts (inl differ) =
    ap (λ b. b && count ts == n) (false_from_ne_true (bytes_eq g f) (λ h. differ (sym ((bytes_eq-Decides g f).0 h))))
other-compound f g n ts (inr differ) = ap (λ b. bytes_eq g f && b) (ne_eqb (count ts) n differ) ∙ and_false (bytes_eq g f)
  where
    and_false : (b : Bool) → b && false ≡ false
    and_false true = refl
    and_false false = refl

module _ (names : List (List ℕ)) (cs : List Cell) (next : ℕ) (heap : IsHeap names cs next) where
  -- only a compound was made with arguments
  pub made-arity : (w : HeapWord) → is_word names cs w ≡ true → ((p : ℕ) → w ≢ Structure p) → arity (made_term names cs w) ≡ 0
  made-arity (Var a) holds other = ap arity (variable-term names cs a (slice_get cs a) refl holds).1
  made-arity (Structure p) holds other = absurd (other p refl)
  made-arity (Int z) holds other = refl
  made-arity (Boxed p) holds other = let found = wide_cell (slice_get cs p) holds in ap arity (place_term-wide names cs p found.0 found.1)
  made-arity (Atom x) holds other = refl

  -- the functor of a word that was made as a compound of so many arguments
  pub made-functor : (p n : ℕ) → is_word names cs (Structure p) ≡ true → arity (made_term names cs (Structure p)) ≡ n → (f : ℕ) × (slice_get cs p ≡ Some (Functor f n))
  made-functor p n holds size =
      let found = functor_cell (slice_get cs p) holds in
      let there = found.2 in
      let within = word_before names cs (Structure p) holds in
      let many = before-length names cs p found.1 (heap.functor p found.0 found.1 there).room within in
      let same : found.1 ≡ n = sym (ap arity (place_term-functor names cs p found.0 found.1 there) ∙ count-row (terms_before names cs p found.1) ∙ many) ∙ size in
      (found.0, there ∙ ap (λ k. Some (Functor found.0 k)) same)

  module _ (p f n : ℕ) (there : slice_get cs p ≡ Some (Functor f n)) where
    made-compound : (made_term names cs (Structure p) ≡ Apply (text_at names f) (row (terms_before names cs p n))) × (count (row (terms_before names cs p n)) ≡ n)
    made-compound = (
      place_term-functor names cs p f n there,
      count-row (terms_before names cs p n) ∙ before-length names cs p n (heap.functor p f n there).room (slice_get_within cs p (Functor f n) there),
    )

    -- the names that have an atom are the first of these
    module _ (all : List (List ℕ)) (keeps : KeepsTexts names all) where
      known : text_at all f ≡ text_at names f
      known = text-kept names all keeps f (heap.functor p f n there).name

      pub compound-read : (limit name m : ℕ) → f ≡ name → n ≡ m → IsCompound (present_of_heap names cs next limit) (Structure p) (text_at all name) m
      compound-read limit name m same size =
          let made = made-compound in
          let us = apply (heap_substitution names cs) (row (terms_before names cs p n)) in
          let shown = shows_compound names cs next heap p f n there in
          let sorted : is_term (Apply (text_at names f) us) ≡ true = ap is_term (sym shown) ∙ sorted-meaning names cs next heap (Structure p) (ap is_functor there) in
          record {
            arguments = us;
            means = shown ∙ ap (λ x. Apply x us) (sym known ∙ ap (text_at all) same);
            row = (row_of_term (text_at names f) us sorted).2;
            many = compound_count names cs next heap p f n there ∙ size;
            made = ap arity made.0 ∙ made.1 ∙ size;
          }

      pub compound-missed : (name m : ℕ) → EachOnce all → name < length all → (f ≢ name) ⊎ (n ≢ m) → is_compound (text_at all name) m (seen names cs next heap (Structure p)) ≡ false
      compound-missed name m once named differ =
          let us = apply (heap_substitution names cs) (row (terms_before names cs p n)) in
          let size : count us ≡ n = compound_count names cs next heap p f n there in
          let here : f < length all = atom-kept names all keeps f (heap.functor p f n there).name in
          ap (is_compound (text_at all name) m) (shows_compound names cs next heap p f n there)
          ∙ other-compound (text_at all name) (text_at names f) m us (elim differ [
            | inl other ↦ inl (λ same. other (one-atom all f name once here named (known ∙ sym same)))
            | inr other ↦ inr (λ same. other (sym size ∙ same))
          ])

    pub compound-other : (x : ℕ) → seen names cs next heap (Structure p) ≢ Variable x
    compound-other x is = let both = sym (shows_compound names cs next heap p f n there) ∙ is in absurd (cc)

  -- an integer or an atom
  leaf-constant : (w : HeapWord) → is_word names cs w ≡ true → ((z : ℤ) × (w ≡ Int z)) ⊎ (((p : ℕ) × (w ≡ Boxed p)) ⊎ ((a : ℕ) × (w ≡ Atom a))) → IsConstant (made_term names cs w)
  leaf-constant w holds (inl h) = subst (λ v. IsConstant (made_term names cs v)) (sym h.1) tt
  leaf-constant w holds (inr (inl h)) =
      let found = wide_cell (slice_get cs h.0) (ap (is_word names cs) (sym h.1) ∙ holds) in
      subst IsConstant (sym (ap (made_term names cs) h.1 ∙ place_term-wide names cs h.0 found.0 found.1)) tt
  leaf-constant w holds (inr (inr h)) = subst (λ v. IsConstant (made_term names cs v)) (sym h.1) tt

  pub leaf-missed : (w : HeapWord) (t : Tree) (f : List ℕ) (n : ℕ) → is_word names cs w ≡ true → ((z : ℤ) × (w ≡ Int z)) ⊎ (((p : ℕ) × (w ≡ Boxed p)) ⊎ ((a : ℕ) × (w ≡ Atom a))) → seen names cs next heap w ≡ t → (is_compound f n t ≡ false) × ((x : ℕ) → t ≢ Variable x)
  leaf-missed w t f n holds which same =
      let u = made_term names cs w in
      let constant = leaf-constant w holds which in
      let is : t ≡ u = sym same ∙ constant-applied (heap_substitution names cs) u constant in
      (ap (is_compound f n) is ∙ constant-missed f n u constant, λ x e. constant-other u x constant (sym is ∙ e))

  -- a compound is no constant
  compound-never : (w : HeapWord) (p : ℕ) (t : Tree) → is_word names cs w ≡ true → w ≡ Structure p → IsConstant t → NeverEqual (seen names cs next heap w) t
  compound-never w p t holds is constant s both =
      let found = functor_cell (slice_get cs p) (ap (is_word names cs) (sym is) ∙ holds) in
      let shown = shows_compound names cs next heap p found.0 found.1 found.2 in
      not-compound t (text_at names found.0) _ constant (sym (ap (apply s) (ap (seen names cs next heap) is ∙ shown)) ∙ both ∙ constant-applied s t constant)

  pub never-integer : (w : HeapWord) (t : Tree) (z : ℤ) → is_word names cs w ≡ true → ((p : ℕ) × (w ≡ Structure p)) ⊎ ((a : ℕ) × (w ≡ Atom a)) → seen names cs next heap w ≡ t → NeverEqual t (Integer z)
  never-integer w t z holds (inl h) same = subst (λ u. NeverEqual u (Integer z)) same (compound-never w h.0 (Integer z) holds h.1 tt)
  never-integer w t z holds (inr h) same = λ s both.
      let shown : Name (text_at names h.0) ≡ Integer z = ap (λ v. apply s (seen names cs next heap v)) (sym h.1) ∙ ap (apply s) same ∙ both in
      absurd (cc)

  -- what no integer stands for, no integer is
  pub other-integer : (w : HeapWord) (z : ℤ) → is_word names cs w ≡ true → next_word cs w ≡ None → ((x : ℤ) → w ≢ Int x) → ((p : ℕ) → w ≢ Boxed p) → seen names cs next heap w ≢ Integer z
  other-integer (Var a) z holds end int boxed is =
      let found = unbound_cell-is (slice_get cs a) holds end in
      let shown : Variable found.0 ≡ Integer z = sym (shows_variable names cs next heap a found.0 found.1) ∙ is in
      absurd (cc)
  other-integer (Structure p) z holds end int boxed is = (never-integer (Structure p) (seen names cs next heap (Structure p)) z holds (inl (p, refl)) refl) Variable (ap (apply Variable) is)
  other-integer (Int x) z holds end int boxed is = int x refl
  other-integer (Boxed p) z holds end int boxed is = boxed p refl
  other-integer (Atom a) z holds end int boxed is = (never-integer (Atom a) (seen names cs next heap (Atom a)) z holds (inr (a, refl)) refl) Variable (ap (apply Variable) is)

  pub never-atom : (w : HeapWord) (t : Tree) (f : List ℕ) → is_word names cs w ≡ true → ((p : ℕ) × (w ≡ Structure p)) ⊎ (((z : ℤ) × (w ≡ Int z)) ⊎ ((p : ℕ) × (w ≡ Boxed p))) → seen names cs next heap w ≡ t → NeverEqual t (Name f)
  never-atom w t f holds (inl h) same = subst (λ u. NeverEqual u (Name f)) same (compound-never w h.0 (Name f) holds h.1 tt)
  never-atom w t f holds (inr (inl h)) same = λ s both.
      let shown : Integer h.0 ≡ Name f = ap (λ v. apply s (seen names cs next heap v)) (sym h.1) ∙ ap (apply s) same ∙ both in
      absurd (cc)
  never-atom w t f holds (inr (inr h)) same = λ s both.
      let found = wide_cell (slice_get cs h.0) (ap (is_word names cs) (sym h.1) ∙ holds) in
      let shown : Integer found.0 ≡ Name f = ap (apply s) (sym (ap (seen names cs next heap) h.1 ∙ shows_wide names cs next heap h.0 found.0 found.1)) ∙ ap (apply s) same ∙ both in
      absurd (cc)
