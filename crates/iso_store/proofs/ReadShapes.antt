-- What reading a part comes to that is no variable.
use Rattle.std.proofs.Common.{◌≡◌, ◌≢◌, ℕ, ◌+◌, ◌-◌, ◌<◌, List, [], ◌∷◌, ◌++◌, length, map, Option, Some, None, true, refl, ap, ap₂, sym, ◌∙◌, subst, arith, append-nil, length-append}
use Rattle.std.proofs.lemmas.List.{map-append, length-map}
use Rattle.iso_atoms.specs.Texts.{text_at, EachOnce}
use Rattle.iso_model.specs.Terms.Trees.{Tree, Variable, Integer, Name, Apply, row}
use Rattle.iso_model.specs.Terms.Sorts.{is_term}
use Rattle.iso_model.specs.Terms.Substitutions.{Subst, apply}
use Rattle.iso_model.specs.Terms.Copies.{renamed}
use Rattle.iso_model.specs.Terms.Unifiers.{NeverEqual}
use Rattle.iso_model.proofs.OnTerms.CostOfRows.{apply-row}
use Rattle.iso_model.proofs.OnTerms.SortLemmas.{count-apply, term_applied}
use Rattle.iso_store_core.specs.declared.patterns.Part.{Part}
use Rattle.iso_store_core.specs.declared.shapes.Shape.{Shape}
use Rattle.iso_store_core.specs.declared.shapes.Shape.TheVariants.{Var, Int, Atom, Compound}
use Rattle.iso_store_core.specs.Arguments.{arguments, listed}
use Rattle.iso_store_core.specs.Shapes.{IsShape}
use Rattle.iso_store_core.specs.Presents.{Present, meaning}
use Rattle.iso_store.specs.declared.reading.Later.{Later}
use Rattle.iso_store.specs.Unifying.{IsCompound}
use Rattle.iso_store.specs.Reading.{first_terms, IsRead, IsReadOn, MakesLeft, Shows}
use Rattle.iso_store.proofs.UnifyLemmas.{row-of}
use Rattle.iso_store.proofs.ArgumentLemmas.{row_of_term}
use Rattle.iso_store.proofs.Clashes.{never-compound, one-atom}
use Rattle.iso_store.proofs.ReadingLemmas.{listed-row}
use Rattle.iso_store.proofs.HeadCells.{later-shape}
use Rattle.iso_store.proofs.ReadOn.{parts-same, left-split, left-joined}

-- ---- shapes
pub never-shapes : (names : List (List ℕ)) (first second : Shape) (a b : Tree) → EachOnce names → IsShape names first a → IsShape names second b → is_term a ≡ true → is_term b ≡ true → ((x : ℕ) → a ≢ Variable x) → ((x : ℕ) → second ≢ Var x)
    → second ≢ first → NeverEqual a b
never-shapes names (Var x) second a b once one other left right bound free differ t e = absurd (bound x one)
never-shapes names first (Var x) a b once one other left right bound free differ t e = absurd (free x refl)
never-shapes names (Compound f n) second a b once one other left right bound free differ t e = never-compound names f n second a b once one other left right free (λ q. differ (sym q)) t e
never-shapes names (Int z) (Compound g m) a b once one other left right bound free differ t e =
    let both : Integer z ≡ Apply (text_at names g) (apply t other.1) = ap (apply t) (sym one) ∙ e ∙ ap (apply t) other.2 in absurd (cc)
never-shapes names (Atom f) (Compound g m) a b once one other left right bound free differ t e =
    let both : Name (text_at names f) ≡ Apply (text_at names g) (apply t other.1) = ap (apply t) (sym one.1) ∙ e ∙ ap (apply t) other.2 in absurd (cc)
never-shapes names (Int z) (Int y) a b once one other left right bound free differ t e =
    let both : Integer z ≡ Integer y = ap (apply t) (sym one) ∙ e ∙ ap (apply t) other in
    let same : y ≡ z = cc in
    absurd (differ (ap Int same))
never-shapes names (Int z) (Atom g) a b once one other left right bound free differ t e =
    let both : Integer z ≡ Name (text_at names g) = ap (apply t) (sym one) ∙ e ∙ ap (apply t) other.1 in absurd (cc)
never-shapes names (Atom f) (Int y) a b once one other left right bound free differ t e =
    let both : Name (text_at names f) ≡ Integer y = ap (apply t) (sym one.1) ∙ e ∙ ap (apply t) other in absurd (cc)
never-shapes names (Atom f) (Atom g) a b once one other left right bound free differ t e =
    let both : Name (text_at names f) ≡ Name (text_at names g) = ap (apply t) (sym one.1) ∙ e ∙ ap (apply t) other.1 in
    let name : text_at names g ≡ text_at names f = cc in
    absurd (differ (ap Atom (one-atom names g f once other.0 one.0 name)))

pub shape-applied : (names : List (List ℕ)) (shape : Shape) (a : Tree) (s : Subst) → IsShape names shape a → is_term a ≡ true → ((x : ℕ) → a ≢ Variable x) → IsShape names shape (apply s a)
shape-applied names (Var x) a s is sort bound = absurd (bound x is)
shape-applied names (Int z) a s is sort bound = ap (apply s) is
shape-applied names (Atom f) a s is sort bound = (is.0, ap (apply s) is.1)
shape-applied names (Compound f n) a s is sort bound =
    (is.0, apply s is.1, ap (apply s) is.2, count-apply s is.1 (row_of_term (text_at names f) is.1 (ap is_term (sym is.2) ∙ sort)).2 ∙ is.3)

pub not-variable : (names : List (List ℕ)) (shape : Shape) (a : Tree) (s : Subst) → IsShape names shape a → is_term a ≡ true → ((x : ℕ) → a ≢ Variable x) → (x : ℕ) → apply s a ≢ Variable x
not-variable names (Var x) a s is sort bound y e = absurd (bound x is)
not-variable names (Int z) a s is sort bound y e = let both : Integer z ≡ Variable y = sym (ap (apply s) is) ∙ e in absurd (cc)
not-variable names (Atom f) a s is sort bound y e = let both : Name (text_at names f) ≡ Variable y = sym (ap (apply s) is.1) ∙ e in absurd (cc)
not-variable names (Compound f n) a s is sort bound y e = let both : Apply (text_at names f) (apply s is.1) ≡ Variable y = sym (ap (apply s) is.2) ∙ e in absurd (cc)

pub shape-compound : (names : List (List ℕ)) (f n : ℕ) (a : Tree) → IsShape names (Compound f n) a → is_term a ≡ true → IsCompound n a
shape-compound names f n a is sort = let whole = row-of n (text_at names f) a is.1 is.2 is.3 sort in (text_at names f, listed is.1, whole.0, whole.1)

-- constants of one shape
pub record Constant (names : List (List ℕ)) (a b : Tree) : Type 0 where
  pub none : listed (arguments a) ≡ []
  pub same : (r s : Subst) → apply s b ≡ apply s (apply r a)

pub shape-constant : (names : List (List ℕ)) (shape : Shape) (a b : Tree) → IsShape names shape a → IsShape names shape b → ((x : ℕ) → a ≢ Variable x) → ((f n : ℕ) → shape ≢ Compound f n) → Constant names a b
shape-constant names (Var x) a b one other bound free = absurd (bound x one)
shape-constant names (Int z) a b one other bound free = record { none = ap (λ t. listed (arguments t)) one; same = λ r s. ap (apply s) other ∙ sym (ap (λ t. apply s (apply r t)) one) }
shape-constant names (Atom f) a b one other bound free = record { none = ap (λ t. listed (arguments t)) one.1; same = λ r s. ap (apply s) other.1 ∙ sym (ap (λ t. apply s (apply r t)) one.1) }
shape-constant names (Compound f n) a b one other bound free = absurd (free f n refl)

-- ---- a part that is read for a word
module _ {W : Type 0} (p : Present W) (names : List (List ℕ)) (ks : List Part) (n at : ℕ) (some : 0 < at) (shape : Shape) (us : List Tree) (a : Tree) (shows : Shows names ks at shape us a) (values : List (Option W)) (later : List (Later W)) (ws : List Tree) (w : W)
    (so : IsRead p names ks n values later (ws ++ meaning p w ∷ []) at) where
  many-before : length ws ≡ length us
  many-before =
      let one = length-append ws (meaning p w ∷ []) in
      let other = ap length shows.whole ∙ length-append us (a ∷ []) in
      omega (arith, so.many)

  -- one part less is left
  read-less : (lefts : List Tree) → length lefts ≡ length (first_terms names ks (at - 1)) → IsRead p names ks n values later lefts (at - 1)
  read-less lefts same = record {
    within = omega (arith, so.within);
    many_values = so.many_values;
    held = so.held;
    waiting = so.waiting;
    cells = later-shape names ks later at shape us a shows so.cells;
    many = same;
  }

  split-here : (next : ℕ) (s : Subst) → MakesLeft p names ks next s (ws ++ meaning p w ∷ []) (first_terms names ks at) → MakesLeft p names ks next s ws us × (apply s (meaning p w) ≡ apply s (renamed next a))
  split-here next s made = left-split p names ks next s ws (meaning p w) us a (made ∙ ap (λ ts. map (apply s) (map (renamed next) ts)) shows.whole)

  joined-here : (next : ℕ) (s : Subst) → MakesLeft p names ks next s ws us → apply s (meaning p w) ≡ apply s (renamed next a) → MakesLeft p names ks next s (ws ++ meaning p w ∷ []) (first_terms names ks at)
  joined-here next s before here = left-joined p names ks next s ws (meaning p w) us a before here ∙ sym (ap (λ ts. map (apply s) (map (renamed next) ts)) shows.whole)

  -- nothing makes them equal
  pub read-never : (found : Shape) → EachOnce names → IsShape names found (meaning p w) → is_term (meaning p w) ≡ true → ((x : ℕ) → found ≢ Var x) → found ≢ shape → (news : List (Option W)) (laters : List (Later W)) (lefts : List Tree)
      → IsReadOn p names ks n values news later laters (ws ++ meaning p w ∷ []) lefts at None
  read-never found once is sort free differ news laters lefts next s solved =
      let r : Subst = λ x. Variable (next + x) in
      let other = shape-applied names shape a r shows.shows shows.term shows.bound in
      let sorted = term_applied r a shows.term (λ x o. refl) in
      never-shapes names shape found (renamed next a) (meaning p w) once other is sorted sort (not-variable names shape a r shows.shows shows.term shows.bound) free differ s (sym (split-here next s solved.2).1)

  -- they are one constant
  pub read-same : (found : Shape) → found ≡ shape → IsShape names found (meaning p w) → ((f m : ℕ) → shape ≢ Compound f m) → IsReadOn p names ks n values values later later (ws ++ meaning p w ∷ []) ws at (Some (at - 1))
  read-same found same is free =
      let constant = shape-constant names shape a (meaning p w) shows.shows (subst (λ h. IsShape names h (meaning p w)) same is) shows.bound free in
      let rest : first_terms names ks (at - 1) ≡ us = shows.opened ∙ ap (λ ts. us ++ ts) constant.none ∙ append-nil us in
      let fewer : at - 1 < at = omega arith in (
        fewer,
        record {
          read = read-less ws (many-before ∙ sym (ap length rest));
          ahead = λ next s solved. (solved.0, solved.1, rw rest (split-here next s solved.2).0);
          back = λ next s solved. (solved.0, solved.1, joined-here next s (rw rest at solved.2) (constant.same (λ x. Variable (next + x)) s));
        },
      )

  -- they are compounds of one name
  module _ (f m : ℕ) (found : Shape) (same : found ≡ shape) (compound : shape ≡ Compound f m) (is : IsShape names found (meaning p w)) (sort : is_term (meaning p w) ≡ true) where
    one : IsCompound m a
    one = shape-compound names f m a (subst (λ h. IsShape names h a) compound shows.shows) shows.term

    pub other : IsCompound m (meaning p w)
    other = shape-compound names f m (meaning p w) (subst (λ h. IsShape names h (meaning p w)) (same ∙ compound) is) sort

    name : one.0 ≡ other.0
    unfolding other one shape-compound
    name = refl

    pub read-arguments : (lefts : List Tree) → lefts ≡ ws ++ listed (arguments (meaning p w))
        → IsReadOn p names ks n values values later later (ws ++ meaning p w ∷ []) lefts at (Some (at - 1))
    unfolding other one shape-compound
    read-arguments lefts more =
        let A = one.1 in
        let B = other.1 in
        let args : listed (arguments a) ≡ A = ap (λ t. listed (arguments t)) one.2 ∙ listed-row A in
        let words : lefts ≡ ws ++ B = more ∙ ap (λ ts. ws ++ ts) (ap (λ t. listed (arguments t)) other.2 ∙ listed-row B) in
        let rest : first_terms names ks (at - 1) ≡ us ++ A = shows.opened ∙ ap (λ ts. us ++ ts) args in
        let long = ap length words ∙ length-append ws B in
        let long_rest = ap length rest ∙ length-append us A in
        let fewer : at - 1 < at = omega arith in (
          fewer,
          record {
            read = read-less lefts (omega (arith, many-before, one.3, other.3));
            ahead = λ next s solved.
                let parts = split-here next s solved.2 in
                let both : Apply other.0 (row (map (apply s) B)) ≡ Apply one.0 (row (map (apply s) (map (renamed next) A))) =
                sym (ap (apply s) other.2 ∙ ap (Apply other.0) (apply-row s B)) ∙ parts.1 ∙ ap (λ t. apply s (renamed next t)) one.2 ∙ ap (λ t. Apply one.0 (apply s t)) (apply-row (λ x. Variable (next + x)) A) ∙ ap (Apply one.0) (apply-row s (map (renamed next) A)) in
                let rows : row (map (apply s) B) ≡ row (map (apply s) (map (renamed next) A)) = cc in
                let lists = sym (listed-row (map (apply s) B)) ∙ ap listed rows ∙ listed-row (map (apply s) (map (renamed next) A)) in
                (solved.0, solved.1, ap (map (apply s)) words ∙ map-append (apply s) ws B ∙ ap₂ ◌++◌ parts.0 lists ∙ sym (ap (λ ts. map (apply s) (map (renamed next) ts)) rest ∙ ap (map (apply s)) (map-append (renamed next) us A) ∙ map-append (apply s) (map (renamed next) us) (map (renamed next) A)));
            back = λ next s solved.
                let whole = sym (ap (map (apply s)) words ∙ map-append (apply s) ws B) ∙ solved.2 ∙ ap (λ ts. map (apply s) (map (renamed next) ts)) rest ∙ ap (map (apply s)) (map-append (renamed next) us A) ∙ map-append (apply s) (map (renamed next) us) (map (renamed next) A) in
                let short = length-map ws (apply s) ∙ many-before ∙ sym (length-map (map (renamed next) us) (apply s) ∙ length-map us (renamed next)) in
                let parts = parts-same _ _ _ _ short whole in
                let here : apply s (meaning p w) ≡ apply s (renamed next a) =
                ap (apply s) other.2 ∙ ap (Apply other.0) (apply-row s B) ∙ ap (λ ts. Apply other.0 (row ts)) parts.1 ∙ sym (ap (λ t. apply s (renamed next t)) one.2 ∙ ap (λ t. Apply one.0 (apply s t)) (apply-row (λ x. Variable (next + x)) A) ∙ ap (Apply one.0) (apply-row s (map (renamed next) A))) in
                (solved.0, solved.1, joined-here next s parts.0 here);
          },
        )
