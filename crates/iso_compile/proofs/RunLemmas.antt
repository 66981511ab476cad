-- Running the blocks of a term's compounds solves what their registers ask for.
use Rattle.std.proofs.Common.{◌≡◌, ◌≢◌, ◌<◌, ◌≤◌, ◌+◌, ◌==◌, ◌&&◌, ℕ, zero, Bool, true, false, List, [], ◌∷◌, ◌++◌, length, take, Option, Some, None, MatchOption, IfSome, inl, refl, sym, ap, ap₂, subst, ◌∙◌, arith, if◌then◌else◌}
use Rattle.std.specs.Option.{option_and_then}
use Rattle.std.specs.Str.{bytes_eq}
use Rattle.std.proofs.lemmas.Bool.{false≢true, and_parts, and_from, eq-eqb, eqb-true}
use Rattle.std.proofs.lemmas.Slice.Eq.{bytes_eq-Decides}
use Rattle.iso_model.specs.Terms.Trees.{Tree, Variable, Integer, Name, Apply, End, More, count}
use Rattle.iso_model.specs.Terms.Sorts.{is_term, is_row}
use Rattle.iso_model.specs.Terms.Substitutions.{Subst, apply, Extends}
use Rattle.iso_model.specs.Terms.Copies.{renamed}
use Rattle.iso_model.specs.Terms.Unification.{unify_under}
use Rattle.iso_model.specs.Terms.Unification.Applied.{apply_absorbs}
use Rattle.iso_model.specs.Terms.UnifierLaws.{UnifiesUnder, NeverEqualUnder}
use Rattle.iso_model.proofs.OnTerms.UnifierLemmas.{unifying_under}
use Rattle.iso_model.proofs.OnTerms.SortLemmas.{unifying_gives_terms, term_applied}
use Rattle.iso_compile.specs.Table.{Registers, Block, made, filled, read, meet, run, part_row}
use Rattle.iso_compile.specs.TermCode.{tops, deep, parts, blocks}
use Rattle.iso_compile.proofs.Solving.{Pair, solve, AreEqual, AreAlike}
use Rattle.iso_compile.proofs.Reading.{pair, given, direct_one, direct, inners, pairs}
use Rattle.iso_compile.specs.Heads.{Good}
use Rattle.iso_compile.proofs.Coming.{Comes}
use Rattle.iso_compile.proofs.SolveLemmas.{solve_same, solve_append, never_under}
use Rattle.iso_compile.proofs.ReadLemmas.{read_solves, given_keeps, given_terms, pairs_keep, pairs_given, asks_all}
use Rattle.iso_compile.proofs.FillLemmas.{filled_keeps, row_made, row_filled, row_of_arguments}

pub append_append : {X : Type 0} (xs ys zs : List X) → (xs ++ ys) ++ zs ≡ xs ++ (ys ++ zs)
append_append [] ys zs = refl
append_append (x ∷ xs) ys zs = ap (λ vs. x ∷ vs) (append_append xs ys zs)

length_append : {X : Type 0} (xs ys : List X) → length (xs ++ ys) ≡ length xs + length ys
length_append [] ys = omega arith
length_append (x ∷ xs) ys = let e = length_append xs ys in omega (arith, e)

pub take_whole : {X : Type 0} (xs ys : List X) → take (length xs) (xs ++ ys) ≡ xs
take_whole [] ys = refl
take_whole (x ∷ xs) ys = ap (λ vs. x ∷ vs) (take_whole xs ys)

pub length_blocks : (r m : ℕ) (t : Tree) → length (blocks r m t) ≡ tops t + deep t
length_blocks r m (Apply f ts) = let e = length_blocks m (m + tops ts) ts in omega (arith, e)
length_blocks r m (More t ts) =
    let e = length_append (blocks r m t) (blocks (r + tops t) (m + deep t) ts) in
    let a = length_blocks r m t in
    let b = length_blocks (r + tops t) (m + deep t) ts in
    omega (arith, e, a, b)
length_blocks r m (Variable n) = refl
length_blocks r m (Integer z) = refl
length_blocks r m (Name a) = refl
length_blocks r m End = refl

length_parts : (r : ℕ) (ts : Tree) → length (parts r ts) ≡ count ts
length_parts r (More t ts) = let e = length_parts (r + tops t) ts in omega (arith, e)
length_parts r (Variable n) = refl
length_parts r (Integer z) = refl
length_parts r (Name a) = refl
length_parts r (Apply f ts) = refl
length_parts r End = refl

count_applied : (s : Subst) (ts : Tree) → is_row ts ≡ true → count (apply s ts) ≡ count ts
count_applied s (Variable n) h = absurd (false≢true h)
count_applied s (Integer z) h = refl
count_applied s (Name a) h = refl
count_applied s (Apply f ts) h = refl
count_applied s End h = refl
count_applied s (More t ts) h = ap (λ n. n + 1) (count_applied s ts ((and_parts (is_term t) (is_row ts) h).1))

abbrev is_compound : Tree → Bool
is_compound (Apply f ts) = true
is_compound t = false

abbrev name_of : Tree → List ℕ
name_of (Apply f ts) = f
name_of t = []

abbrev arguments_of : Tree → Tree
arguments_of (Apply f ts) = ts
arguments_of t = End

module _ {X : Type 0} (next : ℕ) where
  skipped : (xs ys : List Block) (s : Subst) (rs : Registers) (go : Subst → Registers → Option X) → run next (xs ++ ys) (length xs) s rs go ≡ run next ys zero s rs go
  skipped [] ys s rs go = refl
  skipped (b ∷ xs) ys s rs go = skipped xs ys s rs go

module _ (X : Type 0) (next : ℕ) where
  good_of : (s : Subst) (a b : Tree) (rs : Registers) (o : Option Subst) → Good s rs → MatchOption o (NeverEqualUnder s a b) (UnifiesUnder s a b) → IfSome o (λ u. (n : ℕ) → is_term (u n) ≡ true) → IfSome o (λ u. Good u rs)
  good_of s a b rs (Some u) good h k = record { substitution = h.substitution; terms = k; registers = good.registers }
  good_of s a b rs None good h k = tt

  unified_good : (s : Subst) (a b : Tree) (rs : Registers) → Good s rs → is_term a ≡ true → is_term b ≡ true → IfSome (unify_under s a b) (λ u. Good u rs)
  unified_good s a b rs good at bt = good_of s a b rs (unify_under s a b) good (unifying_under s a b good.substitution) (unifying_gives_terms s a b at bt good.terms)

  renamed_term : (t : Tree) → is_term t ≡ true → is_term (renamed next t) ≡ true
  renamed_term t h = term_applied (λ x. Variable (next + x)) t h (λ n o. refl)

  abbrev pub AreTerms : List Pair → Type 0
  AreTerms [] = Unit {0}
  AreTerms (p ∷ ps) = (is_term p.left ≡ true) × (is_term p.right ≡ true) × AreTerms ps

  then_good : (rs : Registers) (ps : List Pair) (o : Option Subst) → IfSome o (λ u. Good u rs) → ((u : Subst) → Good u rs → IfSome (solve u ps) (λ v. Good v rs)) → IfSome (option_and_then (λ u. solve u ps) o) (λ v. Good v rs)
  then_good rs ps (Some u) h all = all u h
  then_good rs ps None h all = tt

  pub solved_good : (ps : List Pair) (s : Subst) (rs : Registers) → Good s rs → AreTerms ps → IfSome (solve s ps) (λ u. Good u rs)
  solved_good [] s rs good h = good
  solved_good (p ∷ ps) s rs good h = then_good rs ps (unify_under s p.left p.right) (unified_good s p.left p.right rs good h.0 h.1) (λ u g. solved_good ps u rs g h.2)

  pub direct_terms : (ws ts : Tree) → is_row ws ≡ true → is_row ts ≡ true → AreTerms (direct next ws ts)
  direct_terms (More w ws) (More t ts) row form =
      let a = and_parts (is_term w) (is_row ws) row in
      let b = and_parts (is_term t) (is_row ts) form in
      one t b.0 a.0 (direct_terms ws ts a.1 b.1)
    where
      one : (t : Tree) → is_term t ≡ true → is_term w ≡ true → AreTerms (direct next ws ts) → AreTerms (direct_one next w t ++ direct next ws ts)
      one (Variable n) b a more = (a, refl, more)
      one (Integer z) b a more = (a, refl, more)
      one (Name f) b a more = (a, refl, more)
      one (Apply f us) b a more = more
      one End b a more = absurd (false≢true b)
      one (More u us) b a more = absurd (false≢true b)
  direct_terms (More w ws) End row form = tt
  direct_terms (More w ws) (Variable n) row form = tt
  direct_terms (More w ws) (Integer z) row form = tt
  direct_terms (More w ws) (Name f) row form = tt
  direct_terms (More w ws) (Apply f us) row form = tt
  direct_terms End ts row form = tt
  direct_terms (Variable n) ts row form = tt
  direct_terms (Integer z) ts row form = tt
  direct_terms (Name f) ts row form = tt
  direct_terms (Apply f us) ts row form = tt

  -- how an answer is carried over
  pub along : (m : ℕ) (rs : Registers) (bs : List Block) (go : Subst → Registers → Option X) (o : Option Subst) (x y : Option X) → x ≡ y → Comes next m rs bs go o x → Comes next m rs bs go o y
  along m rs bs go o x y e h = subst (λ z. Comes next m rs bs go o z) e h

  pub for_same : (m : ℕ) (rs : Registers) (bs : List Block) (go : Subst → Registers → Option X) (o p : Option Subst) (x : Option X) → o ≡ p → Comes next m rs bs go o x → Comes next m rs bs go p x
  for_same m rs bs go o p x e h = subst (λ z. Comes next m rs bs go z x) e h

  pub weaker : (m n : ℕ) (rs us : Registers) (bs : List Block) (go : Subst → Registers → Option X) (o : Option Subst) (x : Option X) → m ≤ n → ((k : ℕ) → k < m → us k ≡ rs k)
      → Comes next n us bs go o x → Comes next m rs bs go o x
  weaker m n rs us bs go (Some u) x le same h = (h.0, (λ k low. h.1 k (omega (arith, low, le)) ∙ same k low), h.2, h.3)
  weaker m n rs us bs go None x le same h = h

  -- a variable is bound to the compound
  bound_comes : (m : ℕ) (rs us : Registers) (bs xs : List Block) (n : ℕ) (go : Subst → Registers → Option X) (o : Option Subst) → n ≡ length xs → ((k : ℕ) → k < m → us k ≡ rs k) → IfSome o (λ u. Good u us)
      → Comes next m rs bs go (option_and_then (λ u. Some u) o) (option_and_then (λ u. run next (xs ++ bs) n u us go) o)
  bound_comes m rs us bs xs n go (Some u) e same good = (us, same, good, ap (λ i. run next (xs ++ bs) i u us go) e ∙ skipped next xs bs u us go)
  bound_comes m rs us bs xs n go None e same good = refl

  -- the arguments are read, and then the compounds among them
  read_comes : (m n : ℕ) (rs us : Registers) (bs xs : List Block) (qs : List Pair) (go : Subst → Registers → Option X) (o : Option Subst) → m ≤ n → ((k : ℕ) → k < m → us k ≡ rs k)
      → ((u : Subst) → Good u us → Comes next n us bs go (solve u qs) (run next (xs ++ bs) zero u us go)) → IfSome o (λ u. Good u us)
      → Comes next m rs bs go (option_and_then (λ u. solve u qs) o) (option_and_then (λ u. run next (xs ++ bs) zero u us go) o)
  read_comes m n rs us bs xs qs go (Some u) le same all good = weaker m n rs us bs go (solve u qs) (run next (xs ++ bs) zero u us go) le same (all u good)
  read_comes m n rs us bs xs qs go None le same all good = refl

  moved_good : (s : Subst) (rs us : Registers) (o : Option Subst) → ((k : ℕ) → is_term (us k) ≡ true) → IfSome o (λ u. Good u rs) → IfSome o (λ u. Good u us)
  moved_good s rs us (Some u) terms h = record { substitution = h.substitution; terms = h.terms; registers = terms }
  moved_good s rs us None terms h = tt

  module _ (r m : ℕ) (f : List ℕ) (ts : Tree) (term : is_term (Apply f ts) ≡ true) (bs : List Block) (go : Subst → Registers → Option X) where
    form : is_row ts ≡ true
    form = row_of_arguments f ts term

    abbrev xs : List Block
    xs = blocks m (m + tops ts) ts

    abbrev block : Block
    block = record { register = r; name = f; parts = parts m ts; inner = tops ts + deep ts }

    inner_is : tops ts + deep ts ≡ length xs
    inner_is = sym (length_blocks m (m + tops ts) ts)

    module _ (s : Subst) (rs : Registers) (good : Good s rs) where
      abbrev asked : List Pair
      asked = pair (rs r) (renamed next (Apply f ts)) ∷ []

      -- the registers behind the inner blocks
      abbrev inner_made : Registers
      inner_made = filled next (take (tops ts + deep ts) (xs ++ bs)) rs

      inner_made_is : inner_made ≡ filled next xs rs
      inner_made_is = ap (λ ys. filled next ys rs) (ap (λ n. take n (xs ++ bs)) inner_is ∙ take_whole xs bs)

      inner_keeps : (k : ℕ) → k < m → inner_made k ≡ rs k
      inner_keeps k low = ap (λ us. us k) inner_made_is ∙ filled_keeps next m (m + tops ts) ts rs k (omega arith) (inl low) (omega (arith, low))

      inner_terms : (k : ℕ) → is_term (inner_made k) ≡ true
      inner_terms k = ap (λ us. is_term (us k)) inner_made_is ∙ row_filled next m (m + tops ts) ts rs form (omega arith) good.registers k

      made_is : made next inner_made block ≡ renamed next (Apply f ts)
      made_is = ap (λ us. Apply f (part_row next us (parts m ts))) inner_made_is ∙ ap (Apply f) (row_made next m (m + tops ts) ts rs form (omega arith))

      clashes : ((t : Subst) → Extends s t → apply t (rs r) ≢ apply t (renamed next (Apply f ts))) → Comes next m rs bs go (solve s asked) None
      clashes never = for_same m rs bs go None (solve s asked) None (sym (ap (option_and_then (λ u. Some u)) (never_under s (rs r) (renamed next (Apply f ts)) good.substitution never))) refl

      -- the value of the register under a further substitution
      further : (v : Tree) → apply s (rs r) ≡ v → (t : Subst) → Extends s t → apply t (rs r) ≡ apply t v
      further v e t on = sym (apply_absorbs s t (rs r) on) ∙ ap (apply t) e

      no_compound : (v : Tree) → apply s (rs r) ≡ v → ((t : Subst) → is_compound (apply t v) ≡ false) → Comes next m rs bs go (solve s asked) None
      no_compound v e other = clashes (λ t on h. false≢true (sym (other t) ∙ ap is_compound (sym (further v e t on) ∙ h)))

      variable_meets : Comes next m rs bs go (solve s asked) (option_and_then (λ u. run next (xs ++ bs) (tops ts + deep ts) u inner_made go) (unify_under s (rs r) (made next inner_made block)))
      variable_meets =
          along m rs bs go (solve s asked)
          (option_and_then (λ u. run next (xs ++ bs) (tops ts + deep ts) u inner_made go) (unify_under s (rs r) (renamed next (Apply f ts))))
          (option_and_then (λ u. run next (xs ++ bs) (tops ts + deep ts) u inner_made go) (unify_under s (rs r) (made next inner_made block)))
          (ap (λ t. option_and_then (λ u. run next (xs ++ bs) (tops ts + deep ts) u inner_made go) (unify_under s (rs r) t)) (sym made_is))
          (bound_comes m rs inner_made bs xs (tops ts + deep ts) go (unify_under s (rs r) (renamed next (Apply f ts))) inner_is inner_keeps
          (moved_good s rs inner_made (unify_under s (rs r) (renamed next (Apply f ts))) inner_terms
          (unified_good s (rs r) (renamed next (Apply f ts)) rs good (good.registers r) (renamed_term (Apply f ts) term))))

      module _ (g : List ℕ) (ws : Tree) (e : apply s (rs r) ≡ Apply g ws) where
        row : is_row ws ≡ true
        row = row_of_arguments g ws (ap is_term (sym e) ∙ term_applied s (rs r) (good.registers r) (λ n o. good.terms n))

        abbrev us : Registers
        us = given m ws ts rs

        us_terms : (k : ℕ) → is_term (us k) ≡ true
        us_terms = given_terms m ws ts rs row good.registers

        alike : g ≡ f → count ws ≡ count ts → AreAlike s (direct next ws ts ++ pairs next us m ts) asked
        alike same_name same_count t on =
            let asks = asks_all next t ws ts row form same_count in
            let put : direct next ws ts ++ pairs next us m ts ≡ direct next ws ts ++ inners next ws ts = ap (λ ps. direct next ws ts ++ ps) (pairs_given next m ws ts rs form same_count) in (
              λ h. (further (Apply g ws) e t on ∙ ap₂ Apply same_name (asks.0 (subst (AreEqual t) put h)), tt),
              λ h. subst (AreEqual t) (sym put) (asks.1 (ap arguments_of (sym (further (Apply g ws) e t on) ∙ h.0))),
            )

        abbrev Rows : Type 0
        Rows = (u : Subst) → Good u us → Comes next (m + tops ts) us bs go (solve u (pairs next us m ts)) (run next (xs ++ bs) zero u us go)

        compound_reads : Rows → g ≡ f → count ws ≡ count ts → Comes next m rs bs go (solve s asked) (read next (parts m ts) ws s rs (λ u vs. run next (xs ++ bs) zero u vs go))
        compound_reads rows same_name same_count =
            for_same m rs bs go (option_and_then (λ u. solve u (pairs next us m ts)) (solve s (direct next ws ts))) (solve s asked)
            (read next (parts m ts) ws s rs (λ u vs. run next (xs ++ bs) zero u vs go))
            (sym (solve_append s (direct next ws ts) (pairs next us m ts)) ∙ solve_same s (direct next ws ts ++ pairs next us m ts) asked good.substitution (alike same_name same_count))
            (along m rs bs go (option_and_then (λ u. solve u (pairs next us m ts)) (solve s (direct next ws ts)))
            (option_and_then (λ u. run next (xs ++ bs) zero u us go) (solve s (direct next ws ts)))
            (read next (parts m ts) ws s rs (λ u vs. run next (xs ++ bs) zero u vs go))
            (sym (read_solves next m ws ts s rs (λ u vs. run next (xs ++ bs) zero u vs go) row form same_count))
            (read_comes m (m + tops ts) rs us bs xs (pairs next us m ts) go (solve s (direct next ws ts)) (omega arith) (given_keeps m ws ts rs) rows
            (moved_good s rs us (solve s (direct next ws ts)) us_terms (solved_good (direct next ws ts) s rs good (direct_terms ws ts row form)))))

        compound_tested : Rows → (b : Bool) → (bytes_eq g f && count ws == length (parts m ts)) ≡ b
            → Comes next m rs bs go (solve s asked) (if b then read next (parts m ts) ws s rs (λ u vs. run next (xs ++ bs) zero u vs go) else None)
        compound_tested rows true h =
            let both = and_parts (bytes_eq g f) (count ws == length (parts m ts)) h in
            compound_reads rows ((bytes_eq-Decides g f).0 both.0) (eqb-true (count ws) (length (parts m ts)) both.1 ∙ length_parts m ts)
        compound_tested rows false h = clashes (λ t on same.
            let sides : Apply g (apply t ws) ≡ Apply f (apply t (renamed next ts)) = sym (further (Apply g ws) e t on) ∙ same in
            let counts : count ws ≡ count ts =
            sym (count_applied t ws row) ∙ ap (λ x. count (arguments_of x)) sides ∙ count_applied t (renamed next ts) (renamed_row ts form)
            ∙ count_applied (λ x. Variable (next + x)) ts form in
            false≢true (sym h ∙ and_from (bytes_eq g f) (count ws == length (parts m ts)) ((bytes_eq-Decides g f).1 (ap name_of sides))
            (eq-eqb (count ws) (length (parts m ts)) (counts ∙ sym (length_parts m ts)))))
          where
            renamed_row : (us : Tree) → is_row us ≡ true → is_row (renamed next us) ≡ true
            renamed_row (More u us) h =
                let a = and_parts (is_term u) (is_row us) h in
                and_from (is_term (renamed next u)) (is_row (renamed next us)) (renamed_term u a.0) (renamed_row us a.1)
            renamed_row End h = refl
            renamed_row (Variable n) h = absurd (false≢true h)
            renamed_row (Integer z) h = absurd (false≢true h)
            renamed_row (Name a) h = absurd (false≢true h)
            renamed_row (Apply f us) h = absurd (false≢true h)

      block_meets : ((us : Registers) (u : Subst) → Good u us → Comes next (m + tops ts) us bs go (solve u (pairs next us m ts)) (run next (xs ++ bs) zero u us go))
          → (v : Tree) → apply s (rs r) ≡ v
          → Comes next m rs bs go (solve s asked) (meet next block (xs ++ bs) v s rs (λ k u us. run next (xs ++ bs) k u us go))
      block_meets rows (Variable y) e = variable_meets
      block_meets rows (Apply g ws) e = compound_tested g ws e (rows (us g ws e)) (bytes_eq g f && count ws == length (parts m ts)) refl
      block_meets rows (Integer z) e = no_compound (Integer z) e (λ t. refl)
      block_meets rows (Name a) e = no_compound (Name a) e (λ t. refl)
      block_meets rows End e = no_compound End e (λ t. refl)
      block_meets rows (More u vs) e = no_compound (More u vs) e (λ t. refl)

  then_comes : (m n : ℕ) (rs : Registers) (bs ys : List Block) (qs : List Pair) (go : Subst → Registers → Option X) (o : Option Subst) (x : Option X) → m ≤ n
      → ((u : Subst) (us : Registers) → Good u us → ((k : ℕ) → k < m → us k ≡ rs k) → Comes next n us bs go (solve u qs) (run next (ys ++ bs) zero u us go))
      → Comes next m rs (ys ++ bs) go o x → Comes next m rs bs go (option_and_then (λ u. solve u qs) o) x
  then_comes m n rs bs ys qs go None x le all h = h
  then_comes m n rs bs ys qs go (Some u) x le all h =
      weaker m n rs h.0 bs go (solve u qs) x le h.1 (along n h.0 bs go (solve u qs) (run next (ys ++ bs) zero u h.0 go) x (sym h.3) (all u h.0 h.2 h.1))

  mutual
    pub term_comes : (r m : ℕ) (t : Tree) → is_term t ≡ true → r + tops t ≤ m → (bs : List Block) (go : Subst → Registers → Option X) (s : Subst) (rs : Registers) → Good s rs
        → Comes next m rs bs go (solve s (pairs next rs r t)) (run next (blocks r m t ++ bs) zero s rs go)
    term_comes r m (Variable n) term room bs go s rs good = (rs, (λ k low. refl), good, refl)
    term_comes r m (Integer z) term room bs go s rs good = (rs, (λ k low. refl), good, refl)
    term_comes r m (Name a) term room bs go s rs good = (rs, (λ k low. refl), good, refl)
    term_comes r m (Apply f ts) term room bs go s rs good =
        block_meets r m f ts term bs go s rs good (λ us u g. row_comes m (m + tops ts) ts (row_of_arguments f ts term) (omega arith) bs go u us g) (apply s (rs r)) refl
    term_comes r m End term room bs go s rs good = absurd (false≢true term)
    term_comes r m (More t ts) term room bs go s rs good = absurd (false≢true term)

    pub row_comes : (r m : ℕ) (ts : Tree) → is_row ts ≡ true → r + tops ts ≤ m → (bs : List Block) (go : Subst → Registers → Option X) (s : Subst) (rs : Registers) → Good s rs
        → Comes next m rs bs go (solve s (pairs next rs r ts)) (run next (blocks r m ts ++ bs) zero s rs go)
    row_comes r m (More t ts) form room bs go s rs good =
        let both = and_parts (is_term t) (is_row ts) form in
        let ys : List Block = blocks (r + tops t) (m + deep t) ts in
        for_same m rs bs go (option_and_then (λ u. solve u (pairs next rs (r + tops t) ts)) (solve s (pairs next rs r t))) (solve s (pairs next rs r t ++ pairs next rs (r + tops t) ts))
        (run next ((blocks r m t ++ ys) ++ bs) zero s rs go)
        (sym (solve_append s (pairs next rs r t) (pairs next rs (r + tops t) ts)))
        (then_comes m (m + deep t) rs bs ys (pairs next rs (r + tops t) ts) go (solve s (pairs next rs r t)) (run next ((blocks r m t ++ ys) ++ bs) zero s rs go) (omega arith)
        (λ u us g same. subst (λ ps. Comes next (m + deep t) us bs go (solve u ps) (run next (ys ++ bs) zero u us go)) (pairs_keep next (r + tops t) m ts rs us (omega (arith, room)) same)
        (row_comes (r + tops t) (m + deep t) ts both.1 (omega (arith, room)) bs go u us g))
        (along m rs (ys ++ bs) go (solve s (pairs next rs r t)) (run next (blocks r m t ++ (ys ++ bs)) zero s rs go) (run next ((blocks r m t ++ ys) ++ bs) zero s rs go)
        (ap (λ zs. run next zs zero s rs go) (sym (append_append (blocks r m t) ys bs)))
        (term_comes r m t both.0 (omega (arith, room)) (ys ++ bs) go s rs good)))
    row_comes r m End form room bs go s rs good = (rs, (λ k low. refl), good, refl)
    row_comes r m (Variable n) form room bs go s rs good = absurd (false≢true form)
    row_comes r m (Integer z) form room bs go s rs good = absurd (false≢true form)
    row_comes r m (Name a) form room bs go s rs good = absurd (false≢true form)
    row_comes r m (Apply f ts) form room bs go s rs good = absurd (false≢true form)
