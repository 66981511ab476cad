-- Reading the arguments of a compound.
use Rattle.std.proofs.Common.{◌≡◌, ◌≢◌, ◌↔◌, ◌<◌, ◌≤◌, ◌+◌, ℕ, true, List, [], ◌∷◌, ◌++◌, Option, Some, None, inl, inr, refl, ap, ap₂, ◌∙◌, arith}
use Rattle.std.specs.Option.{option_and_then}
use Rattle.std.proofs.lemmas.Bool.{false≢true, cases_eq, eq-eqb, ne_eqb, and_parts}
use Rattle.iso_model.specs.Terms.Trees.{Tree, Variable, Integer, Name, Apply, End, More, count}
use Rattle.iso_model.specs.Terms.Sorts.{is_term, is_row}
use Rattle.iso_model.specs.Terms.Substitutions.{Subst, apply}
use Rattle.iso_model.specs.Terms.Copies.{renamed}
use Rattle.iso_model.specs.Terms.Unification.{unify_under}
use Rattle.iso_compile.specs.Table.{Registers, Part, assign, read}
use Rattle.iso_compile.specs.TermCode.{tops, parts}
use Rattle.iso_compile.proofs.Solving.{Pair, solve, AreEqual}
use Rattle.iso_compile.proofs.Reading.{pair, given_one, given, direct_one, direct, inner_one, inners, pairs}

pub assign_here : (rs : Registers) (r k : ℕ) (t : Tree) → k ≡ r → assign rs r t k ≡ t
assign_here rs r k t e = rw (eq-eqb k r e) refl

pub assign_other : (rs : Registers) (r k : ℕ) (t : Tree) → k ≢ r → assign rs r t k ≡ rs k
assign_other rs r k t e = rw (ne_eqb k r e) refl

tail_row : (t ts : Tree) → is_row (More t ts) ≡ true → is_row ts ≡ true
tail_row t ts h = (and_parts (is_term t) (is_row ts) h).1

head_term : (t ts : Tree) → is_row (More t ts) ≡ true → is_term t ≡ true
head_term t ts h = (and_parts (is_term t) (is_row ts) h).0

module _ {X : Type 0} (next : ℕ) where
  one_read : (ps : List Part) (ws : Tree) (rs us : Registers) (go : Subst → Registers → Option X) (qs : List Pair) (o : Option Subst)
      → ((u : Subst) → read next ps ws u rs go ≡ option_and_then (λ v. go v us) (solve u qs))
      → option_and_then (λ u. read next ps ws u rs go) o ≡ option_and_then (λ v. go v us) (option_and_then (λ u. solve u qs) o)
  one_read ps ws rs us go qs (Some u) all = all u
  one_read ps ws rs us go qs None all = refl

  -- reading is solving what stands at once, with the registers filled
  pub read_solves : (r : ℕ) (ws ts : Tree) (s : Subst) (rs : Registers) (go : Subst → Registers → Option X) → is_row ws ≡ true → is_row ts ≡ true → count ws ≡ count ts
      → read next (parts r ts) ws s rs go ≡ option_and_then (λ u. go u (given r ws ts rs)) (solve s (direct next ws ts))
  read_solves r End End s rs go row form same = refl
  read_solves r (More w ws) (More (Variable x) ts) s rs go row form same =
      one_read (parts (r + 0) ts) ws rs (given (r + 0) ws ts rs) go (direct next ws ts) (unify_under s w (Variable (next + x))) (λ u.
      read_solves (r + 0) ws ts u rs go (tail_row w ws row) (tail_row (Variable x) ts form) (omega (arith, same)))
  read_solves r (More w ws) (More (Integer z) ts) s rs go row form same =
      one_read (parts (r + 0) ts) ws rs (given (r + 0) ws ts rs) go (direct next ws ts) (unify_under s w (Integer z)) (λ u.
      read_solves (r + 0) ws ts u rs go (tail_row w ws row) (tail_row (Integer z) ts form) (omega (arith, same)))
  read_solves r (More w ws) (More (Name a) ts) s rs go row form same =
      one_read (parts (r + 0) ts) ws rs (given (r + 0) ws ts rs) go (direct next ws ts) (unify_under s w (Name a)) (λ u.
      read_solves (r + 0) ws ts u rs go (tail_row w ws row) (tail_row (Name a) ts form) (omega (arith, same)))
  read_solves r (More w ws) (More (Apply f us) ts) s rs go row form same =
      read_solves (r + 1) ws ts s (assign rs r w) go (tail_row w ws row) (tail_row (Apply f us) ts form) (omega (arith, same))
  read_solves r (More w ws) (More End ts) s rs go row form same = absurd (false≢true (head_term End ts form))
  read_solves r (More w ws) (More (More t us) ts) s rs go row form same = absurd (false≢true (head_term (More t us) ts form))
  read_solves r (More w ws) End s rs go row form same = absurd (omega (arith, same))
  read_solves r End (More t ts) s rs go row form same = absurd (omega (arith, same))
  read_solves r (Variable n) ts s rs go row form same = absurd (false≢true row)
  read_solves r (Integer z) ts s rs go row form same = absurd (false≢true row)
  read_solves r (Name a) ts s rs go row form same = absurd (false≢true row)
  read_solves r (Apply f us) ts s rs go row form same = absurd (false≢true row)
  read_solves r End (Variable n) s rs go row form same = absurd (false≢true form)
  read_solves r End (Integer z) s rs go row form same = absurd (false≢true form)
  read_solves r End (Name a) s rs go row form same = absurd (false≢true form)
  read_solves r End (Apply f us) s rs go row form same = absurd (false≢true form)
  read_solves r (More w ws) (Variable n) s rs go row form same = absurd (false≢true form)
  read_solves r (More w ws) (Integer z) s rs go row form same = absurd (false≢true form)
  read_solves r (More w ws) (Name a) s rs go row form same = absurd (false≢true form)
  read_solves r (More w ws) (Apply f us) s rs go row form same = absurd (false≢true form)

-- registers below r are left alone
pub given_keeps : (r : ℕ) (ws ts : Tree) (rs : Registers) (k : ℕ) → k < r → given r ws ts rs k ≡ rs k
given_keeps r (More w ws) (More t ts) rs k low = given_keeps (r + tops t) ws ts (given_one r w t rs) k (omega (arith, low)) ∙ one t
  where
    one : (t : Tree) → given_one r w t rs k ≡ rs k
    one (Apply f us) = assign_other rs r k w (λ e. absurd (omega (arith, low, e)))
    one (Variable n) = refl
    one (Integer z) = refl
    one (Name a) = refl
    one End = refl
    one (More t us) = refl
given_keeps r (More w ws) (Variable n) rs k low = refl
given_keeps r (More w ws) (Integer z) rs k low = refl
given_keeps r (More w ws) (Name a) rs k low = refl
given_keeps r (More w ws) (Apply f us) rs k low = refl
given_keeps r (More w ws) End rs k low = refl
given_keeps r (Variable n) ts rs k low = refl
given_keeps r (Integer z) ts rs k low = refl
given_keeps r (Name a) ts rs k low = refl
given_keeps r (Apply f us) ts rs k low = refl
given_keeps r End ts rs k low = refl

-- all registers stay terms
pub given_terms : (r : ℕ) (ws ts : Tree) (rs : Registers) → is_row ws ≡ true → ((k : ℕ) → is_term (rs k) ≡ true) → (k : ℕ) → is_term (given r ws ts rs k) ≡ true
given_terms r (More w ws) (More t ts) rs row terms = given_terms (r + tops t) ws ts (given_one r w t rs) (tail_row w ws row) (one t)
  where
    one : (t : Tree) (k : ℕ) → is_term (given_one r w t rs k) ≡ true
    one (Apply f us) k = elim (cases_eq k r) [
      | inl e ↦ ap is_term (assign_here rs r k w e) ∙ head_term w ws row
      | inr e ↦ ap is_term (assign_other rs r k w e) ∙ terms k
    ]
    one (Variable n) k = terms k
    one (Integer z) k = terms k
    one (Name a) k = terms k
    one End k = terms k
    one (More t us) k = terms k
given_terms r (More w ws) (Variable n) rs row terms = terms
given_terms r (More w ws) (Integer z) rs row terms = terms
given_terms r (More w ws) (Name a) rs row terms = terms
given_terms r (More w ws) (Apply f us) rs row terms = terms
given_terms r (More w ws) End rs row terms = terms
given_terms r (Variable n) ts rs row terms = terms
given_terms r (Integer z) ts rs row terms = terms
given_terms r (Name a) ts rs row terms = terms
given_terms r (Apply f us) ts rs row terms = terms
given_terms r End ts rs row terms = terms

module _ (next : ℕ) where
  -- the pairs of registers that are alike below m
  pub pairs_keep : (r m : ℕ) (t : Tree) (rs us : Registers) → r + tops t ≤ m → ((k : ℕ) → k < m → us k ≡ rs k) → pairs next us r t ≡ pairs next rs r t
  pairs_keep r m (Apply f ts) rs us low same = ap (λ a. pair a (renamed next (Apply f ts)) ∷ []) (same r (omega (arith, low)))
  pairs_keep r m (More t ts) rs us low same = ap₂ ◌++◌ (pairs_keep r m t rs us (omega (arith, low)) same) (pairs_keep (r + tops t) m ts rs us (omega (arith, low)) same)
  pairs_keep r m (Variable n) rs us low same = refl
  pairs_keep r m (Integer z) rs us low same = refl
  pairs_keep r m (Name a) rs us low same = refl
  pairs_keep r m End rs us low same = refl

  -- what the registers have after reading
  pub pairs_given : (r : ℕ) (ws ts : Tree) (rs : Registers) → is_row ts ≡ true → count ws ≡ count ts → pairs next (given r ws ts rs) r ts ≡ inners next ws ts
  pairs_given r (More w ws) (More t ts) rs form same =
      ap₂ ◌++◌ (one t (head_term t ts form)) (pairs_given (r + tops t) ws ts (given_one r w t rs) (tail_row t ts form) (omega (arith, same)))
    where
      one : (t : Tree) → is_term t ≡ true → pairs next (given (r + tops t) ws ts (given_one r w t rs)) r t ≡ inner_one next w t
      one (Apply f us) term = ap (λ a. pair a (renamed next (Apply f us)) ∷ []) (given_keeps (r + 1) ws ts (assign rs r w) r (omega arith) ∙ assign_here rs r r w refl)
      one (Variable n) term = refl
      one (Integer z) term = refl
      one (Name a) term = refl
      one End term = absurd (false≢true term)
      one (More t us) term = absurd (false≢true term)
  pairs_given r (More w ws) End rs form same = refl
  pairs_given r End End rs form same = refl
  pairs_given r (Variable n) End rs form same = refl
  pairs_given r (Integer z) End rs form same = refl
  pairs_given r (Name a) End rs form same = refl
  pairs_given r (Apply f us) End rs form same = refl
  pairs_given r End (More t ts) rs form same = absurd (omega (arith, same))
  pairs_given r (Variable n) (More t ts) rs form same = absurd (omega (arith, same))
  pairs_given r (Integer z) (More t ts) rs form same = absurd (omega (arith, same))
  pairs_given r (Name a) (More t ts) rs form same = absurd (omega (arith, same))
  pairs_given r (Apply f us) (More t ts) rs form same = absurd (omega (arith, same))
  pairs_given r ws (Variable n) rs form same = absurd (false≢true form)
  pairs_given r ws (Integer z) rs form same = absurd (false≢true form)
  pairs_given r ws (Name a) rs form same = absurd (false≢true form)
  pairs_given r ws (Apply f us) rs form same = absurd (false≢true form)

  -- both together ask that the two lists are equal
  pub asks_all : (t : Subst) (ws ts : Tree) → is_row ws ≡ true → is_row ts ≡ true → count ws ≡ count ts
      → AreEqual t (direct next ws ts ++ inners next ws ts) ↔ (apply t ws ≡ apply t (renamed next ts))
  asks_all t ws ts row form same = (λ h. all ws ts row form same (parts_equal t (direct next ws ts) (inners next ws ts) h), λ e. joined_equal t (direct next ws ts) (inners next ws ts) (each ws ts row form same e))
    where
      parts_equal : (t : Subst) (ps qs : List Pair) → AreEqual t (ps ++ qs) → AreEqual t ps × AreEqual t qs
      parts_equal t [] qs h = (tt, h)
      parts_equal t (p ∷ ps) qs h = (let more = parts_equal t ps qs h.1 in ((h.0, more.0), more.1))

      joined_equal : (t : Subst) (ps qs : List Pair) → AreEqual t ps × AreEqual t qs → AreEqual t (ps ++ qs)
      joined_equal t [] qs h = h.1
      joined_equal t (p ∷ ps) qs h = (h.0.0, joined_equal t ps qs (h.0.1, h.1))

      first_of_row : Tree → Tree
      first_of_row (More a b) = a
      first_of_row t = End

      rest_of_row : Tree → Tree
      rest_of_row (More a b) = b
      rest_of_row t = End

      one_all : (w u : Tree) → is_term u ≡ true → AreEqual t (direct_one next w u) × AreEqual t (inner_one next w u) → apply t w ≡ apply t (renamed next u)
      one_all w (Variable n) term h = h.0.0
      one_all w (Integer z) term h = h.0.0
      one_all w (Name a) term h = h.0.0
      one_all w (Apply f us) term h = h.1.0
      one_all w End term h = absurd (false≢true term)
      one_all w (More u us) term h = absurd (false≢true term)

      one_each : (w u : Tree) → is_term u ≡ true → apply t w ≡ apply t (renamed next u) → AreEqual t (direct_one next w u) × AreEqual t (inner_one next w u)
      one_each w (Variable n) term e = ((e, tt), tt)
      one_each w (Integer z) term e = ((e, tt), tt)
      one_each w (Name a) term e = ((e, tt), tt)
      one_each w (Apply f us) term e = (tt, (e, tt))
      one_each w End term e = absurd (false≢true term)
      one_each w (More u us) term e = absurd (false≢true term)

      all : (ws ts : Tree) → is_row ws ≡ true → is_row ts ≡ true → count ws ≡ count ts → AreEqual t (direct next ws ts) × AreEqual t (inners next ws ts) → apply t ws ≡ apply t (renamed next ts)
      all (More w ws) (More u ts) row form same h =
          let d = parts_equal t (direct_one next w u) (direct next ws ts) h.0 in
          let i = parts_equal t (inner_one next w u) (inners next ws ts) h.1 in
          ap₂ More (one_all w u (head_term u ts form) (d.0, i.0)) (all ws ts (tail_row w ws row) (tail_row u ts form) (omega (arith, same)) (d.1, i.1))
      all End End row form same h = refl
      all End (More u ts) row form same h = absurd (omega (arith, same))
      all (More w ws) End row form same h = absurd (omega (arith, same))
      all (Variable n) ts row form same h = absurd (false≢true row)
      all (Integer z) ts row form same h = absurd (false≢true row)
      all (Name a) ts row form same h = absurd (false≢true row)
      all (Apply f us) ts row form same h = absurd (false≢true row)
      all End (Variable n) row form same h = absurd (false≢true form)
      all End (Integer z) row form same h = absurd (false≢true form)
      all End (Name a) row form same h = absurd (false≢true form)
      all End (Apply f us) row form same h = absurd (false≢true form)
      all (More w ws) (Variable n) row form same h = absurd (false≢true form)
      all (More w ws) (Integer z) row form same h = absurd (false≢true form)
      all (More w ws) (Name a) row form same h = absurd (false≢true form)
      all (More w ws) (Apply f us) row form same h = absurd (false≢true form)

      each : (ws ts : Tree) → is_row ws ≡ true → is_row ts ≡ true → count ws ≡ count ts → apply t ws ≡ apply t (renamed next ts) → AreEqual t (direct next ws ts) × AreEqual t (inners next ws ts)
      each (More w ws) (More u ts) row form same e =
          let one = one_each w u (head_term u ts form) (ap first_of_row e) in
          let more = each ws ts (tail_row w ws row) (tail_row u ts form) (omega (arith, same)) (ap rest_of_row e) in
          (joined_equal t (direct_one next w u) (direct next ws ts) (one.0, more.0), joined_equal t (inner_one next w u) (inners next ws ts) (one.1, more.1))
      each End End row form same e = (tt, tt)
      each End (More u ts) row form same e = absurd (omega (arith, same))
      each (More w ws) End row form same e = absurd (omega (arith, same))
      each (Variable n) ts row form same e = absurd (false≢true row)
      each (Integer z) ts row form same e = absurd (false≢true row)
      each (Name a) ts row form same e = absurd (false≢true row)
      each (Apply f us) ts row form same e = absurd (false≢true row)
      each End (Variable n) row form same e = absurd (false≢true form)
      each End (Integer z) row form same e = absurd (false≢true form)
      each End (Name a) row form same e = absurd (false≢true form)
      each End (Apply f us) row form same e = absurd (false≢true form)
      each (More w ws) (Variable n) row form same e = absurd (false≢true form)
      each (More w ws) (Integer z) row form same e = absurd (false≢true form)
      each (More w ws) (Name a) row form same e = absurd (false≢true form)
      each (More w ws) (Apply f us) row form same e = absurd (false≢true form)
