-- What is kept of a procedure made handier.
use Rattle.std.proofs.Common.{◌≡◌, ℕ, ◌<◌, ◌≤◌, ◌+◌, Bool, true, false, ◌==◌, List, [], ◌∷◌, ◌++◌, length, get_or, set, take, reverse, filter, Option, Some, None, is_some, ⊎_elim, refl, sym, ap, ◌∙◌, subst, arith, cond, ◌||◌, leb-true}
use Rattle.std.specs.List.{slice_get, cons_option, list_any, All}
use Rattle.std.proofs.lemmas.Option.{same_Some, slice_get-get_or}
use Rattle.std.proofs.lemmas.Bool.Decides.{eqb_tells, leb_tells}
use Rattle.std.proofs.lemmas.List.{length-set, length-append, reverse-append, append-nil, get_or_past, get_or_default, get_or_push, get_or_append_left}
use Rattle.std.proofs.lemmas.List.Elements.{filter-append, All-filter}
use Rattle.iso_clauses.specs.Clauses.{Clause}
use Rattle.iso_clauses.specs.Blocks.{Ids, Kept, ids, block_of, passing}
use Rattle.iso_clauses.specs.declared.slots.Label.{Label}
use Rattle.iso_clauses.specs.declared.slots.Slot.{Slot}
use Rattle.iso_clauses.specs.Orders.{are_in_order}
use Rattle.iso_clauses.specs.Slots.{clause_at, is_front, list_at, given}
use Rattle.iso_clauses.specs.Kept.{lists, current_of, given_in, Owns, Trimmed, IsKept, Tidies}
use Rattle.iso_clauses.proofs.AddLemmas.{block_of-last}
use Rattle.iso_clauses.proofs.OrderLemmas.{order_told, order_tells, order_filter}
use Rattle.iso_clauses.proofs.ListLemmas.{slice_get-set_same, slice_get-set_other}
use Rattle.iso_clauses.proofs.GivingLemmas.{Extends, Longer-same, Grown-set, Giving-kept}
use Rattle.iso_clauses.proofs.NewLemmas.{Remembers-itself}

-- a procedure of which new views pass over more
pub Extends-first : (first : ℕ) (e : Kept) → Extends e (record e { first = first })
Extends-first first e = record { blocks = omega arith; longer = λ block h. Longer-same (block_of e block) (block_of e block) refl }

module _ {C : Type 0} where
  -- Another way to keep a procedure, of which the same is shown.
  pub record Renews (of : Label → ℕ) (slots : List (Slot C)) (r place : ℕ) (e e' : Kept) : Type 0 where
    pub owned : (block : ℕ) → block ≤ length e'.older → Owns of slots place (block_of e' block)
    pub trimmed : Trimmed slots r e'
    pub ordered : are_in_order (is_front slots) (ids e'.current) ≡ true
    pub listed : (n : ℕ) → is_some (clause_at slots r n) ≡ true → list_any (λ m. m == n) (ids e.current) ≡ true → list_any (λ m. m == n) (ids e'.current) ≡ true
    pub same : given slots r (ids e'.current) ≡ given slots r (ids e.current)

  pub IsKept-renewed : (of : Label → ℕ) (slots : List (Slot C)) (r size : ℕ) (entries : List Kept) (place : ℕ) (e' d : Kept) → place < length entries → Renews of slots r place (get_or entries place d) e' → IsKept of slots r size entries → IsKept of slots r size (set entries place e')
  IsKept-renewed of slots r size entries place e' d within renews kept = record {
    same = kept.same ∙ sym (length-set entries place e');
    counted = kept.counted;
    owned = λ p e at block h.
        ⊎_elim
        (λ q. subst (λ x. Owns of slots x (block_of e block)) (sym q.1) (subst (λ (x : Kept). block ≤ length x.older → Owns of slots place (block_of x block)) (here p e at q.1) (renews.owned block) h))
        (λ q. kept.owned p e (sym (slice_get-set_other entries place p e' q.1) ∙ at) block h)
        (eqb_tells p place);
    trimmed = λ p e at.
        ⊎_elim
        (λ q. subst (Trimmed slots r) (here p e at q.1) renews.trimmed)
        (λ q. kept.trimmed p e (sym (slice_get-set_other entries place p e' q.1) ∙ at))
        (eqb_tells p place);
    ordered = λ p e at.
        ⊎_elim
        (λ q. subst (λ (x : Kept). are_in_order (is_front slots) (ids x.current) ≡ true) (here p e at q.1) renews.ordered)
        (λ q. kept.ordered p e (sym (slice_get-set_other entries place p e' q.1) ∙ at))
        (eqb_tells p place);
    listed = λ n p there at.
        ⊎_elim
        (λ q. subst (λ x. lists (slice_get (set entries place e') x) n ≡ true) (sym q.1)
        (ap (λ o. lists o n) (slice_get-set_same entries place e' within)
        ∙ renews.listed n there (ap (λ o. lists o n) (sym (slice_get-get_or entries place d within)) ∙ subst (λ x. lists (slice_get entries x) n ≡ true) q.1 (kept.listed n p there at))))
        (λ q. ap (λ o. lists o n) (slice_get-set_other entries place p e' q.1) ∙ kept.listed n p there at)
        (eqb_tells p place);
  }
    where
      here : (p : ℕ) (e : Kept) → slice_get (set entries place e') p ≡ Some e → p ≡ place → e' ≡ e
      here p e at q = same_Some e' e (sym (slice_get-set_same entries place e' within) ∙ subst (λ x. slice_get (set entries place e') x ≡ Some e) q at)

  given_in-renewed : (slots : List (Slot C)) (r : ℕ) (entries : List Kept) (place p : ℕ) (e' d : Kept) → place < length entries → given slots r (ids e'.current) ≡ given slots r (ids (get_or entries place d).current)
      → given_in slots r (set entries place e') p ≡ given_in slots r entries p
  given_in-renewed slots r entries place p e' d within same =
      ⊎_elim
      (λ q. subst (λ x. given_in slots r (set entries place e') x ≡ given_in slots r entries x) (sym q.1)
      (ap (λ o. given slots r (ids (current_of o))) (slice_get-set_same entries place e' within) ∙ same ∙ sym (ap (λ o. given slots r (ids (current_of o))) (slice_get-get_or entries place d within))))
      (λ q. ap (λ o. given slots r (ids (current_of o))) (slice_get-set_other entries place p e' q.1))
      (eqb_tells p place)

  -- a procedure kept in another way, of which views give the same
  pub Tidies-renewed : (of : Label → ℕ) (slots : List (Slot C)) (r : ℕ) (entries : List Kept) (place : ℕ) (e' d : Kept) → place < length entries → ((size : ℕ) → IsKept of slots r size entries → Renews of slots r place (get_or entries place d) e') → Extends (get_or entries place d) e'
      → Tidies of slots r entries (set entries place e')
  Tidies-renewed of slots r entries place e' d within renews extends = record {
    kept = λ size kept. IsKept-renewed of slots r size entries place e' d within (renews size kept) kept;
    shows = λ size kept p. given_in-renewed slots r entries place p e' d within (renews size kept).same;
    gives = λ size kept. Giving-kept of slots r size entries slots r (set entries place e') kept (Remembers-itself slots r) (Grown-set entries place e' d within extends);
  }

  pub Tidies-nothing : (of : Label → ℕ) (slots : List (Slot C)) (r : ℕ) (entries others : List Kept) → others ≡ entries → Tidies of slots r entries others
  Tidies-nothing of slots r entries others is = subst (Tidies of slots r entries) (sym is) record { kept = λ size kept. kept; shows = λ size kept p. refl; gives = λ size kept v cs gives. gives }

  -- one that new views pass over more of
  pub Renews-first : (of : Label → ℕ) (slots : List (Slot C)) (r size : ℕ) (entries : List Kept) (place first : ℕ) (d : Kept) → place < length entries → first ≤ length (get_or entries place d).current.front + length (get_or entries place d).current.back
      → All (λ n. is_some (clause_at slots r n) ≡ false) (take first (ids (get_or entries place d).current)) → IsKept of slots r size entries → Renews of slots r place (get_or entries place d) (record (get_or entries place d) { first = first })
  Renews-first of slots r size entries place first d within h dead kept = record {
    owned = λ block l. kept.owned place (get_or entries place d) (slice_get-get_or entries place d within) block l;
    trimmed = record { within = h; dead = dead };
    ordered = kept.ordered place (get_or entries place d) (slice_get-get_or entries place d within);
    listed = λ n there l. l;
    same = refl;
  }

-- the older blocks with the procedure's own behind them
older_block : (e : Kept) (block : ℕ) → get_or (e.older ++ e.current ∷ []) block e.current ≡ block_of e block
older_block e block =
    ⊎_elim
    (λ h. get_or_append_left e.older (e.current ∷ []) e.current block (omega (arith, leb-true (block + 1) (length e.older) h.0)))
    (λ h. ⊎_elim
    (λ q. get_or_push e.older e.current e.current block (sym q.1) ∙ sym (get_or_past e.older block e.current (omega (arith, q.1))))
    (λ q. get_or_past (e.older ++ e.current ∷ []) block e.current (omega (arith, h.1, q.1, length-append e.older (e.current ∷ []))) ∙ sym (get_or_past e.older block e.current (omega (arith, h.1))))
    (eqb_tells block (length e.older)))
    (leb_tells (block + 1) (length e.older))

-- the numbers that pass a test, from the other end
filter-reverse : (test : ℕ → Bool) (ns : List ℕ) → filter test (reverse ns) ≡ reverse (filter test ns)
filter-reverse test [] = refl
filter-reverse test (n ∷ ns) =
    ap (filter test) (reverse-append (n ∷ []) ns) ∙ filter-append test (reverse ns) (n ∷ []) ∙ ap (λ xs. xs ++ filter test (n ∷ [])) (filter-reverse test ns)
    ∙ elim (test n) as (λ b. reverse (filter test ns) ++ cond b (n ∷ []) [] ≡ reverse (cond b (n ∷ filter test ns) (filter test ns))) [
      | true ↦ sym (reverse-append (n ∷ []) (filter test ns))
      | false ↦ append-nil (reverse (filter test ns))
    ]

pub ids-passing : (test : ℕ → Bool) (b : Ids) → ids (passing test b) ≡ filter test (ids b)
ids-passing test b = ap (λ ns. ns ++ filter test b.back) (sym (filter-reverse test b.front)) ∙ sym (filter-append test (reverse b.front) b.back)

-- a number that passes is still there
any-passing : (test : ℕ → Bool) (ns : List ℕ) (n : ℕ) → test n ≡ true → list_any (λ m. m == n) ns ≡ true → list_any (λ m. m == n) (filter test ns) ≡ true
any-passing test [] n passes h = h
any-passing test (m ∷ ms) n passes h =
    ⊎_elim
    (λ e. ap (λ b. list_any (λ x. x == n) (cond b (m ∷ filter test ms) (filter test ms))) (ap test e.1 ∙ passes) ∙ ap (λ b. b || list_any (λ x. x == n) (filter test ms)) e.0)
    (λ e. either (test m) (any-passing test ms n passes (ap (λ b. b || list_any (λ x. x == n) ms) (sym e.0) ∙ h)))
    (eqb_tells m n)
  where
    or_true : (t : Bool) → t || true ≡ true
    or_true true = refl
    or_true false = refl

    either : (b : Bool) → list_any (λ x. x == n) (filter test ms) ≡ true → list_any (λ x. x == n) (cond b (m ∷ filter test ms) (filter test ms)) ≡ true
    either true e = ap (λ t. (m == n) || t) e ∙ or_true (m == n)
    either false e = e

module _ {C : Type 0} where
  -- the clauses that are there are given without the numbers of those that are not
  one_passing : (slots : List (Slot C)) (r n : ℕ) (ns : List ℕ) (o : Option (Clause C)) → clause_at slots r n ≡ o → given slots r (filter (λ m. is_some (clause_at slots r m)) ns) ≡ given slots r ns
      → given slots r (cond (is_some o) (n ∷ filter (λ m. is_some (clause_at slots r m)) ns) (filter (λ m. is_some (clause_at slots r m)) ns)) ≡ cons_option o (given slots r ns)
  one_passing slots r n ns None at rest = rest
  one_passing slots r n ns (Some c) at rest = ap (λ o. cons_option o (given slots r (filter (λ m. is_some (clause_at slots r m)) ns))) at ∙ ap (λ cs. c ∷ cs) rest

  pub given-passing : (slots : List (Slot C)) (r : ℕ) (ns : List ℕ) → given slots r (filter (λ n. is_some (clause_at slots r n)) ns) ≡ given slots r ns
  given-passing slots r [] = refl
  given-passing slots r (n ∷ ns) = one_passing slots r n ns (clause_at slots r n) refl (given-passing slots r ns)

  -- a procedure with the numbers alone of clauses that are there
  abbrev pub with_those : (slots : List (Slot C)) → ℕ → List Ids → Kept → Kept
  with_those slots r older e = record e { older = older; current = passing (λ n. is_some (clause_at slots r n)) e.current; first = 0 }

  pub Renews-those : (of : Label → ℕ) (slots : List (Slot C)) (r size : ℕ) (entries : List Kept) (place : ℕ) (older : List Ids) (d : Kept) → place < length entries → IsKept of slots r size entries
      → ((block : ℕ) → block < length older → Owns of slots place (get_or older block (get_or entries place d).current))
      → Renews of slots r place (get_or entries place d) (with_those slots r older (get_or entries place d))
  Renews-those of slots r size entries place older d within kept owned = record {
    owned = λ block h.
        ⊎_elim
        (λ q. subst (Owns of slots place) (sym (get_or_past older block new (omega (arith, q.1)))) those)
        (λ q. subst (Owns of slots place) (get_or_default older block e.current new (omega (arith, q.1))) (owned block (omega (arith, q.1))))
        (eqb_tells block (length older));
    trimmed = record { within = omega arith; dead = λ k x h. absurd (omega arith) };
    ordered = ap (are_in_order (is_front slots)) (ids-passing there_now e.current)
        ∙ order_tells (is_front slots) (filter there_now (ids e.current))
        (order_filter (is_front slots) there_now (ids e.current) (order_told (is_front slots) (ids e.current) (kept.ordered place e (slice_get-get_or entries place d within))));
    listed = λ n there h. ap (list_any (λ m. m == n)) (ids-passing there_now e.current) ∙ any-passing there_now (ids e.current) n there h;
    same = ap (given slots r) (ids-passing there_now e.current) ∙ given-passing slots r (ids e.current);
  }
    where
      e : Kept
      e = get_or entries place d

      there_now : ℕ → Bool
      there_now n = is_some (clause_at slots r n)

      new : Ids
      new = passing there_now e.current

      own : Owns of slots place e.current
      own = subst (Owns of slots place) (block_of-last e (length e.older) refl) (kept.owned place e (slice_get-get_or entries place d within) (length e.older) (omega arith))

      those : Owns of slots place new
      those = record {
        front = All-filter there_now (λ n. list_at of slots n ≡ Some place) e.current.front own.front;
        back = All-filter there_now (λ n. list_at of slots n ≡ Some place) e.current.back own.back;
      }

  -- the procedure's own block becomes one of the older
  pub Renews-thinned : (of : Label → ℕ) (slots : List (Slot C)) (r size : ℕ) (entries : List Kept) (place : ℕ) (d : Kept) → place < length entries → IsKept of slots r size entries
      → Renews of slots r place (get_or entries place d) (with_those slots r ((get_or entries place d).older ++ (get_or entries place d).current ∷ []) (get_or entries place d))
  Renews-thinned of slots r size entries place d within kept =
      Renews-those of slots r size entries place (e.older ++ e.current ∷ []) d within kept
      (λ block h. subst (Owns of slots place) (sym (older_block e block)) (kept.owned place e (slice_get-get_or entries place d within) block (omega (arith, h, length-append e.older (e.current ∷ [])))))
    where
      e : Kept
      e = get_or entries place d

  pub Extends-thinned : (slots : List (Slot C)) (r : ℕ) (e : Kept) → Extends e (with_those slots r (e.older ++ e.current ∷ []) e)
  Extends-thinned slots r e = record {
    blocks = omega (arith, length-append e.older (e.current ∷ []));
    longer = λ block h. Longer-same (block_of e block) (get_or (e.older ++ e.current ∷ []) block new)
        (get_or_default (e.older ++ e.current ∷ []) block new e.current (omega (arith, h, length-append e.older (e.current ∷ []))) ∙ older_block e block);
  }
    where
      new : Ids
      new = passing (λ n. is_some (clause_at slots r n)) e.current

  pub Tidies-both : (of : Label → ℕ) (slots : List (Slot C)) (r : ℕ) (a b c : List Kept) → Tidies of slots r a b → Tidies of slots r b c → Tidies of slots r a c
  Tidies-both of slots r a b c first second = record {
    kept = λ size kept. second.kept size (first.kept size kept);
    shows = λ size kept p. second.shows size (first.kept size kept) p ∙ first.shows size kept p;
    gives = λ size kept v cs gives. second.gives size (first.kept size kept) v cs (first.gives size kept v cs gives);
  }
