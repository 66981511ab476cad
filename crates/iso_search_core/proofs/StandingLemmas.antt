-- Choices, as the store and the lists of goals change.
use Rattle.std.proofs.Common.{◌≡◌, ℕ, zero, suc, ◌+◌, ◌-◌, ◌<◌, List, [], ◌∷◌, ◌++◌, length, take, drop, Some, refl, ap, sym, ◌∙◌, subst, arith, ◌⊎◌, inl, inr, vec_len, Vec, Global}
use Rattle.std.specs.List.{slice_get}
use Rattle.std.proofs.Math.Nat.{eq-or-lt_of_le}
use Rattle.std.proofs.lemmas.List.{take-append-le}
use Rattle.std.proofs.lemmas.Option.{slice_get_within}
use Rattle.iso_model.specs.Terms.Trees.{Tree}
use Rattle.iso_model.specs.Search.Walker.{Member, Alternative}
use Rattle.iso_store_core.specs.Presents.{Present}
use Rattle.iso_program.specs.Leaving.{Leaving, KeepsLeft}
use Rattle.iso_search_core.specs.declared.lists.Lists.{Ghosts}
use Rattle.iso_search_core.specs.declared.choices.Left.{Left}
use Rattle.iso_search_core.specs.declared.choices.Left.TheVariants as left
use Rattle.iso_search_core.specs.declared.choices.Choice as kept
use Rattle.iso_search_core.specs.Keeping.{KeepsOf}
use Rattle.iso_search_core.specs.Standing.{Among, Keeps, HasLeft, OnList, IsBelow, StandsForChoice, StandsForChoices, none_kept, one_kept, Newest}
use Rattle.std.proofs.Common.{get_or}
use Rattle.iso_prep.proofs.TreeLemmas.{at_last}

-- ---- lists that end in an item

pub last_is : {X : Type 0} (xs : List X) (x : X) → slice_get (xs ++ x ∷ []) (length xs) ≡ Some x
last_is xs x = (at_last xs x).is

pub front_is : {X : Type 0} (xs : List X) (x : X) → take (length xs) (xs ++ x ∷ []) ≡ xs
front_is [] x = refl
front_is (y ∷ xs) x = ap (λ (zs : List _). y ∷ zs) (front_is xs x)

pub length_last : {X : Type 0} (xs : List X) (x : X) → length (xs ++ x ∷ []) ≡ length xs + 1
length_last [] x = refl
length_last (y ∷ xs) x = omega (arith, length_last xs x)

pub among_front : {X : Type 0} (x : X) (xs : List X) (y : X) → Among x xs → Among x (xs ++ y ∷ [])
among_front x [] y h = absurd h
among_front x (z ∷ xs) y (inl e) = inl e
among_front x (z ∷ xs) y (inr h) = inr (among_front x xs y h)

pub among_last : {X : Type 0} (xs : List X) (y : X) → Among y (xs ++ y ∷ [])
among_last [] y = inl refl
among_last (z ∷ xs) y = inr (among_last xs y)

pub item_is : {X : Type 0} (xs : List X) (i : ℕ) (c x : X) → slice_get xs i ≡ Some c → x ≡ get_or xs i x → x ≡ c
item_is [] i c x at is = absurd (cc)
item_is (y ∷ ys) zero c x at is = cc
item_is (y ∷ ys) (suc i) c x at is = item_is ys i c x at is

pub item_there : {X : Type 0} (xs : List X) (i : ℕ) (x : X) → i < length xs → x ≡ get_or xs i x → slice_get xs i ≡ Some x
item_there [] i x within is = absurd (omega (arith, within))
item_there (y ∷ ys) zero x within is = ap Some (sym is)
item_there (y ∷ ys) (suc i) x within is = item_there ys i x (omega (arith, within)) is

-- the item of a vector of so many at a place within it, and its last one
module _ {X : Type 0} (xs : Vec X Global) (n : ℕ) (x : X) (many : n ≡ vec_len xs) where
  pub item_within : (i : ℕ) → i < n → x ≡ get_or xs.items i x → slice_get xs.items i ≡ Some x
  item_within i within is = let all = many ∙ xs.ok.0 in item_there xs.items i x (omega (arith, all, within)) is

  pub last_item : 0 < length xs.items → x ≡ get_or xs.items (n - 1) x → slice_get xs.items (length xs.items - 1) ≡ Some x
  last_item some is = item_there xs.items (length xs.items - 1) x (omega (arith, some)) (is ∙ ap (λ (k : ℕ). get_or xs.items (k - 1) x) (many ∙ xs.ok.0))

pub last_split : {X : Type 0} (xs : List X) (i : ℕ) (c : X) → slice_get xs i ≡ Some c → i + 1 ≡ length xs → xs ≡ take i xs ++ c ∷ []
last_split [] i c at all = absurd (cc)
last_split (x ∷ []) zero c at all = (let same : x ≡ c = cc in ap (λ (y : _). y ∷ []) same)
last_split (x ∷ y ∷ ys) zero c at all = absurd (omega arith)
last_split (x ∷ xs) (suc i) c at all = ap (λ (ys : List _). x ∷ ys) (last_split xs i c at (omega arith))

-- an item before the last
pub at_front : {X : Type 0} (xs : List X) (y : X) (i : ℕ) → i < length xs → slice_get (xs ++ y ∷ []) i ≡ slice_get xs i
at_front [] y i less = absurd (omega arith)
at_front (x ∷ xs) y zero less = refl
at_front (x ∷ xs) y (suc i) less = at_front xs y i (omega arith)

pub some_same : {X : Type 0} {x y : X} → Some x ≡ Some y → x ≡ y
some_same h = cc

among_end : {X : Type 0} (x : X) (xs : List X) (y : X) → Among x (xs ++ y ∷ []) → Among x xs ⊎ (x ≡ y)
among_end x [] y (inl e) = inr e
among_end x [] y (inr h) = absurd h
among_end x (z ∷ xs) y (inl e) = inl (inl e)
among_end x (z ∷ xs) y (inr h) = on_end (among_end x xs y h) where
  on_end : Among x xs ⊎ (x ≡ y) → Among x (z ∷ xs) ⊎ (x ≡ y)
  on_end (inl a) = inl (inr a)
  on_end (inr e) = inr e

-- the same is left, as clauses are left and calls stand for goals then
pub left_on : {W C : Type 0} {leaves leaves' : Leaving} {calls calls' : C → Tree → Type 0} (p : Present W) (a : Alternative) → KeepsLeft leaves leaves' → ((c : C) (t : Tree) → calls c t → calls' c t)
    → (x : Left W C) → HasLeft leaves calls p x a → HasLeft leaves' calls' p x a
left_on p a keeps on (left.Catching goal) has = record { holds = has.holds; three = has.three; is = has.is }
left_on p a keeps on (left.Gathering result gathered) has = record { holds = has.holds; is = has.is; fits = has.fits }
left_on p a keeps on (left.Grouping by pairs) has = record { witness = has.witness; result = has.result; is = has.is; fits = has.fits }
left_on p a keeps on (left.Groups by groups) has = record { witness = has.witness; result = has.result; is = has.is; each = has.each; some = has.some }
left_on p a keeps on (left.Offered goal offers) has = record { holds = has.holds; made = has.made; is = has.is; each = has.each; some = has.some }
left_on p a keeps on (left.Shown shown) has = record { head = has.head; body = has.body; key = has.key; key_is = has.key_is; user = has.user; clauses = has.clauses; is = has.is; are = keeps shown.clause shown.later has.clauses has.are }
left_on p a keeps on (left.Clauses attempt) has = record { call = has.call; clauses = has.clauses; is_for = on attempt.call has.call has.is_for; left = has.left; are = keeps attempt.clause attempt.later has.clauses has.are; enter = has.enter }
left_on p a keeps on x has = has

module _ {S L W M K P C N B O : Type 0} (l : Ghosts L S K P C N B O W M) where
  -- What is meant by a height is kept.
  abbrev pub KeepsWhat : (K → Type 0) → L → L → Type 0
  KeepsWhat meant old new = KeepsOf l.list l.call l.within l.cost l.pending meant old new

  pub keeps_none : (lists : L) → Keeps l lists lists
  keeps_none lists = record { stands = λ j m h. h; lists = λ p j i ms m w h. h; calls = λ p j c t m w h. h; costs = λ p j i ms m w h. refl; pendings = λ p j i ms m w h. refl }

  pub keeps_both : {one two three : L} → Keeps l one two → Keeps l two three → Keeps l one three
  keeps_both a b = record {
    stands = λ j m h. b.stands j tt (a.stands j tt h);
    lists = λ p j i ms m w h. b.lists p j i ms tt (a.stands j tt w) (a.lists p j i ms tt w h);
    calls = λ p j c t m w h. b.calls p j c t tt (a.stands j tt w) (a.calls p j c t tt w h);
    costs = λ p j i ms m w h. b.costs p j i ms tt (a.stands j tt w) (a.lists p j i ms tt w h) ∙ a.costs p j i ms tt w h;
    pendings = λ p j i ms m w h. b.pendings p j i ms tt (a.stands j tt w) (a.lists p j i ms tt w h) ∙ a.pendings p j i ms tt w h;
  }

  pub on_list : {p : Present W} {old new : L} {meant : K → Type 0} {j : K} {query : List W} {named : List ℕ} {place : P} {ms : List Member} {subst_at : _} {next : ℕ} → KeepsWhat meant old new → meant j → l.within old j → OnList l p old j query named place ms subst_at next → OnList l p new j query named place ms subst_at next
  on_list {p = p} {j = j} {place = place} {ms = ms} keeps below stood on = record { subst_is = on.subst_is; next_is = on.next_is; chain = keeps.lists p j place ms below stood on.chain; words = on.words }

  module _ {older : M → M → Type 0} {base : M} {query : List W} {named : List ℕ} {fitting : Present W → ℕ → Alternative → Type 0} where
    -- one choice still stands
    pub choice_on : {stands stands' : M → Present W → Type 0} {leaves leaves' : Leaving} {old new : L} {meant : K → Type 0} (c : kept.Choice W M K P C) (a : Alternative) → KeepsWhat meant old new → meant c.kept → l.within old c.kept → ((p : Present W) → stands c.mark p → stands' c.mark p) → KeepsLeft leaves leaves'
        → StandsForChoice l stands older base leaves query named fitting old c a → StandsForChoice l stands' older base leaves' query named fitting new c a
    choice_on c a keeps below stood marks stays here = record {
      present = here.present;
      mark = marks here.present here.mark;
      newer = here.newer;
      on = on_list keeps below stood here.on;
      has = left_on here.present a stays (λ x t is. keeps.calls here.present c.kept x t below stood is) c.left here.has;
      fits = subst (λ (n : ℕ). fitting here.present n a) (sym (keeps.pendings here.present c.kept c.rest a.list below stood here.on.chain)) here.fits;
    }

    -- choices whose marks, clauses and lists stand on
    pub choices_on : {stands stands' : M → Present W → Type 0} {leaves leaves' : Leaving} {old new : L} {meant : K → Type 0} {cs : List (kept.Choice W M K P C)} {ks : List Alternative} → KeepsWhat meant old new
        → ((d : kept.Choice W M K P C) → Among d cs → meant d.kept) → ((d : kept.Choice W M K P C) (p : Present W) → Among d cs → stands d.mark p → stands' d.mark p) → KeepsLeft leaves leaves'
        → StandsForChoices l stands older base leaves query named fitting old cs ks → StandsForChoices l stands' older base leaves' query named fitting new cs ks
    choices_on keeps each marks stays none_kept = none_kept
    choices_on {cs = cs} keeps each marks stays (one_kept {before = before} {c = c} {a = a} is on here newer below) =
        let there : Among c cs = subst (λ (ds : List (kept.Choice W M K P C)). Among c ds) (sym is) (among_last before c) in
        let front : (d : kept.Choice W M K P C) → Among d before → Among d cs = λ d among. subst (λ (ds : List (kept.Choice W M K P C)). Among d ds) (sym is) (among_front d before c among) in
        one_kept is (keeps.stands c.kept (each c there) on) (choice_on c a keeps (each c there) on (λ p stood. marks c p there stood) stays here) newer
        (choices_on keeps (λ d among. each d (front d among)) (λ d p among stood. marks d p (front d among) stood) stays below)

    -- as many choices
    pub choices_length : {stands : M → Present W → Type 0} {leaves : Leaving} {lists : L} {cs : List (kept.Choice W M K P C)} {ks : List Alternative} → StandsForChoices l stands older base leaves query named fitting lists cs ks → length cs ≡ length ks
    choices_length none_kept = refl
    choices_length (one_kept {before = before} {c = c} is on here newer below) = ap length is ∙ (length_last before c ∙ omega (arith, choices_length below))

    -- each choice's lists and mark stand
    pub each_stands : {stands : M → Present W → Type 0} {leaves : Leaving} {lists : L} {cs : List (kept.Choice W M K P C)} {ks : List Alternative} (d : kept.Choice W M K P C) → StandsForChoices l stands older base leaves query named fitting lists cs ks → Among d cs
        → l.within lists d.kept × ((p : Present W) × stands d.mark p)
    each_stands d none_kept among = absurd among
    each_stands {stands = stands} {lists = lists} d (one_kept {before = before} {c = c} is on here newer below) among =
        on_end (each_stands d below) (among_end d before c (subst (λ (ds : List (kept.Choice W M K P C)). Among d ds) is among)) where
          on_end : (Among d before → l.within lists d.kept × ((p : Present W) × stands d.mark p)) → Among d before ⊎ (d ≡ c) → l.within lists d.kept × ((p : Present W) × stands d.mark p)
          on_end each (inl a) = each a
          on_end each (inr e) = (subst (λ (x : kept.Choice W M K P C). l.within lists x.kept) (sym e) on, (here.present, subst (λ (x : kept.Choice W M K P C). stands x.mark here.present) (sym e) here.mark))

    newest_of : {stands : M → Present W → Type 0} {leaves : Leaving} {lists : L} {before : List (kept.Choice W M K P C)} {c : kept.Choice W M K P C} {a : Alternative} {ks : List Alternative}
        → l.within lists c.kept → StandsForChoice l stands older base leaves query named fitting lists c a → ((d : kept.Choice W M K P C) → Among d before → IsBelow l older d c)
        → StandsForChoices l stands older base leaves query named fitting lists before ks → Newest l stands older base leaves query named fitting lists (before ++ c ∷ []) c (a ∷ ks)
    newest_of {stands = stands} {leaves = leaves} {lists = lists} {before = before} {c = c} {a = a} {ks = ks} on here newer below =
        let place : length (before ++ c ∷ []) - 1 ≡ length before = omega (arith, length_last before c) in
        let front : take (length (before ++ c ∷ []) - 1) (before ++ c ∷ []) ≡ before = rw place (front_is before c) in
        record {
          alternative = a;
          others = ks;
          is = refl;
          within = on;
          here = here;
          newer = λ d among. newer d (subst (λ (ds : List (kept.Choice W M K P C)). Among d ds) front among);
          stands_below = subst (λ (ds : List (kept.Choice W M K P C)). StandsForChoices l stands older base leaves query named fitting lists ds ks) (sym front) below;
        }

    pub newest : {stands : M → Present W → Type 0} {leaves : Leaving} {lists : L} {cs : List (kept.Choice W M K P C)} {ks : List Alternative} (c : kept.Choice W M K P C)
        → slice_get cs (length cs - 1) ≡ Some c → StandsForChoices l stands older base leaves query named fitting lists cs ks → Newest l stands older base leaves query named fitting lists cs c ks
    newest c last none_kept = absurd (cc)
    newest {stands = stands} {leaves = leaves} {lists = lists} {cs = cs} c last (one_kept {before = before} {c = d} {a = a} {ks = ks} is on here newer below) =
        let place : length (before ++ d ∷ []) - 1 ≡ length before = omega (arith, length_last before d) in
        let there : slice_get (before ++ d ∷ []) (length (before ++ d ∷ []) - 1) ≡ Some c = subst (λ (ds : List (kept.Choice W M K P C)). slice_get ds (length ds - 1) ≡ Some c) is last in
        let same : d ≡ c = some_same (sym (last_is before d) ∙ (ap (slice_get (before ++ d ∷ [])) (sym place) ∙ there)) in
        subst (λ (e : kept.Choice W M K P C). Newest l stands older base leaves query named fitting lists cs e (a ∷ ks)) same
        (subst (λ (ds : List (kept.Choice W M K P C)). Newest l stands older base leaves query named fitting lists ds d (a ∷ ks)) (sym is) (newest_of on here newer below))

    -- a choice more, which keeps all that stands, newer than all others
    pub choices_push : {stands : M → Present W → Type 0} {leaves : Leaving} {lists : L} {cs : List (kept.Choice W M K P C)} {ks : List Alternative} (c : kept.Choice W M K P C) (a : Alternative) → l.within lists c.kept
        → ((k : K) → l.within lists k → l.below k c.kept) → StandsForChoice l stands older base leaves query named fitting lists c a → ((d : kept.Choice W M K P C) → Among d cs → older d.mark c.mark)
        → StandsForChoices l stands older base leaves query named fitting lists cs ks → StandsForChoices l stands older base leaves query named fitting lists (cs ++ c ∷ []) (a ∷ ks)
    choices_push c a on top here newer below = one_kept refl on here (λ d among. (newer d among, top d.kept (each_stands d below among).0)) below

    -- no choice
    pub no_choices : {stands : M → Present W → Type 0} {leaves : Leaving} {lists : L} {cs : List (kept.Choice W M K P C)} {ks : List Alternative} → cs ≡ []
        → StandsForChoices l stands older base leaves query named fitting lists cs ks → ks ≡ []
    no_choices e none_kept = refl
    no_choices {cs = cs} e (one_kept {before = before} {c = c} is on here newer below) =
        absurd (let n : length cs ≡ length before + 1 = ap length is ∙ length_last before c in let z : length cs ≡ 0 = ap length e in omega arith)

  -- ---- choices up to a height

  module _ (stands : M → Present W → Type 0) (older : M → M → Type 0) (base : M) (leaves : Leaving) (query : List W) (named : List ℕ) (fitting : Present W → ℕ → Alternative → Type 0) where
    -- What is left of choices where those above a height are taken away.
    pub record Lower (lists : L) (cs : List (kept.Choice W M K P C)) (ks : List Alternative) (height : ℕ) (c : kept.Choice W M K P C) : Type 0 where
      pub stand : StandsForChoices l stands older base leaves query named fitting lists (take height cs) (drop (length ks - height) ks)
      pub newer : (d : kept.Choice W M K P C) → Among d (take height cs) → IsBelow l older d c
      pub newer_base : older base c.mark
      pub present : Present W
      pub mark : stands c.mark present

  module _ {older : M → M → Type 0} {base : M} {leaves : Leaving} {query : List W} {named : List ℕ} {fitting : Present W → ℕ → Alternative → Type 0} where
    lower_by : {stands : M → Present W → Type 0} {lists : L} {before : List (kept.Choice W M K P C)} {ks : List Alternative} (height : ℕ) (c d : kept.Choice W M K P C) (a : Alternative)
        → StandsForChoice l stands older base leaves query named fitting lists d a → ((x : kept.Choice W M K P C) → Among x before → IsBelow l older x d)
        → StandsForChoices l stands older base leaves query named fitting lists before ks → slice_get (before ++ d ∷ []) height ≡ Some c
        → (height < length before → Lower stands older base leaves query named fitting lists before ks height c) → (height ≡ length before) ⊎ (height < length before) → Lower stands older base leaves query named fitting lists (before ++ d ∷ []) (a ∷ ks) height c
    lower_by {stands = stands} {lists = lists} {before = before} {ks = ks} height c d a here newer below there inner (inr less) =
        let o = inner less in
        let many = choices_length below in
        let front : take height before ≡ take height (before ++ d ∷ []) = sym (take-append-le height before (d ∷ []) (omega (arith, less))) in
        let back : suc (length ks - height) ≡ suc (length ks) - height = omega (arith, less, many) in
        record {
          stand = subst (λ (xs : List (kept.Choice W M K P C)). StandsForChoices l stands older base leaves query named fitting lists xs (drop (suc (length ks) - height) (a ∷ ks))) front
              (subst (λ (n : ℕ). StandsForChoices l stands older base leaves query named fitting lists (take height before) (drop n (a ∷ ks))) back o.stand);
          newer = λ x among. o.newer x (subst (λ (xs : List (kept.Choice W M K P C)). Among x xs) (sym front) among);
          newer_base = o.newer_base;
          present = o.present;
          mark = o.mark;
        }
    lower_by {stands = stands} {lists = lists} {before = before} {ks = ks} height c d a here newer below there inner (inl same) =
        let many = choices_length below in
        let front : before ≡ take height (before ++ d ∷ []) = sym (ap (λ (n : ℕ). take n (before ++ d ∷ [])) same ∙ front_is before d) in
        let back : suc 0 ≡ suc (length ks) - height = omega (arith, same, many) in
        let is : d ≡ c = some_same (sym (last_is before d) ∙ (ap (slice_get (before ++ d ∷ [])) (sym same) ∙ there)) in
        record {
          stand = subst (λ (xs : List (kept.Choice W M K P C)). StandsForChoices l stands older base leaves query named fitting lists xs (drop (suc (length ks) - height) (a ∷ ks))) front
              (subst (λ (n : ℕ). StandsForChoices l stands older base leaves query named fitting lists before (drop n (a ∷ ks))) back below);
          newer = λ x among. subst (λ (y : kept.Choice W M K P C). IsBelow l older x y) is (newer x (subst (λ (xs : List (kept.Choice W M K P C)). Among x xs) (sym front) among));
          newer_base = subst (λ (y : kept.Choice W M K P C). older base y.mark) is here.newer;
          present = here.present;
          mark = subst (λ (y : kept.Choice W M K P C). stands y.mark here.present) is here.mark;
        }

    pub lower : {stands : M → Present W → Type 0} {lists : L} {cs : List (kept.Choice W M K P C)} {ks : List Alternative} (height : ℕ) (c : kept.Choice W M K P C) → slice_get cs height ≡ Some c
        → StandsForChoices l stands older base leaves query named fitting lists cs ks → Lower stands older base leaves query named fitting lists cs ks height c
    lower height c at none_kept = absurd (cc)
    lower {stands = stands} {lists = lists} {cs = cs} height c at (one_kept {before = before} {c = d} {a = a} {ks = ks} is on here newer below) =
        let there : slice_get (before ++ d ∷ []) height ≡ Some c = subst (λ (ds : List (kept.Choice W M K P C)). slice_get ds height ≡ Some c) is at in
        let within = slice_get_within (before ++ d ∷ []) height c there in
        let long = length_last before d in
        let shorter : (height < length before) → slice_get before height ≡ Some c = λ less. sym (at_front before d height less) ∙ there in
        subst (λ (ds : List (kept.Choice W M K P C)). Lower stands older base leaves query named fitting lists ds (a ∷ ks) height c) (sym is)
        (lower_by height c d a here newer below there (λ less. lower height c (shorter less) below) (eq-or-lt_of_le (omega (arith, within, long))))
