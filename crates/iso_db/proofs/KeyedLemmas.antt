-- Views by key: how they begin, and one step.
use Rattle.std.proofs.Common.{◌≡◌, ◌||◌, ℕ, zero, suc, ◌<◌, ◌≤◌, ◌+◌, ◌-◌, Bool, true, false, List, [], ◌∷◌, cond, filter, Option, Some, None, is_some, refl, sym, ap, ◌∙◌, subst, arith, true≢false, if◌then◌else◌}
use Rattle.std.specs.List.{slice_get}
use Rattle.std.specs.Option.{IfSome}
use Rattle.std.proofs.lemmas.Option.{none-some, same_Some}
use Rattle.iso_clauses.specs.Blocks.{Kept}
use Rattle.iso_clauses.specs.Clauses.{Clause}
use Rattle.iso_clauses.specs.Orders.{comes_before, is_before, placed, merged}
use Rattle.iso_clauses.specs.Slots.{value_at, key_at, is_front}
use Rattle.iso_clauses.specs.Stepping.{first_number, behind}
use Rattle.iso_clauses.specs.Fits.{fits}
use Rattle.iso_clauses.specs.Kept.{pending, Giving}
use Rattle.iso_db.specs.Keyed.{usable, Offers, Leads, TellsSides, GivingKeyed, is_own_first, ahead, remaining_keyed}
use Rattle.iso_db.specs.declared.keyed.Ahead.{Ahead}
use Rattle.iso_db.specs.declared.keyed.KeyedView.{KeyedView}
use Rattle.iso_clauses.specs.declared.keys.FirstKey.{FirstKey}
use Rattle.iso_clauses.specs.declared.slots.Slot.{Slot}
use Rattle.iso_clauses.specs.declared.views.View.{View}
use Rattle.iso_clauses.proofs.ViewLemmas.{given-stand}
use Rattle.iso_clauses.proofs.OrderLemmas.{AreInOrder, numbers, merged_filters}

-- where nothing remains, neither view has a clause ahead
none_own : (o : Option ℕ) (m n : ℕ) → (ahead o + m) + n ≡ 0 → o ≡ None
none_own None m n is = refl
none_own (Some k) m n is = absurd (omega (arith, is))

none_any : (o : Option ℕ) (m n : ℕ) → m + (ahead o + n) ≡ 0 → o ≡ None
none_any None m n is = refl
none_any (Some k) m n is = absurd (omega (arith, is))

module _ {C : Type 0} where
  pub behind_stand : (slots : List (Slot C)) (cs : List (Clause C)) → ((k : ℕ) (c : Clause C) → slice_get cs k ≡ Some c → value_at slots c.number ≡ Some c.value)
      → (k : ℕ) (c : Clause C) → slice_get (behind cs) k ≡ Some c → value_at slots c.number ≡ Some c.value
  behind_stand slots [] stand k c at = stand k c at
  behind_stand slots (d ∷ ds) stand k c at = stand (suc k) c at

  behind_sides : (slots : List (Slot C)) (front : ℕ → Bool) (cs : List (Clause C)) → TellsSides slots front cs → TellsSides slots front (behind cs)
  behind_sides slots front [] tells k c at = tells k c at
  behind_sides slots front (d ∷ ds) tells k c at = tells (suc k) c at

  -- where no clause is ahead, none is left
  pub leads_ended : (slots : List (Slot C)) (r : ℕ) (lists : List Kept) (key : Option FirstKey) (a : Ahead) (cs : List (Clause C)) → is_some a.next ≡ false → Leads slots r lists key a cs → Leads slots r lists key a (behind cs)
  leads_ended slots r lists key a [] none leads = leads
  leads_ended slots r lists key a (c ∷ cs) none leads = absurd (true≢false (sym (ap is_some leads.first) ∙ none))

  -- nothing is left of no clauses
  pub leads_nothing : (slots : List (Slot C)) (r : ℕ) (lists : List Kept) (key : Option FirstKey) (a : Ahead) → a.next ≡ None → Leads slots r lists key a []
  leads_nothing slots r lists key a none = record {
    first = none;
    rest = λ h. absurd (true≢false (sym h ∙ ap is_some none));
    stand = λ k c at. absurd (none-some c at);
  }

  -- a view that gives nothing gives no clauses, whatever the database
  pub spent_gives : (slots : List (Slot C)) (r : ℕ) (entries lists : List Kept) (v : KeyedView) (cs : List (Clause C)) → remaining_keyed v ≡ 0 → is_some (first_number cs) ≡ false → GivingKeyed slots r entries lists v cs
  spent_gives slots r entries lists v [] spent none = record {
    own_clauses = [];
    any_clauses = [];
    front = λ n. false;
    own = leads_nothing slots r (if v.whole then entries else lists) v.key v.own (none_own v.own.next (v.own.rest.end - v.own.rest.next) (ahead v.any.next + (v.any.rest.end - v.any.rest.next)) spent);
    any = leads_nothing slots r lists None v.any (none_any v.any.next (ahead v.own.next + (v.own.rest.end - v.own.rest.next)) (v.any.rest.end - v.any.rest.next) spent);
    own_sides = λ k c at. absurd (none-some c at);
    any_sides = λ k c at. absurd (none-some c at);
    merges = refl;
  }
  spent_gives slots r entries lists v (c ∷ cs) spent none = absurd (true≢false none)

  -- behind no clause there is none
  pub none_behind : (cs : List (Clause C)) → is_some (first_number cs) ≡ false → is_some (first_number (behind cs)) ≡ false
  none_behind [] none = refl
  none_behind (c ∷ cs) none = absurd (true≢false none)

  -- where there is no first clause, its number is none
  pub none_first : (cs : List (Clause C)) → is_some (first_number cs) ≡ false → None ≡ first_number cs
  none_first [] none = refl
  none_first (c ∷ cs) none = absurd (true≢false none)

  -- the next clause is one with the key of the call, or one without
  own_told : (slots : List (Slot C)) (r : ℕ) (entries lists : List Kept) (v : KeyedView) (cs : List (Clause C)) (g : GivingKeyed slots r entries lists v cs) → is_own_first (is_front slots) v.own.next v.any.next ≡ true
      → (v.own.next ≡ first_number cs) × (merged g.front (behind g.own_clauses) g.any_clauses ≡ behind cs)
  own_told slots r entries lists v cs g told = by g.own_clauses g.any_clauses g.own.first g.any.first g.own_sides g.any_sides g.merges
    where
      end : (zs : List (Clause C)) → merged g.front zs [] ≡ zs
      end [] = refl
      end (z ∷ zs) = refl

      by : (xs ys : List (Clause C)) → v.own.next ≡ first_number xs → v.any.next ≡ first_number ys → TellsSides slots g.front xs → TellsSides slots g.front ys → merged g.front xs ys ≡ cs
          → (v.own.next ≡ first_number cs) × (merged g.front (behind xs) ys ≡ behind cs)
      by [] ys own any left right is = absurd (true≢false (sym told ∙ ap (λ o. is_own_first (is_front slots) o v.any.next) own))
      by (x ∷ xs) [] own any left right is = (own ∙ ap first_number is, end xs ∙ ap behind is)
      by (x ∷ xs) (y ∷ ys) own any left right is =
          let first : is_before g.front x.number y.number ≡ true =
          ap (λ a. comes_before x.number a y.number (g.front y.number)) (sym (left 0 x refl))
          ∙ ap (λ b. comes_before x.number (is_front slots x.number) y.number b) (sym (right 0 y refl))
          ∙ ap (λ o. is_own_first (is_front slots) o (Some y.number)) (sym own) ∙ ap (is_own_first (is_front slots) v.own.next) (sym any) ∙ told in
          let is_x : merged g.front (x ∷ xs) (y ∷ ys) ≡ x ∷ merged g.front xs (y ∷ ys) =
          ap (λ b. if b then x ∷ merged g.front xs (y ∷ ys) else y ∷ placed g.front x (merged g.front xs) (x ∷ xs) ys) first in
          (own ∙ ap first_number (sym is_x ∙ is), ap behind (sym is_x ∙ is))

  any_told : (slots : List (Slot C)) (r : ℕ) (entries lists : List Kept) (v : KeyedView) (cs : List (Clause C)) (g : GivingKeyed slots r entries lists v cs) → is_own_first (is_front slots) v.own.next v.any.next ≡ false
      → (v.any.next ≡ first_number cs) × (merged g.front g.own_clauses (behind g.any_clauses) ≡ behind cs)
  any_told slots r entries lists v cs g told = by g.own_clauses g.any_clauses g.own.first g.any.first g.own_sides g.any_sides g.merges
    where
      by : (xs ys : List (Clause C)) → v.own.next ≡ first_number xs → v.any.next ≡ first_number ys → TellsSides slots g.front xs → TellsSides slots g.front ys → merged g.front xs ys ≡ cs
          → (v.any.next ≡ first_number cs) × (merged g.front xs (behind ys) ≡ behind cs)
      by [] ys own any left right is = (any ∙ ap first_number is, ap behind is)
      by (x ∷ xs) [] own any left right is = absurd (true≢false (ap (λ o. is_own_first (is_front slots) o None) (sym own) ∙ ap (is_own_first (is_front slots) v.own.next) (sym any) ∙ told))
      by (x ∷ xs) (y ∷ ys) own any left right is =
          let second : is_before g.front x.number y.number ≡ false =
          ap (λ a. comes_before x.number a y.number (g.front y.number)) (sym (left 0 x refl))
          ∙ ap (λ b. comes_before x.number (is_front slots x.number) y.number b) (sym (right 0 y refl))
          ∙ ap (λ o. is_own_first (is_front slots) o (Some y.number)) (sym own) ∙ ap (is_own_first (is_front slots) v.own.next) (sym any) ∙ told in
          let is_y : merged g.front (x ∷ xs) (y ∷ ys) ≡ y ∷ placed g.front x (merged g.front xs) (x ∷ xs) ys =
          ap (λ b. if b then x ∷ merged g.front xs (y ∷ ys) else y ∷ placed g.front x (merged g.front xs) (x ∷ xs) ys) second in
          (any ∙ ap first_number (sym is_y ∙ is), ap behind (sym is_y ∙ is))

  -- the number that is given
  pub own_first : (slots : List (Slot C)) (r : ℕ) (entries lists : List Kept) (v : KeyedView) (cs : List (Clause C)) → is_own_first (is_front slots) v.own.next v.any.next ≡ true → GivingKeyed slots r entries lists v cs → v.own.next ≡ first_number cs
  own_first slots r entries lists v cs told g = (own_told slots r entries lists v cs g told).0

  pub any_first : (slots : List (Slot C)) (r : ℕ) (entries lists : List Kept) (v : KeyedView) (cs : List (Clause C)) → is_own_first (is_front slots) v.own.next v.any.next ≡ false → GivingKeyed slots r entries lists v cs → v.any.next ≡ first_number cs
  any_first slots r entries lists v cs told g = (any_told slots r entries lists v cs g told).0

  -- the view behind it
  pub own_taken : (slots : List (Slot C)) (r : ℕ) (entries lists : List Kept) (v : KeyedView) (cs : List (Clause C)) (a : Ahead) → is_own_first (is_front slots) v.own.next v.any.next ≡ true
      → ((ds : List (Clause C)) → Leads slots r (if v.whole then entries else lists) v.key v.own ds → Leads slots r (if v.whole then entries else lists) v.key a (behind ds)) → GivingKeyed slots r entries lists v cs → GivingKeyed slots r entries lists (record v { own = a }) (behind cs)
  own_taken slots r entries lists v cs a told rest g = record {
    own_clauses = behind g.own_clauses;
    any_clauses = g.any_clauses;
    front = g.front;
    own = rest g.own_clauses g.own;
    any = g.any;
    own_sides = behind_sides slots g.front g.own_clauses g.own_sides;
    any_sides = g.any_sides;
    merges = (own_told slots r entries lists v cs g told).1;
  }

  pub any_taken : (slots : List (Slot C)) (r : ℕ) (entries lists : List Kept) (v : KeyedView) (cs : List (Clause C)) (a : Ahead) → is_own_first (is_front slots) v.own.next v.any.next ≡ false
      → ((ds : List (Clause C)) → Leads slots r lists None v.any ds → Leads slots r lists None a (behind ds)) → GivingKeyed slots r entries lists v cs → GivingKeyed slots r entries lists (record v { any = a }) (behind cs)
  any_taken slots r entries lists v cs a told rest g = record {
    own_clauses = g.own_clauses;
    any_clauses = behind g.any_clauses;
    front = g.front;
    own = g.own;
    any = rest g.any_clauses g.any;
    own_sides = g.own_sides;
    any_sides = behind_sides slots g.front g.any_clauses g.any_sides;
    merges = (any_told slots r entries lists v cs g told).1;
  }

  -- a clause that was taken ahead can be read
  pub ahead_there : (slots : List (Slot C)) (r : ℕ) (lists : List Kept) (key : Option FirstKey) (a : Ahead) (cs : List (Clause C)) → Leads slots r lists key a cs → IfSome a.next (λ n. (value : C) × (value_at slots n ≡ Some value))
  ahead_there slots r lists key a cs leads = by cs a.next leads.first leads.stand
    where
      by : (ds : List (Clause C)) (o : Option ℕ) → o ≡ first_number ds → ((k : ℕ) (c : Clause C) → slice_get ds k ≡ Some c → value_at slots c.number ≡ Some c.value) → IfSome o (λ n. (value : C) × (value_at slots n ≡ Some value))
      by ds None is stand = tt
      by [] (Some n) is stand = absurd (none-some n (sym is))
      by (d ∷ ds) (Some n) is stand = (d.value, ap (value_at slots) (same_Some n d.number is) ∙ stand 0 d refl)

  -- whether a clause is left
  pub some_left : (slots : List (Slot C)) (r : ℕ) (entries lists : List Kept) (v : KeyedView) (cs : List (Clause C)) → GivingKeyed slots r entries lists v cs → (is_some v.own.next || is_some v.any.next) ≡ is_some (first_number cs)
  some_left slots r entries lists v cs g =
      ap (λ o. is_some o || is_some v.any.next) g.own.first ∙ ap (λ o. is_some (first_number g.own_clauses) || is_some o) g.any.first
      ∙ by g.own_clauses g.any_clauses ∙ ap (λ ds. is_some (first_number ds)) g.merges
    where
      by : (xs ys : List (Clause C)) → (is_some (first_number xs) || is_some (first_number ys)) ≡ is_some (first_number (merged g.front xs ys))
      by [] ys = refl
      by (x ∷ xs) [] = refl
      by (x ∷ xs) (y ∷ ys) = either (is_before g.front x.number y.number)
        where
          either : (b : Bool) → true ≡ is_some (first_number (if b then x ∷ merged g.front xs (y ∷ ys) else y ∷ placed g.front x (merged g.front xs) (x ∷ xs) ys))
          either true = refl
          either false = refl

  -- each of these clauses can be read
  abbrev pub AllStand : List (Slot C) → List (Clause C) → Type 0
  AllStand slots cs = (k : ℕ) (c : Clause C) → slice_get cs k ≡ Some c → value_at slots c.number ≡ Some c.value

  placed_stand : (slots : List (Slot C)) (front : ℕ → Bool) (x : Clause C) (rest : List (Clause C) → List (Clause C)) (whole ys : List (Clause C)) → AllStand slots whole → ((zs : List (Clause C)) → AllStand slots zs → AllStand slots (rest zs))
      → value_at slots x.number ≡ Some x.value → AllStand slots ys → AllStand slots (placed front x rest whole ys)
  placed_stand slots front x rest whole [] all others one stand = all
  placed_stand slots front x rest whole (y ∷ ys) all others one stand =
      by (is_before front x.number y.number) (placed_stand slots front x rest whole ys all others one (λ k c at. stand (suc k) c at))
    where
      by : (b : Bool) → AllStand slots (placed front x rest whole ys) → AllStand slots (if b then x ∷ rest (y ∷ ys) else y ∷ placed front x rest whole ys)
      by true later zero c at = subst (λ (d : Clause C). value_at slots d.number ≡ Some d.value) (same_Some x c at) one
      by true later (suc k) c at = others (y ∷ ys) stand k c at
      by false later zero c at = stand 0 c at
      by false later (suc k) c at = later k c at

  merged_stand : (slots : List (Slot C)) (front : ℕ → Bool) (xs ys : List (Clause C)) → AllStand slots xs → AllStand slots ys → AllStand slots (merged front xs ys)
  merged_stand slots front [] ys left right = right
  merged_stand slots front (x ∷ xs) ys left right =
      placed_stand slots front x (merged front xs) (x ∷ xs) ys left (λ zs stand. merged_stand slots front xs zs (λ k c at. left (suc k) c at) stand) (left 0 x refl) right

  pub keyed_stand : (slots : List (Slot C)) (r : ℕ) (entries lists : List Kept) (v : KeyedView) (cs : List (Clause C)) → GivingKeyed slots r entries lists v cs → AllStand slots cs
  keyed_stand slots r entries lists v cs g k c at =
      merged_stand slots g.front g.own_clauses g.any_clauses g.own.stand g.any.stand k c (ap (λ ds. slice_get ds k) g.merges ∙ at)

  tells_own : (slots : List (Slot C)) (cs : List (Clause C)) → TellsSides slots (is_front slots) cs
  tells_own slots cs k c at = refl

  -- a view of two parts begins
  pub parts_begun : (slots : List (Slot C)) (r : ℕ) (entries lists : List Kept) (v : KeyedView) (p q : Clause C → Bool) (cs : List (Clause C)) → v.whole ≡ false → v.key ≡ None → ((c : Clause C) → p c ≡ true → q c ≡ true → ⊥)
      → AreInOrder (is_front slots) (numbers cs) → Leads slots r lists None v.own (filter p cs) → Leads slots r lists None v.any (filter q cs) → GivingKeyed slots r entries lists v (filter (λ c. p c || q c) cs)
  parts_begun slots r entries lists v p q cs part none apart order own any = record {
    own_clauses = filter p cs;
    any_clauses = filter q cs;
    front = is_front slots;
    own = subst (λ b. Leads slots r (if b then entries else lists) v.key v.own (filter p cs)) (sym part) (subst (λ k. Leads slots r lists k v.own (filter p cs)) (sym none) own);
    any = any;
    own_sides = tells_own slots (filter p cs);
    any_sides = tells_own slots (filter q cs);
    merges = merged_filters (is_front slots) p q cs apart order;
  }

  -- a view of a whole procedure begins
  pub whole_begun : (slots : List (Slot C)) (r : ℕ) (entries lists : List Kept) (v : KeyedView) (cs : List (Clause C)) → v.whole ≡ true → Leads slots r entries v.key v.own cs → v.any.next ≡ None → GivingKeyed slots r entries lists v cs
  whole_begun slots r entries lists v cs whole own none = record {
    own_clauses = cs;
    any_clauses = [];
    front = is_front slots;
    own = subst (λ b. Leads slots r (if b then entries else lists) v.key v.own cs) (sym whole) own;
    any = leads_nothing slots r lists None v.any none;
    own_sides = tells_own slots cs;
    any_sides = tells_own slots [];
    merges = end cs;
  }
    where
      end : (zs : List (Clause C)) → merged (is_front slots) zs [] ≡ zs
      end [] = refl
      end (z ∷ zs) = refl

  -- nothing is passed over where a call has no key
  pub all_usable : (slots : List (Slot C)) (cs : List (Clause C)) → usable slots None cs ≡ cs
  all_usable slots [] = refl
  all_usable slots (c ∷ cs) = ap (λ ds. c ∷ ds) (all_usable slots cs)

  -- of what a view offers, each clause can be read
  filter_each : (slots : List (Slot C)) (p : Clause C → Bool) (cs : List (Clause C)) → ((k : ℕ) (c : Clause C) → slice_get cs k ≡ Some c → value_at slots c.number ≡ Some c.value)
      → (k : ℕ) (c : Clause C) → slice_get (filter p cs) k ≡ Some c → value_at slots c.number ≡ Some c.value
  filter_each slots p [] stand k c at = stand k c at
  filter_each slots p (d ∷ ds) stand k c at = by (p d) k c at (filter_each slots p ds (λ j e. stand (suc j) e))
    where
      by : (b : Bool) (j : ℕ) (e : Clause C) → slice_get (cond b (d ∷ filter p ds) (filter p ds)) j ≡ Some e → ((i : ℕ) (x : Clause C) → slice_get (filter p ds) i ≡ Some x → value_at slots x.number ≡ Some x.value) → value_at slots e.number ≡ Some e.value
      by true zero e here rest = stand 0 e here
      by true (suc j) e here rest = rest j e here
      by false j e here rest = rest j e here

  pub gives_stand : (slots : List (Slot C)) (r : ℕ) (lists : List Kept) (v : View) (cs : List (Clause C)) → Giving slots r lists v cs → (k : ℕ) (c : Clause C) → slice_get cs k ≡ Some c → value_at slots c.number ≡ Some c.value
  gives_stand slots r lists v cs gives k c at = given-stand slots v.made (pending lists v) k c (ap (λ ds. slice_get ds k) gives.clauses ∙ at)

  pub offers_stand : (slots : List (Slot C)) (r : ℕ) (lists : List Kept) (key : Option FirstKey) (v : View) (cs : List (Clause C)) → Offers slots r lists key v cs
      → (k : ℕ) (c : Clause C) → slice_get cs k ≡ Some c → value_at slots c.number ≡ Some c.value
  offers_stand slots r lists key v cs offers k c at =
      filter_each slots (λ d. fits key (key_at slots d.number)) offers.all (gives_stand slots r lists v offers.all offers.gives) k c (ap (λ ds. slice_get ds k) offers.are ∙ at)

  -- a clause that the call can't use is passed over
  pub usable_passed : (slots : List (Slot C)) (key : Option FirstKey) (n : ℕ) (ds : List (Clause C)) → Some n ≡ first_number ds → fits key (key_at slots n) ≡ false → usable slots key (behind ds) ≡ usable slots key ds
  usable_passed slots key n [] is not_fit = absurd (none-some n (sym is))
  usable_passed slots key n (d ∷ ds) is not_fit = sym (ap (λ b. cond b (d ∷ usable slots key ds) (usable slots key ds)) (ap (λ m. fits key (key_at slots m)) (sym (same_Some n d.number is)) ∙ not_fit))

  pub offers_passed : (slots : List (Slot C)) (r : ℕ) (lists : List Kept) (key : Option FirstKey) (v w : View) (cs : List (Clause C)) (n : ℕ) → ((ds : List (Clause C)) → Giving slots r lists v ds → Some n ≡ first_number ds)
      → ((ds : List (Clause C)) → Giving slots r lists v ds → Giving slots r lists w (behind ds)) → fits key (key_at slots n) ≡ false → Offers slots r lists key v cs → Offers slots r lists key w cs
  offers_passed slots r lists key v w cs n first rest not_fit offers = record {
    all = behind offers.all;
    gives = rest offers.all offers.gives;
    are = usable_passed slots key n offers.all (first offers.all offers.gives) not_fit ∙ offers.are;
  }

  -- one that it can use is taken
  pub usable_taken : (slots : List (Slot C)) (key : Option FirstKey) (n : ℕ) (ds : List (Clause C)) → Some n ≡ first_number ds → fits key (key_at slots n) ≡ true → (Some n ≡ first_number (usable slots key ds)) × (usable slots key (behind ds) ≡ behind (usable slots key ds))
  usable_taken slots key n [] is fit = absurd (none-some n (sym is))
  usable_taken slots key n (d ∷ ds) is fit =
      let used : usable slots key (d ∷ ds) ≡ d ∷ usable slots key ds =
      ap (λ b. cond b (d ∷ usable slots key ds) (usable slots key ds)) (ap (λ m. fits key (key_at slots m)) (sym (same_Some n d.number is)) ∙ fit) in
      (is ∙ sym (ap first_number used), sym (ap behind used))

  pub offers_first : (slots : List (Slot C)) (r : ℕ) (lists : List Kept) (key : Option FirstKey) (v : View) (cs : List (Clause C)) (n : ℕ) → ((ds : List (Clause C)) → Giving slots r lists v ds → Some n ≡ first_number ds)
      → fits key (key_at slots n) ≡ true → Offers slots r lists key v cs → Some n ≡ first_number cs
  offers_first slots r lists key v cs n first fit offers = (usable_taken slots key n offers.all (first offers.all offers.gives) fit).0 ∙ ap first_number offers.are

  pub offers_taken : (slots : List (Slot C)) (r : ℕ) (lists : List Kept) (key : Option FirstKey) (v w : View) (cs : List (Clause C)) (n : ℕ) → ((ds : List (Clause C)) → Giving slots r lists v ds → Some n ≡ first_number ds)
      → ((ds : List (Clause C)) → Giving slots r lists v ds → Giving slots r lists w (behind ds)) → fits key (key_at slots n) ≡ true → Offers slots r lists key v cs → Offers slots r lists key w (behind cs)
  offers_taken slots r lists key v w cs n first rest fit offers = record {
    all = behind offers.all;
    gives = rest offers.all offers.gives;
    are = (usable_taken slots key n offers.all (first offers.all offers.gives) fit).1 ∙ ap behind offers.are;
  }

  -- where a view gives nothing, it offers nothing
  pub offers_ended : (slots : List (Slot C)) (r : ℕ) (lists : List Kept) (key : Option FirstKey) (v : View) (cs : List (Clause C)) → ((ds : List (Clause C)) → Giving slots r lists v ds → None ≡ first_number ds)
      → Offers slots r lists key v cs → None ≡ first_number cs
  offers_ended slots r lists key v cs first offers = by offers.all (first offers.all offers.gives) ∙ ap first_number offers.are
    where
      by : (ds : List (Clause C)) → None ≡ first_number ds → None ≡ first_number (usable slots key ds)
      by [] is = refl
      by (d ∷ ds) is = absurd (none-some d.number is)

-- a step takes one clause
pub ahead_falls : (n m : Option ℕ) (before after : ℕ) → is_some n ≡ true → IfSome m (λ k. after < before) → after ≤ before → ahead m + after < ahead n + before
ahead_falls None m before after some falls kept = absurd (true≢false (sym some))
ahead_falls (Some n) None before after some falls kept = omega (arith, kept)
ahead_falls (Some n) (Some m) before after some falls kept = omega (arith, falls)
