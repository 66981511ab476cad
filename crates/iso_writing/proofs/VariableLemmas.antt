-- Words that come, and variables that are met for the first time, keep what a store stands for.
use Rattle.std.proofs.Common.{◌≡◌, ◌≢◌, ◌+◌, ◌<◌, ◌≤◌, ◌==◌, ◌++◌, ℕ, Bool, true, false, List, [], ◌∷◌, length, take, drop, get_or, slice_get, slice_set, inl, inr, refl, sym, ap, ap₂, subst, ◌∙◌, arith, if◌then◌else◌}
use Rattle.std.proofs.lemmas.List.{length-set, take_more, drop_more, take-append-drop, append-nil}
use Rattle.std.proofs.lemmas.Bool.{false≢true, cases_eq, cases_Bool, eq-eqb, ne_eqb}
use Rattle.iso_model.specs.Terms.Trees.{Variable}
use Rattle.iso_model.specs.Terms.Substitutions.{apply}
use Rattle.iso_store_core.specs.Presents.{Present, Makes, TakesNumber, Untouched, Grows, meaning}
use Rattle.iso_compile.specs.CodeLaws.{State}
use Rattle.iso_code.specs.declared.operands.Block.{Block}
use Rattle.iso_code.specs.Loaded.{all_operands, AreMarked, met_after, met_behind}
use Rattle.iso_code.specs.Standing.{At, Steps, Free, Files, Setting, Stands}
use Rattle.iso_code.specs.declared.operands.Operand.{Operand}
use Rattle.iso_code.specs.declared.operands.Operand.TheVariants.{New, Old, Integer, Atom, Inner}
use Rattle.iso_writing.specs.Pushing.{news}
use Rattle.iso_writing.specs.Writing.{Adds, Widens, TakesMet, MakesVariables}
use Rattle.iso_code.specs.Standing.{files}
use Rattle.iso_store_core.proofs.RetainLemmas.{grows_on, grows_most}
use Rattle.iso_code.proofs.UnifierLemmas.{keeps_on, kept_steps, variable_made}
use Rattle.iso_code.proofs.StandLemmas.{got_set, got_other, some_word, known_on}
use Rattle.iso_code.proofs.MarkLemmas.{behind_both, marked_both, operands_both}

-- ---- parts of a list

-- the element at a place, behind those before it and before those behind it
pub next_taken : {A : Type 0} (xs : List A) (i : ℕ) (x : A) → i < length xs → x ≡ get_or xs i x → take (i + 1) xs ≡ take i xs ++ x ∷ []
next_taken xs i x inside is = take_more xs i x inside ∙ ap (λ y. take i xs ++ y ∷ []) (sym is)

pub next_parted : {A : Type 0} (xs : List A) (i : ℕ) (x : A) → i < length xs → x ≡ get_or xs i x → xs ≡ take i xs ++ (x ∷ drop (i + 1) xs)
next_parted xs i x inside is = sym (take-append-drop i xs) ∙ ap (λ ys. take i xs ++ ys) (drop_more xs i x inside ∙ ap (λ y. y ∷ drop (i + 1) xs) (sym is))

-- ---- what was met

-- a variable that was met stays so
pub met_stays : (met : ℕ → Bool) (operands : List Operand) (x : ℕ) → met x ≡ true → met_behind met operands x ≡ true
met_stays met [] x h = h
met_stays met (operand ∷ operands) x h = met_stays (met_after met operand) operands x (after operand)
  where
    after : (operand : Operand) → met_after met operand x ≡ true
    after (New y) = elim (x == y) as (λ b. (if b then true else met x) ≡ true) [ true ↦ refl | false ↦ h ]
    after (Old y) = h
    after (Integer z) = h
    after (Atom a) = h
    after (Inner k) = h

-- so one that isn't met behind them wasn't met before them
pub unmet_before : (met : ℕ → Bool) (operands : List Operand) (x : ℕ) → met_behind met operands x ≡ false → met x ≡ false
unmet_before met operands x h = elim (cases_Bool (met x)) [
  | inl there ↦ absurd (false≢true (sym h ∙ met_stays met operands x there))
  | inr none ↦ none
]

-- the variables that are new in two lists
pub news_both : (xs ys : List Operand) → news (xs ++ ys) ≡ news xs + news ys
news_both [] ys = omega arith
news_both (New x ∷ xs) ys = let rest = news_both xs ys in omega (arith, rest)
news_both (Old x ∷ xs) ys = news_both xs ys
news_both (Integer z ∷ xs) ys = news_both xs ys
news_both (Atom a ∷ xs) ys = news_both xs ys
news_both (Inner k ∷ xs) ys = news_both xs ys

module _ (blocks : List Block) (i : ℕ) (block : Block) (inside : i < length blocks) (is : block ≡ get_or blocks i block) where
  -- the operands of one more block
  pub operands_taken : all_operands (take (i + 1) blocks) ≡ all_operands (take i blocks) ++ block.operands.items
  operands_taken =
      ap all_operands (next_taken blocks i block inside is) ∙ operands_both (take i blocks) (block ∷ [])
      ∙ ap (λ zs. all_operands (take i blocks) ++ zs) (append-nil block.operands.items)

  -- those before the block, those of it, and those behind it
  pub operands_parted : all_operands blocks ≡ all_operands (take i blocks) ++ (block.operands.items ++ all_operands (drop (i + 1) blocks))
  operands_parted = ap all_operands (next_parted blocks i block inside is) ∙ operands_both (take i blocks) (block ∷ drop (i + 1) blocks)

-- ---- words that come

module _ {W : Type 0} {p q : Present W} where
  -- the store stands for the same state where only words came
  pub adds_stands : {f : Files W} {t : Setting} {met : ℕ → Bool} {state : State} → Adds p q → Stands p f t met state → Stands q f t met state
  adds_stands {f} {t} {met} {state} adds stands =
      let steps : Steps p state.subst q state.subst = kept_steps p q state.subst adds.words adds.substitution in
      record {
        substitution = stands.substitution;
        known = known_on p q state.subst state.subst t.first t.low met f.environment f.compounds state.registers steps stands.known;
        arguments = λ r w there. steps w (state.registers r) (stands.arguments r w there);
        free = λ x low none. (let was = stands.free x low none in record { taken = adds.numbers.taken (t.first + x) ∙ was.taken; alone = was.alone });
        reserved = subst (λ n. t.first + t.count ≤ n) (sym adds.numbers.next) stands.reserved;
        room = stands.room;
        apart = stands.apart;
      }

  -- and no number was taken
  pub adds_takes : (first : ℕ) (met : ℕ → Bool) → Adds p q → TakesMet p q first met met
  adds_takes first met adds n there = inl (sym (adds.numbers.taken n) ∙ there)

  -- so it is for variables
  pub adds_widens : Adds p q → Widens p q
  adds_widens adds = record { words = adds.words; substitution = adds.substitution; next = adds.numbers.next }

-- an operand that is no new variable, where words came
pub adds_makes : {W : Type 0} {p q : Present W} (operand : Operand) (first : ℕ) (environment : List W) → ((met : ℕ → Bool) → met_after met operand ≡ met) → Adds p q
    → MakesVariables (operand ∷ []) first p q environment environment
adds_makes {p = p} {q = q} operand first environment stays adds arguments compounds t met state stands here marks =
    rw (stays met) (adds_stands adds stands, kept_steps p q state.subst adds.words adds.substitution, adds_takes first met adds)

-- where nothing came
pub keeps_makes : {W : Type 0} (p : Present W) (operand : Operand) (first : ℕ) (environment : List W) → ((x : ℕ) → operand ≢ New x)
    → MakesVariables (operand ∷ []) first p p environment environment
keeps_makes p (New x) first environment known arguments compounds t met state stands begins marks = absurd (known x refl)
keeps_makes p (Old x) first environment known arguments compounds t met state stands begins marks = (stands, (λ w a at. at), λ n is. inl is)
keeps_makes p (Integer z) first environment known arguments compounds t met state stands begins marks = (stands, (λ w a at. at), λ n is. inl is)
keeps_makes p (Atom a) first environment known arguments compounds t met state stands begins marks = (stands, (λ w a at. at), λ n is. inl is)
keeps_makes p (Inner k) first environment known arguments compounds t met state stands begins marks = (stands, (λ w a at. at), λ n is. inl is)

-- ---- a variable that is met for the first time

module _ {W : Type 0} (p q : Present W) (clean : (n : ℕ) → p.taken n ≡ false → Untouched p n) (first x : ℕ) (w : W) (environment : List W) where
  -- a variable that isn't met behind this one is another one
  apart : (met : ℕ → Bool) (y : ℕ) → met_after met (New x) y ≡ false → y ≢ x
  apart met y none e = false≢true (sym none ∙ rw (eq-eqb y x e) refl)

  -- other variables are met where they were met before it
  before : (met : ℕ → Bool) (y : ℕ) → y ≢ x → met_after met (New x) y ≡ met y
  before met y other = rw (ne_eqb y x other) refl

  -- it is met behind it
  here_now : (met : ℕ → Bool) → met_after met (New x) x ≡ true
  here_now met = rw (eq-eqb x x refl) refl

  -- its cell is made, and its word stands at its place
  pub variable_makes : x < length environment → Makes p q w (Variable (first + x)) → TakesNumber p q (first + x)
      → MakesVariables (New x ∷ []) first p q environment (slice_set environment x w)
  variable_makes inside made takes arguments compounds t met state stands begins marks =
      let low : x < t.count = subst (λ n. x < n) stands.room inside in
      let free : Free p state.subst (first + x) = subst (λ n. Free p state.subst (n + x)) begins (stands.free x low marks.0) in
      let steps : Steps p state.subst q state.subst = kept_steps p q state.subst made.words made.substitution in
      let here : At q state.subst w (Variable (first + x)) = variable_made p q state.subst (first + x) w free (clean (first + x) free.taken) made in
      let there : At q state.subst w (Variable (t.first + x)) = rw begins here in (
        record {
          substitution = stands.substitution;
          known = record {
            variables = λ y v is at. elim (cases_eq y x) [
              | inl same ↦ (let e : v ≡ w = some_word v w (sym at ∙ ap (slice_get (slice_set environment x w)) same ∙ got_set environment x w inside) in rw (e, same) there)
              | inr other ↦ steps v (Variable (t.first + y)) (stands.known.variables y v (sym (before met y other) ∙ is) (sym (got_other environment x y w other) ∙ at))
            ];
            compounds = λ k v at. steps v (state.registers (t.low + k)) (stands.known.compounds k v at);
          };
          arguments = λ r v at. steps v (state.registers r) (stands.arguments r v at);
          free = λ y below none.
              (let other : y ≢ x = apart met y none in
              let was = stands.free y below (sym (before met y other) ∙ none) in
              record { taken = takes.others (t.first + y) (λ e. other (omega (arith, e, begins))) ∙ was.taken; alone = was.alone });
          reserved = subst (λ n. t.first + t.count ≤ n) (sym takes.next) stands.reserved;
          room = length-set environment x w ∙ stands.room;
          apart = stands.apart;
        },
        steps,
        λ n is. elim (cases_eq n (first + x)) [
          | inl same ↦ inr (x, same, marks.0, here_now met)
          | inr other ↦ inl (sym (takes.others n other) ∙ is)
        ],
      )

-- ---- operands one after the other

-- numbers that were taken for the variables of operands, and then for those of others
pub takes_on : {W : Type 0} (p q r : Present W) (first : ℕ) (met : ℕ → Bool) (xs ys : List Operand) → TakesMet p q first met (met_behind met xs)
    → TakesMet q r first (met_behind met xs) (met_behind met (xs ++ ys)) → TakesMet p r first met (met_behind met (xs ++ ys))
takes_on p q r first met xs ys one other n is = elim (other n is) [
  | inl there ↦ elim (one n there) [
    | inl was ↦ inl was
    | inr came ↦ inr (came.0, came.1, came.2, rw (behind_both met xs ys) (met_stays (met_behind met xs) ys came.0 came.3))
  ]
  | inr came ↦ inr (came.0, came.1, unmet_before met xs came.0 came.2, came.3)
]

-- the variables of some operands are made, and then those of others
pub makes_both : {W : Type 0} (p q r : Present W) (xs ys : List Operand) (first : ℕ) (environment environment' environment'' : List W)
    → MakesVariables xs first p q environment environment' → MakesVariables ys first q r environment' environment''
    → MakesVariables (xs ++ ys) first p r environment environment''
makes_both p q r xs ys first environment environment' environment'' one other arguments compounds t met state stands begins marks =
    let parts = marked_both met xs ys marks in
    let near = one arguments compounds t met state stands begins parts.0 in
    let far = other arguments compounds t (met_behind met xs) state near.0 begins parts.1 in
    let both = behind_both met xs ys in
    (rw both far.0, (λ w a at. far.1 w a (near.1 w a at)), takes_on p q r first met xs ys near.2 (rw both far.2))

-- words that come behind the variables
pub makes_then : {W : Type 0} (p q r : Present W) (operands : List Operand) (first : ℕ) (environment environment' : List W)
    → MakesVariables operands first p q environment environment' → Adds q r → MakesVariables operands first p r environment environment'
makes_then p q r operands first environment environment' makes adds arguments compounds t met state stands begins marks =
    let near = makes arguments compounds t met state stands begins marks in (
      adds_stands adds near.0,
      (λ w a at. kept_steps q r state.subst adds.words adds.substitution w a (near.1 w a at)),
      λ n is. near.2 n (sym (adds.numbers.taken n) ∙ is),
    )

-- nothing came
pub makes_none : {W : Type 0} (p : Present W) (first : ℕ) (environment : List W) → MakesVariables [] first p p environment environment
makes_none p first environment arguments compounds t met state stands begins marks = (stands, (λ w a at. at), λ n is. inl is)

-- What is needed before operands whose variables are made; and with these compounds.
abbrev pub Begins : {W : Type 0} → Present W → List W → ℕ → List Operand → Type 0
Begins {W} p environment first operands =
    (f : Files W) × (t : Setting) × (met : ℕ → Bool) × (state : State) × Stands p f t met state × (f.environment ≡ environment) × (t.first ≡ first)
    × AreMarked met operands

abbrev pub BeginsWith : {W : Type 0} → Present W → List W → List W → ℕ → List Operand → Type 0
BeginsWith {W} p environment compounds first operands =
    (f : Files W) × (t : Setting) × (met : ℕ → Bool) × (state : State) × Stands p f t met state × (f.environment ≡ environment) × (f.compounds ≡ compounds)
    × (t.first ≡ first) × AreMarked met operands

-- the store stands for the state with these lists
pub begins_stands : {W : Type 0} {p : Present W} (environment compounds : List W) {first : ℕ} (operands : List Operand) (h : BeginsWith p environment compounds first operands)
    → Stands p (files environment h.0.arguments compounds) h.1 h.2 h.3
begins_stands {p = p} environment compounds operands h =
    let stands : Stands p (files environment h.0.arguments h.0.compounds) h.1 h.2 h.3 = subst (λ e. Stands p (files e h.0.arguments h.0.compounds) h.1 h.2 h.3) h.5 h.4 in
    subst (λ e. Stands p (files environment h.0.arguments e) h.1 h.2 h.3) h.6 stands

-- whatever the compounds are
pub without_compounds : {W : Type 0} (p : Present W) (environment compounds : List W) (first : ℕ) (operands : List Operand) → BeginsWith p environment compounds first operands
    → Begins p environment first operands
without_compounds p environment compounds first operands h = (h.0, h.1, h.2, h.3, h.4, h.5, h.7, h.8)

module _ {W : Type 0} (p q : Present W) (xs ys zs operands : List Operand) (parted : operands ≡ xs ++ (ys ++ zs)) where
  -- the marks of those before, and of those in the midst
  pub marks_on : (met : ℕ → Bool) → AreMarked met operands → AreMarked met xs × AreMarked (met_behind met xs) ys
  marks_on met marks =
      let one = marked_both met xs (ys ++ zs) (subst (AreMarked met) parted marks) in
      (one.0, (marked_both (met_behind met xs) ys zs one.1).0)

  -- it is there in the midst of them
  pub begins_on : (environment environment' : List W) (first : ℕ) → MakesVariables xs first p q environment environment' → Begins p environment first operands → Begins q environment' first ys
  begins_on environment environment' first makes h =
      let marks = marks_on h.2 h.7 in
      let stands : Stands p (files environment h.0.arguments h.0.compounds) h.1 h.2 h.3 = subst (λ e. Stands p (files e h.0.arguments h.0.compounds) h.1 h.2 h.3) h.5 h.4 in
      let far = makes h.0.arguments h.0.compounds h.1 h.2 h.3 stands h.6 marks.0 in
      (files environment' h.0.arguments h.0.compounds, h.1, met_behind h.2 xs, h.3, far.0, refl, h.6, marks.1)

  -- and so with compounds
  pub begins_with_on : (environment environment' compounds : List W) (first : ℕ) → MakesVariables xs first p q environment environment'
      → BeginsWith p environment compounds first operands → BeginsWith q environment' compounds first ys
  begins_with_on environment environment' compounds first makes h =
      let marks = marks_on h.2 h.8 in
      let far = makes h.0.arguments compounds h.1 h.2 h.3 (begins_stands environment compounds operands h) h.7 marks.0 in
      (files environment' h.0.arguments compounds, h.1, met_behind h.2 xs, h.3, far.0, refl, refl, h.7, marks.1)

  -- the variables that are new in them are among those of all
  pub news_within : news xs + news ys ≤ news operands
  news_within = let e = ap news parted in let one = news_both xs (ys ++ zs) in let other = news_both ys zs in omega (arith, e, one, other)

  -- what came for those so far, and for those that come next
  pub cells_within : (r : Present W) → Grows p q (news xs) (news xs) → Grows q r (news ys) (news ys) → Grows p r (news operands) (news operands)
  cells_within r one other = grows_most (news operands) (news operands) news_within news_within (grows_on one other)

-- the cells of the variables of both
pub cells_on : {W : Type 0} (p q r : Present W) (xs ys : List Operand) → Grows p q (news xs) (news xs) → Grows q r (news ys) (news ys) → Grows p r (news (xs ++ ys)) (news (xs ++ ys))
cells_on p q r xs ys one other = rw (news_both xs ys) (grows_on one other)

-- variables that came, and others behind them
pub widens_on : {W : Type 0} {p q r : Present W} → Widens p q → Widens q r → Widens p r
widens_on one other = record {
  words = keeps_on one.words other.words;
  substitution = other.substitution ∙ one.substitution;
  next = other.next ∙ one.next;
}

-- words keep what they stand for
pub widens_meaning : {W : Type 0} {p q : Present W} (w : W) → Widens p q → p.holds w ≡ true → meaning q w ≡ meaning p w
widens_meaning w widens holds = ap₂ apply widens.substitution (widens.words.terms w holds)
