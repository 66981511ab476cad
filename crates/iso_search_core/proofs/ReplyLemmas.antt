-- What goals of built-ins come to is the table's reply.
use Rattle.std.proofs.Common.{◌≡◌, ℕ, List, Bool, true, false, ◌||◌, nat_lt, nat_abs, int_lt, pos, Option, Some, None, is_some, Result, Ok, Err, IfOk, ◌⊎◌, inl, inr, refl, ap, sym, ◌∙◌, subst, codes, if◌then◌else◌, arith}
use Rattle.std.proofs.lemmas.Bool.{false≢true}
use Rattle.iso_model.specs.Terms.Trees.{Tree, Variable, Integer, Name, Apply, End, More, arities_fit}
use Rattle.iso_model.specs.Terms.TermOf.{term_of}
use Rattle.iso_model.specs.Terms.Arguments.{argument, arity}
use Rattle.iso_model.specs.Terms.Lists.{is_partial_list}
use Rattle.iso_model.specs.Search.Groups.{stripped, witness_of, pair}
use Rattle.iso_model.specs.Search.BuiltIns.{Reply, Raises, Calls, CallsOnce, Refutes, Catches, Gathers, Halts, Writes, Collecting, AsList, InGroups, converted_reply, goal_reply, called_reply, grouping, groups_reply, throw_reply, halt_reply, answered, reply}
use Rattle.iso_model.specs.Search.Library.{library_answer}
use Rattle.iso_model.specs.Search.Replies.{Answer, Fail, Succeed, Equate, EquateCopy, Raise}
use Rattle.iso_model.specs.Search.Bodies.{Body, Run, converted, map_body}
use Rattle.iso_prep.specs.Conversions.{is_callable}
use Rattle.iso_lib_core.specs.Replies as library
use Rattle.iso_lib_core.specs.Replies.{IsUnbound}
use Rattle.iso_lib_core.specs.declared.outcomes.Reply as library_reply
use Rattle.iso_lib_core.specs.declared.outcomes.Reply.TheVariants as outcome
use Rattle.iso_lib_core.specs.declared.outcomes.Fault.{Fault}
use Rattle.iso_lib_core.specs.declared.outcomes.Fault.TheVariants as fault
use Rattle.iso_model.specs.Search.Errors.{Key, key, domain_error, max_arity_error, type_error, type_error_callable}
use Rattle.iso_model.specs.declared.built_ins.BuiltIn.{BuiltIn}
use Rattle.iso_model.specs.declared.built_ins.BuiltIn.TheVariants as built_in
use Rattle.iso_model.specs.Search.AtomTexts.{Characters, element_code, text_answer}
use Rattle.iso_model.specs.Search.Outputs.{put_code, put_char_key, output_reply}
use Rattle.iso_model.specs.declared.kinds.Output.{Output}
use Rattle.iso_model.specs.declared.kinds.Output.TheVariants.{PutChar}
use Rattle.iso_ops.specs.Operators.{Operator}
use Rattle.iso_model.specs.declared.pauses.Ball.{Ball}
use Rattle.iso_store_core.specs.Presents.{Present, KeepsWords, meaning}
use Rattle.iso_search_core.specs.declared.goals.Placed.{Placed}
use Rattle.iso_search_core.specs.declared.goals.Placed.TheVariants as placed
use Rattle.iso_search_core.specs.declared.replies.Replied.{Replied}
use Rattle.iso_search_core.specs.declared.replies.Replied.TheVariants as replied
use Rattle.iso_search_core.specs.Words.{Extends}
use Rattle.iso_search_core.specs.declared.lists.Lists.{Ghosts}
use Rattle.iso_search_core.specs.Placing.{PlacesBody, IsConverted}
use Rattle.iso_search_core.specs.Standing.{Keeps}
use Rattle.iso_search_core.specs.Cells.{IsBound, called_of}
use Rattle.iso_search_core.specs.Replies.{CanBeRun, IsRefused, Places, IsRunAs, IsPlaced, IsReply, IsRaised, IsHalt, limited, replied_of}
use Rattle.iso_program.proofs.WordLemmas.{words_same}
use Rattle.iso_search_core.proofs.StandingLemmas.{keeps_none}

-- an error is raised
pub raised_reply : {S L W M K P C N B O : Type 0} (l : Ghosts L S K P C N B O W M) (p q : Present W) (old new : L) (x : Reply) (ball : Ball) → x ≡ Raises (term_of ball.term.value) → arities_fit (term_of ball.term.value) ≡ true → IsUnbound p q → Keeps l old new → IsReply l p q old new x (replied.Raises ball)
raised_reply l p q old new x ball is fits unbound adds = subst (λ r. IsReply l p q old new r (replied.Raises ball)) (sym is) (record { is = refl; fits = fits; unbound = unbound; keeps = adds })

module _ {S L W M K P C N B O : Type 0} (l : Ghosts L S K P C N B O W M) (p q : Present W) (old new : L) (t : Tree) where
  pub call_body : (place : _) → IsPlaced l p q old new (called_of t) (key (codes "call") (arity t)) (placed.Body place) → IsReply l p q old new (reply built_in.Call t) (replied.Calls place)
  call_body place h = subst (λ r. IsReply l p q old new r (replied.Calls place)) (sym (h.1 Calls)) h.2

  pub once_body : (place : _) → IsRunAs l p q old new (λ runs. goal_reply runs (argument 0 t) (key (codes "once") 1)) (placed.Body place) → IsReply l p q old new (reply built_in.Once t) (replied.CallsOnce place)
  once_body place h = subst (λ r. IsReply l p q old new r (replied.CallsOnce place)) (sym (h.1 CallsOnce)) h.2

  pub not_body : (place : _) → IsRunAs l p q old new (λ runs. goal_reply runs (argument 0 t) (key (codes "\\+") 1)) (placed.Body place) → IsReply l p q old new (reply built_in.Not t) (replied.Refutes place)
  not_body place h = subst (λ r. IsReply l p q old new r (replied.Refutes place)) (sym (h.1 Refutes)) h.2

  pub exists_body : (place : _) → IsRunAs l p q old new (λ runs. goal_reply runs (argument 1 t) (key (codes "^") 2)) (placed.Body place) → IsReply l p q old new (reply built_in.Exists t) (replied.Calls place)
  exists_body place h = subst (λ r. IsReply l p q old new r (replied.Calls place)) (sym (h.1 Calls)) h.2

-- ---- a goal that can be run, or raises its error

bound_reply : (runs : Body → Reply) (goal : Tree) (k : Key) → IsBound goal → goal_reply runs goal k ≡ converted_reply runs (converted goal) goal k
bound_reply runs (Variable n) k h = absurd h
bound_reply runs goal k h = refl

not_converted : (o : Option Body) → is_some o ≡ false → o ≡ None
not_converted None h = refl
not_converted (Some b) h = absurd (false≢true (sym h))

pub unbound_same : {W : Type 0} (p : Present W) → IsUnbound p p
unbound_same p = record { words = words_same p; substitution = refl; next = refl }

-- one that can't be converted a type error
pub type_refused : (goal : Tree) (k : Key) (ball : Ball) (culprit : Tree) → IsBound goal → is_callable goal ≡ false → culprit ≡ goal → arities_fit culprit ≡ true → term_of ball.term.value ≡ type_error_callable culprit k → IsRefused goal k ball
type_refused goal k ball culprit bound can same fits is = (
  (λ runs. bound_reply runs goal k bound ∙ ap (λ o. converted_reply runs o goal k) (not_converted (converted goal) can) ∙ ap (λ t. Raises (type_error_callable t k)) (sym same) ∙ ap Raises (sym is)),
  ap arities_fit is ∙ rw fits refl,
)

some_body : (o : Option Body) → is_some o ≡ true → (b : Body) × (o ≡ Some b)
some_body None h = absurd (false≢true h)
some_body (Some b) h = (b, refl)

-- one that can be run is run
run_found : (runs : Body → Reply) (goal : Tree) (k : Key) → CanBeRun goal → (b : Body) × (goal_reply runs goal k ≡ runs b)
run_found runs goal k can =
    let body = some_body (converted goal) can.1 in
    (body.0, bound_reply runs goal k can.0 ∙ ap (λ o. converted_reply runs o goal k) body.1)

-- Words came before the goal was placed, and no binding.
module _ {S L W M K P C N B O : Type 0} (l : Ghosts L S K P C N B O W M) (p m q : Present W) (more : Extends p m 0) (old new : L) where
  words_behind : KeepsWords m q → KeepsWords p q
  words_behind h = record { stand = λ w k. h.stand w (more.words.stand w k); terms = λ w k. h.terms w (more.words.stand w k) ∙ more.words.terms w k }

  next_behind : q.next ≡ m.next → q.next ≡ p.next
  next_behind h = let came = more.next in omega (arith, h, came)

  places_behind : (b : Body) (place : B) → PlacesBody l.body m q new b place → Keeps l old new → Places l p q old new b place
  places_behind b place at keeps = record {
    keeps = keeps;
    words = words_behind at.words;
    substitution = at.substitution ∙ more.substitution;
    next = next_behind at.next;
    own = at.own;
    stands = at.stands;
    values = ap (λ s. map_body s at.own) (sym more.substitution) ∙ at.values;
  }

  -- the goal's body was placed
  pub body_behind : (w : W) (goal : Tree) (k : Key) (place : B) → meaning m w ≡ goal → IsBound goal → IsConverted l.body m q new (meaning m w) place → Keeps l old new
      → IsRunAs l p q old new (λ runs. goal_reply runs goal k) (placed.Body place)
  body_behind w goal k place is bound h keeps = (
    h.0,
    (λ runs. bound_reply runs goal k bound ∙ ap (λ o. converted_reply runs o goal k) (ap converted (sym is) ∙ h.1)),
    places_behind h.0 place h.2 keeps,
  )

-- a goal of call/N that is for one of too many arguments
pub too_many : (goal : Tree) (k : Key) (runs : Body → Reply) → nat_lt 255 (arity goal) ≡ true → goal_reply (limited goal k runs) goal k ≡ Raises (max_arity_error k)
too_many (Apply f (More a (More b End))) k runs h = absurd (false≢true h)
too_many (Apply f ts) k runs h = ap (λ x. if x then Raises (max_arity_error k) else runs (Run (Apply f ts))) h
too_many goal k runs h = absurd (false≢true h)

-- The goal that a goal of call/N is for was placed.
module _ {S L W M K P C N B O : Type 0} (l : Ghosts L S K P C N B O W M) (p q : Present W) (old new : L) where
  pub called_placed : (u goal : Tree) (j k : Key) (r : Placed B) → u ≡ goal → nat_lt 255 (arity goal) ≡ false → j ≡ k → IsRunAs l p q old new (λ runs. goal_reply runs u j) r → IsPlaced l p q old new goal k r
  called_placed u goal j k (placed.Raises ball) is few key_is h = λ runs. (λ i. goal_reply (limited goal k runs) (sym is i) (sym key_is i)) ∙ h (limited goal k runs)
  called_placed u goal j k (placed.Body place) is few key_is h = (
    h.0,
    (λ runs. (λ i. goal_reply (limited goal k runs) (sym is i) (sym key_is i)) ∙ h.1 (limited goal k runs) ∙ ap (λ b. if b then Raises (max_arity_error k) else runs h.0) few),
    h.2,
  )

-- ---- a goal is run inside a catch, or for all of its solutions

abbrev for_all : Tree → Body → Reply
for_all t b = if is_partial_list (argument 2 t) then Gathers (argument 0 t) b (AsList (argument 2 t)) else Raises (type_error (codes "list") (argument 2 t) (key (codes "findall") 3))

-- nothing is made for it, nor for its error
module _ {S L W M K P C N B O : Type 0} (l : Ghosts L S K P C N B O W M) (p : Present W) (held : L) (t : Tree) where
  raised_here : (error : Tree) (ball : Ball) → term_of ball.term.value ≡ error → arities_fit (term_of ball.term.value) ≡ true → IsRaised l p p held held error ball
  raised_here error ball is fits = record { is = is; fits = fits; unbound = unbound_same p; keeps = keeps_none l held }

  pub catch_found : CanBeRun (argument 0 t) → IsReply l p p held held (reply built_in.Catch t) replied.Catches
  catch_found can =
      let found = run_found Calls (argument 0 t) (key (codes "catch") 3) can in
      subst (λ r. IsReply l p p held held (Catches r (argument 1 t) (argument 2 t)) replied.Catches) (sym found.1) (refl, refl)

  pub catch_error : (ball : Ball) → IsRefused (argument 0 t) (key (codes "catch") 3) ball → IsReply l p p held held (reply built_in.Catch t) (replied.RaisesInside ball)
  catch_error ball refused =
      subst (λ r. IsReply l p p held held (Catches r (argument 1 t) (argument 2 t)) (replied.RaisesInside ball)) (sym (refused.0 Calls)) (raised_here (term_of ball.term.value) ball refl refused.1)

  pub findall_found : CanBeRun (argument 1 t) → is_partial_list (argument 2 t) ≡ true → IsReply l p p held held (reply built_in.Findall t) replied.Gathers
  findall_found can partial =
      let found = run_found (for_all t) (argument 1 t) (key (codes "findall") 3) can in
      let is : reply built_in.Findall t ≡ Gathers (argument 0 t) found.0 (AsList (argument 2 t)) = found.1 ∙ ap (λ x. if x then Gathers (argument 0 t) found.0 (AsList (argument 2 t)) else Raises (type_error (codes "list") (argument 2 t) (key (codes "findall") 3))) partial in
      subst (λ r. IsReply l p p held held r replied.Gathers) (sym is) (refl, refl)

  pub findall_error : (ball : Ball) → IsRefused (argument 1 t) (key (codes "findall") 3) ball → IsReply l p p held held (reply built_in.Findall t) (replied.Raises ball)
  findall_error ball refused = subst (λ r. IsReply l p p held held r (replied.Raises ball)) (sym (refused.0 (for_all t))) (raised_here (term_of ball.term.value) ball refl refused.1)

  -- but not where the result is no partial list
  pub findall_no_list : (ball : Ball) → CanBeRun (argument 1 t) → is_partial_list (argument 2 t) ≡ false → term_of ball.term.value ≡ type_error (codes "list") (argument 2 t) (key (codes "findall") 3) → arities_fit (argument 2 t) ≡ true
      → IsReply l p p held held (reply built_in.Findall t) (replied.Raises ball)
  findall_no_list ball can none is_error fits =
      let error = type_error (codes "list") (argument 2 t) (key (codes "findall") 3) in
      let found = run_found (for_all t) (argument 1 t) (key (codes "findall") 3) can in
      let is : reply built_in.Findall t ≡ Raises error = found.1 ∙ ap (λ x. if x then Gathers (argument 0 t) found.0 (AsList (argument 2 t)) else Raises error) none in
      let ball_fits : arities_fit error ≡ true = rw fits refl in
      subst (λ r. IsReply l p p held held r (replied.Raises ball)) (sym is) (raised_here error ball is_error (ap arities_fit is_error ∙ ball_fits))

-- ---- a goal is run for groups of its solutions

abbrev in_groups : Bool → Tree → Key → Body → Reply
in_groups sorts t k b =
    if is_partial_list (argument 2 t) then Gathers (pair (witness_of (argument 0 t) (argument 1 t)) (argument 0 t)) b (InGroups (grouping sorts (argument 0 t) (argument 1 t) (argument 2 t)))
    else Raises (type_error (codes "list") (argument 2 t) k)

abbrev groups_of_goal : Bool → Tree → Key → Reply
groups_of_goal sorts t k = groups_reply sorts (argument 0 t) (argument 1 t) (argument 2 t) k

module _ {S L W M K P C N B O : Type 0} (l : Ghosts L S K P C N B O W M) (p : Present W) (held : L) (t : Tree) (sorts : Bool) (k : Key) where
  pub groups_found : CanBeRun (stripped (argument 1 t)) → is_partial_list (argument 2 t) ≡ true → IsReply l p p held held (groups_of_goal sorts t k) (replied.Groups sorts)
  groups_found can partial =
      let found = run_found (in_groups sorts t k) (stripped (argument 1 t)) k can in
      let gathers = Gathers (pair (witness_of (argument 0 t) (argument 1 t)) (argument 0 t)) found.0 (InGroups (grouping sorts (argument 0 t) (argument 1 t) (argument 2 t))) in
      let is : groups_of_goal sorts t k ≡ gathers = found.1 ∙ ap (λ x. if x then gathers else Raises (type_error (codes "list") (argument 2 t) k)) partial in
      subst (λ r. IsReply l p p held held r (replied.Groups sorts)) (sym is) (refl, refl, refl)

  pub groups_error : (ball : Ball) → IsRefused (stripped (argument 1 t)) k ball → IsReply l p p held held (groups_of_goal sorts t k) (replied.Raises ball)
  groups_error ball refused = subst (λ r. IsReply l p p held held r (replied.Raises ball)) (sym (refused.0 (in_groups sorts t k))) (raised_here l p held t (term_of ball.term.value) ball refl refused.1)

  -- but not where the result is no partial list
  pub groups_no_list : (ball : Ball) → CanBeRun (stripped (argument 1 t)) → is_partial_list (argument 2 t) ≡ false → term_of ball.term.value ≡ type_error (codes "list") (argument 2 t) k → arities_fit (argument 2 t) ≡ true
      → IsReply l p p held held (groups_of_goal sorts t k) (replied.Raises ball)
  groups_no_list ball can none is_error fits =
      let error = type_error (codes "list") (argument 2 t) k in
      let found = run_found (in_groups sorts t k) (stripped (argument 1 t)) k can in
      let gathers = Gathers (pair (witness_of (argument 0 t) (argument 1 t)) (argument 0 t)) found.0 (InGroups (grouping sorts (argument 0 t) (argument 1 t) (argument 2 t))) in
      let is : groups_of_goal sorts t k ≡ Raises error = found.1 ∙ ap (λ x. if x then gathers else Raises error) none in
      let ball_fits : arities_fit error ≡ true = rw fits refl in
      subst (λ r. IsReply l p p held held r (replied.Raises ball)) (sym is) (raised_here l p held t error ball is_error (ap arities_fit is_error ∙ ball_fits))

-- ---- a ball is thrown, and the search is ended

module _ {S L W M K P C N B O : Type 0} (l : Ghosts L S K P C N B O W M) (p : Present W) (old : L) where
  pub throw_replied : (x : Reply) (ball : Ball) → x ≡ Raises (term_of ball.term.value) → arities_fit (term_of ball.term.value) ≡ true → IsReply l p p old old x (replied.Raises ball)
  throw_replied x ball is fits = raised_reply l p p old old x ball is fits (unbound_same p) (keeps_none l old)

  -- what a goal of `halt/1` comes to
  pub halt_replied : (x : Reply) (answer : Replied B) → IsHalt x answer → IsReply l p p old old x answer
  halt_replied (Raises error) (replied.Raises ball) h = record { is = h.0; fits = h.1; unbound = unbound_same p; keeps = keeps_none l old }
  halt_replied (Halts n) (replied.Halts status) h = h
  halt_replied x answer h = absurd h

-- what is answered
pub replied_same : {S L W M K P C N B O : Type 0} (l : Ghosts L S K P C N B O W M) (p q : Present W) (held : L) (x : Answer) (answer : Result library_reply.Reply Fault) → library.IsReply p q x answer → IfOk (replied_of answer) (IsReply l p q held held (answered x))
replied_same l p q held Succeed (Ok outcome.Done) h = (h, refl)
replied_same l p q held (Equate made a b) (Ok outcome.Done) h = (h, refl)
replied_same l p q held (EquateCopy a b) (Ok outcome.Done) h = (h, refl)
replied_same l p q held Fail (Ok outcome.Fail) h = keeps_none l held
replied_same l p q held (Equate made a b) (Ok outcome.Fail) h = (h, keeps_none l held)
replied_same l p q held (EquateCopy a b) (Ok outcome.Fail) h = (h, keeps_none l held)
replied_same l p q held (Raise error) (Ok outcome.Done) h = absurd h
replied_same l p q held (Raise error) (Err (fault.Raise ball)) h = record { is = h.0.0; fits = h.0.1; unbound = h.1; keeps = keeps_none l held }
replied_same l p q held x (Err fault.Full) h = tt
replied_same l p q held x (Err fault.NoMemory) h = tt
replied_same l p q held x answer h = absurd h

-- ---- which goals are run inside a catch, and which for all of their solutions

-- Replies of a kind of which errors, and the end of the search, are none.
module _ (Is : Reply → Type 0) (none_raised : (error : Tree) → Is (Raises error) → ⊥) (none_halted : (n : ℕ) → Is (Halts n) → ⊥) where
  none_converted : (runs : Body → Reply) (o : Option Body) (goal : Tree) (k : Key) → ((b : Body) → Is (runs b) → ⊥) → Is (converted_reply runs o goal k) → ⊥
  none_converted runs None goal k none h = none_raised _ h
  none_converted runs (Some b) goal k none h = none b h

  none_goal : (runs : Body → Reply) (goal : Tree) (k : Key) → ((b : Body) → Is (runs b) → ⊥) → Is (goal_reply runs goal k) → ⊥
  none_goal runs (Variable n) k none h = none_raised _ h
  none_goal runs (Integer z) k none h = none_converted runs (converted (Integer z)) (Integer z) k none h
  none_goal runs (Name a) k none h = none_converted runs (converted (Name a)) (Name a) k none h
  none_goal runs (Apply f ts) k none h = none_converted runs (converted (Apply f ts)) (Apply f ts) k none h
  none_goal runs End k none h = none_converted runs (converted End) End k none h
  none_goal runs (More t ts) k none h = none_converted runs (converted (More t ts)) (More t ts) k none h

  none_called : (goal : Tree) (k : Key) → ((b : Body) → Is (Calls b) → ⊥) → Is (called_reply goal k) → ⊥
  none_called goal k none h = none_goal (λ b. if nat_lt 255 (arity goal) then Raises (max_arity_error k) else Calls b) goal k (λ b. limited b (nat_lt 255 (arity goal))) h where
    limited : (b : Body) (x : Bool) → Is (if x then Raises (max_arity_error k) else Calls b) → ⊥
    limited b true i = none_raised _ i
    limited b false i = none b i

  none_thrown : (t : Tree) (k : Key) → Is (throw_reply t k) → ⊥
  none_thrown (Variable n) k h = none_raised _ h
  none_thrown t k h = none_raised _ h

  none_status : (x : Bool) (error : Tree) (n : ℕ) → Is (if x then Raises error else Halts n) → ⊥
  none_status true error n h = none_raised _ h
  none_status false error n h = none_halted n h

  none_ended : (t : Tree) (k : Key) → Is (halt_reply t k) → ⊥
  none_ended (Integer z) k h = none_status (int_lt z (pos 0) || int_lt (pos 255) z) (domain_error (codes "exit_code") (Integer z) k) (nat_abs z) h
  none_ended t k h = none_raised _ h

  none_found : (template goal result : Tree) (collecting : Collecting) (k : Key) → ((b : Body) → Is (Gathers template b collecting) → ⊥)
      → Is (goal_reply (λ b. if is_partial_list result then Gathers template b collecting else Raises (type_error (codes "list") result k)) goal k) → ⊥
  none_found template goal result collecting k none h =
      none_goal (λ b. if is_partial_list result then Gathers template b collecting else Raises (type_error (codes "list") result k)) goal k (λ b. partial b (is_partial_list result)) h where
        partial : (b : Body) (x : Bool) → Is (if x then Gathers template b collecting else Raises (type_error (codes "list") result k)) → ⊥
        partial b true i = none b i
        partial b false i = none_raised _ i

  none_put : (code : Result ℕ Tree) → ((bytes : List Operator → List ℕ) → Is (Writes bytes) → ⊥) → Is (put_code code) → ⊥
  none_put (Ok code) none h = none _ h
  none_put (Err error) none h = none_raised _ h

-- a goal is run inside a catch, or else it is run for all of its solutions
abbrev IsEither : Bool → Reply → Type 0
IsEither catches (Catches inside catcher recovery) = catches ≡ true
IsEither catches (Gathers template b (AsList result)) = catches ≡ false
IsEither catches x = ⊥

neither_answered : (catches : Bool) (x : Answer) → IsEither catches (answered x) → ⊥
neither_answered catches Fail h = h
neither_answered catches x h = h

only_either : (catches : Bool) (b : BuiltIn) (t : Tree) → IsEither catches (reply b t) → b ≡ (if catches then built_in.Catch else built_in.Findall)
only_either catches built_in.Call t h = absurd (none_called (IsEither catches) (λ e i. i) (λ n i. i) (called_of t) (key (codes "call") (arity t)) (λ b i. i) h)
only_either catches built_in.Once t h = absurd (none_goal (IsEither catches) (λ e i. i) (λ n i. i) CallsOnce (argument 0 t) (key (codes "once") 1) (λ b i. i) h)
only_either catches built_in.Not t h = absurd (none_goal (IsEither catches) (λ e i. i) (λ n i. i) Refutes (argument 0 t) (key (codes "\\+") 1) (λ b i. i) h)
only_either true built_in.Catch t h = refl
only_either false built_in.Catch t h = absurd (false≢true h)
only_either catches built_in.Throw t h = absurd (none_thrown (IsEither catches) (λ e i. i) (λ n i. i) (argument 0 t) (key (codes "throw") 1) h)
only_either catches built_in.HaltWith t h = absurd (none_ended (IsEither catches) (λ e i. i) (λ n i. i) (argument 0 t) (key (codes "halt") 1) h)
only_either true built_in.Findall t h = absurd (none_found (IsEither true) (λ e i. i) (λ n i. i) (argument 0 t) (argument 1 t) (argument 2 t) (AsList (argument 2 t)) (key (codes "findall") 3) (λ b i. false≢true (sym i)) h)
only_either false built_in.Findall t h = refl
only_either catches built_in.Bagof t h =
    absurd (none_found (IsEither catches) (λ e i. i) (λ n i. i) (pair (witness_of (argument 0 t) (argument 1 t)) (argument 0 t)) (stripped (argument 1 t)) (argument 2 t)
    (InGroups (grouping false (argument 0 t) (argument 1 t) (argument 2 t))) (key (codes "bagof") 3) (λ b i. i) h)
only_either catches built_in.Setof t h =
    absurd (none_found (IsEither catches) (λ e i. i) (λ n i. i) (pair (witness_of (argument 0 t) (argument 1 t)) (argument 0 t)) (stripped (argument 1 t)) (argument 2 t)
    (InGroups (grouping true (argument 0 t) (argument 1 t) (argument 2 t))) (key (codes "setof") 3) (λ b i. i) h)
only_either catches built_in.Exists t h = absurd (none_goal (IsEither catches) (λ e i. i) (λ n i. i) Calls (argument 1 t) (key (codes "^") 2) (λ b i. i) h)
only_either catches (built_in.Library row) t h = absurd (neither_answered catches (library_answer row t) h)
only_either catches (built_in.Text row) t h = absurd (neither_answered catches (text_answer row t) h)
only_either catches (built_in.Output PutChar) t h = absurd (none_put (IsEither catches) (λ e i. i) (λ n i. i) (element_code Characters (argument 0 t) put_char_key) (λ bytes i. i) h)
only_either catches x t h = absurd h

-- What a goal that is to be run in this way comes to: it can be run, and this is its body; or it raises an error.
abbrev RunsOrRaises : (Body → Reply) → Tree → Reply → Type 0
RunsOrRaises runs goal x = (CanBeRun goal × ((b : Body) × (converted goal ≡ Some b) × (x ≡ runs b))) ⊎ ((error : Tree) × (x ≡ Raises error))

runs_or_raises : (runs : Body → Reply) (goal : Tree) (k : Key) → RunsOrRaises runs goal (goal_reply runs goal k)
runs_or_raises runs goal k = by_goal goal where
  by_body : (g : Tree) → IsBound g → (o : Option Body) → converted g ≡ o → RunsOrRaises runs g (converted_reply runs o g k)
  by_body g bound None is = inr (_, refl)
  by_body g bound (Some b) is = inl ((bound, ap is_some is), (b, is, refl))

  by_goal : (g : Tree) → RunsOrRaises runs g (goal_reply runs g k)
  by_goal (Variable n) = inr (_, refl)
  by_goal (Integer z) = by_body (Integer z) tt (converted (Integer z)) refl
  by_goal (Name a) = by_body (Name a) tt (converted (Name a)) refl
  by_goal (Apply f ts) = by_body (Apply f ts) tt (converted (Apply f ts)) refl
  by_goal End = by_body End tt (converted End) refl
  by_goal (More u us) = by_body (More u us) tt (converted (More u us)) refl

-- a catch's parts are the goal's arguments
pub catch_parts : (b : BuiltIn) (t : Tree) (inside : Reply) (catcher recovery : Tree) → reply b t ≡ Catches inside catcher recovery
    → (b ≡ built_in.Catch) × (inside ≡ goal_reply Calls (argument 0 t) (key (codes "catch") 3)) × (catcher ≡ argument 1 t) × (recovery ≡ argument 2 t)
catch_parts b t inside catcher recovery is =
    let own : b ≡ built_in.Catch = only_either true b t (subst (λ (x : Reply). IsEither true x) (sym is) refl) in
    let there : Catches (goal_reply Calls (argument 0 t) (key (codes "catch") 3)) (argument 1 t) (argument 2 t) ≡ Catches inside catcher recovery = subst (λ (x : BuiltIn). reply x t ≡ Catches inside catcher recovery) own is in
    (own, cc, cc, cc)

-- a goal that is run inside it can be run, and this is its body
pub caught_goal : (goal : Tree) (k : Key) (c : Body) → goal_reply Calls goal k ≡ Calls c → CanBeRun goal × (converted goal ≡ Some c)
caught_goal goal k c is = by_answer (runs_or_raises Calls goal k) where
  by_answer : RunsOrRaises Calls goal (goal_reply Calls goal k) → CanBeRun goal × (converted goal ≡ Some c)
  by_answer (inl h) = let same : Calls h.1.0 ≡ Calls c = sym h.1.2 ∙ is in (h.0, h.1.1 ∙ ap Some cc)
  by_answer (inr h) = let no : Raises h.0 ≡ Calls c = sym h.1 ∙ is in absurd cc

-- so where a goal is run for all of its solutions
found_parts : (t : Tree) (x : Reply) (template result : Tree) (c : Body) → x ≡ Gathers template c (AsList result) → RunsOrRaises (for_all t) (argument 1 t) x
    → (template ≡ argument 0 t) × (result ≡ argument 2 t) × CanBeRun (argument 1 t) × (converted (argument 1 t) ≡ Some c)
found_parts t x template result c is (inr h) = let no : Raises h.0 ≡ Gathers template c (AsList result) = sym h.1 ∙ is in absurd cc
found_parts t x template result c is (inl h) = by_list (is_partial_list (argument 2 t)) (sym h.1.2 ∙ is) where
  by_list : (y : Bool) → (if y then Gathers (argument 0 t) h.1.0 (AsList (argument 2 t)) else Raises (type_error (codes "list") (argument 2 t) (key (codes "findall") 3))) ≡ Gathers template c (AsList result)
      → (template ≡ argument 0 t) × (result ≡ argument 2 t) × CanBeRun (argument 1 t) × (converted (argument 1 t) ≡ Some c)
  by_list true same = (cc, cc, h.0, h.1.1 ∙ ap Some cc)
  by_list false same = absurd cc

pub gather_parts : (b : BuiltIn) (t template result : Tree) (c : Body) → reply b t ≡ Gathers template c (AsList result)
    → (b ≡ built_in.Findall) × (template ≡ argument 0 t) × (result ≡ argument 2 t) × CanBeRun (argument 1 t) × (converted (argument 1 t) ≡ Some c)
gather_parts b t template result c is =
    let own : b ≡ built_in.Findall = only_either false b t (subst (λ (x : Reply). IsEither false x) (sym is) refl) in
    let there : reply built_in.Findall t ≡ Gathers template c (AsList result) = subst (λ (x : BuiltIn). reply x t ≡ Gathers template c (AsList result)) own is in
    let parts = found_parts t (reply built_in.Findall t) template result c there (runs_or_raises (for_all t) (argument 1 t) (key (codes "findall") 3)) in
    (own, parts.0, parts.1, parts.2, parts.3)

-- what it says is the reply of its row
pub output_replied : {S L W M K P C N B O : Type 0} (l : Ghosts L S K P C N B O W M) (p : Present W) (held : L) (row : Output) (t : Tree) → IsReply l p p held held (output_reply row t) (replied.Writes row)
output_replied l p held PutChar t = by_code (element_code Characters (argument 0 t) put_char_key) where
  by_code : (code : Result ℕ Tree) → IsReply l p p held held (put_code code) (replied.Writes PutChar)
  by_code (Ok code) = (refl, refl)
  by_code (Err error) = (refl, refl)
output_replied l p held row t = (refl, refl)
