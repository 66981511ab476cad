-- Goals that read or change operators and flags, check by check.
use Rattle.std.proofs.Common.{◌≡◌, ℕ, List, [], ◌∷◌, ◌++◌, map, false, ◌||◌, refl, sym, ap, ◌∙◌, subst, if◌then◌else◌, Result, Ok, Err}
use Rattle.std.specs.Result.{IsErrAnd}
use Rattle.std.proofs.lemmas.List.{map-append, append_assoc}
use Rattle.iso_ops.specs.Operators.{Operator}
use Rattle.iso_ops.specs.declared.settings.Flags.{Flags}
use Rattle.iso_model.specs.Terms.Trees.{Tree, Name}
use Rattle.iso_model.specs.Terms.Types.{is_variable}
use Rattle.iso_model.specs.Search.Errors.{instantiation_error}
use Rattle.iso_model.specs.Search.Settings.{Settled, Refuses, value_offer, op_key, op_settled, op_set, with_priority, with_specifier, with_listed, with_texts, name_list, has_unbound, set_names, setting_settled, set_flag_key, set_flag_settled, named_flag_settled}
use Rattle.iso_model.specs.Search.Worlds.{World}
use Rattle.iso_model.specs.declared.kinds.Setting.{Setting}
use Rattle.iso_lib_core.specs.declared.outcomes.Fault.{Fault}
use Rattle.iso_lib_core.specs.declared.outcomes.Fault.TheVariants as fault
use Rattle.iso_lib.specs.declared.settings.Offer.{Offer}
use Rattle.iso_lib.specs.declared.settings.Settled.{Settled as Came}
use Rattle.iso_lib_core.specs.Replies.{IsError}
use Rattle.iso_lib.specs.Settlements.{IsRefused, IsSettled, PassesTo, AreSet, IsSet, offer_tree, with_settings}

-- a flag that has a name
pub flag_named : (f v : Tree) (a : List ℕ) (w : World) → f ≡ Name a → is_variable v ≡ false → set_flag_settled f v w ≡ named_flag_settled a v w
flag_named f v a w is bound = ap (λ t. set_flag_settled t v w) is ∙ ap (λ b. if b then Refuses (instantiation_error set_flag_key) else named_flag_settled a v w) bound

-- a check that comes first raised its error
pub passes_raised : {I J : Type 0} (A B : Type 0) (f : I → Settled) (g : A → I → Settled) (h : J → Settled) (k : B → J → Settled) (e : Fault) → (choose : J → I) → ((j : J) → h j ≡ f (choose j)) → PassesTo f g (Err e) → PassesTo h k (Err e)
passes_raised A B f g h k (fault.Raise ball) choose same raised = λ j. subst (λ s. IsRefused s ball) (sym (same j)) (raised (choose j))
passes_raised A B f g h k fault.Full choose same raised = raised
passes_raised A B f g h k fault.NoMemory choose same raised = raised

-- a name can't be set, nor can all
pub set_raised : (f : (List Operator → Result (List Operator) Tree) → Result (List Operator) Tree) (set : Result (List Operator) Tree) (goes_on : List Operator → Result (List Operator) Tree) (new ops : List Operator) (e : Fault) → set ≡ f goes_on → IsSet f new (Err e) → AreSet set ops (Err e)
set_raised f set goes_on new ops (fault.Raise ball) same raised = subst (λ r. IsErrAnd r (λ error. IsError error ball)) (sym same) (raised goes_on)
set_raised f set goes_on new ops fault.Full same raised = raised
set_raised f set goes_on new ops fault.NoMemory same raised = raised

-- the texts of one more name, before others
pub texts_more : {X : Type 0} (f : X → List ℕ) (names all : List X) (a : X) → all ≡ names ++ a ∷ [] → (texts : List (List ℕ)) → map f names ++ f a ∷ texts ≡ map f all ++ texts
texts_more f names all a more texts = sym (ap (λ xs. map f xs ++ texts) more ∙ ap (λ us. us ++ texts) (map-append f names (a ∷ [])) ∙ append_assoc (map f names) (f a ∷ []) texts)

-- a check raised its error, and so does the goal
pub refused_settled : {I : Type 0} (A : Type 0) (w : World) (ops : List Operator) (flags : Flags) (setting : Setting) (t : Tree) (s : Settled) (f : I → Settled) (g : A → I → Settled) (goes_on : I) (e : Fault) → s ≡ f goes_on → PassesTo f g (Err e) → IsSettled w ops flags setting t s (Err e)
refused_settled A w ops flags setting t s f g goes_on (fault.Raise ball) same raised = subst (λ x. IsRefused x ball) (sym same) (raised goes_on)
refused_settled A w ops flags setting t s f g goes_on fault.Full same raised = raised
refused_settled A w ops flags setting t s f g goes_on fault.NoMemory same raised = raised

-- a name can't be set, and the goal raises the error
pub unset_settled : (w after : World) (ops new : List Operator) (flags : Flags) (setting : Setting) (t : Tree) (s : Settled) (set : Result (List Operator) Tree) (e : Fault) → s ≡ op_set after set → AreSet set new (Err e) → IsSettled w ops flags setting t s (Err e)
unset_settled w after ops new flags setting t s (Err error) (fault.Raise ball) same raised = subst (λ x. IsRefused x ball) (sym same) raised
unset_settled w after ops new flags setting t s (Ok set) (fault.Raise ball) same raised = absurd raised
unset_settled w after ops new flags setting t s set fault.Full same raised = raised
unset_settled w after ops new flags setting t s set fault.NoMemory same raised = raised

-- `op/3` goes on with the names
pub op_after : (p s names : Tree) (w : World) (n : ℕ) (text : List ℕ) (words : List Tree) → (is_variable p || (is_variable s || has_unbound names)) ≡ false
    → ((goes_on : ℕ → Settled) → with_priority p goes_on ≡ goes_on n)
    → ((goes_on : List ℕ → Settled) → with_specifier s goes_on ≡ goes_on text)
    → ((goes_on : List (List ℕ) → Settled) → with_listed names (name_list names) goes_on ≡ with_texts words goes_on)
    → op_settled p s names w ≡ with_texts words (λ texts. op_set w (set_names n text texts w.operators))
op_after p s names w n text words bound priority specifier listed =
    let set : ℕ → List ℕ → List (List ℕ) → Settled = λ m v texts. op_set w (set_names m v texts w.operators) in
    let named : ℕ → List ℕ → Settled = λ m v. with_listed names (name_list names) (set m v) in
    let specified : ℕ → Settled = λ m. with_specifier s (named m) in
    ap (λ b. if b then Refuses (instantiation_error op_key) else with_priority p specified) bound ∙ priority specified ∙ specifier (named n) ∙ listed (set n text)

-- the same in a world with these operators and flags
pub settled_in : (w : World) (new new' : List Operator) (flags flags' : Flags) (setting setting' : Setting) (t : Tree) (v v' : World) (r : Result Came Fault) → new ≡ new' → flags ≡ flags' → setting ≡ setting' → v ≡ v'
    → IsSettled w new flags setting t (setting_settled setting t v) r → IsSettled w new' flags' setting' t (setting_settled setting' t v') r
settled_in w new new' flags flags' setting setting' t v v' r n f s is settled =
    subst (λ x. IsSettled w x flags' setting' t (setting_settled setting' t v') r) n
    (subst (λ x. IsSettled w new x setting' t (setting_settled setting' t v') r) f
    (subst (λ x. IsSettled w new flags x t (setting_settled x t v') r) s
    (subst (λ x. IsSettled w new flags setting t (setting_settled setting t x) r) is settled)))

-- a world has its own operators and flags
pub own_settings : (w : World) (ops : List Operator) (flags : Flags) → w.operators ≡ ops → w.flags ≡ flags → with_settings w ops flags ≡ w
own_settings w ops flags o f = λ i. with_settings w (sym o i) (sym f i)

-- rows are offered with what is made for each
rows_made : {X : Type 0} (made : ℕ) (f : X → Tree) (xs : List X) → map (λ x. value_offer made (f x)) xs ≡ map (value_offer made) (map f xs)
rows_made made f [] = refl
rows_made made f (x ∷ xs) = ap (λ os. value_offer made (f x) ∷ os) (rows_made made f xs)

pub offered_rows : {X : Type 0} (made : ℕ) (f : X → Tree) (xs : List X) (offers : List Offer) → map offer_tree offers ≡ map f xs
    → map (λ x. value_offer made (f x)) xs ≡ map (λ o. value_offer made (offer_tree o)) offers
offered_rows made f xs offers rows = rows_made made f xs ∙ ap (map (value_offer made)) (sym rows) ∙ sym (rows_made made offer_tree offers)
