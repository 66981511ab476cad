-- Elements of lists that are read one by one.
use Rattle.std.proofs.Common.{◌≡◌, ◌≤◌, ◌+◌, ℕ, List, [], ◌∷◌, ◌++◌, drop, length, refl, ap, sym, ◌∙◌, subst, append_assoc, append-nil, Result, Ok, Err, String, Global, encode_utf8}
use Rattle.std.proofs.lemmas.List.{drop_all}
use Rattle.std.proofs.lemmas.Str.{encodes-append}
use Rattle.std.specs.Str.{encode_utf8_all}
use Rattle.std.specs.String.{string_bytes}
use Rattle.iso_model.specs.Terms.Trees.{Tree}
use Rattle.iso_model.specs.Search.Errors.{Key}
use Rattle.iso_model.specs.Search.AtomTexts.{Form, element_code, one_more_code, elements_codes}
use Rattle.iso_lib_core.specs.declared.outcomes.Fault.{Fault}
use Rattle.iso_lib_core.specs.declared.outcomes.Fault.TheVariants as fault
use Rattle.iso_text.specs.Elements.{IsCode, IsText}

-- these codes stand before the others
abbrev pub behind : List ℕ → Result (List ℕ) Tree → Result (List ℕ) Tree
behind codes (Ok others) = Ok (codes ++ others)
behind codes (Err error) = Err error

-- The elements before this place write this text.
pub record ReadSoFar (form : Form) (ts : List Tree) (k : Key) (place : ℕ) (text : List ℕ) : Type 0 where
  pub before : List ℕ
  pub spell : text ≡ encode_utf8_all before
  pub all : elements_codes form ts k ≡ behind before (elements_codes form (drop place ts) k)

none_before : (r : Result (List ℕ) Tree) → r ≡ behind [] r
none_before (Ok others) = refl
none_before (Err error) = refl

one_more : (before : List ℕ) (code : ℕ) (r : Result (List ℕ) Tree) → behind before (one_more_code (Ok code) r) ≡ behind (before ++ code ∷ []) r
one_more before code (Ok others) = ap (λ (codes : List ℕ). Ok codes) (sym (append_assoc before (code ∷ []) others))
one_more before code (Err error) = refl

code_is : (r : Result ℕ Tree) (code : ℕ) → IsCode r (Ok code) → r ≡ Ok code
code_is (Ok found) code h = ap (λ (c : ℕ). Ok c) (sym h)
code_is (Err error) code h = absurd h

pub begins : (form : Form) (ts : List Tree) (k : Key) (text : List ℕ) → text ≡ [] → ReadSoFar form ts k 0 text
begins form ts k text empty = record { before = []; spell = empty; all = none_before (elements_codes form ts k) }

pub goes_on : (form : Form) (ts : List Tree) (k : Key) (place : ℕ) (t : Tree) (code : ℕ) (text more : List ℕ) → ReadSoFar form ts k place text → drop place ts ≡ t ∷ drop (place + 1) ts → IsCode (element_code form t k) (Ok code)
    → more ≡ text ++ encode_utf8 code → ReadSoFar form ts k (place + 1) more
goes_on form ts k place t code text more so_far here is pushed = record {
  before = so_far.before ++ code ∷ [];
  spell = pushed ∙ ap (λ (bytes : List ℕ). bytes ++ encode_utf8 code) so_far.spell ∙ ap (λ (bytes : List ℕ). encode_utf8_all so_far.before ++ bytes) (sym (append-nil (encode_utf8 code))) ∙ sym (encodes-append so_far.before (code ∷ []));
  all = so_far.all ∙ ap (λ (us : List Tree). behind so_far.before (elements_codes form us k)) here
      ∙ ap (λ (r : Result ℕ Tree). behind so_far.before (one_more_code r (elements_codes form (drop (place + 1) ts) k))) (code_is (element_code form t k) code is)
      ∙ one_more so_far.before code (elements_codes form (drop (place + 1) ts) k);
}

error_first : (before : List ℕ) (r : Result ℕ Tree) (others : Result (List ℕ) Tree) (e : Fault) → IsCode r (Err e) → IsText (behind before (one_more_code r others)) (Err e)
error_first before (Err error) others (fault.Raise ball) h = h
error_first before (Err error) others fault.NoMemory h = tt
error_first before (Err error) others fault.Full h = h
error_first before (Ok code) (Ok codes) (fault.Raise ball) h = absurd h
error_first before (Ok code) (Err error) (fault.Raise ball) h = absurd h
error_first before (Ok code) (Ok codes) fault.NoMemory h = tt
error_first before (Ok code) (Err error) fault.NoMemory h = tt
error_first before (Ok code) (Ok codes) fault.Full h = h
error_first before (Ok code) (Err error) fault.Full h = h

-- the element here has an error
pub stops : (form : Form) (ts : List Tree) (k : Key) (place : ℕ) (t : Tree) (text : List ℕ) (e : Fault) → ReadSoFar form ts k place text → drop place ts ≡ t ∷ drop (place + 1) ts → IsCode (element_code form t k) (Err e)
    → IsText (elements_codes form ts k) (Err e)
stops form ts k place t text e so_far here wrong =
    subst (λ (r : Result (List ℕ) Tree). IsText r (Err e)) (sym (so_far.all ∙ ap (λ (us : List Tree). behind so_far.before (elements_codes form us k)) here))
    (error_first so_far.before (element_code form t k) (elements_codes form (drop (place + 1) ts) k) e wrong)

pub no_memory : (r : Result (List ℕ) Tree) → IsText r (Err fault.NoMemory)
no_memory (Ok codes) = tt
no_memory (Err error) = tt

-- no element is left
pub ends : (form : Form) (ts : List Tree) (k : Key) (place : ℕ) (text : String Global) → ReadSoFar form ts k place (string_bytes text) → length ts ≤ place → IsText (elements_codes form ts k) (Ok text)
ends form ts k place text so_far over =
    subst (λ (r : Result (List ℕ) Tree). IsText r (Ok text))
    (sym (so_far.all ∙ ap (λ (us : List Tree). behind so_far.before (elements_codes form us k)) (drop_all place ts over)))
    (so_far.spell ∙ ap encode_utf8_all (sym (append-nil so_far.before)))
