-- A name's text is one token, but `[]` and `{}`, which are two marks each.
use Rattle.std.proofs.Common.{◌≡◌, ℕ, ◌<◌, Bool, true, false, not, ◌&&◌, ◌||◌, if◌then◌else◌, List, [], ◌∷◌, length, refl, codes, ⊎_elim, arith}
use Rattle.std.specs.List.{list_all}
use Rattle.std.specs.Str.{bytes_eq}
use Rattle.std.proofs.lemmas.Bool.{cond_both, and_parts, or_cases, not-true}
use Rattle.std.proofs.lemmas.Slice.Eq.{bytes_eq-Decides}
use Rattle.iso_model.specs.Syntax.Characters.{is_small, is_alphanumeric, is_graphic}
use Rattle.iso_model.specs.Syntax.Token.{TokenKind, NameToken, QuotedToken, content_of}
use Rattle.iso_model.specs.Syntax.Texts.{opens_comment, is_bare_run, is_bare, name_text}
use Rattle.iso_model.proofs.Syntax.RunLexemes.{IsLone}
use Rattle.iso_model.proofs.Syntax.BareNames.{small_lone, graphic_lone, cut_lone, or_lone}
use Rattle.iso_model.proofs.Syntax.QuotedNames.{in_quotes, quoted_lone, quoted_content}

-- a run of letters, digits and `_`, or of graphic characters
run_lone : (name : List ℕ) → is_bare_run name ≡ true → IsLone NameToken name
run_lone [] h = cc
run_lone (b ∷ z) h =
    cond_both (is_small b) (list_all is_alphanumeric z) (list_all is_graphic (b ∷ z) && (not (bytes_eq (b ∷ z) (codes ".")) && not (opens_comment (b ∷ z)))) (λ x. x ≡ true → IsLone NameToken (b ∷ z))
    (λ small all. small_lone b z small all)
    (λ _ all. let parts = and_parts (list_all is_graphic (b ∷ z)) _ all in
    let others = and_parts (not (bytes_eq (b ∷ z) (codes "."))) _ parts.1 in
    graphic_lone b z parts.0 (not-true _ others.0) (not-true _ others.1)) h

bare_lone : (name : List ℕ) → bytes_eq name (codes "[]") ≡ false → bytes_eq name (codes "{}") ≡ false → is_bare name ≡ true → IsLone NameToken name
bare_lone name nil curly bare =
    let kinds : (bytes_eq name (codes "!") || (bytes_eq name (codes ";") || is_bare_run name)) ≡ true = rw (nil, curly) at bare in
    ⊎_elim (λ e. let is : name ≡ codes "!" = (bytes_eq-Decides name (codes "!")).0 e in rw is cut_lone)
    (λ h. ⊎_elim (λ e. let is : name ≡ codes ";" = (bytes_eq-Decides name (codes ";")).0 e in rw is or_lone) (λ e. run_lone name e) (or_cases (bytes_eq name (codes ";")) (is_bare_run name) h))
    (or_cases (bytes_eq name (codes "!")) _ kinds)

abbrev pub name_kind : Bool → TokenKind
name_kind bare = if bare then NameToken else QuotedToken

-- a name but `[]` and `{}`
pub name_lone : (name : List ℕ) → bytes_eq name (codes "[]") ≡ false → bytes_eq name (codes "{}") ≡ false → IsLone (name_kind (is_bare name)) (name_text name)
name_lone name nil curly = by (is_bare name) refl
  where
    by : (bare : Bool) → is_bare name ≡ bare → IsLone (name_kind bare) (if bare then name else in_quotes name)
    by true e = bare_lone name nil curly e
    by false e = quoted_lone name

name_some_by : (name : List ℕ) → is_bare name ≡ true → 0 < length name
name_some_by [] h = cc
name_some_by (b ∷ z) h = omega arith

pub name_some : (name : List ℕ) → 0 < length (name_text name)
name_some name = cond_both (is_bare name) name (in_quotes name) (λ x. 0 < length x) (name_some_by name) (λ _. omega arith)

-- what the token stands for
pub name_content : (name : List ℕ) → content_of (name_kind (is_bare name)) (name_text name) ≡ name
name_content name = by (is_bare name)
  where
    by : (bare : Bool) → content_of (name_kind bare) (if bare then name else in_quotes name) ≡ name
    by true = refl
    by false = quoted_content name
