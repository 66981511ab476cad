-- Numbers and options among the program's words.
use Rattle.std.proofs.Common.{◌≡◌, ℕ, ◌+◌, ◌-◌, ◌*◌, ◌<◌, ◌≤◌, ◌^◌, Bool, true, false, List, [], ◌∷◌, length, fold, Option, Result, Ok, Err, MatchOption, ◌⊎◌, inl, inr, refl, sym, ap, subst, ◌∙◌, arith, rules}
use Rattle.std.specs.Result.{OkIff, result_ok}
use Rattle.std.specs.List.{list_all}
use Rattle.std.proofs.lemmas.Bool.Decides.{nat_tests}
use Rattle.std.proofs.lemmas.Str.Parse.{IsNumeralModel, numerals_by_fold, parse_digits}
use Rattle.std.specs.Str.Parse.{ParsesUnsigned}
use Rattle.iso_model.specs.Syntax.Characters.{is_digit}
use Rattle.iso_model.specs.Syntax.Token.{digits_value, digit_step}
use Rattle.clap.specs.Words.{App, Text, HasKind, HasMatchesOf, IsAmong, fault_of, first_of, first_value, found_of, is_simple, is_simple_and_free, kind_of, matches_of}
use Rattle.clap.specs.declared.parser.matches.ArgMatches.{ArgMatches}
use Rattle.clap.specs.declared.error.Error.{Error}
use Rattle.clap.specs.declared.error.kind.ErrorKind.{ErrorKind}
use Rattle.clap.specs.declared.error.kind.ErrorKind.TheVariants as kind
use Rattle.clap.proofs.WalkLemmas.{first_value-rows}
use Rattle.iso_session_core.specs.declared.words.Words.{Words}
use Rattle.iso_session_core.specs.declared.words.WordsFault.{WordsFault}
use Rattle.iso_session_core.specs.declared.words.WordsFault.TheVariants as fault
use Rattle.iso_session_core.specs.Words.{Values, program, given, is_number, FieldsSay, WordsSay, Stands, refused, misused}

abbrev IsDecimal : List ℕ → Type 0
IsDecimal text = list_all is_digit text ≡ true

abbrev value_from : ℕ → List ℕ → ℕ
value_from n [] = n
value_from n (c ∷ cs) = value_from (n * 10 + (c - 48)) cs

pub own : IsNumeralModel IsDecimal (value_from 0)
own = numerals_by_fold IsDecimal (search (rules, nat_tests)) value_from (search rules)

folded : (n : ℕ) (text : List ℕ) → fold digit_step n text ≡ value_from n text
folded n [] = refl
folded n (c ∷ cs) = folded (digit_step n c) cs

number_is : (b : ℕ) (z : List ℕ) → IsDecimal (b ∷ z) → is_number (b ∷ z) ≡ true
number_is b z h = h

-- what parsing a text of digits comes to
pub decimal_says : {E : Type 0} (text : List ℕ) (r : Result ℕ E) (o : Option ℕ) → ParsesUnsigned 32 10 text r → o ≡ result_ok r → IsDecimal text
    → MatchOption o (is_number text ≡ true → 2 ^ 32 ≤ digits_value text) (λ n. (is_number text ≡ true) × (n ≡ digits_value text))
decimal_says {E = E} text r o parses is digits = rw is (go text r (parse_digits own 32 text r parses digits) digits)
  where
    go : (text : List ℕ) (r : Result ℕ E) → OkIff r ((0 < length text) × (value_from 0 text < 2 ^ 32)) (value_from 0 text) → IsDecimal text
        → MatchOption (result_ok r) (is_number text ≡ true → 2 ^ 32 ≤ digits_value text) (λ n. (is_number text ≡ true) × (n ≡ digits_value text))
    go [] (Ok n) p d = let some : 0 < length {A = ℕ} [] = p.0.0 in absurd (omega arith)
    go (b ∷ z) (Ok n) p d = (d, p.1 ∙ sym (folded 0 (b ∷ z)))
    go [] (Err e) p d = λ number. cc
    go (b ∷ z) (Err e) p d = λ number.
        let large : value_from 0 (b ∷ z) < 2 ^ 32 → ⊥ = λ small. p (omega arith, small) in
        let same : digits_value (b ∷ z) ≡ value_from 0 (b ∷ z) = folded 0 (b ∷ z) in
        omega (arith, large, same)

-- another text is no number
pub decimal_none : (text : List ℕ) (r : Bool) → r ≡ list_all is_digit text → r ≡ false → is_number text ≡ true → 2 ^ 32 ≤ digits_value text
decimal_none [] r e h number = cc
decimal_none (b ∷ z) r e h number = cc

program_is_simple : is_simple program ≡ true
program_is_simple = refl

program_is_free : is_simple_and_free program ≡ true
program_is_free = refl

asked_same : (values other : Values) (r : Result Words WordsFault) → ((name : Text) → values name ≡ other name) → FieldsSay values r → FieldsSay other r
asked_same values other r h f = let same : values ≡ other = λ i name. h name i in subst (λ v. FieldsSay v r) same f

said : (words : List Text) (r : Result Words WordsFault) → fault_of program words ≡ [] → FieldsSay (given words) r → WordsSay words r
said words (Ok w) none f = (none, f)
said words (Err fault.Help) none f = absurd f
said words (Err (fault.Usage line)) none f = misused none f
said words (Err fault.NoMemory) none f = tt

refused_by : (words : List Text) (k : ErrorKind) (f : WordsFault) → (k ≡ kind.OutOfMemory) ⊎ IsAmong k (fault_of program words) → Stands k f → WordsSay words (Err f)
refused_by words k fault.Help (inl memory) help = cc
refused_by words k fault.Help (inr among) help = subst (λ x. IsAmong x (fault_of program words)) help among
refused_by words k (fault.Usage line) (inl memory) other = absurd (other.1 memory)
refused_by words k (fault.Usage line) (inr among) other = refused {kind = k} other.0 among
refused_by words k fault.NoMemory h other = tt

-- `clap` took the words
pub words_taken : (a : App) (words : List Text) (m : ArgMatches) (r : Result Words WordsFault) → a ≡ program → HasMatchesOf a words m
    → (is_simple_and_free a ≡ true → fault_of a words ≡ []) → FieldsSay (first_value (found_of m)) r → WordsSay words r
words_taken a words m r is has none fields =
    let rows = (has (ap is_simple is ∙ program_is_simple)).0 ∙ ap (λ x. matches_of x words) is in
    let values = asked_same (first_value (found_of m)) (given words) r (λ name. first_value-rows (found_of m) name ∙ ap (first_of name) rows) fields in
    said words r (sym (ap (λ x. fault_of x words) is) ∙ none (ap is_simple_and_free is ∙ program_is_free)) values

-- it refused them
pub words_refused : (a : App) (words : List Text) (e : Error) (f : WordsFault) → a ≡ program → (is_simple_and_free a ≡ true → HasKind (fault_of a words) e) → Stands (kind_of e) f
    → WordsSay words (Err f)
words_refused a words e f is kinds stands =
    let has = subst (λ x. HasKind (fault_of x words) e) is (kinds (ap is_simple_and_free is ∙ program_is_free)) in
    refused_by words (kind_of e) f has stands
