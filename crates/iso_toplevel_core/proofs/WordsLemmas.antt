-- Options among the toplevel's words.
use Rattle.std.proofs.Common.{◌≡◌, true, List, [], Result, Ok, Err, ◌⊎◌, inl, inr, refl, sym, ap, subst, ◌∙◌}
use Rattle.clap.specs.Words.{App, Text, HasKind, HasMatchesOf, IsAmong, fault_of, first_of, first_value, found_of, is_simple, is_simple_and_free, kind_of, matches_of}
use Rattle.clap.specs.declared.parser.matches.ArgMatches.{ArgMatches}
use Rattle.clap.specs.declared.error.Error.{Error}
use Rattle.clap.specs.declared.error.kind.ErrorKind.{ErrorKind}
use Rattle.clap.specs.declared.error.kind.ErrorKind.TheVariants as kind
use Rattle.clap.proofs.WalkLemmas.{first_value-rows}
use Rattle.iso_session_core.specs.declared.words.WordsFault.{WordsFault}
use Rattle.iso_session_core.specs.declared.words.WordsFault.TheVariants as fault
use Rattle.iso_session_core.specs.Words.{Values, Stands}
use Rattle.iso_toplevel_core.specs.declared.words.Words.{Words}
use Rattle.iso_toplevel_core.specs.Words.{program, given, FieldsSay, WordsSay, refused, misused}

program_is_simple : is_simple program ≡ true
program_is_simple = refl

program_is_free : is_simple_and_free program ≡ true
program_is_free = refl

asked_same : (values other : Values) (r : Result Words WordsFault) → ((name : Text) → values name ≡ other name) → FieldsSay values r → FieldsSay other r
asked_same values other r h f = let same : values ≡ other = λ i name. h name i in subst (λ v. FieldsSay v r) same f

said : (words : List Text) (r : Result Words WordsFault) → fault_of program words ≡ [] → FieldsSay (given words) r → WordsSay words r
said words (Ok w) none f = (none, f)
said words (Err fault.Help) none f = absurd f
said words (Err (fault.Usage line)) none f = misused none f
said words (Err fault.NoMemory) none f = tt

refused_by : (words : List Text) (k : ErrorKind) (f : WordsFault) → (k ≡ kind.OutOfMemory) ⊎ IsAmong k (fault_of program words) → Stands k f → WordsSay words (Err f)
refused_by words k fault.Help (inl memory) help = cc
refused_by words k fault.Help (inr among) help = subst (λ x. IsAmong x (fault_of program words)) help among
refused_by words k (fault.Usage line) (inl memory) other = absurd (other.1 memory)
refused_by words k (fault.Usage line) (inr among) other = refused {kind = k} other.0 among
refused_by words k fault.NoMemory h other = tt

-- `clap` took the words
pub words_taken : (a : App) (words : List Text) (m : ArgMatches) (r : Result Words WordsFault) → a ≡ program → HasMatchesOf a words m
    → (is_simple_and_free a ≡ true → fault_of a words ≡ []) → FieldsSay (first_value (found_of m)) r → WordsSay words r
words_taken a words m r is has none fields =
    let rows = (has (ap is_simple is ∙ program_is_simple)).0 ∙ ap (λ x. matches_of x words) is in
    let values = asked_same (first_value (found_of m)) (given words) r (λ name. first_value-rows (found_of m) name ∙ ap (first_of name) rows) fields in
    said words r (sym (ap (λ x. fault_of x words) is) ∙ none (ap is_simple_and_free is ∙ program_is_free)) values

-- it refused them
pub words_refused : (a : App) (words : List Text) (e : Error) (f : WordsFault) → a ≡ program → (is_simple_and_free a ≡ true → HasKind (fault_of a words) e) → Stands (kind_of e) f
    → WordsSay words (Err f)
words_refused a words e f is kinds stands =
    let has = subst (λ x. HasKind (fault_of x words) e) is (kinds (ap is_simple_and_free is ∙ program_is_free)) in
    refused_by words (kind_of e) f has stands
