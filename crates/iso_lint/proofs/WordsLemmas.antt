-- What `clap` makes of the words of the program `lint`.
use Rattle.std.proofs.Common.{◌≡◌, ℕ, true, List, [], Result, Ok, Err, ◌⊎◌, inl, inr, refl, sym, ap, subst, ◌∙◌}
use Rattle.std.specs.Borrow.{Bor}
use Rattle.clap.specs.Words.{App, Text, HasKind, HasMatchesOf, IsAmong, fault_of, first_of, first_value, found_of, is_simple, is_simple_and_free, kind_of, matches_of}
use Rattle.clap.specs.declared.parser.matches.ArgMatches.{ArgMatches}
use Rattle.clap.specs.declared.error.Error.{Error}
use Rattle.clap.specs.declared.error.kind.ErrorKind.{ErrorKind}
use Rattle.clap.specs.declared.error.kind.ErrorKind.TheVariants as kind
use Rattle.clap.proofs.WalkLemmas.{first_value-rows}
use Rattle.iso_session_core.specs.declared.words.WordsFault.{WordsFault}
use Rattle.iso_session_core.specs.declared.words.WordsFault.TheVariants as fault
use Rattle.iso_session_core.specs.Words.{Stands}
use Rattle.iso_lint.specs.Words.{program, FILE, WordsSay, FileSays, refused, no_file}

program_is_simple : is_simple program ≡ true
program_is_simple = refl

program_is_free : is_simple_and_free program ≡ true
program_is_free = refl

said : (words : List Text) (r : Result (Bor (List ℕ)) WordsFault) → fault_of program words ≡ [] → FileSays (first_of FILE (matches_of program words)) r → WordsSay words r
said words (Ok file) none f = (none, f)
said words (Err fault.Help) none f = absurd f
said words (Err (fault.Usage line)) none f = no_file none f
said words (Err fault.NoMemory) none f = tt

-- `clap` took the words
pub words_taken : (a : App) (words : List Text) (m : ArgMatches) (r : Result (Bor (List ℕ)) WordsFault) → a ≡ program → HasMatchesOf a words m → (is_simple_and_free a ≡ true → fault_of a words ≡ [])
    → FileSays (first_value (found_of m) FILE) r → WordsSay words r
words_taken a words m r is has none f =
    let value = first_value-rows (found_of m) FILE ∙ ap (first_of FILE) ((has (ap is_simple is ∙ program_is_simple)).0 ∙ ap (λ x. matches_of x words) is) in
    said words r (sym (ap (λ x. fault_of x words) is) ∙ none (ap is_simple_and_free is ∙ program_is_free)) (subst (λ v. FileSays v r) value f)

refused_by : (words : List Text) (k : ErrorKind) (f : WordsFault) → (k ≡ kind.OutOfMemory) ⊎ IsAmong k (fault_of program words) → Stands k f → WordsSay words (Err f)
refused_by words k fault.Help (inl memory) help = cc
refused_by words k fault.Help (inr among) help = subst (λ x. IsAmong x (fault_of program words)) help among
refused_by words k (fault.Usage line) (inl memory) other = absurd (other.1 memory)
refused_by words k (fault.Usage line) (inr among) other = refused {kind = k} other.0 among
refused_by words k fault.NoMemory h other = tt

-- it refused them
pub words_refused : (a : App) (words : List Text) (e : Error) (f : WordsFault) → a ≡ program → (is_simple_and_free a ≡ true → HasKind (fault_of a words) e) → Stands (kind_of e) f
    → WordsSay words (Err f)
words_refused a words e f is kinds stands =
    let has = subst (λ x. HasKind (fault_of x words) e) is (kinds (ap is_simple_and_free is ∙ program_is_free)) in
    refused_by words (kind_of e) f has stands
