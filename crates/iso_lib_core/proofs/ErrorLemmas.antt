-- A store can hold the errors that are raised.
use Rattle.std.proofs.Common.{◌≡◌, ℕ, List, true, refl}
use Rattle.iso_model.specs.Terms.Trees.{Tree, arities_fit}
use Rattle.iso_model.specs.Search.Errors.{Key, instantiation_error, type_error, type_error_callable, domain_error, existence_error, max_arity_error}

pub instantiation_fits : (k : Key) → arities_fit (instantiation_error k) ≡ true
instantiation_fits k = refl

pub type_fits : (type : List ℕ) (culprit : Tree) (k : Key) → arities_fit culprit ≡ true → arities_fit (type_error type culprit k) ≡ true
type_fits type culprit k fits = rw fits refl

pub callable_fits : (culprit : Tree) (k : Key) → arities_fit culprit ≡ true → arities_fit (type_error_callable culprit k) ≡ true
callable_fits culprit k fits = rw fits refl

pub domain_fits : (domain : List ℕ) (culprit : Tree) (k : Key) → arities_fit culprit ≡ true → arities_fit (domain_error domain culprit k) ≡ true
domain_fits domain culprit k fits = rw fits refl

pub existence_fits : (k : Key) → arities_fit (existence_error k) ≡ true
existence_fits k = refl

pub max_arity_fits : (k : Key) → arities_fit (max_arity_error k) ≡ true
max_arity_fits k = refl
