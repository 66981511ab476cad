-- Keys of clauses and of calls, and which fit.
pub use Rattle.iso_clauses.specs.Fits.{same_key, has_key, fits}
pub use Rattle.iso_clauses.specs.declared.keys.FirstKey.{FirstKey}
pub use Rattle.iso_clauses.specs.declared.keys.FirstKey.TheVariants.{Integer, Wide, Atom, Compound}
