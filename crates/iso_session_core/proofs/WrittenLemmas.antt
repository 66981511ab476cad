-- What writes do to known bytes, one after the other.
use Rattle.std.proofs.Common.{◌≡◌, ℕ, suc, ◌+◌, ◌-◌, ◌≤◌, ◌<◌, Bool, not, ◌==◌, List, [], ◌∷◌, ◌++◌, length, take, drop, Option, Some, None, Result, Ok, Err, OnErr, sym, ap, ◌∙◌, append_assoc, length-drop, arith}
use Rattle.std.proofs.lemmas.List.{append-nil, take-append-drop, take_all, length-append}
use Rattle.std.specs.List.{slice_get}
use Rattle.std.proofs.Math.Seq.{take-add}
use Rattle.std.specs.Io.KnownBytes.{Keeps, Appends}
use Rattle.iso_model.specs.Session.Sessions.{ends_within}
use Rattle.iso_model.specs.Session.Beginnings.{Begins}

-- a fact that holds where there is an error
pub behind_error : {T E : Type 0} (result : Result T E) {Fact : Type 0} → Fact → OnErr result Fact
behind_error (Ok t) fact = tt
behind_error (Err e) fact = fact

pub appends_none : (a : Option (List ℕ)) → Appends a a []
appends_none None = tt
appends_none (Some xs) = sym (append-nil xs)

pub appends_more : (a b c : Option (List ℕ)) (xs ys : List ℕ) → Appends a b xs → Appends b c ys → Appends a c (xs ++ ys)
appends_more None b c xs ys h k = tt
appends_more (Some p) None c xs ys h k = absurd h
appends_more (Some p) (Some q) None xs ys h k = absurd k
appends_more (Some p) (Some q) (Some r) xs ys h k = k ∙ ap (λ z. z ++ ys) h ∙ append_assoc p xs ys

pub appends_kept : (a b c : Option (List ℕ)) (xs : List ℕ) → Appends a b xs → Keeps b c → Appends a c xs
appends_kept None b c xs h k = tt
appends_kept (Some p) None c xs h k = absurd h
appends_kept (Some p) (Some q) None xs h k = absurd k
appends_kept (Some p) (Some q) (Some r) xs h k = k ∙ h

-- a write that answered an error, or took nothing, behind a part of the bytes
pub begins_stopped : (a b c : Option (List ℕ)) (n : ℕ) (bytes : List ℕ) → n < length bytes → Appends a b (take n bytes) → Keeps b c → Begins a c bytes
begins_stopped a b c n bytes less h k = record {
  front = take n bytes;
  back = drop n bytes;
  is = take-append-drop n bytes;
  left = omega (arith, less, length-drop n bytes);
  bytes = appends_kept a b c (take n bytes) h k;
}

-- a write took some of the bytes that are left
pub takes_more : (a b c : Option (List ℕ)) (n m : ℕ) (bytes : List ℕ) → Appends a b (take n bytes) → Appends b c (take m (take (length bytes - n) (drop n bytes))) → Appends a c (take (n + m) bytes)
takes_more a b c n m bytes h k =
    let room : length (drop n bytes) ≤ length bytes - n = omega (arith, length-drop n bytes) in
    let whole = rw (take_all (length bytes - n) (drop n bytes) room) at k in
    rw (take-add n m bytes) (appends_more a b c (take n bytes) (take m (drop n bytes)) h whole)

pub keeps_none : (a b : Option (List ℕ)) → Appends a b [] → Keeps a b
keeps_none None b h = tt
keeps_none (Some p) None h = h
keeps_none (Some p) (Some q) h = h ∙ append-nil p

-- bytes, and then a beginning of those behind them
pub begins_behind : (a b c : Option (List ℕ)) (xs ys : List ℕ) → Appends a b xs → Begins b c ys → Begins a c (xs ++ ys)
begins_behind a b c xs ys h k = record {
  front = xs ++ k.front;
  back = k.back;
  is = append_assoc xs k.front k.back ∙ ap (λ z. xs ++ z) k.is;
  left = k.left;
  bytes = appends_more a b c xs k.front h k.bytes;
}

-- a beginning is one of what has more bytes, too
pub begins_before : (a b : Option (List ℕ)) (xs ys : List ℕ) → Begins a b xs → Begins a b (xs ++ ys)
begins_before a b xs ys h = record {
  front = h.front;
  back = h.back ++ ys;
  is = sym (append_assoc h.front h.back ys) ∙ ap (λ z. z ++ ys) h.is;
  left = omega (arith, h.left, length-append h.back ys);
  bytes = h.bytes;
}

-- the last byte decides whether bytes end within a line
pub ends_within-last : (within : Bool) (bytes : List ℕ) (b : ℕ) → slice_get bytes (length bytes - 1) ≡ Some b → ends_within within bytes ≡ not (b == 10)
ends_within-last within [] b h = cc
ends_within-last within (x ∷ []) b h = let same : x ≡ b = cc in ap (λ n. not (n == 10)) same
ends_within-last within (x ∷ y ∷ z) b h =
    let place : suc (suc (length z)) - 1 ≡ suc (suc (length z) - 1) = omega arith in
    ends_within-last (not (x == 10)) (y ∷ z) b (rw place at h)
