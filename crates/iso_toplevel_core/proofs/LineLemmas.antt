-- What lines come to: a person's decision, and a question.
use Rattle.std.proofs.Common.{◌≡◌, ◌≤◌, ◌<◌, ℕ, zero, suc, ◌-◌, Bool, true, false, ◌==◌, if◌then◌else◌, List, [], ◌∷◌, ◌++◌, length, Option, Some, Result, Ok, Err, refl, sym, ap, subst, ◌∙◌, arith}
use Rattle.std.specs.Io.KnownBytes.{Appends}
use Rattle.std.specs.Io.BufRead.{take_through, drop_through}
use Rattle.std.specs.Result.{IsErrAnd}
use Rattle.iso_model.specs.Session.Sessions.{Script, Shows, Closes, Done, Output, ends_within}
use Rattle.iso_model.specs.Session.Beginnings.{Begins}
use Rattle.iso_session_core.specs.Progress.{Place, Advances}
use Rattle.iso_session_core.proofs.ProgressLemmas.{advance_none, advance_on, advance_segment}
use Rattle.iso_toplevel_core.specs.declared.faults.Fault.{Fault}
use Rattle.iso_toplevel_core.specs.declared.faults.Fault.TheVariants as fault
use Rattle.iso_toplevel_core.specs.declared.decisions.Decision.{Decision}
use Rattle.iso_toplevel_core.specs.declared.questions.Asked.{Asked}
use Rattle.iso_toplevel_core.specs.declared.questions.Asked.TheVariants as asked
use Rattle.iso_toplevel_core.specs.Questions.{is_whole, prompt, asks_next}
use Rattle.iso_toplevel_core.specs.Dialogues.{decided, newlined, prompted, ended, heard, question}
use Rattle.iso_toplevel_core.specs.Progress.{Unheard, Fails}
use Rattle.iso_toplevel_core.specs.Screens.{IsInput, Leads, Leaves, Decides, IsAsked, Asks, Finishes}
use Rattle.iso_toplevel_core.proofs.PartLemmas.{fails_after, piece_breaks}

then_by : {A : Type 0} (c : Bool) (x y : A) → c ≡ true → (if c then x else y) ≡ x
then_by true x y h = refl
then_by false x y h = cc

else_by : {A : Type 0} (c : Bool) (x y : A) → c ≡ false → (if c then x else y) ≡ y
else_by true x y h = cc
else_by false x y h = refl

asks_by : (c : Bool) (b : ℕ) (y : List ℕ) → asks_next (if c then b ∷ [] else b ∷ y) ≡ asks_next (b ∷ [])
asks_by true b y = refl
asks_by false b y = refl

less_by : (c : Bool) (y z : List ℕ) → length y ≤ length z → length (if c then z else y) ≤ length z
less_by true y z h = omega arith
less_by false y z h = h

-- behind a line there is no more than before
pub less_left : (xs : List ℕ) → length (drop_through 10 xs) ≤ length xs
less_left [] = omega arith
less_left (x ∷ xs) = let h = less_by (x == 10) (drop_through 10 xs) xs (less_left xs) in omega (arith, h)

-- a line takes a byte at least
pub shorter_left : (xs : List ℕ) → 0 < length xs → length (drop_through 10 xs) < length xs
shorter_left [] h = omega (arith, h)
shorter_left (x ∷ xs) h = let k = less_by (x == 10) (drop_through 10 xs) xs (less_left xs) in omega (arith, k)

-- ---- decisions

module _ (p : Place) (known : Option (List ℕ)) (on stop : List ℕ → Script) where
  -- the person asked for the next answer
  pub says_next : (waits : Bool) (xs line : List ℕ) → waits ≡ true → 0 < length xs → line ≡ take_through 10 xs → known ≡ Some (drop_through 10 xs) → asks_next line ≡ true
      → Leaves p p xs known (decided waits xs on stop) on
  says_next false xs line waiting some is left says = cc
  says_next true [] line waiting some is left says = absurd (omega (arith, some))
  says_next true (b ∷ z) line waiting some is left says =
      let yes = sym (asks_by (b == 10) b (take_through 10 z)) ∙ ap asks_next (sym is) ∙ says in
      record {
        left = drop_through 10 (b ∷ z);
        known_left = left;
        no_more = less_left (b ∷ z);
        advances = rw (then_by (asks_next (b ∷ z)) (on (drop_through 10 (b ∷ z))) (stop (drop_through 10 (b ∷ z))) yes) (advance_none p (on (drop_through 10 (b ∷ z))));
      }

  -- the person stopped
  pub says_stop : (waits : Bool) (xs line : List ℕ) → waits ≡ true → 0 < length xs → line ≡ take_through 10 xs → known ≡ Some (drop_through 10 xs) → asks_next line ≡ false
      → Leaves p p xs known (decided waits xs on stop) stop
  says_stop false xs line waiting some is left says = cc
  says_stop true [] line waiting some is left says = absurd (omega (arith, some))
  says_stop true (b ∷ z) line waiting some is left says =
      let no = sym (asks_by (b == 10) b (take_through 10 z)) ∙ ap asks_next (sym is) ∙ says in
      record {
        left = drop_through 10 (b ∷ z);
        known_left = left;
        no_more = less_left (b ∷ z);
        advances = rw (else_by (asks_next (b ∷ z)) (on (drop_through 10 (b ∷ z))) (stop (drop_through 10 (b ∷ z))) no) (advance_none p (stop (drop_through 10 (b ∷ z))));
      }

  -- the toplevel doesn't wait
  pub goes_unasked : (waits : Bool) (xs : List ℕ) → waits ≡ false → known ≡ Some xs → Leaves p p xs known (decided waits xs on stop) on
  goes_unasked true xs unasked is = cc
  goes_unasked false xs unasked is = record { left = xs; known_left = is; no_more = omega arith; advances = advance_none p (on xs) }

  pub decided_memory : (waits : Bool) (xs : List ℕ) → Unheard p p (decided waits xs on stop)
  decided_memory waits xs = record { rest = decided waits xs on stop; advances = advance_none p (decided waits xs on stop) }

  -- the input can't be read
  pub decided_unheard : (waits : Bool) (xs : List ℕ) (r : Result Decision Fault) (e : Fault) → IsErrAnd r (λ f. f ≡ e) → IsInput e → Decides waits p p xs known on stop r
  decided_unheard waits xs (Ok d) e failed is = absurd failed
  decided_unheard waits xs (Err fault.Output) e failed is = absurd (rw (sym failed) at is)
  decided_unheard waits xs (Err (fault.Input obstacle)) e failed is = decided_memory waits xs

  -- the input is at its end
  pub says_nothing : (waits : Bool) (new : Place) (xs : List ℕ) → waits ≡ true → xs ≡ [] → known ≡ Some [] → Appends p.0 new.0 (10 ∷ []) → new.1 ≡ ends_within p.1 (10 ∷ [])
      → Leaves p new xs known (decided waits xs on stop) stop
  says_nothing false new xs waiting none left written within = cc
  says_nothing true new [] waiting none left written within =
      record { left = []; known_left = left; no_more = omega arith; advances = advance_segment p new (Output (10 ∷ [])) (stop []) written within }
  says_nothing true new (b ∷ z) waiting none left written within = cc

  pub nothing_broken : (waits : Bool) (new : Place) (xs : List ℕ) (r : Result Decision Fault) → IsErrAnd r (λ f. f ≡ fault.Output) → waits ≡ true → xs ≡ [] → Begins p.0 new.0 (10 ∷ [])
      → Decides waits p new xs known on stop r
  nothing_broken waits new xs (Ok d) failed waiting none b = absurd failed
  nothing_broken false new xs (Err e) failed waiting none b = cc
  nothing_broken true new (b ∷ z) (Err e) failed waiting none h = cc
  nothing_broken true new [] (Err fault.Output) failed waiting none b = piece_breaks p p new (decided true [] on stop) (Output (10 ∷ [])) (stop []) (advance_none p (decided true [] on stop)) b
  nothing_broken true new [] (Err (fault.Input obstacle)) failed waiting none b = cc

-- ---- questions

-- a step that writes an output where the toplevel waits
pub leads_output : (before : Script) (old new : Place) (output : List ℕ) (rest : Script) → before ≡ Shows (Output output) rest → Appends old.0 new.0 output → new.1 ≡ ends_within old.1 output → Advances old new before rest
leads_output before old new output rest is written within = rw is (advance_segment old new (Output output) rest written within)

pub leads_broken : (before after : Script) (old new : Place) (output : List ℕ) (rest : Script) (r : Result Unit Fault) → before ≡ Shows (Output output) rest → IsErrAnd r (λ f. f ≡ fault.Output) → Begins old.0 new.0 output
    → Leads old new before after r
leads_broken before after old new output rest (Ok u) is failed b = absurd failed
leads_broken before after old new output rest (Err fault.Output) is failed b = rw is (piece_breaks old old new (Shows (Output output) rest) (Output output) rest (advance_none old (Shows (Output output) rest)) b)
leads_broken before after old new output rest (Err (fault.Input obstacle)) is failed b = cc

pub prompt_shown : (waits : Bool) (text : List ℕ) (rest : Script) → waits ≡ true → prompted waits text rest ≡ Shows (Output (prompt text)) rest
prompt_shown true text rest h = refl
prompt_shown false text rest h = cc

pub prompt_none : (waits : Bool) (old : Place) (text : List ℕ) (rest : Script) → waits ≡ false → Advances old old (prompted waits text rest) rest
prompt_none true old text rest h = cc
prompt_none false old text rest h = advance_none old rest

pub newline_shown : (waits : Bool) (rest : Script) → waits ≡ true → newlined waits rest ≡ Shows (Output (10 ∷ [])) rest
newline_shown true rest h = refl
newline_shown false rest h = cc

pub newline_none : (waits : Bool) (old : Place) (rest : Script) → waits ≡ false → Advances old old (newlined waits rest) rest
newline_none true old rest h = cc
newline_none false old rest h = advance_none old rest

-- nothing was read of a text
pub finish_none : (old new : Place) (waits : Bool) (text : List ℕ) (behind : List ℕ → List ℕ → Script) → text ≡ [] → ((rest : Script) → Advances old new (newlined waits rest) rest)
    → Advances old new (ended waits text behind) (Closes Done)
finish_none old new waits [] behind none leads = leads (Closes Done)
finish_none old new waits (b ∷ z) behind none leads = cc

-- something was read of a text
pub finish_some : (old new : Place) (waits : Bool) (text : List ℕ) (behind : List ℕ → List ℕ → Script) → 0 < length text → ((rest : Script) → Advances old new (newlined waits rest) rest)
    → Advances old new (ended waits text behind) (behind text [])
finish_some old new waits [] behind some leads = absurd (omega (arith, some))
finish_some old new waits (b ∷ z) behind some leads = leads (behind (b ∷ z) [])

-- the line's end could not be written
pub finish_broken : (old new : Place) (waits : Bool) (text : List ℕ) (behind : List ℕ → List ℕ → Script) (e : Fault) (r : Result Asked Fault) → IsErrAnd r (λ f. f ≡ e) → ((rest : Script) → Fails old new (newlined waits rest) e)
    → Finishes old new waits text behind r
finish_broken old new waits text behind e (Ok a) failed fails = absurd failed
finish_broken old new waits [] behind e (Err f) failed fails = rw failed (fails (Closes Done))
finish_broken old new waits (b ∷ z) behind e (Err f) failed fails = rw failed (fails (behind (b ∷ z) []))

-- How far a text was read: what was read of it, and where its script is.
pub record AskPlace (waits : Bool) (text xs : List ℕ) (known : Option (List ℕ)) (old new : Place) (script : Script) (behind : List ℕ → List ℕ → Script) : Type 0 where
  pub left : List ℕ
  pub known_left : known ≡ Some left
  pub no_more : length left ≤ length xs
  pub fewer : 0 < length text → length left < length xs
  pub turns : ℕ
  pub enough : length left ≤ turns
  pub advances : Advances old new script (question waits (suc turns) text left behind)

pub ask_begins : (waits : Bool) (xs : List ℕ) (known : Option (List ℕ)) (old : Place) (turns : ℕ) (behind : List ℕ → List ℕ → Script) → known ≡ Some xs → length xs < turns
    → AskPlace waits [] xs known old old (question waits turns [] xs behind) behind
ask_begins waits xs known old zero behind is enough = absurd (omega (arith, enough))
ask_begins waits xs known old (suc turns) behind is enough = record {
  left = xs;
  known_left = is;
  no_more = omega arith;
  fewer = λ some. absurd (omega (arith, some));
  turns = turns;
  enough = omega (arith, enough);
  advances = advance_none old (question waits (suc turns) [] xs behind);
}

question_turn : (waits : Bool) (turns : ℕ) (text left : List ℕ) (behind : List ℕ → List ℕ → Script)
    → question waits (suc turns) text left behind ≡ prompted waits text (heard waits text left behind (λ more later. question waits turns more later behind))
unfolding question
question_turn waits turns text left behind = refl

-- what is left where a line is to be read
abbrev pub hearing : Bool → List ℕ → List ℕ → ℕ → (List ℕ → List ℕ → Script) → Script
hearing waits text left turns behind = heard waits text left behind (λ more later. question waits turns more later behind)

module _ (waits : Bool) (text xs : List ℕ) (known : Option (List ℕ)) (old mid new : Place) (script : Script) (behind : List ℕ → List ℕ → Script) (p : AskPlace waits text xs known old mid script behind) where
  abbrev here : Script
  here = hearing waits text p.left p.turns behind

  prompts : Advances old mid script (prompted waits text here)
  prompts = subst (λ z. Advances old mid script z) (question_turn waits p.turns text p.left behind) p.advances

  -- the prompt was shown
  pub ask_prompted : Advances mid new (prompted waits text here) here → Advances old new script here
  ask_prompted h = advance_on prompts h

  pub ask_unprompted : (later : Option (List ℕ)) (e : Fault) (r : Result Asked Fault) → IsErrAnd r (λ f. f ≡ e) → Fails mid new (prompted waits text here) e → Asks old new xs later script behind r
  ask_unprompted later e (Ok a) failed fails = absurd failed
  ask_unprompted later e (Err f) failed fails = rw failed (fails_after old mid new script (prompted waits text here) e prompts fails)

  pub ask_memory : Advances mid new (prompted waits text here) here → Unheard old new script
  ask_memory h = record { rest = here; advances = ask_prompted h }

  -- the input can't be read
  pub ask_unheard : (later : Option (List ℕ)) (e : Fault) (r : Result Asked Fault) → Advances mid new (prompted waits text here) here → IsErrAnd r (λ f. f ≡ e) → IsInput e → Asks old new xs later script behind r
  ask_unheard later e (Ok a) h failed is = absurd failed
  ask_unheard later fault.Output (Err f) h failed is = absurd is
  ask_unheard later (fault.Input obstacle) (Err f) h failed is = rw failed (ask_memory h)

heard_line : (waits : Bool) (text xs : List ℕ) (behind others : List ℕ → List ℕ → Script) → 0 < length xs
    → heard waits text xs behind others ≡ (if is_whole (text ++ take_through 10 xs) then behind (text ++ take_through 10 xs) (drop_through 10 xs) else others (text ++ take_through 10 xs) (drop_through 10 xs))
heard_line waits text [] behind others some = absurd (omega (arith, some))
heard_line waits text (b ∷ z) behind others some = refl

heard_end : (waits : Bool) (text xs : List ℕ) (behind others : List ℕ → List ℕ → Script) → xs ≡ [] → heard waits text xs behind others ≡ ended waits text behind
heard_end waits text [] behind others none = refl
heard_end waits text (b ∷ z) behind others none = cc

take_some : (xs : List ℕ) → 0 < length xs → 0 < length (take_through 10 xs)
take_some [] some = some
take_some (b ∷ z) some = some_by (b == 10) b (take_through 10 z)
  where
    some_by : (c : Bool) (b : ℕ) (y : List ℕ) → 0 < length (if c then b ∷ [] else b ∷ y)
    some_by true b y = omega arith
    some_by false b y = omega arith

module _ (waits : Bool) (text more xs : List ℕ) (known later : Option (List ℕ)) (old mid new : Place) (script : Script) (behind : List ℕ → List ℕ → Script) (p : AskPlace waits text xs known old mid script behind) where
  abbrev line : List ℕ
  line = text ++ take_through 10 p.left

  -- the text is whole
  pub ask_whole : Advances old new script (hearing waits text p.left p.turns behind) → 0 < length p.left → more ≡ line → later ≡ Some (drop_through 10 p.left) → is_whole more ≡ true
      → IsAsked old new xs later more script behind
  ask_whole h some is left whole = record {
    left = drop_through 10 p.left;
    known_left = left;
    shorter = let k = shorter_left p.left some in omega (arith, k, p.no_more);
    advances = rw is (subst (λ z. Advances old new script z)
        (heard_line waits text p.left behind _ some ∙ then_by (is_whole line) (behind line (drop_through 10 p.left)) _ (rw is at whole)) h);
  }

  -- the text goes on
  pub ask_goes : Advances old new script (hearing waits text p.left p.turns behind) → 0 < length p.left → more ≡ line → later ≡ Some (drop_through 10 p.left) → is_whole more ≡ false
      → AskPlace waits more xs later old new script behind
  ask_goes h some is left whole =
      let less = shorter_left p.left some in
      let fewer = p.turns - 1 in
      let turn : p.turns ≡ suc fewer = omega (arith, p.enough, some) in
      let goes = heard_line waits text p.left behind _ some ∙ else_by (is_whole line) (behind line (drop_through 10 p.left)) _ (rw is at whole) ∙ ap (λ n. question waits n line (drop_through 10 p.left) behind) turn in
      record {
        left = drop_through 10 p.left;
        known_left = left;
        no_more = omega (arith, less, p.no_more);
        fewer = λ _. omega (arith, less, p.no_more);
        turns = fewer;
        enough = omega (arith, less, p.enough);
        advances = rw is (subst (λ z. Advances old new script z) goes h);
      }

  -- the input is at its end, behind this text
  pub ask_finishes : (last : Place) → Advances old new script (hearing waits text p.left p.turns behind) → p.left ≡ [] → later ≡ Some [] → (r : Result Asked Fault) → Finishes new last waits text behind r → Asks old last xs later script behind r
  ask_finishes last h none left (Ok (asked.Text read)) f = record {
    left = [];
    known_left = left;
    shorter = let k = p.fewer f.0 in omega (arith, k);
    advances = rw f.1 (advance_on (subst (λ z. Advances old new script z) (heard_end waits text p.left behind _ none) h) f.2);
  }
  ask_finishes last h none left (Ok asked.End) f = record {
    left = [];
    known_left = left;
    no_more = omega arith;
    advances = advance_on (subst (λ z. Advances old new script z) (heard_end waits text p.left behind _ none) h) f.1;
  }
  ask_finishes last h none left (Ok asked.NoMemory) f = absurd f
  ask_finishes last h none left (Err e) f = fails_after old new last script (ended waits text behind) e (subst (λ z. Advances old new script z) (heard_end waits text p.left behind _ none) h) f
