-- Where a console's writing stands.
use Rattle.std.specs.Prelude.{ℕ, List, Option}
use Rattle.iso_session_core.specs.Progress.{Place}
use Rattle.iso_session_core.specs.declared.console.Console.{Console}

-- the bytes of its writer, where they are known, and whether the last of them is no newline
abbrev pub place : {W : Type 0} → (W → Option (List ℕ)) → Console W → Place
place contents c = (contents c.out.now, c.within_line)
