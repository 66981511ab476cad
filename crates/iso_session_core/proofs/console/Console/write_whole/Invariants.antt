use Rattle.std.proofs.Common.{length, take, ◌-◌, ◌≤◌, ◌≡◌}
use Rattle.std.specs.Io.KnownBytes.{Appends}
use Rattle.iso_session_core.proofs.console.Console.write_whole.Given as goal

abbrev pub invariant-loop-done : goal.invariant-loop-done
invariant-loop-done g l = record {
  in_range : l.done ≤ length l.bytes;
  within : l.self.within_line ≡ l.fn.self.within_line;
  writer : l.self.out.ghost_name ≡ l.fn.self.out.ghost_name;
  written : Appends (g.W.Write.contents l.fn.self.out.now) (g.W.Write.contents l.self.out.now) (take l.done l.bytes);
}

abbrev pub decreases-loop-done : goal.decreases-loop-done
decreases-loop-done g l = length l.bytes - l.done
