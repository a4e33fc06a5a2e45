-- the options so far, and the words that are left, make what all words make
use Rattle.std.proofs.Common.{◌≡◌, drop, map}
use Rattle.std.specs.String.{string_bytes}
use Rattle.gw_command_line.specs.Options.{view, options_from, options_in}
use Rattle.gw_command_line.proofs.options.options_of.Given as goal

abbrev pub invariant-loop-i : goal.invariant-loop-i
invariant-loop-i l = options_from (view l.options) (map string_bytes (drop l.i l.words)) ≡ options_in (map string_bytes l.words)
