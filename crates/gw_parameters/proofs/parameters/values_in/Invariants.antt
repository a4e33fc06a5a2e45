-- the numbers so far, and those of the words that are left, are those of all words; each round takes off a word
use Rattle.std.proofs.Common.{◌≡◌, length, option_copied}
use Rattle.gw_parameters.specs.Parameters.{values_behind, values_in, words_left}
use Rattle.gw_parameters.proofs.parameters.values_in.Given as goal

abbrev pub invariant-loop-left : goal.invariant-loop-left
invariant-loop-left l = values_behind l.values.items (words_left (option_copied l.left)) ≡ values_in l.fn.words

abbrev pub decreases-loop-left : goal.decreases-loop-left
decreases-loop-left l = length (words_left (option_copied l.left))
