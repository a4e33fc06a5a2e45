-- what stands under the bytes so far is there
use Rattle.std.proofs.Common.{◌≡◌, ◌++◌, take}
use Rattle.std.specs.List.{flat_map}
use Rattle.gw_explain.specs.Marks.{blank_under}
use Rattle.gw_explain.proofs.forms.put_blanks.Given as goal

abbrev pub invariant-loop-byte : goal.invariant-loop-byte
invariant-loop-byte l = l.out.items ≡ l.fn.out.items ++ flat_map blank_under (take l.byte-index l.bytes)
