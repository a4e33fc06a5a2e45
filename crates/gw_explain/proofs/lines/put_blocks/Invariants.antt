use Rattle.std.proofs.Common.{◌≡◌, ◌++◌, map, take}
use Rattle.gw_explain.specs.Shown.{shown_blocks}
use Rattle.gw_explain.proofs.lines.put_blocks.Given as goal

-- the lines of the blocks so far are there
abbrev pub invariant-loop-number : goal.invariant-loop-number
invariant-loop-number l = l.out.items ≡ l.fn.out.items ++ shown_blocks (map (λ s. s.now) l.text.lines.now) l.text.blocks.now (take l.number-index l.numbers)
