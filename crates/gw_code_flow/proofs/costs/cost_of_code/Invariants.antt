use Rattle.std.proofs.Common.{◌≡◌, drop, ◌+◌, ◌*◌, ◌≤◌, ◌^◌}
use Rattle.gw_rules.specs.Code.{cost_of_body, turns_of}
use Rattle.gw_code_flow.proofs.costs.cost_of_code.Given as goal

-- the sums so far, and those of the instructions that are left, are those of all
abbrev pub invariant-loop-instruction : goal.invariant-loop-instruction
invariant-loop-instruction l = record {
  body : l.body + cost_of_body l.entities l.costs (drop l.instruction-index l.code) ≡ cost_of_body l.entities l.costs l.code;
  back : l.back + turns_of (drop l.instruction-index l.code) ≡ turns_of l.code;
  body_bound : l.body ≤ l.instruction-index * 2 ^ 32;
  back_bound : l.back ≤ l.instruction-index * 2 ^ 32;
}
