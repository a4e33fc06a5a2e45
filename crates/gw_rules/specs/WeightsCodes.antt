-- The codes of refusals that checking weights answers.
use Rattle.std.specs.Prelude.{ℕ}
use Rattle.gw_rules.specs.declared.weights_codes.TheConstants.{WEIGHT_EDGE, CHAIN_WEIGHT, ARRIVAL_WEIGHT, SLOPE_PARAM}

-- a block weighs too little for where it leads
abbrev pub weight_edge : ℕ
weight_edge = WEIGHT_EDGE

-- a LINK weighs too little for its user chain, or a user chain for where an UNLINK sends its members
abbrev pub chain_weight : ℕ
chain_weight = CHAIN_WEIGHT

-- arrivals may come for ever in one clock moment
abbrev pub arrival_weight : ℕ
arrival_weight = ARRIVAL_WEIGHT

-- the slope of a block is on a parameter that isn't known to be a number there
abbrev pub slope_param : ℕ
slope_param = SLOPE_PARAM
