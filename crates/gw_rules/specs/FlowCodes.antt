-- The codes of refusals that checking flow answers.
use Rattle.std.specs.Prelude.{ℕ}
use Rattle.gw_rules.specs.declared.flow_codes.TheConstants.{UNSET_PARAM, ALREADY_OWNED, NOT_OWNER, TOO_FEW_UNITS, OWNS_AT_END, EDGE_STATE, CHAIN_STATE, PARAM_KIND, OVER_CAPACITY}

-- a block would read a parameter of a transaction that isn't sure to be set
abbrev pub unset_param : ℕ
unset_param = UNSET_PARAM

-- a transaction would SEIZE a facility that it owns
abbrev pub already_owned : ℕ
already_owned = ALREADY_OWNED

-- a transaction would RELEASE a facility that it doesn't own
abbrev pub not_owner : ℕ
not_owner = NOT_OWNER

-- a transaction would LEAVE or DEPART more units than it is sure to hold
abbrev pub too_few_units : ℕ
too_few_units = TOO_FEW_UNITS

-- a transaction would end while it owns a facility
abbrev pub owns_at_end : ℕ
owns_at_end = OWNS_AT_END

-- what is known of a transaction doesn't fit the row of the state table
abbrev pub edge_state : ℕ
edge_state = EDGE_STATE

-- what is known of a transaction doesn't fit the row of a user chain that it joins, or of the block to which it leaves one
abbrev pub chain_state : ℕ
chain_state = CHAIN_STATE

-- a block would use a parameter that isn't sure to hold a number
abbrev pub param_kind : ℕ
param_kind = PARAM_KIND

-- a transaction would ENTER a storage with more units than its capacity
abbrev pub over_capacity : ℕ
over_capacity = OVER_CAPACITY
