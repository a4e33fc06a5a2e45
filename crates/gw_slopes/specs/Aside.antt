-- What parts have of their own while slopes are tried in them.
use Rattle.std.specs.Prelude.{[]}
use Rattle.gw_object.specs.declared.parts.Parts.{Parts}
use Rattle.gw_slopes.specs.declared.weighing.Own.{Own}

-- parts without it
abbrev pub without_slopes : Parts → Parts
without_slopes p = record p { weights = []; slopes = []; chain_weights = [] }

-- what they have of it
abbrev pub own_of : Parts → Own
own_of p = record { version = p.version; weights = p.weights; slopes = p.slopes; chain_weights = p.chain_weights }

-- parts with it
abbrev pub with_own : Parts → Own → Parts
with_own p own = record p { version = own.version; weights = own.weights; slopes = own.slopes; chain_weights = own.chain_weights }
