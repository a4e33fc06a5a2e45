-- Abstract states that own their lists, seen as abstract states.
use Rattle.std.specs.Prelude.{ℕ, List, map}
use Rattle.gw_rules.specs.Rows.{ParamKind, Num, Ret, Row}
use Rattle.gw_flow.specs.Known.{amounts_of}
use Rattle.gw_settle.specs.declared.known.KnownKind.{KnownKind}
use Rattle.gw_settle.specs.declared.known.KnownKind.TheVariants as known
use Rattle.gw_settle.specs.declared.known.KnownParam.{KnownParam}
use Rattle.gw_settle.specs.declared.known.Lists.{Lists}

-- what a parameter holds
abbrev pub kind_known : KnownKind → ParamKind
kind_known known.Num = Num
kind_known (known.Ret blocks) = Ret blocks

-- each parameter with what it holds
abbrev pub params_known : List KnownParam → List (ℕ × ParamKind)
params_known ps = map (λ (p : KnownParam). (p.number, kind_known p.kind)) ps

-- parameters, facilities and units as one state
abbrev pub known_viewed : Lists → Row
known_viewed lists = record { params = params_known lists.params; facilities = lists.facilities; units = amounts_of lists.units }
