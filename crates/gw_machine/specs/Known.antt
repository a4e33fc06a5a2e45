-- The wants of a list, as the code keeps them.
use Rattle.std.specs.Prelude.{List, Vec}
use Rattle.std.specs.Global.{Global}
use Rattle.gw_machine.specs.declared.wants.Want.{Want}

-- in their order
abbrev pub wants_of : Vec Want Global → List Want
wants_of v = v.items
