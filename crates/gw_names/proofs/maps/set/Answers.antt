use Rattle.std.specs.Prelude.{string_bytes}
use Rattle.gw_names.proofs.Declaring.{set_adds}
use Rattle.gw_names.proofs.maps.set.Goals as goal

pub returns : goal.returns
returns g c = set_adds c.in_ok-name.name c.args.value c.args.map.now c.insert.new.self (string_bytes c.args.name.now)
    c.in_ok-name.ensures.cases c.in_ok-insert.ensures.updates
