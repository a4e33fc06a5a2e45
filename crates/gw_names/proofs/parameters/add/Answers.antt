use Rattle.std.proofs.Common.{◌∷◌, []}
use Rattle.std.specs.Prelude.{string_bytes}
use Rattle.gw_names.specs.Known.{found_in}
use Rattle.gw_names.specs.Places.{Adds}
use Rattle.gw_names.proofs.Declaring.{set_adds}
use Rattle.gw_names.proofs.Numbering.{names_more, numbers_more}
use Rattle.gw_names.proofs.parameters.add.Goals as goal

pub returns-clause-names : goal.returns-clause-names
returns-clause-names c =
    names_more c.args.parameters.now c.insert.new.self c.in_ok-name.name c.args.number (string_bytes c.args.name.now)
    c.in_ok-name.ensures.cases c.requires.new c.in_ok-insert.ensures.entries

pub returns-clause-given : goal.returns-clause-given
returns-clause-given c =
    let name = string_bytes c.args.name.now in
    let adds : Adds ((name, c.args.number) ∷ []) (found_in c.args.parameters.now) (found_in c.insert.new.self) =
    set_adds c.in_ok-name.name c.args.number c.args.parameters.now c.insert.new.self name c.in_ok-name.ensures.cases c.in_ok-insert.ensures.updates in
    let grown = names_more c.args.parameters.now c.insert.new.self c.in_ok-name.name c.args.number name c.in_ok-name.ensures.cases
    c.requires.new c.in_ok-insert.ensures.entries in
    numbers_more c.args.free.now c.args.parameters.now c.insert.new.self c.args.number name c.requires.given c.requires.new c.requires.number adds grown
