use Rattle.std.proofs.Common.{rules, ◌≡◌, ◌==◌, Some, None, refl}
use Rattle.std.specs.List.{find}
use Rattle.gw_object.specs.declared.parts.TableParameter.{TableParameter}
use Rattle.gw_weights.proofs.Reading.{kind_read}
use Rattle.gw_weights.proofs.slopes.is_number.Goals as goal

pub returns-in-Some : goal.returns-in-Some
returns-in-Some c =
    let found : find (λ (set : TableParameter). set.number == c.args.parameter) c.args.row.now.parameters ≡ Some c.in-Some.set = search rules in
    rw (kind_read c.args.parts.now.returns c.args.row.now c.args.parameter, found) c.is_number_kind.ensures

pub returns-in-None : goal.returns-in-None
returns-in-None c =
    let none : find (λ (set : TableParameter). set.number == c.args.parameter) c.args.row.now.parameters ≡ None = search rules in
    rw (kind_read c.args.parts.now.returns c.args.row.now c.args.parameter, none) refl
