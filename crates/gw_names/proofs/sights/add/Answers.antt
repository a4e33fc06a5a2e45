use Rattle.std.proofs.Common.{rules, ◌≡◌, length}
use Rattle.std.specs.Prelude.{string_bytes}
use Rattle.gw_names.proofs.Seeing.{sighted_more}
use Rattle.gw_names.proofs.sights.add.Goals as goal

pub returns-clause-sighted : goal.returns-clause-sighted
returns-clause-sighted c =
    let number : c.len-number.result ≡ length c.args.sighted.now.items = search rules in
    sighted_more c.args.declarations.now c.args.entities.now c.set.new.self c.args.sighted.now.items c.push.new.self.items
    c.in_ok-entity.entity c.args.kind (string_bytes c.args.name.now) c.len-number.result c.requires.sighted c.requires.new
    c.in_ok-push.ensures.items c.in_ok-entity.ensures.kind c.in_ok-entity.ensures.name c.in_ok-entity.ensures.declaration number c.in_ok-set.ensures
