use Rattle.std.proofs.Common.{◌≡◌, ◌∙◌, false, Some, None, List, get_or, refl}
use Rattle.gw_object.specs.declared.parts.ReturnRow.{ReturnRow}
use Rattle.gw_rules.specs.declared.set_parameters.ParameterKind.{ParameterKind}
use Rattle.gw_rules.specs.declared.set_parameters.ParameterKind.TheVariants as held
use Rattle.gw_rules.specs.declared.set_parameters.Parameter.{Parameter}
use Rattle.gw_rules.specs.Rows.{kind_fits}
use Rattle.gw_rules.specs.Seen.{kind_seen}
use Rattle.gw_flow.proofs.Holding.{each_by_entry}
use Rattle.gw_flow.proofs.fits.has_parameters.Goals as goal

-- where nothing is set, it doesn't suffice
none_set : (rows : List ReturnRow) (kind : ParameterKind) → kind_fits None (Some (kind_seen rows kind)) ≡ false
none_set rows held.Num = refl
none_set rows (held.RetTo b) = refl
none_set rows (held.Ret r) = refl

pub returns : goal.returns
returns c =
    let rows = c.args.by.now in
    c.has_each.ensures
    ∙ each_by_entry (λ (p : Parameter). p.number) (λ (p : Parameter). kind_seen rows p.kind) kind_fits c.args.held.now c.args.asked.now
    c.requires.held c.requires.asked (λ i d within. none_set rows (get_or c.args.asked.now i d).kind)
