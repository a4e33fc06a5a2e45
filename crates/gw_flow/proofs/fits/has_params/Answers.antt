use Rattle.std.proofs.Common.{◌≡◌, ◌∙◌, false, Some, None, get_or, refl}
use Rattle.gw_flow.specs.declared.state.ParamKind.{ParamKind as Working}
use Rattle.gw_flow.specs.declared.state.ParamKind.TheVariants as held
use Rattle.gw_flow.specs.declared.state.Param.{Param}
use Rattle.gw_rules.specs.Rows.{kind_fits}
use Rattle.gw_flow.specs.Viewed.{kind_viewed}
use Rattle.gw_flow.proofs.Holding.{each_by_entry}
use Rattle.gw_flow.proofs.fits.has_params.Goals as goal

-- where nothing is set, it doesn't suffice
none_set : (kind : Working) → kind_fits None (Some (kind_viewed kind)) ≡ false
none_set held.Num = refl
none_set (held.RetTo b) = refl
none_set (held.Ret bs) = refl

pub returns : goal.returns
returns c =
    c.has_each.ensures
    ∙ each_by_entry (λ (p : Param). p.number) (λ (p : Param). kind_viewed p.kind) kind_fits c.args.held.now c.args.asked.now
    c.requires.held c.requires.asked (λ i d within. none_set (get_or c.args.asked.now i d).kind)
