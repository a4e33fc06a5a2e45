use Rattle.std.proofs.Common.{rules, of_calls, ◌≡◌, ◌∙◌, ap}
use Rattle.std.specs.Prelude.{option_map}
use Rattle.gw_flow.specs.declared.state.Param.{Param}
use Rattle.gw_rules.specs.Rows.{Row, kind_of}
use Rattle.gw_rules.specs.Entries.{entry}
use Rattle.gw_flow.specs.Viewed.{kind_viewed, params_viewed}
use Rattle.gw_rules.proofs.Entries.{entry-of_key}
use Rattle.gw_flow.proofs.state.StateLookups.kind_of.Goals as goal

pub returns : goal.returns
returns c =
    let kind : option_map kind_viewed c.map.result ≡ option_map (λ (p : Param). kind_viewed p.kind) c.of_key.result = search (rules, of_calls) in
    kind ∙ ap (option_map (λ (p : Param). kind_viewed p.kind)) c.of_key.ensures
    ∙ entry-of_key (λ (p : Param). p.number) (λ (p : Param). kind_viewed p.kind) c.args.parameter c.as_slice.result.now
    ∙ ap (λ ps. entry (params_viewed ps) c.args.parameter) c.as_slice.ensures
    ∙ ap (λ (row : Row). kind_of row c.args.parameter) c.self.view_is
