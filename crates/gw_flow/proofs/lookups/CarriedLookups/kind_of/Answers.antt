use Rattle.std.proofs.Common.{rules, of_calls, ◌≡◌, ◌∙◌, ap}
use Rattle.std.specs.Prelude.{option_map}
use Rattle.gw_rules.specs.declared.set_parameters.Parameter.{Parameter}
use Rattle.gw_rules.specs.Entries.{entry}
use Rattle.gw_rules.specs.Seen.{kind_seen}
use Rattle.gw_flow.specs.Known.{params_of}
use Rattle.gw_flow.specs.Viewed.{kind_viewed}
use Rattle.gw_rules.proofs.Entries.{entry-of_key}
use Rattle.gw_flow.proofs.lookups.CarriedLookups.kind_of.Goals as goal

pub returns : goal.returns
returns c =
    let kind : option_map kind_viewed c.map.result
    ≡ option_map (λ (p : Parameter). kind_seen c.args.self.now.returns.now p.kind) c.of_key.result = search (rules, of_calls) in
    kind ∙ ap (option_map (λ (p : Parameter). kind_seen c.args.self.now.returns.now p.kind)) c.of_key.ensures
    ∙ entry-of_key (λ (p : Parameter). p.number) (λ (p : Parameter). kind_seen c.args.self.now.returns.now p.kind) c.args.parameter
    c.as_slice-parameters.result.now
    ∙ ap (λ ps. entry (params_of c.args.self.now.returns.now ps) c.args.parameter) (search rules)
