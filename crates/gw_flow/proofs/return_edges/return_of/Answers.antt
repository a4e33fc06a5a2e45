use Rattle.std.proofs.Common.{rules, of_calls, ◌≡◌, ◌∙◌, ap}
use Rattle.std.specs.Prelude.{option_map}
use Rattle.gw_rules.specs.declared.set_parameters.Parameter.{Parameter}
use Rattle.gw_flow.specs.declared.return_edges.Return.{Return}
use Rattle.gw_rules.specs.Entries.{entry}
use Rattle.gw_rules.specs.Seen.{kind_seen}
use Rattle.gw_flow.specs.Known.{params_of}
use Rattle.gw_rules.proofs.Entries.{entry-of_key}
use Rattle.gw_flow.proofs.return_edges.return_of.Goals as goal

pub returns-clause-kind : goal.returns-clause-kind
returns-clause-kind c = λ returns.
    let kind : option_map (λ (r : Return). kind_seen returns r.kind) c.map.result
    ≡ option_map (λ (p : Parameter). kind_seen returns p.kind) c.of_key.result = search (rules, of_calls) in
    kind ∙ ap (option_map (λ (p : Parameter). kind_seen returns p.kind)) c.of_key.ensures
    ∙ entry-of_key (λ (p : Parameter). p.number) (λ (p : Parameter). kind_seen returns p.kind) c.args.parameter c.as_slice-parameters.result.now
    ∙ ap (λ ps. entry (params_of returns ps) c.args.parameter) (search rules)
