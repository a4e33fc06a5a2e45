use Rattle.std.proofs.Common.{rules, of_calls, ◌≡◌, ◌∙◌, ap}
use Rattle.std.specs.Prelude.{option_map, unwrap_or}
use Rattle.gw_flow.specs.declared.abstract_state.Amount.{Amount}
use Rattle.gw_rules.proofs.Entries.{entry-of_key}
use Rattle.gw_flow.proofs.lists.amount_in.Goals as goal

pub returns : goal.returns
returns c =
    let number : c.map_or.result ≡ unwrap_or (option_map (λ (a : Amount). a.number) c.of_key.result) 0 = search (rules, of_calls) in
    number ∙ ap (λ found. unwrap_or (option_map (λ (a : Amount). a.number) found) 0) c.of_key.ensures
    ∙ ap (λ n. unwrap_or n 0) (entry-of_key (λ (a : Amount). a.entity) (λ (a : Amount). a.number) c.args.entity c.args.amounts.now)
