use Rattle.std.proofs.Common.{◌≡◌, [], map, sym, ap, ◌∙◌}
use Rattle.gw_name_uses.specs.Sites.{mention_at, mentioned_in}
use Rattle.gw_names.specs.Ledger.{with_notes}
use Rattle.gw_names.specs.Sights.{entity_limits_after, parameter_limits_among}
use Rattle.gw_names.specs.Sighting.{keys_of}
use Rattle.gw_names.proofs.Declaring.{on_ok}
use Rattle.gw_names.proofs.Knowing.{limits_noted}
use Rattle.gw_names.proofs.known.know_all.Goals as goal

pub returns-clause-ledger : goal.returns-clause-ledger
returns-clause-ledger c =
    let ms = map mention_at c.as_slice.result.now in
    let is : ms ≡ mentioned_in c.args.statements.now = ap (map mention_at) c.as_slice.ensures.value ∙ c.in_ok-sites.ensures in
    let again : map mention_at c.as_slice-2.result.now ≡ ms = ap (map mention_at) (c.as_slice-2.ensures.value ∙ sym c.as_slice.ensures.value) in
    let before = c.args.ledger.now.least in
    let between = c.see_sites.new.ledger.least in
    let first : between ≡ with_notes before (entity_limits_after [] ms) =
    c.in_ok-see_sites.ensures.ledger ∙ ap (λ l. with_notes before (entity_limits_after (keys_of l) ms)) c.requires.sighted in
    let second : c.parameters_in.new.ledger.least ≡ with_notes between (parameter_limits_among ms) =
    c.in_ok-known.ensures.ledger ∙ ap (λ l. with_notes between (parameter_limits_among l)) again in
    on_ok c.label_all.result
    (λ knows. limits_noted c.args.statements.now ms is before between c.parameters_in.new.ledger.least first second) c.label_all.ensures
