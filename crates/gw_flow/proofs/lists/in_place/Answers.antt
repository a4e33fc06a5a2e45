use Rattle.std.proofs.Common.{rules, ◌≡◌, ◌++◌, [], ◌∷◌, nat_lt, ap₂, append_assoc, ◌∙◌}
use Rattle.std.specs.Prelude.{filter}
use Rattle.gw_flow.proofs.lists.in_place.Goals as goal

pub returns : goal.returns
returns g c =
    let key = g.T.Keyed.key in
    let below : c.in_ok-all.all.items ≡ filter (λ x. nat_lt (key x) (key c.args.item)) c.args.items.now = search rules in
    let above : c.in_ok-above.above.items ≡ filter (λ x. nat_lt (key c.args.item) (key x)) c.args.items.now = search rules in
    let whole : c.extend_from_slice.new.self.items ≡ c.in_ok-all.all.items ++ c.args.item ∷ [] ++ c.in_ok-above.above.items =
    c.in_ok-extend_from_slice.ensures.items ∙ ap₂ (λ xs ys. xs ++ ys) c.in_ok-push.ensures.items c.deref.ensures.value in
    whole ∙ append_assoc c.in_ok-all.all.items (c.args.item ∷ []) c.in_ok-above.above.items ∙ ap₂ (λ xs ys. xs ++ c.args.item ∷ ys) below above
