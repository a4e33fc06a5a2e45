use Rattle.std.proofs.Common.{◌≡◌, ◌-◌, Some, length, refl, sym, ap, ◌∙◌}
use Rattle.std.specs.Prelude.{option_map, slice_get}
use Rattle.std.specs.Option.{option_flatten}
use Rattle.std.proofs.lemmas.Bool.{ltb-true}
use Rattle.std.proofs.lemmas.Option.{slice_get_read}
use Rattle.gw_rules.specs.Seen.{row_meaning}
use Rattle.gw_weights.proofs.Reading.{row_seen, seen_behind}
use Rattle.gw_weights.proofs.check.own_row.Goals as goal

pub returns : goal.returns
returns c =
    let see = row_meaning c.args.parts.now.returns in
    let states = c.as_slice.result.now in
    let item = c.in_ok-get.ensures.lookup in
    let stands : slice_get states (c.args.number - 1) ≡ Some c.in_ok-get.field-0.now =
    slice_get_read states (length states) (c.args.number - 1) c.in_ok-get.field-0.now refl (ltb-true _ _ (sym item.0)) item.1 in
    seen_behind see c.as_ref.result
    ∙ ap (option_map see) (c.as_ref.ensures.value ∙ sym (ap option_flatten stands)
    ∙ ap (λ rows. option_flatten (slice_get rows (c.args.number - 1))) c.as_slice.ensures)
    ∙ sym (row_seen see c.args.parts.now.states c.args.number c.if-number-eq0.false)
