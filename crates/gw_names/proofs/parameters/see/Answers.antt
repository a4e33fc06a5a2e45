use Rattle.std.proofs.Common.{◌≡◌, ◌<◌, ◌≤◌, length, true, false, nat_lt, is_some, sym, ap, ◌∙◌, arith}
use Rattle.std.specs.Prelude.{string_bytes}
use Rattle.std.specs.List.{list_any}
use Rattle.std.specs.Str.{bytes_eq}
use Rattle.std.proofs.lemmas.Bool.{lt-ltb}
use Rattle.std.proofs.lemmas.Bool.Decides.{nat_tests}
use Rattle.gw_names.specs.Ledger.{with_notes}
use Rattle.gw_names.specs.Sights.{parameter_in}
use Rattle.gw_names.specs.Sighting.{names_of}
use Rattle.gw_names.proofs.Declaring.{on_ok}
use Rattle.gw_names.proofs.Seeing.{seen_before, not_noted, seen_now, noted_now}
use Rattle.gw_names.proofs.Numbering.{name_found, names_counted}
use Rattle.gw_names.proofs.parameters.see.Goals as goal

pub returns-then-is_some-clause-names : goal.returns-then-is_some-clause-names
returns-then-is_some-clause-names c =
    let name = string_bytes c.args.name.now in
    let names = names_of c.args.parameters.now in
    let seen : list_any (bytes_eq name) names ≡ true = name_found c.args.parameters.now name ∙ ap is_some (sym c.value_of_name.ensures)
    ∙ sym c.is_some.ensures ∙ c.if-is_some.true in
    sym (seen_before parameter_in bytes_eq (length c.args.free.now) names c.args.line name seen)

pub returns-then-is_some-clause-ledger : goal.returns-then-is_some-clause-ledger
returns-then-is_some-clause-ledger c =
    let name = string_bytes c.args.name.now in
    let names = names_of c.args.parameters.now in
    let seen : list_any (bytes_eq name) names ≡ true = name_found c.args.parameters.now name ∙ ap is_some (sym c.value_of_name.ensures)
    ∙ sym c.is_some.ensures ∙ c.if-is_some.true in
    ap (with_notes c.args.ledger.now.least) (sym (not_noted parameter_in bytes_eq (length c.args.free.now) names c.args.line name seen))

pub returns-then-len-free-clause-names : goal.returns-then-len-free-clause-names
returns-then-len-free-clause-names c =
    let name = string_bytes c.args.name.now in
    let names = names_of c.args.parameters.now in
    let new : list_any (bytes_eq name) names ≡ false = name_found c.args.parameters.now name ∙ ap is_some (sym c.value_of_name.ensures)
    ∙ sym c.is_some.ensures ∙ c.if-is_some.false in
    let few : length names < length c.args.free.now = omega (arith, names_counted c.args.parameters.now) in
    on_ok c.add.result (λ grown. grown
    ∙ sym (seen_now parameter_in bytes_eq (length c.args.free.now) names c.args.line name new
    (lt-ltb (length names) (length c.args.free.now) few))) c.add.ensures.names

pub returns-else-len-free-clause-ledger : goal.returns-else-len-free-clause-ledger
returns-else-len-free-clause-ledger c =
    let name = string_bytes c.args.name.now in
    let names = names_of c.args.parameters.now in
    let new : list_any (bytes_eq name) names ≡ false = name_found c.args.parameters.now name ∙ ap is_some (sym c.value_of_name.ensures)
    ∙ sym c.is_some.ensures ∙ c.if-is_some.false in
    let many : length c.args.free.now ≤ length names = omega (arith, names_counted c.args.parameters.now) in
    let full : nat_lt (length names) (length c.args.free.now) ≡ false = grind (arith, nat_tests) in
    c.note.ensures ∙ ap (with_notes c.args.ledger.now.least) (sym (noted_now parameter_in bytes_eq (length c.args.free.now) names c.args.line name new full))
