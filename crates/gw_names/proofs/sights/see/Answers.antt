use Rattle.std.proofs.Common.{rules, ◌≡◌, ◌<◌, ◌≤◌, length, true, false, nat_lt, is_some, sym, ap, ◌∙◌, arith}
use Rattle.std.specs.Prelude.{string_bytes}
use Rattle.std.specs.List.{list_any}
use Rattle.std.proofs.lemmas.Bool.{lt-ltb}
use Rattle.std.proofs.lemmas.Bool.Decides.{nat_tests}
use Rattle.std.proofs.lemmas.List.{length-map}
use Rattle.gw_names.specs.Known.{key, is_same}
use Rattle.gw_names.specs.Ledger.{with_notes}
use Rattle.gw_names.specs.Sights.{entity_in, most_entities}
use Rattle.gw_names.specs.Sighting.{key_of, keys_of}
use Rattle.gw_names.proofs.Declaring.{on_ok}
use Rattle.gw_names.proofs.Seeing.{entity_seen, seen_before, not_noted, seen_now, noted_now}
use Rattle.gw_names.proofs.sights.see.Goals.{After-is_some}
use Rattle.gw_names.proofs.sights.see.Goals as goal

-- whether the entity was seen before is what the map says
known : (c : goal.After-is_some) → list_any (is_same (key c.args.kind (string_bytes c.args.name.now))) (keys_of c.args.sighted.now.items) ≡ c.is_some.result
known c =
    entity_seen c.args.declarations.now c.args.entities.now c.args.sighted.now.items c.args.kind (string_bytes c.args.name.now) c.requires.sighted
    ∙ ap is_some (sym c.get.ensures) ∙ sym c.is_some.ensures

pub returns-then-is_some-clause-keys : goal.returns-then-is_some-clause-keys
returns-then-is_some-clause-keys c =
    let entity = key c.args.kind (string_bytes c.args.name.now) in
    let seen = known (goal.at.returns-then-is_some-clause-keys c).After-is_some ∙ c.if-is_some.true in
    sym (seen_before entity_in is_same most_entities (keys_of c.args.sighted.now.items) c.args.line entity seen)

pub returns-then-is_some-clause-ledger : goal.returns-then-is_some-clause-ledger
returns-then-is_some-clause-ledger c =
    let entity = key c.args.kind (string_bytes c.args.name.now) in
    let seen = known (goal.at.returns-then-is_some-clause-ledger c).After-is_some ∙ c.if-is_some.true in
    ap (with_notes c.args.ledger.now.least) (sym (not_noted entity_in is_same most_entities (keys_of c.args.sighted.now.items) c.args.line entity seen))

pub returns-then-len-lt-MOST_ENTITIES-clause-keys : goal.returns-then-len-lt-MOST_ENTITIES-clause-keys
returns-then-len-lt-MOST_ENTITIES-clause-keys c =
    let keys = keys_of c.args.sighted.now.items in
    let new = known (goal.at.returns-then-len-lt-MOST_ENTITIES-clause-keys c).After-is_some ∙ c.if-is_some.false in
    let long : c.len.result ≡ length c.args.sighted.now.items = search rules in
    let few : length keys < 1024 = omega (arith, length-map c.args.sighted.now.items key_of) in
    on_ok c.add.result (λ grown. grown
    ∙ sym (seen_now entity_in is_same most_entities keys c.args.line (key c.args.kind (string_bytes c.args.name.now)) new
    (lt-ltb (length keys) 1024 few))) c.add.ensures.keys

pub returns-else-len-lt-MOST_ENTITIES-clause-ledger : goal.returns-else-len-lt-MOST_ENTITIES-clause-ledger
returns-else-len-lt-MOST_ENTITIES-clause-ledger c =
    let keys = keys_of c.args.sighted.now.items in
    let long : c.len.result ≡ length c.args.sighted.now.items = search rules in
    let new = known (goal.at.returns-else-len-lt-MOST_ENTITIES-clause-ledger c).After-is_some ∙ c.if-is_some.false in
    let many : 1024 ≤ length keys = omega (arith, length-map c.args.sighted.now.items key_of) in
    let full : nat_lt (length keys) 1024 ≡ false = grind (arith, nat_tests) in
    c.note.ensures ∙ ap (with_notes c.args.ledger.now.least)
    (sym (noted_now entity_in is_same most_entities keys c.args.line (key c.args.kind (string_bytes c.args.name.now)) new full))
