use Rattle.std.proofs.Common.{◌≡◌, ◌≤◌, ◌-◌, ◌/◌, ◌^◌, ◌∙◌, ap, sym, rules, length, w64, to_z, of_z}
use Rattle.std.specs.Prelude.{None}
use Rattle.std.specs.Int.{bit_at}
use Rattle.std.proofs.lemmas.Nat.{and_mask}
use Rattle.gw_num.specs.Table.{at}
use Rattle.gw_transactions.specs.Parameters.{Numbered, slot}
use Rattle.gw_transactions.proofs.Shown.{without_slot, with_slot, without_bit}
use Rattle.gw_transactions.proofs.parameters.Parameters.get_if_set.Goals as goal
use Rattle.gw_transactions.proofs.parameters.Parameters.get_if_set.Goals.{Else-is_set}

pub returns-then-not-has_slot : goal.returns-then-not-has_slot
returns-then-not-has_slot c =
    sym (without_slot c.self.inside.mask c.args.number c.self.inside.slots.items (search rules))
    ∙ ap (λ (v : Numbered). at None v.values c.args.number) c.self.view_is

pub returns-then-is_set : goal.returns-then-is_set
returns-then-is_set c =
    let place = c.args.number - 1 in
    let value = to_z w64 (of_z w64 c.index.result.now) in
    let has_slot : (1 ≤ c.args.number) × (c.args.number ≤ length c.self.inside.slots.items) = search rules in
    let set : bit_at c.self.inside.mask place ≡ 1 = sym (and_mask (c.self.inside.mask / 2 ^ place) 1) ∙ c.if-is_set.true in
    ap (λ bit. slot bit value) (sym set)
    ∙ sym (with_slot c.self.inside.mask c.args.number c.self.inside.slots.items value has_slot.0 has_slot.1 (search rules))
    ∙ ap (λ (v : Numbered). at None v.values c.args.number) c.self.view_is

some : (c : Else-is_set) → 1 ≤ c.args.number
some c = search rules

pub returns-else-is_set : goal.returns-else-is_set
returns-else-is_set c =
    let place = c.args.number - 1 in
    sym (without_bit c.self.inside.mask c.args.number c.self.inside.slots.items (some c)
    (λ one. c.if-is_set.false (and_mask (c.self.inside.mask / 2 ^ place) 1 ∙ one)))
    ∙ ap (λ (v : Numbered). at None v.values c.args.number) c.self.view_is
