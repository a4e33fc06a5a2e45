use Rattle.std.proofs.Common.{◌∙◌, ap, ◌-◌, ◌<◌, ℤ, Some, ◌∷◌, arith, w64, to_z, of_z}
use Rattle.std.specs.Prelude.{None}
use Rattle.std.proofs.lemmas.Int.{to_z-of_z}
use Rattle.std.proofs.lemmas.List.{length-set}
use Rattle.std.proofs.lemmas.Nat.Bits.{bit_at_set_same, bit_at_set_other}
use Rattle.gw_num.specs.Table.{put}
use Rattle.gw_transactions.specs.Parameters.{Numbered, shown_from}
use Rattle.gw_transactions.proofs.Shown.{set-number, set-unset}
use Rattle.gw_transactions.proofs.parameters.Parameters.set.Goals as goal

pub invariant_of-self : goal.invariant_of-self
invariant_of-self c =
    let last = ap (λ (v : Numbered). v.last) c.self.view_is in
    let within : c.args.number - 1 < 64 = omega (arith, last, c.requires.0, c.requires.1, c.self.invariant.few) in
    record {
      few = omega (arith, length-set c.self.inside.slots.items (c.args.number - 1) (to_z w64 (of_z w64 c.args.value)), c.self.invariant.few);
      unset = set-unset c.self.inside.mask _ (c.args.number - 1) (to_z w64 (of_z w64 c.args.value)) c.self.inside.slots.items
          (bit_at_set_same w64 c.self.inside.mask (c.args.number - 1) within)
          (bit_at_set_other w64 c.self.inside.mask (c.args.number - 1) within)
          c.self.invariant.unset;
    }

pub returns-clause-values : goal.returns-clause-values
returns-clause-values c =
    let last = ap (λ (v : Numbered). v.last) c.self.view_is in
    let within : c.args.number - 1 < 64 = omega (arith, last, c.requires.0, c.requires.1, c.self.invariant.few) in
    set-number c.self.inside.mask _ c.args.number (to_z w64 (of_z w64 c.args.value)) c.self.inside.slots.items c.requires.0 (omega (arith, last, c.requires.1))
    (bit_at_set_same w64 c.self.inside.mask (c.args.number - 1) within)
    (bit_at_set_other w64 c.self.inside.mask (c.args.number - 1) within)
    ∙ ap (λ (v : ℤ). put None (None ∷ shown_from 0 c.self.inside.mask c.self.inside.slots.items) c.args.number (Some v))
    (to_z-of_z w64 c.args.value c.ranges.value)
    ∙ ap (λ (v : Numbered). put None v.values c.args.number (Some c.args.value)) c.self.view_is

pub returns-clause-last : goal.returns-clause-last
returns-clause-last c =
    length-set c.self.inside.slots.items (c.args.number - 1) (to_z w64 (of_z w64 c.args.value)) ∙ ap (λ (v : Numbered). v.last) c.self.view_is
