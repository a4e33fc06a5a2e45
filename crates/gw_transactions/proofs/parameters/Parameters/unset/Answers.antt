use Rattle.std.proofs.Common.{rules, ◌≡◌, ◌∙◌, ap, ℤ, pos, List, ◌∷◌, length, replicate, arith}
use Rattle.std.specs.Prelude.{None}
use Rattle.std.proofs.lemmas.List.{length-replicate}
use Rattle.gw_num.specs.Table.{at}
use Rattle.gw_transactions.specs.Parameters.{numbered_slots, none_of}
use Rattle.gw_transactions.proofs.Shown.{none_shown, zero_at}
use Rattle.gw_transactions.proofs.parameters.Parameters.unset.Goals as goal

zeros : (c : goal.In_ok-slots) → c.in_ok-slots.slots.items ≡ replicate c.args.last (pos 0)
zeros c = search rules

pub invariant_of-result : goal.invariant_of-result
invariant_of-result c = record {
  few = omega (arith, ap (λ (xs : List ℤ). length xs) (zeros c), length-replicate c.args.last (pos 0), c.requires);
  unset = λ place none. ap (λ (xs : List ℤ). at (pos 0) xs place) (zeros c) ∙ zero_at c.args.last place;
}

pub returns : goal.returns
returns c =
    ap (λ (xs : List ℤ). numbered_slots 0 xs) (zeros c)
    ∙ ap (λ values. record { values = None ∷ values; last = length (replicate c.args.last (pos 0)) }) (none_shown 0 c.args.last (omega (arith, c.requires)))
    ∙ ap (λ last. none_of last) (length-replicate c.args.last (pos 0))
