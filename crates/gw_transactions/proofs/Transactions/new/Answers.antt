use Rattle.std.proofs.Common.{◌≡◌, ◌∙◌, sym, None, is_some, count_by, ap, arith}
use Rattle.std.specs.Prelude.{slice_index_or}
use Rattle.slab.specs.Slab.{slab_len}
use Rattle.gw_transactions.specs.Parameters.{Numbered, none_of}
use Rattle.gw_transactions.proofs.Slots.{numbered-none}
use Rattle.gw_transactions.proofs.Here.{none_counted}
use Rattle.gw_transactions.proofs.Transactions.new.Goals as goal

pub invariant_of-result : goal.invariant_of-result
invariant_of-result c =
    let len : slab_len c.new-2.result ≡ 0 = ap (count_by is_some) c.new-2.ensures.empty in
    let none : slab_len c.new-3.result ≡ 0 = ap (count_by is_some) c.new-3.ensures.empty in (
      numbered-none c.new-2.result.slots c.new-2.ensures.empty,
      omega (arith, len),
      none_counted c.in_ok-here.here 4097 c.new-3.result c.new-2.result.slots c.in_ok-here.ensures c.new-2.ensures.empty,
      record {
        room = omega (arith, none);
        alike = λ p a there. let nothing = ap (λ slots. slice_index_or slots p None) (sym c.new-2.ensures.empty) ∙ there in absurd (cc);
        there = λ p a there some. let nothing = ap (λ slots. slice_index_or slots p None) (sym c.new-2.ensures.empty) ∙ there in absurd (cc);
        apart = λ p q a b there here some same. let nothing = ap (λ slots. slice_index_or slots p None) (sym c.new-2.ensures.empty) ∙ there in absurd (cc);
        none = λ zero_is key. ap (λ slots. slice_index_or slots key None) c.new-3.ensures.empty;
      },
      c.in_ok-unset.ensures ∙ ap none_of (sym (ap (λ (n : Numbered). n.last) c.in_ok-unset.ensures)),
    )
