use Rattle.std.proofs.Common.{◌≡◌, ◌∙◌, sym, ap}
use Rattle.gw_names.specs.Known.{found_in}
use Rattle.gw_names.specs.Ledger.{with_notes}
use Rattle.gw_names.specs.Judgement.{declared_by, refusals_by}
use Rattle.gw_names.specs.Places.{equ_number_of}
use Rattle.gw_names.proofs.Knowing.{refusals_are}
use Rattle.gw_pieces.specs.Naming.{callee_of, equ_by}
use Rattle.gw_pieces.specs.Order.{order_in}
use Rattle.gw_pieces.specs.Reasons.{surplus_in}
use Rattle.gw_pieces.proofs.Noted.{none_noted}
use Rattle.gw_pieces.proofs.planning.judged.Goals as goal

pub returns-clause-few : goal.returns-clause-few
returns-clause-few c = λ none.
    let g = c.in_ok-order.ensures.few none in (
      (none_noted c.args.ledger.now.least (refusals_by (declared_by c.args.known.now) c.as_slice.result.now)
          (sym c.in_ok-check_uses.ensures.judged ∙ g.0)).0,
      g.1,
    )

pub returns-clause-named : goal.returns-clause-named
returns-clause-named c = λ none.
    let ss = c.args.text.now.statements.items in
    let same = ap (λ xs. refusals_by (declared_by c.args.known.now) xs) c.as_slice.ensures.value in
    let are = refusals_are ss c.args.known.now c.requires in
    let g = c.in_ok-order.ensures.few none in
    let n = none_noted c.args.ledger.now.least (refusals_by (declared_by c.args.known.now) c.as_slice.result.now)
    (sym c.in_ok-check_uses.ensures.judged ∙ g.0) in
    (n.0, sym (same ∙ are) ∙ n.1)

pub returns-clause-notes : goal.returns-clause-notes
returns-clause-notes c =
    let ss = c.args.text.now.statements.items in
    let least = c.args.ledger.now.least in
    let same = ap (λ xs. with_notes least (refusals_by (declared_by c.args.known.now) xs)) c.as_slice.ensures.value in
    let are = ap (with_notes least) (refusals_are ss c.args.known.now c.requires) in
    c.in_ok-order.ensures.notes ∙ ap (λ before. with_notes before (surplus_in ss (order_in ss))) (c.in_ok-check_uses.ensures.judged ∙ same ∙ are)

pub returns-clause-meanings : goal.returns-clause-meanings
returns-clause-meanings c =
    let ss = c.args.text.now.statements.items in
    let order = c.in_ok-order.order.items in
    let numbers : (λ name. found_in c.args.known.now.equ_numbers name) ≡ equ_number_of ss = λ j name. c.requires.places.equ_number name j in
    record {
      procedures = λ name. c.in_ok-meanings.ensures.procedures name ∙ ap (λ l. callee_of ss l name) c.deref.ensures.value;
      equs = λ name. c.in_ok-meanings.ensures.equs name
          ∙ ap (λ l. equ_by (found_in c.args.known.now.equ_numbers) ss l name) c.deref.ensures.value ∙ ap (λ f. equ_by f ss order name) numbers;
    }
