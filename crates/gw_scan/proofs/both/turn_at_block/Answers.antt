use Rattle.std.proofs.Common.{◌≡◌, ◌∙◌, Some, sym, ap}
use Rattle.gw_object.specs.declared.parts.Parts.{Parts}
use Rattle.gw_step.specs.Turning.{two_next}
use Rattle.gw_scan.specs.declared.visit.Visit.{Visit}
use Rattle.gw_scan.proofs.Ready.{is_visit, may_try_first, may_try_second, one_next}
use Rattle.gw_scan.proofs.both.turn_at_block.Goals as goal

pub turn_or_wait-requires-clause-first : goal.turn_or_wait-requires-clause-first
turn_or_wait-requires-clause-first c =
    let v : Visit = record { verified = c.args.verified; tx = c.args.tx; transaction = c.transaction-transaction.result } in
    let is = is_visit v c.args.machine.now c.requires.ready c.requires.active c.requires.held c.transaction-transaction.ensures in
    may_try_first v c.args.machine.now c.requires.ready is c.in-Some.pair
    (ap (λ (p : Parts). two_next p c.transaction-transaction.result) (sym (c.parts.ensures.value ∙ c.object.ensures.value))
    ∙ sym c.two_next.ensures ∙ c.in-Some.is)

pub turn_or_wait-requires-clause-second : goal.turn_or_wait-requires-clause-second
turn_or_wait-requires-clause-second c =
    let v : Visit = record { verified = c.args.verified; tx = c.args.tx; transaction = c.transaction-transaction.result } in
    let is = is_visit v c.args.machine.now c.requires.ready c.requires.active c.requires.held c.transaction-transaction.ensures in
    may_try_second v c.args.machine.now c.requires.ready is c.in-Some.pair
    (ap (λ (p : Parts). two_next p c.transaction-transaction.result) (sym (c.parts.ensures.value ∙ c.object.ensures.value))
    ∙ sym c.two_next.ensures ∙ c.in-Some.is)

pub returns-in-None : goal.returns-in-None
returns-in-None c t found =
    let v : Visit = record { verified = c.args.verified; tx = c.args.tx; transaction = t } in
    let is = is_visit v c.args.machine.now c.requires.ready c.requires.active c.requires.held found in
    let there : Some t ≡ Some c.transaction-transaction.result = sym found ∙ c.transaction-transaction.ensures in
    let same : t ≡ c.transaction-transaction.result = cc in (
      t.next,
      one_next v c.args.machine.now c.requires.ready is c.args.before.now
          (ap (two_next c.args.verified.now) same
          ∙ ap (λ (p : Parts). two_next p c.transaction-transaction.result) (sym (c.parts.ensures.value ∙ c.object.ensures.value))
          ∙ sym c.two_next.ensures ∙ c.in-None.is)
          c.requires.before,
    )
