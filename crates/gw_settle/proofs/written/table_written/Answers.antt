use Rattle.std.proofs.Common.{◌≡◌, [], sym, ap, subst, ◌∙◌}
use Rattle.std.proofs.lemmas.Result.{err_from_is_err_and}
use Rattle.gw_settle.specs.Numbers.{sets_of, with_rows, sets_in, MayAddRows}
use Rattle.gw_settle.specs.Rounds.{rows_of}
use Rattle.gw_settle.specs.Written.{RowsFit, CanBeWritten}
use Rattle.gw_settle.proofs.Stopping.{stops_weaker, few_blocks}
use Rattle.gw_settle.proofs.written.table_written.Goals as goal

pub returns-in_err-add_states-clause-stops : goal.returns-in_err-add_states-clause-stops
returns-in_err-add_states-clause-stops c =
    let p = err_from_is_err_and c.from_residual.result c.from_residual.ensures.1 in
    let bs = c.args.blocks.now in
    let cs = c.args.chains.now in
    rw (p.1, p.2) (stops_weaker (CanBeWritten (rows_of bs cs)) (MayAddRows bs c.new-returns.result.items) _
    (λ can. subst (λ rs. MayAddRows bs rs) (sym c.new-returns.ensures.items) (few_blocks (with_rows [] bs) cs can.sets)) c.in_err-add_states.ensures.stops)

pub returns-in_err-states-clause-stops : goal.returns-in_err-states-clause-stops
returns-in_err-states-clause-stops c =
    let p = err_from_is_err_and c.from_residual-in_err-states.result c.from_residual-in_err-states.ensures.1 in
    let bs = c.args.blocks.now in
    let cs = c.args.chains.now in
    let first = c.in_ok-add_states.ensures.sets ∙ ap (λ rs. with_rows (sets_of rs) bs) c.new-returns.ensures.items in
    let same : sets_of c.deref.result.now ≡ sets_in (rows_of bs cs) = ap sets_of c.deref.ensures.value ∙ c.in_ok-add_states-2.ensures.sets
    ∙ ap (λ sets. with_rows sets cs) first in
    rw (p.1, p.2) (stops_weaker (CanBeWritten (rows_of bs cs)) (RowsFit (sets_of c.deref.result.now) bs) _
    (λ can. subst (λ sets. RowsFit sets bs) (sym same) can.blocks) c.in_err-states.ensures.stops)

pub returns-in_err-chain_states-clause-stops : goal.returns-in_err-chain_states-clause-stops
returns-in_err-chain_states-clause-stops c =
    let p = err_from_is_err_and c.from_residual-in_err-chain_states.result c.from_residual-in_err-chain_states.ensures.1 in
    let bs = c.args.blocks.now in
    let cs = c.args.chains.now in
    let first = c.in_ok-add_states.ensures.sets ∙ ap (λ rs. with_rows (sets_of rs) bs) c.new-returns.ensures.items in
    let same : sets_of c.deref-2.result.now ≡ sets_in (rows_of bs cs) = ap sets_of c.deref-2.ensures.value
    ∙ c.in_ok-add_states-2.ensures.sets ∙ ap (λ sets. with_rows sets cs) first in
    rw (p.1, p.2) (stops_weaker (CanBeWritten (rows_of bs cs)) (RowsFit (sets_of c.deref-2.result.now) cs) _
    (λ can. subst (λ sets. RowsFit sets cs) (sym same) can.chains) c.in_err-chain_states.ensures.stops)
