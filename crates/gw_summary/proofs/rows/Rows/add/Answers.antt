use Rattle.std.proofs.Common.{◌∷◌, [], ap, subst, sym}
use Rattle.gw_summary.specs.Holding.{IsHeaderFound, IsHeaderRead, IsRowLeft}
use Rattle.gw_summary.specs.StudyRows.{IsHeld}
use Rattle.gw_summary.specs.declared.rows.Rows.{Rows}
use Rattle.gw_summary.proofs.HoldingLines.{header_no_refusal_header, row_no_header, some_header}
use Rattle.gw_summary.proofs.HoldingRows.{begun_by, header_then, holds_header, row_then, then_well}
use Rattle.gw_summary.proofs.Taking.{then_ok, same_then, takes_then, takes_header}
use Rattle.gw_summary.proofs.rows.Rows.add.Goals as goal

pub returns-then-branch-clause-takes : goal.returns-then-branch-clause-takes
returns-then-branch-clause-takes c =
    let old = c.args.self.now in
    let line = c.args.line.now in
    let middle = c.add_header.new.self in
    let same = c.in_ok-add_header.ensures.same in
    let header = takes_header line old middle (c.in_ok-add_header.ensures.header c.if-branch.true) same in
    then_ok c.add_all_waiting.result (λ t. takes_then (line ∷ []) [] old middle c.add_all_waiting.new.self header t) c.add_all_waiting.ensures.takes

pub returns-else-branch-clause-takes : goal.returns-else-branch-clause-takes
returns-else-branch-clause-takes c =
    let same = c.in_ok-add_header.ensures.same in
    then_ok c.add_other.result (λ t. same_then (c.args.line.now ∷ []) c.args.self.now c.add_header.new.self c.add_other.new.self same t)
    c.add_other.ensures.takes

pub returns-then-is_refusal_header-clause-study : goal.returns-then-is_refusal_header-clause-study
returns-then-is_refusal_header-clause-study c = λ s readable is held. record {
  held = held;
  header = λ header.
      absurd (header_no_refusal_header s c.args.line.now readable header (c.is_refusal_header.ensures c.if-is_refusal_header.true));
  stays = λ some. some;
}

pub returns-then-branch-clause-study : goal.returns-then-branch-clause-study
returns-then-branch-clause-study c =
    let old = c.args.self.now in
    let line = c.args.line.now in
    let middle = c.add_header.new.self in
    λ s readable is held.
    let read : IsHeaderRead s line old middle =
    subst (λ b. IsHeaderFound s line b old middle) c.if-branch.true (c.in_ok-add_header.ensures.study s readable is held) in
    let some = some_header s middle.header.items readable read.has.text in
    let begun = begun_by old middle (ap (λ (r : Rows). r.points) read.others) (ap (λ (r : Rows). r.study) read.others) held.settled.begun in
    then_well c.add_all_waiting.result _ _ (λ done stays. header_then s line old middle c.add_all_waiting.new.self some stays)
    (c.add_all_waiting.ensures.study s readable (holds_header s line old middle read held.holds) begun some)

pub returns-else-branch-clause-study : goal.returns-else-branch-clause-study
returns-else-branch-clause-study c =
    let old = c.args.self.now in
    let line = c.args.line.now in
    let middle = c.add_header.new.self in
    λ s readable is held.
    let left : IsRowLeft s line old middle =
    subst (λ b. IsHeaderFound s line b old middle) c.if-branch.false (c.in_ok-add_header.ensures.study s readable is held) in
    then_well c.add_other.result _ _
    (λ done stays. row_then s line old middle c.add_other.new.self (row_no_header s line readable s.labels left.line_is) left.same stays)
    (c.add_other.ensures.study s readable left.line_is (subst (λ (r : Rows). IsHeld s r) (sym left.same) held))
