-- What checked and accepted objects pass.
use Rattle.std.proofs.Common.{◌≡◌, None}
use Rattle.gw_object.specs.declared.parts.Parts.{Parts}
use Rattle.gw_rules.specs.Checks.{first_broken}
use Rattle.gw_rules.specs.Pass.{kinds_checks, KindsPass}
use Rattle.gw_rules.proofs.Each.{parts_hold, hold_together}
use Rattle.gw_rules.specs.PlusChecks.{plus_checks, PlusPasses}
use Rattle.gw_rules.specs.Flow.{own_table, flow_checks, FlowPasses}
use Rattle.gw_rules.specs.Weights.{weight_checks, WeightsPass}
use Rattle.gw_rules.specs.Accepted.{first_checks, checks, Checked, fault_of, Accepted}
use Rattle.gw_rules.specs.AcceptedLaws.{CheckedWhereAllPass, AcceptedWhereCheckedAndWeighted}

module _ (p : Parts) where
  -- no first check of a checked object is broken
  pub first_pass : Checked p → first_broken (first_checks p) ≡ None
  unfolding checks
  first_pass h = (parts_hold (first_checks p) (flow_checks p (own_table p)) h).0

  -- kinds pass of a checked object
  pub kinds_pass : Checked p → KindsPass p
  kinds_pass h = (parts_hold (kinds_checks p) (plus_checks p) (first_pass h)).0

  -- its PLUS code passes
  pub plus_passes : Checked p → PlusPasses p
  plus_passes h = (parts_hold (kinds_checks p) (plus_checks p) (first_pass h)).1

  -- its flow passes
  pub flow_passes : Checked p → FlowPasses p (own_table p)
  unfolding checks
  flow_passes h = (parts_hold (first_checks p) (flow_checks p (own_table p)) h).1

  from_all : KindsPass p → PlusPasses p → FlowPasses p (own_table p) → Checked p
  unfolding checks
  from_all kinds plus flow = hold_together (first_checks p) (flow_checks p (own_table p)) (hold_together (kinds_checks p) (plus_checks p) kinds plus) flow

  -- an accepted object is checked
  pub is_checked : Accepted p → Checked p
  unfolding fault_of
  is_checked h = (parts_hold (checks p) (weight_checks p) h).0

  -- and its weights pass
  pub weights_pass : Accepted p → WeightsPass p
  unfolding fault_of
  weights_pass h = (parts_hold (checks p) (weight_checks p) h).1

  from_both : Checked p → WeightsPass p → Accepted p
  unfolding fault_of
  from_both checked weights = hold_together (checks p) (weight_checks p) checked weights

pub checked_where_all_pass : CheckedWhereAllPass
checked_where_all_pass p = (λ h. (kinds_pass p h, plus_passes p h, flow_passes p h), λ (kinds, plus, flow). from_all p kinds plus flow)

pub accepted_where_checked_and_weighted : AcceptedWhereCheckedAndWeighted
accepted_where_checked_and_weighted p = (λ h. (is_checked p h, weights_pass p h), λ (checked, weights). from_both p checked weights)
