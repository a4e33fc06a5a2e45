-- To which blocks moves lead.
use Rattle.std.proofs.Common.{◌≡◌, ℕ, zero, suc, ◌+◌, ◌++◌, ◌≤◌, ◌<◌, ℤ, List, [], ◌∷◌, map, length, Option, Some, None, Bool, true, false}
use Rattle.std.proofs.Common.{if◌then◌else◌, subst, arith}
use Rattle.std.specs.Prelude.{slice_get, int_lt, pos, IfSome, unwrap_or}
use Rattle.std.specs.List.{AllByRecursion}
use Rattle.gw_object.specs.declared.blocks.Block.{Block}
use Rattle.gw_object.specs.declared.blocks.Block.TheVariants as blocks
use Rattle.gw_object.specs.declared.blocks.Fraction.{Fraction}
use Rattle.gw_rules.specs.declared.ways.Exit.{Exit}
use Rattle.gw_rules.specs.Exits.{leads_to, falls_or_goes}
use Rattle.gw_step.specs.State.{may_enter}
use Rattle.gw_step.specs.Blocks.{led_by, choice_of}
use Rattle.gw_step.specs.Asks.{MayLead, Leads}
use Rattle.gw_step.proofs.AtBlock.{led_to}

within : (bs : List Block) (i : ℕ) → may_enter (slice_get bs i) ≡ true → i < length bs
within [] i may = absurd cc
within (block ∷ bs) zero may = omega arith
within (block ∷ bs) (suc i) may = let later = within bs i may in omega (arith, later)

-- a block to which a move may lead has a number from 1 to that of the last
pub is_number : (bs : List Block) (b : ℕ) → length bs ≤ 4096 → MayLead bs b → (1 ≤ b) × (b ≤ 4096)
is_number bs zero few may = absurd cc
is_number bs (suc i) few may = let below = within bs i may in (omega arith, omega (arith, below, few))

module _ (bs : List Block) (b : ℕ) where
  -- a TEST or a GATE leads to the next block, and to the other one that it names
  pub tested_lead : (otherwise : Option ℕ)
      → AllByRecursion (λ way. MayLead bs (leads_to b way)) (map (λ (exit : Exit). exit.way) (falls_or_goes otherwise) ++ [])
      → MayLead bs (b + 1) × IfSome otherwise (MayLead bs)
  tested_lead None leads = (leads.0, tt)
  tested_lead (Some target) leads = (leads.0, leads.1.0)

  -- and so it does whether it is true or not
  pub led_by_leads : (otherwise : Option ℕ) (so : Bool) → MayLead bs (b + 1) → IfSome otherwise (MayLead bs) → MayLead bs (led_by b otherwise so)
  led_by_leads otherwise true falls goes = falls
  led_by_leads None false falls goes = falls
  led_by_leads (Some target) false falls goes = goes

  -- a TRANSFER by fraction leads to either block
  pub chosen_leads : (f : Fraction) (drawn : ℤ) → Leads bs b (blocks.TransferByFraction f) → MayLead bs (choice_of b f drawn)
  chosen_leads f drawn leads = by_test (int_lt drawn (pos f.thousandths))
    where
      by_test : (less : Bool) → MayLead bs (if less then f.target else unwrap_or f.otherwise (b + 1))
      by_test true = leads.1.0
      by_test false = subst (MayLead bs) (led_to b f.otherwise) leads.0
