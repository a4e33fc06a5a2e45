-- A visit that may be made meets its next block, which is there.
use Rattle.std.proofs.Common.{Bor, ◌≡◌, ◌∙◌, Option, Some, None, option_map, refl, sym, ap, subst, arith}
use Rattle.std.specs.Prelude.{IsSome, IsSomeAnd, option_copied, Result, Ok, Err}
use Rattle.gw_object.specs.declared.blocks.Block.{Block}
use Rattle.gw_members.specs.declared.tx.Tx.{Tx}
use Rattle.gw_rules.specs.Kinds.{block_at}
use Rattle.gw_machine.specs.Configuration.{Configuration}
use Rattle.gw_machine.specs.View.{state_of}
use Rattle.gw_machine.specs.declared.machine.Made.{Made}
use Rattle.gw_machine.proofs.Greatest.{slot-within}
use Rattle.gw_step.specs.Asks.{Asks, Leads}
use Rattle.gw_step.specs.Outcome.{Outcome}
use Rattle.gw_step.specs.State.{State}
use Rattle.gw_scan.specs.Makes.{Makes, MakesOnOk}
use Rattle.gw_scan.specs.Visiting.{IsVisit, MayMake, Meets}
use Rattle.gw_scan.specs.declared.visit.Visit.{Visit}

-- who visits is active in the state
pub active_in : (v : Visit) (m : Configuration) → IsVisit v m → (state_of m).lists.active ≡ Some v.tx.number
active_in v m is = ap (option_map (λ (tx : Tx). tx.number)) is.active

is_there : (P : Block → Type 0) (o : Option Block) → IsSomeAnd o P → IsSome o
is_there P None h = absurd h
is_there P (Some block) h = refl

is_lent : (o : Option (Bor Block)) → IsSome (option_copied o) → IsSome o
is_lent None h = h
is_lent (Some block) h = refl

module _ (v : Visit) (m : Configuration) (may : MayMake v m) where
  -- its next block is there
  pub next_there : IsSome (block_at v.verified.now.blocks v.transaction.next)
  next_there = is_there _ (block_at v.verified.now.blocks v.transaction.next) (may.served v.tx.number v.transaction (active_in v m may.visit) may.visit.found)

  -- also as it is lent
  pub next_lent : (lent : Option (Bor Block)) → option_copied lent ≡ block_at v.verified.now.blocks v.transaction.next → IsSome lent
  next_lent lent is = is_lent lent (subst IsSome (sym is) next_there)

  pub next_is : (lent : Option (Bor Block)) (block : Bor Block) → option_copied lent ≡ block_at v.verified.now.blocks v.transaction.next
      → lent ≡ Some block → block_at v.verified.now.blocks v.transaction.next ≡ Some block.now
  next_is lent block is some = sym is ∙ ap option_copied some

  module _ (block : Block) (there : block_at v.verified.now.blocks v.transaction.next ≡ Some block) where
    -- with all that it asks for
    serves : Asks v.verified.now v.tx.number (state_of m) block × Leads v.verified.now.blocks v.transaction.next block
    serves =
        subst (λ o. IsSomeAnd o (λ block. Asks v.verified.now v.tx.number (state_of m) block × Leads v.verified.now.blocks v.transaction.next block)) there
        (may.served v.tx.number v.transaction (active_in v m may.visit) may.visit.found)

    pub meets_next : Meets v m block
    meets_next = record {
      visit = may.visit;
      own = may.own;
      values = may.values v.tx.number v.transaction block (active_in v m may.visit) may.visit.found there;
      operands = may.visit.steady.fit.operands v.transaction.next block there;
      slot = omega (arith, slot-within v.verified.now.blocks v.transaction.next block there, may.slots);
      asks = serves.0;
      leads = serves.1;
    }

-- what was made of an outcome was made of one that is the same
pub makes_same : {E : Type 0} (result : Result Made E) (f g : State → Outcome State) (old new : Configuration) → f (state_of old)
    ≡ g (state_of old) → MakesOnOk result f old new → MakesOnOk result g old new
makes_same (Ok made) f g old new same h = (subst (λ o. Makes made o (state_of old) (state_of new)) same h.0, h.1)
makes_same (Err e) f g old new same h = h
