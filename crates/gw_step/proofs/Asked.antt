-- Where operands are evaluated, the parameters are set that they ask for.
use Rattle.std.proofs.Common.{◌≡◌, ℕ, ℤ, [], ◌∷◌, Option, Some, None, true, refl, sym, ap, ◌∙◌, subst, arith}
use Rattle.std.specs.Prelude.{All}
use Rattle.gw_object.specs.declared.blocks.Generate.{Generate}
use Rattle.gw_object.specs.declared.blocks.Block.{Block}
use Rattle.gw_object.specs.declared.blocks.Block.TheVariants as blocks
use Rattle.gw_object.specs.declared.parts.Parts.{Parts}
use Rattle.gw_rules.specs.Sources.{evaluation_operands}
use Rattle.gw_rules.specs.Kinds.{block_at, is_generate}
use Rattle.gw_rules.specs.KindsLaws.{EntityHolds, BlockHolds}
use Rattle.gw_rules.proofs.Sources.{evaluated_holds}
use Rattle.gw_rules.specs.Environment.{Environment}
use Rattle.gw_rules.specs.FlowCodes as codes
use Rattle.gw_rules.specs.Rows.{ParamKind, Num, Row, kind_of, is_empty}
use Rattle.gw_rules.specs.Flow.{own_table, own_row}
use Rattle.gw_rules.specs.FlowLaws.{MayPass, FlowHolds}
use Rattle.gw_rules.proofs.Parameters.{values_are_numbers}
use Rattle.gw_num.specs.Table.{at}
use Rattle.gw_transactions.specs.declared.Transaction.{Transaction}
use Rattle.gw_transactions.specs.Transactions.{attributes_at}
use Rattle.gw_step.specs.State.{State}
use Rattle.gw_step.specs.Times.{environment_of, environment_of_next, parameters_of}
use Rattle.gw_step.specs.Operands.{environment_at}
use Rattle.gw_step.specs.Typing.{IsAsKnown, WellTyped}
use Rattle.gw_step.proofs.Traces.{none_known, its_parameters, present, present_free}
use Rattle.gw_rules.specs.WeightsLaws.{Weighted}
use Rattle.gw_step.specs.Turning.{two_next}
use Rattle.gw_step.proofs.Paying.{its_weight}
use Rattle.gw_step.proofs.Moving.{Acts, the_rule}
use Rattle.gw_step.proofs.Calling.{some_of, is_at}
use Rattle.gw_step.proofs.Effects.{value_is_set}
use Rattle.gw_step.proofs.Drawn.{AreRead}

-- a parameter that is known to be a number has a value
has_value : (kind : Option ParamKind) (value : Option ℤ) → kind ≡ Some Num → IsAsKnown kind value → (z : ℤ) × (value ≡ Some z)
has_value kind value number is = some_of value (value_is_set Num value (subst (λ k. IsAsKnown k value) number is))

module _ (p : Parts) (entities : All (EntityHolds p) p.entities) where
  -- the interval of a GENERATE asks for no parameter, since nothing is known where one arrives
  pub interval_read : (b : ℕ) (g : Generate) (row : Row) → BlockHolds p b (blocks.Generate g)
      → MayPass p (own_table p) b (blocks.Generate g) row → is_empty row ≡ true → (env : Environment) → AreRead p env (g.interval.mean ∷ g.interval.half ∷ [])
  interval_read b g row kinds pass empty env i d within =
      record {
        holds = evaluated_holds p entities b (blocks.Generate g) kinds i d within;
        set = λ q among.
            let never : None ≡ Some Num = sym (none_known row empty q) ∙ values_are_numbers p (own_table p) b (blocks.Generate g) row pass i d within q among in
            absurd cc;
      }

  -- what a transaction's block evaluates for it
  pub are_read : (s : State) (n : ℕ) (t : Transaction) (block : Block) (row : Row) → Acts p s n t block row
      → AreRead p (environment_of n t s) (evaluation_operands p.entities block)
  are_read s n t block row acts i d within =
      record {
        holds = evaluated_holds p entities t.next block acts.kinds i d within;
        set = λ q among. has_value (kind_of row q) (at None (parameters_of n s) q)
            (values_are_numbers p (own_table p) t.next block row acts.flow i d within q among) (its_parameters p s acts.typed n t block row acts.is q);
      }

  -- and what is evaluated there at all
  pub are_read_there : (s : State) (n : ℕ) (t : Transaction) (block : Block) (row : Row) → Acts p s n t block row
      → AreRead p (environment_at block n t s) (evaluation_operands p.entities block)
  are_read_there s n t (blocks.Generate g) row acts =
      interval_read t.next g row acts.kinds acts.flow
      (the_rule p t.next codes.edge_state (is_empty row) (blocks.Generate g) row refl acts.flow) (environment_of_next g.priority s)
  are_read_there s n t block row acts = are_read s n t block row acts

  module _ (each_block : (b : ℕ) (block : Block) → block_at p.blocks b ≡ Some block → BlockHolds p b block) (flow : FlowHolds p (own_table p)) where
    -- the interval of a GENERATE that an object has
    pub arrival_read : (b : ℕ) (g : Generate) → block_at p.blocks b ≡ Some (blocks.Generate g) → (env : Environment)
        → AreRead p env (g.interval.mean ∷ g.interval.half ∷ [])
    arrival_read b g is =
        let row = some_of (own_row p b) (flow.arrivals b (ap is_generate is)) in
        let pass = flow.each_row b (blocks.Generate g) row.0 is row.1 in
        interval_read b g row.0 (each_block b (blocks.Generate g) is) pass (the_rule p b codes.edge_state (is_empty row.0) (blocks.Generate g) row.0 refl pass)

    -- the active transaction of a well-typed state at its block
    pub acts_at : (s : State) → WellTyped p s → (n : ℕ) (t : Transaction) (block : Block) → s.lists.active ≡ Some n
        → attributes_at n s.transactions ≡ Some t → block_at p.blocks t.next ≡ Some block → (Weighted p → two_next p t ≡ None)
        → (row : Row) × Acts p s n t block row
    acts_at s ty n t block active found there one =
        let row = is_at p each_block flow s ty n t block found (present_free p s.transactions s.lists s.entities ty n (present s.lists n active)) there in (
          row.0,
          record {
            typed = ty;
            active = active;
            is = row.1;
            kinds = each_block t.next block there;
            flow =
                flow.each_row t.next block row.0 there row.1.row_is;
            weighs =
                λ weighted. omega (arith, its_weight p s.transactions n t block row.0 row.1 (one weighted));
          },
        )
