use Rattle.std.proofs.Common.{rules, ◌≡◌, ℕ, ◌<◌, List, [], length, sym, subst}
use Rattle.std.specs.Prelude.{All}
use Rattle.std.proofs.lemmas.List.{nil_from_length}
use Rattle.std.proofs.lemmas.List.Elements.{All-nil}
use Rattle.gw_object.specs.declared.parts.ReturnRow.{ReturnRow}
use Rattle.gw_rules.specs.declared.set_parameters.Parameter.{Parameter}
use Rattle.gw_rules.specs.Entries.{entry}
use Rattle.gw_rules.specs.Rows.{return_blocks}
use Rattle.gw_flow.specs.Known.{params_of}
use Rattle.gw_flow.proofs.OwnRooms.{amounts_have_room}
use Rattle.gw_unit_tests.proofs.tests.flow.has_room.Goals as goal

-- where no parameter is known, none returns
none_returns : (rows : List ReturnRow) (ps : List Parameter) → ps ≡ [] → (q : ℕ) → All (λ b. b < 65535) (return_blocks (entry (params_of rows ps) q))
none_returns rows ps is q =
    subst (λ k. All (λ b. b < 65535) (return_blocks (entry (params_of rows k) q))) (sym is) (All-nil (λ b. b < 65535))

pub returns-then-is_empty : goal.returns-then-is_empty
returns-then-is_empty c =
    let none : length c.as_slice.result.now ≡ 0 = search (rules, c.is_empty.ensures, c.if-is_empty.true) in
    let is : c.args.state.now.parameters ≡ [] = rw (← c.parts-parts.ensures.value, ← c.as_slice.ensures) (nil_from_length c.as_slice.result.now none) in
    λ room rows. record {
      amounts = λ e. amounts_have_room c.args.state.now.units
          (rw (← c.parts-parts.ensures.value, ← c.as_slice-then-is_empty.ensures) (c.have_room.ensures room)) e;
      returns = none_returns rows c.args.state.now.parameters is;
    }
