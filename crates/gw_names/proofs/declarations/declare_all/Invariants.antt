use Rattle.std.proofs.Common.{◌≡◌, ℕ, List, drop}
use Rattle.std.specs.Option.{option_or}
use Rattle.gw_rules.specs.declared.entities.EntityKind.{EntityKind}
use Rattle.gw_names.specs.Known.{key, is_same, entity_of}
use Rattle.gw_names.specs.Places.{last_by, places_from, declared_entity}
use Rattle.gw_names.proofs.declarations.declare_all.Given as goal

-- the statements that are left go before those so far
abbrev pub invariant-loop-i : goal.invariant-loop-i
invariant-loop-i l = (kind : EntityKind) (name : List ℕ)
    → option_or (last_by (is_same (key kind name)) (places_from declared_entity 0 l.statements)) (entity_of l.fn.declarations kind name)
    ≡ option_or (last_by (is_same (key kind name)) (places_from declared_entity l.i (drop l.i l.statements))) (entity_of l.declarations kind name)
