use Rattle.std.proofs.Common.{◌≡◌, map, take}
use Rattle.std.specs.List.{All}
use Rattle.gw_object.specs.declared.parts.Entity.{Entity}
use Rattle.gw_entities.specs.Numbered.{IsKept, today}
use Rattle.gw_entities.proofs.numbered.kept_at_start.Given as goal

abbrev pub invariant-loop-entity : goal.invariant-loop-entity
invariant-loop-entity g l = record {
  values : map (today g.T.Timed.after 0) l.kept.items ≡ map (λ (e : Entity). g.T.Timed.fresh e.kind) (take l.entity-index l.entities);
  kept : All (IsKept g.T.Timed.Fits 0) l.kept.items;
}
