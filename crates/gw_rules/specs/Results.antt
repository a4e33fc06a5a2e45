-- What is made of the value of an operand's source.
use Rattle.std.specs.Prelude.{◌-◌, ℤ, pos, int_le, List, [], length, Option, Some, not, slice_get}
use Rattle.std.specs.List.{find}
use Rattle.std.specs.Option.{option_map_or, option_or}
use Rattle.gw_num.specs.Arithmetic.{is_zero}
use Rattle.gw_num.specs.Operators.{truth_value}
use Rattle.gw_object.specs.declared.blocks.EntityAttribute.{EntityAttribute}
use Rattle.gw_object.specs.declared.blocks.EntityAttribute.TheVariants.{BooleanValue, FunctionValue}
use Rattle.gw_object.specs.declared.blocks.Operand.{Operand}
use Rattle.gw_object.specs.declared.blocks.Operand.TheVariants.{OfEntity}
use Rattle.gw_object.specs.declared.parts.Point.{Point}
use Rattle.gw_object.specs.declared.parts.Kind.{Kind}
use Rattle.gw_object.specs.declared.parts.Kind.TheVariants.{Function}
use Rattle.gw_object.specs.declared.parts.Entity.{Entity}
use Rattle.gw_rules.specs.Sources.{kind_at, argument_in}

-- FUNCTIONS

-- the points of a function; another entity has none
abbrev pub points_of : Option Kind → List Point
points_of (Some (Function f)) = f.points
points_of other = []

-- the point that counts for an argument: the first one which the argument isn't above, else the last
abbrev pub point_for : ℤ → List Point → Option Point
point_for x points = option_or (find (λ (q : Point). int_le x q.x) points) (slice_get points (length points - 1))

-- the value of a function with these points at an argument
abbrev pub y_at : ℤ → List Point → ℤ
y_at x points = option_map_or (λ (q : Point). q.y) (point_for x points) (pos 0)

-- WHAT IS MADE

-- a boolean variable asks whether the value of its procedure isn't 0
abbrev pub as_truth : EntityAttribute → ℤ → ℤ
as_truth BooleanValue v = truth_value (not (is_zero v))
as_truth attribute v = v

-- a function has the value at its argument's
abbrev pub at_points : EntityAttribute → List Point → ℤ → ℤ
at_points FunctionValue points v = y_at v points
at_points attribute points v = v

-- what an operand that is no function's value makes of the value of its source
abbrev pub truth_made : Operand → ℤ → ℤ
truth_made (OfEntity a) v = as_truth a.attribute v
truth_made operand v = v

-- what a function makes of its argument's value; another operand leaves a value as it is
abbrev pub function_made : List Entity → Operand → ℤ → ℤ
function_made es (OfEntity a) v = at_points a.attribute (points_of (kind_at es a.number)) v
function_made es operand v = v

-- what an operand makes of the value of its source
abbrev pub value_by_operand : List Entity → Operand → ℤ → ℤ
value_by_operand es o v = function_made es o (truth_made (argument_in es o) v)
