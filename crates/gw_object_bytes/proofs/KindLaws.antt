-- The fields of the kinds of entities are exact.
use Rattle.std.proofs.Common.{◌≤◌, ℤ, [], length, refl, arith}
use Rattle.std.specs.Prelude.{int_lt}
use Rattle.std.specs.Int.{w16, w32, w64}
use Rattle.gw_object.specs.Limits.{greatest_capacity, greatest_width, least_classes, most_classes, most_points}
use Rattle.gw_object.specs.declared.parts.Point.{Point}
use Rattle.gw_object.specs.declared.parts.Function.{Function}
use Rattle.gw_fields.specs.Fields.{number, signed_number, ElementsFit}
use Rattle.gw_object.specs.BlockGrammar.{OperandFits}
use Rattle.gw_object.specs.Entities.{capacity, initial_value, TableFits, table, PointFits, point, FunctionFits, PointsAscend, function}
use Rattle.gw_block_bytes.proofs.BlockLaws.{operand_exact}
use Rattle.gw_field_bytes.proofs.Ascending.{int_order, ascending_exact, ascends, ascending_fit}
use Rattle.gw_field_bytes.proofs.Exact.{IsExact, wide16, wide32, wide64, number_exact, signed_exact, made_exact, both_exact}
use Rattle.gw_field_bytes.proofs.ExactLists.{IsExactElement}
use Rattle.gw_field_bytes.proofs.Exact.{fitting_exact, ranged_exact}
use Rattle.gw_field_bytes.proofs.ExactLists.{listed_exact, All-from_fit}

pub capacity_exact : IsExact capacity
capacity_exact = ranged_exact 1 greatest_capacity (number w32) (λ n h. omega arith) (number_exact w32 wide32)

pub initial_value_exact : IsExact initial_value
initial_value_exact = signed_exact w64 wide64

pub table_exact : IsExact table
unfolding table
table_exact = fitting_exact TableFits _
    (λ t h. record { argument = h.0; limit = h.1.0; width_least = h.1.1.0.0; width_most = h.1.1.0.1; classes_least = h.1.1.1.0; classes_most = h.1.1.1.1 })
    (λ t h. (h.argument, (h.limit, ((h.width_least, h.width_most), (h.classes_least, h.classes_most)))))
    (made_exact _ _ _ (λ x h. refl) (λ t h. refl)
    (both_exact _ _ operand_exact
    (both_exact _ _ (signed_exact w64 wide64)
    (both_exact _ _ (ranged_exact 1 greatest_width (number w32) (λ n h. omega arith) (number_exact w32 wide32))
    (ranged_exact least_classes most_classes (number w16) (λ n h. omega arith) (number_exact w16 wide16))))))

-- ---- functions

abbrev point_of : ℤ × ℤ → Point
point_of x = record { x = x.0; y = x.1 }

abbrev x_and_y : Point → ℤ × ℤ
x_and_y p = (p.x, p.y)

point_exact : IsExactElement point
point_exact = ascending_exact int_lt point_of x_and_y (signed_number w64) (signed_number w64) (λ x. refl) (λ p. refl)
    (signed_exact w64 wide64) (signed_exact w64 wide64)

-- the argument and the points of a function
abbrev FunctionParts : Function → Type 0
FunctionParts f = OperandFits f.argument × ((1 ≤ length f.points) × (length f.points ≤ most_points) × ElementsFit point.Fits [] f.points)

function_parts : (f : Function) → FunctionFits f × PointsAscend f → FunctionParts f
function_parts f h = (
  h.0.argument,
  (
    h.0.least,
    h.0.most,
    ascending_fit int_order point_of x_and_y (signed_number w64) (signed_number w64) f.points []
        (λ k d lt. (h.0.each k d lt).x) (λ k d lt. (h.0.each k d lt).y) h.1,
  ),
)

function_keeps : (f : Function) → FunctionParts f → FunctionFits f × PointsAscend f
function_keeps f (argument, points) = (
  record {
    argument = argument;
    least = points.0;
    most = points.1;
    each =
        All-from_fit point.Fits PointFits (λ front left p fit. record { x = fit.0.0; y = fit.1 }) f.points [] points.2;
  },
  ascends int_order point_of x_and_y (signed_number w64) (signed_number w64) f.points [] (λ i j d lt in_none. absurd (omega arith)) points.2,
)

pub function_exact : IsExact function
unfolding function
function_exact = fitting_exact (λ f. FunctionFits f × PointsAscend f) _ function_keeps function_parts
    (made_exact _ _ _ (λ x h. refl) (λ f h. refl) (both_exact _ _ operand_exact (listed_exact 1 most_points point (omega arith) point_exact)))
