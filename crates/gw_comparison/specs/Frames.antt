-- The upright axis of a picture, in millionths, and places on it, in tenths of pixels from its upper end.
use Rattle.std.specs.Prelude.{◌≡◌, ℕ, ◌+◌, ◌-◌, ◌*◌, ◌/◌, ◌^◌, min, max, List, [], ◌∷◌, ℤ, pos, unsigned_abs, int_lt, if◌then◌else◌, Option, Some, None}
use Rattle.std.specs.Int.{div_ceil}
use Rattle.gw_drawing.specs.Numbers.{round_step}
use Rattle.gw_comparison.specs.declared.axis.Frame.{Frame}
use Rattle.gw_comparison.specs.declared.marks.Mark.{Mark}

-- so many steps
abbrev pub reach_of : Frame → ℕ → ℕ
reach_of frame steps = frame.step * steps

-- how far below 0 a mark reaches, and how far above
abbrev pub depth_at : Option Mark → ℕ
depth_at None = 0
depth_at (Some mark) = if int_lt mark.low (pos 0) then unsigned_abs mark.low else 0

abbrev pub height_at : Option Mark → ℕ
height_at None = 0
height_at (Some mark) = if int_lt (pos 0) mark.high then unsigned_abs mark.high else 0

-- the greatest of a depth and those of marks
unfoldable pub depth_from : ℕ → List (Option Mark) → ℕ
depth_from depth [] = depth
depth_from depth (mark ∷ marks) = depth_from (max (depth_at mark) depth) marks

-- the greatest of a height and those of marks
unfoldable pub height_from : ℕ → List (Option Mark) → ℕ
height_from height [] = height
height_from height (mark ∷ marks) = height_from (max (height_at mark) height) marks

-- how many steps reach so far; at most 5
abbrev pub steps_to : ℕ → ℕ → ℕ
steps_to size step = min (div_ceil size step) 5

-- the step of an axis that reaches so far below 0 and so far above: a round number, of which five reach as far; at most 2^62 count
abbrev pub step_to : ℕ → ℕ → ℕ
step_to depth height = round_step (min (max (max depth height) 1) (2 ^ 62))

-- the axis
pub record IsFrame (depth height : ℕ) (frame : Frame) : Type 0 where
  pub step : frame.step ≡ step_to depth height
  pub below : frame.below ≡ steps_to depth (step_to depth height)
  pub steps : frame.steps ≡ max (steps_to depth (step_to depth height) + steps_to height (step_to depth height)) 1

-- how far above the lower end of an axis a number lies
abbrev pub part_of : Frame → ℤ → ℕ
part_of frame number =
    if int_lt number (pos 0) then reach_of frame frame.below - unsigned_abs number else reach_of frame frame.below + unsigned_abs number

-- the place of a number; one beyond the axis lies at its end
abbrev pub place_of : Frame → ℤ → ℕ
place_of frame number = 3500 - 2800 * min (part_of frame number) (reach_of frame frame.steps) / reach_of frame frame.steps
