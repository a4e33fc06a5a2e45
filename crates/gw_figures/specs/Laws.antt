-- Laws of figures and their values.
use Rattle.std.specs.Prelude.{◌≡◌, length}
use Rattle.gw_object.specs.declared.parts.Parts.{Parts}
use Rattle.gw_figures.specs.Labels.{labels_of}
use Rattle.gw_figures.specs.Values.{values_of}
use Rattle.gw_figures.specs.Windows.{Span}

-- a window has a value for each figure
abbrev pub ValuesAreOfLabels : Type 0
ValuesAreOfLabels = (parts : Parts) (w : Span) → length (values_of parts w) ≡ length (labels_of parts)
