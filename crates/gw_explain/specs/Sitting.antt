-- A form that is left out, on a line.
use Rattle.std.specs.Prelude.{◌≡◌, ℕ, List}
use Rattle.gw_object.specs.declared.fault.Place.{Place}
use Rattle.gw_object.specs.declared.fault.Place.TheVariants.{Line}
use Rattle.gw_forms.specs.Places.{IsWithin}
use Rattle.gw_explain.specs.declared.forms.Site.{Site}
use Rattle.gw_explain.specs.Shown.{text_line}

-- it stands on the line of this place
pub record IsSiteOf (lines : List (List ℕ)) (place : Place) (site : Site) : Type 0 where
  pub there : place ≡ Line site.number
  pub line : site.line.now ≡ text_line lines site.number
  pub within : IsWithin site.found.from site.found.to site.line.now
