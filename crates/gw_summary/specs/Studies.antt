-- Whether rows are of one model and one study.
use Rattle.std.specs.Prelude.{ℕ, List, Option, Some, None, Bool, true}
use Rattle.std.specs.Str.{bytes_eq}
use Rattle.gw_rows.specs.declared.refusal.Refused.{Refused}
use Rattle.gw_summary.specs.declared.study.Study.{Study}

-- a digest is that of the model of the rows before, or of the refusal before, or the first
abbrev pub is_of_model : Option Study → Option Refused → List ℕ → Bool
is_of_model (Some study) refused digest = bytes_eq study.origin.model.items digest
is_of_model None (Some refused) digest = bytes_eq refused.model.items digest
is_of_model None None digest = true
