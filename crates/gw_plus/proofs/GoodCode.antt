-- The code of a checked object.
use Rattle.gw_object.specs.declared.parts.Parts.{Parts}
use Rattle.gw_object.specs.Grammar.{HasSpelling}
use Rattle.gw_rules.proofs.PlusTheorems.{code_holds}
use Rattle.gw_rules.specs.Accepted.{Checked}
use Rattle.gw_rules.proofs.AllPass.{kinds_pass, plus_passes}
use Rattle.gw_plus.specs.Activation.{HasGoodCode}

pub good_code : (p : Parts) → HasSpelling p → Checked p → HasGoodCode p
good_code p fits checked = record { fits = fits; holds = code_holds p fits (kinds_pass p checked); passes = plus_passes p checked }
