use Rattle.std.proofs.Common.{◌∙◌, sym}
use Rattle.gw_assemblies.proofs.Filing.{found-here, found-none}
use Rattle.gw_assemblies.proofs.register.find.Goals as goal

pub returns-in_err-place : goal.returns-in_err-place
returns-in_err-place c = c.from_residual.ensures
    ∙ sym (found-none c.args.key.block c.args.key.set c.args.entries.now (sym c.place_of.ensures ∙ c.in_err-place.was))

pub returns : goal.returns
returns c = sym (found-here c.args.key.block c.args.key.set c.args.entries.now c.in_ok-place.place (sym c.place_of.ensures ∙ c.in_ok-place.was) _)
