use Rattle.gw_slopes.specs.Found.{AreAlike, HelpNoneBefore}
use Rattle.gw_slopes.proofs.search.search.Given as goal

-- the slopes on no parameter before this one help
abbrev pub invariant-loop-parameter : goal.invariant-loop-parameter
invariant-loop-parameter l = AreAlike l.fn.parts l.parts × HelpNoneBefore l.fn.parts l.parameter
