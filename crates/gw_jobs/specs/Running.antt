-- Which rows of a user run.
use Rattle.std.specs.Prelude.{ℕ, Bool, ◌==◌, ◌&&◌}
use Rattle.gw_service.specs.Rows.{Row, is_running}

-- a row is this user's, and runs
abbrev pub runs_for : ℕ → Row → Bool
runs_for u r = (r.user == u) && is_running r.standing
