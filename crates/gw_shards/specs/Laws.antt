-- Laws of rows of points.
use Rattle.std.specs.Prelude.{ℕ, List, ◌++◌}
use Rattle.gw_alternatives.specs.declared.study_point.StudyPoint.{StudyPoint}
use Rattle.gw_shards.specs.Rows.{Common, AreRowsOf}

-- the rows of a point's runs from one number to another, and then those from there on, are those of all
abbrev pub ShardsJoin : Type 0
ShardsJoin =
    (common : Common) (point : StudyPoint) (first middle end : ℕ) (rows more : List ℕ)
    → AreRowsOf common point first middle rows → AreRowsOf common point middle end more → AreRowsOf common point first end (rows ++ more)
