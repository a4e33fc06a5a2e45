-- The least and the greatest of what was in entities for a while.
use Rattle.std.specs.Prelude.{ℕ, ◌+◌, ℤ, pos, List, [], ◌∷◌, map, slice_index_or}
use Rattle.std.specs.Int.{int_min, int_max}
use Rattle.gw_object.specs.declared.parts.Entity.{Entity}
use Rattle.gw_step.specs.Job.{Job}
use Rattle.gw_step.specs.State.{State}
use Rattle.gw_chart.specs.declared.bands.Band.{Band}
use Rattle.gw_chart.specs.Contents.{content_of, contents_from}

-- of one value
abbrev pub band_of : ℤ → Band
band_of value = record { least = value; greatest = value }

-- those of what is in each entity of a job in a state
abbrev pub bands_at : Job → State → List Band
bands_at j s = map band_of (contents_from s 0 j.parts.entities)

-- that of the entity of a number, where each entity has one
abbrev pub band_in : List Band → ℕ → Band
band_in bands e = slice_index_or bands e (band_of (pos 0))

-- the same with one value more
abbrev pub widen : Band → ℤ → Band
widen band value = record { least = int_min band.least value; greatest = int_max band.greatest value }

-- those of these entities with what is in each now, where the first has this number
unfoldable pub widened_from : State → ℕ → List Entity → List Band → List Band
widened_from s e [] bands = bands
widened_from s e (entity ∷ rest) [] = []
widened_from s e (entity ∷ rest) (band ∷ bands) = widen band (content_of entity.kind s e) ∷ widened_from s (e + 1) rest bands
