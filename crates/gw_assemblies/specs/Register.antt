-- The register of assemblies: entries in the order in which they were begun, some of them struck out. Each is in
-- a bucket by its block and set, which names its newest entry, and each entry the next older one of its bucket.
use Rattle.std.specs.Prelude.{◌≡◌, ◌≢◌, ◌<◌, ◌+◌, ◌*◌, ◌^◌, ◌/◌, ◌%◌, ◌&&◌, ℕ, zero, suc, length, List, [], ◌∷◌, Option, Some, None, Bool, if◌then◌else◌}
use Rattle.gw_num.specs.Table.{at}
use Rattle.gw_assemblies.specs.Assembling.{is_of}
use Rattle.gw_assemblies.specs.declared.assemblies.Assembly.{Assembly}
use Rattle.gw_assemblies.specs.declared.register.Entry.{Entry}

-- a set and a block in one number, spread by a large odd factor
abbrev pub spread : ℕ → ℕ → ℕ
spread block set = (set + block * 2 ^ 40) % 2 ^ 64 * 11400714819323198485 % 2 ^ 64

-- the bucket of a set at a block, where there are n
abbrev pub bucket_of : ℕ → ℕ → ℕ → ℕ
bucket_of n block set = spread block set / 2 ^ 20 % n

-- the assemblies of the entries that stand
abbrev pub assemblies_of : List Entry → List Assembly
assemblies_of [] = []
assemblies_of (e ∷ es) = if e.stands then e.assembly ∷ assemblies_of es else assemblies_of es

-- how many assemblies stand
abbrev pub assembly_count : List Entry → ℕ
assembly_count entries = length (assemblies_of entries)

-- whether an entry stands, and is that of a set at a block
abbrev pub is_entry_of : ℕ → ℕ → Entry → Bool
is_entry_of block set e = e.stands && is_of block set e.assembly

-- the bucket of the entry at a place, and the next older entry that it names
abbrev pub bucket_at : ℕ → List Entry → ℕ → ℕ
bucket_at n [] k = 0
bucket_at n (e ∷ es) zero = bucket_of n e.assembly.block e.assembly.set
bucket_at n (e ∷ es) (suc k) = bucket_at n es k

abbrev pub older_at : List Entry → ℕ → Option ℕ
older_at [] k = None
older_at (e ∷ es) zero = e.older
older_at (e ∷ es) (suc k) = older_at es k

-- the newest of the places below m that f puts in a bucket, if there is one
abbrev pub IsNewest : (ℕ → ℕ) → ℕ → ℕ → Option ℕ → Type 0
IsNewest f bucket m None = (k : ℕ) → k < m → f k ≢ bucket
IsNewest f bucket m (Some r) = (r < m) × (f r ≡ bucket) × ((k : ℕ) → r < k → k < m → f k ≢ bucket)

-- the entries before place m are in their buckets
pub record AreFiled (es : List Entry) (buckets : List (Option ℕ)) (m : ℕ) : Type 0 where
  pub newest : (b : ℕ) → b < length buckets
      → IsNewest (bucket_at (length buckets) es) b m (at None buckets b)
  pub older : (k : ℕ) → k < m
      → let f = bucket_at (length buckets) es in IsNewest f (f k) k (older_at es k)

-- whatever the buckets are, entries before place m that are in them in an old list are so in a new one
abbrev pub StayFiled : ℕ → List Entry → List Entry → Type 0
StayFiled m old new = (buckets : List (Option ℕ)) → AreFiled old buckets m → AreFiled new buckets m
