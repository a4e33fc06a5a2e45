-- The codes that naming answers.
use Rattle.std.specs.Prelude.{ℕ}
use Rattle.gw_names.specs.declared.codes.TheConstants.{NAME, STORAGE, LIMIT}

-- a name that nothing has
abbrev pub name_fault : ℕ
name_fault = NAME

-- a storage that is not declared
abbrev pub storage_fault : ℕ
storage_fault = STORAGE

-- more names than an object has room for
abbrev pub limit_fault : ℕ
limit_fault = LIMIT
