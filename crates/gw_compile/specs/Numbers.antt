-- What the names of a model text stand for.
use Rattle.std.specs.Prelude.{ℕ, ◌+◌, List, [], ◌∷◌, Option, Some, None, if◌then◌else◌, option_map}
use Rattle.std.specs.Str.{bytes_eq}
use Rattle.gw_object.specs.declared.blocks.Numbered.{Numbered}
use Rattle.gw_object.specs.declared.blocks.Operand.{Operand}
use Rattle.gw_rules.specs.declared.entities.EntityKind.{EntityKind}
use Rattle.gw_compile.specs.declared.numbering.Callee.{Callee}
use Rattle.gw_compile.specs.declared.numbering.Equ.{Equ}
use Rattle.gw_compile.specs.declared.locals.Meaning.{Meaning}
use Rattle.gw_compile.specs.declared.locals.Meaning.TheVariants.{Local, Of}

-- the numbers of names, as functions
pub record Numbers : Type 0 where
  -- of entities, by kind and name
  pub entity : EntityKind → List ℕ → Option ℕ
  -- of blocks, by label
  pub block : List ℕ → Option ℕ
  -- of parameters
  pub parameter : List ℕ → Option ℕ
  -- the PROCEDUREs that may be called
  pub procedure : List ℕ → Option Callee
  -- what EQUs stand for
  pub equ : List ℕ → Option Equ
  -- what is evaluated for an attribute of an entity or a block in the end
  pub source : Numbered → Operand

-- the names of the locals that hold at a place of a PROCEDURE, by their numbers: its arguments, and the temporaries declared above
abbrev pub Scope : Type 0
Scope = List (List ℕ)

-- the number of a local, where those at hand have numbers from this one on
abbrev pub number_from : ℕ → Scope → List ℕ → Option ℕ
number_from k [] name = None
number_from k (x ∷ scope) name = if bytes_eq x name then Some k else number_from (k + 1) scope name

-- the number of a local
abbrev pub number_of : Scope → List ℕ → Option ℕ
number_of scope name = number_from 0 scope name

-- a local, or what an EQU of that name stands for
abbrev pub meaning_by : Option ℕ → Option Equ → Option Meaning
meaning_by (Some local) equ = Some (Local local)
meaning_by None equ = option_map Of equ

-- what a bare name stands for: inside a PROCEDURE its arguments and temporaries go before EQUs
abbrev pub name_meaning : Numbers → Scope → List ℕ → Option Meaning
name_meaning n scope name = meaning_by (number_of scope name) (n.equ name)
