-- Which uses are refused.
use Rattle.std.specs.Prelude.{ℕ, List, Option, Some, None, Bool, true, false, ◌&&◌, if◌then◌else◌, nat_lt, ◌==◌, length, map, slice_get, is_some}
use Rattle.std.specs.List.{flat_map}
use Rattle.gw_rules.specs.declared.entities.EntityKind.{EntityKind}
use Rattle.gw_rules.specs.declared.entities.EntityKind.TheVariants as kinds
use Rattle.gw_text.specs.declared.model.Body.{Body}
use Rattle.gw_text.specs.declared.model.Body.TheVariants as bodies
use Rattle.gw_text.specs.declared.model.Statement.{Statement}
use Rattle.gw_name_uses.specs.Mentions.{Mention, Entity, Parameter, ParameterNumber, Label, Equ, Call, Target}
use Rattle.gw_name_uses.specs.declared.sites.Site.{Site}
use Rattle.gw_name_uses.specs.Sites.{Mentioned, mention_at, mentioned_in}
use Rattle.gw_names.specs.declared.ledger.Noted.{Noted}
use Rattle.gw_names.specs.declared.known.Known.{Known}
use Rattle.gw_names.specs.Codes.{name_fault, storage_fault}
use Rattle.gw_names.specs.Ledger.{noted_if}
use Rattle.gw_names.specs.Known.{key, found_in, entity_of}
use Rattle.gw_names.specs.Places.{is_equ, declaration_of, block_of, equ_of, procedure_of}

-- what declares names
pub record Declared : Type 0 where
  -- the statement of an entity
  pub entity : EntityKind → List ℕ → Option ℕ
  -- the number of a block
  pub block : List ℕ → Option ℕ
  -- the statement of an EQU
  pub equ : List ℕ → Option ℕ
  -- the statement of a PROCEDURE
  pub procedure : List ℕ → Option ℕ

-- what a text declares
abbrev pub declared_in : List Statement → Declared
declared_in statements = record {
  entity = λ kind name. declaration_of statements (key kind name);
  block = block_of statements;
  equ = equ_of statements;
  procedure = procedure_of statements;
}

-- what is known to be declared
abbrev pub declared_by : Known → Declared
declared_by known = record {
  entity = entity_of known.declarations;
  block = found_in known.blocks;
  equ = found_in known.equs;
  procedure = found_in known.procedures;
}

-- how an entity of a kind is refused that nothing declares: what a text makes by its use isn't
abbrev pub undeclared_code : EntityKind → Option ℕ
undeclared_code kinds.Storage = Some storage_fault
undeclared_code kinds.Table = Some name_fault
undeclared_code kinds.Function = Some name_fault
undeclared_code kinds.Variable = Some name_fault
undeclared_code kinds.BooleanVariable = Some name_fault
undeclared_code kinds.Facility = None
undeclared_code kinds.Queue = None
undeclared_code kinds.Switch = None
undeclared_code kinds.Savevalue = None
undeclared_code kinds.Chain = None
undeclared_code kinds.StorageOrQueue = None

-- that refusal where no statement declares it
abbrev pub unless_declared : EntityKind → Option ℕ → Option ℕ
unless_declared kind (Some statement) = None
unless_declared kind None = undeclared_code kind

-- 80 Name unless this holds
abbrev pub named_if : Bool → Option ℕ
named_if true = None
named_if false = Some name_fault

-- whether a statement is an EQU, if there is one
abbrev pub is_equ_found : Option Statement → Bool
is_equ_found None = false
is_equ_found (Some s) = is_equ s.word

-- whether the statement at this place is an EQU
abbrev pub is_equ_at : List Statement → ℕ → Bool
is_equ_at statements i = is_equ_found (slice_get statements i)

-- whether an EQU may be used in a statement at this place: an EQU uses those above it alone
abbrev pub may_use_equ : Option ℕ → Bool → ℕ → Bool
may_use_equ None in_equ i = false
may_use_equ (Some equ) in_equ i = if in_equ then nat_lt equ i else true

-- whether a PROCEDURE may be called on this line with so many arguments: it ends above and takes so many
abbrev pub takes : Body → ℕ → Bool
takes (bodies.Procedure procedure) given = length procedure.arguments.items == given
takes bodies.Nothing given = false
takes (bodies.Points points) given = false

abbrev pub may_call : Statement → ℕ → ℕ → Bool
may_call callee line given = nat_lt callee.last_line line && takes callee.body given

-- the same of the one that the statement at a place declares
abbrev pub may_call_found : Option Statement → ℕ → ℕ → Bool
may_call_found None line given = false
may_call_found (Some callee) line given = may_call callee line given

abbrev pub may_call_at : List Statement → Option ℕ → ℕ → ℕ → Bool
may_call_at statements None line given = false
may_call_at statements (Some procedure) line given = may_call_found (slice_get statements procedure) line given

-- how a mention in the statement at this place, which begins on this line, is refused, if it is
abbrev pub mention_fault : Declared → List Statement → ℕ → ℕ → Mention → Option ℕ
mention_fault declared statements i line (Entity kind name) = unless_declared kind (declared.entity kind name)
mention_fault declared statements i line (Parameter name) = None
mention_fault declared statements i line (ParameterNumber x) = None
mention_fault declared statements i line (Label label) = named_if (is_some (declared.block label))
mention_fault declared statements i line (Equ name) = named_if (may_use_equ (declared.equ name) (is_equ_at statements i) i)
mention_fault declared statements i line (Call name given) = named_if (may_call_at statements (declared.procedure name) line given)
mention_fault declared statements i line (Target name) = Some name_fault

-- how a use is refused at its place, if it is
abbrev pub fault_at : Declared → List Statement → Mentioned → Option ℕ
fault_at declared statements m = mention_fault declared statements m.statement m.line m.what

-- the refusal of a use, at the line of its statement
abbrev pub refusal_of : Declared → List Statement → Mentioned → List Noted
refusal_of declared statements m = noted_if m.line (fault_at declared statements m)

-- those of these uses
abbrev pub refusals_among : Declared → List Statement → List Mentioned → List Noted
refusals_among declared statements ms = flat_map (refusal_of declared statements) ms

-- those of the uses at these sites, by what is known
abbrev pub refusals_at : Known → List Statement → List Site → List Noted
refusals_at known statements sites = refusals_among (declared_by known) statements (map mention_at sites)

-- those of all uses of a text
abbrev pub refusals_by : Declared → List Statement → List Noted
refusals_by declared statements = refusals_among declared statements (mentioned_in statements)

-- the refusals of a text's names: 80 and 81, each where it belongs
abbrev pub refusals_in : List Statement → List Noted
refusals_in statements = refusals_by (declared_in statements) statements
