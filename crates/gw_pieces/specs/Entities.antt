-- The entities of a model text.
use Rattle.std.specs.Prelude.{◌≡◌, Bool, ℕ, ℤ, pos, List, [], ◌∷◌, ◌++◌, Option, Some, None, not, slice_get, string_bytes, unwrap_or}
use Rattle.std.specs.List.{flat_map}
use Rattle.gw_num.specs.Arithmetic.{is_zero}
use Rattle.gw_object.specs.declared.blocks.Numbered.{Numbered}
use Rattle.gw_object.specs.declared.blocks.Operand.{Operand}
use Rattle.gw_rules.specs.declared.entities.EntityKind.{EntityKind}
use Rattle.gw_rules.specs.declared.entities.EntityKind.TheVariants as needed
use Rattle.gw_object.specs.declared.parts.Entity.{Entity}
use Rattle.gw_object.specs.declared.parts.Kind.{Kind}
use Rattle.gw_object.specs.declared.parts.Kind.TheVariants as kinds
use Rattle.gw_text_expressions.specs.declared.model.EntityValue.TheVariants as values
use Rattle.gw_text_expressions.specs.declared.model.Sna.{Sna}
use Rattle.gw_text_expressions.specs.declared.model.Sna.TheVariants.{OfEntity}
use Rattle.gw_text_statements.specs.declared.model.Operand.{Operand as Text}
use Rattle.gw_text_statements.specs.declared.model.Operand.TheVariants as texts
use Rattle.gw_text_tokens.specs.declared.words.Word.{Word}
use Rattle.gw_text_tokens.specs.declared.words.Word.TheVariants as words
use Rattle.gw_text.specs.declared.model.Statement.{Statement}
use Rattle.gw_compile.specs.Numbers.{Numbers}
use Rattle.gw_object_records.specs.Entities.{entity_kind}
use Rattle.gw_names.specs.Known.{Key, found_in}
use Rattle.gw_names.specs.declared.sights.Sighted.{Sighted}
use Rattle.gw_names.specs.Places.{last_of, declaration_of}
use Rattle.gw_pieces.specs.declared.initials.Initials.{Initials}
use Rattle.gw_pieces.specs.declared.initials.Initial.{Initial}
use Rattle.gw_pieces.specs.declared.initials.Initial.TheVariants as initials
use Rattle.gw_pieces.specs.declared.origins.Origin.{Origin}
use Rattle.gw_pieces.specs.Origins.{numbers_for}
use Rattle.gw_pieces.specs.Numbers.{with_source}
use Rattle.gw_pieces.specs.Settings.{number_in}

-- INITIAL

-- the name of what an attribute is of, if an INITIAL of this sort sets it
abbrev pub name_of : Initial → Sna → Option (List ℕ)
name_of initials.Savevalue (OfEntity values.Savevalue name) = Some (string_bytes name)
name_of initials.Switch (OfEntity values.Switch name) = Some (string_bytes name)
name_of initial sna = None

-- the name of what an operand of INITIAL is of
abbrev pub name_in : Initial → Option Text → Option (List ℕ)
name_in initial (Some (texts.Sna sna)) = name_of initial sna
name_in initial operand = None

-- what an INITIAL sets, by the name in its first operand
abbrev pub set_by : Word → Option (List ℕ) → Statement → List (List ℕ × ℤ)
set_by words.Initial (Some name) s = (name, number_in (slice_get s.operands.items 1)) ∷ []
set_by word name s = []

-- the initial value that a statement gives, if it is an INITIAL of this sort
abbrev pub initial_by : Initial → Statement → List (List ℕ × ℤ)
initial_by initial s = set_by s.word (name_in initial (slice_get s.operands.items 0)) s

-- the initial values that the INITIALs of this sort give
abbrev pub initials_in : Initial → List Statement → List (List ℕ × ℤ)
initials_in initial ss = flat_map (initial_by initial) ss

-- those of savevalues
abbrev pub savevalues_in : List Statement → List (List ℕ × ℤ)
savevalues_in ss = initials_in initials.Savevalue ss

-- and of switches
abbrev pub switches_in : List Statement → List (List ℕ × ℤ)
switches_in ss = initials_in initials.Switch ss

-- the initial value that is known of a name, or 0
abbrev pub initial_in : (List ℕ → Option ℤ) → List ℕ → ℤ
initial_in found name = unwrap_or (found name) (pos 0)

-- and whether it isn't 0
abbrev pub is_set_in : (List ℕ → Option ℤ) → List ℕ → Bool
is_set_in found name = not (is_zero (initial_in found name))

-- the initial value by the last INITIAL, or 0
abbrev pub initial_of : List (List ℕ × ℤ) → List ℕ → ℤ
initial_of set name = unwrap_or (last_of set name) (pos 0)

-- these are the initial values of savevalues
abbrev pub AreSavevalues : List Statement → Initials → Type 0
AreSavevalues ss initials = (name : List ℕ) → found_in initials.savevalues name ≡ last_of (savevalues_in ss) name

-- and of switches
abbrev pub AreSwitches : List Statement → Initials → Type 0
AreSwitches ss initials = (name : List ℕ) → found_in initials.switches name ≡ last_of (switches_in ss) name

-- KINDS

-- what an entity is that needs no declaration
abbrev pub undeclared_kind : List Statement → EntityKind → List ℕ → Kind
undeclared_kind ss needed.Queue name = kinds.Queue
undeclared_kind ss needed.Switch name = kinds.Switch (not (is_zero (initial_of (switches_in ss) name)))
undeclared_kind ss needed.Savevalue name = kinds.Savevalue (initial_of (savevalues_in ss) name)
undeclared_kind ss needed.Chain name = kinds.Chain
undeclared_kind ss kind name = kinds.Facility

-- an entity is this where no declaration is needed, by the INITIALs of a text
abbrev pub IsUndeclared : Initials → EntityKind → List ℕ → Kind → Type 0
IsUndeclared initials needed name kind = (ss : List Statement) → AreSavevalues ss initials → AreSwitches ss initials → kind ≡ undeclared_kind ss needed name

-- one more entity, of which this is so, stands behind others
abbrev pub GrowsBy : (Entity → Type 0) → List Entity → List Entity → Type 0
GrowsBy P old new = (e : Entity) × P e × (new ≡ old ++ e ∷ [])

module _ (n : Numbers) (order : List Origin) (ss : List Statement) where
  -- what a declaration makes of an entity
  abbrev pub IsDeclaredKind : ℕ → Kind → Type 0
  IsDeclaredKind i kind =
      (s : Statement) × (slice_get ss i ≡ Some s)
      × ((source : Numbered → Operand) × (entity_kind (with_source n source) (numbers_for (with_source n source) order s i) s ≡ Some kind))

  -- what an entity is: by its declaration, if there is one
  abbrev pub IsKindBy : Option ℕ → EntityKind → List ℕ → Kind → Type 0
  IsKindBy None needed name kind = kind ≡ undeclared_kind ss needed name
  IsKindBy (Some i) needed name kind = IsDeclaredKind i kind

  -- an entity of an object is one that was sighted in the text
  pub record IsSightedAs (sighted : Sighted) (e : Entity) : Type 0 where
    pub name : e.name ≡ string_bytes sighted.name
    pub kind : IsKindBy sighted.declaration sighted.kind (string_bytes sighted.name) e.kind

  -- so is each of these, one by one
  abbrev pub AreSightedAs : List Sighted → List Entity → Type 0
  AreSightedAs [] [] = Unit {0}
  AreSightedAs (s ∷ sighted) (e ∷ es) = IsSightedAs s e × AreSightedAs sighted es
  AreSightedAs [] (e ∷ es) = ⊥
  AreSightedAs (s ∷ sighted) [] = ⊥

  -- an entity of an object is the one of a kind and a name of the text
  pub record IsEntityOf (entity : Key) (e : Entity) : Type 0 where
    pub name : e.name ≡ entity.name
    pub kind : IsKindBy (declaration_of ss entity) entity.kind entity.name e.kind

  -- the entities of an object are those of a text, one by one
  abbrev pub AreEntitiesOf : List Key → List Entity → Type 0
  AreEntitiesOf [] [] = Unit {0}
  AreEntitiesOf (k ∷ ks) (e ∷ es) = IsEntityOf k e × AreEntitiesOf ks es
  AreEntitiesOf [] (e ∷ es) = ⊥
  AreEntitiesOf (k ∷ ks) [] = ⊥
