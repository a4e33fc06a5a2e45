-- The reasons of refusals, from pass to pass.
use Rattle.std.proofs.Common.{◌≡◌, ◌∙◌, ◌<◌, ◌+◌, ℕ, zero, suc, List, [], ◌∷◌, length, map, Option, Some, None, Bool, true, false, inl, inr}
use Rattle.std.proofs.Common.{slice_get, refl, sym, ap, subst, arith}
use Rattle.std.specs.Prelude.{if◌then◌else◌, ◌⊎◌, ◌≤◌, min}
use Rattle.gw_object.specs.declared.limits.TheConstants.{MOST_PROCEDURES}
use Rattle.std.specs.Option.{option_or}
use Rattle.std.proofs.lemmas.Option.{slice_get_within, get_or_from_slice_get}
use Rattle.gw_text.specs.declared.model.Statement.{Statement}
use Rattle.gw_compile.specs.Numbers.{Numbers}
use Rattle.gw_names.specs.declared.ledger.Noted.{Noted}
use Rattle.gw_names.specs.declared.sights.Sighted.{Sighted}
use Rattle.gw_names.specs.Codes.{name_fault, limit_fault}
use Rattle.gw_names.specs.Known.{Key, is_same}
use Rattle.gw_names.specs.Ledger.{noted_at}
use Rattle.gw_names.specs.Places.{last_by, name_entry, places_from, declared_entity, declaration_of}
use Rattle.gw_names.specs.Sights.{entities_of}
use Rattle.gw_names.proofs.Declaring.{last_append}
use Rattle.gw_object.specs.declared.blocks.Numbered.{Numbered}
use Rattle.gw_object.specs.declared.blocks.Operand.{Operand}
use Rattle.gw_pieces.specs.Numbers.{with_source}
use Rattle.gw_pieces.specs.declared.origins.Origin.{Origin}
use Rattle.gw_pieces.specs.Notes.{Never, IsFor, NotesMore, NotesMissing}
use Rattle.gw_pieces.specs.Reasons.{AllThere, IsOrigin, IsSightedAt, IsDeclaration, ExceedsKnown, OriginDue, OriginMissing, BlockMissing, CodeLimit}
use Rattle.gw_pieces.specs.Reasons.{CodeDue, ProcedureMissing, CodeOrBlockMissing, DeclarationMissing, EntityMissing, AnyMissing, PieceMissing}
use Rattle.gw_pieces.specs.Reasons.{NotesStatement, NotesOrigin, NotesCode}
use Rattle.gw_pieces.proofs.Noting.{further, widen}

module _ (n : Numbers) (ss : List Statement) where
  -- what comes from a position of a statement is of its line
  pub at_statement : (o : Origin) (s : Statement) → slice_get ss o.statement ≡ Some s → (a b : Option Noted)
      → NotesStatement n s o.operand a b → NotesOrigin n ss o a b
  at_statement o s there a b h = widen a b
      (λ note x. record { statement = s; there = there; reason = x.0; noted = x.1 })
      due
      (λ note x. inl (record { statement = s; there = there; reason = x.0; noted = x.1 }))
      h
    where
      due : (note : Noted) → OriginDue n ss o note → IsFor (ExceedsKnown n s o.operand) s.line limit_fault note
      due note d =
          let same_there : Some d.statement ≡ Some s = sym d.there ∙ there in
          let same : d.statement ≡ s = cc in
          (subst (λ x. ExceedsKnown n x o.operand) same d.reason, d.noted ∙ ap (λ (x : Statement). noted_at x.line limit_fault) same)

  -- nothing is due of an origin without a statement
  pub none_due : (o : Origin) → slice_get ss o.statement ≡ None → (note : Noted) → OriginDue n ss o note → ⊥
  none_due o none note d = let e : None ≡ Some d.statement = sym none ∙ d.there in absurd cc

-- what is below one more is below or the same
below_or_same : (k i : ℕ) → k < i + 1 → (k < i) ⊎ (k ≡ i)
below_or_same zero zero below = inr refl
below_or_same zero (suc i) below = inl (omega arith)
below_or_same (suc k) zero below = absurd (omega (arith, below))
below_or_same (suc k) (suc i) below = later (below_or_same k i (omega (arith, below)))
  where
    later : (k < i) ⊎ (k ≡ i) → (suc k < suc i) ⊎ (suc k ≡ suc i)
    later (inl less) = inl (omega (arith, less))
    later (inr same) = inr (ap suc same)

module _ (n : Numbers) (order : List Origin) (ss : List Statement) where
  -- what is due of the origins before a place, and of the one there
  abbrev pub DueBefore : ℕ → Noted → Type 0
  DueBefore i note = (d : CodeDue n order ss note) × (d.place < i)

  abbrev pub DueAt : ℕ → Noted → Type 0
  DueAt i note = (d : CodeDue n order ss note) × (d.place ≡ i)

  pub none_before : (note : Noted) → DueBefore 0 note → ⊥
  none_before note d = omega (arith, d.1)

  pub before_or_at : (i : ℕ) (note : Noted) → DueBefore (i + 1) note → DueBefore i note ⊎ DueAt i note
  before_or_at i note d = of_two (below_or_same d.0.place i d.1)
    where
      of_two : (d.0.place < i) ⊎ (d.0.place ≡ i) → DueBefore i note ⊎ DueAt i note
      of_two (inl less) = inl (d.0, less)
      of_two (inr same) = inr (d.0, same)

  -- of all for which an object has room
  pub all_due : (i : ℕ) → min (length order) MOST_PROCEDURES ≤ i → (note : Noted) → CodeDue n order ss note → DueBefore i note
  all_due i past note d = let within = slice_get_within order d.place d.origin d.among in (d, omega (arith, past, within, d.room))

  -- what is so of the origin at a place
  pub at_origin : (place : ℕ) (o : Origin) → slice_get order place ≡ Some o → place < MOST_PROCEDURES → (a b : Option Noted)
      → NotesOrigin n ss o a b → NotesMore (CodeLimit n order ss) (DueAt place) (ProcedureMissing n order ss) a b
  at_origin place o at room a b h = widen a b (λ note x. record { place = place; origin = o; among = at; room = room; line = x }) due missing h
    where
      missing : (note : Noted) → OriginMissing n ss o note → ProcedureMissing n order ss note
      missing note (inl x) = inl (record { place = place; origin = o; among = at; room = room; line = x })
      missing note (inr x) = inr
          (record { place = x.place; needed = record { place = place; origin = o; among = at; statement = x.needed }; missing = x.missing; noted = x.noted })

      due : (note : Noted) → DueAt place note → OriginDue n ss o note
      due note d =
          let same_there : Some d.0.origin ≡ Some o = sym d.0.among ∙ ap (slice_get order) d.1 ∙ at in
          let same : d.0.origin ≡ o = cc in
          subst (λ x. OriginDue n ss x note) same d.0.line

  -- and of the entity at a place
  pub at_sight : (sighted : List Sighted) (place : ℕ) (e : Sighted) → slice_get sighted place ≡ Some e → (a b : Option Noted)
      → NotesMissing (DeclarationMissing n order ss e.declaration) a b → NotesMissing (EntityMissing n order ss sighted) a b
  at_sight sighted place e at a b h = widen a b (λ note x. x) (λ note d. d) missing h
    where
      missing : (note : Noted) → DeclarationMissing n order ss e.declaration note → EntityMissing n order ss sighted note
      missing note (inl x) = inl (x.0, record { place = place; entity = e; among = at; declaration = x.1 }, x.2)
      missing note (inr x) = inr
          (record { place = x.place; needed = record { place = place; entity = e; among = at; declaration = x.needed }; missing = x.missing; noted = x.noted })

  -- where this may be missing of code, and that of what else is made
  with_code : {Missing WideMissing : Noted → Type 0} (a b : Option Noted) → ((note : Noted) → Missing note → WideMissing note)
      → NotesCode n order ss Missing a b → NotesCode n order ss WideMissing a b
  with_code a b missing h = widen a b (λ note x. x) (λ note d. d) missing h

  with_missing : {Limit Missing WideMissing : Noted → Type 0} (a b : Option Noted) → ((note : Noted) → Missing note → WideMissing note)
      → NotesMissing Missing a b → NotesMore Limit Never WideMissing a b
  with_missing a b missing h = widen a b (λ note x. absurd x) (λ note d. d) missing h

  pub code_and_blocks : (a b c : Option Noted) → NotesCode n order ss (ProcedureMissing n order ss) a b
      → NotesMissing (BlockMissing n order ss) b c → NotesCode n order ss (CodeOrBlockMissing n order ss) a c
  code_and_blocks a b c h k = further a b c (λ note d. inl d) (with_code a b (λ note x. inl x) h) (with_missing b c (λ note x. inr x) k)

-- an origin without a statement
pub astray_origin : (n : Numbers) (ss : List Statement) (o : Origin) → slice_get ss o.statement ≡ None → OriginMissing n ss o (noted_at 0 name_fault)
astray_origin n ss o none = inr (record { place = o.statement; needed = refl; missing = none; noted = refl })

-- WHAT IS THERE

-- what was declared last has a place among the statements
within : {K : Type 0} (declared : Statement → Option K) (test : K → Bool) (i j : ℕ) (ss : List Statement)
    → last_by test (places_from declared j ss) ≡ Some i → i < j + length ss
within declared test i j [] h = absurd cc
within declared test i j (s ∷ ss) h =
    of_two (λ k x. within declared test k (j + 1) ss x) (last_by test (places_from declared (j + 1) ss)) refl
    (sym (last_append test (name_entry (declared s) j) (places_from declared (j + 1) ss)) ∙ h)
  where
    of_test : (b : Bool) → option_or None (if b then Some j else None) ≡ Some i → j ≡ i
    of_test true h = cc
    of_test false h = absurd cc

    here : (name : Option _) → last_by test (name_entry name j) ≡ Some i → j ≡ i
    here None h = absurd cc
    here (Some k) h = of_test (test k) h

    of_two : ((k : ℕ) → last_by test (places_from declared (j + 1) ss) ≡ Some k → k < (j + 1) + length ss) → (later : Option ℕ)
        → last_by test (places_from declared (j + 1) ss) ≡ later
        → option_or (last_by test (places_from declared (j + 1) ss)) (last_by test (name_entry (declared s) j)) ≡ Some i → i < j + suc (length ss)
    of_two rest None is h =
        let own = here (declared s) (rw is at h) in
        omega (arith, own)
    of_two rest (Some k) is h =
        let e : Some k ≡ Some i = rw is at h in
        let same : k ≡ i = cc in
        let below = rest i (is ∙ ap Some same) in
        omega (arith, below)

nowhere : {A : Type 0} (xs : List A) (i : ℕ) → i < length xs → slice_get xs i ≡ None → ⊥
nowhere [] i below h = absurd (omega (arith, below))
nowhere (x ∷ xs) zero below h = cc
nowhere (x ∷ xs) (suc i) below h = nowhere xs i (omega (arith, below)) h

-- the statement that declares an entity is there
never_astray : (ss : List Statement) (i : ℕ) → IsDeclaration ss i → slice_get ss i ≡ None → ⊥
never_astray ss i d h =
    let below = within declared_entity (is_same d.0) i 0 ss d.1 in
    nowhere ss i (omega (arith, below)) h

abbrev declaration : Sighted → Option ℕ
declaration s = s.declaration

-- what was sighted is declared as the text says
declared_at : (ss : List Statement) (sighted : List Sighted) (ks : List Key) → map declaration sighted ≡ map (declaration_of ss) ks
    → (place : ℕ) (e : Sighted) → slice_get sighted place ≡ Some e → (k : Key) × (declaration_of ss k ≡ e.declaration)
declared_at ss [] ks same place e at = absurd cc
declared_at ss (s ∷ sighted) [] same place e at = absurd cc
declared_at ss (s ∷ sighted) (k ∷ ks) same zero e at =
    let one : s ≡ e = cc in
    let first : s.declaration ≡ declaration_of ss k = cc in
    (k, sym first ∙ ap declaration one)
declared_at ss (s ∷ sighted) (k ∷ ks) same (suc place) e at =
    let rest : map declaration sighted ≡ map (declaration_of ss) ks = cc in
    declared_at ss sighted ks rest place e at

module _ (n : Numbers) (order : List Origin) (ss : List Statement) (sighted : List Sighted)
    (declared : map declaration sighted ≡ map (declaration_of ss) (entities_of ss)) (there : AllThere ss order) where
  is_declared : (i : ℕ) → IsSightedAt sighted i → IsDeclaration ss i
  is_declared i x = let d = declared_at ss sighted (entities_of ss) declared x.place x.entity x.among in (d.0, d.1 ∙ x.declaration)

  missing_entity : (note : Noted) → EntityMissing n order ss sighted note → PieceMissing n order ss note
  missing_entity note (inl x) = inr (inl (x.0, is_declared x.0 x.1, x.2))
  missing_entity note (inr x) = absurd (never_astray ss x.place (is_declared x.place x.needed) x.missing)

  origin_is_there : (i : ℕ) → IsOrigin order i → i < length ss
  origin_is_there i x =
      let below : x.origin.statement < length ss =
      subst (λ (o : Origin). o.statement < length ss) (get_or_from_slice_get order x.place x.origin x.origin x.among)
      (there x.place x.origin (slice_get_within order x.place x.origin x.among)) in
      subst (λ k. k < length ss) x.statement below

  missing_code : (note : Noted) → ProcedureMissing n order ss note → PieceMissing n order ss note
  missing_code note (inl x) = inr (inr x)
  missing_code note (inr x) = absurd (nowhere ss x.place (origin_is_there x.place x.needed) x.missing)

  missing_piece : (note : Noted) → AnyMissing n order ss sighted note → PieceMissing n order ss note
  missing_piece note (inl x) = missing_entity note x
  missing_piece note (inr (inl x)) = missing_code note x
  missing_piece note (inr (inr x)) = inl x

  pub pieces_missing : (a b : Option Noted) → NotesCode n order ss (AnyMissing n order ss sighted) a b → NotesCode n order ss (PieceMissing n order ss) a b
  pieces_missing a b h = widen a b (λ note x. x) (λ note d. d) missing_piece h

  -- entities are made before what is evaluated for attributes is known
  pub all_pieces : (source : Numbered → Operand) (a b c : Option Noted)
      → NotesMissing (EntityMissing n order ss sighted) a b → NotesCode (with_source n source) order ss (CodeOrBlockMissing (with_source n source) order ss) b c
      → NotesCode (with_source n source) order ss (AnyMissing (with_source n source) order ss sighted) a c
  all_pieces source a b c h k =
      let m = with_source n source in
      further a b c (λ note d. inr d) (with_missing n order ss a b (λ note x. inl x) h) (with_code m order ss b c (λ note x. inr x) k)
