-- What is made by names that are known is what the statements become.
use Rattle.std.proofs.Common.{◌≡◌, ◌∙◌, ℕ, List, [], ◌∷◌, map, Option, Vec, Global, refl, sym, ap, subst, string_bytes}
use Rattle.gw_object.specs.declared.blocks.Numbered.{Numbered}
use Rattle.gw_object.specs.declared.blocks.Operand.{Operand}
use Rattle.gw_object.specs.declared.blocks.Block.{Block}
use Rattle.gw_object.specs.declared.code.Procedure.{Procedure}
use Rattle.gw_object.specs.declared.parts.Entity.{Entity}
use Rattle.gw_text.specs.declared.model.Statement.{Statement}
use Rattle.gw_compile.specs.Numbers.{Numbers}
use Rattle.gw_names.specs.declared.known.Known.{Known}
use Rattle.gw_names.specs.declared.ledger.Noted.{Noted}
use Rattle.gw_names.specs.declared.names.Names.{Names}
use Rattle.gw_names.specs.declared.sights.Sighted.{Sighted}
use Rattle.gw_names.specs.Known.{Key}
use Rattle.gw_names.specs.Sighting.{key_of, keys_of}
use Rattle.gw_names.specs.Naming.{Knows}
use Rattle.gw_names.specs.Places.{declaration_of}
use Rattle.gw_names.specs.Sights.{entities_of}
use Rattle.gw_pieces.specs.declared.naming.Meanings.{Meanings}
use Rattle.gw_pieces.specs.declared.origins.Origin.{Origin}
use Rattle.gw_names.specs.Numbers.{numbers_of}
use Rattle.gw_pieces.specs.Numbers.{with_source, source_in}
use Rattle.gw_pieces.specs.Order.{order_in}
use Rattle.gw_pieces.specs.declared.plan.Plan.{Plan}
use Rattle.gw_pieces.specs.Entities.{IsKindBy, AreSightedAs, AreEntitiesOf}
use Rattle.gw_pieces.specs.Making.{AreMeanings, AreMade, NotesPieces, GetsEntities, with_entities}
use Rattle.gw_pieces.specs.Notes.{NotesMissing}
use Rattle.gw_pieces.specs.Pieces.{NumbersText, IsPlan, HasCode}
use Rattle.gw_pieces.specs.Plans.{names_planned, order_planned, text_planned}
use Rattle.gw_pieces.specs.Reasons.{AllThere, NotesCode, EntityMissing, CodeOrBlockMissing, PieceMissing}
use Rattle.gw_pieces.proofs.Reasoning.{all_pieces, pieces_missing}
use Rattle.gw_pieces.proofs.Searching.{all_there}
use Rattle.gw_pieces.proofs.Sighting.{resourced}

-- names that are known, with these meanings and entities
abbrev names_by : Known → Meanings → Vec Entity Global → Names
names_by known meanings list = record {
  entities = known.entities;
  list = list;
  blocks = known.blocks;
  parameters = known.parameters;
  procedures = meanings.procedures;
  equs = meanings.equs;
}

abbrev declaration : Sighted → Option ℕ
declaration s = s.declaration

-- entities as they were sighted are those of the text
sighted_are : (n : Numbers) (order : List Origin) (ss : List Statement) (sighted : List Sighted) (ks : List Key) (es : List Entity)
    → keys_of sighted ≡ ks → map declaration sighted ≡ map (declaration_of ss) ks → AreSightedAs n order ss sighted es → AreEntitiesOf n order ss ks es
sighted_are n order ss [] [] [] keys declared h = tt
sighted_are n order ss [] [] (e ∷ es) keys declared h = absurd h
sighted_are n order ss [] (k ∷ ks) es keys declared h = absurd cc
sighted_are n order ss (s ∷ sighted) [] es keys declared h = absurd cc
sighted_are n order ss (s ∷ sighted) (k ∷ ks) [] keys declared h = absurd h
sighted_are n order ss (s ∷ sighted) (k ∷ ks) (e ∷ es) keys declared h =
    let one : key_of s ≡ k = cc in
    let others : keys_of sighted ≡ ks = cc in
    let by : s.declaration ≡ declaration_of ss k = cc in
    let rest : map declaration sighted ≡ map (declaration_of ss) ks = cc in
    let kind : s.kind ≡ k.kind = ap (λ (x : Key). x.kind) one in
    let name : string_bytes s.name ≡ k.name = ap (λ (x : Key). x.name) one in
    let of_declaration = subst (λ d. IsKindBy n order ss d s.kind (string_bytes s.name) e.kind) by h.0.kind in
    let of_kind = subst (λ x. IsKindBy n order ss (declaration_of ss k) x (string_bytes s.name) e.kind) kind of_declaration in
    let of_name = subst (λ x. IsKindBy n order ss (declaration_of ss k) k.kind x e.kind) name of_kind in
    (record { name = h.0.name ∙ name; kind = of_name }, sighted_are n order ss sighted ks es others rest h.1)

-- names have the numbers that the text gives them
pub names_are : (ss : List Statement) (order : List Origin) (known : Known) (meanings : Meanings) (list : Vec Entity Global)
    → Knows ss known → order ≡ order_in ss → AreMeanings ss order meanings
    → NumbersText (numbers_of (names_by known meanings list)) order ss
names_are ss order known meanings list knows is meant = record {
  ordered = is;
  entities = knows.uses.entity;
  labels = knows.places.block;
  parameters = knows.uses.parameter;
  callees = meant.procedures;
  equs = meant.equs;
}

module _ (plan : Plan) (made : Vec Entity Global) where
  -- what is evaluated for attributes, where these are the entities
  abbrev pub sources : Numbered → Operand
  sources = source_in made.items

  -- names that get entities are still those of the text
  pub planned_still : IsPlan (text_planned plan) (record plan.names { list = made }) (order_planned plan) plan.sighted.items
  planned_still = record {
    numbers = record {
      ordered = plan.planned.numbers.ordered;
      entities = plan.planned.numbers.entities;
      labels = plan.planned.numbers.labels;
      parameters = plan.planned.numbers.parameters;
      callees = plan.planned.numbers.callees;
      equs = plan.planned.numbers.equs;
    };
    keys = plan.planned.keys;
    declared = plan.planned.declared;
  }

  -- where these are the entities that names get
  pub gets_entities : (given : Vec Entity Global) → made ≡ given
      → (planned : IsPlan (text_planned plan) (record plan.names { list = made }) (order_planned plan) plan.sighted.items)
      → GetsEntities plan given (with_entities plan made planned)
  gets_entities given is planned = subst (λ (v : Vec Entity Global). GetsEntities plan v (with_entities plan made planned)) is (planned, refl)

  -- what is made by a plan that gets its entities is what the statements become
  pub are_made : (procedures : List Procedure) (blocks : List Block)
      → AreSightedAs (names_planned plan) (order_planned plan) (text_planned plan) plan.sighted.items made.items
      → HasCode (with_source (names_planned plan) sources) (order_planned plan) (text_planned plan) procedures blocks
      → AreMade (text_planned plan) made.items procedures blocks
  are_made procedures blocks sighted code =
      let n = with_source (names_planned plan) sources in
      let order = order_planned plan in
      let ss = text_planned plan in
      record {
        numbers = n;
        order = order;
        names = planned_still.numbers;
        sources = λ of. refl;
        each_entity = sighted_are n order ss plan.sighted.items (entities_of ss) made.items plan.planned.keys plan.planned.declared
            (resourced (names_planned plan) sources order ss plan.sighted.items made.items sighted);
        code = code;
      }

  -- and what is noted is what they lack
  pub notes_are : (a b c : Option Noted) → NotesMissing (EntityMissing (names_planned plan) (order_planned plan) (text_planned plan) plan.sighted.items) a b
      → NotesCode (with_source (names_planned plan) sources) (order_planned plan) (text_planned plan)
      (CodeOrBlockMissing (with_source (names_planned plan) sources) (order_planned plan) (text_planned plan)) b c
      → NotesPieces (text_planned plan) a c
  notes_are a b c entities code =
      let n = with_source (names_planned plan) sources in
      let ss = text_planned plan in
      let order = order_planned plan in
      let is = plan.planned.numbers.ordered in
      let there = subst (AllThere ss) (sym is) (all_there ss) in
      let all = all_pieces (names_planned plan) order ss plan.sighted.items plan.planned.declared there sources a b c entities code in
      let pieces = pieces_missing n order ss plan.sighted.items plan.planned.declared there a c all in
      record {
        numbers = n;
        names = subst (λ o. NumbersText n o ss) is planned_still.numbers;
        notes = subst (λ o. NotesCode n o ss (PieceMissing n o ss) a c) is pieces;
      }
