-- What is known, once all was seen.
use Rattle.std.proofs.Common.{◌≡◌, ℕ, List, [], ◌++◌, length, map, Option, sym, ap, ◌∙◌}
use Rattle.std.specs.Prelude.{slice_get, option_and_then}
use Rattle.std.specs.List.{position_from}
use Rattle.std.specs.Str.{bytes_eq}
use Rattle.gw_rules.specs.declared.entities.EntityKind.{EntityKind}
use Rattle.gw_text.specs.declared.model.Statement.{Statement}
use Rattle.gw_name_uses.specs.Sites.{Mentioned, mentioned_in}
use Rattle.gw_names.specs.declared.known.Known.{Known}
use Rattle.gw_names.specs.declared.ledger.Noted.{Noted}
use Rattle.gw_names.specs.Known.{Key, key, is_same, entity_of}
use Rattle.gw_names.specs.Ledger.{with_notes}
use Rattle.gw_names.specs.Places.{declaration_of}
use Rattle.gw_names.specs.Sights.{seen_after, limits_after, entity_in, parameter_in, most_entities, number_among, free_numbers, limits_in}
use Rattle.gw_names.specs.Sighting.{IsSighted, HaveNumbers, keys_of, names_of}
use Rattle.gw_names.specs.Judgement.{declared_in, declared_by, refusals_by, refusals_in}
use Rattle.gw_names.specs.Naming.{Knows, KnowsUses}
use Rattle.gw_names.proofs.Noting.{notes_append}

module _ (statements : List Statement) (ms : List Mentioned) (is : ms ≡ mentioned_in statements) where
  -- entities and parameters
  pub uses_known : (known : Known) → IsSighted known.declarations known.entities known.sighted.items → keys_of known.sighted.items
      ≡ seen_after entity_in is_same most_entities [] ms
      → ((kind : EntityKind) (name : List ℕ) → entity_of known.declarations kind name ≡ declaration_of statements (key kind name))
      → HaveNumbers (free_numbers ms) known.parameters → names_of known.parameters
      ≡ seen_after parameter_in bytes_eq (length (free_numbers ms)) [] ms → KnowsUses statements known
  uses_known known sighted keys declares given names =
      let seen = keys ∙ ap (seen_after entity_in is_same most_entities []) is in
      let same : (λ (k : Key). entity_of known.declarations k.kind k.name) ≡ declaration_of statements = λ j k. declares k.kind k.name j in
      record {
        entity = λ kind name. sighted.number kind name ∙ ap (λ l. number_among l (key kind name)) seen;
        sighted = seen;
        declared = sighted.declared ∙ ap (λ f. map f (keys_of known.sighted.items)) same ∙ ap (map (declaration_of statements)) seen;
        declaration = declares;
        parameter = λ name.
            given name
            ∙ ap (λ l. option_and_then (slice_get (free_numbers ms)) (position_from (bytes_eq name) 0 l)) names
            ∙ ap (λ l. option_and_then (slice_get (free_numbers l))
            (position_from (bytes_eq name) 0 (seen_after parameter_in bytes_eq (length (free_numbers l)) [] l))) is;
      }

  -- and the refusals
  pub limits_noted : (before between after : Option Noted) → between
      ≡ with_notes before (limits_after entity_in is_same most_entities [] ms) → after
      ≡ with_notes between (limits_after parameter_in bytes_eq (length (free_numbers ms)) [] ms) → after ≡ with_notes before (limits_in statements)
  limits_noted before between after first second =
      second
      ∙ ap (λ least. with_notes least (limits_after parameter_in bytes_eq (length (free_numbers ms)) [] ms)) first
      ∙ sym (notes_append before (limits_after entity_in is_same most_entities [] ms) (limits_after parameter_in bytes_eq (length (free_numbers ms)) [] ms))
      ∙ ap (λ l. with_notes before (limits_after entity_in is_same most_entities [] l ++ limits_after parameter_in bytes_eq (length (free_numbers l)) [] l)) is

-- what is known to be declared is what the text declares
pub declared_is : (statements : List Statement) (known : Known) → Knows statements known → declared_by known ≡ declared_in statements
declared_is statements known knows = λ j. record {
  entity = λ kind name. knows.uses.declaration kind name j;
  block = λ label. knows.places.block label j;
  equ = λ name. knows.places.equ name j;
  procedure = λ name. knows.places.procedure name j;
}

-- so the refusals are those of the text
pub refusals_are : (statements : List Statement) (known : Known) → Knows statements known → refusals_by (declared_by known) statements ≡ refusals_in statements
refusals_are statements known knows = ap (λ declared. refusals_by declared statements) (declared_is statements known knows)
