-- As many values as figures.
use Rattle.std.proofs.Common.{◌≡◌, ◌∙◌, ◌+◌, ◌-◌, ℕ, zero, suc, List, [], ◌∷◌, ◌++◌, length, refl, arith}
use Rattle.std.specs.Prelude.{codes}
use Rattle.std.proofs.lemmas.List.{length-append, length-map}
use Rattle.std.proofs.lemmas.List.FromFn.{length-map-range_with_len}
use Rattle.gw_object.specs.declared.blocks.Block.{Block}
use Rattle.gw_object.specs.declared.parts.Entity.{Entity}
use Rattle.gw_object.specs.declared.parts.Kind.{Kind}
use Rattle.gw_object.specs.declared.parts.Kind.TheVariants as kinds
use Rattle.gw_object.specs.declared.parts.Table.{Table}
use Rattle.gw_report.specs.Figures.{classes_at, entity_at}
use Rattle.gw_figures.specs.Labels.{block_labels, blocks_labels, class_labels, end_labels, entities_labels, front_of, kind_labels, table_labels}
use Rattle.gw_figures.specs.Laws.{ValuesAreOfLabels}
use Rattle.gw_figures.specs.Values.{block_values, blocks_values, end_values, entities_values, kind_values, shares, table_values}
use Rattle.gw_figures.specs.Windows.{Span, class_at, quotient, rises}

-- as many of both behind as many
both : {X Y : Type 0} (xs us : List X) (ys vs : List Y) → length xs ≡ length ys → length us ≡ length vs → length (xs ++ us) ≡ length (ys ++ vs)
both xs us ys vs front back = omega (arith, length-append xs us, length-append ys vs, front, back)

class_many : (t : Table) (front : List ℕ) (i n : ℕ) → length (class_labels t front i n) ≡ n
unfolding class_labels
class_many t front i zero = refl
class_many t front i (suc n) = omega (arith, class_many t front (i + 1) n)

share_many : (count classes : ℕ) (before after : List ℕ) → length (shares count (rises classes before after)) ≡ classes
share_many count classes before after =
    length-map (rises classes before after) (λ values. quotient values count)
    ∙ length-map-range_with_len (λ i. class_at after i - class_at before i) 0 classes

-- of a table
table_many : (t : Table) (front : List ℕ) (w : Span) (e : ℕ) → length (table_values t w e) ≡ length (table_labels t front)
table_many t front w e =
    let added = (entity_at e w.end).table.count - (entity_at e w.start).table.count in
    omega (arith, share_many added t.classes (classes_at e w.start) (classes_at e w.end), class_many t front 0 t.classes)

-- of an entity
kind_many : (kind : Kind) (name : List ℕ) (w : Span) (e : ℕ) → length (kind_values kind w e) ≡ length (kind_labels kind name)
kind_many kinds.Facility name w e = refl
kind_many (kinds.Storage capacity) name w e = refl
kind_many kinds.Queue name w e = refl
kind_many (kinds.Switch set) name w e = refl
kind_many (kinds.Savevalue value) name w e = refl
kind_many (kinds.Table t) name w e = table_many t (front_of (codes "TABLE ") name) w e
kind_many kinds.Chain name w e = refl
kind_many (kinds.Variable procedure) name w e = refl
kind_many (kinds.BooleanVariable procedure) name w e = refl
kind_many (kinds.Function operands) name w e = refl

entities_many : (w : Span) (e : ℕ) (entities : List Entity) → length (entities_values w e entities) ≡ length (entities_labels entities)
unfolding entities_values entities_labels
entities_many w e [] = refl
entities_many w e (entity ∷ rest) =
    both (kind_values entity.kind w e) (entities_values w (e + 1) rest) (kind_labels entity.kind entity.name) (entities_labels rest)
    (kind_many entity.kind entity.name w e) (entities_many w (e + 1) rest)

blocks_many : (w : Span) (i : ℕ) (blocks : List Block) → length (blocks_values w i (length blocks)) ≡ length (blocks_labels i blocks)
unfolding blocks_values blocks_labels
blocks_many w i [] = refl
blocks_many w i (block ∷ rest) =
    both (block_values w i) (blocks_values w (i + 1) (length rest)) (block_labels i block) (blocks_labels (i + 1) rest) refl
    (blocks_many w (i + 1) rest)

pub values_are_of_labels : ValuesAreOfLabels
values_are_of_labels parts w =
    both (end_values w ++ blocks_values w 0 (length parts.blocks)) (entities_values w 0 parts.entities)
    (end_labels ++ blocks_labels 0 parts.blocks) (entities_labels parts.entities)
    (both (end_values w) (blocks_values w 0 (length parts.blocks)) end_labels (blocks_labels 0 parts.blocks) refl (blocks_many w 0 parts.blocks))
    (entities_many w 0 parts.entities)
