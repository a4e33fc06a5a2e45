-- The figures of a model that has a spelling are those of their names, which need no quotes.
use Rattle.std.proofs.Common.{◌≡◌, ◌∙◌, ◌<◌, ◌≤◌, ◌+◌, ◌-◌, ◌*◌, ◌^◌, ◌==◌, ℕ, zero, suc, List, [], ◌∷◌, ◌++◌, length}
use Rattle.std.proofs.Common.{Bool, true, false, cond, refl, sym, ap, arith}
use Rattle.std.specs.Prelude.{codes, ℤ, pos, negsuc, unsigned_abs, IsTrue}
use Rattle.std.specs.Fmt.{decimal, signed_decimal}
use Rattle.std.specs.List.{All}
use Rattle.std.proofs.lemmas.Bool.{or_from}
use Rattle.std.proofs.lemmas.Bool.Decides.{nat_tests}
use Rattle.std.proofs.lemmas.Int.{ints}
use Rattle.std.proofs.lemmas.List.{append_assoc}
use Rattle.std.proofs.lemmas.List.Elements.{All-append, All-cons, All-from_recursion, All-head, All-nil, All-tail}
use Rattle.std.proofs.lemmas.Nat.{mul-le}
use Rattle.csv.specs.Writing.{default_writer, needs_byte, needs_quotes}
use Rattle.gw_object.specs.BlockGrammar.{block_word}
use Rattle.gw_object.specs.declared.blocks.Block.{Block}
use Rattle.gw_object.specs.declared.blocks.Block.TheVariants as blocks
use Rattle.gw_object.specs.Entities.{EntityFits, IsLettered, KindFits, TableFits, is_letter}
use Rattle.gw_object.specs.declared.parts.Entity.{Entity}
use Rattle.gw_object.specs.declared.parts.Kind.{Kind}
use Rattle.gw_object.specs.declared.parts.Kind.TheVariants as kinds
use Rattle.gw_object.specs.declared.parts.Table.{Table}
use Rattle.gw_figures.specs.Labels.{block_front, block_labels, blocks_labels, class_labels, class_text, content, detail, end_labels}
use Rattle.gw_figures.specs.Labels.{entities_labels, front_of, kind_labels, least_value, mean, plain, table_labels}
use Rattle.gw_figures.specs.Values.{upper_limit}
use Rattle.gw_rows.specs.Laws.{ModelsAreReadable}
use Rattle.gw_rows.specs.Reading.{IsPlain}
use Rattle.gw_rows.proofs.ByName.{IsTold, by_word, of_entity}
use Rattle.gw_rows.proofs.PlainFields.{plain_append, plain_decimal}

-- one figure, and the others
infixr 4 ◌also◌
abbrev ◌also◌ : {P Q : Type 0} → P → Q → P × Q
p also q = (p, q)

-- NAMES AND NUMBERS

plain_letter : (b : ℕ) → IsTrue (is_letter b) → needs_byte default_writer b ≡ false
plain_letter b h = grind (arith, nat_tests)

plain_name : (name : List ℕ) → All (λ b. IsTrue (is_letter b)) name → IsPlain name
plain_name [] h = refl
plain_name (b ∷ name) h =
    or_from (needs_byte default_writer b) _ (plain_letter b (All-head (λ b. IsTrue (is_letter b)) b name h))
    (plain_name name (All-tail (λ b. IsTrue (is_letter b)) b name h))

plain_signed : (z : ℤ) → unsigned_abs z < 10 ^ 64 → IsPlain (signed_decimal z)
plain_signed (pos n) h = plain_decimal n h
plain_signed (negsuc n) h = plain_decimal (suc n) h

-- OF A RUN'S END

end_told : All IsTold end_labels
end_told = All-from_recursion IsTold end_labels (
    record { by_name = record { label_is = refl; no_change = refl }; plain = refl }
    also record { by_name = record { label_is = refl; no_change = refl }; plain = refl }
    also record { by_name = record { label_is = refl; no_change = refl }; plain = refl }
    also record { by_name = record { label_is = refl; no_change = refl }; plain = refl }
    also tt
    )

-- OF BLOCKS

plain_block : (block : Block) → IsPlain (block_word block)
plain_block (blocks.Generate g) = refl
plain_block (blocks.Terminate by) = refl
plain_block (blocks.Advance time) = refl
plain_block (blocks.Seize facility) = refl
plain_block (blocks.Release facility) = refl
plain_block (blocks.Enter u) = refl
plain_block (blocks.Leave u) = refl
plain_block (blocks.Queue u) = refl
plain_block (blocks.Depart u) = refl
plain_block (blocks.Assign a) = refl
plain_block (blocks.Test t) = refl
plain_block (blocks.Gate g) = refl
plain_block (blocks.Transfer target) = refl
plain_block (blocks.TransferByFraction f) = refl
plain_block (blocks.TransferBoth t) = refl
plain_block (blocks.TransferToSubroutine c) = refl
plain_block (blocks.TransferByParameter parameter) = refl
plain_block (blocks.Loop l) = refl
plain_block (blocks.Split s) = refl
plain_block (blocks.Assemble size) = refl
plain_block (blocks.Link l) = refl
plain_block (blocks.Unlink u) = refl
plain_block (blocks.Priority p) = refl
plain_block (blocks.Logic l) = refl
plain_block (blocks.Savevalue s) = refl
plain_block (blocks.Mark parameter) = refl
plain_block (blocks.Plus a) = refl
plain_block (blocks.Tabulate table) = refl
plain_block blocks.Buffer = refl

block_told : (i : ℕ) (block : Block) → i < 10 ^ 60 → All IsTold (block_labels i block)
block_told i block small =
    let number = codes "BLOCK " ++ decimal (i + 1) in
    let front = number ++ codes " " ++ block_word block in
    let number_is = plain_append (codes "BLOCK ") (decimal (i + 1)) refl (plain_decimal (i + 1) (omega arith)) in
    let front_is = plain_append (number ++ codes " ") (block_word block) (plain_append number (codes " ") number_is refl) (plain_block block) in
    let whole = plain_append front (codes " ") front_is refl in
    All-from_recursion IsTold (block_labels i block) (
    by_word front (codes "ENTRIES") (block_front i block ++ codes "ENTRIES") (detail (block_front i block) (codes "ENTRIES")) refl refl refl
    (plain_append (block_front i block) (codes "ENTRIES") whole refl)
    also by_word front (codes "HERE") (block_front i block ++ codes "HERE") (detail (block_front i block) (codes "HERE")) refl refl refl
    (plain_append (block_front i block) (codes "HERE") whole refl)
    also tt
    )

blocks_told : (i : ℕ) (bs : List Block) → i + length bs < 10 ^ 60 → All IsTold (blocks_labels i bs)
unfolding blocks_labels
blocks_told i [] small = All-nil IsTold
blocks_told i (block ∷ rest) small =
    All-append IsTold (block_labels i block) (blocks_labels (i + 1) rest) (block_told i block (omega (arith, small)))
    (blocks_told (i + 1) rest (omega (arith, small)))

-- OF A TABLE

-- what a class is called ends by a blank and a word
record HasShare (text : List ℕ) : Type 0 where
  pub part : List ℕ
  pub is : text ≡ part ++ codes " SHARE"
  pub plain_part : IsPlain part

one_of : (a b : Bool) (first last between : List ℕ) → HasShare first → HasShare last → HasShare between
    → HasShare (cond a first (cond b last between))
one_of true b first last between h k m = h
one_of false true first last between h k m = k
one_of false false first last between h k m = m

small_limit : (t : Table) (i : ℕ) → TableFits t → i ≤ 1000 → unsigned_abs (upper_limit t i) < 2 ^ 65
small_limit t i fits few =
    let limit = fits.limit.sfits in
    let wide = fits.width_most in
    let all : i * t.width ≤ 1000 * 4294967295 = mul-le i t.width 1000 4294967295 few wide in
    omega (arith, ints, limit, all)

small_least : (t : Table) (i : ℕ) → TableFits t → i ≤ 1000 → unsigned_abs (least_value t i) < 2 ^ 66
small_least t i fits few = let limit = small_limit t (i - 1) fits (omega (arith, few)) in omega (arith, ints, limit)

share_of : (t : Table) (i left : ℕ) → TableFits t → i ≤ 1000 → HasShare (class_text t i left)
share_of t i left fits few =
    let least = signed_decimal (least_value t i) in
    let most = signed_decimal (upper_limit t i) in
    let limit_is = plain_signed t.limit (let limit = fits.limit.sfits in omega (arith, ints, limit)) in
    let least_is = plain_signed (least_value t i) (omega (arith, small_least t i fits few)) in
    let most_is = plain_signed (upper_limit t i) (omega (arith, small_limit t i fits few)) in
    one_of (i == 0) (left == 0) (codes "TO " ++ signed_decimal t.limit ++ codes " SHARE") (codes "FROM " ++ least ++ codes " SHARE")
    (least ++ codes " TO " ++ most ++ codes " SHARE")
    (record {
      part = codes "TO " ++ signed_decimal t.limit;
      is = refl;
      plain_part = plain_append (codes "TO ") (signed_decimal t.limit) refl limit_is;
    })
    (record { part = codes "FROM " ++ least; is = refl; plain_part = plain_append (codes "FROM ") least refl least_is })
    (record {
      part = least ++ codes " TO " ++ most;
      is = refl;
      plain_part = plain_append (least ++ codes " TO ") most (plain_append least (codes " TO ") least_is refl) most_is;
    })

class_told : (name text : List ℕ) → IsPlain name → HasShare text → IsTold (plain (front_of (codes "TABLE ") name) text)
class_told name text name_is share =
    let front = front_of (codes "TABLE ") name in
    let is : front ++ text ≡ ((front ++ share.part) ++ codes " ") ++ codes "SHARE" =
    ap (λ ls. front ++ ls) share.is ∙ sym (append_assoc front share.part (codes " SHARE"))
    ∙ sym (append_assoc (front ++ share.part) (codes " ") (codes "SHARE")) in
    let front_is = plain_append (codes "TABLE " ++ name) (codes " ") (plain_append (codes "TABLE ") name refl name_is) refl in
    let text_is = ap (needs_quotes default_writer) share.is ∙ plain_append share.part (codes " SHARE") share.plain_part refl in
    by_word (front ++ share.part) (codes "SHARE") (front ++ text) (plain front text) is refl refl (plain_append front text front_is text_is)

classes_told : (t : Table) (name : List ℕ) (i left : ℕ) → IsPlain name → TableFits t → i + left ≤ 1000
    → All IsTold (class_labels t (front_of (codes "TABLE ") name) i left)
unfolding class_labels
classes_told t name i zero name_is fits few = All-nil IsTold
classes_told t name i (suc left) name_is fits few =
    let front = front_of (codes "TABLE ") name in
    All-cons IsTold (plain front (class_text t i left)) (class_labels t front (i + 1) left)
    (class_told name (class_text t i left) name_is (share_of t i left fits (omega (arith, few))))
    (classes_told t name (i + 1) left name_is fits (omega (arith, few)))

table_told : (t : Table) (name : List ℕ) → IsPlain name → TableFits t → All IsTold (table_labels t (front_of (codes "TABLE ") name))
table_told t name p fits =
    let k = codes "TABLE " in
    let front = front_of k name in
    let first = plain front (codes "COUNT") ∷ plain front (codes "SUM") ∷ mean front (codes "MEAN") ∷ plain front (codes "P50")
    ∷ plain front (codes "P90") ∷ plain front (codes "P95") ∷ [] in
    All-append IsTold first (class_labels t front 0 t.classes) (All-from_recursion IsTold first (
    of_entity k name (codes "COUNT") plain refl refl refl p refl
    also of_entity k name (codes "SUM") plain refl refl refl p refl
    also of_entity k name (codes "MEAN") mean refl refl refl p refl
    also of_entity k name (codes "P50") plain refl refl refl p refl
    also of_entity k name (codes "P90") plain refl refl refl p refl
    also of_entity k name (codes "P95") plain refl refl refl p refl
    also tt
    ))
    (classes_told t name 0 t.classes p fits (omega (arith, fits.classes_most)))

-- OF ENTITIES

kind_told : (kind : Kind) (name : List ℕ) → IsPlain name → KindFits kind → All IsTold (kind_labels kind name)
kind_told kinds.Facility name p fits = let k = codes "FACILITY " in All-from_recursion IsTold (kind_labels kinds.Facility name) (
    of_entity k name (codes "ENTRIES") plain refl refl refl p refl
    also of_entity k name (codes "WAIT") content refl refl refl p refl
    also of_entity k name (codes "UTIL") mean refl refl refl p refl
    also of_entity k name (codes "TIME") mean refl refl refl p refl
    also tt
    )
kind_told (kinds.Storage capacity) name p fits = let k = codes "STORAGE " in All-from_recursion IsTold (kind_labels (kinds.Storage capacity) name) (
    of_entity k name (codes "CONTENT") content refl refl refl p refl
    also of_entity k name (codes "MAX") plain refl refl refl p refl
    also of_entity k name (codes "ENTRIES") plain refl refl refl p refl
    also of_entity k name (codes "WAIT") content refl refl refl p refl
    also of_entity k name (codes "AVG") mean refl refl refl p refl
    also of_entity k name (codes "TIME") mean refl refl refl p refl
    also tt
    )
kind_told kinds.Queue name p fits = let k = codes "QUEUE " in All-from_recursion IsTold (kind_labels kinds.Queue name) (
    of_entity k name (codes "CONTENT") content refl refl refl p refl
    also of_entity k name (codes "MAX") plain refl refl refl p refl
    also of_entity k name (codes "ENTRIES") plain refl refl refl p refl
    also of_entity k name (codes "AVG") mean refl refl refl p refl
    also of_entity k name (codes "TIME") mean refl refl refl p refl
    also tt
    )
kind_told (kinds.Switch set) name p fits = All-from_recursion IsTold (kind_labels (kinds.Switch set) name) (
    of_entity (codes "SWITCH ") name (codes "SET") detail refl refl refl p refl
    also tt
    )
kind_told (kinds.Savevalue value) name p fits = All-from_recursion IsTold (kind_labels (kinds.Savevalue value) name) (
    of_entity (codes "SAVEVALUE ") name (codes "VALUE") plain refl refl refl p refl
    also tt
    )
kind_told (kinds.Table t) name p fits = table_told t name p fits
kind_told kinds.Chain name p fits = All-from_recursion IsTold (kind_labels kinds.Chain name) (
    of_entity (codes "CHAIN ") name (codes "CONTENT") detail refl refl refl p refl
    also tt
    )
kind_told (kinds.Variable procedure) name p fits = All-nil IsTold
kind_told (kinds.BooleanVariable procedure) name p fits = All-nil IsTold
kind_told (kinds.Function operands) name p fits = All-nil IsTold

entities_told : (entities : List Entity) → All IsLettered entities → All EntityFits entities → All IsTold (entities_labels entities)
unfolding entities_labels
entities_told [] letters fits = All-nil IsTold
entities_told (entity ∷ rest) letters fits =
    All-append IsTold (kind_labels entity.kind entity.name) (entities_labels rest)
    (kind_told entity.kind entity.name (plain_name entity.name (All-head IsLettered entity rest letters)) (All-head EntityFits entity rest fits).kind)
    (entities_told rest (All-tail IsLettered entity rest letters) (All-tail EntityFits entity rest fits))

pub models_are_readable : ModelsAreReadable
models_are_readable parts spelled =
    let blocks_few = spelled.limits.blocks in
    let ends = end_labels ++ blocks_labels 0 parts.blocks in
    let told = All-append IsTold ends (entities_labels parts.entities)
    (All-append IsTold end_labels (blocks_labels 0 parts.blocks) end_told (blocks_told 0 parts.blocks (omega (arith, blocks_few))))
    (entities_told parts.entities spelled.letters.names spelled.limits.each_entity) in
    (λ k d h. (told k d h).by_name, λ k d h. (told k d h).plain)
