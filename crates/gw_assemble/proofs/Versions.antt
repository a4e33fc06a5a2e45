-- An object that is completed has the least version that has its blocks and their slopes.
use Rattle.std.proofs.Common.{◌≡◌, ℕ, zero, suc, ◌+◌, List, [], ◌∷◌, map, Option, Some, None, Bool, true, false, ◌&&◌, ◌||◌, if◌then◌else◌, is_some}
use Rattle.std.proofs.Common.{refl, sym, ap, ◌∙◌, subst, arith, inl, inr}
use Rattle.std.specs.Prelude.{slice_get, slice_index_or, replicate}
use Rattle.std.specs.List.{list_any}
use Rattle.std.proofs.lemmas.Bool.{and_parts, or_cases, false≢true}
use Rattle.gw_object.specs.declared.blocks.Block.{Block}
use Rattle.gw_object.specs.declared.parts.Parts.{Parts}
use Rattle.gw_rules.specs.Flow.{own_row}
use Rattle.gw_rules.specs.Rows.{Row}
use Rattle.gw_pieces.specs.Versions.{version_of}
use Rattle.gw_slopes.specs.Sloped.{loops, counts, slope_by}
use Rattle.gw_slopes.specs.Found.{uses, HasSlopes, IsEnded, IsWeighed}
use Rattle.gw_assemble.specs.Assembly.{HasLeastVersion}

-- A PARAMETER THAT IS TRIED

-- one of these blocks, of which the first has the number b, is a LOOP on a parameter, and has a row
record HasLoop (rows : ℕ → Option Row) (q b : ℕ) (bs : List Block) : Type 0 where
  place : ℕ
  block : Block
  there : slice_get bs place ≡ Some block
  counted : counts q block ≡ true
  number : ℕ
  number_is : number ≡ b + place
  has : is_some (rows number) ≡ true

used : (rows : ℕ → Option Row) (q b : ℕ) (bs : List Block) → uses rows q b bs ≡ true → HasLoop rows q b bs
used rows q b [] h = absurd (false≢true h)
used rows q b (block ∷ bs) h =
    elim (or_cases (counts q block && is_some (rows b)) (uses rows q (b + 1) bs) h) [
      | inl here ↦
          let two = and_parts (counts q block) (is_some (rows b)) here in
          record { place = 0; block = block; there = refl; counted = two.0; number = b; number_is = omega arith; has = two.1 }
      | inr later ↦
          let l = used rows q (b + 1) bs later in
          let is = l.number_is in
          record { place = suc l.place; block = l.block; there = l.there; counted = l.counted; number = l.number; number_is = omega (arith, is); has = l.has }
    ]

row_of : (o : Option Row) → is_some o ≡ true → (row : Row) × (o ≡ Some row)
row_of None h = absurd (false≢true h)
row_of (Some row) h = (row, refl)

-- SLOPES

or_true : (b : Bool) → (b || true) ≡ true
or_true true = refl
or_true false = refl

sloped_where_marked : (q per : ℕ) (marks : List Bool) (i : ℕ) → slice_index_or marks i false ≡ true → list_any is_some (map (slope_by q per) marks) ≡ true
sloped_where_marked q per [] i h = absurd (false≢true h)
sloped_where_marked q per (m ∷ ms) zero h = ap (λ b. is_some (slope_by q per b) || list_any is_some (map (slope_by q per) ms)) h
sloped_where_marked q per (m ∷ ms) (suc i) h = ap (λ b. is_some (slope_by q per m) || b) (sloped_where_marked q per ms i h)
    ∙ or_true (is_some (slope_by q per m))

one_sloped : (p o : Parts) → HasSlopes p o → list_any is_some o.slopes ≡ true
one_sloped p o h =
    let l = used (own_row p) h.parameter 1 p.blocks h.tried in
    let number : l.number ≡ suc l.place = (let is = l.number_is in omega (arith, is)) in
    let row = row_of (own_row p (suc l.place)) (subst (λ n. is_some (own_row p n) ≡ true) number l.has) in
    let marked = h.slopes.are.whole (suc l.place) (loops (suc l.place) l.block row.0 l.there row.1 l.counted) in
    ap (list_any is_some) h.slopes.is ∙ sloped_where_marked h.parameter _ h.slopes.marks l.place marked

-- so many blocks without slopes
abbrev flat : ℕ → List (Option (ℕ × ℕ))
flat n = replicate n None

none_sloped : (n : ℕ) → list_any is_some (flat n) ≡ false
none_sloped zero = refl
none_sloped (suc n) = none_sloped n

-- VERSIONS

least_by : (p : Parts) (b : Bool) → list_any is_some p.slopes ≡ b → p.version ≡ (if b then 2 else version_of p.blocks) → HasLeastVersion p
least_by p b is h = h ∙ sym (ap (λ c. if c then 2 else version_of p.blocks) is)

-- without slopes
pub least_without : (p : Parts) (n : ℕ) → p.slopes ≡ flat n → p.version ≡ version_of p.blocks → HasLeastVersion p
least_without p n none h = least_by p false (ap (list_any is_some) none ∙ none_sloped n) h

least_ended : (p q : Parts) → HasLeastVersion p → IsEnded p q → HasLeastVersion q
least_ended p q h (inl (elsewhere, same)) = subst HasLeastVersion (sym same) h
least_ended p q h (inr (edge, inl (same, none))) = subst HasLeastVersion (sym same) h
least_ended p q h (inr (edge, inr (has, least))) = least_by q true (one_sloped p q has) (sym (ap (λ (x : Parts). x.version) has.rest))

pub least_weighed : (p q : Parts) → HasLeastVersion p → IsWeighed p q → HasLeastVersion q
least_weighed p q h w = least_ended w.base q (subst HasLeastVersion w.rest h) w.ended
