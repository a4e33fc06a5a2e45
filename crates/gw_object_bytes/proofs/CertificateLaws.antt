-- The weights of blocks and their slopes are exact.
use Rattle.std.proofs.Common.{◌≡◌, ℕ, Bool, true, false, List, [], ◌∷◌, map, length, get_or, take, min, ◌+◌, ◌<◌, Option, Some, None, Ok, refl, sym}
use Rattle.std.proofs.Common.{ap, ap₂, subst, ◌∙◌, arith, inl, inr}
use Rattle.std.specs.Prelude.{IfSome, IsTrue}
use Rattle.std.specs.List.{All, flat_map, zip}
use Rattle.std.specs.Int.{w32}
use Rattle.std.proofs.lemmas.List.{length-map, get_or_default}
use Rattle.std.proofs.lemmas.List.Elements.{All-map}
use Rattle.std.proofs.lemmas.Slice.Zip.{length-zip, firsts-zip, seconds-zip, get_or-zip}
use Rattle.gw_object.specs.Limits.{greatest_weight}
use Rattle.gw_fields.specs.Fields.{Field, number, as_type, field_that_fits, nothing, plain, elements}
use Rattle.gw_object.specs.Grammar.{weight, parameter_slope, no_slope, has_slopes, slope_where, slope, IsSlopeOfVersion, SlopeFits, sloped_weight, CertificateFits, certificate}
use Rattle.gw_block_bytes.proofs.BlockLaws.{parameter_number_exact}
use Rattle.gw_field_bytes.specs.Receivers.{Content, with_bytes}
use Rattle.gw_field_bytes.proofs.Receiving.{one_more_put}
use Rattle.gw_field_bytes.proofs.Exact.{Takes, cuts_still, bind_ok, bind_err, ok_is, not_both, IsExact, wide32, number_exact, both_exact}
use Rattle.gw_field_bytes.proofs.Exact.{ranged_exact, nothing_exact, optional_exact}
use Rattle.gw_field_bytes.proofs.ExactLists.{plain_exact, elements_exact, All-from_fit, fit-from_All}

-- one more weight is put behind those before it, with its slope
pub one_more_weight : (version : ℕ) (weights : List ℕ) (slopes : List (Option (ℕ × ℕ))) (i w : ℕ) (s : Option (ℕ × ℕ))
    (start before behind : Content) → i < min (length weights) (length slopes) → w ≡ get_or weights i 0 → s ≡ get_or slopes i None
    → before ≡ with_bytes (flat_map (sloped_weight version).spell (take i (zip weights slopes))) start → behind
    ≡ with_bytes ((sloped_weight version).spell (w, s)) before
    → behind ≡ with_bytes (flat_map (sloped_weight version).spell (take (i + 1) (zip weights slopes))) start
one_more_weight version weights slopes i w s start before behind lt weight_is slope_is front last =
    let pairs = zip weights slopes in
    let first : i < length weights = omega (arith, lt) in
    let second : i < length slopes = omega (arith, lt) in
    let there : i < length pairs = omega (arith, lt, length-zip weights slopes) in
    let its_weight : get_or weights i w ≡ w = get_or_default weights i w 0 first ∙ sym weight_is in
    let its_slope : get_or slopes i s ≡ s = get_or_default slopes i s None second ∙ sym slope_is in
    let here : (w, s) ≡ get_or pairs i (w, s) =
    sym (get_or-zip weights slopes i (w, s) first second ∙ ap₂ (λ (x : ℕ) (y : Option (ℕ × ℕ)). (x, y)) its_weight its_slope) in
    one_more_put (sloped_weight version).spell pairs i (w, s) start before behind there here front last

-- a field's value under another type, where the values that fit are told in other words
made_fitting_exact : {A B : Type 0} (make : A → B) (back : B → A) (f : Field A) (Fits : B → Type 0)
    → ((x : A) → f.Fits x → (back (make x) ≡ x) × Fits (make x)) → ((y : B) → Fits y → (make (back y) ≡ y) × f.Fits (back y)) → IsExact f
    → IsExact (field_that_fits Fits (as_type make back f))
made_fitting_exact {A} {B} make back f Fits there here exact = record {
  takes = λ bytes x fits e.
      let a = bind_ok (f.read bytes) (λ x. Ok (make x.0, x.1)) x e in
      let p = exact.takes bytes a.0 fits a.1 in
      let made = there a.0.0 p.1 in
      let whole : B × List ℕ = (make a.0.0, a.0.1) in
      subst (λ (z : B × List ℕ). Takes bytes (f.spell (back z.0)) z.1 × Fits z.0) (ok_is whole x a.2) (rw made.0 p.0, made.1);
  again = λ y rest fits. let h = here y fits in rw (exact.again (back y) rest h.1, h.0) refl;
  within = λ bytes e fits h.
      elim (bind_err (f.read bytes) (λ x. Ok (make x.0, x.1)) e h) [
        | inl first ↦ exact.within bytes e fits first
        | inr second ↦ not_both (make second.0.0, second.0.1) e second.2
      ];
  cut = λ y fits. cuts_still f.read (λ bytes x. Ok (make x.0, x.1)) (f.spell (back y)) (exact.cut (back y) (here y fits).1);
}

-- ---- slopes

no_slope_exact : (f : Field (Unit {0})) → f.Fits tt → IsExact f → IsExact (no_slope f)
no_slope_exact f fits exact = made_fitting_exact (λ _. None) (λ _. tt) f (λ slope. slope ≡ None) (λ x h. (refl, refl)) (λ y h. (sym h, fits)) exact

parameter_slope_exact : IsExact parameter_slope
parameter_slope_exact = both_exact _ _ parameter_number_exact (ranged_exact 1 greatest_weight (number w32) (λ n h. omega arith) (number_exact w32 wide32))

slope_where_exact : (b : Bool) → IsExact (slope_where b)
slope_where_exact true = optional_exact parameter_slope parameter_slope_exact
slope_where_exact false = no_slope_exact nothing tt nothing_exact

-- a slope that a version has and that keeps its limits fits, and each that fits is such a one
slope_fits : (b : Bool) (slope : Option (ℕ × ℕ)) → IfSome slope (λ s. IsTrue b) → IfSome slope SlopeFits → (slope_where b).Fits slope
slope_fits true None has fits = tt
slope_fits true (Some s) has fits = (fits.parameter, (fits.least, fits.most))
slope_fits false None has fits = refl
slope_fits false (Some s) has fits = absurd (cc)

fits_slope : (b : Bool) (slope : Option (ℕ × ℕ)) → (slope_where b).Fits slope → IfSome slope (λ s. IsTrue b) × IfSome slope SlopeFits
fits_slope true None h = (tt, tt)
fits_slope true (Some s) h = (refl, record { parameter = h.0; least = h.1.0; most = h.1.1 })
fits_slope false None h = (tt, tt)
fits_slope false (Some s) h = absurd (cc)

pub slopes_fit : (version : ℕ) (slopes : List (Option (ℕ × ℕ))) → All (IsSlopeOfVersion version) slopes
    → All (λ slope. IfSome slope SlopeFits) slopes → All (slope version).Fits slopes
slopes_fit version slopes has fits k d lt = slope_fits (has_slopes version) (get_or slopes k d) (has k d lt) (fits k d lt)

pub fits_slopes : (version : ℕ) (slopes : List (Option (ℕ × ℕ))) → All (slope version).Fits slopes
    → All (λ slope. IsSlopeOfVersion version slope × IfSome slope SlopeFits) slopes
fits_slopes version slopes h k d lt = fits_slope (has_slopes version) (get_or slopes k d) (h k d lt)

-- ---- weights with their slopes

pub weight_exact : IsExact weight
weight_exact = ranged_exact 1 greatest_weight (number w32) (λ n h. omega arith) (number_exact w32 wide32)

sloped_weight_exact : (version : ℕ) → IsExact (sloped_weight version)
sloped_weight_exact version = both_exact _ _ weight_exact (slope_where_exact (has_slopes version))

abbrev Sloped : Type 0
Sloped = ℕ × Option (ℕ × ℕ)

abbrev weights_of : List Sloped → List ℕ
weights_of xs = map (λ (x : Sloped). x.0) xs

abbrev slopes_of : List Sloped → List (Option (ℕ × ℕ))
slopes_of xs = map (λ (x : Sloped). x.1) xs

-- two lists that were made of one make it again
zip_parts : (xs : List Sloped) → zip (weights_of xs) (slopes_of xs) ≡ xs
zip_parts [] = refl
zip_parts (x ∷ xs) = ap (λ (ys : List Sloped). x ∷ ys) (zip_parts xs)

module _ (version n : ℕ) where
  parts_fit : (xs : List Sloped) → (elements (plain (sloped_weight version)) n).Fits xs → CertificateFits version n (weights_of xs, slopes_of xs)
  parts_fit xs h =
      let each = All-from_fit (λ front left. (sloped_weight version).Fits) (sloped_weight version).Fits (λ front left x fit. fit) xs [] h.1 in
      record {
        weights = length-map xs (λ (x : Sloped). x.0) ∙ h.0;
        each_weight = All-map weight.Fits (λ (x : Sloped). x.0) xs (λ k d lt. (each k d lt).0);
        slopes = length-map xs (λ (x : Sloped). x.1) ∙ h.0;
        each_slope = All-map (slope version).Fits (λ (x : Sloped). x.1) xs (λ k d lt. (each k d lt).1);
      }

  zip_fits : (x : List ℕ × List (Option (ℕ × ℕ))) → CertificateFits version n x → (elements (plain (sloped_weight version)) n).Fits (zip x.0 x.1)
  zip_fits x h =
      let long : length (zip x.0 x.1) ≡ n = omega (arith, length-zip x.0 x.1, h.weights, h.slopes) in
      let each : All (sloped_weight version).Fits (zip x.0 x.1) = λ k d lt.
      let first : k < length x.0 = omega (arith, long, h.weights, lt) in
      let second : k < length x.1 = omega (arith, long, h.slopes, lt) in
      rw (get_or-zip x.0 x.1 k d first second) (h.each_weight k d.0 first, h.each_slope k d.1 second) in
      (long, fit-from_All (sloped_weight version).Fits (zip x.0 x.1) [] each)

  parts_zip : (x : List ℕ × List (Option (ℕ × ℕ))) → CertificateFits version n x → (weights_of (zip x.0 x.1), slopes_of (zip x.0 x.1)) ≡ x
  parts_zip (weights, slopes) h =
      let same : length slopes ≡ length weights = h.slopes ∙ sym h.weights in
      ap₂ (λ (ws : List ℕ) (ss : List (Option (ℕ × ℕ))). (ws, ss)) (firsts-zip weights slopes same) (seconds-zip weights slopes same)

  pub certificate_exact : IsExact (certificate version n)
  certificate_exact = made_fitting_exact _ _ _ (CertificateFits version n) (λ xs h. (zip_parts xs, parts_fit xs h))
      (λ x h. (parts_zip x h, zip_fits x h)) (elements_exact _ n (plain_exact _ (sloped_weight_exact version)))
