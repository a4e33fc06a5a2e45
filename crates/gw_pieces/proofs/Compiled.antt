-- Procedures that are compiled one after the other.
use Rattle.std.proofs.Common.{◌≡◌, ℕ, zero, suc, ◌+◌, List, [], ◌∷◌, ◌++◌, length, take, Some, slice_get, inl, inr, ◌⊎◌, refl, sym, ap, subst, ◌∙◌, arith}
use Rattle.std.proofs.lemmas.List.{length-append}
use Rattle.gw_object.specs.declared.code.Procedure.{Procedure}
use Rattle.gw_text.specs.declared.model.Statement.{Statement}
use Rattle.gw_compile.specs.Numbers.{Numbers}
use Rattle.gw_pieces.specs.declared.origins.Origin.{Origin}
use Rattle.gw_object.specs.CodeGrammar.{backs}
use Rattle.gw_text_plus.specs.declared.model.Procedure.{Procedure as TextProcedure}
use Rattle.gw_text.specs.declared.model.Body.{Body}
use Rattle.gw_text.specs.declared.model.Body.TheVariants as bodies
use Rattle.gw_compile.specs.Code.{procedure_code}
use Rattle.gw_compile.specs.Keeps.{IsCompiledProcedure, ExceedsLimits}
use Rattle.gw_compile.specs.Statements.{body_of}
use Rattle.gw_pieces.specs.Reasons.{IsTooLong, ExceedsByBody, Exceeds}
use Rattle.gw_pieces.specs.Sources.{IsFromExpression, IsProcedureOfBody, IsProcedureOf, ComesFrom, AreCompiled, Grows}

-- what stands in a list with one more: what stood there, or the one more
grown : {A : Type 0} (xs : List A) (x y : A) (i : ℕ) → slice_get (xs ++ x ∷ []) i ≡ Some y → (slice_get xs i ≡ Some y) ⊎ ((i ≡ length xs) × (x ≡ y))
grown [] x y zero h = inr (refl, cc)
grown [] x y (suc i) h = absurd cc
grown (z ∷ xs) x y zero h = inl h
grown (z ∷ xs) x y (suc i) h = later (grown xs x y i h)
  where
    later : (slice_get xs i ≡ Some y) ⊎ ((i ≡ length xs) × (x ≡ y)) → (slice_get xs i ≡ Some y) ⊎ ((suc i ≡ suc (length xs)) × (x ≡ y))
    later (inl h) = inl h
    later (inr h) = inr (ap suc h.0, h.1)

still : {A : Type 0} (xs : List A) (x y : A) (i : ℕ) → slice_get xs i ≡ Some y → slice_get (xs ++ x ∷ []) i ≡ Some y
still [] x y i h = absurd cc
still (z ∷ xs) x y zero h = h
still (z ∷ xs) x y (suc i) h = still xs x y i h

last : {A : Type 0} (xs : List A) (x : A) → slice_get (xs ++ x ∷ []) (length xs) ≡ Some x
last [] x = refl
last (z ∷ xs) x = last xs x

-- what stands before a place stays, and what stands before one more is all
take_still : {A : Type 0} (xs : List A) (x y : A) (i : ℕ) → slice_get xs i ≡ Some y → take i (xs ++ x ∷ []) ≡ take i xs
take_still [] x y i h = absurd cc
take_still (z ∷ xs) x y zero h = refl
take_still (z ∷ xs) x y (suc i) h = ap (λ zs. z ∷ zs) (take_still xs x y i h)

take_all_before : {A : Type 0} (xs : List A) (x : A) → take (length xs) (xs ++ x ∷ []) ≡ xs
take_all_before [] x = refl
take_all_before (z ∷ xs) x = ap (λ zs. z ∷ zs) (take_all_before xs x)

-- those up to a place, and what stands there
pub one_further : {A : Type 0} (xs : List A) (i : ℕ) (x : A) → slice_get xs i ≡ Some x → take (suc i) xs ≡ take i xs ++ x ∷ []
one_further [] i x h = absurd cc
one_further (y ∷ ys) zero x h = let e : y ≡ x = cc in ap (λ z. z ∷ []) e
one_further (y ∷ ys) (suc i) x h = ap (λ zs. y ∷ zs) (one_further ys i x h)

module _ (n : Numbers) (ss : List Statement) where
  pub none_yet : AreCompiled n ss [] []
  none_yet = record { all = refl; each = λ q origin h. absurd cc }

  pub one_more : (order : List Origin) (procedures : List Procedure) (origin : Origin) (pr : Procedure) → AreCompiled n ss order procedures
      → ComesFrom n ss procedures origin pr → AreCompiled n ss (order ++ origin ∷ []) (procedures ++ pr ∷ [])
  one_more order procedures origin pr before here = record {
    all = length-append procedures (pr ∷ []) ∙ ap (λ k. k + 1) before.all ∙ sym (length-append order (origin ∷ []));
    each = λ q o h. at q o (grown order origin o q h);
  }
    where
      at : (q : ℕ) (o : Origin) → (slice_get order q ≡ Some o) ⊎ ((q ≡ length order) × (origin ≡ o)) → (x : Procedure)
          × (slice_get (procedures ++ pr ∷ []) q ≡ Some x) × ComesFrom n ss (take q (procedures ++ pr ∷ [])) o x
      at q o (inl h) =
          let c = before.each q o h in
          (c.0, still procedures pr c.0 q c.1, subst (λ ps. ComesFrom n ss ps o c.0) (sym (take_still procedures pr c.0 q c.1)) c.2)
      at q o (inr h) =
          let place : length procedures ≡ q = before.all ∙ sym h.0 in (
            pr,
            subst (λ k. slice_get (procedures ++ pr ∷ []) k ≡ Some pr) place (last procedures pr),
            subst (λ k. ComesFrom n ss (take k (procedures ++ pr ∷ [])) o pr) place
                (subst (λ ps. ComesFrom n ss ps o pr) (sym (take_all_before procedures pr)) (subst (λ x. ComesFrom n ss procedures x pr) h.1 here)),
          )

  -- what comes from a position of the statement of an origin comes from the origin
  pub comes_from : (origin : Origin) (s : Statement) → slice_get ss origin.statement ≡ Some s → (old new : List Procedure)
      → Grows (IsProcedureOf n old s origin.operand) old new → Grows (ComesFrom n ss old origin) old new
  comes_from origin s there old new g = (g.0, record { statement = s; there = there; compiled = g.1 }, g.2)

  -- the procedures of the origins up to a place, and of the next one
  pub one_further_compiled : (order : List Origin) (i : ℕ) (origin : Origin) → slice_get order i ≡ Some origin → (old new : List Procedure)
      → AreCompiled n ss (take i order) old → Grows (ComesFrom n ss old origin) old new → AreCompiled n ss (take (i + 1) order) new
  one_further_compiled order i origin there old new before g =
      let next : suc i ≡ i + 1 = omega arith in
      let is : take (i + 1) order ≡ take i order ++ origin ∷ [] = ap (λ k. take k order) (sym next) ∙ one_further order i origin there in
      subst (λ o. AreCompiled n ss o new) (sym is)
      (subst (λ ps. AreCompiled n ss (take i order ++ origin ∷ []) ps) (sym g.2) (one_more (take i order) old origin g.0 before g.1))

-- LIMITS

module _ (n : Numbers) (before : List Procedure) where
  of_body : (procedure : TextProcedure) (pr : Procedure) → IsCompiledProcedure n before procedure pr → ExceedsLimits (body_of n procedure) → ⊥
  of_body procedure pr h (inl over) = omega (arith, over, h.locals, h.limits.locals)
  of_body procedure pr h (inr (inl over)) = omega (arith, over, ap length h.code, h.limits.instructions)
  of_body procedure pr h (inr (inr over)) = omega (arith, over, ap backs h.code, h.limits.backs)

  of_expression : (s : Statement) (k : ℕ) (pr : Procedure) → IsFromExpression n before s k pr → IsTooLong n s k → ⊥
  of_expression s k pr h x =
      let both : Some x.0 ≡ Some h.0 = sym x.1 ∙ h.1 in
      let same : x.0 ≡ h.0 = cc in
      omega (arith, x.2, ap (λ e. length (procedure_code n e)) same, ap length h.2.code, h.2.limits.instructions)

  of_any : (b : Body) (s : Statement) (k : ℕ) (pr : Procedure) → IsProcedureOfBody n before b s k pr → ExceedsByBody n b s k → ⊥
  of_any (bodies.Procedure procedure) s k pr h x = of_body procedure pr h x
  of_any bodies.Nothing s k pr h x = of_expression s k pr h x
  of_any (bodies.Points points) s k pr h x = of_expression s k pr h x

  -- what is compiled isn't too long
  pub keeps_limits : (s : Statement) (k : ℕ) (pr : Procedure) → IsProcedureOf n before s k pr → Exceeds n s k → ⊥
  keeps_limits s k pr h x = of_any s.body s k pr h x
