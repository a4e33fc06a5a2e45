-- Reading the elements of a list one after the other, as a loop does.
use Rattle.std.proofs.Common.{◌≡◌, ℕ, suc, ◌-◌, ◌+◌, ◌≤◌, ◌<◌, List, [], ◌∷◌, ◌++◌, Ok, Err, refl, sym, ◌∙◌, arith}
use Rattle.gw_fields.specs.declared.error.ReadError.{ReadError}
use Rattle.gw_fields.specs.declared.error.ReadError.TheVariants.{OutOfMemory, Wrong}
use Rattle.gw_fields.specs.Fields.{Read, elements_read}
use Rattle.gw_fields.specs.Answers.{Fails}

-- after one more element the rest is still to be read
pub goes_on : {A : Type 0} (read : List A → ℕ → List ℕ → Read A) (count i : ℕ) (front : List A) (bytes : List ℕ) (x : A) (after : List ℕ)
    (total : Read (List A)) → i < count → read front (count - 1 - i) bytes ≡ Ok (x, after)
    → elements_read read (count - i) front bytes ≡ total → elements_read read (count - (i + 1)) (front ++ x ∷ []) after ≡ total
unfolding elements_read
goes_on read count i front bytes x after total lt h so_far =
    let k : count - i ≡ suc (count - 1 - i) = omega arith in
    let j : count - (i + 1) ≡ count - 1 - i = omega arith in
    let one : elements_read read (count - i) front bytes ≡ elements_read read (count - 1 - i) (front ++ x ∷ []) after = rw (k, h) refl in
    rw j (sym one ∙ so_far)

-- a fault of an element is the fault of the list
pub ends : {A : Type 0} (read : List A → ℕ → List ℕ → Read A) (e : ReadError) (front : List A) (count i : ℕ) (bytes : List ℕ)
    (total : Read (List A)) → i < count → Fails e (read front (count - 1 - i) bytes)
    → elements_read read (count - i) front bytes ≡ total → Fails e total
unfolding elements_read
ends read OutOfMemory front count i bytes total lt h so_far = tt
ends read (Wrong b) front count i bytes total lt h so_far =
    let k : count - i ≡ suc (count - 1 - i) = omega arith in
    let one : elements_read read (count - i) front bytes ≡ Err b = rw (k, h) refl in
    sym so_far ∙ one

-- when none is left to be read, the list is what was read
pub is_done : {A : Type 0} (read : List A → ℕ → List ℕ → Read A) (front : List A) (count i : ℕ) (bytes : List ℕ) (total : Read (List A))
    → count ≤ i → elements_read read (count - i) front bytes ≡ total → total ≡ Ok (front, bytes)
unfolding elements_read
is_done read front count i bytes total le so_far =
    let k : count - i ≡ 0 = omega arith in
    let one : elements_read read (count - i) front bytes ≡ Ok (front, bytes) = rw k refl in
    sym so_far ∙ one
