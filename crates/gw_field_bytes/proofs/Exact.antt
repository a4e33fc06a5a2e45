-- Exact fields: what is read is spelled so, what is spelled so is read, a fault lies in the bytes, and bytes that lack some of a spelling are truncated.
use Rattle.std.proofs.Common.{◌≡◌, ℕ, suc, ◌+◌, ◌^◌, ◌<◌, ◌≤◌, ℤ, Bool, true, false, cond, eqb, ltb, leb, ◌&&◌, IsTrue, List, [], ◌∷◌, ◌++◌}
use Rattle.std.proofs.Common.{length, get_or, take, drop, Option, Some, None, Result, Ok, Err, refl, sym, ap, subst, ◌∙◌, append_assoc, arith, inl}
use Rattle.std.proofs.Common.{inr, ◌⊎◌}
use Rattle.std.specs.Prelude.{IfSome, FitsSigned, IsErrAnd}
use Rattle.std.specs.List.{All}
use Rattle.std.specs.Int.{Width, w16, w32, w64, byte_len, from_be_bytes, to_be_bytes, cast_signed, cast_unsigned}
use Rattle.std.proofs.lemmas.Bool.{cases_lt, ltb-false, le-ltb, lt-ltb, leb-true, le-leb, eqb-true, eq-eqb}
use Rattle.std.proofs.lemmas.Int.{to_z-of_z, of_z-to_z}
use mir.Val.{bits}
use Rattle.std.proofs.Math.Facts.{sfits_to_z, Fits-of_lt, Fits-of_z}
use Rattle.std.proofs.lemmas.List.{take_at, drop_at, take-append-drop, length-append, length-take, get_or-drop, get_or-take, get_or_past}
use Rattle.std.proofs.lemmas.Nat.{be_bytes_2, be_bytes_4, be_bytes_8, from_be_bytes-to_be_bytes_2, from_be_bytes-to_be_bytes_4, from_be_bytes-to_be_bytes_8}
use Rattle.gw_fields.specs.Codes as codes
use Rattle.gw_fields.specs.declared.error.Bad.{Bad}
use Rattle.gw_fields.specs.Fields.{◌>>=◌, Read, IsProperFront, Field, bad, byte, byte_read, number, signed_number, read_as, as_type, field_with_test}
use Rattle.gw_fields.specs.Fields.{and_then, both, field_that_fits, constant, is_within, number_between, nothing, optional, Form, behind, form_read}
use Rattle.gw_fields.specs.Fields.{by_tag, count, count_spelling, count_read, long_count_read}

-- ---- bytes

abbrev pub IsBytes : List ℕ → Type 0
IsBytes bytes = (i : ℕ) → get_or bytes i 0 < 256

pub IsBytes-from_All : (bytes : List ℕ) → All (λ byte. byte < 256) bytes → IsBytes bytes
IsBytes-from_All bytes h i =
    elim (cases_lt i (length bytes)) [ inl lt ↦ h i 0 lt | inr past ↦ rw (get_or_past bytes i 0 past) (omega arith) ]

IsBytes-drop : (n : ℕ) (bytes : List ℕ) → IsBytes bytes → IsBytes (drop n bytes)
IsBytes-drop n bytes h i = rw get_or-drop (h (n + i))

IsBytes-take : (n : ℕ) (bytes : List ℕ) → IsBytes bytes → IsBytes (take n bytes)
IsBytes-take n bytes h i =
    elim (cases_lt i n) [
      | inl lt ↦ rw (get_or-take n bytes i 0 lt) (h i)
      | inr le ↦ rw (get_or_past (take n bytes) i 0 (omega (arith, length-take n bytes))) (omega arith)
    ]

pub IsBytes-rest : (b : ℕ) (bytes : List ℕ) → IsBytes (b ∷ bytes) → IsBytes bytes
IsBytes-rest b bytes h i = h (suc i)

-- what a reader took from the front
pub record Takes (bytes text rest : List ℕ) : Type 0 where
  pub parts : bytes ≡ text ++ rest
  pub rest_fits : IsBytes rest

pub Takes-then : (a x b y c : List ℕ) → Takes a x b → Takes b y c → Takes a (x ++ y) c
Takes-then a x b y c p q = record { parts = p.parts ∙ ap (λ (t : List ℕ). x ++ t) q.parts ∙ sym (append_assoc x y c); rest_fits = q.rest_fits }

pub Takes-shorter : (a x b : List ℕ) → Takes a x b → length b ≤ length a
Takes-shorter a x b p = omega (arith, ap length p.parts, length-append x b)

-- ---- steps that may fail

-- both steps of two that did not fail
pub bind_ok : {A B : Type 0} (r : Result A Bad) (f : A → Result B Bad) (y : B) → (r >>= f) ≡ Ok y → (x : A) × (r ≡ Ok x) × (f x ≡ Ok y)
bind_ok (Ok x) f y e = (x, refl, e)
bind_ok (Err d) f y e = absurd cc

-- the step that failed, of two
pub bind_err : {A B : Type 0} (r : Result A Bad) (f : A → Result B Bad) (d : Bad) → (r >>= f) ≡ Err d → (r ≡ Err d) ⊎ ((x : A) × (r ≡ Ok x) × (f x ≡ Err d))
bind_err (Ok x) f d e = inr (x, refl, e)
bind_err (Err c) f d e = inl cc

-- which way a test went
pub chosen : {A : Type 0} (b : Bool) (x y z : A) → cond b x y ≡ z → ((b ≡ true) × (x ≡ z)) ⊎ ((b ≡ false) × (y ≡ z))
chosen true x y z e = inl (refl, e)
chosen false x y z e = inr (refl, e)

abbrev pub done : {A : Type 0} → A → Result A Bad
done x = Ok x

abbrev pub failed : {A : Type 0} → Bad → Result A Bad
failed d = Err d

pub ok_is : {A : Type 0} (x y : A) → done x ≡ done y → x ≡ y
ok_is x y e = cc

pub err_is : {A : Type 0} (c d : Bad) → failed {A = A} c ≡ failed d → c ≡ d
err_is c d e = cc

pub not_both : {A P : Type 0} (x : A) (d : Bad) → done x ≡ failed d → P
not_both x d e = absurd cc

-- ---- bytes that lack some of a text

-- the bytes are truncated
abbrev pub IsCut : {A : Type 0} → Result A Bad → Type 0
IsCut r = IsErrAnd r (λ e. e.code ≡ codes.truncation)

-- to this reader each proper front of the text is truncated
abbrev pub CutsFronts : {A : Type 0} → (List ℕ → Result A Bad) → List ℕ → Type 0
CutsFronts read text = (front : List ℕ) → IsProperFront front text → IsCut (read front)

-- a step that goes on from there
cut_stays : {A B : Type 0} (r : Result A Bad) (next : A → Result B Bad) → IsCut r → IsCut (r >>= next)
cut_stays (Ok x) next h = absurd h
cut_stays (Err e) next h = h

-- a reader that goes on once the text is read
pub cuts_still : {A B : Type 0} (read : List ℕ → Result A Bad) (next : List ℕ → A → Result B Bad) (text : List ℕ) → CutsFronts read text
    → CutsFronts (λ bytes. read bytes >>= next bytes) text
cuts_still read next text cuts front begins = cut_stays (read front) (next front) (cuts front begins)

-- no bytes have no proper front
pub no_front : {P : Type 0} (front : List ℕ) → IsProperFront front [] → P
no_front [] (rest, more, e) = absurd (more (sym e))
no_front (b ∷ front) (rest, more, e) = absurd cc

-- a proper front of a byte and a text is empty, or the byte and a proper front of the text
pub front_tail : (b c : ℕ) (text front : List ℕ) → IsProperFront (c ∷ front) (b ∷ text) → (b ≡ c) × IsProperFront front text
front_tail b c text front (rest, more, e) = (cc, (rest, more, cc))

-- where a proper front of two texts ends: in the first, or behind it
front_ends : (text others front : List ℕ) → IsProperFront front (text ++ others) → IsProperFront front text
    ⊎ ((behind : List ℕ) × (front ≡ text ++ behind) × IsProperFront behind others)
front_ends [] others front begins = inr (front, refl, begins)
front_ends (b ∷ text) others [] begins = inl (b ∷ text, (λ e. absurd cc), refl)
front_ends (b ∷ text) others (c ∷ front) begins =
    let tail = front_tail b c (text ++ others) front begins in
    elim (front_ends text others front tail.1) [
      | inl (rest, more, e) ↦ inl (rest, more, rw (tail.0, e) refl)
      | inr (behind, e, more) ↦ inr (behind, rw (tail.0, e) refl, more)
    ]

-- two texts, each with its reader
pub cuts_both : {A B : Type 0} (read : List ℕ → Read A) (next : A × List ℕ → Result B Bad) (x : A) (text others : List ℕ)
    → ((rest : List ℕ) → read (text ++ rest) ≡ Ok (x, rest)) → CutsFronts read text → CutsFronts (λ behind. next (x, behind)) others
    → CutsFronts (λ bytes. read bytes >>= next) (text ++ others)
cuts_both read next x text others again cuts cuts_others front begins =
    elim (front_ends text others front begins) [
      | inl inside ↦ cut_stays (read front) next (cuts front inside)
      | inr (behind, e, inside) ↦ rw (e, again behind) (cuts_others behind inside)
    ]

-- ---- exact fields

pub record IsExact {A : Type 0} (f : Field A) : Type 0 where
  -- what is read is spelled so
  pub takes : (bytes : List ℕ) (x : A × List ℕ) → IsBytes bytes → f.read bytes ≡ Ok x → Takes bytes (f.spell x.0) x.1 × f.Fits x.0
  -- what is spelled so is read
  pub again : (x : A) (rest : List ℕ) → f.Fits x → f.read (f.spell x ++ rest) ≡ Ok (x, rest)
  -- a fault lies in the bytes
  pub within : (bytes : List ℕ) (e : Bad) → IsBytes bytes → f.read bytes ≡ Err e → e.left ≤ length bytes
  -- a proper front of a spelling is truncated
  pub cut : (x : A) → f.Fits x → CutsFronts f.read (f.spell x)

-- ---- numbers

byte_takes : (bytes : List ℕ) (x : ℕ × List ℕ) → IsBytes bytes → byte_read bytes ≡ Ok x → Takes bytes (x.0 ∷ []) x.1 × (x.0 < 256)
byte_takes [] x fits e = absurd cc
byte_takes (b ∷ rest) x fits e =
    subst (λ (y : ℕ × List ℕ). Takes (b ∷ rest) (y.0 ∷ []) y.1 × (y.0 < 256)) (ok_is (b, rest) x e)
    (record { parts = refl; rest_fits = IsBytes-rest b rest fits }, fits 0)

byte_within : (bytes : List ℕ) (e : Bad) → IsBytes bytes → byte_read bytes ≡ Err e → e.left ≤ length bytes
byte_within [] e fits h = rw (← err_is (bad codes.truncation []) e h) (omega arith)
byte_within (b ∷ rest) e fits h = absurd cc

byte_cut : (n : ℕ) → n < 256 → CutsFronts byte_read (n ∷ [])
byte_cut n fits [] begins = refl
byte_cut n fits (b ∷ front) begins = no_front front (front_tail n b [] front begins).1

pub byte_exact : IsExact byte
byte_exact = record { takes = byte_takes; again = λ n rest fits. refl; within = byte_within; cut = byte_cut }

-- what is known of the bytes of a width
pub record IsWide (w : Width) : Type 0 where
  pub len : (n : ℕ) → length (to_be_bytes w n) ≡ byte_len w
  pub back : (bytes : List ℕ) → length bytes ≡ byte_len w → IsBytes bytes → to_be_bytes w (from_be_bytes w bytes) ≡ bytes
  pub again : (n : ℕ) → n < 256 ^ byte_len w → from_be_bytes w (to_be_bytes w n) ≡ n
  pub below : (bytes : List ℕ) → IsBytes bytes → from_be_bytes w bytes < 256 ^ byte_len w
  pub signed_fits : (n : ℕ) → n < 256 ^ byte_len w → FitsSigned w (cast_signed w n)
  pub signed_back : (n : ℕ) → n < 256 ^ byte_len w → cast_unsigned w (cast_signed w n) ≡ n
  pub bits_fit : (z : ℤ) → FitsSigned w z → cast_unsigned w z < 256 ^ byte_len w

-- a width is wide where its bytes are those of its numbers
wide : (w : Width) → ((n : ℕ) → length (to_be_bytes w n) ≡ byte_len w)
    → ((bytes : List ℕ) → length bytes ≡ byte_len w → IsBytes bytes → to_be_bytes w (from_be_bytes w bytes) ≡ bytes)
    → ((n : ℕ) → n < 256 ^ byte_len w → from_be_bytes w (to_be_bytes w n) ≡ n)
    → ((bytes : List ℕ) → IsBytes bytes → from_be_bytes w bytes < 256 ^ byte_len w) → 256 ^ byte_len w ≡ 2 ^ bits w → IsWide w
wide w len back again below most = record {
  len = len;
  back = back;
  again = again;
  below = below;
  signed_fits = λ n lt. sfits_to_z (Fits-of_lt (rw most at lt));
  signed_back = λ n lt. of_z-to_z w n (rw most at lt);
  bits_fit = λ z fits. rw most (Fits-of_z fits).fits;
}

pub wide16 : IsWide w16
wide16 = wide w16 (λ n. refl) (λ bytes len fits. be_bytes_2 bytes _ len fits refl) from_be_bytes-to_be_bytes_2
    (λ bytes fits. omega (arith, fits 0, fits 1)) refl

pub wide32 : IsWide w32
wide32 = wide w32 (λ n. refl) (λ bytes len fits. be_bytes_4 bytes _ len fits refl) from_be_bytes-to_be_bytes_4
    (λ bytes fits. omega (arith, fits 0, fits 1, fits 2, fits 3)) refl

pub wide64 : IsWide w64
wide64 = wide w64 (λ n. refl) (λ bytes len fits. be_bytes_8 bytes _ len fits refl) from_be_bytes-to_be_bytes_8
    (λ bytes fits. omega (arith, fits 0, fits 1, fits 2, fits 3, fits 4, fits 5, fits 6, fits 7)) refl

number_takes : (w : Width) → IsWide w → (bytes : List ℕ) (x : ℕ × List ℕ) → IsBytes bytes → (number w).read bytes ≡ Ok x
    → Takes bytes (to_be_bytes w x.0) x.1 × (x.0 < 256 ^ byte_len w)
number_takes w wide bytes x fits e =
    let front = take (byte_len w) bytes in
    let front_fits = IsBytes-take (byte_len w) bytes fits in
    elim (chosen (ltb (length bytes) (byte_len w)) (Err (bad codes.truncation bytes)) (Ok (from_be_bytes w front, drop (byte_len w) bytes)) (Ok x) e) [
      | inl cut ↦ not_both x (bad codes.truncation bytes) (sym cut.1)
      | inr long ↦
          let enough : byte_len w ≤ length bytes = ltb-false _ _ long.0 in
          let same : to_be_bytes w (from_be_bytes w front) ≡ front = wide.back front (omega (arith, length-take (byte_len w) bytes)) front_fits in
          subst (λ (y : ℕ × List ℕ). Takes bytes (to_be_bytes w y.0) y.1 × (y.0 < 256 ^ byte_len w))
          (ok_is (from_be_bytes w front, drop (byte_len w) bytes) x long.1) (
            record { parts = rw same (sym (take-append-drop (byte_len w) bytes)); rest_fits = IsBytes-drop (byte_len w) bytes fits },
            wide.below front front_fits,
          )
    ]

number_again : (w : Width) → IsWide w → (n : ℕ) (rest : List ℕ) → n < 256 ^ byte_len w → (number w).read (to_be_bytes w n ++ rest) ≡ Ok (n, rest)
number_again w wide n rest lt =
    let len = wide.len n in
    let long : ltb (length (to_be_bytes w n ++ rest)) (byte_len w) ≡ false = le-ltb _ _ (omega (arith, length-append (to_be_bytes w n) rest)) in
    rw (long, take_at (to_be_bytes w n) rest (byte_len w) len, drop_at (to_be_bytes w n) rest (byte_len w) len, wide.again n lt) refl

number_within : (w : Width) (bytes : List ℕ) (e : Bad) → IsBytes bytes → (number w).read bytes ≡ Err e → e.left ≤ length bytes
number_within w bytes e fits h =
    elim (chosen (ltb (length bytes) (byte_len w)) (Err (bad codes.truncation bytes))
    (Ok (from_be_bytes w (take (byte_len w) bytes), drop (byte_len w) bytes)) (Err e) h) [
      | inl cut ↦ rw (← err_is (bad codes.truncation bytes) e cut.1) (omega arith)
      | inr long ↦ not_both (from_be_bytes w (take (byte_len w) bytes), drop (byte_len w) bytes) e long.1
    ]

-- a proper front has fewer bytes
pub front_shorter : (text front : List ℕ) → IsProperFront front text → length front < length text
front_shorter text front ([], more, e) = absurd (more refl)
front_shorter text front (b ∷ rest, more, e) = omega (arith, ap length e, length-append front (b ∷ rest))

number_cut : (w : Width) → IsWide w → (n : ℕ) → CutsFronts (number w).read (to_be_bytes w n)
number_cut w wide n front begins =
    let short : ltb (length front) (byte_len w) ≡ true = lt-ltb _ _ (omega (arith, front_shorter (to_be_bytes w n) front begins, wide.len n)) in
    rw short refl

pub number_exact : (w : Width) → IsWide w → IsExact (number w)
number_exact w wide = record { takes = number_takes w wide; again = number_again w wide; within = number_within w; cut = λ n fits. number_cut w wide n }

signed_takes : (w : Width) → IsWide w → (bytes : List ℕ) (x : ℤ × List ℕ) → IsBytes bytes → (signed_number w).read bytes ≡ Ok x
    → Takes bytes (to_be_bytes w (cast_unsigned w x.0)) x.1 × FitsSigned w x.0
signed_takes w wide bytes x fits e =
    let a = bind_ok ((number w).read bytes) (λ n. Ok (cast_signed w n.0, n.1)) x e in
    let p = number_takes w wide bytes a.0 fits a.1 in
    subst (λ (y : ℤ × List ℕ). Takes bytes (to_be_bytes w (cast_unsigned w y.0)) y.1 × FitsSigned w y.0) (ok_is (cast_signed w a.0.0, a.0.1) x a.2)
    (rw (wide.signed_back a.0.0 p.1) p.0, wide.signed_fits a.0.0 p.1)

signed_again : (w : Width) → IsWide w → (z : ℤ) (rest : List ℕ) → FitsSigned w z
    → (signed_number w).read (to_be_bytes w (cast_unsigned w z) ++ rest) ≡ Ok (z, rest)
signed_again w wide z rest fits = rw (number_again w wide (cast_unsigned w z) rest (wide.bits_fit z fits), to_z-of_z w z fits) refl

signed_within : (w : Width) (bytes : List ℕ) (e : Bad) → IsBytes bytes → (signed_number w).read bytes ≡ Err e → e.left ≤ length bytes
signed_within w bytes e fits h =
    elim (bind_err ((number w).read bytes) (λ n. Ok (cast_signed w n.0, n.1)) e h) [
      | inl first ↦ number_within w bytes e fits first
      | inr second ↦ not_both (cast_signed w second.0.0, second.0.1) e second.2
    ]

signed_cut : (w : Width) → IsWide w → (z : ℤ) → FitsSigned w z → CutsFronts (signed_number w).read (to_be_bytes w (cast_unsigned w z))
signed_cut w wide z fits =
    cuts_still (number w).read (λ bytes n. Ok (cast_signed w n.0, n.1)) (to_be_bytes w (cast_unsigned w z)) (number_cut w wide (cast_unsigned w z))

pub signed_exact : (w : Width) → IsWide w → IsExact (signed_number w)
signed_exact w wide = record { takes = signed_takes w wide; again = signed_again w wide; within = signed_within w; cut = signed_cut w wide }

-- ---- fields made of others

pub made_exact : {A B : Type 0} (make : A → B) (back : B → A) (f : Field A) → ((x : A) → f.Fits x → back (make x) ≡ x)
    → ((y : B) → f.Fits (back y) → make (back y) ≡ y) → IsExact f → IsExact (as_type make back f)
made_exact {A} {B} make back f there here exact = record {
  takes = λ bytes x fits e.
      let a = bind_ok (f.read bytes) (λ x. Ok (make x.0, x.1)) x e in
      let p = exact.takes bytes a.0 fits a.1 in
      let whole : B × List ℕ = (make a.0.0, a.0.1) in
      subst (λ (z : B × List ℕ). Takes bytes (f.spell (back z.0)) z.1 × f.Fits (back z.0)) (ok_is whole x a.2) (rw (there a.0.0 p.1) p);
  again = λ y rest fits. rw (exact.again (back y) rest fits, here y fits) refl;
  within = λ bytes e fits h.
      elim (bind_err (f.read bytes) (λ x. Ok (make x.0, x.1)) e h) [
        | inl first ↦ exact.within bytes e fits first
        | inr second ↦ not_both (make second.0.0, second.0.1) e second.2
      ];
  cut = λ y fits. cuts_still f.read (λ bytes x. Ok (make x.0, x.1)) (f.spell (back y)) (exact.cut (back y) fits);
}

pub tested_exact : {A : Type 0} (test : A → Bool) (code : ℕ) (f : Field A) → IsExact f → IsExact (field_with_test test code f)
tested_exact {A} test code f exact = record {
  takes = λ bytes x fits e.
      let a = bind_ok (f.read bytes) (λ x. cond (test x.0) (Ok x) (Err (bad code bytes))) x e in
      let p = exact.takes bytes a.0 fits a.1 in
      elim (chosen (test a.0.0) (Ok a.0) (Err (bad code bytes)) (Ok x) a.2) [
        | inl passed ↦ subst (λ (z : A × List ℕ). Takes bytes (f.spell z.0) z.1 × (f.Fits z.0 × IsTrue (test z.0))) (ok_is a.0 x passed.1)
            (p.0, (p.1, passed.0))
        | inr missed ↦ not_both x (bad code bytes) (sym missed.1)
      ];
  again = λ x rest fits. rw (exact.again x rest fits.0, fits.1) refl;
  within = λ bytes e fits h.
      elim (bind_err (f.read bytes) (λ x. cond (test x.0) (Ok x) (Err (bad code bytes))) e h) [
        | inl first ↦ exact.within bytes e fits first
        | inr second ↦
            elim (chosen (test second.0.0) (Ok second.0) (Err (bad code bytes)) (Err e) second.2) [
              | inl passed ↦ not_both second.0 e passed.1
              | inr missed ↦ rw (← err_is (bad code bytes) e missed.1) (omega arith)
            ]
      ];
  cut = λ x fits. cuts_still f.read (λ bytes x. cond (test x.0) (Ok x) (Err (bad code bytes))) (f.spell x) (exact.cut x fits.0);
}

pub and_then_exact : {A B : Type 0} (f : Field A) (g : A → Field B) → IsExact f → ((x : A) → IsExact (g x)) → IsExact (and_then f g)
and_then_exact {A} {B} f g one two = record {
  takes = λ bytes x fits e.
      let a = bind_ok (f.read bytes) (λ x. (g x.0).read x.1 >>= λ y. Ok ((x.0, y.0), y.1)) x e in
      let b = bind_ok ((g a.0.0).read a.0.1) (λ y. Ok ((a.0.0, y.0), y.1)) x a.2 in
      let p = one.takes bytes a.0 fits a.1 in
      let q = (two a.0.0).takes a.0.1 b.0 p.0.rest_fits b.1 in
      let whole : (A × B) × List ℕ = ((a.0.0, b.0.0), b.0.1) in
      subst (λ (z : (A × B) × List ℕ). Takes bytes (f.spell z.0.0 ++ (g z.0.0).spell z.0.1) z.1 × (f.Fits z.0.0 × (g z.0.0).Fits z.0.1)) (ok_is whole x b.2)
      (Takes-then bytes (f.spell a.0.0) a.0.1 ((g a.0.0).spell b.0.0) b.0.1 p.0 q.0, (p.1, q.1));
  again = λ x rest fits.
      ap (and_then f g).read (append_assoc (f.spell x.0) ((g x.0).spell x.1) rest)
      ∙ rw (one.again x.0 ((g x.0).spell x.1 ++ rest) fits.0, (two x.0).again x.1 rest fits.1) refl;
  within = λ bytes e fits h.
      elim (bind_err (f.read bytes) (λ x. (g x.0).read x.1 >>= λ y. Ok ((x.0, y.0), y.1)) e h) [
        | inl first ↦ one.within bytes e fits first
        | inr second ↦
            let p = one.takes bytes second.0 fits second.1 in
            elim (bind_err ((g second.0.0).read second.0.1) (λ y. Ok ((second.0.0, y.0), y.1)) e second.2) [
              | inl here ↦ omega (arith, Takes-shorter bytes (f.spell second.0.0) second.0.1 p.0, (two second.0.0).within second.0.1 e p.0.rest_fits here)
              | inr none ↦ not_both ((second.0.0, none.0.0), none.0.1) e none.2
            ]
      ];
  cut = λ x fits.
      let h = g x.0 in
      cuts_both f.read (λ x. (g x.0).read x.1 >>= λ y. Ok ((x.0, y.0), y.1)) x.0 (f.spell x.0) (h.spell x.1)
      (λ rest. one.again x.0 rest fits.0) (one.cut x.0 fits.0)
      (cuts_still h.read (λ bytes y. Ok ((x.0, y.0), y.1)) (h.spell x.1) ((two x.0).cut x.1 fits.1));
}

pub both_exact : {A B : Type 0} (f : Field A) (g : Field B) → IsExact f → IsExact g → IsExact (both f g)
both_exact f g one two = and_then_exact f (λ _. g) one (λ _. two)

pub fitting_exact : {A : Type 0} (Fits : A → Type 0) (f : Field A) → ((x : A) → f.Fits x → Fits x) → ((x : A) → Fits x → f.Fits x)
    → IsExact f → IsExact (field_that_fits Fits f)
fitting_exact Fits f here there exact = record {
  takes = λ bytes x fits e. let p = exact.takes bytes x fits e in (p.0, here x.0 p.1);
  again = λ x rest fits. exact.again x rest (there x fits);
  within = exact.within;
  cut = λ x fits. exact.cut x (there x fits);
}

pub constant_exact : (value code : ℕ) (f : Field ℕ) → f.Fits value → IsExact f → IsExact (constant value code f)
constant_exact value code f fits exact =
    let test = λ (n : ℕ). eqb n value in
    fitting_exact (λ _. Unit {0}) (as_type (λ _. tt) (λ _. value) (field_with_test test code f)) (λ x h. tt) (λ x h. (fits, eq-eqb value value refl))
    (made_exact (λ _. tt) (λ _. value) (field_with_test test code f) (λ x h. sym (eqb-true x value h.1)) (λ y h. refl) (tested_exact test code f exact))

and_true : (a b : Bool) → (a && b) ≡ true → (a ≡ true) × (b ≡ true)
and_true true b e = (refl, e)
and_true false b e = absurd cc

within_tells : (least most n : ℕ) → is_within least most n ≡ true → (least ≤ n) × (n ≤ most)
within_tells least most n e = let both = and_true (leb least n) (leb n most) e in (leb-true least n both.0, leb-true n most both.1)

is_within-true : (least most n : ℕ) → (least ≤ n) × (n ≤ most) → is_within least most n ≡ true
is_within-true least most n h = rw (le-leb least n h.0, le-leb n most h.1) refl

pub ranged_exact : (least most : ℕ) (f : Field ℕ) → ((n : ℕ) → n ≤ most → f.Fits n) → IsExact f → IsExact (number_between least most f)
ranged_exact least most f fits exact =
    fitting_exact (λ n. (least ≤ n) × (n ≤ most)) (field_with_test (is_within least most) codes.limit f)
    (λ n h. within_tells least most n h.1)
    (λ n h. (fits n h.1, is_within-true least most n h))
    (tested_exact (is_within least most) codes.limit f exact)

pub nothing_exact : IsExact nothing
nothing_exact = record {
  takes = λ bytes x fits e. subst (λ (y : Unit {0} × List ℕ). Takes bytes [] y.1 × Unit {0}) (ok_is (tt, bytes) x e)
      (record { parts = refl; rest_fits = fits }, tt);
  again = λ x rest fits. refl;
  within = λ bytes e fits h. not_both (tt, bytes) e h;
  cut = λ x fits front begins. no_front front begins;
}

-- ---- a value behind its tag

-- what a reader took behind a tag
pub record Tagged {A B : Type 0} (tag : ℕ) (f : Field B) (make : B → A) (rest : List ℕ) (x : A × List ℕ) : Type 0 where
  pub value : B
  pub is : make value ≡ x.0
  pub taken : Takes (tag ∷ rest) (tag ∷ f.spell value) x.1
  pub fit : f.Fits value

pub tag_takes : {A B : Type 0} (tag : ℕ) (f : Field B) (make : B → A) → IsExact f → (rest : List ℕ) (x : A × List ℕ) → IsBytes rest
    → read_as make f.read rest ≡ Ok x → Tagged tag f make rest x
tag_takes tag f make exact rest x fits e =
    let a = bind_ok (f.read rest) (λ y. Ok (make y.0, y.1)) x e in
    let p = exact.takes rest a.0 fits a.1 in
    let whole = ok_is (make a.0.0, a.0.1) x a.2 in
    record {
      value = a.0.0;
      is = ap (λ z. z.0) whole;
      taken = subst (λ after. Takes (tag ∷ rest) (tag ∷ f.spell a.0.0) after) (ap (λ z. z.1) whole)
          (record { parts = ap (λ (t : List ℕ). tag ∷ t) p.0.parts; rest_fits = p.0.rest_fits });
      fit = p.1;
    }

pub tag_within : {A B : Type 0} (tag : ℕ) (f : Field B) (make : B → A) → IsExact f → (rest : List ℕ) (e : Bad) → IsBytes rest
    → read_as make f.read rest ≡ Err e → e.left ≤ length (tag ∷ rest)
tag_within tag f make exact rest e fits h =
    elim (bind_err (f.read rest) (λ y. Ok (make y.0, y.1)) e h) [
      | inl first ↦ omega (arith, exact.within rest e fits first)
      | inr second ↦ not_both (make second.0.0, second.0.1) e second.2
    ]

-- ---- one of several forms, by a tag

-- what a form reads behind its tag is spelled so with the tag, and a fault lies in the bytes
pub record IsExactForm {A : Type 0} (spell : A → List ℕ) (Fits : A → Type 0) (form : Form A) : Type 0 where
  pub takes : (rest : List ℕ) (x : A × List ℕ) → IsBytes rest → form.1 rest ≡ Ok x → Takes (form.0 ∷ rest) (spell x.0) x.1 × Fits x.0
  pub within : (rest : List ℕ) (e : Bad) → IsBytes rest → form.1 rest ≡ Err e → e.left ≤ length (form.0 ∷ rest)

-- a field behind a tag, and what is made of it
pub behind_exact : {A B : Type 0} (spell : A → List ℕ) (Fits : A → Type 0) (tag : ℕ) (make : B → A) (f : Field B)
    → ((y : B) → tag ∷ f.spell y ≡ spell (make y)) → ((y : B) → f.Fits y → Fits (make y)) → IsExact f → IsExactForm spell Fits (behind tag make f)
behind_exact {A} spell Fits tag make f spelled fit exact = record {
  takes = λ rest x fits e.
      let t = tag_takes tag f make exact rest x fits e in
      let taken : Takes (tag ∷ rest) (spell (make t.value)) x.1 = subst (λ (text : List ℕ). Takes (tag ∷ rest) text x.1) (spelled t.value) t.taken in
      subst (λ (y : A). Takes (tag ∷ rest) (spell y) x.1 × Fits y) t.is (taken, fit t.value t.fit);
  within = λ rest e fits h. tag_within tag f make exact rest e fits h;
}

-- each form is exact
abbrev pub AreExactForms : {A : Type 0} → (A → List ℕ) → (A → Type 0) → List (Form A) → Type 0
AreExactForms spell Fits [] = Unit {0}
AreExactForms spell Fits (f ∷ forms) = IsExactForm spell Fits f × AreExactForms spell Fits forms

-- one exact form, and the others
infixr 4 ◌also◌
abbrev pub ◌also◌ : {P Q : Type 0} → P → Q → P × Q
p also q = (p, q)

form_takes : {A : Type 0} (spell : A → List ℕ) (Fits : A → Type 0) (forms : List (Form A)) → AreExactForms spell Fits forms
    → (tag : ℕ) (rest : List ℕ) (x : A × List ℕ) → IsBytes rest → form_read forms tag (tag ∷ rest) rest ≡ Ok x
    → Takes (tag ∷ rest) (spell x.0) x.1 × Fits x.0
form_takes spell Fits [] exact tag rest x fits e = not_both x (bad codes.tag (tag ∷ rest)) (sym e)
form_takes spell Fits (f ∷ forms) exact tag rest x fits e =
    elim (chosen (eqb tag f.0) (f.1 rest) (form_read forms tag (tag ∷ rest) rest) (Ok x) e) [
      | inl is ↦ rw (eqb-true tag f.0 is.0) (exact.0.takes rest x fits is.1)
      | inr other ↦ form_takes spell Fits forms exact.1 tag rest x fits other.1
    ]

form_within : {A : Type 0} (spell : A → List ℕ) (Fits : A → Type 0) (forms : List (Form A)) → AreExactForms spell Fits forms
    → (tag : ℕ) (rest : List ℕ) (e : Bad) → IsBytes rest → form_read forms tag (tag ∷ rest) rest ≡ Err e → e.left ≤ length (tag ∷ rest)
form_within spell Fits [] exact tag rest e fits h = rw (← err_is (bad codes.tag (tag ∷ rest)) e h) (omega arith)
form_within spell Fits (f ∷ forms) exact tag rest e fits h =
    elim (chosen (eqb tag f.0) (f.1 rest) (form_read forms tag (tag ∷ rest) rest) (Err e) h) [
      | inl is ↦ exact.0.within rest e fits is.1
      | inr other ↦ form_within spell Fits forms exact.1 tag rest e fits other.1
    ]

pub by_tag_takes : {A : Type 0} (spell : A → List ℕ) (Fits : A → Type 0) (forms : List (Form A)) → AreExactForms spell Fits forms
    → (bytes : List ℕ) (x : A × List ℕ) → IsBytes bytes → by_tag forms bytes ≡ Ok x → Takes bytes (spell x.0) x.1 × Fits x.0
by_tag_takes spell Fits forms exact [] x fits e = not_both x (bad codes.truncation []) (sym e)
by_tag_takes spell Fits forms exact (tag ∷ rest) x fits e = form_takes spell Fits forms exact tag rest x (IsBytes-rest tag rest fits) e

pub by_tag_within : {A : Type 0} (spell : A → List ℕ) (Fits : A → Type 0) (forms : List (Form A)) → AreExactForms spell Fits forms
    → (bytes : List ℕ) (e : Bad) → IsBytes bytes → by_tag forms bytes ≡ Err e → e.left ≤ length bytes
by_tag_within spell Fits forms exact [] e fits h = rw (← err_is (bad codes.truncation []) e h) (omega arith)
by_tag_within spell Fits forms exact (tag ∷ rest) e fits h = form_within spell Fits forms exact tag rest e (IsBytes-rest tag rest fits) h

-- a tag, and the field behind it of the form that is found by it
tag_cut : {A B : Type 0} (forms : List (Form A)) (tag : ℕ) (make : B → A) (f : Field B)
    → ((bytes rest : List ℕ) → form_read forms tag bytes rest ≡ (behind tag make f).1 rest) → IsExact f → (x : B) → f.Fits x
    → CutsFronts (by_tag forms) (tag ∷ f.spell x)
tag_cut forms tag make f found exact x fits [] begins = refl
tag_cut forms tag make f found exact x fits (b ∷ front) begins =
    let tail = front_tail tag b (f.spell x) front begins in
    rw (← tail.0, found (tag ∷ front) front) (cut_stays (f.read front) (λ y. Ok (make y.0, y.1)) (exact.cut x fits front tail.1))

-- these bytes are read again, whatever stands behind them, and each proper front of them is truncated
pub record ReadsBack {A : Type 0} (read : List ℕ → Read A) (spelling : List ℕ) (x : A) : Type 0 where
  pub again : (rest : List ℕ) → read (spelling ++ rest) ≡ Ok (x, rest)
  pub cut : CutsFronts read spelling

pub tag_reads_back : {A B : Type 0} (forms : List (Form A)) (tag : ℕ) (make : B → A) (f : Field B)
    → ((bytes rest : List ℕ) → form_read forms tag bytes rest ≡ (behind tag make f).1 rest) → IsExact f → (x : B) → f.Fits x
    → ReadsBack (by_tag forms) (tag ∷ f.spell x) (make x)
tag_reads_back forms tag make f found exact x fits = record {
  again = λ rest. found (tag ∷ (f.spell x ++ rest)) (f.spell x ++ rest) ∙ rw (exact.again x rest fits) refl;
  cut = tag_cut forms tag make f found exact x fits;
}

-- forms that are exact make an exact field, where each value is read back
pub by_tag_exact : {A : Type 0} (spell : A → List ℕ) (Fits : A → Type 0) (forms : List (Form A)) → AreExactForms spell Fits forms
    → ((x : A) → Fits x → ReadsBack (by_tag forms) (spell x) x) → IsExact (record { spell = spell; read = by_tag forms; Fits = Fits })
by_tag_exact spell Fits forms exact back = record {
  takes = by_tag_takes spell Fits forms exact;
  again = λ x rest fits. (back x fits).again rest;
  within = by_tag_within spell Fits forms exact;
  cut = λ x fits. (back x fits).cut;
}

-- ---- 00, or 01 and a value

-- what stands behind a flag that is not 00
abbrev some_read : {A : Type 0} → Field A → ℕ → List ℕ → Read (Option A)
some_read f flag bytes = cond (eqb flag 1) (read_as (λ y. Some y) f.read bytes) (Err (bad codes.tag (flag ∷ bytes)))

optional_takes : {A : Type 0} (f : Field A) → IsExact f → (bytes : List ℕ) (x : Option A × List ℕ) → IsBytes bytes
    → (optional f).read bytes ≡ Ok x → Takes bytes ((optional f).spell x.0) x.1 × IfSome x.0 f.Fits
optional_takes f exact [] x fits e = absurd (not_both x (bad codes.truncation []) (sym e))
optional_takes {A} f exact (flag ∷ bytes) x fits e =
    let rest_fits = IsBytes-rest flag bytes fits in
    elim (chosen (eqb flag 0) (Ok (None, bytes)) (some_read f flag bytes) (Ok x) e) [
      | inl none ↦
          rw (eqb-true flag 0 none.0)
          (subst (λ (z : Option A × List ℕ). Takes (0 ∷ bytes) ((optional f).spell z.0) z.1 × IfSome z.0 f.Fits)
          (ok_is (None, bytes) x none.1) (record { parts = refl; rest_fits = rest_fits }, tt))
      | inr some ↦
          elim (chosen (eqb flag 1) (read_as (λ y. Some y) f.read bytes) (Err (bad codes.tag (flag ∷ bytes))) (Ok x) some.1) [
            | inl one ↦
                let t = tag_takes 1 f (λ y. Some y) exact bytes x rest_fits one.1 in
                rw (eqb-true flag 1 one.0) (subst (λ (o : Option A). Takes (1 ∷ bytes) ((optional f).spell o) x.1 × IfSome o f.Fits) t.is (t.taken, t.fit))
            | inr other ↦ not_both x (bad codes.tag (flag ∷ bytes)) (sym other.1)
          ]
    ]

optional_again : {A : Type 0} (f : Field A) → IsExact f → (o : Option A) (rest : List ℕ) → IfSome o f.Fits
    → (optional f).read ((optional f).spell o ++ rest) ≡ Ok (o, rest)
optional_again f exact None rest fits = refl
optional_again f exact (Some x) rest fits = rw (exact.again x rest fits) refl

optional_within : {A : Type 0} (f : Field A) → IsExact f → (bytes : List ℕ) (e : Bad) → IsBytes bytes → (optional f).read bytes ≡ Err e → e.left ≤ length bytes
optional_within f exact [] e fits h = rw (← err_is (bad codes.truncation []) e h) (omega arith)
optional_within f exact (flag ∷ bytes) e fits h =
    elim (chosen (eqb flag 0) (Ok (None, bytes)) (some_read f flag bytes) (Err e) h) [
      | inl none ↦ not_both (None, bytes) e none.1
      | inr some ↦
          elim (chosen (eqb flag 1) (read_as (λ y. Some y) f.read bytes) (Err (bad codes.tag (flag ∷ bytes))) (Err e) some.1) [
            | inl one ↦ tag_within flag f (λ y. Some y) exact bytes e (IsBytes-rest flag bytes fits) one.1
            | inr other ↦ rw (← err_is (bad codes.tag (flag ∷ bytes)) e other.1) (omega arith)
          ]
    ]

optional_cut : {A : Type 0} (f : Field A) → IsExact f → (o : Option A) → IfSome o f.Fits → CutsFronts (optional f).read ((optional f).spell o)
optional_cut f exact o fits [] begins = refl
optional_cut f exact None fits (flag ∷ front) begins = no_front front (front_tail 0 flag [] front begins).1
optional_cut f exact (Some x) fits (flag ∷ front) begins =
    let tail = front_tail 1 flag (f.spell x) front begins in
    rw (← tail.0) (cut_stays (f.read front) (λ y. Ok (Some y.0, y.1)) (exact.cut x fits front tail.1))

pub optional_exact : {A : Type 0} (f : Field A) → IsExact f → IsExact (optional f)
optional_exact f exact = record { takes = optional_takes f exact; again = optional_again f exact; within = optional_within f exact; cut = optional_cut f exact }

-- ---- counts

-- what is judged of the number behind ff
abbrev long_count_judged : ℕ → ℕ → List ℕ → ℕ × List ℕ → Read ℕ
long_count_judged least most bytes n =
    cond (is_within least most n.0) (cond (ltb n.0 255) (Err (bad codes.not_canonical bytes)) (Ok n)) (Err (bad codes.limit bytes))

long_count_takes : (least most : ℕ) (bytes rest : List ℕ) (x : ℕ × List ℕ) → IsBytes rest → long_count_read least most bytes rest ≡ Ok x
    → Takes (255 ∷ rest) (count_spelling x.0) x.1 × ((least ≤ x.0) × (x.0 ≤ most))
long_count_takes least most bytes rest x fits e =
    let judged = long_count_judged least most bytes in
    elim (chosen (ltb (length rest) 4) (Err (bad codes.truncation bytes)) ((number w32).read rest >>= judged) (Ok x) e) [
      | inl cut ↦ not_both x (bad codes.truncation bytes) (sym cut.1)
      | inr whole ↦
          let a = bind_ok ((number w32).read rest) judged x whole.1 in
          let p = number_takes w32 wide32 rest a.0 fits a.1 in
          elim (chosen (is_within least most a.0.0) (cond (ltb a.0.0 255) (Err (bad codes.not_canonical bytes)) (Ok a.0))
          (Err (bad codes.limit bytes)) (Ok x) a.2) [
            | inl kept ↦
                elim (chosen (ltb a.0.0 255) (Err (bad codes.not_canonical bytes)) (Ok a.0) (Ok x) kept.1) [
                  | inl short ↦ not_both x (bad codes.not_canonical bytes) (sym short.1)
                  | inr long ↦
                      subst (λ (z : ℕ × List ℕ). Takes (255 ∷ rest) (count_spelling z.0) z.1 × ((least ≤ z.0) × (z.0 ≤ most))) (ok_is a.0 x long.1)
                      (rw long.0 (record { parts = ap (λ (t : List ℕ). 255 ∷ t) p.0.parts; rest_fits = p.0.rest_fits }), within_tells least most a.0.0 kept.0)
                ]
            | inr outside ↦ not_both x (bad codes.limit bytes) (sym outside.1)
          ]
    ]

pub count_takes : (least most : ℕ) (bytes : List ℕ) (x : ℕ × List ℕ) → IsBytes bytes → count_read least most bytes ≡ Ok x
    → Takes bytes (count_spelling x.0) x.1 × ((least ≤ x.0) × (x.0 ≤ most))
unfolding count_read
count_takes least most [] x fits e = absurd (not_both x (bad codes.truncation []) (sym e))
count_takes least most (first ∷ rest) x fits e =
    let bytes = first ∷ rest in
    let short : Read ℕ = cond (is_within least most first) (Ok (first, rest)) (Err (bad codes.limit bytes)) in
    elim (chosen (ltb first 255) short (long_count_read least most bytes rest) (Ok x) e) [
      | inl one ↦
          elim (chosen (is_within least most first) (Ok (first, rest)) (Err (bad codes.limit bytes)) (Ok x) one.1) [
            | inl kept ↦
                subst (λ (z : ℕ × List ℕ). Takes bytes (count_spelling z.0) z.1 × ((least ≤ z.0) × (z.0 ≤ most))) (ok_is (first, rest) x kept.1)
                (rw one.0 (record { parts = refl; rest_fits = IsBytes-rest first rest fits }), within_tells least most first kept.0)
            | inr outside ↦ not_both x (bad codes.limit bytes) (sym outside.1)
          ]
      | inr four ↦
          let is_255 : first ≡ 255 = omega (arith, ltb-false _ _ four.0, fits 0) in
          rw is_255 (long_count_takes least most bytes rest x (IsBytes-rest first rest fits) four.1)
    ]

pub count_again : (least most : ℕ) → most < 256 ^ 4 → (n : ℕ) (rest : List ℕ) → (least ≤ n) × (n ≤ most)
    → count_read least most (count_spelling n ++ rest) ≡ Ok (n, rest)
unfolding count_read
count_again least most wide n rest fits =
    let kept : is_within least most n ≡ true = is_within-true least most n fits in
    elim (cases_lt n 255) [
      | inl lt ↦ let short : ltb n 255 ≡ true = lt-ltb _ _ lt in rw (short, short, kept) refl
      | inr le ↦
          let long : ltb n 255 ≡ false = le-ltb _ _ le in
          let enough : ltb (length (to_be_bytes w32 n ++ rest)) 4 ≡ false = le-ltb _ _ (omega (arith, length-append (to_be_bytes w32 n) rest)) in
          rw (long, number_again w32 wide32 n rest (omega arith), enough, kept, long) refl
    ]

long_count_within : (least most : ℕ) (bytes rest : List ℕ) (e : Bad) → IsBytes rest → length rest ≤ length bytes
    → long_count_read least most bytes rest ≡ Err e → e.left ≤ length bytes
long_count_within least most bytes rest e fits shorter h =
    let judged = long_count_judged least most bytes in
    elim (chosen (ltb (length rest) 4) (Err (bad codes.truncation bytes)) ((number w32).read rest >>= judged) (Err e) h) [
      | inl cut ↦ rw (← err_is (bad codes.truncation bytes) e cut.1) (omega arith)
      | inr whole ↦
          elim (bind_err ((number w32).read rest) judged e whole.1) [
            | inl first ↦ omega (arith, number_within w32 rest e fits first)
            | inr n ↦
                elim (chosen (is_within least most n.0.0) (cond (ltb n.0.0 255) (Err (bad codes.not_canonical bytes)) (Ok n.0))
                (Err (bad codes.limit bytes)) (Err e) n.2) [
                  | inl kept ↦
                      elim (chosen (ltb n.0.0 255) (Err (bad codes.not_canonical bytes)) (Ok n.0) (Err e) kept.1) [
                        | inl short ↦ rw (← err_is (bad codes.not_canonical bytes) e short.1) (omega arith)
                        | inr long ↦ not_both n.0 e long.1
                      ]
                  | inr outside ↦ rw (← err_is (bad codes.limit bytes) e outside.1) (omega arith)
                ]
          ]
    ]

pub count_within : (least most : ℕ) (bytes : List ℕ) (e : Bad) → IsBytes bytes → count_read least most bytes ≡ Err e → e.left ≤ length bytes
unfolding count_read
count_within least most [] e fits h = rw (← err_is (bad codes.truncation []) e h) (omega arith)
count_within least most (first ∷ rest) e fits h =
    let bytes = first ∷ rest in
    let short : Read ℕ = cond (is_within least most first) (Ok (first, rest)) (Err (bad codes.limit bytes)) in
    elim (chosen (ltb first 255) short (long_count_read least most bytes rest) (Err e) h) [
      | inl one ↦
          elim (chosen (is_within least most first) (Ok (first, rest)) (Err (bad codes.limit bytes)) (Err e) one.1) [
            | inl kept ↦ not_both (first, rest) e kept.1
            | inr outside ↦ rw (← err_is (bad codes.limit bytes) e outside.1) (omega arith)
          ]
      | inr four ↦ long_count_within least most bytes rest e (IsBytes-rest first rest fits) (omega arith) four.1
    ]

-- a front of a count is empty, or the ff and fewer than four bytes
pub count_cut : (least most n : ℕ) → CutsFronts (count_read least most) (count_spelling n)
unfolding count_read
count_cut least most n [] begins = refl
count_cut least most n (first ∷ front) begins =
    elim (cases_lt n 255) [
      | inl lt ↦
          let short : ltb n 255 ≡ true = lt-ltb _ _ lt in
          no_front front (front_tail n first [] front (rw short at begins)).1
      | inr le ↦
          let long : ltb n 255 ≡ false = le-ltb _ _ le in
          let tail = front_tail 255 first (to_be_bytes w32 n) front (rw long at begins) in
          let few : ltb (length front) 4 ≡ true = lt-ltb _ _ (front_shorter (to_be_bytes w32 n) front tail.1) in
          rw (← tail.0, few) refl
    ]

pub count_exact : (least most : ℕ) → most < 256 ^ 4 → IsExact (count least most)
count_exact least most wide =
    record { takes = count_takes least most; again = count_again least most wide; within = count_within least most; cut = λ n fits. count_cut least most n }
