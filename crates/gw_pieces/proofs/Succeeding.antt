-- What holds of answers that are there.
use Rattle.std.proofs.Common.{Result, Ok, Err, OnOk, IfOk}

-- what is so on success, from what else is
pub on_ok : {A E P Q : Type 0} (r : Result A E) → (P → Q) → OnOk r P → OnOk r Q
on_ok (Ok x) f h = f h
on_ok (Err e) f h = tt

-- and of every answer
pub on_every_ok : {A E : Type 0} {P Q : A → Type 0} (r : Result A E) → ((x : A) → P x → Q x) → IfOk r P → IfOk r Q
on_every_ok (Ok x) f h = f x h
on_every_ok (Err e) f h = tt

-- and from what is so of the answer
pub any_ok : {A E : Type 0} {P : A → Type 0} {Q : Type 0} (r : Result A E) → ((x : A) → P x → Q) → IfOk r P → OnOk r Q
any_ok (Ok x) f h = f x h
any_ok (Err e) f h = tt

-- and of every answer, with what else is so
pub on_both_ok : {A E : Type 0} {P Q : A → Type 0} {R : Type 0} (r : Result A E) → ((x : A) → P x → R → Q x) → IfOk r P → OnOk r R → IfOk r Q
on_both_ok (Ok x) f h k = f x h k
on_both_ok (Err e) f h k = tt

-- and what is so anyway
pub always : {A E P : Type 0} (r : Result A E) → P → OnOk r P
always (Ok x) h = h
always (Err e) h = tt
