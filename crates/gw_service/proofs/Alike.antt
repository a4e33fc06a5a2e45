-- Two services that agree for a user.
use Rattle.std.proofs.Common.{◌≡◌, ℕ, List, [], ◌∷◌, ◌++◌, Option, Some, None, Bool, true, false, if◌then◌else◌, refl, sym, ap, ◌∙◌}
use Rattle.gw_service.specs.Rows.{Row, rows_of}
use Rattle.gw_service.specs.Journal.{Service}
use Rattle.gw_service.specs.Machine.{Call, next, all_next}
use Rattle.gw_service.specs.Isolation.{Concern, OwnSubmit, OwnPoll, OwnCollect, OwnCancel, OwnTake, OwnReturn, NoConcern, Notice, NoNotice, NewJob}
use Rattle.gw_service.specs.Isolation.{Answer, StaysAlike, concern, notice, is_limited, limit_in, own_notice, own_next, with_concern, with_notice}
use Rattle.gw_service.specs.Isolation.{with_limit, concerns, notices, limits, SameCallSameReply, SameCallsSameReplies, FrontsAreToldFirst}
use Rattle.gw_service.proofs.Private.{private, unlimited, limited_stays}

-- ONE CALL

limit_is : (told : Notice) (b : Bool) → is_limited told ≡ b → limit_in told ≡ (if b then Some told else None)
limit_is told b is = ap (λ (b : Bool). if b then Some told else None) is

by_limits : (u : ℕ) (c d : Call) (s t : Service) (a b : Bool) → is_limited (notice u c s) ≡ a → is_limited (notice u d t) ≡ b
    → rows_of u s.now.rows ≡ rows_of u t.now.rows → concern u c s ≡ concern u d t
    → (if a then Some (notice u c s) else None) ≡ (if b then Some (notice u d t) else None) → StaysAlike u c d s t
by_limits u c d s t false false h g agree same told =
    let p = private u c s h in
    let q = private u d t g in
    let told : own_notice (concern u c s) (rows_of u s.now.rows) ≡ own_notice (concern u d t) (rows_of u t.now.rows) =
    ap (λ (x : Concern). own_notice x (rows_of u s.now.rows)) same ∙ ap (own_notice (concern u d t)) agree in
    let rows : own_next u (concern u c s) (rows_of u s.now.rows) ≡ own_next u (concern u d t) (rows_of u t.now.rows) =
    ap (λ (x : Concern). own_next u x (rows_of u s.now.rows)) same ∙ ap (own_next u (concern u d t)) agree in
    record { notice = p.notice ∙ told ∙ sym q.notice; agree = p.rows ∙ rows ∙ sym q.rows }
by_limits u c d s t true true h g agree same told =
    let rows = λ (v : Service). rows_of u v.now.rows in
    record { notice = cc; agree = ap rows (limited_stays u c s h) ∙ agree ∙ ap rows (sym (limited_stays u d t g)) }
by_limits u c d s t true false h g agree same told = absurd cc
by_limits u c d s t false true h g agree same told = absurd cc

pub alike : SameCallSameReply
alike u c d s t agree same limit =
    by_limits u c d s t (is_limited (notice u c s)) (is_limited (notice u d t)) refl refl agree same limit

-- A USER ALONE

-- what the user is told, and the user's rows then, by what each call is to the user, and by which shared refusal it meets, if by one
own_run : ℕ → List Concern → List (Option Notice) → List Row → List Notice × List Row
own_run u [] limits rows = ([], rows)
own_run u (x ∷ xs) [] rows = ([], rows)
own_run u (x ∷ xs) (None ∷ limits) rows =
    let rest = own_run u xs limits (own_next u x rows) in
    (with_notice (own_notice x rows) rest.0, rest.1)
own_run u (x ∷ xs) (Some told ∷ limits) rows =
    let rest = own_run u xs limits rows in
    (with_notice told rest.0, rest.1)

run-free : (u : ℕ) (x : Concern) (xs : List Concern) (ls : List (Option Notice)) (rows : List Row) → own_run u (x ∷ xs) (None ∷ ls) rows
    ≡ own_run u (with_concern x xs) (with_limit x None ls) rows
unfolding own_run
run-free u (OwnSubmit j) xs ls rows = refl
run-free u (OwnPoll p j) xs ls rows = refl
run-free u (OwnCollect p j) xs ls rows = refl
run-free u (OwnCancel p j) xs ls rows = refl
run-free u (OwnTake i) xs ls rows = refl
run-free u (OwnReturn i n) xs ls rows = refl
run-free u NoConcern xs ls rows = refl

run-limited : (u : ℕ) (x : Concern) (told : Notice) (xs : List Concern) (ls : List (Option Notice)) (rows : List Row) → (x ≡ NoConcern → ⊥)
    → own_run u (x ∷ xs) (Some told ∷ ls) rows ≡ own_run u (with_concern x xs) (with_limit x (Some told) ls) rows
unfolding own_run
run-limited u (OwnSubmit j) told xs ls rows own = refl
run-limited u (OwnPoll p j) told xs ls rows own = refl
run-limited u (OwnCollect p j) told xs ls rows own = refl
run-limited u (OwnCancel p j) told xs ls rows own = refl
run-limited u (OwnTake i) told xs ls rows own = refl
run-limited u (OwnReturn i n) told xs ls rows own = refl
run-limited u NoConcern told xs ls rows own = absurd (own refl)

-- what is limited concerns the user
concerns_user : (u : ℕ) (c : Call) (s : Service) → is_limited (notice u c s) ≡ true → concern u c s ≡ NoConcern → ⊥
concerns_user u c s limited none = let never : true ≡ false = sym limited ∙ unlimited u c s none in absurd cc

-- one call, and then the others
run-on : (u : ℕ) (c : Call) (cs : List Call) (s : Service) (b : Bool) → is_limited (notice u c s) ≡ b
    → (notices u cs (next c s), rows_of u (all_next cs (next c s)).now.rows)
    ≡ own_run u (concerns u cs (next c s)) (limits u cs (next c s)) (rows_of u (next c s).now.rows)
    → (notices u (c ∷ cs) s, rows_of u (all_next (c ∷ cs) s).now.rows) ≡ own_run u (concerns u (c ∷ cs) s) (limits u (c ∷ cs) s) (rows_of u s.now.rows)
unfolding own_run
run-on u c cs s false free others =
    let p = private u c s free in
    let x = concern u c s in
    let xs = concerns u cs (next c s) in
    let ls = limits u cs (next c s) in
    let rest = others ∙ ap (own_run u xs ls) p.rows in
    (λ i. (with_notice (p.notice i) (rest i).0, (rest i).1))
    ∙ run-free u x xs ls (rows_of u s.now.rows)
    ∙ ap (λ (l : Option Notice). own_run u (with_concern x xs) (with_limit x l ls) (rows_of u s.now.rows)) (sym (limit_is (notice u c s) false free))
run-on u c cs s true limited others =
    let told = notice u c s in
    let x = concern u c s in
    let xs = concerns u cs (next c s) in
    let ls = limits u cs (next c s) in
    let rest = others ∙ ap (λ (t : Service). own_run u xs ls (rows_of u t.now.rows)) (limited_stays u c s limited) in
    (λ i. (with_notice told (rest i).0, (rest i).1))
    ∙ run-limited u x told xs ls (rows_of u s.now.rows) (concerns_user u c s limited)
    ∙ ap (λ (l : Option Notice). own_run u (with_concern x xs) (with_limit x l ls) (rows_of u s.now.rows)) (sym (limit_is told true limited))

run-is : (u : ℕ) (cs : List Call) (s : Service) → (notices u cs s, rows_of u (all_next cs s).now.rows)
    ≡ own_run u (concerns u cs s) (limits u cs s) (rows_of u s.now.rows)
unfolding own_run
run-is u [] s = refl
run-is u (c ∷ cs) s = run-on u c cs s (is_limited (notice u c s)) refl (run-is u cs (next c s))

pub all_alike : SameCallsSameReplies
all_alike u cs ds s t agree same limited =
    let both : own_run u (concerns u cs s) (limits u cs s) (rows_of u s.now.rows) ≡ own_run u (concerns u ds t) (limits u ds t) (rows_of u t.now.rows) =
    ap (λ (xs : List Concern). own_run u xs (limits u cs s) (rows_of u s.now.rows)) same
    ∙ ap (λ (ls : List (Option Notice)). own_run u (concerns u ds t) ls (rows_of u s.now.rows)) limited
    ∙ ap (own_run u (concerns u ds t) (limits u ds t)) agree in
    let told = run-is u cs s ∙ both ∙ sym (run-is u ds t) in
    record { notices = λ i. (told i).0; agree = λ i. (told i).1 }

-- FRONTS

with-front : (told : Notice) (xs ys : List Notice) → with_notice told (xs ++ ys) ≡ with_notice told xs ++ ys
with-front NoNotice xs ys = refl
with-front NewJob xs ys = refl
with-front (Answer r) xs ys = refl

pub fronts_are_told_first : FrontsAreToldFirst
fronts_are_told_first u [] more s = refl
fronts_are_told_first u (c ∷ cs) more s =
    ap (with_notice (notice u c s)) (fronts_are_told_first u cs more (next c s))
    ∙ with-front (notice u c s) (notices u cs (next c s)) (notices u more (all_next cs (next c s)))
