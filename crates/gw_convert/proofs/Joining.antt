-- Pieces behind pieces.
use Rattle.std.proofs.Common.{◌≡◌, ◌<◌, ℕ, ◌+◌, List, [], ◌∷◌, ◌++◌, take, length, map, slice_index_or, refl, subst, sym, ap, ◌∙◌}
use Rattle.std.proofs.Math.Seq.{take-length}
use Rattle.std.proofs.lemmas.List.{take_more}
use Rattle.std.specs.Str.Lines.{lines}
use Rattle.gw_convert.specs.Pieces.{AddsPiece, AddsPieces, IsConverted}

-- no piece
pub none : (old : List ℕ) → AddsPieces [] old old
unfolding AddsPieces
none old = refl

-- one piece more
pub snoc : (xs : List (List ℕ)) (x old mid new : List ℕ) → AddsPieces xs old mid → AddsPiece x mid new → AddsPieces (xs ++ (x ∷ [])) old new
unfolding AddsPieces
snoc [] x old mid new e p = (new, subst (λ o. AddsPiece x o new) e p, refl)
snoc (y ∷ ys) x old mid new w p = (w.0, w.1, snoc ys x w.0 mid new w.2 p)

-- the piece of the line of a number more
pub one_more : (ls : List (List ℕ)) (i : ℕ) (x old mid new : List ℕ) → i < length ls → x ≡ slice_index_or ls i []
    → AddsPieces (take i ls) old mid → AddsPiece x mid new → AddsPieces (take (i + 1) ls) old new
one_more ls i x old mid new lt e q p =
    subst (λ xs. AddsPieces xs old new) (sym (take_more ls i [] lt))
    (snoc (take i ls) (slice_index_or ls i []) old mid new q (subst (λ y. AddsPiece y mid new) e p))

-- the pieces of all lines
pub all : (ls : List (List ℕ)) (n : ℕ) (old new : List ℕ) → n ≡ length ls → AddsPieces (take n ls) old new → AddsPieces ls old new
all ls n old new e p = subst (λ xs. AddsPieces xs old new) (subst (λ k. take k ls ≡ ls) (sym e) (take-length ls)) p

-- a head and the pieces of a text's lines
pub joined : (text head body new : List ℕ) (ls : List (List ℕ)) → ls ≡ lines text → AddsPieces ls [] body → new ≡ head ++ body → IsConverted text new
joined text head body new ls e p w = record { head = head; body = body; whole = w; pieces = subst (λ x. AddsPieces x [] body) e p }
