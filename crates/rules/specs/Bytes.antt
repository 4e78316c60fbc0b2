-- Bytes compared, repeated, and put into an output.
use Rattle.std.specs.Prelude.{Bool, true, false, ◌&&◌, List, [], ◌∷◌, ◌++◌, ◌≡◌, ℕ, zero, suc, ◌+◌, eqb, length, take, drop}

-- whether two lists of bytes are the same
unfoldable pub same_bytes : List ℕ → List ℕ → Bool
same_bytes [] [] = true
same_bytes [] (y ∷ ys) = false
same_bytes (x ∷ xs) [] = false
same_bytes (x ∷ xs) (y ∷ ys) = eqb x y && same_bytes xs ys

-- bytes written n times over
unfoldable pub repeated : ℕ → List ℕ → List ℕ
repeated zero bytes = []
repeated (suc n) bytes = bytes ++ repeated n bytes

-- bytes put into an output at a place, and all others as they were
abbrev pub pasted : ℕ → List ℕ → List ℕ → List ℕ
pasted at bytes out = take at out ++ (bytes ++ drop (at + length bytes) out)

-- a lent output at exit: the bytes that were written, then what it held after them
abbrev pub written_over : List ℕ → List ℕ → List ℕ
written_over bytes out = pasted 0 bytes out

-- bytes are put into a part that held `before`, at a place: where they end, and what the part holds then
abbrev pub Puts : ℕ → List ℕ → List ℕ → ℕ → List ℕ → Type 0
Puts at bytes before r after = (r ≡ at + length bytes) × (after ≡ pasted at bytes before)
