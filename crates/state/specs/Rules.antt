-- The rules of document 01 for a configuration's rows, each said once: loading and the judging of a state both cite them. That of
-- its settings stands in `Settings`.
use Rattle.std.specs.Prelude.{Bool, true, false, cond, not, ◌&&◌, ◌||◌, List, [], ◌∷◌, ℕ, suc, ◌+◌, leb, eqb}

-- own ids are own base to own base + 7
unfoldable pub own : ℕ → ℕ → Bool
own base id = leb base id && leb id (base + 7)

-- the id is one of these
abbrev pub member : ℕ → List ℕ → Bool
member x [] = false
member x (y ∷ ys) = cond (eqb x y) true (member x ys)

-- the destination is 1 to 31, no routed id is an own id
unfoldable pub route_ok : ℕ → ℕ → ℕ → Bool
route_ok base id dest = leb 1 dest && (leb dest 31 && not (own base id))

-- a protected id is routed or own but never the arm id, which is own base itself
unfoldable pub protected_ok : ℕ → Bool → ℕ → Bool
protected_ok base isRouted id = not (eqb id base) && (isRouted || own base id)

-- a response id is routed, latching is 0 or 1
unfoldable pub row_ok : Bool → ℕ → Bool
row_ok isRouted latching = isRouted && leb latching 1

-- the start state is 0 or 1
unfoldable pub start_ok : ℕ → Bool
start_ok start = leb start 1

-- ids rise strictly: the least id that may follow these, one above the last of them
abbrev pub floor_from : ℕ → List ℕ → ℕ
floor_from low [] = low
floor_from low (x ∷ xs) = floor_from (suc x) xs

abbrev pub floor : List ℕ → ℕ
floor xs = floor_from 0 xs
