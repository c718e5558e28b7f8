-- The floor behind a column's ids: what may follow the last of them.
use Rattle.std.specs.Prelude.{◌≡◌, refl, List, [], ◌∷◌, ◌++◌, ℕ, zero, suc, ◌-◌, ◌≤◌, leb, ltb, length, get_or, take}
use Rattle.std.proofs.Common.{arith, take-suc}
use Rattle.state.specs.Rules.{floor_from, floor}

floor_snoc : (low : ℕ) (xs : List ℕ) (x : ℕ) → floor_from low (xs ++ x ∷ []) ≡ suc x
floor_snoc low [] x = refl
floor_snoc low (y ∷ xs) x = floor_snoc (suc y) xs x

-- to be above the last of the first n is to be no lower than the floor behind them
pub above : (xs : List ℕ) (n id : ℕ) → (n ≡ 0 → ⊥) × (n ≤ length xs) → ltb (get_or xs (n - 1) 0) id ≡ leb (floor (take n xs)) id
above xs zero id (p, q) = absurd (p refl)
above xs (suc n) id (p, q) =
    let k : suc n - 1 ≡ n = omega arith in
    rw (k, take-suc xs n 0 q, floor_snoc 0 (take n xs) (get_or xs n 0))
