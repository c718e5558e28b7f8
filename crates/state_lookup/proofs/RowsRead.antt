-- Rows read, counted by the definitions: what the walk of before read, what a walk reads that stops once past, and what the
-- search looks at; and all three for tables of 1, 4, 16, 64 and 128 rows.
use Rattle.std.specs.Prelude.{◌≡◌, refl, [], ◌∷◌}
use Rattle.state_lookup.specs.RowsRead.{rows}

-- ids first, in the middle, last, absent below, between and above; of one row: there, absent below and above
pub of_1 : rows 1 (10 ∷ 5 ∷ 15 ∷ [])
    ≡ (1 ∷ 1 ∷ 1 ∷ []) ∷ (1 ∷ 1 ∷ 1 ∷ []) ∷ (1 ∷ 1 ∷ 1 ∷ []) ∷ []
of_1 = refl

pub of_4 : rows 4 (10 ∷ 30 ∷ 40 ∷ 5 ∷ 25 ∷ 45 ∷ [])
    ≡ (1 ∷ 1 ∷ 1 ∷ []) ∷ (3 ∷ 3 ∷ 3 ∷ []) ∷ (4 ∷ 4 ∷ 3 ∷ []) ∷ (4 ∷ 1 ∷ 1 ∷ []) ∷ (4 ∷ 3 ∷ 3 ∷ []) ∷ (4 ∷ 4 ∷ 3 ∷ []) ∷ []
of_4 = refl

pub of_16 : rows 16 (10 ∷ 90 ∷ 160 ∷ 5 ∷ 85 ∷ 165 ∷ [])
    ≡ (1 ∷ 1 ∷ 1 ∷ []) ∷ (9 ∷ 9 ∷ 5 ∷ []) ∷ (16 ∷ 16 ∷ 5 ∷ []) ∷ (16 ∷ 1 ∷ 1 ∷ []) ∷ (16 ∷ 9 ∷ 5 ∷ []) ∷ (16 ∷ 16 ∷ 5 ∷ []) ∷ []
of_16 = refl

pub of_64 : rows 64 (10 ∷ 330 ∷ 640 ∷ 5 ∷ 325 ∷ 645 ∷ [])
    ≡ (1 ∷ 1 ∷ 1 ∷ []) ∷ (33 ∷ 33 ∷ 7 ∷ []) ∷ (64 ∷ 64 ∷ 7 ∷ []) ∷ (64 ∷ 1 ∷ 1 ∷ []) ∷ (64 ∷ 33 ∷ 7 ∷ []) ∷ (64 ∷ 64 ∷ 7 ∷ []) ∷ []
of_64 = refl

pub of_128 : rows 128 (10 ∷ 650 ∷ 1280 ∷ 5 ∷ 645 ∷ 1285 ∷ [])
    ≡ (1 ∷ 1 ∷ 1 ∷ []) ∷ (65 ∷ 65 ∷ 8 ∷ []) ∷ (128 ∷ 128 ∷ 8 ∷ []) ∷ (128 ∷ 1 ∷ 1 ∷ []) ∷ (128 ∷ 65 ∷ 8 ∷ []) ∷ (128 ∷ 128 ∷ 8 ∷ []) ∷ []
of_128 = refl
