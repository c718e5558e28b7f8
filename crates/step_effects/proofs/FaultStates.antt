-- Document 01, "Own commands": the response state of a fault row, by state and event; which row a fault id means, by its place,
-- and what an event on the row at a place makes of the states.
use Rattle.std.specs.Prelude.{◌≡◌, [], ◌∷◌, map, refl}
use Rattle.step_effects.specs.FaultStates.{disabled, enabled, latched, enable, disable, clear, fault, next_state}

-- the paper's table, row by row
paper_table :
    map (λ s. map (next_state s) (enable ∷ disable ∷ clear ∷ fault ∷ [])) (disabled ∷ enabled ∷ latched ∷ [])
    ≡ (enabled ∷ disabled ∷ disabled ∷ disabled ∷ [])
    ∷ (enabled ∷ disabled ∷ enabled ∷ latched ∷ [])
    ∷ (latched ∷ disabled ∷ enabled ∷ latched ∷ [])
    ∷ []
paper_table = refl
