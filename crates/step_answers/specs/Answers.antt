-- Document 01, "Steps and what they return": which answer an accepted packet and a fault get, in the paper's order.
use Rattle.std.specs.Prelude.{Bool, not, ◌&&◌, ◌||◌, List, map, ℕ, eqb, length}
use Rattle.std.proofs.Math.Option.{Option, none, some}
use Rattle.wire.specs.Check.{check}
use Rattle.state.specs.Tables.{Tables, fault_id, routed}
use Rattle.state.specs.Rules.{member}
use Rattle.step_effects.specs.FaultStates.{enabled, place_of, is_place, state_for}
use Rattle.step_answers.specs.declared.own.Own.{Own}
use Rattle.step_answers.specs.Own.{rule_of, own_command, fault_arg}

-- protected and unarmed
unfoldable pub blocked : List ℕ → Bool → ℕ → Bool
blocked protected armed id = not armed && member id protected

-- an own command: 31 wrong argument count, 32 fault id not in the table, else 11 arm taken or 12 done
unfoldable pub own_answer : List ℕ → Own → List ℕ → ℕ
own_answer faultIds k args =
    check (eqb (length args) (rule_of k).wanted) 31
    (check (not (rule_of k).is_on_row || is_place (place_of (fault_arg args) faultIds)) 32
    (rule_of k).done)

-- 33 neither own nor routed, else 10
unfoldable pub route_answer : List ℕ → ℕ → ℕ
route_answer routedIds id = check (member id routedIds) 33 10

-- an own command by its rules, any other id by its route
abbrev pub selected_answer : List ℕ → List ℕ → ℕ → Option Own → List ℕ → ℕ
selected_answer routedIds faultIds id (some k) args = own_answer faultIds k args
selected_answer routedIds faultIds id none args = route_answer routedIds id

-- 30, then 31 and 32 for an own id, then 33
unfoldable pub answer_for : List ℕ → List ℕ → List ℕ → Bool → ℕ → Option Own → List ℕ → ℕ
answer_for routedIds protected faultIds armed id k args =
    check (not (blocked protected armed id)) 30
    (selected_answer routedIds faultIds id k args)

abbrev pub answer_to : Tables → Bool → ℕ → List ℕ → ℕ
answer_to t armed id args =
    answer_for (routed t) t.protected (map fault_id t.rows) armed id (own_command t.settings.base id) args

-- a fault, by the place that its id means: 34 not in the table, 13 its response disabled or latched, else 10
unfoldable pub fault_answer : List ℕ → Option ℕ → ℕ
fault_answer states place =
    check (is_place place) 34
    (check (eqb (state_for place states) enabled) 13 10)
