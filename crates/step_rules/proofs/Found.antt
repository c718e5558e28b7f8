-- What a lookup in lent columns says of the fault id that was looked up: the place that it means, and the row there; and what a
-- state that keeps its rules may lend.
use Rattle.std.specs.Prelude.{◌≡◌, refl, true, List, [], ◌∷◌, map, ℕ, zero, suc, ◌<◌, ◌≤◌, length, get_or, take, Option, None, Some, IsSome}
use Rattle.std.proofs.Math.Option.{none, some}
use Rattle.std.proofs.Common.{arith, sym, ◌∙◌}
use Rattle.std.proofs.lemmas.Bool.{false≢true}
use Rattle.state.specs.declared.types.Config.{Config}
use Rattle.state.specs.declared.types.Run.{Run}
use Rattle.state.specs.Tables.{FaultRow, fault_id, routed, row_at, tables_of}
use Rattle.state.specs.Rules.{member}
use Rattle.state.specs.Keeps.{Each, RowOk, Keeps}
use Rattle.state.proofs.KeepsLaws.{member_kept}
use Rattle.state.specs.Sized.{Sized}
use Rattle.state.specs.Lookup.{place_in, Placed, Slots}
use Rattle.state.proofs.LookupLaws.{no_member}
use Rattle.state.proofs.ArrayLaws.{listed_at, rows_count, fault_ids_are, routed_is}
use Rattle.state.proofs.Columns.{route_column, protected_column, fault_column}
use Rattle.step_effects.specs.FaultStates.{no_row, meant}
use Rattle.step_effects.proofs.ActLaws.{place_below, place_past}
use Rattle.step_answers.specs.AnswerLaws.{Lent}

each_at : {A : Type 0} (P : A → Type 0) (d : A) (xs : List A) → Each P xs → (i : ℕ) → i < length xs → P (get_or xs i d)
each_at P d [] h i l = absurd (omega arith)
each_at P d (x ∷ xs) h zero l = h.0
each_at P d (x ∷ xs) h (suc i) l = each_at P d xs h.1 i (omega arith)

-- an id that is there is found
pub member_found : {limit : ℕ} {ids : List ℕ} {n : ℕ} → Slots limit ids n → (id : ℕ) (found : Option ℕ)
    → member id (take n ids) ≡ true → Placed id ids n found → IsSome found
member_found s id None m past = absurd (false≢true (sym (no_member s id _ refl past) ∙ m))
member_found s id (Some k) m p = refl

module _ (c : Config) where
  abbrev rows : List FaultRow
  rows = (tables_of c).rows

  -- the row at a place in use
  pub row_here : (place : ℕ) → place < c.numbers.nrows
      → get_or rows place no_row ≡ row_at c.faultids c.responses c.latching c.argcounts c.args place
  row_here place h = listed_at (row_at c.faultids c.responses c.latching c.argcounts c.args) no_row c.numbers.nrows place h

  -- the fault ids are lent
  module _ (s : Slots 32 c.faultids c.numbers.nrows) where
    pub ids_are : map fault_id rows ≡ take c.numbers.nrows c.faultids
    ids_are = fault_ids_are c (omega (arith, s.long, s.within))

    -- the fault id f was found at a place, or not
    module _ (f place : ℕ) (e : place ≡ place_in f (take c.numbers.nrows c.faultids)) where
      pub unknown : c.numbers.nrows ≤ place → meant (tables_of c) f ≡ none
      unknown h = rw ids_are (place_past s f place e h)

      pub known : place < c.numbers.nrows → meant (tables_of c) f ≡ some place
      known h = rw ids_are (place_below s f place e h)

-- a state that keeps its rules
module _ {c : Config} {run : Run} (k : Keeps c run) (s : Sized c) where
  -- the arrays as they are lent
  pub lend : Lent c.numbers c.routeids c.dests c.protected c.faultids
  lend =
      record {
        route_ids = route_column k s;
        dests_long = s.dests_128;
        protected_ids = protected_column k s;
        fault_ids = fault_column k s;
      }

  -- the response of a row in use is routed
  pub responds : (place : ℕ) → place < c.numbers.nrows → member (get_or c.responses place 0) (take c.numbers.nroutes c.routeids) ≡ true
  responds place h =
      let l : place < length (rows c) = omega (arith, rows_count c) in
      let ok = each_at (RowOk (routed (tables_of c))) no_row (rows c) k.rules.rows_ok place l in
      let r = route_column k s in
      rw (row_here c place h, routed_is c (omega (arith, r.slots.long, r.slots.within))) at (member_kept ok.response_routed)
