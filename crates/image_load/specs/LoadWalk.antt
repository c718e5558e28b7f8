-- What the loop of `load` keeps true, and its laws: it holds at the start, a good record keeps it, and each way out is the
-- load's answer.
use Rattle.std.specs.Prelude.{◌≡◌, List, [], ℕ, ◌+◌, ◌≤◌, length, replicate}
use Rattle.state.specs.declared.types.Config.{Config}
use Rattle.state.specs.Tables.{config_of, first_run}
use Rattle.image_rules.specs.Records.{Record, records_from}
use Rattle.image_load.specs.Image.{tables_of_records, last_kind, refused, load_after, load_of}
use Rattle.image_take.specs.Held.{Held}

-- the arrays hold the records before the cursor, and loading goes on from there
pub record Walked (bs : List ℕ) (c : Config) (states : List ℕ) (last place : ℕ) : Type 0 where
  pub before : List Record
  pub fuel : ℕ
  pub inside : place ≤ length bs
  pub enough : length bs ≤ fuel + place
  pub held : Held before c states
  pub last_is : last ≡ last_kind before
  pub rest : load_of bs ≡ load_after before (records_from fuel bs place)

-- columns that hold nothing
pub record Blank (c : Config) (states : List ℕ) : Type 0 where
  pub no_tables : c ≡ config_of (tables_of_records [])
  pub no_starts : states ≡ replicate 32 0

-- what reading all records came to, and the columns that it left
pub record Reads (bs : List ℕ) (n place : ℕ) (c : Config) (states : List ℕ) : Type 0 where
  pub refuses_at : (n ≡ 0 → ⊥) → refused n place ≡ load_of bs
  pub loads : n ≡ 0 → record { answer = 0; offset = 0; config = c; run = first_run states } ≡ load_of bs
