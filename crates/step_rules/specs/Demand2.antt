-- Demand 2 of the steps: accepted exactly when the rules say so, else the first refusal in their order; and a command sent on
-- carries exactly the id and argument bytes of its packet or fault row, its source, and the destination of its route.
use Rattle.std.proofs.Math.Path.{◌≡◌}
use Rattle.std.specs.Prelude.{true, false, List, ℕ, ◌+◌, ◌*◌, ◌<◌, length, get_or, take, drop}
use Rattle.std.proofs.Math.Option.{some}
use Rattle.packet_rules.specs.Layout.{command_id}
use Rattle.packet_rules.specs.Judge.{arguments_of}
use Rattle.state.specs.declared.types.Config.{Config}
use Rattle.state.specs.declared.types.Run.{Run}
use Rattle.state.specs.Tables.{FaultRow, Tables, routed, tables_of}
use Rattle.state.specs.Rules.{member}
use Rattle.step_rules.specs.declared.types.Stepped.{Stepped}
use Rattle.step_effects.specs.FaultStates.{enabled, meant, no_row}
use Rattle.step_effects.specs.Dispatch.{dest_of}
use Rattle.step_answers.specs.Answers.{blocked}

-- ---- accepted exactly when the state keeps its rules, there is room, and the judge accepts

module _ (c : Config) (run : Run) (p : List ℕ) (room : ℕ) where
  -- ---- a dispatched packet: let past, no own id, routed; its id, its route's destination, 5 + count bytes

  pub record Dispatched (r : Stepped) : Type 0 where
    pub let_past : blocked (tables_of c).protected run.standing.arm.armed (command_id p) ≡ false
    pub is_routed : member (command_id p) (routed (tables_of c)) ≡ true
    pub id_is : r.answer.id ≡ command_id p
    pub dest_is : r.answer.dest ≡ dest_of (command_id p) (tables_of c).routes
    pub written_is : r.answer.written ≡ 5 + length (arguments_of p)

-- ---- the bytes of a command: source, id, count, arguments; later bytes stay

pub record Carries (source id : ℕ) (args before after : List ℕ) : Type 0 where
  pub source_is : get_or after 0 0 * 256 + get_or after 1 0 ≡ source
  pub id_is : get_or after 2 0 * 256 + get_or after 3 0 ≡ id
  pub count_is : get_or after 4 0 ≡ length args
  pub args_are : take (length args) (drop 5 after) ≡ args
  pub later_stay : drop (5 + length args) after ≡ drop (5 + length args) before

-- ---- a dispatched fault: its id means a row, which is enabled; that row's response, its route's destination, 5 + count bytes

module _ (c : Config) (run : Run) (f room : ℕ) where
  abbrev pub row : ℕ → FaultRow
  row k = get_or (tables_of c).rows k no_row

  pub record Responded (r : Stepped) : Type 0 where
    pub place : ℕ
    pub listed : meant (tables_of c) f ≡ some place
    pub there : place < length (tables_of c).rows
    pub its_id : (row place).id ≡ f
    pub was_enabled : get_or run.states place 0 ≡ enabled
    pub id_is : r.answer.id ≡ (row place).response
    pub dest_is : r.answer.dest ≡ dest_of (row place).response (tables_of c).routes
    pub written_is : r.answer.written ≡ 5 + length (row place).args

-- fault responses pass even for a protected id: the protected ids have no part in a fault step
abbrev pub with_protected : List ℕ → Tables → Tables
with_protected ids t = record { settings = t.settings; routes = t.routes; protected = ids; rows = t.rows }
