-- A step keeps the rules of the state: so a loop may judge its state once and go on with the inner steps.
pub use Rattle.wire.specs.Bytes.{Bytes}
