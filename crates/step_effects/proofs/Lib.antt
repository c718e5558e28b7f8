pub mod ActLaws
pub mod CountLaws
pub mod DispatchLaws
pub mod FaultLaws
pub mod FaultStates
