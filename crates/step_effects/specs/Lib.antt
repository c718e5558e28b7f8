pub mod Counters
pub mod CountLaws
pub mod Dispatch
pub mod FaultStates
pub mod FaultLaws
