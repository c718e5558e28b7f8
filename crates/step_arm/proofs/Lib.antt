pub mod ArmingLaws
