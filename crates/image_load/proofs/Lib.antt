pub mod LoadTheorems
pub mod LoadWalk
pub mod Loading
pub mod Places
