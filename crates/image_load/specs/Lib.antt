pub mod Image
pub mod LoadWalk
pub mod Places
pub mod Loading
pub mod LoadTheorems
