pub mod SinksWriting
pub mod TargetsTaken
