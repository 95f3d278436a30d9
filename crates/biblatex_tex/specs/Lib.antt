pub mod Results
pub mod Character
pub mod Token
pub mod TokenViews
pub mod Command
pub mod Accent
