pub mod RuleImages
pub mod Follow
