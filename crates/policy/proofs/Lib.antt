mod WordLaws
pub mod BucketLaws
mod TableLaws
mod StoreLaws
pub mod WallLaws
mod AddLaws
mod ClearLaws
pub mod RuleLaws
pub mod SeniorLaws
