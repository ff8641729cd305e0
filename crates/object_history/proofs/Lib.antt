mod Commits
pub mod Crossing
pub mod MemberCommits
pub mod MemberRules
pub mod TwoPasses
